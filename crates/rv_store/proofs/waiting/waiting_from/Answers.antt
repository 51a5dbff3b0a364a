use Rattle.std.proofs.Common.{◌≡◌, ℕ, ◌-◌, ◌<◌, ◌≤◌, ◌⊎◌, inl, inr, ◌==◌, not, true, false, true≢false, List, length, get_or, arith, ap, sym, subst, ◌∙◌}
use Rattle.std.proofs.lemmas.Bool.{cases_lt, eq-eqb, ne_eqb, and_left, and_right, and_from, not_from_false, not_from_true}
use Rattle.rv_stmt.specs.Statement.{statement_of}
use Rattle.rv_layout.specs.Sections.{section_number}
use Rattle.rv_program.specs.Layout.{section_at, size_at}
use Rattle.rv_program.specs.Pairs.{has_bytes_in}
use Rattle.rv_program.specs.Program.{program_of, statement_at}
use Rattle.rv_program.specs.internal.FirstUses.{Firsts, AreFirstUses}
use Rattle.rv_program.specs.lemmas.Programs.{length-program}
use Rattle.rv_program.specs.lemmas.TextLines.{statement_of_line, place_of_line, length_of_places}
use Rattle.rv_store.specs.internal.Waiting.{IsUnused, AreWaiting}
use Rattle.rv_store.proofs.waiting.waiting_from.Goals.{then-section_number-section+else-there-ne0+else-not-is_unused, else-section_number-section}
use Rattle.rv_store.proofs.waiting.waiting_from.Goals as goal

-- the lines behind the first ones wait
are_waiting : (lines : List (List ℕ)) (section first : ℕ) (firsts : Firsts) → AreFirstUses lines firsts → first ≤ length lines → (1 ≤ first → has_bytes_in (program_of lines) section first ≡ true)
    → ((j : ℕ) → first < j → j ≤ length lines → has_bytes_in (program_of lines) section j ≡ false)
    → ((j : ℕ) → first < j → j ≤ length lines → (section_number (section_at (program_of lines) j) == section) ≡ true → IsUnused firsts (length lines) (statement_at (program_of lines) j)) → AreWaiting lines section first
are_waiting lines section first firsts uses last before none unused = record {
  firsts = firsts;
  uses = uses;
  bare = record {
    last = omega (arith, last, length-program lines);
    before = before;
    none = λ i past to. none i past (omega (arith, to, length-program lines));
  };
  unused = unused;
}

-- one line more
next : (P : ℕ → Type 0) (i n : ℕ) → 1 ≤ i → i ≤ n → P i → ((j : ℕ) → i < j → j ≤ n → P j) → (j : ℕ) → i - 1 < j → j ≤ n → P j
next P i n first last here later j past to = at (cases_lt i j)
  where
    at : (i < j) ⊎ (j ≤ i) → P j
    at (inl above) = later j above to
    at (inr below) = subst P (let same : i ≡ j = omega (arith, below, past, first) in same) here

pub index-there-requires : goal.index-there-requires
index-there-requires c =
    let s = c.args.survey.now in
    let places = length_of_places c.requires.0 s.lines.items s.places.items c.requires.1 in
    let within = c.lines.invariant.within in
    omega (arith, c.lines-test.true, within, places, s.places.ok.0)

pub returns-then-there-ne0-clause-waiting : goal.returns-then-there-ne0-clause-waiting
returns-then-there-ne0-clause-waiting c =
    let s = c.args.survey.now in
    let i = c.lines.i in
    let lines = s.lines.items in
    let t = c.section_number-section.result in
    let place = c.index-there.ensures ∙ place_of_line c.requires.0 lines s.places.items i c.index-there.result.now c.requires.1 (omega (arith, c.lines-test.true)) c.lines.invariant.within in
    let section : section_number (section_at (program_of lines) i) ≡ t =
    ap (λ l. section_number l.section) (sym place) ∙ sym c.section_number.ensures.value ∙ omega (arith, c.if-section_number-section.true) in
    let size : (size_at (program_of lines) i == 0) ≡ false = ap (λ l. l.size == 0) (sym place) ∙ ne_eqb c.index-there.result.now.size 0 (λ e. omega (arith, e, c.if-there-ne0.true)) in
    let bytes : has_bytes_in (program_of lines) t i ≡ true = and_from (section_number (section_at (program_of lines) i) == t) (not (size_at (program_of lines) i == 0)) (eq-eqb _ _ section) (not_from_false _ size) in
    subst (λ n. AreWaiting lines n i) c.section_number-section.ensures.value
    (are_waiting lines t i c.uses-uses.result.now c.uses-uses.ensures c.lines.invariant.within (λ first. bytes) c.lines.invariant.none c.lines.invariant.unused)

pub returns-clause-waiting : goal.returns-clause-waiting
returns-clause-waiting c =
    let lines = c.args.survey.now.lines.items in
    let none : c.lines.i ≡ 0 = omega (arith, c.lines-test.false) in
    subst (λ n. AreWaiting lines n 0) c.section_number-section.ensures.value
    (subst (AreWaiting lines c.section_number-section.result) none
    (are_waiting lines c.section_number-section.result c.lines.i c.uses-uses.result.now c.uses-uses.ensures c.lines.invariant.within (λ first. absurd (omega (arith, first, none))) c.lines.invariant.none c.lines.invariant.unused))

pub lines-preserved : goal.lines-preserved
lines-preserved c =
    let s = c.args.survey.now in
    let i = c.lines.i in
    let lines = s.lines.items in
    let p = program_of lines in
    let t = c.section_number-section.result in
    let first : 1 ≤ i = omega (arith, c.lines-test.true) in
    let within = c.lines.invariant.within in
    let place = c.index-there.ensures ∙ place_of_line c.requires.0 lines s.places.items i c.index-there.result.now c.requires.1 first within in
    let section = ap (λ l. section_number l.section) (sym place) ∙ sym c.section_number.ensures.value in
    let size = ap (λ l. l.size) (sym place) in
    record {
      within = omega (arith, within);
      none = next (λ j. has_bytes_in p t j ≡ false) i (length lines) first within
          (elim c.if-section_number-section.branch [
            | then-section_number-section+else-there-ne0+else-not-is_unused w ↦
                and_right (section_number (section_at p i) == t) (not (size_at p i == 0)) (not_from_true (size_at p i == 0) (eq-eqb (size_at p i) 0 (size ∙ omega (arith, w.if-there-ne0.false))))
            | else-section_number-section w ↦
                and_left (section_number (section_at p i) == t) (not (size_at p i == 0)) (ne_eqb (section_number (section_at p i)) t (λ e. omega (arith, e, section, w.if-section_number-section.false)))
          ])
          c.lines.invariant.none;
      unused = next (λ j. (section_number (section_at p j) == t) ≡ true → IsUnused c.uses-uses.result.now (length lines) (statement_at p j)) i (length lines) first within
          (elim c.if-section_number-section.branch [
            | then-section_number-section+else-there-ne0+else-not-is_unused w ↦ λ h.
                let statement = statement_of_line lines i w.index-lines-i.result within first (w.index-lines-i.is ∙ ap (λ ls. get_or ls (i - 1) w.index-lines-i.result) c.as_slice-lines.ensures) in
                subst (IsUnused c.uses-uses.result.now (length lines)) (sym statement)
                (subst (λ n. IsUnused c.uses-uses.result.now n (statement_of w.index-lines-i.result)) (ap length c.as_slice-lines.ensures) (w.is_unused.ensures w.if-not-is_unused.false))
            | else-section_number-section w ↦ λ h.
                absurd (true≢false (sym h ∙ ne_eqb (section_number (section_at p i)) t (λ e. omega (arith, e, section, w.if-section_number-section.false))))
          ])
          c.lines.invariant.unused;
    }
