-- A line at the end of some lines: where it lies.
use Rattle.std.proofs.Common.{◌==◌, nat_lt, insert, Some, None, if◌then◌else◌, ◌≡◌, ℕ, suc, ◌+◌, ◌-◌, ◌^◌, ◌<◌, ◌≤◌, ◌||◌, true, false, List, [], ◌∷◌, ◌++◌, length, take, slice_index, arith, ap, sym, subst, ◌∙◌, refl}
use Rattle.std.proofs.lemmas.Bool.{lt-ltb, le-ltb, eq-eqb, ne_eqb}
use Rattle.std.proofs.lemmas.List.{length-append}
use Rattle.std.proofs.lemmas.List.Edits.{insert_end}
use Rattle.std.proofs.Math.Seq.{get_or-append_seam, take-append_seam}
use Rattle.rv_stmt.specs.declared.statement.Stmt.{Stmt}
use Rattle.rv_stmt.specs.Statement.{statement_of}
use Rattle.rv_layout.specs.PlaceLaws.{part_limited}
use Rattle.rv_layout.specs.declared.measured.Measured.{Measured}
use Rattle.rv_layout.specs.declared.measured.Measured.TheVariants.{Nothing}
use Rattle.rv_layout.specs.Places.{sum_below, section_base_of, is_base, IsLimited, AreLimited}
use Rattle.rv_layout.specs.Sections.{sections, section_number}
use Rattle.rv_store.specs.declared.ends.Ends.{Ends}
use Rattle.rv_store.specs.declared.still.Still.{Still}
use Rattle.rv_store.specs.internal.Appended.{adds, touches, IsApart, shape_at_end, StaySections}
use Rattle.rv_store.specs.internal.Ends.{ends_of, ends_after, end_in, base_by_ends, next_offset, next_place, place_by_shapes}
use Rattle.rv_program.specs.Layout.{shape_at, shapes_of, place_at}
use Rattle.rv_program.specs.Program.{Program, program_of, lines_that}
use Rattle.rv_program.specs.References.{equ_value}
use Rattle.rv_program.specs.internal.Rows.{AreShapes}
use Rattle.rv_program.specs.internal.Still.{set_or_push}
use Rattle.rv_program.specs.internal.Work.{high_operands}
use Rattle.rv_store.specs.internal.Still.{uses_any, is_put_or_uses, IsStill, IsPutEdit}
use Rattle.rv_store.specs.internal.StillLines.{high_section, IsStillLine}
use Rattle.rv_store.specs.internal.Waiting.{KeepsHighs, AreBare}
use Rattle.rv_program.specs.Text.{Insert}
use Rattle.rv_store.proofs.AppendLaws.{end-still}
use Rattle.rv_store.proofs.EndBases.{ends-together, base-ends}
use Rattle.rv_store.proofs.LongerPrograms.{more, shape-last, shapes-more}
use Rattle.rv_store.proofs.LongerTexts.{program-longer}
use Rattle.rv_program.specs.lemmas.LineRows.{lines_that-same}
use Rattle.rv_store.proofs.StillLaws.{equ_value-still}
use Rattle.rv_store.proofs.StillTexts.{end-set_or_push}
use Rattle.rv_program.specs.lemmas.Programs.{length-for_lines, length-program}
use Rattle.rv_store.proofs.ShapeRows.{limited-push}
use Rattle.rv_store.proofs.EndLaws.{PlaceFits, ends_of-push, bases-AreBases, next-short, next_place-is, next_place-fits}

-- the ends with it
pub ends-with : (ms : List Measured) (m : Measured) (before after : Ends) → before ≡ ends_of ms → after ≡ ends_after before m → after ≡ ends_of (ms ++ m ∷ [])
ends-with ms m before after is more = more ∙ ap (λ e. ends_after e m) is ∙ sym (ends_of-push ms m)

module _ (ms : List Measured) (m : Measured) (few : length ms < 16384) (limited : AreLimited (ms ++ m ∷ [])) where
  limited-before : AreLimited ms
  limited-before = subst AreLimited (take-append_seam ms (m ∷ [])) (part_limited (length ms) (ms ++ m ∷ []) limited)

  pub few-all : length (ms ++ m ∷ []) ≤ 16384
  few-all = omega (arith, few, length-append ms (m ∷ []))

  -- the ends before it
  module _ (before : Ends) (is : before ≡ ends_of ms) where
    pub together-before : sum_below (end_in before) sections ≤ 2 ^ 30
    together-before =
        subst (λ e. sum_below (end_in e) sections ≤ 2 ^ 30) (sym is) (ends-together ms limited-before (omega (arith, few)))

    ends-before : before ≡ ends_of (take (length ms) (ms ++ m ∷ []))
    ends-before = is ∙ ap ends_of (sym (take-append_seam ms (m ∷ [])))

    pub short-before : next_offset before ≤ 2 ^ 30
    short-before =
        subst (λ e. next_offset e ≤ 2 ^ 30) (sym ends-before) (next-short (ms ++ m ∷ []) (length ms) few-all limited)

    -- the bases of the sections with it
    module _ (base : ℕ) (based : is_base base ≡ true) (after : Ends) (all : after ≡ ends_of (ms ++ m ∷ [])) (bases : List ℕ) (begin : (t : ℕ) → t < sections → slice_index bases t ≡ base_by_ends base after t) where
      pub place-fits : slice_index bases (section_number before.section) + next_offset before < 2 ^ 32
      place-fits =
          let are = bases-AreBases base (ms ++ m ∷ []) after bases all begin in
          let fits = next_place-fits base (ms ++ m ∷ []) (length ms) bases based few-all limited are in
          (subst (PlaceFits bases) (sym ends-before) fits).address

      pub place-is : next_place bases before m ≡ place_by_shapes base (ms ++ m ∷ []) (suc (length ms))
      place-is =
          let are = bases-AreBases base (ms ++ m ∷ []) after bases all begin in
          ap (λ e. next_place bases e m) ends-before
          ∙ next_place-is base (ms ++ m ∷ []) (length ms) m bases are (sym (get_or-append_seam ms m [] Nothing))

  pub together-all : (after : Ends) → after ≡ ends_of (ms ++ m ∷ []) → sum_below (end_in after) sections ≤ 2 ^ 30
  together-all after is =
      subst (λ e. sum_below (end_in e) sections ≤ 2 ^ 30) (sym is) (ends-together (ms ++ m ∷ []) limited few-all)

-- Other lines have to do with it by the names that it adds and its local labels alone, if no section moves
pub ending-line : (base : ℕ) (lines : List (List ℕ)) (line : List ℕ) (from : ℕ) (shapes : List Measured) (before : Ends) (given : Still) (due : List ℕ) → AreShapes (program_of lines) shapes → AreLimited shapes → length lines < 16384
    → IsApart (program_of lines) (statement_of line) from → (given.defines ≡ false → (name : List ℕ) → adds (program_of lines) (statement_of line) name ≡ false)
    → given.shape ≡ shape_at_end (program_of lines) (statement_of line) → IsLimited given.shape → before ≡ ends_of shapes → given.ends ≡ ends_of (shapes ++ given.shape ∷ [])
    → ((t : ℕ) → t < sections → base_by_ends base given.ends t ≡ base_by_ends base before t) → given.place ≡ place_by_shapes base (shapes ++ given.shape ∷ []) (suc (length shapes))
    → (given.place ≡ place_at base (more (program_of lines) (statement_of line)) (suc (length (program_of lines))) → KeepsHighs base (program_of lines) (more (program_of lines) (statement_of line)) (suc (length (program_of lines))) (high_section given))
    → ((first : ℕ) → given.waiting ≡ Some first → (AreBare (program_of lines) (section_number given.place.section) first) × (high_operands (statement_of line).body ≡ 1))
    → due ≡ lines_that (uses_any (touches (program_of lines) (statement_of line) from) (program_of lines)) (length lines) → IsStillLine base lines (length lines + 1) line given due
ending-line base lines line from shapes before given due are limited few apart nothing shape limited_end is all stay place keeps waiting those =
    let p : Program = program_of lines in
    let s : Stmt = statement_of line in
    let from_program : length p ≡ length lines = length-program lines in
    let count : length shapes ≡ length lines = ap length are ∙ length-for_lines (shape_at p) (length p) ∙ from_program in
    let limited_all : AreLimited (shapes ++ given.shape ∷ []) = limited-push shapes given.shape limited limited_end in
    let few_all : length (shapes ++ given.shape ∷ []) ≤ 16384 = few-all shapes given.shape (omega (arith, count, few)) limited_all in
    let rows : shapes ++ given.shape ∷ [] ≡ shapes_of (more p s) = (λ i. are i ++ shape i ∷ []) ∙ sym (shapes-more p s) in
    let stays : StaySections base p given.shape = λ t l.
    ap (λ ms. section_base_of base (ms ++ given.shape ∷ []) t) (sym are)
    ∙ sym (base-ends base (shapes ++ given.shape ∷ []) t l)
    ∙ ap (λ e. base_by_ends base e t) (sym all)
    ∙ stay t l
    ∙ ap (λ e. base_by_ends base e t) is
    ∙ base-ends base shapes t l
    ∙ ap (λ ms. section_base_of base ms t) are in
    let still = end-still p s from apart base (subst (StaySections base p) shape stays) in
    let number : suc (length p) ≡ length lines + 1 = omega (arith, from_program) in
    let after : more p s ≡ program_of (set_or_push lines (length lines + 1 - 1) line) =
    sym (program-longer lines line) ∙ ap program_of (end-set_or_push lines (length lines + 1 - 1) line (omega arith)) in
    let lies : given.place ≡ place_at base (more p s) (suc (length p)) =
    place ∙ (λ i. place_by_shapes base (rows i) (suc (length shapes))) ∙ ap (place_by_shapes base (shapes_of (more p s))) (ap suc (count ∙ sym from_program)) in
    record {
      touched = touches p s from;
      still = subst (λ r. IsStill base p r (length lines + 1) (touches p s from)) after (subst (λ n. IsStill base p (more p s) n (touches p s from)) number still);
      shape = shape ∙ sym (shape-last p s) ∙ (λ j. shape_at (after j) (number j));
      limited = limited_end;
      ends = all ∙ ap ends_of rows ∙ ap (λ r. ends_of (shapes_of r)) after;
      place = lies ∙ (λ j. place_at base (after j) (number j));
      nothing = nothing;
      highs = subst (λ r. KeepsHighs base p r (length lines + 1) (high_section given)) after (subst (λ n. KeepsHighs base p (more p s) n (high_section given)) number (keeps lies));
      waiting = waiting;
      those = those ∙ lines_that-same (is_put_or_uses (touches p s from) p (length lines + 1)) (uses_any (touches p s from) p) (length lines)
          (λ i less. ap (λ b. b || uses_any (touches p s from) p (suc i)) (sym (ne_eqb (suc i) (length lines + 1) (λ e. omega (arith, e, less)))));
      last = λ defines. (
        omega arith,
        ap (λ r. equ_value base r (length lines)) (program-longer lines line) ∙ equ_value-still still (length lines) (omega (arith, from_program)),
      );
    }

-- an edit puts it there
pub inserted-put : (lines : List (List ℕ)) (k : ℕ) (line : List ℕ) → k ≡ length lines + 1 → IsPutEdit lines (Insert k line) k line
inserted-put lines k line at_end =
    let place : k - 1 ≡ length lines = omega (arith, at_end) in
    let no : nat_lt k k ≡ false = le-ltb k k (omega arith) in
    let yes : (k == k) ≡ true = eq-eqb k k refl in
    record {
      edited = ap (λ i. insert lines i line) place ∙ insert_end lines line ∙ end-set_or_push lines (k - 1) line place;
      new = λ j. if no j then Some k else (if yes j then None else Some (k - 1));
      others = λ i to differs.
          let below : nat_lt i k ≡ true = lt-ltb i k (omega (arith, to, at_end)) in λ j. if below j then Some i else (if i == k then None else Some (i - 1));
    }
