use Rattle.std.proofs.Common.{◌≡◌, ◌≤◌, ◌==◌, ℕ, Bool, true, false, true≢false, List, [], ◌∷◌, ◌++◌, length, arith, ap, sym, subst, ◌∙◌, refl}
use Rattle.rv_stmt.specs.Statement.{statement_of}
use Rattle.rv_program.specs.lemmas.LocalLines.{none-among}
use Rattle.rv_program.specs.Program.{program_of, lines_that}
use Rattle.rv_store.specs.declared.survey.Survey.{Survey}
use Rattle.rv_store.specs.internal.Appended.{TellEarlier, adds, touches, IsApart}
use Rattle.rv_store.specs.internal.Still.{uses_any}
use Rattle.rv_program.specs.internal.FirstUses.{AreFirstUses}
use Rattle.rv_program.specs.lemmas.FirstUseLaws.{uses-before}
use Rattle.rv_store.specs.internal.Ends.{ends_of}
use Rattle.rv_store.specs.internal.Surveys.{IsSurvey}
use Rattle.rv_store.proofs.AlikeLines.{no_high}
use Rattle.rv_store.proofs.ApartLines.{tell-longer}
use Rattle.rv_store.proofs.Endings.{together-before, together-all}
use Rattle.rv_store.proofs.LastLines.{shapes, shape, shapes-with, count-shapes, is-last_line, limited-with, few-without, ends-with, ends-first}
use Rattle.rv_store.proofs.StillRows.{count-places}
use Rattle.rv_store.proofs.Stores.{past_zero}
use Rattle.rv_store.proofs.last_line.last_line.Goals as goal

-- a row of which nothing is left
empty : (row : List ℕ) (none : Bool) → (none ≡ (length row == 0)) → none ≡ true → [] ≡ row
empty [] none is h = refl
empty (x ∷ xs) none is h = absurd (true≢false (sym h ∙ is ∙ past_zero (length xs)))

-- the survey is that of the lines before the last one, and that one
surveyed : (base : ℕ) (lines : List (List ℕ)) (line : List ℕ) (names : List (List ℕ)) (s : Survey) → s.lines.items ≡ lines ++ line ∷ [] → IsSurvey base (program_of s.lines.items) names s → IsSurvey base (program_of (lines ++ line ∷ [])) names s
surveyed base lines line names s whole are = subst (λ ls. IsSurvey base (program_of ls) names s) whole are

pub index-requires : goal.index-requires
index-requires c =
    let s = c.args.survey.now in
    omega (arith, c.in_ok-line.ensures.cases.1, ap length c.as_slice.ensures, s.places.ok.0, count-places c.args.base s.lines.items c.args.names.now s c.requires.survey)

pub stay_sections-requires-clause-ends_before : goal.stay_sections-requires-clause-ends_before
stay_sections-requires-clause-ends_before c =
    let s = c.args.survey.now in
    let base = c.args.base in
    let lines = c.in_ok-line.earlier.now in
    let line = c.in_ok-line.line.now in
    let whole : s.lines.items ≡ lines ++ line ∷ [] = sym c.as_slice.ensures ∙ c.in_ok-line.ensures.cases.0 in
    let few : length (lines ++ line ∷ []) ≤ 16384 = omega (arith, c.requires.few, ap length whole) in
    let are = surveyed base lines line c.args.names.now s whole c.requires.survey in
    together-before (shapes base lines line) (shape base lines line) (omega (arith, few-without base lines line c.args.names.now s few are, count-shapes base lines line)) (limited-with base lines line c.args.names.now s few are)
    c.before-before.result (ends-first base lines line c.args.names.now s few are c.index.result.now c.index.ensures c.before-before.result c.before-before.ensures)

pub stay_sections-requires-clause-ends : goal.stay_sections-requires-clause-ends
stay_sections-requires-clause-ends c =
    let s = c.args.survey.now in
    let base = c.args.base in
    let lines = c.in_ok-line.earlier.now in
    let line = c.in_ok-line.line.now in
    let whole : s.lines.items ≡ lines ++ line ∷ [] = sym c.as_slice.ensures ∙ c.in_ok-line.ensures.cases.0 in
    let few : length (lines ++ line ∷ []) ≤ 16384 = omega (arith, c.requires.few, ap length whole) in
    let are = surveyed base lines line c.args.names.now s whole c.requires.survey in
    together-all (shapes base lines line) (shape base lines line) (omega (arith, few-without base lines line c.args.names.now s few are, count-shapes base lines line)) (limited-with base lines line c.args.names.now s few are)
    s.ends (ends-with base lines line c.args.names.now s few are ∙ ap ends_of (shapes-with base lines line))

pub adds_apart-requires-clause-uses : goal.adds_apart-requires-clause-uses
adds_apart-requires-clause-uses c =
    let whole = sym c.as_slice.ensures ∙ c.in_ok-line.ensures.cases.0 in
    subst (λ ls. AreFirstUses ls c.uses.result.now) (sym c.in_tree-searched.ensures)
    (uses-before c.in_ok-line.earlier.now (c.in_ok-line.line.now ∷ []) c.uses.result.now (subst (λ ls. AreFirstUses ls c.uses.result.now) whole c.uses.ensures))

pub adds_apart-requires-clause-definitions : goal.adds_apart-requires-clause-definitions
adds_apart-requires-clause-definitions c =
    let s = c.args.survey.now in
    let lines = c.in_ok-line.earlier.now in
    let line = c.in_ok-line.line.now in
    let whole : s.lines.items ≡ lines ++ line ∷ [] = sym c.as_slice.ensures ∙ c.in_ok-line.ensures.cases.0 in
    subst (λ ls. TellEarlier ls c.args.names.now c.deref.result.now) (sym c.in_tree-searched.ensures)
    (subst (TellEarlier lines c.args.names.now) (sym c.deref.ensures.value)
    (tell-longer lines c.args.names.now s.definitions.items line (surveyed c.args.base lines line c.args.names.now s whole c.requires.survey).definitions))

-- the lines before the last one are the first ones of the items
pub in_tree-searched-requires : goal.in_tree-searched-requires
in_tree-searched-requires c = record {
  others = c.in_ok-line.line.now ∷ [];
  whole = c.requires.items ∙ sym c.as_slice.ensures ∙ c.in_ok-line.ensures.cases.0;
}

pub adds_apart-requires-clause-locals : goal.adds_apart-requires-clause-locals
adds_apart-requires-clause-locals c number i has = absurd (true≢false (sym has ∙ none-among number (statement_of c.in_ok-line.line.now).labels (sym (ap (λ b. b.local_labels) c.brief-brief.ensures) ∙ c.if-brief.false)))

pub returns : goal.returns
returns c =
    let s = c.args.survey.now in
    let base = c.args.base in
    let lines = c.in_ok-line.earlier.now in
    let line = c.in_ok-line.line.now in
    let whole : s.lines.items ≡ lines ++ line ∷ [] = sym c.as_slice.ensures ∙ c.in_ok-line.ensures.cases.0 in
    let few : length (lines ++ line ∷ []) ≤ 16384 = omega (arith, c.requires.few, ap length whole) in
    let are = surveyed base lines line c.args.names.now s whole c.requires.survey in
    let end = c.len-end.result in
    let are_lines = c.in_tree-searched.ensures in
    let added = c.in_ok-added.added in
    let apart = subst (λ ls. IsApart (program_of ls) (statement_of line) end) are_lines c.in_ok-added.ensures.apart in
    let nothing = subst (λ ls. added.any ≡ false → (name : List ℕ) → adds (program_of ls) (statement_of line) name ≡ false) are_lines c.in_ok-added.ensures.nothing in
    let users = subst (λ ls. added.users.items ≡ lines_that (uses_any (touches (program_of ls) (statement_of line) end) (program_of ls)) (length ls)) are_lines c.in_ok-added.ensures.users in
    is-last_line base lines line (limited-with base lines line c.args.names.now s few are) (few-without base lines line c.args.names.now s few are) _ s.ends s.lines.items whole
    (ends-with base lines line c.args.names.now s few are)
    (ends-first base lines line c.args.names.now s few are c.index.result.now c.index.ensures c.before-before.result c.before-before.ensures)
    (c.stay_sections.ensures c.if-not-stay_sections.false) end apart (λ number. none-among number (statement_of line).labels (sym (ap (λ b. b.local_labels) c.brief-brief.ensures) ∙ c.if-brief.false)) (no_high (statement_of line) c.brief-brief.result c.brief-brief.ensures c.if-brief-2.false) nothing
    (empty added.users.items c.is_empty.result (let count : added.users.len ≡ length added.users.items = omega (arith, added.users.ok.0) in c.is_empty.ensures ∙ ap (λ n. n == 0) count) c.if-not-is_empty.false ∙ users)
