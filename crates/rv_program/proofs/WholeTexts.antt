-- The rows of a whole text, with one line more.
use Rattle.std.proofs.Common.{◌≡◌, ℕ, suc, ◌+◌, ◌<◌, Bool, true, false, [], ◌∷◌, ◌++◌, length, take, get_or, if◌then◌else◌, arith, ap, sym, ◌∙◌}
use Rattle.std.proofs.Math.Path.{fun_ext}
use Rattle.std.proofs.Math.Seq.{take-suc}
use Rattle.std.proofs.lemmas.List.{append-nil, length-take-le}
use Rattle.rv_stmt.specs.declared.statement.Stmt.{Stmt}
use Rattle.rv_list.specs.declared.view.DefinitionPlace.{DefinitionPlace}
use Rattle.rv_list.specs.declared.view.DefinitionPlace.TheVariants.{Nowhere, Label as ByLabel, Equ}
use Rattle.rv_program.specs.internal.Defining.{or_here, also_on}
use Rattle.rv_program.specs.internal.Locals.{with_last}
use Rattle.rv_program.specs.Definitions.{or_place, place_in_statement, definition_of}
use Rattle.rv_program.specs.Program.{Program, lines_that}
use Rattle.rv_program.specs.lemmas.DefinitionLaws.{IsWithin, definition-within}
use Rattle.rv_program.specs.lemmas.DefinitionRows.{or_place-nowhere, here-kept, within-up}
use Rattle.rv_program.specs.lemmas.LocalLines.{first-below}
use Rattle.rv_program.specs.lemmas.MovedDefinitionLaws.{first-append}

-- what the lines before a line define comes first
behind : (n : ℕ) (earlier here : DefinitionPlace) → IsWithin 1 (1 + n) earlier → or_here (n + 1) earlier here ≡ or_place earlier here
behind n Nowhere here within = or_place-nowhere here
behind n (ByLabel l index) here within = here-kept (n + 1) (ByLabel l index) here (within-up l (n + 1) (omega (arith, within.1)))
behind n (Equ l) here within = here-kept (n + 1) (Equ l) here (within-up l (n + 1) (omega (arith, within.1)))

-- with what a line defines
pub definitions-next : (program : Program) (i : ℕ) (s : Stmt) → i < length program → s ≡ get_or program i s → also_on (i + 1) (definition_of (take i program)) (place_in_statement (i + 1) s) ≡ definition_of (take (i + 1) program)
definitions-next program i s within is =
    let before = take i program in
    let count : length before ≡ i = length-take-le i program (omega (arith, within)) in
    let place : 1 + length before ≡ i + 1 = omega (arith, count) in
    let next : suc i ≡ i + 1 = omega arith in
    let whole : take (i + 1) program ≡ before ++ s ∷ [] =
    ap (λ n. take n program) (sym next) ∙ take-suc program i s within ∙ ap (λ x. before ++ x ∷ []) (sym is) in
    fun_ext (λ name.
    ap (λ n. or_here (n + 1) (definition_of before name) (place_in_statement (i + 1) s name)) (sym count)
    ∙ behind (length before) (definition_of before name) (place_in_statement (i + 1) s name) (definition-within before name)
    ∙ sym (ap (or_place (definition_of before name)) (or_place-nowhere (place_in_statement (1 + length before) s name) ∙ ap (λ n. place_in_statement n s name) place))
    ∙ sym (first-append 1 before (s ∷ []) name)
    ∙ ap (λ p. definition_of p name) (sym whole))

-- with a line that has a local label, or not
pub locals-next : (test : ℕ → Bool) (i : ℕ) (b : Bool) → b ≡ test (suc i) → with_last (i + 1) b (lines_that test i) ≡ lines_that test (i + 1)
locals-next test i b is =
    let next : i + 1 ≡ suc i = omega arith in
    ap (λ n. with_last n b (lines_that test i)) next ∙ at b
    ∙ ap (λ t. lines_that test i ++ (if t then suc i ∷ [] else [])) is ∙ ap (lines_that test) (sym next)
  where
    at : (b : Bool) → with_last (suc i) b (lines_that test i) ≡ lines_that test i ++ (if b then suc i ∷ [] else [])
    at true = ap (λ ls. ls ++ suc i ∷ []) (first-below test (suc i) i (omega arith))
    at false = sym (append-nil (lines_that test i))
