-- A text with one line more at its end.
use Rattle.std.proofs.Common.{◌≡◌, ℕ, suc, ◌+◌, List, [], ◌∷◌, ◌++◌, length, arith, ap, sym, ◌∙◌}
use Rattle.std.proofs.lemmas.List.{map-append, length-append}
use Rattle.rv_stmt.specs.Statement.{statement_of}
use Rattle.rv_program.specs.internal.Defining.{then_also}
use Rattle.rv_program.specs.Definitions.{place_in_statement, definition_of}
use Rattle.rv_program.specs.Program.{program_of}
use Rattle.rv_store.proofs.LongerPrograms.{more, definitions-more}
use Rattle.rv_program.specs.lemmas.Programs.{length-program}

pub count-longer : (lines : List (List ℕ)) (line : List ℕ) → length (lines ++ line ∷ []) ≡ suc (length lines)
count-longer lines line = length-append lines (line ∷ []) ∙ (let e : length lines + 1 ≡ suc (length lines) = omega arith in e)

pub program-longer : (lines : List (List ℕ)) (line : List ℕ) → program_of (lines ++ line ∷ []) ≡ more (program_of lines) (statement_of line)
program-longer lines line = map-append statement_of lines (line ∷ [])

-- its last line defines what the lines before it do not
pub definitions-longer : (lines : List (List ℕ)) (line : List ℕ) → then_also (definition_of (program_of lines)) (place_in_statement (length lines + 1) (statement_of line)) ≡ definition_of (program_of (lines ++ line ∷ []))
definitions-longer lines line =
    let place : length lines + 1 ≡ suc (length (program_of lines)) = omega (arith, length-program lines) in
    ap (λ k. then_also (definition_of (program_of lines)) (place_in_statement k (statement_of line))) place
    ∙ sym (definitions-more (program_of lines) (statement_of line))
    ∙ ap definition_of (sym (program-longer lines line))
