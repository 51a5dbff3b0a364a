-- What a symbol is, by the rows of its text.
use Rattle.std.proofs.Common.{◌≡◌, ℕ, zero, suc, ◌+◌, ◌≤◌, List, length, ap, sym, ◌∙◌, refl, subst, arith, Some, None, Err}
use Rattle.std.specs.Prelude.{true}
use Rattle.std.specs.Result.{result_ok}
use Rattle.std.proofs.lemmas.Bool.{eq-eqb}
use Rattle.rv_expr.specs.declared.faults.ValueFault.TheVariants.{LaterEqu}
use Rattle.rv_stmt.specs.declared.statement.Body.TheVariants.{Equ as EquBody}
use Rattle.rv_fix.specs.Values.{Entry}
use Rattle.rv_list.specs.declared.view.DefinitionPlace.TheVariants.{Nowhere, Label as ByLabel, Equ as ByEqu}
use Rattle.rv_list.specs.declared.view.LinePlace.{LinePlace}
use Rattle.rv_store.specs.declared.symbols.SymValue.TheVariants.{Label, Equ}
use Rattle.rv_program.specs.Constants.{defined_value}
use Rattle.rv_program.specs.Definitions.{definition_of, is_equ_on}
use Rattle.rv_program.specs.Program.{Program, body_at}
use Rattle.rv_program.specs.References.{references_at}
use Rattle.rv_program.specs.internal.Rows.{in_row, AreEquValues, ArePlaces}
use Rattle.rv_store.specs.Symbols.{symbol_by, symbol_of, equ_value_by, equ_value_of}
use Rattle.rv_program.specs.internal.TextRows.{address_in}
use Rattle.rv_program.specs.lemmas.ConstantRows.{IsEquOf, is_equ_of, equ-defines}
use Rattle.rv_program.specs.lemmas.DefinitionLaws.{IsWithin, definition-within}
use Rattle.rv_program.specs.lemmas.EquLaws.{equ_value-in_row}
use Rattle.rv_program.specs.lemmas.LineNameLaws.{address_in-is}

pub symbol-nowhere : (base : ℕ) (program : Program) (name : List ℕ) → definition_of program name ≡ Nowhere → None ≡ symbol_of base program name
symbol-nowhere base program name h = sym (ap (symbol_by base program) h)

pub symbol-label : (base : ℕ) (program : Program) (places : List LinePlace) (name : List ℕ) (line index : ℕ) → ArePlaces base program places → definition_of program name ≡ ByLabel line index → Some (Label (address_in places line)) ≡ symbol_of base program name
symbol-label base program places name line index are h =
    let within : IsWithin 1 (1 + length program) (ByLabel line index) = subst (IsWithin 1 (1 + length program)) h (definition-within program name) in
    ap (λ a. Some (Label a)) (address_in-is base program places line are within.0 (omega (arith, within.1)))
    ∙ sym (ap (symbol_by base program) h)

-- the value of an `.equ` by its symbol
pub equ-in_row : (base : ℕ) (program : Program) (names : List (List ℕ)) (row : List Entry) (name : List ℕ) (line : ℕ) → AreEquValues base program (length program) names row → definition_of program name ≡ ByEqu line → result_ok (in_row names row (Err LaterEqu) name) ≡ equ_value_of base program name
equ-in_row base program names row name zero are h =
    let within : IsWithin 1 (1 + length program) (ByEqu 0) = subst (IsWithin 1 (1 + length program)) h (definition-within program name) in
    absurd (let no : 1 ≤ 0 = within.0 in omega (arith, no))
equ-in_row base program names row name (suc i) are h = by (equ-defines program i name defines)
  where
    defines : is_equ_on (suc i) (definition_of program name) ≡ true
    defines = ap (is_equ_on (suc i)) h ∙ eq-eqb (suc i) (suc i) refl

    within : IsWithin 1 (1 + length program) (ByEqu (suc i))
    within = subst (IsWithin 1 (1 + length program)) h (definition-within program name)

    by : IsEquOf (body_at program (suc i)) name → result_ok (in_row names row (Err LaterEqu) name) ≡ equ_value_of base program name
    by (is_equ_of d here same) =
        let first : is_equ_on (suc i) (definition_of program d.symbol) ≡ true = ap (λ m. is_equ_on (suc i) (definition_of program m)) same ∙ defines in
        let value : in_row names row (Err LaterEqu) d.symbol ≡ defined_value (references_at base program (suc i)) (EquBody d) =
        equ_value-in_row base program (length program) names row (suc i) d (omega arith) (omega (arith, within.1)) here first are in
        let its : in_row names row (Err LaterEqu) name ≡ defined_value (references_at base program (suc i)) (body_at program (suc i)) =
        ap (in_row names row (Err LaterEqu)) (sym same) ∙ value ∙ ap (defined_value (references_at base program (suc i))) (sym here) in
        ap result_ok its ∙ sym (ap (equ_value_by base program) h)

pub symbol-equ : (base : ℕ) (program : Program) (name : List ℕ) (line : ℕ) → definition_of program name ≡ ByEqu line → Some (Equ (equ_value_of base program name)) ≡ symbol_of base program name
symbol-equ base program name line h =
    ap (λ place. Some (Equ (equ_value_by base program place))) h ∙ sym (ap (symbol_by base program) h)
