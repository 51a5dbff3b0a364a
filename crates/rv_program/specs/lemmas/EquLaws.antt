-- The values of `.equ`s, line by line, and the row of them.
use Rattle.std.proofs.Common.{◌≡◌, ℕ, zero, suc, ◌+◌, ◌-◌, ◌<◌, ◌≤◌, true, false, List, length, set, replicate, if◌then◌else◌, Some, Err, arith, ap, sym, ◌∙◌}
use Rattle.std.proofs.lemmas.List.{length-set, length-replicate}
use Rattle.rv_expr.specs.declared.faults.ValueFault.TheVariants.{LaterEqu}
use Rattle.rv_expr.specs.Value.{Environment}
use Rattle.rv_stmt.specs.declared.directive.Definition.{Definition}
use Rattle.rv_stmt.specs.declared.statement.Body.TheVariants.{Equ as EquBody}
use Rattle.rv_fix.specs.Values.{Entry}
use Rattle.rv_list.specs.declared.view.DefinitionPlace.TheVariants.{Equ}
use Rattle.rv_program.specs.Constants.{defined_value}
use Rattle.rv_program.specs.Definitions.{definition_of, is_equ_on}
use Rattle.rv_program.specs.internal.LinesWithout.{AreWithout}
use Rattle.rv_program.specs.Program.{Program, body_at}
use Rattle.rv_program.specs.References.{names_on, no_pairs, equ_value, symbol_through, usable_equs, references_at}
use Rattle.rv_program.specs.internal.Rows.{number_of, in_row, AreEquValues}
use Rattle.rv_program.specs.Uses.{is_equ}
use Rattle.rv_program.specs.lemmas.ConstantLaws.{equ-stays}
use Rattle.rv_program.specs.lemmas.ConstantRows.{all-kept, others-kept}
use Rattle.rv_program.specs.lemmas.DefinitionLaws.{is_equ_on-true}
use Rattle.rv_program.specs.lemmas.NameRows.{row-set, row-empty}
use Rattle.rv_program.specs.lemmas.Programs.{kept-past}

-- what names give in the expressions of line i + 1, where the `.equ`s of the first i lines may be used
abbrev pub references_after : (base : ℕ) → Program → (i : ℕ) → Environment
references_after base program i = names_on base program (suc i) (symbol_through base program i) no_pairs

-- The value of one `.equ`

-- on the line that defines the name
pub equ_value-here : (base : ℕ) (program : Program) (i : ℕ) (name : List ℕ) → is_equ_on (suc i) (definition_of program name) ≡ true → equ_value base program (suc i) name ≡ defined_value (references_after base program i) (body_at program (suc i))
equ_value-here base program i name e =
    ap (λ t. if t then defined_value (references_after base program i) (body_at program (suc i)) else equ_value base program i name) e

-- and on any other
pub equ_value-kept : (base : ℕ) (program : Program) (i : ℕ) (name : List ℕ) → is_equ_on (suc i) (definition_of program name) ≡ false → equ_value base program (suc i) name ≡ equ_value base program i name
equ_value-kept base program i name e =
    ap (λ t. if t then defined_value (references_after base program i) (body_at program (suc i)) else equ_value base program i name) e

-- from its line on it stays the same
pub equ_value-stays : (base : ℕ) (program : Program) (name : List ℕ) (line j k : ℕ) → definition_of program name ≡ Equ line → line ≤ j → j ≤ k → equ_value base program k name ≡ equ_value base program j name
equ_value-stays base program = equ-stays (equ_value base program) program (equ_value-kept base program)

-- The row of the values

-- a line that defines no symbol by an `.equ` leaves the values
pub equ_values-kept : (base : ℕ) (program : Program) (i : ℕ) (names : List (List ℕ)) (row : List Entry) → ((d : Definition) → body_at program (suc i) ≡ EquBody d → is_equ_on (suc i) (definition_of program d.symbol) ≡ false) → AreEquValues base program i names row → AreEquValues base program (i + 1) names row
equ_values-kept base program i names row none are = record {
  each = are.each ∙ sym (all-kept program i (equ_value base program (suc i)) (equ_value base program i) (equ_value-kept base program i) none) ∙ ap (equ_value base program) (let next : suc i ≡ i + 1 = omega arith in next);
  within = are.within;
}

-- a line that defines one puts its value into the row
pub equ_values-set : (base : ℕ) (program : Program) (i : ℕ) (names : List (List ℕ)) (row : List Entry) (d : Definition) (n : ℕ) (value : Entry) → body_at program (suc i) ≡ EquBody d → is_equ_on (suc i) (definition_of program d.symbol) ≡ true → number_of names d.symbol ≡ Some n → n < length row → value ≡ defined_value (references_after base program i) (EquBody d) → AreEquValues base program i names row → AreEquValues base program (i + 1) names (set row n value)
equ_values-set base program i names row d n value here defines number within is are = record {
  each = row-set names row (Err LaterEqu) d.symbol n value (equ_value base program (suc i)) number within
      (is ∙ ap (defined_value (references_after base program i)) (sym here) ∙ sym (equ_value-here base program i d.symbol defines))
      (λ m differs. ap (λ f. f m) are.each ∙ sym (others-kept program i (equ_value base program (suc i)) (equ_value base program i) (equ_value-kept base program i) d here m differs))
      ∙ ap (equ_value base program) (let next : suc i ≡ i + 1 = omega arith in next);
  within = rw length-set are.within;
}

-- before the first line there are no values
pub equ_values-none : (base : ℕ) (program : Program) (names : List (List ℕ)) → AreEquValues base program 0 names (replicate (length names) (Err LaterEqu))
equ_values-none base program names = record {
  each = row-empty names (Err LaterEqu) (length names);
  within = omega (arith, length-replicate {A = Entry});
}

-- for the symbol of an `.equ` that is its definition, the row holds what the `.equ` defines
pub equ_value-in_row : (base : ℕ) (program : Program) (k : ℕ) (names : List (List ℕ)) (row : List Entry) (i : ℕ) (d : Definition) → 1 ≤ i → i ≤ k → body_at program i ≡ EquBody d → is_equ_on i (definition_of program d.symbol) ≡ true → AreEquValues base program k names row → in_row names row (Err LaterEqu) d.symbol ≡ defined_value (references_at base program i) (EquBody d)
equ_value-in_row base program k names row zero d first last here defines are =
    absurd (let no : 1 ≤ 0 = first in omega (arith, no))
equ_value-in_row base program k names row (suc i) d first last here defines are =
    let usable : usable_equs program (suc i) (body_at program (suc i)) ≡ i = ap (usable_equs program (suc i)) here ∙ (let e : suc i - 1 ≡ i = omega arith in e) in
    ap (λ f. f d.symbol) are.each
    ∙ equ_value-stays base program d.symbol (suc i) (suc i) k (is_equ_on-true (suc i) (definition_of program d.symbol) defines) (omega arith) last
    ∙ equ_value-here base program i d.symbol defines
    ∙ ap (λ u. defined_value (names_on base program (suc i) (symbol_through base program u) no_pairs) (body_at program (suc i))) (sym usable)
    ∙ ap (defined_value (references_at base program (suc i))) here

-- lines without an `.equ` leave the row
pub equ_values-past : (base : ℕ) (program : Program) (i j : ℕ) (names : List (List ℕ)) (row : List Entry) → i ≤ j → AreWithout is_equ program i j → AreEquValues base program i names row → AreEquValues base program j names row
equ_values-past base program i j names row up passed =
    kept-past (λ k. AreEquValues base program k names row) i j up
    (λ k first last. equ_values-kept base program k names row (λ d is. absurd (let no : true ≡ false = sym (ap is_equ is) ∙ passed.each k first last in cc)))
