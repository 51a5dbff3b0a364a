-- Two environments that give the same but for some symbols, and maybe local labels. What a line gives is the same in both, where it uses
-- none of those symbols, and local labels only where they give the same.
use Rattle.std.proofs.Common.{◌≡◌, ℕ, Bool, true, false, List, [], ◌∷◌, map, Option, Some, None, Ok, if◌then◌else◌, ap, sym, ◌∙◌, refl}
use Rattle.std.specs.List.{list_any, flat_map}
use Rattle.std.specs.Option.{is_some}
use Rattle.std.proofs.lemmas.Bool.{or_parts, or_left, or_right}
use Rattle.std.proofs.lemmas.List.Folds.{list_any-append}
use Rattle.rv_expr.specs.declared.tree.LabelReference.{LabelReference}
use Rattle.rv_expr.specs.Tree.{Tree}
use Rattle.rv_expr.specs.Value.{Environment, value_of}
use Rattle.rv_ops.specs.declared.op.Op.{Op}
use Rattle.rv_ops.specs.declared.op.Op.TheVariants.{Auipc}
use Rattle.rv_stmt.specs.declared.operand.Operand.{Operand}
use Rattle.rv_stmt.specs.declared.operand.OperandValue.{OperandValue}
use Rattle.rv_stmt.specs.declared.operand.OperandValue.TheVariants.{Plain, High, Low, PcrelHigh, PcrelLow}
use Rattle.rv_stmt.specs.declared.operand.Role.{Role}
use Rattle.rv_stmt.specs.declared.statement.Body.{Body}
use Rattle.rv_stmt.specs.declared.statement.Body.TheVariants as body
use Rattle.rv_stmt.specs.Readings.{and_then}
use Rattle.rv_stmt.specs.Statement.{operands_of}
use Rattle.rv_stmt.specs.ValueParts.{high_part, low_part}
use Rattle.rv_layout.specs.Shapes.{is_size}
use Rattle.rv_fix.specs.Displacements.{displacement}
use Rattle.rv_fix.specs.Values.{for_constants, given_to, operand_value, counted_from, entry_of, operand_values_of}
use Rattle.rv_program.specs.Constants.{value_without_modifier, first_value, defined_value}
use Rattle.rv_program.specs.Pairs.{pcrel_high_value, pcrel_high_operand, pcrel_high_of, high_by}
use Rattle.rv_program.specs.Uses.{names_in, has_local_label, tree_of_label, expression_of, names_used, uses_local_label, is_equ}
use Rattle.rv_store.specs.internal.Still.{is_settled}
use Rattle.rv_program.specs.lemmas.UsedValues.{value-follows}

-- two environments that give the same, but for the symbols that differ and the labels of their names, and for local labels where they are
-- not the same
pub record Agree (differs : List ℕ → Bool) (Same : Type 0) (given other : Environment) : Type 0 where
  pub symbols : (name : List ℕ) → differs name ≡ false → given.symbol name ≡ other.symbol name
  pub local : Same → given.local ≡ other.local
  pub here : given.here ≡ other.here
  pub pairs : (label : LabelReference) → list_any differs (names_in (tree_of_label label)) ≡ false → (has_local_label (tree_of_label label) ≡ true → Same) → given.paired_high label ≡ other.paired_high label

-- the symbols in some operands
abbrev names_of : List Operand → List (List ℕ)
names_of os = flat_map (λ o. names_in (expression_of o.value)) os

-- a local label stands in one of them
abbrev any_local : List Operand → Bool
any_local os = list_any (λ o. has_local_label (expression_of o.value)) os

-- where none of them differs, none in the first operand does, nor in the others
first-and-others : (differs : List ℕ → Bool) (o : Operand) (os : List Operand) → list_any differs (names_of (o ∷ os)) ≡ false → (list_any differs (names_in (expression_of o.value)) ≡ false) × (list_any differs (names_of os) ≡ false)
first-and-others differs o os names =
    let first = names_in (expression_of o.value) in
    or_parts (list_any differs first) (list_any differs (names_of os)) (sym (list_any-append differs first (names_of os)) ∙ names)

module _ {differs : List ℕ → Bool} {Same : Type 0} {given other : Environment} (agree : Agree differs Same given other) where
  value-agrees : (e : Tree) → list_any differs (names_in e) ≡ false → (has_local_label e ≡ true → Same) → value_of given e ≡ value_of other e
  value-agrees e names local = value-follows differs given other agree.symbols e names (λ h. agree.here) (λ h. agree.local (local h))

  value-in_role : (for_constant : Bool) (e : Tree) → list_any differs (names_in e) ≡ false → (has_local_label e ≡ true → Same) → value_of (if for_constant then for_constants given else given) e ≡ value_of (if for_constant then for_constants other else other) e
  value-in_role true e names local =
      value-follows differs (for_constants given) (for_constants other) agree.symbols e names (λ h. refl) (λ h. refl)
  value-in_role false e names local = value-agrees e names local

  pair-in_role : (for_constant : Bool) (label : LabelReference) → list_any differs (names_in (tree_of_label label)) ≡ false → (has_local_label (tree_of_label label) ≡ true → Same) → (if for_constant then for_constants given else given).paired_high label ≡ (if for_constant then for_constants other else other).paired_high label
  pair-in_role true label names local = agree.pairs label names local
  pair-in_role false label names local = agree.pairs label names local

  -- Operands

  operand_value-agrees : (role : Role) (here : ℕ) (v : OperandValue) → list_any differs (names_in (expression_of v)) ≡ false → (has_local_label (expression_of v) ≡ true → Same) → operand_value (given_to role given) here v ≡ operand_value (given_to role other) here v
  operand_value-agrees role here (Plain e) names local = value-in_role (is_size role) e names local
  operand_value-agrees role here (High e) names local = ap (λ r. and_then r (λ v. Ok (high_part v))) (value-in_role (is_size role) e names local)
  operand_value-agrees role here (Low e) names local = ap (λ r. and_then r (λ v. Ok (low_part v))) (value-in_role (is_size role) e names local)
  operand_value-agrees role here (PcrelHigh e) names local =
      ap (λ r. and_then r (λ v. Ok (high_part (displacement here v)))) (value-in_role (is_size role) e names local)
  operand_value-agrees role here (PcrelLow label) names local =
      ap (λ r. and_then r (λ v. Ok (low_part v))) (pair-in_role (is_size role) label names local)

  entries-agree : (here : ℕ) (os : List Operand) → list_any differs (names_of os) ≡ false → (any_local os ≡ true → Same) → map (entry_of given here) os ≡ map (entry_of other here) os
  entries-agree here [] names local = refl
  entries-agree here (o ∷ os) names local =
      let parts = first-and-others differs o os names in
      let value = operand_value-agrees o.role here o.value parts.0 (λ h. local (or_left (has_local_label (expression_of o.value)) (any_local os) h)) in
      let rest = entries-agree here os parts.1 (λ h. local (or_right (has_local_label (expression_of o.value)) (any_local os) h)) in
      λ i. and_then (value i) (λ v. Ok (counted_from here o.role v)) ∷ rest i

  pub operand_values-agree : (here : ℕ) (b : Body) → list_any differs (names_used b) ≡ false → (uses_local_label b ≡ true → Same) → operand_values_of given here b ≡ operand_values_of other here b
  operand_values-agree here b names local = entries-agree here (operands_of b) names local

  -- The value of an `.equ`

  without_modifier-agrees : (v : OperandValue) → list_any differs (names_in (expression_of v)) ≡ false → (has_local_label (expression_of v) ≡ true → Same) → value_without_modifier given v ≡ value_without_modifier other v
  without_modifier-agrees (Plain e) names local = value-agrees e names local
  without_modifier-agrees v names local = refl

  first_value-agrees : (os : List Operand) → list_any differs (names_of os) ≡ false → (any_local os ≡ true → Same) → first_value given os ≡ first_value other os
  first_value-agrees [] names local = refl
  first_value-agrees (o ∷ os) names local =
      without_modifier-agrees o.value (first-and-others differs o os names).0 (λ h. local (or_left (has_local_label (expression_of o.value)) (any_local os) h))

  pub defined_value-agrees : (b : Body) → list_any differs (names_used b) ≡ false → (uses_local_label b ≡ true → Same) → defined_value given b ≡ defined_value other b
  defined_value-agrees (body.Equ d) names local = first_value-agrees d.operands names local
  defined_value-agrees b names local = refl

  -- High halves

  high-of_value : (here : ℕ) (v : OperandValue) → list_any differs (names_in (expression_of v)) ≡ false → (has_local_label (expression_of v) ≡ true → Same) → high_by given here (pcrel_high_value v) ≡ high_by other here (pcrel_high_value v)
  high-of_value here (PcrelHigh e) names local = ap (λ r. and_then r (λ v. Ok (displacement here v))) (value-agrees e names local)
  high-of_value here v names local = refl

  high-of_operands : (here : ℕ) (op : Op) (os : List Operand) → list_any differs (names_of os) ≡ false → (any_local os ≡ true → Same) → high_by given here (pcrel_high_operand op os) ≡ high_by other here (pcrel_high_operand op os)
  high-of_operands here Auipc (o ∷ os) names local =
      high-of_value here o.value (first-and-others differs o os names).0 (λ h. local (or_left (has_local_label (expression_of o.value)) (any_local os) h))
  high-of_operands here op os names local = refl

  pub high-agrees : (here : ℕ) (b : Body) → list_any differs (names_used b) ≡ false → (uses_local_label b ≡ true → Same) → high_by given here (pcrel_high_of b) ≡ high_by other here (pcrel_high_of b)
  high-agrees here (body.Instr i) names local = high-of_operands here i.op i.operands names local
  high-agrees here b names local = refl

  -- Lines of which others take what they give

  pub defined_value-settled : (b : Body) → (is_settled b ≡ true → (list_any differs (names_used b) ≡ false) × (uses_local_label b ≡ true → Same)) → defined_value given b ≡ defined_value other b
  defined_value-settled (body.Equ d) uses = let none = uses refl in defined_value-agrees (body.Equ d) none.0 none.1
  defined_value-settled b uses = refl

  pub high-settled : (here : ℕ) (b : Body) → (is_settled b ≡ true → (list_any differs (names_used b) ≡ false) × (uses_local_label b ≡ true → Same)) → high_by given here (pcrel_high_of b) ≡ high_by other here (pcrel_high_of b)
  high-settled here b uses = at (pcrel_high_of b) refl
    where
      at : (o : Option Tree) → pcrel_high_of b ≡ o → high_by given here (pcrel_high_of b) ≡ high_by other here (pcrel_high_of b)
      at None is = ap (high_by given here) is ∙ sym (ap (high_by other here) is)
      at (Some e) is = let none = uses (or_right (is_equ b) (is_some (pcrel_high_of b)) (ap is_some is)) in high-agrees here b none.0 none.1
