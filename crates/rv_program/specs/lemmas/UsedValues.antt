-- The values of expressions and of operands follow from what they use.
use Rattle.std.proofs.Common.{◌≡◌, ℕ, ℤ, pos, Bool, true, false, ◌||◌, List, [], ◌∷◌, map, Ok, if◌then◌else◌, true≢false, ap, sym, ◌∙◌, refl}
use Rattle.std.specs.List.{list_any, flat_map}
use Rattle.std.proofs.lemmas.Bool.{both_ways, or_parts, or_left, or_right}
use Rattle.std.proofs.lemmas.List.Folds.{list_any-append}
use Rattle.rv_expr.specs.Arithmetic.{apply, apply_unary}
use Rattle.rv_expr.specs.Tree.{Tree, Number, Symbol, Local, Here, Unary, Binary}
use Rattle.rv_expr.specs.Value.{Environment, of_one, of_two, value_of}
use Rattle.rv_stmt.specs.declared.operand.Operand.{Operand}
use Rattle.rv_stmt.specs.declared.operand.OperandValue.{OperandValue}
use Rattle.rv_stmt.specs.declared.operand.OperandValue.TheVariants.{Plain, High, Low, PcrelHigh, PcrelLow}
use Rattle.rv_stmt.specs.declared.operand.Role.{Role}
use Rattle.rv_stmt.specs.declared.operand.Role.TheVariants.{Target, PairTarget, Alignment}
use Rattle.rv_stmt.specs.Readings.{and_then}
use Rattle.rv_stmt.specs.ValueParts.{high_part, low_part}
use Rattle.rv_layout.specs.Shapes.{alignment_exponent, is_size}
use Rattle.rv_fix.specs.Displacements.{displacement}
use Rattle.rv_fix.specs.Values.{for_constants, given_to, operand_value, bytes_to_alignment, counted_from, entry_of}
use Rattle.rv_program.specs.Uses.{names_in, has_here, has_local_label, expression_of, is_pcrel_high, is_pcrel_low, is_relative, operand_uses_address}

-- where two environments give the same for each name that does not differ
module _ (differs : List ℕ → Bool) (given other : Environment) (symbols : (name : List ℕ) → differs name ≡ false → given.symbol name ≡ other.symbol name) where
  pub value-follows : (e : Tree) → list_any differs (names_in e) ≡ false → (has_here e ≡ true → given.here ≡ other.here) → (has_local_label e ≡ true → given.local ≡ other.local) → value_of given e ≡ value_of other e
  value-follows (Number n) names here local = refl
  value-follows (Symbol name) names here local = symbols name (or_parts (differs name) false names).0
  value-follows (Local number direction) names here local = ap (λ f. f number direction) (local refl)
  value-follows Here names here local = here refl
  value-follows (Unary op a) names here local = ap (of_one (apply_unary op)) (value-follows a names here local)
  value-follows (Binary op a b) names here local =
      let parts = or_parts (list_any differs (names_in a)) (list_any differs (names_in b)) (sym (list_any-append differs (names_in a) (names_in b)) ∙ names) in
      let left = value-follows a parts.0 (λ h. here (or_left (has_here a) (has_here b) h)) (λ h. local (or_left (has_local_label a) (has_local_label b) h)) in
      let right = value-follows b parts.1 (λ h. here (or_right (has_here a) (has_here b) h)) (λ h. local (or_right (has_local_label a) (has_local_label b) h)) in
      λ i. of_two (apply op) (left i) (right i)

-- and the same for `.` where the addresses of two lines, `here` and `there`, are the same
module _ (differs : List ℕ → Bool) (given other : Environment) (here there : ℕ) (symbols : (name : List ℕ) → differs name ≡ false → given.symbol name ≡ other.symbol name) (address : here ≡ there → given.here ≡ other.here) where
  value-in_place : (for_constant : Bool) (e : Tree) → list_any differs (names_in e) ≡ false → (has_here e ≡ true → here ≡ there) → has_local_label e ≡ false → value_of (if for_constant then for_constants given else given) e ≡ value_of (if for_constant then for_constants other else other) e
  value-in_place true e names place local =
      value-follows differs (for_constants given) (for_constants other) symbols e names (λ h. refl) (λ h. refl)
  value-in_place false e names place local =
      value-follows differs given other symbols e names (λ h. address (place h)) (λ h. absurd (both_ways (has_local_label e) local h))

  operand_value-follows : (role : Role) (v : OperandValue) → list_any differs (names_in (expression_of v)) ≡ false → (has_here (expression_of v) ≡ true → here ≡ there) → (is_pcrel_high v ≡ true → here ≡ there) → has_local_label (expression_of v) ≡ false → is_pcrel_low v ≡ false → operand_value (given_to role given) here v ≡ operand_value (given_to role other) there v
  operand_value-follows role (Plain e) names dot high local low = value-in_place (is_size role) e names dot local
  operand_value-follows role (High e) names dot high local low = ap (λ r. and_then r (λ v. Ok (high_part v))) (value-in_place (is_size role) e names dot local)
  operand_value-follows role (Low e) names dot high local low = ap (λ r. and_then r (λ v. Ok (low_part v))) (value-in_place (is_size role) e names dot local)
  operand_value-follows role (PcrelHigh e) names dot high local low =
      let value = value-in_place (is_size role) e names dot local in
      λ i. and_then (value i) (λ v. Ok (high_part (displacement (high refl i) v)))
  operand_value-follows role (PcrelLow l) names dot high local low = absurd (true≢false low)

  counted-follows : (role : Role) (v : ℤ) → (is_relative role ≡ true → here ≡ there) → counted_from here role v ≡ counted_from there role v
  counted-follows Target v place = ap (λ a. displacement a v) (place refl)
  counted-follows PairTarget v place = ap (λ a. displacement a v) (place refl)
  counted-follows (Alignment u) v place = ap (λ a. pos (bytes_to_alignment a (alignment_exponent u v))) (place refl)
  counted-follows role v place = refl

  entry-follows : (o : Operand) → list_any differs (names_in (expression_of o.value)) ≡ false → (operand_uses_address o ≡ true → here ≡ there) → has_local_label (expression_of o.value) ≡ false → is_pcrel_low o.value ≡ false → entry_of given here o ≡ entry_of other there o
  entry-follows o names place local low =
      let dot : has_here (expression_of o.value) ≡ true → here ≡ there =
      λ h. place (or_left (has_here (expression_of o.value) || is_pcrel_high o.value) (is_relative o.role) (or_left (has_here (expression_of o.value)) (is_pcrel_high o.value) h)) in
      let high : is_pcrel_high o.value ≡ true → here ≡ there =
      λ h. place (or_left (has_here (expression_of o.value) || is_pcrel_high o.value) (is_relative o.role) (or_right (has_here (expression_of o.value)) (is_pcrel_high o.value) h)) in
      let relative : is_relative o.role ≡ true → here ≡ there =
      λ h. place (or_right (has_here (expression_of o.value) || is_pcrel_high o.value) (is_relative o.role) h) in
      let value = operand_value-follows o.role o.value names dot high local low in
      λ i. and_then (value i) (λ v. Ok (counted-follows o.role v relative i))

  -- the entries of some operands
  pub entries-follow : (os : List Operand) → list_any differs (flat_map (λ o. names_in (expression_of o.value)) os) ≡ false → (list_any operand_uses_address os ≡ true → here ≡ there) → list_any (λ o. has_local_label (expression_of o.value)) os ≡ false → list_any (λ o. is_pcrel_low o.value) os ≡ false → map (entry_of given here) os ≡ map (entry_of other there) os
  entries-follow [] names place local low = refl
  entries-follow (o ∷ os) names place local low =
      let first = names_in (expression_of o.value) in
      let more = flat_map (λ o. names_in (expression_of o.value)) os in
      let names' = or_parts (list_any differs first) (list_any differs more) (sym (list_any-append differs first more) ∙ names) in
      let local' = or_parts (has_local_label (expression_of o.value)) (list_any (λ o. has_local_label (expression_of o.value)) os) local in
      let low' = or_parts (is_pcrel_low o.value) (list_any (λ o. is_pcrel_low o.value) os) low in
      let entry = entry-follows o names'.0 (λ h. place (or_left (operand_uses_address o) (list_any operand_uses_address os) h)) local'.0 low'.0 in
      let rest = entries-follow os names'.1 (λ h. place (or_right (operand_uses_address o) (list_any operand_uses_address os) h)) local'.1 low'.1 in
      λ i. entry i ∷ rest i
