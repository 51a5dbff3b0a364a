-- A name that is a constant has its value.
use Rattle.std.proofs.Common.{◌≡◌, ℕ, ℤ, zero, suc, ◌-◌, ◌≤◌, Bool, true, false, List, [], ◌∷◌, length, Option, Some, None, Ok, Err, if◌then◌else◌, arith, ap, sym, refl, ◌∙◌}
use Rattle.std.specs.Result.{result_ok}
use Rattle.std.proofs.lemmas.Bool.{le-leb}
use Rattle.rv_text.specs.declared.lexeme.Span.{Span}
use Rattle.rv_expr.specs.declared.faults.ValueFault.TheVariants.{NotConstant, LaterEqu}
use Rattle.rv_expr.specs.Arithmetic.{apply, apply_unary}
use Rattle.rv_expr.specs.Tree.{Tree, Number, Symbol, Local, Here, Unary, Binary}
use Rattle.rv_expr.specs.Value.{Environment, of_one, of_two, value_of}
use Rattle.rv_stmt.specs.declared.operand.Operand.{Operand}
use Rattle.rv_stmt.specs.declared.operand.OperandValue.{OperandValue}
use Rattle.rv_stmt.specs.declared.operand.OperandValue.TheVariants.{Plain}
use Rattle.rv_stmt.specs.declared.statement.Body.{Body}
use Rattle.rv_stmt.specs.declared.statement.Body.TheVariants.{Equ as EquBody}
use Rattle.rv_layout.specs.Shapes.{or_not_constant, constants, is_size, value_of_constant, value_at, constant_of_operand}
use Rattle.rv_fix.specs.Values.{Entry, for_constants, given_to, operand_value}
use Rattle.rv_program.specs.Constants.{defined_value, first_value, value_without_modifier, constant_through, constant_of}
use Rattle.rv_program.specs.Definitions.{definition_of, is_equ_on}
use Rattle.rv_program.specs.Layout.{address_at}
use Rattle.rv_program.specs.Pairs.{names_at}
use Rattle.rv_program.specs.Program.{Program, body_at}
use Rattle.rv_program.specs.References.{or_faulty_equ, by_definition, equ_value, symbol_through, usable_equs, reference_of}
use Rattle.rv_program.specs.lemmas.ConstantRows.{constant-here, constant-kept}
use Rattle.rv_program.specs.lemmas.DefinitionLaws.{is_equ_on-true}
use Rattle.rv_program.specs.lemmas.EquLaws.{references_after, equ_value-here, equ_value-stays}

-- What an `Ok` is made of

of_one-kept : (f : ℤ → Option ℤ) (r s : Entry) (z : ℤ) → ((y : ℤ) → r ≡ Ok y → s ≡ Ok y) → of_one f r ≡ Ok z → of_one f s ≡ Ok z
of_one-kept f (Err e) s z same h = absurd (let no : of_one f (Err e) ≡ Ok z = h in cc)
of_one-kept f (Ok x) s z same h = ap (of_one f) (same x refl) ∙ h

of_two-kept : (f : ℤ → ℤ → Option ℤ) (r s t u : Entry) (z : ℤ) → ((y : ℤ) → r ≡ Ok y → s ≡ Ok y) → ((y : ℤ) → t ≡ Ok y → u ≡ Ok y) → of_two f r t ≡ Ok z → of_two f s u ≡ Ok z
of_two-kept f (Err e) s t u z left right h = absurd (let no : of_two f (Err e) t ≡ Ok z = h in cc)
of_two-kept f (Ok x) s (Err e) u z left right h = absurd (let no : of_two f (Ok x) (Err e) ≡ Ok z = h in cc)
of_two-kept f (Ok x) s (Ok y) u z left right h =
    ap (λ r. of_two f r u) (left x refl) ∙ ap (of_two f (Ok x)) (right y refl) ∙ h

is_constant : (o : Option ℤ) (z : ℤ) → or_not_constant o ≡ Ok z → o ≡ Some z
is_constant None z h = absurd (let no : or_not_constant None ≡ Ok z = h in cc)
is_constant (Some y) z h = cc

is_result : (r : Entry) (z : ℤ) → result_ok r ≡ Some z → r ≡ Ok z
is_result (Err e) z h = absurd (let no : result_ok (Err e) ≡ Some z = h in cc)
is_result (Ok y) z h = let same : y ≡ z = cc in ap Ok same

is_value : (span : Span) (r : Entry) (z : ℤ) → value_at span r ≡ Ok z → r ≡ Ok z
is_value span (Err e) z h = absurd (let no : value_at span (Err e) ≡ Ok z = h in cc)
is_value span (Ok y) z h = cc

-- What is a constant by some names has this value, whatever else may stand there
module _ (f : List ℕ → Option ℤ) (other : Environment) (symbols : (name : List ℕ) (z : ℤ) → f name ≡ Some z → other.symbol name ≡ Ok z) where
  value-kept : (e : Tree) (z : ℤ) → value_of (constants f) e ≡ Ok z → value_of other e ≡ Ok z
  value-kept (Number n) z h = h
  value-kept (Symbol name) z h = symbols name z (is_constant (f name) z h)
  value-kept (Local number direction) z h = absurd (let no : value_of (constants f) (Local number direction) ≡ Ok z = h in cc)
  value-kept Here z h = absurd (let no : value_of (constants f) Here ≡ Ok z = h in cc)
  value-kept (Unary op a) z h =
      of_one-kept (apply_unary op) (value_of (constants f) a) (value_of other a) z (value-kept a) h
  value-kept (Binary op a b) z h =
      of_two-kept (apply op) (value_of (constants f) a) (value_of other a) (value_of (constants f) b) (value_of other b) z (value-kept a) (value-kept b) h

  without_modifier-kept : (v : OperandValue) (z : ℤ) → value_without_modifier (constants f) v ≡ Ok z → value_without_modifier other v ≡ Ok z
  without_modifier-kept (Plain e) z h = value-kept e z h
  without_modifier-kept v z h = h

  first-kept : (os : List Operand) (z : ℤ) → first_value (constants f) os ≡ Ok z → first_value other os ≡ Ok z
  first-kept [] z h = h
  first-kept (o ∷ os) z h = without_modifier-kept o.value z h

  defined-kept : (b : Body) (z : ℤ) → defined_value (constants f) b ≡ Ok z → defined_value other b ≡ Ok z
  defined-kept (EquBody d) z h = first-kept d.operands z h
  defined-kept b z h = h

-- Names

constants-through : (base : ℕ) (program : Program) (k : ℕ) (name : List ℕ) (z : ℤ) → constant_through program k name ≡ Some z → (j : ℕ) → k ≤ j → symbol_through base program j name ≡ Ok z
constants-through base program zero name z h j l = absurd (let no : constant_through program zero name ≡ Some z = h in cc)
constants-through base program (suc k) name z h j l =
    at (is_equ_on (suc k) (definition_of program name)) refl (λ m y c i below. constants-through base program k m y c i below)
  where
    at : (t : Bool) → is_equ_on (suc k) (definition_of program name) ≡ t → ((m : List ℕ) (y : ℤ) → constant_through program k m ≡ Some y → (i : ℕ) → k ≤ i → symbol_through base program i m ≡ Ok y) → symbol_through base program j name ≡ Ok z
    at false e before = before name z (sym (constant-kept program k name e) ∙ h) j (omega (arith, l))
    at true e before =
        let place = is_equ_on-true (suc k) (definition_of program name) e in
        let b = body_at program (suc k) in
        let known = is_result (defined_value (constants (constant_through program k)) b) z (sym (constant-here program k name e) ∙ h) in
        let value = defined-kept (constant_through program k) (references_after base program k) (λ m y c. before m y c k (omega arith)) b z known in
        let kept : equ_value base program j name ≡ Ok z =
        equ_value-stays base program name (suc k) (suc k) j place (omega arith) l ∙ equ_value-here base program k name e ∙ value in
        ap (λ p. by_definition (address_at base program) j p (equ_value base program j name)) place
        ∙ ap (λ t. if t then or_faulty_equ (equ_value base program j name) else Err LaterEqu) (le-leb (suc k) j l)
        ∙ ap or_faulty_equ kept

usable-enough : (program : Program) (i : ℕ) (b : Body) → i ≤ length program → i - 1 ≤ usable_equs program i b
usable-enough program i (EquBody d) h = omega arith
usable-enough program i b h = omega (arith, h)

-- on each line
pub constants-are_values : (base : ℕ) (program : Program) (i : ℕ) (name : List ℕ) (z : ℤ) → i ≤ length program → constant_of program i name ≡ Some z → reference_of base program i name ≡ Ok z
constants-are_values base program i name z h c =
    let b = body_at program i in
    constants-through base program (i - 1) name z c (usable_equs program i b) (usable-enough program i b h)

-- Operands

size-value : (f : List ℕ → Option ℤ) (given : Environment) (here : ℕ) (v : OperandValue) (z : ℤ) → ((name : List ℕ) (y : ℤ) → f name ≡ Some y → given.symbol name ≡ Ok y) → value_of_constant (constants f) v ≡ Ok z → operand_value (for_constants given) here v ≡ Ok z
size-value f given here (Plain e) z symbols h = value-kept f (for_constants given) symbols e z h
size-value f given here v z symbols h = absurd (let no : Err NotConstant ≡ Ok z = h in cc)

-- an operand that the size of its line follows from
pub size_operands-are_values : (base : ℕ) (program : Program) (i : ℕ) (o : Operand) (z : ℤ) → i ≤ length program → is_size o.role ≡ true → constant_of_operand (constants (constant_of program i)) o ≡ Ok z → operand_value (given_to o.role (names_at base program i)) (address_at base program i) o.value ≡ Ok z
size_operands-are_values base program i o z h size c =
    let given = names_at base program i in
    let here = address_at base program i in
    let known = is_value o.span (value_of_constant (constants (constant_of program i)) o.value) z c in
    ap (λ t. operand_value (if t then for_constants given else given) here o.value) size
    ∙ size-value (constant_of program i) given here o.value z (λ name y k. constants-are_values base program i name y h k) known
