-- What is computed on the lines that an edit invalidates is no more than an edit may compute.
use Rattle.std.proofs.Common.{◌≡◌, ℕ, suc, ◌+◌, ◌*◌, ◌≤◌, Bool, true, false, List, [], ◌∷◌, length, Option, Some, None, arith, ap, refl, if◌then◌else◌}
use Rattle.std.specs.List.{sum_by}
use Rattle.std.proofs.lemmas.List.Sums.{sum_by-cons}
use Rattle.rv_ops.specs.declared.op.Op.{Op}
use Rattle.rv_ops.specs.declared.op.Op.TheVariants.{Add, Auipc}
use Rattle.rv_expr.specs.Tree.{Tree, Local}
use Rattle.rv_stmt.specs.declared.operand.Operand.{Operand}
use Rattle.rv_stmt.specs.declared.operand.OperandValue.{OperandValue}
use Rattle.rv_stmt.specs.declared.operand.OperandValue.TheVariants.{Plain, PcrelHigh}
use Rattle.rv_stmt.specs.declared.operand.Role.{Role}
use Rattle.rv_stmt.specs.declared.operand.Role.TheVariants.{Target, PairTarget}
use Rattle.rv_stmt.specs.declared.statement.Body.{Body}
use Rattle.rv_stmt.specs.declared.statement.Body.TheVariants as body
use Rattle.rv_stmt.specs.Statement.{operands_of}
use Rattle.rv_layout.specs.ShapeLaws.{among}
use Rattle.rv_layout.specs.Shapes.{is_size, size_operand, count_of_value, count_of_operand}
use Rattle.rv_program.specs.Changes.{program_after, is_invalidated, most_values}
use Rattle.rv_program.specs.Jumps.{label_in, target_in, target_among}
use Rattle.rv_program.specs.Pairs.{pcrel_high_value, pcrel_high_operand}
use Rattle.rv_program.specs.Program.{body_at, lines_that}
use Rattle.rv_program.specs.Text.{Edit, lines_after}
use Rattle.rv_program.specs.internal.Work.{one_if_some, one_if_local, survey_operands, compared_operands, value_operands, work}

-- Operands

-- the operand whose high half is taken has a modifier, so it does not count as the size operand
high_or_size : (v : OperandValue) → count_of_value v + one_if_some (pcrel_high_value v) ≤ 1
high_or_size (Plain e) = omega arith
high_or_size (PcrelHigh e) = omega arith
high_or_size v = omega arith

one_high : (v : OperandValue) → one_if_some (pcrel_high_value v) ≤ 1
one_high (PcrelHigh e) = omega arith
one_high v = omega arith

sized_or_high : (op : Op) (os : List Operand) → count_of_operand (size_operand os) + one_if_some (pcrel_high_operand op os) ≤ length os
sized_or_high Auipc (o ∷ os) = at (is_size o.role)
  where
    at : (b : Bool) → count_of_operand (if b then Some o else size_operand os) + one_if_some (pcrel_high_value o.value) ≤ suc (length os)
    at true = let few = high_or_size o.value in omega (arith, few)
    at false = let few = among os in let one = one_high o.value in omega (arith, few, one)
sized_or_high op os = let few = among os in omega (arith, few)

pub one_label : (target : Option Tree) → one_if_local target ≤ 1
one_label None = omega arith
one_label (Some (Local number direction)) = omega arith
one_label (Some e) = omega arith

plain_high : (op : Op) (o : Operand) (os : List Operand) (e : Tree) → o.value ≡ Plain e → one_if_some (pcrel_high_operand op (o ∷ os)) ≡ 0
plain_high Auipc o os e is = ap (λ v. one_if_some (pcrel_high_value v)) is
plain_high op o os e is = refl

-- a label to which a line jumps is neither a size nor a high half
one_operand : (op : Op) (o : Operand) (v : OperandValue) (r : Role) → o.value ≡ v → o.role ≡ r → count_of_operand (if is_size r then Some o else None) + one_if_some (pcrel_high_operand op (o ∷ [])) + one_if_local (target_in v r) ≤ 1
one_operand op o (Plain e) Target value role = let high = plain_high op o [] e value in let label = one_label (label_in e) in omega (arith, high, label)
one_operand op o (Plain e) PairTarget value role = let high = plain_high op o [] e value in let label = one_label (label_in e) in omega (arith, high, label)
one_operand op o v r value role =
    let few = sized_or_high op (o ∷ []) in
    let same = ap (λ s. count_of_operand (if is_size s then Some o else None)) role in
    omega (arith, few, same)

sized_or_local : (op : Op) (os : List Operand) → count_of_operand (size_operand os) + one_if_some (pcrel_high_operand op os) + one_if_local (target_among os) ≤ length os
sized_or_local op [] = let few = sized_or_high op [] in omega (arith, few)
sized_or_local op (o ∷ []) = one_operand op o o.value o.role refl refl
sized_or_local op (o ∷ p ∷ os) = let few = sized_or_high op (o ∷ p ∷ os) in omega (arith, few)

among_few : (os : List Operand) → length os ≤ 1000 → length os + one_if_local (target_among os) ≤ 1000
among_few [] few = omega arith
among_few (o ∷ []) few = let one = one_label (target_in o.value o.role) in omega (arith, one)
among_few (o ∷ p ∷ os) few = omega (arith, few)

-- a line that is compared has one operand, so it takes few values and its comparison
pub compared-few : (b : Body) → length (operands_of b) ≤ 1000 → value_operands b + compared_operands b ≤ 1000
compared-few (body.Instr i) few = among_few i.operands few
compared-few (body.Pseudo i) few = among_few i.operands few
compared-few (body.Equ d) few = omega arith
compared-few b few = omega (arith, few)

-- a line computes each operand at most twice
pub twice : (b : Body) → survey_operands b + compared_operands b + value_operands b ≤ 2 * length (operands_of b)
twice (body.Instr i) = let few = sized_or_local i.op i.operands in omega (arith, few)
twice (body.Pseudo i) = let few = sized_or_local Add i.operands in omega (arith, few)
twice (body.Fill d) = let few = among d.operands in omega (arith, few)
twice (body.Align d) = let few = among d.operands in omega (arith, few)
twice (body.Equ d) = omega arith
twice b = omega arith

-- Lines

sums : (e f g h : ℕ → ℕ) (xs : List ℕ) → ((x : ℕ) → e x + f x + g x ≤ 2 * h x) → sum_by e xs + sum_by f xs + sum_by g xs ≤ 2 * sum_by h xs
sums e f g h [] most = omega arith
sums e f g h (x ∷ xs) most =
    let first = most x in
    let rest = sums e f g h xs most in
    omega (arith, first, rest, sum_by-cons e x xs, sum_by-cons f x xs, sum_by-cons g x xs, sum_by-cons h x xs)

-- all work on the lines that an edit invalidates
work-most : (base : ℕ) (lines : List (List ℕ)) (edit : Edit) → work survey_operands base lines edit (length (lines_after lines edit)) + work compared_operands base lines edit (length (lines_after lines edit)) + work value_operands base lines edit (length (lines_after lines edit)) ≤ most_values base lines edit
work-most base lines edit =
    let body = body_at (program_after lines edit) in
    sums (λ k. survey_operands (body k)) (λ k. compared_operands (body k)) (λ k. value_operands (body k)) (λ k. length (operands_of (body k))) (lines_that (is_invalidated base lines edit) (length (lines_after lines edit))) (λ k. twice (body k))

-- the same, where the texts are known by other names
pub work-within : (base base' : ℕ) (lines lines' after : List (List ℕ)) (edit : Edit) → base' ≡ base → lines' ≡ lines → after ≡ lines_after lines edit → work survey_operands base' lines' edit (length after) + work compared_operands base' lines' edit (length after) + work value_operands base' lines' edit (length after) ≤ most_values base lines edit
work-within base base' lines lines' after edit same same_lines is = rw (same, same_lines, is) (work-most base lines edit)
