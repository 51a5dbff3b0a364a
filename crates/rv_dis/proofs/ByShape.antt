-- The texts of instructions whose shape is known.
use Rattle.std.proofs.Common.{◌≡◌, ℕ, ◌+◌, ◌≤◌, List, ◌++◌, length, map, ap, refl, arith, length-append}
use Rattle.rv_ops.specs.Table.{shape_of, operation_name}
use Rattle.rv_ops.specs.declared.op.Op.{Op}
use Rattle.rv_ops.specs.declared.op.Shape.{Shape}
use Rattle.rv_code.specs.declared.instruction.Fields.{Fields}
use Rattle.rv_code.specs.Encoding.{Fits}
use Rattle.rv_stmt.specs.Forms.{slots_of}
use Rattle.rv_dis.specs.Text.{after_name, operand_text, instruction_text}
use Rattle.rv_dis.proofs.Lengths.{text_short}

-- the operands of an instruction of a shape, with what stands before each
abbrev pub operands_of : (address : ℕ) → Shape → Fields → List ℕ
operands_of a s f = after_name (map (operand_text a s f) (slots_of s))

-- a name and these operands are the whole text
pub text_of_shape : (a : ℕ) (o : Op) (f g : Fields) (s : Shape) (name : List ℕ) → name ≡ operation_name o → s ≡ shape_of o → g ≡ f → name ++ operands_of a s g ≡ instruction_text a o f
unfolding instruction_text
text_of_shape a o f g s name e h same = rw (e, h, same) refl

-- they have room
pub room_of_shape : (a : ℕ) (o : Op) (f g : Fields) (s : Shape) (name : List ℕ) → name ≡ operation_name o → s ≡ shape_of o → g ≡ f → Fits o f → length name + length (operands_of a s g) ≤ 40
room_of_shape a o f g s name e h same fits =
    omega (arith, length-append name (operands_of a s g), ap length (text_of_shape a o f g s name e h same), text_short a o f fits)
