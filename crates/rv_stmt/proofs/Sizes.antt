-- How many bytes the instructions of a line have.
use Rattle.std.proofs.Common.{◌≡◌, false, refl}
use Rattle.std.proofs.lemmas.Bool.{true≢false}
use Rattle.rv_code.specs.declared.instruction.Fields.{Fields}
use Rattle.rv_ops.specs.declared.op.Op.{Op}
use Rattle.rv_stmt.specs.declared.expansion.Expansion.{Expansion}
use Rattle.rv_stmt.specs.declared.expansion.Expansion.TheVariants.{Itself, AddressPair, ConstantLoad}
use Rattle.rv_stmt.specs.declared.statement.Instruction.{Instruction}
use Rattle.rv_stmt.specs.Expansion.{expansion_of, expanded, instructions_of, size_of_instructions, is_constant_load}

same_expanded : (e : Expansion) (op : Op) (f g : Fields) → is_constant_load e ≡ false → size_of_instructions (expanded e op f) ≡ size_of_instructions (expanded e op g)
same_expanded Itself op f g h = refl
same_expanded AddressPair op f g h = refl
same_expanded ConstantLoad op f g h = absurd (true≢false h)

-- without a constant load their size depends on no value
pub same_size : (i : Instruction) (f g : Fields) → is_constant_load (expansion_of i.operands) ≡ false → size_of_instructions (instructions_of i f) ≡ size_of_instructions (instructions_of i g)
same_size i f g h = same_expanded (expansion_of i.operands) i.op f g h
