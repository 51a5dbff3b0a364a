-- How many operands may stand after a name. (docs/LANGUAGE.md, Statements)
use Rattle.std.specs.Prelude.{ℕ, Bool, ◌==◌, ◌&&◌, nat_le}
use Rattle.rv_stmt.specs.declared.operand_count.OperandCount.{OperandCount}
use Rattle.rv_stmt.specs.declared.operand_count.OperandCount.TheVariants.{Exactly, Between, AtLeast}

-- so many operands are enough and not too many
abbrev pub takes : OperandCount → ℕ → Bool
takes (Exactly n) count = count == n
takes (Between least most) count = nat_le least count && nat_le count most
takes (AtLeast n) count = nat_le n count
