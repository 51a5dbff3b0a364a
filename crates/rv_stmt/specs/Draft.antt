-- An instruction while its operands are read.
use Rattle.std.specs.Prelude.{ℕ, ℤ, [], ◌∷◌, ◌++◌}
use Rattle.rv_code.specs.declared.instruction.Fields.{Fields}
use Rattle.rv_stmt.specs.declared.draft.Draft.{Draft}
use Rattle.rv_stmt.specs.declared.operand.Operand.{Operand}

abbrev pub fields : ℕ → ℕ → ℕ → ℤ → Fields
fields rd rs1 rs2 v = record { rd = rd; rs1 = rs1; rs2 = rs2; value = v }

abbrev pub with_rd : Draft → ℕ → Draft
with_rd d n = record { fields = fields n d.fields.rs1 d.fields.rs2 d.fields.value; operands = d.operands }

abbrev pub with_rs1 : Draft → ℕ → Draft
with_rs1 d n = record { fields = fields d.fields.rd n d.fields.rs2 d.fields.value; operands = d.operands }

abbrev pub with_rs2 : Draft → ℕ → Draft
with_rs2 d n = record { fields = fields d.fields.rd d.fields.rs1 n d.fields.value; operands = d.operands }

abbrev pub with_value : Draft → ℤ → Draft
with_value d v = record { fields = fields d.fields.rd d.fields.rs1 d.fields.rs2 v; operands = d.operands }

abbrev pub with_operand : Draft → Operand → Draft
with_operand d o = record { fields = d.fields; operands = d.operands ++ (o ∷ []) }
