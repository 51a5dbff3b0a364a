-- What the texts of a disassembly assemble to.
use Rattle.std.specs.Prelude.{◌≡◌, ℕ, ℤ, ◌<◌, false, List, [], take, Option, All, slice_index}
use Rattle.std.specs.Int.{to_le_bytes, w32}
use Rattle.std.specs.List.{flat_map}
use Rattle.rv_ops.specs.declared.op.Op.{Op}
use Rattle.rv_code.specs.Encoding.{bytes_of_word, word_of}
use Rattle.rv_code.specs.declared.instruction.Fields.{Fields}
use Rattle.rv_expr.specs.Value.{Environment}
use Rattle.rv_stmt.specs.Statement.{statement_of}
use Rattle.rv_layout.specs.Shapes.{shape_of}
use Rattle.rv_fix.specs.Alone.{code_at, uses_names}
use Rattle.rv_fix.specs.Code.{code, code_of}
use Rattle.rv_fix.specs.Values.{operand_values_of}
use Rattle.rv_dis.specs.declared.row.DisRow.{DisRow}

-- A line is this instruction at an address: it has no label and uses no name, and whatever names mean its code is the
-- word of the instruction, without a fault.
pub record IsInstruction (address : ℕ) (o : Op) (f : Fields) (line : List ℕ) : Type 0 where
  pub labels : (statement_of line).labels ≡ []
  pub nameless : uses_names (statement_of line).body ≡ false
  pub code : (constant_of : List ℕ → Option ℤ) (given : Environment) → code_of (shape_of constant_of (statement_of line).body) (statement_of line).body (operand_values_of given address (statement_of line).body) ≡ code (bytes_of_word (word_of o f))

-- the bytes of a row, the lowest first
abbrev pub row_bytes : DisRow → List ℕ
row_bytes row = take row.len (to_le_bytes w32 row.value)

-- the text of a row, a line by itself at the row's address, assembles to the bytes of the row without a fault
pub record Assembles (row : DisRow) : Type 0 where
  pub nameless : uses_names (statement_of row.text).body ≡ false
  pub code : code_at row.address row.text ≡ code (row_bytes row)

-- each number is that of a byte
abbrev pub AreBytes : List ℕ → Type 0
AreBytes bytes = (i : ℕ) → slice_index bytes i < 256

-- the rows have these bytes, one after another, and each row assembles to its own
pub record GiveBytes (rows : List DisRow) (bytes : List ℕ) : Type 0 where
  pub each : All Assembles rows
  pub together : flat_map row_bytes rows ≡ bytes
