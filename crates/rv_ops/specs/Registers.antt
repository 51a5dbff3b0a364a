-- The names of the registers: RISC-V Unprivileged ISA 20191213, chapter 25, table 25.1.
use Rattle.std.specs.Prelude.{ℕ, List, [], map, slice_index_or, Option}
use Rattle.std.specs.List.{Contains}
use Rattle.std.specs.Str.{str_to_ascii_lowercase}
use Rattle.rv_ops.specs.Names.{first_named}
use Rattle.rv_ops.specs.declared.registers.TheConstants.{REGISTERS}

-- the number and the name of each row of the table
unfoldable pub register_names : List (ℕ × List ℕ)
register_names = map (λ row. (row.0, row.1.now)) REGISTERS

-- the name by which a register is written
unfoldable pub register_name : ℕ → List ℕ
register_name n = slice_index_or (map (λ row. row.1.now) REGISTERS) n []

-- the number of the register that has the name, in either letter case
unfoldable pub register_named : List ℕ → Option ℕ
register_named text = first_named register_names text

-- the text, in lower case, stands beside the number in the table
abbrev pub IsNameOfRegister : ℕ → List ℕ → Type 0
IsNameOfRegister n text = Contains register_names (n, str_to_ascii_lowercase text)
