-- The names of the control and status registers: RISC-V Unprivileged ISA 20191213, chapter 10, and RISC-V Privileged
-- ISA 20190608, tables 2.2 to 2.5.
use Rattle.std.specs.Prelude.{ℕ, List, map, Option}
use Rattle.std.specs.List.{Contains}
use Rattle.std.specs.Str.{str_to_ascii_lowercase}
use Rattle.rv_ops.specs.Names.{first_named, first_name}
use Rattle.rv_ops.specs.declared.csrs.TheConstants.{CSRS}

-- the number and the name of each row of the table
unfoldable pub csr_names : List (ℕ × List ℕ)
csr_names = map (λ row. (row.0, row.1.now)) CSRS

-- the name of the control and status register of a number, where it has one
unfoldable pub csr_name : ℕ → Option (List ℕ)
csr_name n = first_name csr_names n

-- the number of the control and status register that has the name, in either letter case
unfoldable pub csr_named : List ℕ → Option ℕ
csr_named text = first_named csr_names text

-- the text, in lower case, stands beside the number in the table
abbrev pub IsNameOfCsr : ℕ → List ℕ → Type 0
IsNameOfCsr n text = Contains csr_names (n, str_to_ascii_lowercase text)
