-- How many bytes data have. (docs/LANGUAGE.md, Directives)
use Rattle.std.specs.Prelude.{ℕ, ◌+◌, List, [], ◌∷◌, length}
use Rattle.rv_stmt.specs.declared.operand.DataWidth.{DataWidth}
use Rattle.rv_stmt.specs.declared.operand.DataWidth.TheVariants.{Byte, Half, Word}
use Rattle.rv_stmt.specs.declared.operand.Operand.{Operand}
use Rattle.rv_stmt.specs.declared.operand.Role.{Role}
use Rattle.rv_stmt.specs.declared.operand.Role.TheVariants as role
use Rattle.rv_stmt.specs.declared.directive.DataContent.{DataContent}
use Rattle.rv_stmt.specs.declared.directive.DataContent.TheVariants.{Values, Bytes}

abbrev pub width_bytes : DataWidth → ℕ
width_bytes Byte = 1
width_bytes Half = 2
width_bytes Word = 4

-- how many bytes a value takes in its role
abbrev pub data_width : Role → ℕ
data_width (role.Data w) = width_bytes w
data_width role = 0

-- how many bytes values take together
abbrev pub values_size : List Operand → ℕ
values_size [] = 0
values_size (o ∷ os) = data_width o.role + values_size os

-- how many bytes there are
abbrev pub data_size : DataContent → ℕ
data_size (Values os) = values_size os
data_size (Bytes bs) = length bs
