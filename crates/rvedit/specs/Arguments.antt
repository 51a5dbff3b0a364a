-- The base that the arguments ask for.
use Rattle.std.specs.Prelude.{ℕ, List, Option, Some, None, if◌then◌else◌}
use Rattle.rv_text.specs.Numbers.{number_of}
use Rattle.rv_layout.specs.Places.{is_base}
use Rattle.rvedit.specs.declared.arguments.ArgFault.{ArgFault}
use Rattle.rvedit.specs.declared.arguments.ArgFault.TheVariants.{Help, Usage, Base, Memory}

-- a number that is a base
abbrev pub right_base : Option ℕ → Option ℕ
right_base None = None
right_base (Some value) = if is_base value then Some value else None

-- the base that a text spells: the whole of it is one number
abbrev pub base_spelled : List ℕ → Option ℕ
base_spelled text = right_base (number_of text)

-- the status of a process whose arguments give no base
abbrev pub argument_status : ArgFault → ℕ
argument_status (Help _) = 0
argument_status (Usage _) = 2
argument_status Base = 2
argument_status Memory = 5
