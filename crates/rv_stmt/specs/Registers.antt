-- The registers and the sets of operands. (docs/LANGUAGE.md, Instructions)
use Rattle.std.specs.Prelude.{ℕ, Bool, ◌==◌, List, map, Option, option_and_then, Ok, Err, if◌then◌else◌}
use Rattle.rv_text.specs.declared.faults.FaultNumber.TheVariants.{BadRegister, RegisterRange, BadOperand}
use Rattle.rv_text.specs.Lexing.{SpelledToken}
use Rattle.rv_ops.specs.Csrs.{csr_named}
use Rattle.rv_ops.specs.Names.{first_named, first_name}
use Rattle.rv_ops.specs.Registers.{register_named}
use Rattle.rv_code.specs.Encoding.{is_in}
use Rattle.rv_stmt.specs.declared.registers.Accepted.{Accepted}
use Rattle.rv_stmt.specs.declared.registers.Accepted.TheVariants.{Class, StackPointer}
use Rattle.rv_stmt.specs.declared.sets.TheConstants.{SETS}
use Rattle.rv_stmt.specs.Readings.{Reading, and_then, or_fault}
use Rattle.rv_stmt.specs.Tokens.{one_identifier}

-- an operand accepts a register of a class, or `sp`
abbrev pub accepts : Accepted → ℕ → Bool
accepts (Class c) n = is_in c n
accepts StackPointer n = n == 2

-- a register that the operand accepts
abbrev pub accepted_register : Accepted → ℕ → Reading ℕ
accepted_register a n = if accepts a n then Ok n else Err RegisterRange

-- the register whose name a run is
abbrev pub register_in : List SpelledToken → Option ℕ
register_in run = option_and_then register_named (one_identifier run)

-- the register that a run is, where the operand accepts it
abbrev pub register : Accepted → List SpelledToken → Reading ℕ
register a run = and_then (or_fault BadRegister (register_in run)) (accepted_register a)

-- the control and status register whose name a run is
abbrev pub csr_in : List SpelledToken → Option ℕ
csr_in run = option_and_then csr_named (one_identifier run)

-- each set of a fence with its bits
unfoldable pub set_names : List (ℕ × List ℕ)
set_names = map (λ row. (row.0, row.1.now)) SETS

-- the bits of the set that has the name, in either letter case
unfoldable pub set_named : List ℕ → Option ℕ
set_named text = first_named set_names text

-- the name of the set that the bits are, where there is one
unfoldable pub set_name : ℕ → Option (List ℕ)
set_name n = first_name set_names n

-- the set that a run is
abbrev pub set : List SpelledToken → Reading ℕ
set run = or_fault BadOperand (option_and_then set_named (one_identifier run))
