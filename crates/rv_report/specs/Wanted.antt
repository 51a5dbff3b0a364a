-- What a statement wants where a name stands that is a register's.
use Rattle.std.specs.Prelude.{ℕ, Bool, true, false, List, [], ◌++◌, Option, Some, None, codes, if◌then◌else◌}
use Rattle.rv_ops.specs.Table.{shape_of}
use Rattle.rv_ops.specs.declared.op.Shape.{Shape}
use Rattle.rv_ops.specs.declared.op.Shape.TheVariants as shape
use Rattle.rv_stmt.specs.declared.operand.Operand.{Operand}
use Rattle.rv_stmt.specs.declared.operand.Role.{Role}
use Rattle.rv_stmt.specs.declared.operand.Role.TheVariants.{Immediate, Target, PairTarget}
use Rattle.rv_stmt.specs.declared.statement.Body.{Body}
use Rattle.rv_stmt.specs.declared.statement.Body.TheVariants.{Instr, Pseudo}
use Rattle.rv_show.specs.Texts.{about}
use Rattle.rv_report.specs.declared.advice.Topic.TheVariants.{RegisterGiven}
use Rattle.rv_report.specs.declared.wanted.Wanted.{Wanted}
use Rattle.rv_report.specs.declared.wanted.Wanted.TheVariants.{Number, Address, Csr}
use Rattle.rv_report.specs.Advice.{advice}

-- the value is the number of a control and status register
abbrev pub is_csr_shape : Shape → Bool
is_csr_shape shape.Csr = true
is_csr_shape shape.CsrImmediate = true
is_csr_shape s = false

abbrev pub takes_csr : Body → Bool
takes_csr (Instr i) = is_csr_shape (shape_of i.op)
takes_csr (Pseudo i) = is_csr_shape (shape_of i.op)
takes_csr body = false

-- what an operand is in its role
abbrev pub wanted_in : Body → Role → Wanted
wanted_in body Target = Address
wanted_in body PairTarget = Address
wanted_in body Immediate = if takes_csr body then Csr else Number
wanted_in body role = Number

abbrev pub wanted_of : Body → Option Operand → Wanted
wanted_of body None = Number
wanted_of body (Some o) = wanted_in body o.role

abbrev pub wanted_text : Wanted → List ℕ
wanted_text Number = codes " takes a number here"
wanted_text Address = codes " takes an address here"
wanted_text Csr = codes " takes a control and status register here"

-- a register in the place of something else
unfoldable pub register_given : (statement : List ℕ) → Wanted → (name : List ℕ) → List ℕ
register_given statement wanted name =
    about [] name (codes " is a register; ") ++ (about [] statement (wanted_text wanted) ++ advice RegisterGiven statement)
