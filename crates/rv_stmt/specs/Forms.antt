-- The ways in which the instructions of a mnemonic are written. (docs/LANGUAGE.md, Instructions)
use denote.Enum.Declared.{tag_of}
use Rattle.std.specs.Prelude.{ℕ, ℤ, pos, Bool, true, false, ◌&&◌, nat_lt, List, [], ◌∷◌, ◌++◌, map, length, Option, Some, None, Result, Ok, Err, slice_index_or, if◌then◌else◌}
use Rattle.std.specs.Str.{str_eq_ignore_ascii_case}
use Rattle.rv_text.specs.declared.faults.FaultNumber.{FaultNumber}
use Rattle.rv_text.specs.declared.faults.FaultNumber.TheVariants as faults
use Rattle.rv_code.specs.declared.instruction.Fields.{Fields}
use Rattle.rv_ops.specs.Table.{shape_of, operation_named}
use Rattle.rv_ops.specs.declared.op.Op.{Op}
use Rattle.rv_ops.specs.declared.op.Shape.{Shape}
use Rattle.rv_ops.specs.declared.op.Shape.TheVariants.{Upper}
use Rattle.rv_ops.specs.contracts.op.Shape.{the_type as shape_type}
use Rattle.rv_stmt.specs.declared.operand_count.OperandCount.{OperandCount}
use Rattle.rv_stmt.specs.declared.operand_count.OperandCount.TheVariants.{Exactly}
use Rattle.rv_stmt.specs.declared.forms.TheConstants.{FORMS}
use Rattle.rv_stmt.specs.declared.slots.Slot.{Slot}
use Rattle.rv_stmt.specs.declared.slots.TheConstants.{OPERANDS}
use Rattle.rv_stmt.specs.Draft.{fields}
use Rattle.rv_stmt.specs.OperandCounts.{takes}

-- the operands of a shape, in the order in which they are written: the table is in the order of the shapes
unfoldable pub slots_of : Shape → List Slot
slots_of s = (slice_index_or OPERANDS (tag_of shape_type s) (Upper, record { now = [] })).1.now

-- a way to write an instruction: its operation, the fields where no operand fills them, and the operands. It is the
-- operation's own way, or one of another mnemonic, with operands left out or in a further way.
pub record Form : Type 0 where
  pub own : Bool
  pub op : Op
  pub fields : Fields
  pub slots : List Slot

-- the operation's own way
abbrev pub own_form : Op → Form
own_form op =
    record { own = true; op = op; fields = fields 0 0 0 (pos 0); slots = slots_of (shape_of op) }

-- the own way of the operation that has the mnemonic, if there is one
abbrev pub own_forms : Option Op → List Form
own_forms None = []
own_forms (Some op) = own_form op ∷ []

-- a mnemonic with a way that is not the operation's own
abbrev pub named_form : List ℕ → Op → ℕ × ℕ × ℕ × ℤ → List Slot → List ℕ × Form
named_form name op f slots =
    (name, record { own = false; op = op; fields = fields f.0 f.1 f.2 f.3; slots = slots })

-- the mnemonics with the other ways
unfoldable pub other_forms : List (List ℕ × Form)
other_forms = map (λ row. named_form row.0.now row.1 row.2 row.3.now) FORMS

-- the first three are numbers of registers
abbrev pub has_registers : ℕ × ℕ × ℕ × ℤ → Bool
has_registers f = nat_lt f.0 32 && nat_lt f.1 32 && nat_lt f.2 32

-- what stands beside the mnemonic, in either letter case
abbrev pub forms_named : List (List ℕ × Form) → List ℕ → List Form
forms_named [] name = []
forms_named (row ∷ rows) name =
    if str_eq_ignore_ascii_case row.0 name then row.1 ∷ forms_named rows name else forms_named rows name

-- all the ways of a mnemonic
abbrev pub forms_of : List ℕ → List Form
forms_of name = own_forms (operation_named name) ++ forms_named other_forms name

-- how many operands a way takes: one for each slot
abbrev pub operand_count : Form → OperandCount
operand_count f = Exactly (length f.slots)

-- the first way that takes so many operands, or a fault
abbrev pub first_of_count : FaultNumber → ℕ → List Form → Result Form FaultNumber
first_of_count fault count [] = Err fault
first_of_count fault count (f ∷ fs) =
    if takes (operand_count f) count then Ok f else first_of_count faults.OperandCount count fs

-- the way of a mnemonic that takes so many operands
abbrev pub form_of : List ℕ → ℕ → Result Form FaultNumber
form_of name count = first_of_count faults.UnknownName count (forms_of name)
