use Rattle.std.proofs.Common.{◌≡◌, length}
use Rattle.rv_stmt.specs.Slots.{slots_read}
use Rattle.rv_stmt.proofs.draft.Draft.read_operands.Given as goal

-- what is read so far, and then what is left
abbrev pub invariant-loop-slots : goal.invariant-loop-slots
invariant-loop-slots l =
    slots_read l.op l.slots l.runs l.draft ≡ slots_read l.op l.initial.slots l.initial.runs l.initial.draft

abbrev pub decreases-loop-slots : goal.decreases-loop-slots
decreases-loop-slots l = length l.slots
