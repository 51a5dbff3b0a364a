use Rattle.std.proofs.Common.{length, ap, ◌∙◌, ◌-◌, get_or, take, drop, map, arith, length-append}
use Rattle.std.specs.Prelude.{codes}
use Rattle.rv_ops.specs.Table.{shape_of}
use Rattle.rv_stmt.specs.declared.slots.Slot.TheVariants.{Rd}
use Rattle.rv_stmt.specs.Forms.{slots_of}
use Rattle.rv_dis.specs.Text.{after_comma, operand_text, instruction_text}
use Rattle.rv_dis.proofs.Joining.{name_alone, text_begins, operands_go_on, operands_end}
use Rattle.rv_dis.proofs.Lengths.{text_short, first_fits, next_fits}
use Rattle.rv_dis.proofs.text.push_in_turn.Goals as goal

pub returns-in_default : goal.returns-in_default
returns-in_default c = name_alone c.args.address c.args.ins.now.0 c.args.ins.now.1 c.args.out.now c.operand_slots.result.now
    c.requires
    (c.operand_slots.ensures ∙ ap slots_of (c.shape.ensures ∙ ap shape_of c.op.ensures.value))
    c.in_default.len_below

pub push_str-requires : goal.push_str-requires
push_str-requires c =
    let begins = text_begins c.args.address c.args.ins.now.0 c.args.ins.now.1 c.args.out.now c.operand_slots.result.now Rd
    c.requires
    (c.operand_slots.ensures ∙ ap slots_of (c.shape.ensures ∙ ap shape_of c.op.ensures.value))
    c.in-len1-up.len_at_least in
    omega (arith, first_fits c.args.out.now (operand_text c.args.address (shape_of c.args.ins.now.0) c.args.ins.now.1 (get_or c.operand_slots.result.now 0 Rd)) (after_comma (map (operand_text c.args.address (shape_of c.args.ins.now.0) c.args.ins.now.1) (take (length c.operand_slots.result.now - 1) (drop 1 c.operand_slots.result.now)))) (instruction_text c.args.address c.args.ins.now.0 c.args.ins.now.1) begins (text_short c.args.address c.args.ins.now.0 c.args.ins.now.1 c.op.ensures.fits))

pub push_operand-requires : goal.push_operand-requires
push_operand-requires c =
    let begins = text_begins c.args.address c.args.ins.now.0 c.args.ins.now.1 c.args.out.now c.operand_slots.result.now Rd
    c.requires
    (c.operand_slots.ensures ∙ ap slots_of (c.shape.ensures ∙ ap shape_of c.op.ensures.value))
    c.in-len1-up.len_at_least in
    let room = first_fits c.args.out.now (operand_text c.args.address (shape_of c.args.ins.now.0) c.args.ins.now.1 (get_or c.operand_slots.result.now 0 Rd)) (after_comma (map (operand_text c.args.address (shape_of c.args.ins.now.0) c.args.ins.now.1) (take (length c.operand_slots.result.now - 1) (drop 1 c.operand_slots.result.now)))) (instruction_text c.args.address c.args.ins.now.0 c.args.ins.now.1) begins (text_short c.args.address c.args.ins.now.0 c.args.ins.now.1 c.op.ensures.fits) in
    omega (arith, room, ap length c.push_str.ensures, length-append c.args.out.now (codes " "))

pub loop-slot-init : goal.loop-slot-init
loop-slot-init c =
    let begins = text_begins c.args.address c.args.ins.now.0 c.args.ins.now.1 c.args.out.now c.operand_slots.result.now Rd
    c.requires
    (c.operand_slots.ensures ∙ ap slots_of (c.shape.ensures ∙ ap shape_of c.op.ensures.value))
    c.in-len1-up.len_at_least in
    rw (c.push_operand.ensures, c.push_str.ensures) begins

pub push_str-requires-in-loop-slot : goal.push_str-requires-in-loop-slot
push_str-requires-in-loop-slot c =
    let room = next_fits (operand_text c.args.address (shape_of c.args.ins.now.0) c.args.ins.now.1) (take (length c.operand_slots.result.now - 1) (drop 1 c.operand_slots.result.now)) c.loop-slot.slot-index Rd c.loop-slot.out (instruction_text c.args.address c.args.ins.now.0 c.args.ins.now.1)
    (omega arith) c.loop-slot.invariant (text_short c.args.address c.args.ins.now.0 c.args.ins.now.1 c.op.ensures.fits) in
    omega (arith, room)

pub push_operand-requires-in-loop-slot : goal.push_operand-requires-in-loop-slot
push_operand-requires-in-loop-slot c =
    let room = next_fits (operand_text c.args.address (shape_of c.args.ins.now.0) c.args.ins.now.1) (take (length c.operand_slots.result.now - 1) (drop 1 c.operand_slots.result.now)) c.loop-slot.slot-index Rd c.loop-slot.out (instruction_text c.args.address c.args.ins.now.0 c.args.ins.now.1)
    (omega arith) c.loop-slot.invariant (text_short c.args.address c.args.ins.now.0 c.args.ins.now.1 c.op.ensures.fits) in
    omega (arith, room, ap length c.push_str-in-loop-slot.ensures, length-append c.loop-slot.out (codes ", "))

pub loop-slot-preserved : goal.loop-slot-preserved
loop-slot-preserved c = operands_go_on (operand_text c.args.address (shape_of c.args.ins.now.0) c.args.ins.now.1) (take (length c.operand_slots.result.now - 1) (drop 1 c.operand_slots.result.now)) c.loop-slot.slot-index Rd c.loop-slot.out c.push_str-in-loop-slot.new.self c.push_operand-in-loop-slot.new.out (instruction_text c.args.address c.args.ins.now.0 c.args.ins.now.1)
    (omega arith) c.push_str-in-loop-slot.ensures c.push_operand-in-loop-slot.ensures c.loop-slot.invariant

pub returns : goal.returns
returns c = operands_end (operand_text c.args.address (shape_of c.args.ins.now.0) c.args.ins.now.1) (take (length c.operand_slots.result.now - 1) (drop 1 c.operand_slots.result.now)) c.loop-slot.slot-index c.loop-slot.out (instruction_text c.args.address c.args.ins.now.0 c.args.ins.now.1) (omega arith) c.loop-slot.invariant
