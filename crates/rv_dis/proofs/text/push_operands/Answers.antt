use Rattle.std.proofs.Common.{ap, ◌∙◌, sym}
use Rattle.rv_ops.specs.declared.op.Shape.TheVariants as shape
use Rattle.rv_ops.specs.Table.{shape_of}
use Rattle.rv_stmt.specs.Forms.{slots_of}
use Rattle.rv_dis.proofs.ByShape.{text_of_shape, room_of_shape}
use Rattle.rv_dis.proofs.text.push_operands.Goals as goal

pub push_register_and_memory-requires : goal.push_register_and_memory-requires
unfolding slots_of
push_register_and_memory-requires c = room_of_shape c.args.address c.args.ins.now.0 c.args.ins.now.1 c.fields-fields.result.now shape.Load c.args.out.now c.requires (sym c.in-Load.is ∙ c.shape.ensures ∙ ap shape_of c.op.ensures.value) c.fields-fields.ensures c.op.ensures.fits

pub returns-in-Load : goal.returns-in-Load
unfolding slots_of
returns-in-Load c = c.push_register_and_memory.ensures ∙ text_of_shape c.args.address c.args.ins.now.0 c.args.ins.now.1 c.fields-fields.result.now shape.Load c.args.out.now c.requires (sym c.in-Load.is ∙ c.shape.ensures ∙ ap shape_of c.op.ensures.value) c.fields-fields.ensures

pub push_register_and_memory-requires-in-CLoad : goal.push_register_and_memory-requires-in-CLoad
unfolding slots_of
push_register_and_memory-requires-in-CLoad c = room_of_shape c.args.address c.args.ins.now.0 c.args.ins.now.1 c.fields-fields.result.now shape.CLoad c.args.out.now c.requires (sym c.in-CLoad.is ∙ c.shape.ensures ∙ ap shape_of c.op.ensures.value) c.fields-fields.ensures c.op.ensures.fits

pub returns-in-CLoad : goal.returns-in-CLoad
unfolding slots_of
returns-in-CLoad c = c.push_register_and_memory-in-CLoad.ensures ∙ text_of_shape c.args.address c.args.ins.now.0 c.args.ins.now.1 c.fields-fields.result.now shape.CLoad c.args.out.now c.requires (sym c.in-CLoad.is ∙ c.shape.ensures ∙ ap shape_of c.op.ensures.value) c.fields-fields.ensures

pub push_register_and_memory-requires-in-Store : goal.push_register_and_memory-requires-in-Store
unfolding slots_of
push_register_and_memory-requires-in-Store c = room_of_shape c.args.address c.args.ins.now.0 c.args.ins.now.1 c.fields-fields.result.now shape.Store c.args.out.now c.requires (sym c.in-Store.is ∙ c.shape.ensures ∙ ap shape_of c.op.ensures.value) c.fields-fields.ensures c.op.ensures.fits

pub returns-in-Store : goal.returns-in-Store
unfolding slots_of
returns-in-Store c = c.push_register_and_memory-in-Store.ensures ∙ text_of_shape c.args.address c.args.ins.now.0 c.args.ins.now.1 c.fields-fields.result.now shape.Store c.args.out.now c.requires (sym c.in-Store.is ∙ c.shape.ensures ∙ ap shape_of c.op.ensures.value) c.fields-fields.ensures

pub push_register_and_memory-requires-in-CStore : goal.push_register_and_memory-requires-in-CStore
unfolding slots_of
push_register_and_memory-requires-in-CStore c = room_of_shape c.args.address c.args.ins.now.0 c.args.ins.now.1 c.fields-fields.result.now shape.CStore c.args.out.now c.requires (sym c.in-CStore.is ∙ c.shape.ensures ∙ ap shape_of c.op.ensures.value) c.fields-fields.ensures c.op.ensures.fits

pub returns-in-CStore : goal.returns-in-CStore
unfolding slots_of
returns-in-CStore c = c.push_register_and_memory-in-CStore.ensures ∙ text_of_shape c.args.address c.args.ins.now.0 c.args.ins.now.1 c.fields-fields.result.now shape.CStore c.args.out.now c.requires (sym c.in-CStore.is ∙ c.shape.ensures ∙ ap shape_of c.op.ensures.value) c.fields-fields.ensures

pub push_register_and_memory-requires-in-CLoadStack : goal.push_register_and_memory-requires-in-CLoadStack
unfolding slots_of
push_register_and_memory-requires-in-CLoadStack c = rw c.stack_pointer.ensures (room_of_shape c.args.address c.args.ins.now.0 c.args.ins.now.1 c.fields-fields.result.now shape.CLoadStack c.args.out.now c.requires (sym c.in-CLoadStack.is ∙ c.shape.ensures ∙ ap shape_of c.op.ensures.value) c.fields-fields.ensures c.op.ensures.fits)

pub returns-in-CLoadStack : goal.returns-in-CLoadStack
unfolding slots_of
returns-in-CLoadStack c = (rw c.stack_pointer.ensures at c.push_register_and_memory-in-CLoadStack.ensures) ∙ text_of_shape c.args.address c.args.ins.now.0 c.args.ins.now.1 c.fields-fields.result.now shape.CLoadStack c.args.out.now c.requires (sym c.in-CLoadStack.is ∙ c.shape.ensures ∙ ap shape_of c.op.ensures.value) c.fields-fields.ensures

pub push_register_and_memory-requires-in-CStoreStack : goal.push_register_and_memory-requires-in-CStoreStack
unfolding slots_of
push_register_and_memory-requires-in-CStoreStack c = rw c.stack_pointer-in-CStoreStack.ensures (room_of_shape c.args.address c.args.ins.now.0 c.args.ins.now.1 c.fields-fields.result.now shape.CStoreStack c.args.out.now c.requires (sym c.in-CStoreStack.is ∙ c.shape.ensures ∙ ap shape_of c.op.ensures.value) c.fields-fields.ensures c.op.ensures.fits)

pub returns-in-CStoreStack : goal.returns-in-CStoreStack
unfolding slots_of
returns-in-CStoreStack c = (rw c.stack_pointer-in-CStoreStack.ensures at c.push_register_and_memory-in-CStoreStack.ensures) ∙ text_of_shape c.args.address c.args.ins.now.0 c.args.ins.now.1 c.fields-fields.result.now shape.CStoreStack c.args.out.now c.requires (sym c.in-CStoreStack.is ∙ c.shape.ensures ∙ ap shape_of c.op.ensures.value) c.fields-fields.ensures

pub push_registers-requires : goal.push_registers-requires
unfolding slots_of
push_registers-requires c = room_of_shape c.args.address c.args.ins.now.0 c.args.ins.now.1 c.fields-fields.result.now shape.CTwoRegisters c.args.out.now c.requires (sym c.in-CTwoRegisters.is ∙ c.shape.ensures ∙ ap shape_of c.op.ensures.value) c.fields-fields.ensures c.op.ensures.fits

pub returns-in-CTwoRegisters : goal.returns-in-CTwoRegisters
unfolding slots_of
returns-in-CTwoRegisters c = c.push_registers.ensures ∙ text_of_shape c.args.address c.args.ins.now.0 c.args.ins.now.1 c.fields-fields.result.now shape.CTwoRegisters c.args.out.now c.requires (sym c.in-CTwoRegisters.is ∙ c.shape.ensures ∙ ap shape_of c.op.ensures.value) c.fields-fields.ensures

pub push_registers-requires-in-CRegisters : goal.push_registers-requires-in-CRegisters
unfolding slots_of
push_registers-requires-in-CRegisters c = room_of_shape c.args.address c.args.ins.now.0 c.args.ins.now.1 c.fields-fields.result.now shape.CRegisters c.args.out.now c.requires (sym c.in-CRegisters.is ∙ c.shape.ensures ∙ ap shape_of c.op.ensures.value) c.fields-fields.ensures c.op.ensures.fits

pub returns-in-CRegisters : goal.returns-in-CRegisters
unfolding slots_of
returns-in-CRegisters c = c.push_registers-in-CRegisters.ensures ∙ text_of_shape c.args.address c.args.ins.now.0 c.args.ins.now.1 c.fields-fields.result.now shape.CRegisters c.args.out.now c.requires (sym c.in-CRegisters.is ∙ c.shape.ensures ∙ ap shape_of c.op.ensures.value) c.fields-fields.ensures

pub push_register_and_decimal-requires : goal.push_register_and_decimal-requires
unfolding slots_of
push_register_and_decimal-requires c = room_of_shape c.args.address c.args.ins.now.0 c.args.ins.now.1 c.fields-fields.result.now shape.CImmediate c.args.out.now c.requires (sym c.in-CImmediate.is ∙ c.shape.ensures ∙ ap shape_of c.op.ensures.value) c.fields-fields.ensures c.op.ensures.fits

pub returns-in-CImmediate : goal.returns-in-CImmediate
unfolding slots_of
returns-in-CImmediate c = c.push_register_and_decimal.ensures ∙ text_of_shape c.args.address c.args.ins.now.0 c.args.ins.now.1 c.fields-fields.result.now shape.CImmediate c.args.out.now c.requires (sym c.in-CImmediate.is ∙ c.shape.ensures ∙ ap shape_of c.op.ensures.value) c.fields-fields.ensures

pub push_register_and_decimal-requires-in-CLoadImmediate : goal.push_register_and_decimal-requires-in-CLoadImmediate
unfolding slots_of
push_register_and_decimal-requires-in-CLoadImmediate c = room_of_shape c.args.address c.args.ins.now.0 c.args.ins.now.1 c.fields-fields.result.now shape.CLoadImmediate c.args.out.now c.requires (sym c.in-CLoadImmediate.is ∙ c.shape.ensures ∙ ap shape_of c.op.ensures.value) c.fields-fields.ensures c.op.ensures.fits

pub returns-in-CLoadImmediate : goal.returns-in-CLoadImmediate
unfolding slots_of
returns-in-CLoadImmediate c = c.push_register_and_decimal-in-CLoadImmediate.ensures ∙ text_of_shape c.args.address c.args.ins.now.0 c.args.ins.now.1 c.fields-fields.result.now shape.CLoadImmediate c.args.out.now c.requires (sym c.in-CLoadImmediate.is ∙ c.shape.ensures ∙ ap shape_of c.op.ensures.value) c.fields-fields.ensures

pub push_register_and_decimal-requires-in-CShiftLeft : goal.push_register_and_decimal-requires-in-CShiftLeft
unfolding slots_of
push_register_and_decimal-requires-in-CShiftLeft c = room_of_shape c.args.address c.args.ins.now.0 c.args.ins.now.1 c.fields-fields.result.now shape.CShiftLeft c.args.out.now c.requires (sym c.in-CShiftLeft.is ∙ c.shape.ensures ∙ ap shape_of c.op.ensures.value) c.fields-fields.ensures c.op.ensures.fits

pub returns-in-CShiftLeft : goal.returns-in-CShiftLeft
unfolding slots_of
returns-in-CShiftLeft c = c.push_register_and_decimal-in-CShiftLeft.ensures ∙ text_of_shape c.args.address c.args.ins.now.0 c.args.ins.now.1 c.fields-fields.result.now shape.CShiftLeft c.args.out.now c.requires (sym c.in-CShiftLeft.is ∙ c.shape.ensures ∙ ap shape_of c.op.ensures.value) c.fields-fields.ensures

pub push_register_and_decimal-requires-in-CShiftRight : goal.push_register_and_decimal-requires-in-CShiftRight
unfolding slots_of
push_register_and_decimal-requires-in-CShiftRight c = room_of_shape c.args.address c.args.ins.now.0 c.args.ins.now.1 c.fields-fields.result.now shape.CShiftRight c.args.out.now c.requires (sym c.in-CShiftRight.is ∙ c.shape.ensures ∙ ap shape_of c.op.ensures.value) c.fields-fields.ensures c.op.ensures.fits

pub returns-in-CShiftRight : goal.returns-in-CShiftRight
unfolding slots_of
returns-in-CShiftRight c = c.push_register_and_decimal-in-CShiftRight.ensures ∙ text_of_shape c.args.address c.args.ins.now.0 c.args.ins.now.1 c.fields-fields.result.now shape.CShiftRight c.args.out.now c.requires (sym c.in-CShiftRight.is ∙ c.shape.ensures ∙ ap shape_of c.op.ensures.value) c.fields-fields.ensures

pub push_register_and_decimal-requires-in-CAndImmediate : goal.push_register_and_decimal-requires-in-CAndImmediate
unfolding slots_of
push_register_and_decimal-requires-in-CAndImmediate c = room_of_shape c.args.address c.args.ins.now.0 c.args.ins.now.1 c.fields-fields.result.now shape.CAndImmediate c.args.out.now c.requires (sym c.in-CAndImmediate.is ∙ c.shape.ensures ∙ ap shape_of c.op.ensures.value) c.fields-fields.ensures c.op.ensures.fits

pub returns-in-CAndImmediate : goal.returns-in-CAndImmediate
unfolding slots_of
returns-in-CAndImmediate c = c.push_register_and_decimal-in-CAndImmediate.ensures ∙ text_of_shape c.args.address c.args.ins.now.0 c.args.ins.now.1 c.fields-fields.result.now shape.CAndImmediate c.args.out.now c.requires (sym c.in-CAndImmediate.is ∙ c.shape.ensures ∙ ap shape_of c.op.ensures.value) c.fields-fields.ensures

pub push_registers_and_decimal-requires : goal.push_registers_and_decimal-requires
unfolding slots_of
push_registers_and_decimal-requires c = room_of_shape c.args.address c.args.ins.now.0 c.args.ins.now.1 c.fields-fields.result.now shape.Immediate c.args.out.now c.requires (sym c.in-Immediate.is ∙ c.shape.ensures ∙ ap shape_of c.op.ensures.value) c.fields-fields.ensures c.op.ensures.fits

pub returns-in-Immediate : goal.returns-in-Immediate
unfolding slots_of
returns-in-Immediate c = c.push_registers_and_decimal.ensures ∙ text_of_shape c.args.address c.args.ins.now.0 c.args.ins.now.1 c.fields-fields.result.now shape.Immediate c.args.out.now c.requires (sym c.in-Immediate.is ∙ c.shape.ensures ∙ ap shape_of c.op.ensures.value) c.fields-fields.ensures

pub push_registers_and_decimal-requires-in-Shift : goal.push_registers_and_decimal-requires-in-Shift
unfolding slots_of
push_registers_and_decimal-requires-in-Shift c = room_of_shape c.args.address c.args.ins.now.0 c.args.ins.now.1 c.fields-fields.result.now shape.Shift c.args.out.now c.requires (sym c.in-Shift.is ∙ c.shape.ensures ∙ ap shape_of c.op.ensures.value) c.fields-fields.ensures c.op.ensures.fits

pub returns-in-Shift : goal.returns-in-Shift
unfolding slots_of
returns-in-Shift c = c.push_registers_and_decimal-in-Shift.ensures ∙ text_of_shape c.args.address c.args.ins.now.0 c.args.ins.now.1 c.fields-fields.result.now shape.Shift c.args.out.now c.requires (sym c.in-Shift.is ∙ c.shape.ensures ∙ ap shape_of c.op.ensures.value) c.fields-fields.ensures

pub push_registers_and_target-requires : goal.push_registers_and_target-requires
unfolding slots_of
push_registers_and_target-requires c = room_of_shape c.args.address c.args.ins.now.0 c.args.ins.now.1 c.fields-fields.result.now shape.Branch c.args.out.now c.requires (sym c.in-Branch.is ∙ c.shape.ensures ∙ ap shape_of c.op.ensures.value) c.fields-fields.ensures c.op.ensures.fits

pub returns-in-Branch : goal.returns-in-Branch
unfolding slots_of
returns-in-Branch c = c.push_registers_and_target.ensures ∙ text_of_shape c.args.address c.args.ins.now.0 c.args.ins.now.1 c.fields-fields.result.now shape.Branch c.args.out.now c.requires (sym c.in-Branch.is ∙ c.shape.ensures ∙ ap shape_of c.op.ensures.value) c.fields-fields.ensures

pub push_register_and_target-requires : goal.push_register_and_target-requires
unfolding slots_of
push_register_and_target-requires c = room_of_shape c.args.address c.args.ins.now.0 c.args.ins.now.1 c.fields-fields.result.now shape.Jump c.args.out.now c.requires (sym c.in-Jump.is ∙ c.shape.ensures ∙ ap shape_of c.op.ensures.value) c.fields-fields.ensures c.op.ensures.fits

pub returns-in-Jump : goal.returns-in-Jump
unfolding slots_of
returns-in-Jump c = c.push_register_and_target.ensures ∙ text_of_shape c.args.address c.args.ins.now.0 c.args.ins.now.1 c.fields-fields.result.now shape.Jump c.args.out.now c.requires (sym c.in-Jump.is ∙ c.shape.ensures ∙ ap shape_of c.op.ensures.value) c.fields-fields.ensures

pub push_register_and_target-requires-in-CBranch : goal.push_register_and_target-requires-in-CBranch
unfolding slots_of
push_register_and_target-requires-in-CBranch c = room_of_shape c.args.address c.args.ins.now.0 c.args.ins.now.1 c.fields-fields.result.now shape.CBranch c.args.out.now c.requires (sym c.in-CBranch.is ∙ c.shape.ensures ∙ ap shape_of c.op.ensures.value) c.fields-fields.ensures c.op.ensures.fits

pub returns-in-CBranch : goal.returns-in-CBranch
unfolding slots_of
returns-in-CBranch c = c.push_register_and_target-in-CBranch.ensures ∙ text_of_shape c.args.address c.args.ins.now.0 c.args.ins.now.1 c.fields-fields.result.now shape.CBranch c.args.out.now c.requires (sym c.in-CBranch.is ∙ c.shape.ensures ∙ ap shape_of c.op.ensures.value) c.fields-fields.ensures

pub push_register_and_memory-requires-in-JumpRegister : goal.push_register_and_memory-requires-in-JumpRegister
unfolding slots_of
push_register_and_memory-requires-in-JumpRegister c = room_of_shape c.args.address c.args.ins.now.0 c.args.ins.now.1 c.fields-fields.result.now shape.JumpRegister c.args.out.now c.requires (sym c.in-JumpRegister.is ∙ c.shape.ensures ∙ ap shape_of c.op.ensures.value) c.fields-fields.ensures c.op.ensures.fits

pub returns-in-JumpRegister : goal.returns-in-JumpRegister
unfolding slots_of
returns-in-JumpRegister c = c.push_register_and_memory-in-JumpRegister.ensures ∙ text_of_shape c.args.address c.args.ins.now.0 c.args.ins.now.1 c.fields-fields.result.now shape.JumpRegister c.args.out.now c.requires (sym c.in-JumpRegister.is ∙ c.shape.ensures ∙ ap shape_of c.op.ensures.value) c.fields-fields.ensures

pub push_three_registers-requires : goal.push_three_registers-requires
unfolding slots_of
push_three_registers-requires c = room_of_shape c.args.address c.args.ins.now.0 c.args.ins.now.1 c.fields-fields.result.now shape.Register c.args.out.now c.requires (sym c.in-Register.is ∙ c.shape.ensures ∙ ap shape_of c.op.ensures.value) c.fields-fields.ensures c.op.ensures.fits

pub returns-in-Register : goal.returns-in-Register
unfolding slots_of
returns-in-Register c = c.push_three_registers.ensures ∙ text_of_shape c.args.address c.args.ins.now.0 c.args.ins.now.1 c.fields-fields.result.now shape.Register c.args.out.now c.requires (sym c.in-Register.is ∙ c.shape.ensures ∙ ap shape_of c.op.ensures.value) c.fields-fields.ensures

pub push_register-requires : goal.push_register-requires
unfolding slots_of
push_register-requires c = room_of_shape c.args.address c.args.ins.now.0 c.args.ins.now.1 c.fields-fields.result.now shape.CJumpRegister c.args.out.now c.requires (sym c.in-CJumpRegister.is ∙ c.shape.ensures ∙ ap shape_of c.op.ensures.value) c.fields-fields.ensures c.op.ensures.fits

pub returns-in-CJumpRegister : goal.returns-in-CJumpRegister
unfolding slots_of
returns-in-CJumpRegister c = c.push_register.ensures ∙ text_of_shape c.args.address c.args.ins.now.0 c.args.ins.now.1 c.fields-fields.result.now shape.CJumpRegister c.args.out.now c.requires (sym c.in-CJumpRegister.is ∙ c.shape.ensures ∙ ap shape_of c.op.ensures.value) c.fields-fields.ensures

pub push_target-requires : goal.push_target-requires
unfolding slots_of
push_target-requires c = room_of_shape c.args.address c.args.ins.now.0 c.args.ins.now.1 c.fields-fields.result.now shape.CJump c.args.out.now c.requires (sym c.in-CJump.is ∙ c.shape.ensures ∙ ap shape_of c.op.ensures.value) c.fields-fields.ensures c.op.ensures.fits

pub returns-in-CJump : goal.returns-in-CJump
unfolding slots_of
returns-in-CJump c = c.push_target.ensures ∙ text_of_shape c.args.address c.args.ins.now.0 c.args.ins.now.1 c.fields-fields.result.now shape.CJump c.args.out.now c.requires (sym c.in-CJump.is ∙ c.shape.ensures ∙ ap shape_of c.op.ensures.value) c.fields-fields.ensures
