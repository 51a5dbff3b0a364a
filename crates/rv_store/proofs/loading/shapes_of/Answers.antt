use Rattle.std.proofs.Common.{◌≡◌, length, arith, subst, ◌∙◌}
use Rattle.rv_program.specs.Program.{program_of}
use Rattle.rv_program.specs.internal.Work.{constant_operands}
use Rattle.rv_program.specs.lemmas.ShapeWork.{operands-next}
use Rattle.rv_store.specs.internal.Drafts.{AreShapedThrough}
use Rattle.rv_store.proofs.loading.shapes_of.Goals as goal

pub loop-i-preserved : goal.loop-i-preserved
loop-i-preserved g c =
    let before = c.loop-i.invariant in
    let one = c.push_shape.ensures in
    record {
      shaped = one.after;
      room = omega (arith, one.room, before.room);
      as_many = one.as_many;
      least = omega (arith, before.least, one.least);
      most = omega (arith, before.most, one.two);
      operands = omega (arith, before.operands, one.operands, operands-next constant_operands (program_of c.args.lines.now) c.loop-i.i);
      parsed = one.parsed ∙ before.parsed;
      encoded = one.encoded ∙ before.encoded;
    }

pub returns-clause-shapes : goal.returns-clause-shapes
returns-clause-shapes g c =
    let all : c.loop-i.i ≡ length c.args.lines.now = omega (arith, c.loop-i-test.false, c.loop-i.auto.i-end) in
    subst (λ n. AreShapedThrough c.args.lines.now c.args.names.now n c.loop-i.rows) all c.loop-i.invariant.shaped
