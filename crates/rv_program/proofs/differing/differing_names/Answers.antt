use Rattle.std.proofs.Common.{arith, subst, sym, ◌∙◌}
use Rattle.rv_program.specs.internal.Before.{base_before, lines_before, edit_on}
use Rattle.rv_program.specs.internal.Differing.{Tells}
use Rattle.rv_program.proofs.DifferingNames.{below-none, below-added, all-below}
use Rattle.rv_program.proofs.differing.differing_names.Goals as goal

pub loop-number-init : goal.loop-number-init
loop-number-init c = record {
  within = omega arith;
  shift = c.before.in_ok-differing.ensures.shift;
  so_far = below-none c.args.before.now c.args.after.now c.requires.before c.requires.rows c.requires.after c.before.in_ok-differing.differing c.before.in_ok-differing.ensures.none;
}

pub loop-number-preserved : goal.loop-number-preserved
loop-number-preserved c =
    let before = c.args.before.now in
    let same = c.loop-number.invariant.shift in
    record {
      within = omega (arith, c.loop-number-test.true);
      shift = c.add.ensures.shift ∙ same;
      so_far = below-added c.args.before.now c.args.after.now.text.names.now c.loop-number.number c.loop-number.differing c.add.new.self c.add.ensures.shift c.loop-number.invariant.so_far
          c.add.ensures.kept c.mark_of-mark.result c.bucket-bucket.result c.add.ensures.added c.bucket-bucket.ensures.bucket
          (λ name numbered. subst (λ shift. Tells (base_before before) (lines_before before) (edit_on before) shift c.mark_of-mark.result name) (sym same) (c.mark_of-mark.ensures name numbered));
    }

pub returns : goal.returns
returns c =
    all-below c.args.before.now c.args.after.now c.requires.before c.requires.rows c.requires.after c.loop-number.differing c.loop-number.number (omega (arith, c.loop-number-test.false)) c.loop-number.invariant.so_far
