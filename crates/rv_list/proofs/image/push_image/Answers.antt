use Rattle.std.proofs.Common.{◌<◌, arith}
use Rattle.std.proofs.lemmas.Grind.{common_steps}
use Rattle.std.proofs.lemmas.Result.{err_from_is_err_and}
use Rattle.rv_layout.specs.Sections.{sections}
use Rattle.rv_list.specs.Image.{section_text, image_text}
use Rattle.rv_list.proofs.Joined.{lost_next, gathered_next}
use Rattle.rv_list.proofs.image.push_image.Goals as goal

pub returns-in_err-push_section-clause-text : goal.returns-in_err-push_section-clause-text
unfolding image_text
returns-in_err-push_section-clause-text g c =
    let p = err_from_is_err_and c.from_residual.result c.from_residual.ensures.1 in
    let within : c.loop-section.section < sections = omega (arith, c.loop-section-test.true) in
    rw p.1 (lost_next (section_text (g.V.View.shown c.args.view.now)) c.loop-section.section sections _ _ _ _ _ within c.loop-section.invariant.waits c.in_err-push_section.ensures.text)

pub loop-section-preserved : goal.loop-section-preserved
loop-section-preserved g c = record {
  waits = gathered_next (section_text (g.V.View.shown c.args.view.now)) c.loop-section.section _ _ _ _ _ _ c.loop-section.invariant.waits c.in_ok-push_section.ensures.text;
  failures = grind (arith, common_steps, c.in_ok-push_section.ensures.count);
}
