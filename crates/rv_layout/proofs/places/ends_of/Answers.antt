use Rattle.std.proofs.Common.{◌<◌, length, arith, ◌∙◌}
use Rattle.std.proofs.lemmas.List.{length-set}
use Rattle.rv_layout.specs.BaseLaws.{row-more}
use Rattle.rv_layout.specs.Effects.{offset_reached}
use Rattle.rv_layout.proofs.places.ends_of.Goals as goal

pub loop-section-preserved : goal.loop-section-preserved
loop-section-preserved c =
    let t = c.loop-section.section in
    let within : t < length c.loop-section.ends = omega (arith, c.loop-section-test.true, c.loop-section.invariant.count) in
    record {
      count = length-set c.loop-section.ends t c.offset.result ∙ c.loop-section.invariant.count;
      so_far = row-more c.loop-section.ends (offset_reached c.args.total.now) t c.offset.result within c.offset.ensures c.loop-section.invariant.so_far;
    }
