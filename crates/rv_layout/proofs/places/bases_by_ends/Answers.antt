use Rattle.std.proofs.Common.{◌<◌, length, arith, suc, ◌+◌, ◌≡◌, ap, ◌∙◌, slice_index}
use Rattle.std.proofs.lemmas.List.{length-set}
use Rattle.rv_layout.specs.Places.{base_from}
use Rattle.rv_layout.specs.Rounding.{round_up}
use Rattle.rv_layout.specs.Sections.{sections}
use Rattle.rv_layout.specs.BaseLaws.{row-more, base-bound, base_from-fits}
use Rattle.rv_layout.proofs.places.bases_by_ends.Goals as goal

pub next_base-next-requires : goal.next_base-next-requires
next_base-next-requires c =
    let fits = base_from-fits c.args.base (slice_index c.args.ends.now) c.loop-section.section sections c.loop-section-test.true (omega arith) (base-bound c.args.base c.requires.base) c.requires.ends in
    omega (arith, fits, c.loop-section.invariant.next)

pub loop-section-preserved : goal.loop-section-preserved
loop-section-preserved c =
    let t = c.loop-section.section in
    let base = base_from c.args.base (slice_index c.args.ends.now) in
    let within : t < length c.loop-section.bases = omega (arith, c.loop-section-test.true, c.loop-section.invariant.count) in
    let more : suc t ≡ t + 1 = omega arith in
    record {
      count = length-set c.loop-section.bases t c.loop-section.next ∙ c.loop-section.invariant.count;
      so_far = row-more c.loop-section.bases base t c.loop-section.next within c.loop-section.invariant.next c.loop-section.invariant.so_far;
      next =
          c.next_base-next.ensures
          ∙ ap (λ n. round_up (n + slice_index c.args.ends.now t) 4096) c.loop-section.invariant.next
          ∙ ap base more;
    }
