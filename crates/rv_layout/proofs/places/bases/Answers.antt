use Rattle.std.proofs.Common.{slice_index, arith, ◌∙◌}
use Rattle.rv_layout.specs.Effects.{offset_reached}
use Rattle.rv_layout.specs.PlaceLaws.{bases_agree, sums_agree}
use Rattle.rv_layout.specs.Sections.{sections}
use Rattle.rv_layout.proofs.places.bases.Goals as goal

pub bases_by_ends-requires-clause-ends : goal.bases_by_ends-requires-clause-ends
bases_by_ends-requires-clause-ends c =
    omega (arith, sums_agree (slice_index c.ends_of.result) (offset_reached c.args.total.now) sections sections (omega arith) c.ends_of.ensures, c.requires.ends)

pub returns : goal.returns
returns c t l =
    c.bases_by_ends.ensures t l
    ∙ bases_agree c.args.base (slice_index c.ends_of.result) (offset_reached c.args.total.now) t sections (omega (arith, l)) c.ends_of.ensures
