use Rattle.std.proofs.Common.{◌∙◌}
use Rattle.rv_store.proofs.Endings.{together-all, place-fits, place-is}
use Rattle.rv_store.proofs.places.last_place.Goals as goal

pub bases_by_ends-requires-clause-ends : goal.bases_by_ends-requires-clause-ends
bases_by_ends-requires-clause-ends c =
    let (ms, behind) = c.requires.behind in
    together-all ms c.args.shape.now behind.few behind.limited c.args.after.now behind.all

pub next_place-requires : goal.next_place-requires
next_place-requires c =
    let (ms, behind) = c.requires.behind in
    place-fits ms c.args.shape.now behind.few behind.limited c.args.before.now behind.first c.args.base c.requires.base c.args.after.now behind.all c.bases_by_ends.result c.bases_by_ends.ensures

pub returns : goal.returns
returns c = λ ms behind.
    c.next_place.ensures
    ∙ place-is ms c.args.shape.now behind.few behind.limited c.args.before.now behind.first c.args.base c.requires.base c.args.after.now behind.all c.bases_by_ends.result c.bases_by_ends.ensures
