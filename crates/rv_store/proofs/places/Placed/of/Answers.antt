use Rattle.std.proofs.Common.{◌≤◌, ◌^◌, sym, ◌∙◌, subst}
use Rattle.std.proofs.lemmas.Result.{IfOk-weaker}
use Rattle.rv_layout.specs.Places.{sum_below}
use Rattle.rv_layout.specs.Sections.{sections}
use Rattle.rv_store.specs.internal.Ends.{end_in}
use Rattle.rv_store.proofs.EndBases.{ends-together}
use Rattle.rv_store.proofs.EndLaws.{bases-AreBases}
use Rattle.rv_store.proofs.places.Placed.of.Goals as goal

pub stay_sections-requires-clause-ends : goal.stay_sections-requires-clause-ends
stay_sections-requires-clause-ends c =
    subst (λ e. sum_below (end_in e) sections ≤ 2 ^ 30) (sym c.in_ok-placed.ensures.ends) (ends-together c.args.shapes.now c.requires.limited c.requires.few)

pub bases_by_ends-requires-2-clause-ends : goal.bases_by_ends-requires-2-clause-ends
bases_by_ends-requires-2-clause-ends c =
    subst (λ e. sum_below (end_in e) sections ≤ 2 ^ 30) (sym c.in_ok-placed.ensures.ends) (ends-together c.args.shapes.now c.requires.limited c.requires.few)

pub returns-then-stay_sections-clause-places : goal.returns-then-stay_sections-clause-places
returns-then-stay_sections-clause-places c =
    c.in_ok-placed.ensures.places c.args.base c.requires.base
    (bases-AreBases c.args.base c.args.shapes.now c.in_ok-placed.placed.ends c.bases_by_ends.result c.in_ok-placed.ensures.ends
    (λ t within. c.bases_by_ends.ensures t within ∙ sym (c.stay_sections.ensures c.if-stay_sections.true t within)))

pub returns-clause-places : goal.returns-clause-places
returns-clause-places c =
    IfOk-weaker c.places-2.result _ _
    (λ p is. is c.args.base c.requires.base (bases-AreBases c.args.base c.args.shapes.now c.in_ok-placed.placed.ends c.bases_by_ends-2.result c.in_ok-placed.ensures.ends c.bases_by_ends-2.ensures))
    c.places-2.ensures.places
