use Rattle.std.proofs.Common.{◌^◌, ◌≤◌, ap, sym, subst, ◌∙◌}
use Rattle.rv_layout.specs.Places.{sum_below}
use Rattle.rv_layout.specs.Sections.{sections}
use Rattle.rv_store.specs.internal.Ends.{end_in, base_by_ends}
use Rattle.rv_store.proofs.EndBases.{end-is, ends-together, base-ends}
use Rattle.rv_store.proofs.survey.Survey.section.Goals as goal

pub bases_by_ends-requires-clause-ends : goal.bases_by_ends-requires-clause-ends
bases_by_ends-requires-clause-ends c =
    subst (λ e. sum_below (end_in e) sections ≤ 2 ^ 30) (sym c.requires.ends) (ends-together c.args.self.now.shapes.items c.requires.limited c.requires.few)

pub returns : goal.returns
returns c =
    let shapes = c.args.self.now.shapes.items in
    let base = c.bases_by_ends.ensures c.args.section c.requires.section ∙ ap (λ e. base_by_ends c.args.base e c.args.section) c.requires.ends ∙ base-ends c.args.base shapes c.args.section c.requires.section in
    let size = ap (λ e. end_in e c.args.section) c.requires.ends ∙ end-is shapes c.args.section c.requires.section in
    λ i. record { base = base i; size = size i }
