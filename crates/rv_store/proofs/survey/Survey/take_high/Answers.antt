use Rattle.std.proofs.Common.{get_or, Err, if◌then◌else◌, subst, ◌∙◌}
use Rattle.rv_expr.specs.declared.faults.ValueFault.TheVariants.{NoPartner}
use Rattle.rv_layout.specs.Sections.{section_number}
use Rattle.rv_store.specs.internal.HighRows.{GetHigh}
use Rattle.rv_store.specs.internal.Waiting.{waits_there}
use Rattle.rv_store.proofs.PutHighs.{row-back}
use Rattle.rv_store.proofs.survey.Survey.take_high.Goals as goal

pub returns-clause-highs : goal.returns-clause-highs
returns-clause-highs c high old get count nothing =
    let s = c.args.self.now in
    let t = section_number c.args.still.now.place.section in
    let first = c.in-Some.first in
    let places = c.deref.ensures.value in
    let section = c.section_number-section.ensures.value in
    c.truncate.ensures.items
    ∙ row-back s.places.items t first c.args.former high old s.highs.items c.put_behind.new.highs.items
    (subst (λ o. GetHigh o s.places.items t high old s.highs.items) c.in-Some.is get)
    (λ i. c.put_behind.ensures.each i ∙ (λ j. if waits_there (places j) (section j) first i then Err NoPartner else get_or s.highs.items i (Err NoPartner)))
    c.put_behind.ensures.many count (λ i. nothing first i c.in-Some.is)
