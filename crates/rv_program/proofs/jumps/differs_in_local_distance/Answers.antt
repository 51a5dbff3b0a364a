use Rattle.std.proofs.Common.{not, ap, ◌∙◌}
use Rattle.std.proofs.lemmas.Bool.Decides.{same_from_decides}
use Rattle.rv_program.specs.Sameness.{same_entry}
use Rattle.rv_program.specs.lemmas.SamenessLaws.{same_entry-Decides}
use Rattle.rv_program.proofs.jumps.differs_in_local_distance.Goals as goal

pub returns-clause-differs : goal.returns-clause-differs
returns-clause-differs g c =
    let here = c.local_distance.result in
    let there = c.local_distance-2.result in
    ap not
    (same_from_decides c.is_same_entry.result (same_entry here there) c.is_same_entry.ensures (same_entry-Decides here there)
    ∙ (λ i. same_entry (c.local_distance.ensures i) (c.local_distance-2.ensures i)))
