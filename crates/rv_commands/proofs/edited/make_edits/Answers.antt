use Rattle.std.proofs.Common.{◌∙◌}
use Rattle.std.proofs.lemmas.List.{length-set}
use Rattle.rv_commands.proofs.EditedLemmas.{edits_next}
use Rattle.rv_commands.proofs.edited.make_edits.Goals as goal

pub loop-at-preserved : goal.loop-at-preserved
loop-at-preserved c =
    let before = c.loop-at.invariant in
    record {
      edits = edits_next _ _ _ _ c.loop-at.results c.loop-at.at _ _ c.loop-at-test.true before.size before.edits c.make_edit.ensures;
      size = length-set c.loop-at.results c.loop-at.at c.make_edit.result ∙ before.size;
    }
