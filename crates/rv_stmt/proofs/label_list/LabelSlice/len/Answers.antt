use Rattle.std.proofs.Common.{length, ap, sym, ◌∙◌}
use Rattle.rv_stmt.proofs.EntryLemmas.{length-labels_of}
use Rattle.rv_stmt.proofs.label_list.LabelSlice.len.Goals as goal

pub returns : goal.returns
returns c = sym (length-labels_of c.self.inside.names.now c.self.inside.entries.now) ∙ ap length c.self.view_is
