use Rattle.std.proofs.Common.{ap, ◌∙◌}
use Rattle.rv_doc.specs.Frames.{trimmed}
use Rattle.rv_doc.proofs.HeaderRows.{trimmed_is}
use Rattle.rv_doc.proofs.frame.value_in.Goals as goal

pub returns : goal.returns
returns c = trimmed_is c.bytes_from.result.now c.trim_ascii.result.now c.trim_ascii.ensures.value ∙ ap trimmed c.bytes_from.ensures
