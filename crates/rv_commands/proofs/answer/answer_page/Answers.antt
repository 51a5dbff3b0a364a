use Rattle.rv_text.specs.BlockLaws.{waits_written}
use Rattle.rv_commands.proofs.answer.answer_page.Goals as goal

pub returns-in-Ok-clause-text : goal.returns-in-Ok-clause-text
returns-in-Ok-clause-text g c = waits_written _ _ _ _ _ _ c.in_ok-flush.ensures.text c.in_ok-flush.ensures.empty c.in-Ok.ensures.text
