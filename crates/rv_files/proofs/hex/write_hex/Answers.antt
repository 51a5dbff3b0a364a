use Rattle.rv_text.specs.BlockLaws.{waits_writes}
use Rattle.rv_files.proofs.hex.write_hex.Goals as goal

pub returns-clause-text : goal.returns-clause-text
returns-clause-text g c =
    let gathered = rw c.new-block.ensures at c.in_ok-push_hex.ensures.text in waits_writes _ _ _ _ _ _ gathered c.flush.ensures.text
