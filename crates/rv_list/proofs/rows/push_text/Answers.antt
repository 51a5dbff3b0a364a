use Rattle.rv_list.proofs.Written.{written_after}
use Rattle.rv_list.proofs.rows.push_text.Goals as goal

pub returns-then-text-le-BLOCK_SIZE-clause-text : goal.returns-then-text-le-BLOCK_SIZE-clause-text
returns-then-text-le-BLOCK_SIZE-clause-text g c = c.push.ensures.text

pub returns-clause-text : goal.returns-clause-text
returns-clause-text g c =
    written_after _ _ _ _ _ _ _ c.in_ok-flush.ensures.text c.in_ok-flush.ensures.empty c.write_all.ensures.text
