use Rattle.rv_files.proofs.LineMarks.{front_is}
use Rattle.rv_files.proofs.marks.front.Goals as goal

pub returns : goal.returns
returns c = front_is c.args.part c.args.bytes.now _ _ c.behind.ensures.value c.split_at.ensures.front
