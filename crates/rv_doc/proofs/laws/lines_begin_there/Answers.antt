use Rattle.rv_doc.proofs.Rooms.{begins}
use Rattle.rv_doc.proofs.laws.lines_begin_there.Goals as goal

pub returns : goal.returns
returns c = begins
