use Rattle.rv_doc.proofs.Rooms.{room, most}
use Rattle.rv_doc.proofs.laws.columns_have_room.Goals as goal

pub returns-clause-room : goal.returns-clause-room
returns-clause-room c = room

pub returns-clause-most : goal.returns-clause-most
returns-clause-most c = most
