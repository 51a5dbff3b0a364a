use Rattle.std.proofs.Common.{sym, ◌∙◌}
use Rattle.rv_program.specs.lemmas.SamenessLaws.{same_shape-Decides}
use Rattle.rv_store.proofs.alike.take_same_room.Goals as goal

pub returns : goal.returns
returns c =
    λ same.
    sym c.room_of.ensures
    ∙ (same_shape-Decides c.room_of.result c.room_of-2.result).0 (sym c.eq.ensures ∙ same)
    ∙ c.room_of-2.ensures
