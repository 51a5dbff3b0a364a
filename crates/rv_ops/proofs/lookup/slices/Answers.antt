use Rattle.std.proofs.Common.{◌≡◌, ◌+◌, ◌<◌, ◌^◌, ◌∙◌, ap, sym, subst, IsTrue}
use Rattle.std.specs.List.{list_all}
use Rattle.rv_ops.specs.Room.{is_slice, room}
use Rattle.rv_ops.specs.Table.{slices_of, shape_of, fixed_of}
use Rattle.rv_ops.proofs.LayoutFacts.{are_slices, has_room}
use Rattle.rv_ops.proofs.lookup.slices.Goals as goal

pub returns-clause-placed : goal.returns-clause-placed
returns-clause-placed c =
    let e : c.layout.result.slices.now ≡ slices_of (shape_of c.args.op) = c.layout.ensures.slices ∙ ap slices_of c.shape.ensures in
    subst (λ ss. IsTrue (list_all is_slice ss)) (sym e) (are_slices c.args.op)

pub returns-clause-room : goal.returns-clause-room
returns-clause-room c =
    let e : c.layout.result.slices.now ≡ slices_of (shape_of c.args.op) = c.layout.ensures.slices ∙ ap slices_of c.shape.ensures in
    subst (λ ss. fixed_of c.args.op + room ss < 2 ^ 32) (sym e) (has_room c.args.op)
