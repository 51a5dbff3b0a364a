use Rattle.std.proofs.Common.{ap, sym, subst, ◌∙◌}
use Rattle.rv_stmt.specs.Statement.{statement_of}
use Rattle.rv_store.specs.internal.Alike.{room_of, DefinesSame}
use Rattle.rv_store.proofs.alike.are_alike.Goals as goal

pub returns-then-take_same_room : goal.returns-then-take_same_room
returns-then-take_same_room c =
    λ program k there former is alike. record {
      defines = subst (λ s. DefinesSame s (statement_of c.args.line.now)) (sym there) (c.defines_same.ensures alike);
      room = ap room_of (sym is) ∙ c.take_same_room.ensures c.if-take_same_room.true ∙ ap room_of former;
    }
