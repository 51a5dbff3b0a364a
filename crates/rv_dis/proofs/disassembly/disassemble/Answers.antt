use Rattle.std.proofs.Common.{◌≡◌, [], ◌∷◌, ap, ◌∙◌, is_ok, arith}
use Rattle.std.specs.Prelude.{slice_index}
use Rattle.std.proofs.lemmas.List.{append-nil}
use Rattle.rv_dis.specs.Assembling.{AreBytes}
use Rattle.rv_dis.specs.Rows.{Shows, byte_row, byte}
use Rattle.rv_dis.proofs.Showing.{nothing_left}
use Rattle.rv_dis.proofs.disassembly.disassemble.Goals as goal
use Rattle.rv_dis.proofs.disassembly.disassemble.Goals.{then-rest-eq1+in_ok-row-2, else-rest-eq1}

pub returns : goal.returns
returns c =
    let shows : Shows c.args.address c.args.bytes.now c.if-rest-eq1.rows.items = elim c.if-rest-eq1.branch [
      | then-rest-eq1+in_ok-row-2 w ↦
          let last = byte_row c.loop-rest.at (slice_index c.loop-rest.rest.now 0) in
          let row : w.set_byte.new.row ≡ last = w.set_byte.ensures ∙ ap (λ a. byte_row a (slice_index c.loop-rest.rest.now 0)) (ap (λ r. r.address) w.in_ok-row-2.ensures.value ∙ w.at-then-rest-eq1.ensures.address) in
          let added = (w.push_mut-then-rest-eq1.follows.holds w.set_byte.new.row (ap is_ok w.in_ok-row-2.was)).0 in
          rw (ap (λ rows. rows.items) w.rows-is, added, row) (c.loop-rest.invariant (last ∷ []) (byte c.loop-rest.at c.loop-rest.rest.now w.if-rest-eq1.true))
      | else-rest-eq1 w ↦
          let none = c.loop-rest.invariant [] (nothing_left c.loop-rest.at c.loop-rest.rest.now (omega arith)) in
          rw w.rows-is (rw append-nil at none)
    ] in
    let are_bytes : AreBytes c.args.bytes.now = λ i. let fits = c.type_inv.bytes i in omega arith in
    record {
      rows = shows;
      bytes = c.rows_give_the_bytes.ensures c.args.address c.args.bytes.now c.if-rest-eq1.rows.items c.ranges.address.fits are_bytes shows;
    }
