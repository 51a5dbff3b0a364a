use Rattle.std.proofs.Common.{◌≡◌, suc, ◌-◌, length, take, drop, ap, ◌∙◌, arith}
use Rattle.rv_show.specs.Characters.{column_behind}
use Rattle.rv_show.proofs.Columns.{length_of_rest, next_column}
use Rattle.rv_show.proofs.characters.column_of.Goals as goal

pub bytes-preserved : goal.bytes-preserved
bytes-preserved c =
    let before = c.bytes.invariant in
    let bs = c.bytes.bytes.now in
    let left : suc (c.bytes.left - 1) ≡ c.bytes.left = omega (arith, c.if-left-eq0.false) in
    record {
      whole =
          ap (λ place. column_behind place (c.bytes.left - 1) (take (length bs - 1) (drop 1 bs))) c.next-place.ensures.value
          ∙ next_column c.bytes.place (c.bytes.left - 1) bs c.in-len1-up.len_at_least
          ∙ ap (λ n. column_behind c.bytes.place n bs) left
          ∙ before.whole;
      room = omega (arith, before.room, c.next-place.ensures.most, length_of_rest bs c.in-len1-up.len_at_least);
    }
