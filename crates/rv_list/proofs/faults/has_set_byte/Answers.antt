use Rattle.std.proofs.Common.{◌||◌, ◌+◌, ◌==◌, not, drop, ap, sym, ◌∙◌}
use Rattle.std.specs.List.{list_any}
use Rattle.rv_list.specs.Faults.{is_set}
use Rattle.rv_list.proofs.FaultRows.{set_from}
use Rattle.rv_list.proofs.faults.has_set_byte.Goals as goal

pub returns-then-is_set : goal.returns-then-is_set
returns-then-is_set c =
    let test = sym (ap is_set c.byte.ensures) ∙ sym c.is_set.ensures ∙ c.if-is_set.true in
    sym (ap (λ t. t || list_any (λ byte. not (byte == 0)) (drop (c.loop-place.place + 1) c.args.payload.now)) test)
    ∙ sym (set_from c.args.payload.now c.loop-place.place)
    ∙ c.loop-place.invariant.rest

pub loop-place-preserved : goal.loop-place-preserved
loop-place-preserved c =
    let test = sym (ap is_set c.byte.ensures) ∙ sym c.is_set.ensures ∙ c.if-is_set.false in
    record {
      rest = sym (ap (λ t. t || list_any (λ byte. not (byte == 0)) (drop (c.loop-place.place + 1) c.args.payload.now)) test)
          ∙ sym (set_from c.args.payload.now c.loop-place.place)
          ∙ c.loop-place.invariant.rest;
    }
