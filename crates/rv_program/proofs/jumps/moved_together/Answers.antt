use Rattle.std.proofs.Common.{◌≡◌, pos, ◌+ℤ◌, arith, ap, ◌∙◌}
use Rattle.std.proofs.lemmas.Bool.{eqb-true}
use Rattle.std.proofs.lemmas.Int.{ints}
use Rattle.rv_program.specs.internal.TextRows.{address_in_text}
use Rattle.rv_program.proofs.jumps.moved_together.Goals as goal

pub returns-then-has_moved : goal.returns-then-has_moved
returns-then-has_moved c = λ risen.
    let moved : c.rise.result ≡ c.shift.result = omega (arith, ints, eqb-true _ _ risen) in
    record {
      moved = c.has_moved.ensures c.if-has_moved.true;
      rises = c.rise.ensures ∙ ap (λ s. pos (address_in_text c.args.before.now c.args.stood) +ℤ s) (moved ∙ c.shift.ensures);
    }
