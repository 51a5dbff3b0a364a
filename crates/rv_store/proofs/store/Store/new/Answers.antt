use Rattle.std.proofs.Common.{◌<◌, refl, sym, arith}
use Rattle.rv_store.proofs.store.Store.new.Goals as goal

pub invariant_of-result : goal.invariant_of-result
invariant_of-result c = rw (c.new-2.ensures.items, c.new.ensures) (record {
  based = sym c.if-not-base_ok.ensures;
  lined = λ k d l. absurd (let no : k < 0 = l in omega (arith, no));
  few = omega arith;
  listed = c.empty.ensures.lines;
  surveyed = c.empty.ensures.survey c.args.base;
  assembled = record { lines = refl; shapes = refl; values = refl; codes = refl };
})
