use Rattle.std.proofs.Common.{◌≡◌, ◌-◌, ◌<◌, ◌≤◌, ℕ, length, get_or, if◌then◌else◌, Err}
use Rattle.rv_expr.specs.declared.faults.ValueFault.TheVariants.{NoPartner}
use Rattle.rv_store.specs.internal.Waiting.{waits_there}
use Rattle.rv_store.proofs.waiting.put_behind.Given as goal

-- the lines that were gone past have it
abbrev pub invariant-lines : goal.invariant-lines
invariant-lines l = record {
  many : length l.highs.items ≡ length l.fn.highs.items;
  from : l.first ≤ l.i;
  done : (j : ℕ) → j < l.i → get_or l.highs.items j (Err NoPartner) ≡ (if waits_there l.places l.section l.first j then l.high else get_or l.fn.highs.items j (Err NoPartner));
  left : (j : ℕ) → l.i ≤ j → get_or l.highs.items j (Err NoPartner) ≡ get_or l.fn.highs.items j (Err NoPartner);
}

abbrev pub decreases-lines : goal.decreases-lines
decreases-lines l = length l.highs.items - l.i
