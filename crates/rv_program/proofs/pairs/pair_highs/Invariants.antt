use Rattle.std.proofs.Common.{◌≡◌, ℕ, suc, ◌<◌, ◌≤◌, length}
use Rattle.rv_program.specs.internal.PairedHighs.{high_in, paired_high_in, AreNext}
use Rattle.rv_program.proofs.pairs.pair_highs.Given as goal

-- the lines behind the first `i` have what is paired with them, and the others their own high halves
abbrev pub invariant-loop-i : goal.invariant-loop-i
invariant-loop-i l = record {
  within : l.i ≤ length l.places;
  many : length l.highs.items ≡ length l.places;
  left : (k : ℕ) → k < l.i → high_in l.highs.items (suc k) ≡ high_in l.fn.highs.items (suc k);
  done : (k : ℕ) → l.i ≤ k → k < length l.places → high_in l.highs.items (suc k) ≡ paired_high_in l.places l.fn.highs.items (suc k);
  next : AreNext l.places l.fn.highs.items l.i l.next;
}

abbrev pub decreases-loop-i : goal.decreases-loop-i
decreases-loop-i l = l.i
