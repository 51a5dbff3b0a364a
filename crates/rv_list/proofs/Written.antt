-- Texts that are written past a block.
use Rattle.std.proofs.Common.{◌≡◌, ℕ, ◌<◌, List, [], ◌++◌, refl}
use Rattle.std.specs.Prelude.{Option, Result, Ok, Err, IfOk}
use Rattle.rv_text.specs.Streams.{after, Writes, failures_after}
use Rattle.rv_text.specs.Blocks.{Gathers}
use Rattle.rv_text.specs.BlockLaws.{waits_written}
use Rattle.rv_text.specs.StreamLaws.{prefix_last}

-- what was waiting is written, and then the text, or a prefix of it
pub written_after : {A E : Type 0} (t0 t1 t2 : Option (List ℕ)) (p0 p1 text : List ℕ) (result : Result A E) → t1 ≡ after t0 p0 → p1 ≡ [] → Writes t1 text result t2 → Gathers t0 p0 text result t2 p1
written_after t0 t1 t2 p0 p1 text (Ok _) a n w = waits_written t0 t1 t2 p0 text p1 a n w
written_after t0 t1 t2 p0 p1 text (Err _) a n w = prefix_last t0 t1 t2 p0 text (p0 ++ text) refl a w

-- where no call failed, as many have failed as before
pub may_fail : {A E : Type 0} (old new most : ℕ) (result : Result A E) → old < most → new ≡ failures_after old result → IfOk result (λ _. new < most)
may_fail old new most (Ok _) few e = rw e few
may_fail old new most (Err _) few e = tt
