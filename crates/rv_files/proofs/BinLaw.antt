-- Where the bytes of segments are.
use Rattle.std.proofs.Common.{◌≡◌, ℕ, zero, suc, ◌+◌, ◌-◌, ◌<◌, ◌≤◌, Bool, true, false, List, [], ◌∷◌, ◌++◌, length, take, drop, refl, ap, sym, ◌∙◌, arith, append_assoc}
use Rattle.std.specs.Prelude.{All, nat_eq, replicate, slice_index_or, if◌then◌else◌}
use Rattle.std.proofs.Math.Seq.{take-append_seam, drop-append_seam}
use Rattle.std.proofs.lemmas.Bool.Decides.{nat_tests}
use Rattle.std.proofs.lemmas.List.{drop-drop, length-replicate, nil_from_length}
use Rattle.rv_files.specs.Bin.{bin_bytes, AreAscending, StandsIn}
use Rattle.rv_files.specs.Segments.{Segment}

-- past the first items
skip : (xs ys : List ℕ) (n m : ℕ) → length xs ≡ n → drop (n + m) (xs ++ ys) ≡ drop m ys
skip xs ys n m e = sym (drop-drop m n (xs ++ ys)) ∙ ap (drop m) (rw (← e) (drop-append_seam xs ys))

-- segments ascend from lower addresses, too
pub ascend_from : (at lower : ℕ) (ss : List Segment) → lower ≤ at → AreAscending at ss → AreAscending lower ss
ascend_from at lower [] below ascending = tt
ascend_from at lower (s ∷ later) below ascending = (omega (arith, below, ascending.0), ascending.1)

-- no segment begins before the first
from_first : (at : ℕ) (ss : List Segment) (k : ℕ) (d : Segment) → AreAscending at ss → k < length ss → at ≤ (slice_index_or ss k d).address
from_first at [] k d ascending within = absurd (omega (arith, within))
from_first at (s ∷ later) zero d ascending within = ascending.0
from_first at (s ∷ later) (suc k) d ascending within =
    let after = from_first (s.address + length s.bytes + s.zeros) later k d ascending.1 (omega (arith, within)) in omega (arith, after, ascending.0)

-- the first segment is at its address
first_stands : (at : ℕ) (s : Segment) (later : List Segment) → StandsIn at (bin_bytes at (s ∷ later)) s
first_stands at s later = by_bytes (nat_eq (length s.bytes) 0) refl
  where
    by_bytes : (none : Bool) → nat_eq (length s.bytes) 0 ≡ none
        → StandsIn at ((if none then [] else replicate (s.address - at) 0 ++ s.bytes) ++ bin_bytes (if none then at else s.address + length s.bytes) later) s
    by_bytes true e =
        let none : length s.bytes ≡ 0 = grind (arith, nat_tests, e) in
        ap (λ n. take n (drop (s.address - at) (bin_bytes at later))) none ∙ sym (nil_from_length s.bytes none)
    by_bytes false e =
        let gap = replicate {A = ℕ} (s.address - at) 0 in
        let rest = bin_bytes (s.address + length s.bytes) later in
        let place : s.address - at ≡ s.address - at + 0 = omega arith in
        ap (take (length s.bytes)) (ap (drop (s.address - at)) (append_assoc gap s.bytes rest)
        ∙ ap (λ n. drop n (gap ++ (s.bytes ++ rest))) place
        ∙ skip gap (s.bytes ++ rest) (s.address - at) 0 (length-replicate (s.address - at) 0))
        ∙ take-append_seam s.bytes rest

-- a later segment is at its address, where it is so among the bytes of the later segments
later_stands : (at : ℕ) (s t : Segment) (later : List Segment)
    → at ≤ s.address
    → s.address + length s.bytes ≤ t.address
    → ((next : ℕ) → next ≤ s.address + length s.bytes → StandsIn next (bin_bytes next later) t)
    → StandsIn at (bin_bytes at (s ∷ later)) t
later_stands at s t later up after stands = by_bytes (nat_eq (length s.bytes) 0) refl
  where
    by_bytes : (none : Bool) → nat_eq (length s.bytes) 0 ≡ none
        → StandsIn at ((if none then [] else replicate (s.address - at) 0 ++ s.bytes) ++ bin_bytes (if none then at else s.address + length s.bytes) later) t
    by_bytes true e = stands at (omega (arith, up))
    by_bytes false e =
        let end = s.address + length s.bytes in
        let gap = replicate {A = ℕ} (s.address - at) 0 in
        let rest = bin_bytes end later in
        let place : t.address - at ≡ s.address - at + (length s.bytes + (t.address - end)) = omega (arith, after, up) in
        ap (take (length t.bytes)) (ap (drop (t.address - at)) (append_assoc gap s.bytes rest)
        ∙ ap (λ n. drop n (gap ++ (s.bytes ++ rest))) place
        ∙ skip gap (s.bytes ++ rest) (s.address - at) (length s.bytes + (t.address - end)) (length-replicate (s.address - at) 0)
        ∙ skip s.bytes rest (length s.bytes) (t.address - end) refl)
        ∙ stands end (omega arith)

pub stand_in : (at : ℕ) (ss : List Segment) → AreAscending at ss → All (StandsIn at (bin_bytes at ss)) ss
stand_in at [] ascending k d within = absurd (omega (arith, within))
stand_in at (s ∷ later) ascending zero d within = first_stands at s later
stand_in at (s ∷ later) ascending (suc k) d within =
    let behind = s.address + length s.bytes + s.zeros in
    let inside : k < length later = omega (arith, within) in
    let after = from_first behind later k d ascending.1 inside in
    later_stands at s (slice_index_or later k d) later ascending.0 (omega (arith, after))
    (λ next below. stand_in next later (ascend_from behind next later (omega (arith, below)) ascending.1) k d inside)
