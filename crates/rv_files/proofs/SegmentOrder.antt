-- Segments that begin where sections do, and are as long: they ascend, and few of them lie within 32 bits.
use Rattle.std.proofs.Common.{◌≡◌, ℕ, zero, suc, ◌+◌, ◌^◌, ◌<◌, ◌≤◌, ◌==◌, true, false, cond, List, [], ◌∷◌, ◌++◌, length, sym, arith, append_assoc, subst}
use Rattle.std.proofs.lemmas.List.{append-nil, length-append}
use Rattle.std.proofs.lemmas.List.Elements.{All-nil, All-append}
use Rattle.rv_layout.specs.BaseLaws.{base_from-bound, sum_below-grows}
use Rattle.rv_layout.specs.Places.{base_from, sum_below}
use Rattle.rv_layout.specs.RoundingLaws.{round_up-above}
use Rattle.rv_list.specs.Joined.{joined}
use Rattle.rv_files.specs.Bin.{AreAscending}
use Rattle.rv_files.specs.Elf.{start_of}
use Rattle.rv_files.specs.ElfLoading.{AreLoadable}
use Rattle.rv_files.specs.Segments.{Segment, AreBytes, HoldBytes, unless_empty}
use Rattle.rv_files.proofs.BinLaw.{ascend_from}

-- a segment that may be empty, before others

few_of : (s : Segment) → length (unless_empty s) ≤ 1
few_of s =
    elim (length s.bytes + s.zeros == 0)
    as (λ b. length (cond b [] (s ∷ [])) ≤ 1)
    [ true ↦ omega arith | false ↦ omega arith ]

ascending_of : (at : ℕ) (s : Segment) (later : List Segment) → at ≤ s.address → AreAscending (s.address + length s.bytes + s.zeros) later → AreAscending at (unless_empty s ++ later)
ascending_of at s later up after =
    elim (length s.bytes + s.zeros == 0)
    as (λ b. AreAscending at (cond b [] (s ∷ []) ++ later))
    [ true ↦ ascend_from (s.address + length s.bytes + s.zeros) at later (omega (arith, up)) after | false ↦ (up, after) ]

loadable_of : (s : Segment) → s.address + length s.bytes + s.zeros + 0x1000 < 2 ^ 32 → AreLoadable (unless_empty s)
loadable_of s fits =
    elim (length s.bytes + s.zeros == 0)
    as (λ b. AreLoadable (cond b [] (s ∷ [])))
    [ true ↦ tt | false ↦ (fits, tt) ]

one_holds : (s : Segment) → AreBytes s.bytes → HoldBytes (s ∷ [])
one_holds s bytes zero d within = bytes
one_holds s bytes (suc k) d within = absurd (omega (arith, within))

bytes_of : (s : Segment) → AreBytes s.bytes → HoldBytes (unless_empty s)
bytes_of s bytes =
    elim (length s.bytes + s.zeros == 0)
    as (λ b. HoldBytes (cond b [] (s ∷ [])))
    [ true ↦ All-nil (λ (s : Segment). AreBytes s.bytes) | false ↦ one_holds s bytes ]

loadable_append : (ss later : List Segment) → AreLoadable ss → AreLoadable later → AreLoadable (ss ++ later)
loadable_append [] later h k = k
loadable_append (s ∷ ss) later h k = (h.0, loadable_append ss later h.1 k)

-- those of the first n sections

module _ (segment : ℕ → Segment) where
  abbrev pub segments_below : (n : ℕ) → List Segment
  segments_below n = joined (λ t. unless_empty (segment t)) n

  pub few_below : (n : ℕ) → length (segments_below n) ≤ n
  few_below zero = omega arith
  few_below (suc n) =
      omega (arith, length-append (segments_below n) (unless_empty (segment n)), few_below n, few_of (segment n))

  pub bytes_below : (n : ℕ) → ((t : ℕ) → AreBytes (segment t).bytes) → HoldBytes (segments_below n)
  bytes_below zero bytes = All-nil (λ (s : Segment). AreBytes s.bytes)
  bytes_below (suc n) bytes =
      All-append (λ (s : Segment). AreBytes s.bytes) (segments_below n) (unless_empty (segment n)) (bytes_below n bytes) (bytes_of (segment n) (bytes n))

  module _ (base : ℕ) (end : ℕ → ℕ) (begins : (t : ℕ) → (segment t).address ≡ base_from base end t) (sized : (t : ℕ) → length (segment t).bytes + (segment t).zeros ≡ end t) where
    ascending_before : (n : ℕ) (later : List Segment) → AreAscending (base_from base end n) later → AreAscending base (segments_below n ++ later)
    ascending_before zero later after = after
    ascending_before (suc n) later after =
        let s = segment n in
        let ends : s.address + length s.bytes + s.zeros ≤ base_from base end (suc n) =
        omega (arith, begins n, sized n, round_up-above (base_from base end n + end n) 4096) in
        subst (AreAscending base) (sym (append_assoc (segments_below n) (unless_empty s) later))
        (ascending_before n (unless_empty s ++ later)
        (ascending_of (base_from base end n) s later (omega (arith, begins n)) (ascend_from (base_from base end (suc n)) (s.address + length s.bytes + s.zeros) later ends after)))

    pub ascending_below : (n : ℕ) → AreAscending base (segments_below n)
    ascending_below n = subst (AreAscending base) (append-nil (segments_below n)) (ascending_before n [] tt)

    pub loadable_below : (n k : ℕ) → n ≤ k → k ≤ 16 → base ≤ 0x80000000 → sum_below end k ≤ 2 ^ 30 → AreLoadable (segments_below n)
    loadable_below zero k within few low small = tt
    loadable_below (suc n) k within few low small =
        let s = segment n in
        let fits : s.address + length s.bytes + s.zeros + 0x1000 < 2 ^ 32 =
        omega (arith, begins n, sized n, base_from-bound base end n, sum_below-grows end (suc n) k within, within, few, low, small) in
        loadable_append (segments_below n) (unless_empty s) (loadable_below n k (omega (arith, within)) few low small) (loadable_of s fits)

-- segments that ascend from somewhere ascend from the first
pub ascending_from_start : (at : ℕ) (ss : List Segment) → AreAscending at ss → AreAscending (start_of ss) ss
ascending_from_start at [] h = tt
ascending_from_start at (s ∷ later) h = (omega arith, h.1)
