-- Bytes at their addresses.
use Rattle.std.proofs.Common.{◌≡◌, ℕ, zero, suc, ◌+◌, ◌*◌, ◌%◌, ◌^◌, ◌<◌, ◌≤◌, ◌⊎◌, inl, inr, List, [], ◌∷◌, ◌++◌, length, take, drop, refl, ap, sym, ◌∙◌, arith}
use Rattle.std.proofs.lemmas.Bool.{cases_lt}
use Rattle.std.proofs.lemmas.Grind.{flat_map-append}
use Rattle.std.proofs.lemmas.List.{drop_all, length-take-le, length-drop, take-append-drop}
use Rattle.std.specs.List.{flat_map}
use Rattle.rv_files.specs.Cells.{Cell, cells_from, cells_of}
use Rattle.rv_files.specs.Hex.{Stretch, stretches, stretches_of, row_count}
use Rattle.rv_files.specs.Segments.{Segment}

-- addresses are counted modulo 2^32
pub cells_same : (a b : ℕ) (bytes : List ℕ) → a % 2 ^ 32 ≡ b % 2 ^ 32 → cells_from a bytes ≡ cells_from b bytes
cells_same a b [] e = refl
cells_same a b (x ∷ bytes) e = rw (e, cells_same (a + 1) (b + 1) bytes (omega (arith, e))) refl

cells_append : (a : ℕ) (xs ys : List ℕ) → cells_from a (xs ++ ys) ≡ cells_from a xs ++ cells_from (a + length xs) ys
cells_append a [] ys = cells_same a (a + 0) ys (omega arith)
cells_append a (x ∷ xs) ys =
    ap (λ l. record { address = a % 2 ^ 32; byte = x } ∷ l) (cells_append (a + 1) xs ys
    ∙ ap (λ l. cells_from (a + 1) xs ++ l) (cells_same (a + 1 + length xs) (a + length (x ∷ xs)) ys (omega arith)))

-- what stands after sixteen bytes
after_sixteen : (a : ℕ) (bytes : List ℕ) → cells_from ((a + 16) % 2 ^ 32) (drop 16 bytes) ≡ cells_from (a + length (take 16 bytes)) (drop 16 bytes)
after_sixteen a bytes = at (cases_lt (length bytes) 16)
  where
    at : (length bytes < 16) ⊎ (16 ≤ length bytes) → cells_from ((a + 16) % 2 ^ 32) (drop 16 bytes) ≡ cells_from (a + length (take 16 bytes)) (drop 16 bytes)
    at (inl few) = rw (drop_all 16 bytes (omega (arith, few))) refl
    at (inr many) =
        let count : length (take 16 bytes) ≡ 16 = length-take-le 16 bytes many in
        cells_same ((a + 16) % 2 ^ 32) (a + length (take 16 bytes)) (drop 16 bytes) (omega (arith, count))

abbrev pub cells_of_stretches : List Stretch → List Cell
cells_of_stretches ss = flat_map (λ s. cells_from s.address s.bytes) ss

-- stretches have the bytes that they were cut from
cells_stretches : (n a : ℕ) (bytes : List ℕ) → length bytes ≤ 16 * n → cells_of_stretches (stretches a bytes n) ≡ cells_from a bytes
cells_stretches zero a [] few = refl
cells_stretches zero a (b ∷ bytes) few = absurd (omega (arith, few))
cells_stretches (suc n) a bytes few =
    let later = cells_stretches n ((a + 16) % 2 ^ 32) (drop 16 bytes) (omega (arith, few, length-drop 16 bytes)) in
    ap (λ l. cells_from a (take 16 bytes) ++ l) (later ∙ after_sixteen a bytes)
    ∙ sym (cells_append a (take 16 bytes) (drop 16 bytes))
    ∙ ap (cells_from a) (take-append-drop 16 bytes)

pub cells_cut : (segments : List Segment) → cells_of_stretches (flat_map stretches_of segments) ≡ cells_of segments
cells_cut [] = refl
cells_cut (s ∷ later) =
    flat_map-append (λ (x : Stretch). cells_from x.address x.bytes) (stretches_of s) (flat_map stretches_of later)
    ∙ rw (cells_stretches (row_count (length s.bytes)) s.address s.bytes (omega arith), cells_cut later) refl
