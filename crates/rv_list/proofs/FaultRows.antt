-- The faults of lines, and their rows.
use Rattle.std.proofs.Common.{◌≡◌, ℕ, zero, suc, ◌+◌, ◌-◌, ◌==◌, ◌≤◌, not, ◌||◌, List, [], ◌∷◌, ◌++◌, length, take, drop, get_or, map, Option, Some, refl, ap, ◌∙◌, add-one, append_assoc}
use Rattle.std.proofs.lemmas.List.{map-append}
use Rattle.std.proofs.lemmas.List.Folds.{concat-append}
use Rattle.std.specs.List.{concat, list_any}
use Rattle.std.specs.Prelude.{slice_get}
use Rattle.rv_text.specs.declared.faults.Fault.{Fault}
use Rattle.rv_list.specs.Faults.{body_faults, found, fault_row, is_set}
use Rattle.rv_text.specs.Streams.{WritesPrefix}
use Rattle.rv_text.specs.Blocks.{Waits}
use Rattle.rv_text.specs.Halfway.{Halfway, halfway_next, halfway_lost}
use Rattle.rv_text.specs.SliceLaws.{first_and_rest}

-- one byte after another
pub set_from : (bytes : List ℕ) (i : ℕ) → list_any (λ byte. not (byte == 0)) (drop i bytes) ≡ (is_set (slice_get bytes i) || list_any (λ byte. not (byte == 0)) (drop (i + 1) bytes))
set_from bytes i = rw add-one (at bytes i)
  where
    at : (bytes : List ℕ) (i : ℕ) → list_any (λ byte. not (byte == 0)) (drop i bytes) ≡ (is_set (slice_get bytes i) || list_any (λ byte. not (byte == 0)) (drop (suc i) bytes))
    at [] zero = refl
    at [] (suc i) = refl
    at (b ∷ bs) zero = refl
    at (b ∷ bs) (suc i) = at bs i

-- the rows of faults
abbrev rows_of : (line : ℕ) → List (Option Fault) → List ℕ
rows_of line fs = concat (map (fault_row line) (found fs))

-- the rows of the first fault, and those of the others
next_found : (line : ℕ) (fs : List (Option Fault)) (d : Option Fault) → 1 ≤ length fs → rows_of line fs ≡ concat (map (fault_row line) (body_faults (get_or fs 0 d))) ++ rows_of line (take (length fs - 1) (drop 1 fs))
next_found line fs d l =
    let f = get_or fs 0 d in
    let later = take (length fs - 1) (drop 1 fs) in
    ap (λ l. rows_of line l) (first_and_rest fs d l)
    ∙ ap concat (map-append (fault_row line) (body_faults f) (found later))
    ∙ concat-append (map (fault_row line) (body_faults f)) (map (fault_row line) (found later))

-- a write fails within the rows of the first fault
pub lost_found : (line : ℕ) (fs : List (Option Fault)) (d : Option Fault) (t0 t1 t2 : Option (List ℕ)) (p0 p1 text : List ℕ) → 1 ≤ length fs → Halfway t0 p0 t1 p1 text (concat (map (fault_row line) (found fs))) → WritesPrefix t1 (p1 ++ concat (map (fault_row line) (body_faults (get_or fs 0 d)))) t2 → WritesPrefix t0 (p0 ++ text) t2
lost_found line fs d t0 t1 t2 p0 p1 text l h w =
    halfway_lost t0 t1 t2 p0 p1 text (concat (map (fault_row line) (body_faults (get_or fs 0 d)))) (rows_of line (take (length fs - 1) (drop 1 fs))) (rw (next_found line fs d l) at h) w

-- they are gathered
pub gathered_found : (line : ℕ) (fs : List (Option Fault)) (d : Option Fault) (t0 t1 t2 : Option (List ℕ)) (p0 p1 p2 text : List ℕ) → 1 ≤ length fs → Halfway t0 p0 t1 p1 text (concat (map (fault_row line) (found fs))) → Waits t1 p1 (concat (map (fault_row line) (body_faults (get_or fs 0 d)))) t2 p2 → Halfway t0 p0 t2 p2 text (concat (map (fault_row line) (found (take (length fs - 1) (drop 1 fs)))))
gathered_found line fs d t0 t1 t2 p0 p1 p2 text l h w =
    halfway_next t0 t1 t2 p0 p1 p2 text (concat (map (fault_row line) (body_faults (get_or fs 0 d)))) (rows_of line (take (length fs - 1) (drop 1 fs))) (rw (next_found line fs d l) at h) w

-- faults that are added one after another
pub in_order : (labels equ body odd lost : List Fault) (none r1 r2 r3 r4 r5 : List (Option Fault)) → none ≡ [] → r1 ≡ none ++ map (λ f. Some f) labels → r2 ≡ r1 ++ map (λ f. Some f) equ → r3 ≡ r2 ++ map (λ f. Some f) body → r4 ≡ r3 ++ map (λ f. Some f) odd → r5 ≡ r4 ++ map (λ f. Some f) lost → r5 ≡ map (λ f. Some f) (labels ++ (equ ++ (body ++ (odd ++ lost))))
in_order labels equ body odd lost none r1 r2 r3 r4 r5 e0 e1 e2 e3 e4 e5 = rw (e5, e4, e3, e2, e1, e0) (simp (map-append, append_assoc))
