-- Lists one after another, and texts that are gathered one after another.
use Rattle.std.proofs.Common.{◌≡◌, ℕ, zero, suc, ◌+◌, ◌-◌, ◌<◌, ◌≤◌, List, [], ◌∷◌, ◌++◌, length, refl, ap, ◌∙◌, arith, append_assoc}
use Rattle.std.proofs.lemmas.List.{append-nil, length-append, nil_from_length}
use Rattle.std.proofs.lemmas.List.Folds.{concat-append}
use Rattle.std.specs.List.{concat}
use Rattle.std.specs.Prelude.{Option}
use Rattle.rv_text.specs.Streams.{WritesPrefix}
use Rattle.rv_text.specs.Blocks.{Waits}
use Rattle.rv_text.specs.BlockLaws.{waits_then, waits_lost, lost_first}
use Rattle.rv_list.specs.Joined.{joined}
use Rattle.rv_list.specs.JoinedLaws.{joined_more, joined_then}

-- no fewer than the first ones
pub joined_within : {A : Type 0} (f : ℕ → List A) (k n : ℕ) → k ≤ n → length (joined f k) ≤ length (joined f n)
joined_within f k n within =
    let then_ = joined_then f k (n - k) in
    let count : k + (n - k) ≡ n = omega (arith, within) in
    let whole : joined f n ≡ joined f k ++ then_.later = rw count at then_.whole in
    omega (arith, ap length whole, length-append (joined f k) then_.later)

-- the first ones are all
pub joined_no_more : {A : Type 0} (f : ℕ → List A) (k n : ℕ) → k ≤ n → length (joined f k) ≡ length (joined f n) → joined f n ≡ joined f k
joined_no_more f k n within same =
    let then_ = joined_then f k (n - k) in
    let count : k + (n - k) ≡ n = omega (arith, within) in
    let whole : joined f n ≡ joined f k ++ then_.later = rw count at then_.whole in
    let none : length then_.later ≡ 0 = omega (arith, ap length whole, length-append (joined f k) then_.later, same) in
    whole ∙ ap (λ l. joined f k ++ l) (nil_from_length then_.later none) ∙ append-nil (joined f k)

-- a write fails within the next one
pub lost_next : (f : ℕ → List ℕ) (k n : ℕ) (t0 t1 t2 : Option (List ℕ)) (p0 p1 : List ℕ) → k < n → Waits t0 p0 (joined f k) t1 p1 → WritesPrefix t1 (p1 ++ f k) t2 → WritesPrefix t0 (p0 ++ joined f n) t2
lost_next f k n t0 t1 t2 p0 p1 within a w =
    let then_ = joined_then f (k + 1) (n - (k + 1)) in
    let count : k + 1 + (n - (k + 1)) ≡ n = omega (arith, within) in
    let whole : joined f n ≡ joined f k ++ (f k ++ then_.later) =
    (rw count at then_.whole) ∙ ap (λ l. l ++ then_.later) (joined_more f k) ∙ append_assoc (joined f k) (f k) then_.later in
    rw whole (waits_lost t0 t1 t2 p0 p1 (joined f k) (f k ++ then_.later) a (lost_first t1 t2 p1 (f k) then_.later w))

-- the next one is gathered
pub gathered_next : (f : ℕ → List ℕ) (k : ℕ) (t0 t1 t2 : Option (List ℕ)) (p0 p1 p2 : List ℕ) → Waits t0 p0 (joined f k) t1 p1 → Waits t1 p1 (f k) t2 p2 → Waits t0 p0 (joined f (k + 1)) t2 p2
gathered_next f k t0 t1 t2 p0 p1 p2 a b = rw (joined_more f k) (waits_then t0 t1 t2 p0 p1 p2 (joined f k) (f k) a b)

-- rows one after another, as one text
pub concat_joined : (f : ℕ → List (List ℕ)) (n : ℕ) → concat (joined f n) ≡ joined (λ k. concat (f k)) n
concat_joined f zero = refl
concat_joined f (suc n) = concat-append (joined f n) (f n) ∙ ap (λ l. l ++ concat (f n)) (concat_joined f n)

pub length_of_singles : {A : Type 0} (f : ℕ → A) (n : ℕ) → length (joined (λ k. f k ∷ []) n) ≡ n
length_of_singles f zero = refl
length_of_singles f (suc n) = omega (arith, length-append (joined (λ k. f k ∷ []) n) (f n ∷ []), length_of_singles f n)

-- Rows, whose text is gathered

pub concat_one : (row : List ℕ) → concat (row ∷ []) ≡ row
concat_one row = append-nil row

-- a write fails within the next rows
pub lost_rows : (f : ℕ → List (List ℕ)) (k n : ℕ) (t0 t1 t2 : Option (List ℕ)) (p0 p1 : List ℕ) → k < n → Waits t0 p0 (concat (joined f k)) t1 p1 → WritesPrefix t1 (p1 ++ concat (f k)) t2 → WritesPrefix t0 (p0 ++ concat (joined f n)) t2
lost_rows f k n t0 t1 t2 p0 p1 within a w =
    rw (concat_joined f n) (lost_next (λ k. concat (f k)) k n t0 t1 t2 p0 p1 within (rw (concat_joined f k) at a) w)

-- the next rows are gathered
pub gathered_rows : (f : ℕ → List (List ℕ)) (k : ℕ) (t0 t1 t2 : Option (List ℕ)) (p0 p1 p2 : List ℕ) → Waits t0 p0 (concat (joined f k)) t1 p1 → Waits t1 p1 (concat (f k)) t2 p2 → Waits t0 p0 (concat (joined f (k + 1))) t2 p2
gathered_rows f k t0 t1 t2 p0 p1 p2 a b =
    rw (concat_joined f (k + 1)) (gathered_next (λ k. concat (f k)) k t0 t1 t2 p0 p1 p2 (rw (concat_joined f k) at a) b)

-- all rows are gathered
pub gathered_all : (f : ℕ → List (List ℕ)) (k n : ℕ) (t0 t1 : Option (List ℕ)) (p0 p1 : List ℕ) → k ≡ n → Waits t0 p0 (concat (joined f k)) t1 p1 → Waits t0 p0 (concat (joined f n)) t1 p1
gathered_all f k n t0 t1 p0 p1 e a = rw e at a

-- One row at a time

pub lost_row : (f : ℕ → List ℕ) (k n : ℕ) (t0 t1 t2 : Option (List ℕ)) (p0 p1 : List ℕ) → k < n → Waits t0 p0 (concat (joined (λ k. f k ∷ []) k)) t1 p1 → WritesPrefix t1 (p1 ++ f k) t2 → WritesPrefix t0 (p0 ++ concat (joined (λ k. f k ∷ []) n)) t2
lost_row f k n t0 t1 t2 p0 p1 within a w =
    lost_rows (λ k. f k ∷ []) k n t0 t1 t2 p0 p1 within a (rw (concat_one (f k)) w)

pub gathered_row : (f : ℕ → List ℕ) (k : ℕ) (t0 t1 t2 : Option (List ℕ)) (p0 p1 p2 : List ℕ) → Waits t0 p0 (concat (joined (λ k. f k ∷ []) k)) t1 p1 → Waits t1 p1 (f k) t2 p2 → Waits t0 p0 (concat (joined (λ k. f k ∷ []) (k + 1))) t2 p2
gathered_row f k t0 t1 t2 p0 p1 p2 a b =
    gathered_rows (λ k. f k ∷ []) k t0 t1 t2 p0 p1 p2 a (rw (concat_one (f k)) b)
