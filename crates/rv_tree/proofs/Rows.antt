-- The items of a row.
use Rattle.std.proofs.Common.{◌≡◌, ℕ, zero, suc, ◌+◌, ◌-◌, ◌≤◌, ◌<◌, List, [], ◌∷◌, ◌++◌, length, take, drop, Some, arith, ap, ap₂, sym, ◌∙◌, refl}
use Rattle.std.specs.Prelude.{slice_get, slice_index_or}
use Rattle.std.specs.List.{insert, remove, AllZip}
use Rattle.std.proofs.lemmas.List.{map-append, take-map, drop-map, drop-drop, drop-take, drop_more, take-append-drop}
use Rattle.std.proofs.lemmas.Option.{get_or_from_slice_get, slice_get_within}
use Rattle.std.specs.declared.rc.Rc.{Rc}
use Rattle.std.specs.declared.alloc.Global.{Global}
use Rattle.rv_tree.specs.Rows.{values, some_behind}

-- items that are shared once more
pub values-cloned : {T : Type 0} (xs ys : List (Rc T Global)) → AllZip (λ x y. y.value ≡ x.value) xs ys → values ys ≡ values xs
values-cloned [] [] same = refl
values-cloned [] (y ∷ ys) same = absurd same
values-cloned (x ∷ xs) [] same = absurd same
values-cloned (x ∷ xs) (y ∷ ys) same = ap₂ (λ z zs. z ∷ zs) same.0 (values-cloned xs ys same.1)

pub values-append : {T : Type 0} (xs ys : List (Rc T Global)) → values (xs ++ ys) ≡ values xs ++ values ys
values-append xs ys = map-append (λ x. x.value) xs ys

pub values-insert : {T : Type 0} (xs : List (Rc T Global)) (i : ℕ) (x : Rc T Global) → values (insert xs i x) ≡ insert (values xs) i x.value
values-insert xs i x = simp (map-append, take-map, drop-map)

pub values-remove : {T : Type 0} (xs : List (Rc T Global)) (i : ℕ) → values (remove xs i) ≡ remove (values xs) i
values-remove xs i = simp (map-append, take-map, drop-map)

-- a shared item, and those behind it
pub values-from : {T : Type 0} (xs : List (Rc T Global)) (i : ℕ) (x : Rc T Global) → i < length xs → x ≡ slice_index_or xs i x → drop i (values xs) ≡ x.value ∷ drop (i + 1) (values xs)
values-from xs i x lt e =
    let first : drop i xs ≡ x ∷ drop (i + 1) xs = drop_more xs i x lt ∙ ap (λ y. y ∷ drop (i + 1) xs) (sym e) in
    drop-map (λ y. y.value) i xs ∙ ap values first ∙ ap (λ ys. x.value ∷ ys) (sym (drop-map (λ y. y.value) (i + 1) xs))

-- an item, and those behind it, in the first n of a list
pub drop_get : {X : Type 0} (xs : List X) (i n : ℕ) (x : X) → i < n → slice_get xs i ≡ Some x → drop i (take n xs) ≡ x ∷ drop (suc i) (take n xs)
drop_get [] i n x lt e = absurd (cc e)
drop_get (y ∷ ys) zero zero x lt e = absurd (omega arith)
drop_get (y ∷ ys) zero (suc n) x lt e = let same : y ≡ x = cc e in ap (λ z. z ∷ take n ys) same
drop_get (y ∷ ys) (suc i) zero x lt e = absurd (omega arith)
drop_get (y ∷ ys) (suc i) (suc n) x lt e = drop_get ys i n x (omega arith) e

-- those of the first e items that stand behind the first i
pub taken_behind : {X : Type 0} (xs : List X) (i e : ℕ) → i ≤ e → drop i (take e xs) ≡ some_behind i (e - i) xs
taken_behind xs i e le = let all : e ≡ i + (e - i) = omega (arith, le) in ap (λ n. drop i (take n xs)) all ∙ drop-take i (e - i) xs

-- the same in the whole list
pub drop_at : {X : Type 0} (xs : List X) (i : ℕ) (x : X) → slice_get xs i ≡ Some x → drop i xs ≡ x ∷ drop (i + 1) xs
drop_at xs i x e = drop_more xs i x (slice_get_within xs i x e) ∙ ap (λ y. y ∷ drop (i + 1) xs) (get_or_from_slice_get xs i x x e)

-- some items, and those behind them
pub some_and_rest : {X : Type 0} (xs : List X) (i n : ℕ) → some_behind i n xs ++ drop (i + n) xs ≡ drop i xs
some_and_rest xs i n = ap (λ ys. some_behind i n xs ++ ys) (sym (drop-drop n i xs)) ∙ take-append-drop n (drop i xs)

-- what is alike from a place on is alike behind it
pub alike_behind : {X : Type 0} (xs ys : List X) (i n : ℕ) → drop i xs ≡ drop i ys → drop (i + n) xs ≡ drop (i + n) ys
alike_behind xs ys i n e = sym (drop-drop n i xs) ∙ ap (drop n) e ∙ drop-drop n i ys
