-- Laws of runs and stops, for the proofs of passes.
use Rattle.std.proofs.Common.{◌≡◌, List, [], ◌∷◌, ◌++◌, length, suc, refl, sym, ap}
use Rattle.rv_tree.specs.Sums.{JoinLaws, total, AllSums}
use Rattle.rv_tree.specs.SumLaws.{all_sums-left, total_is_value}
use Rattle.rv_tree.specs.Passes.{Runs, none, one_more, Stops, here, refused, later}

-- a run over the list xs, and one over the list us behind what the first left; together they leave the list zs
pub record TwoRuns {P S T : Type 0} (gives : P → S → T → T → P → Type 0) (empty : S) (op : S → S → S) (sum_of : T → S) (p : P) (b : S) (xs us zs : List T) (q : P) : Type 0 where
  pub first : List T
  pub second : List T
  pub middle : P
  pub whole : zs ≡ first ++ second
  pub first_run : Runs gives op sum_of p b xs first middle
  pub second_run : Runs gives op sum_of middle (op b (total empty op sum_of first)) us second q

module _ {P S T : Type 0} (gives : P → S → T → T → P → Type 0) (op : S → S → S) (sum_of : T → S) where
  -- a run leaves as many items as it was handed
  pub runs-length : {p q : P} {b : S} {xs ys : List T} → Runs gives op sum_of p b xs ys q → length ys ≡ length xs
  runs-length none = refl
  runs-length (one_more g r) = ap (λ n. suc n) (runs-length r)

module _ {P S T : Type 0} (gives : P → S → T → T → P → Type 0) (refuses : P → S → T → P → Type 0) (is_value : S → Type 0) (empty : S) (op : S → S → S) (laws : JoinLaws is_value empty op) (sum_of : T → S) where
  -- a run over one list, and one over another behind what the first left, are a run over both
  pub runs-append : {p m q : P} {b : S} {xs ys : List T} (us vs : List T) → is_value b → AllSums is_value sum_of ys → Runs gives op sum_of p b xs ys m → Runs gives op sum_of m (op b (total empty op sum_of ys)) us vs q → Runs gives op sum_of p b (xs ++ us) (ys ++ vs) q
  runs-append {p} {m} {q} {b} us vs v a none r = rw (laws.right_unit b v) at r
  runs-append {p} {m} {q} {b} us vs v a (one_more {y = y} {ys = ys} g s) r = one_more g (runs-append us vs (laws.op_is_value _ _ v a.0) a.1 s (rw (sym (laws.associative b (sum_of y) (total empty op sum_of ys) v a.0 (total_is_value laws sum_of ys a.1))) at r))

  -- a run over two lists falls into a run over the first, and one over the second behind what that left
  pub runs-split : {p q : P} {b : S} (xs us : List T) {zs : List T} → is_value b → AllSums is_value sum_of zs → Runs gives op sum_of p b (xs ++ us) zs q → TwoRuns gives empty op sum_of p b xs us zs q
  runs-split {p} {q} {b} [] us {zs} v a r = record {
    first = [];
    second = zs;
    middle = p;
    whole = refl;
    first_run = none;
    second_run = rw (laws.right_unit b v) r;
  }
  runs-split {p} {q} {b} (x ∷ xs) us v a (one_more {m = m} {y = y} {ys = ys} g r) =
      let t = runs-split {p = m} {q = q} {b = op b (sum_of y)} xs us {zs = ys} (laws.op_is_value _ _ v a.0) a.1 r in
      let sums = all_sums-left is_value sum_of t.first t.second (rw t.whole at a.1) in
      record {
        first = y ∷ t.first;
        second = t.second;
        middle = t.middle;
        whole = ap (λ zs. y ∷ zs) t.whole;
        first_run = one_more g t.first_run;
        second_run = rw (laws.associative b (sum_of y) (total empty op sum_of t.first) v a.0 (total_is_value laws sum_of t.first sums)) at t.second_run;
      }

  -- where it stops in the first of two lists it stops in both
  pub stops-append_left : {p q : P} {b : S} {xs : List T} (us : List T) → Stops gives refuses op sum_of p b xs q → Stops gives refuses op sum_of p b (xs ++ us) q
  stops-append_left us here = here
  stops-append_left us (refused r) = refused r
  stops-append_left us (later g s) = later g (stops-append_left us s)

  -- a run over the first of two lists, and a stop in the second, are a stop in both
  pub stops-append_right : {p m q : P} {b : S} {xs ys : List T} (us : List T) → is_value b → AllSums is_value sum_of ys → Runs gives op sum_of p b xs ys m → Stops gives refuses op sum_of m (op b (total empty op sum_of ys)) us q → Stops gives refuses op sum_of p b (xs ++ us) q
  stops-append_right {p} {m} {q} {b} us v a none r = rw (laws.right_unit b v) at r
  stops-append_right {p} {m} {q} {b} us v a (one_more {y = y} {ys = ys} g s) r = later g (stops-append_right us (laws.op_is_value _ _ v a.0) a.1 s (rw (sym (laws.associative b (sum_of y) (total empty op sum_of ys) v a.0 (total_is_value laws sum_of ys a.1))) at r))

  -- a run, and then no memory for what was made
  pub stops_after_run : {p q : P} {b : S} {xs ys : List T} → Runs gives op sum_of p b xs ys q → Stops gives refuses op sum_of p b xs q
  stops_after_run none = here
  stops_after_run (one_more g s) = later g (stops_after_run s)

  module _ (accepts : P → S → List T → Type 0) (accepts_rest : (p q : P) (b : S) (x y : T) (xs : List T) → accepts p b (x ∷ xs) → gives p b x y q → accepts q (op b (sum_of y)) xs) where
    -- what accepts two lists accepts the second behind what it left of the first
    pub accepts_after : {p m : P} {b : S} {xs ys : List T} (us : List T) → is_value b → AllSums is_value sum_of ys → Runs gives op sum_of p b xs ys m → accepts p b (xs ++ us) → accepts m (op b (total empty op sum_of ys)) us
    accepts_after {p} {m} {b} us v a none c = rw (laws.right_unit b v) c
    accepts_after {p} {m} {b} us v a (one_more {m = m'} {x = x} {y = y} {xs = xs} {ys = ys} g s) c = rw (sym (laws.associative b (sum_of y) (total empty op sum_of ys) v a.0 (total_is_value laws sum_of ys a.1))) (accepts_after us (laws.op_is_value _ _ v a.0) a.1 s (accepts_rest _ _ b x y (xs ++ us) c g))

-- The law of skipping in parts: a condition on the sum of a list that gives the same condition on its first item and on
-- the rest behind that item, and under which one item is kept, keeps the list.
module _ {P S T : Type 0} (gives : P → S → T → T → P → Type 0) {is_value : S → Type 0} {empty : S} {op : S → S → S} (laws : JoinLaws is_value empty op) (sum_of : T → S)
    (p : P) (keeps : S → S → Type 0)
    (first : (b x y : S) → is_value b → is_value x → is_value y → keeps b (op x y) → keeps b x)
    (rest : (b x y : S) → is_value b → is_value x → is_value y → keeps b (op x y) → keeps (op b x) y)
    (one : (b : S) (x : T) → is_value b → keeps b (sum_of x) → gives p b x x p) where
  pub kept_by_parts : (b : S) (xs : List T) → is_value b → AllSums is_value sum_of xs → keeps b (total empty op sum_of xs) → Runs gives op sum_of p b xs xs p
  kept_by_parts b [] v a k = none
  kept_by_parts b (x ∷ xs) v a k =
      let t = total_is_value laws sum_of xs a.1 in
      one_more (one b x v (first b (sum_of x) (total empty op sum_of xs) v a.0 t k))
      (kept_by_parts (op b (sum_of x)) xs (laws.op_is_value _ _ v a.0) a.1 (rest b (sum_of x) (total empty op sum_of xs) v a.0 t k))
