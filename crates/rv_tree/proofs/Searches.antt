-- The first item that a search does not pass over, in a list of two parts.
use Rattle.std.proofs.Common.{◌≡◌, ℕ, zero, suc, ◌+◌, ◌-◌, ◌≤◌, ◌<◌, Bool, true, List, [], ◌∷◌, ◌++◌, length, Some, arith, ap, sym, ◌∙◌, refl, length-append}
use Rattle.std.specs.Prelude.{slice_get}
use native.Mathlib.Decide.{dec_le}
use Rattle.rv_tree.specs.Sums.{total, AllSums, JoinLaws}
use Rattle.rv_tree.specs.SumLaws.{total_is_value}
use Rattle.rv_tree.specs.Search.{IsNextPart}

-- an item of the first of two lists, and one of the second
get_left : {T : Type 0} (xs ys : List T) (i : ℕ) → i < length xs → slice_get (xs ++ ys) i ≡ slice_get xs i
get_left [] ys i lt = absurd (omega (arith, lt))
get_left (x ∷ xs) ys zero lt = refl
get_left (x ∷ xs) ys (suc i) lt = get_left xs ys i (omega (arith, lt))

get_right : {T : Type 0} (xs ys : List T) (i : ℕ) → length xs ≤ i → slice_get (xs ++ ys) i ≡ slice_get ys (i - length xs)
get_right [] ys i le = let same : i ≡ i - 0 = omega arith in ap (slice_get ys) same
get_right (x ∷ xs) ys zero le = absurd (omega (arith, le))
get_right (x ∷ xs) ys (suc i) le = let same : suc i - suc (length xs) ≡ i - length xs = omega arith in get_right xs ys i (omega (arith, le)) ∙ ap (slice_get ys) (sym same)

module _ {S T : Type 0} {is_value : S → Type 0} {empty : S} {op : S → S → S} (laws : JoinLaws is_value empty op) (sum_of : T → S) (lacks : S → Bool)
    (parts : (a b : S) → is_value a → is_value b → lacks (op a b) ≡ true → (lacks a ≡ true) × (lacks b ≡ true)) where
  -- each item of a part that is passed over
  each : (xs : List T) → AllSums is_value sum_of xs → lacks (total empty op sum_of xs) ≡ true → (i : ℕ) (x : T) → slice_get xs i ≡ Some x → lacks (sum_of x) ≡ true
  each [] a k i x at = absurd (cc at)
  each (y ∷ ys) a k zero x at = let same : y ≡ x = cc at in ap (λ z. lacks (sum_of z)) (sym same) ∙ (parts (sum_of y) (total empty op sum_of ys) a.0 (total_is_value laws sum_of ys a.1) k).0
  each (y ∷ ys) a k (suc i) x at = each ys a.1 (parts (sum_of y) (total empty op sum_of ys) a.0 (total_is_value laws sum_of ys a.1) k).1 i x at

  pub all_passed : (xs : List T) (before : ℕ) → AllSums is_value sum_of xs → lacks (total empty op sum_of xs) ≡ true → before ≤ length xs → IsNextPart (λ x. lacks (sum_of x)) xs before (length xs) (length xs)
  all_passed xs before a k le = record {
    from = le;
    order = omega arith;
    within = omega arith;
    some = λ lt. absurd (omega (arith, lt));
    passed = λ i x b lt at. each xs a k i x at;
  }

module _ {T : Type 0} (test : T → Bool) (xs ys all : List T) (whole : xs ++ ys ≡ all) where
  count : length all ≡ length xs + length ys
  count = ap length (sym whole) ∙ length-append xs ys

  in_all : (i : ℕ) (x : T) → slice_get all i ≡ Some x → slice_get (xs ++ ys) i ≡ Some x
  in_all i x at = ap (λ zs. slice_get zs i) whole ∙ at

  -- it is in the first part
  pub in_left : (before n end : ℕ) → IsNextPart test xs before n end → n < length xs → IsNextPart test all before n end
  in_left before n end f lt = record {
    from = f.from;
    order = f.order;
    within = omega (arith, f.within, count);
    some = λ few. f.some lt;
    passed = λ i x b l at. f.passed i x b l (sym (get_left xs ys i (omega (arith, l, lt))) ∙ in_all i x at);
  }

  -- it is looked for in the second part alone
  pub in_right : (before n end : ℕ) → length xs ≤ before → IsNextPart test ys (before - length xs) n end → IsNextPart test all before (length xs + n) (length xs + end)
  in_right before n end le f = record {
    from = omega (arith, f.from, le);
    order = omega (arith, f.order);
    within = omega (arith, f.within, count);
    some = λ few. let more : n < end = f.some (omega (arith, few, count)) in omega (arith, more);
    passed = λ i x b l at. f.passed (i - length xs) x (omega (arith, b, le)) (omega (arith, l, b, le)) (sym (get_right xs ys i (omega (arith, b, le))) ∙ in_all i x at);
  }

  -- it is not in the first part
  pub after_left : (before m last n end : ℕ) → IsNextPart test xs before m last → length xs ≤ m → IsNextPart test ys 0 n end → IsNextPart test all before (length xs + n) (length xs + end)
  after_left before m last n end f le s = record {
    from = omega (arith, f.from, f.order, f.within, le);
    order = omega (arith, s.order);
    within = omega (arith, s.within, count);
    some = λ few. let more : n < end = s.some (omega (arith, few, count)) in omega (arith, more);
    passed = λ i x b l at. elim (dec_le (length xs) i) [
      | yes p ↦ s.passed (i - length xs) x (omega arith) (omega (arith, l, p)) (sym (get_right xs ys i p) ∙ in_all i x at)
      | no n ↦ f.passed i x b (omega (arith, n, le)) (sym (get_left xs ys i (omega (arith, n))) ∙ in_all i x at)
    ];
  }
