-- What two lists share at their beginning or at their end, where some items more are the same.
use Rattle.std.proofs.Common.{◌≡◌, ℕ, ◌+◌, ◌-◌, ◌≤◌, List, ◌++◌, length, take, drop, take-add, arith, ap, sym, ◌∙◌}
use Rattle.std.proofs.lemmas.List.{take-append-drop, drop-take, drop-drop, length-take-le}

-- the items after those that are known to be shared are the same
pub front-longer : (n m : ℕ) (a b x y : List ℕ) → x ≡ drop n a → y ≡ drop n b → take n a ≡ take n b → take m x ≡ take m y → take (n + m) a ≡ take (n + m) b
front-longer n m a b x y of_a of_b same more =
    let later : take m (drop n a) ≡ take m (drop n b) = ap (take m) (sym of_a) ∙ more ∙ ap (take m) of_b in
    take-add n m a ∙ (λ i. same i ++ later i) ∙ sym (take-add n m b)

module _ (n m : ℕ) (a x : List ℕ) (few : n + m ≤ length a) (is : x ≡ take (length a - n) a) where
  abbrev here : ℕ
  here = length a - (n + m)

  end : here + m ≡ length a - n
  end = omega (arith, few)

  count : length x ≡ length a - n
  count = ap length is ∙ length-take-le (length a - n) a (omega arith)

  -- a longer end begins with the last items of those before the shorter one
  last-longer : drop (length a - (n + m)) a ≡ drop (length x - m) x ++ drop (length a - n) a
  last-longer =
      let place : length x - m ≡ here = omega (arith, count, few) in
      let begins : take m (drop here a) ≡ drop (length x - m) x =
      sym (drop-take here m a) ∙ ap (λ k. drop here (take k a)) end ∙ ap (drop here) (sym is) ∙ ap (λ k. drop k x) (sym place) in
      let ends : drop m (drop here a) ≡ drop (length a - n) a = drop-drop m here a ∙ ap (λ k. drop k a) end in
      sym (take-append-drop m (drop here a)) ∙ (λ i. begins i ++ ends i)

-- the items before those that are known to be shared are the same
pub back-longer : (n m : ℕ) (a b x y : List ℕ) → n + m ≤ length a → n + m ≤ length b → x ≡ take (length a - n) a → y ≡ take (length b - n) b
    → drop (length a - n) a ≡ drop (length b - n) b → drop (length x - m) x ≡ drop (length y - m) y → drop (length a - (n + m)) a ≡ drop (length b - (n + m)) b
back-longer n m a b x y few_a few_b of_a of_b same more =
    last-longer n m a x few_a of_a ∙ (λ i. more i ++ same i) ∙ sym (last-longer n m b y few_b of_b)
