-- Windows over rows, one after another.
use Rattle.std.proofs.Common.{◌≡◌, ℕ, zero, suc, ◌+◌, ◌-◌, ◌==◌, ◌&&◌, nat_lt, Bool, true, false, List, [], ◌∷◌, ◌++◌, length, take, drop, if◌then◌else◌, refl, ap, sym, ◌∙◌, arith, append_assoc, length-append}
use Rattle.std.proofs.lemmas.Bool.Decides.{nat_tests}
use Rattle.std.proofs.lemmas.Grind.{flat_map-append}
use Rattle.std.specs.List.{flat_map}
use Rattle.rv_doc.specs.declared.window.Window.{Window}
use Rattle.rv_doc.specs.Windows.{passed, shows, windowed}

pub alike : (v w : Window) → v.skipped ≡ w.skipped → v.most ≡ w.most → v ≡ w
alike v w s m = ap (λ n. record { skipped = n; most = v.most }) s ∙ ap (λ n. record { skipped = w.skipped; most = n }) m

-- the rest of a window is passed in one step or in two
pub passed_both : (w : Window) (a b : ℕ) → passed (passed w a) b ≡ passed w (a + b)
passed_both w a b = alike (passed (passed w a) b) (passed w (a + b)) (omega arith) (omega arith)

pub passed_none : (w : Window) → passed w 0 ≡ w
passed_none w = alike (passed w 0) w (omega arith) (omega arith)

take_nil : {A : Type 0} (n : ℕ) → take {A = A} n [] ≡ []
take_nil zero = refl
take_nil (suc n) = refl

drop_nil : {A : Type 0} (n : ℕ) → drop {A = A} n [] ≡ []
drop_nil zero = refl
drop_nil (suc n) = refl

-- a window of no rows
pub windowed_nil : {A : Type 0} (w : Window) → windowed {A = A} w [] ≡ []
windowed_nil {A} w = ap (take w.most) (drop_nil {A = A} w.skipped) ∙ take_nil w.most

-- the first row and the others
pub windowed_one : {A : Type 0} (w : Window) (x : A) (xs : List A) → windowed w (x ∷ xs) ≡ (if shows w then x ∷ [] else []) ++ windowed (passed w 1) xs
windowed_one w x xs = at w.skipped w.most (shows w) refl
  where
    at : (s m : ℕ) (b : Bool) → ((s == 0) && nat_lt 0 m) ≡ b → take m (drop s (x ∷ xs)) ≡ (if b then x ∷ [] else []) ++ take (m - (1 - s)) (drop (s - 1) xs)
    at zero zero true e = absurd (grind (arith, nat_tests, e))
    at zero zero false e =
        let none : zero - (1 - zero) ≡ zero = omega arith in
        sym (ap (λ n. take n (drop (zero - 1) xs)) none)
    at zero (suc m) true e =
        let left : suc m - (1 - zero) ≡ m = omega arith in
        let none : zero - 1 ≡ zero = omega arith in
        ap (λ l. x ∷ l) (sym (ap (λ n. take n (drop (zero - 1) xs)) left ∙ ap (λ n. take m (drop n xs)) none))
    at zero (suc m) false e = absurd (grind (arith, nat_tests, e))
    at (suc s) m true e = absurd (grind (arith, nat_tests, e))
    at (suc s) m false e =
        let less : suc s - 1 ≡ s = omega arith in
        let none : m - (1 - suc s) ≡ m = omega arith in
        sym (ap (λ n. take n (drop (suc s - 1) xs)) none ∙ ap (λ n. take m (drop n xs)) less)

-- some rows and others behind them
pub windowed_both : {A : Type 0} (w : Window) (xs ys : List A) → windowed w (xs ++ ys) ≡ windowed w xs ++ windowed (passed w (length xs)) ys
windowed_both {A} w [] ys = sym (ap (λ l. l ++ windowed (passed w 0) ys) (windowed_nil {A = A} w) ∙ ap (λ v. windowed v ys) (passed_none w))
windowed_both w (x ∷ xs) ys =
    windowed_one w x (xs ++ ys)
    ∙ ap (λ l. (if shows w then x ∷ [] else []) ++ l) (windowed_both (passed w 1) xs ys ∙ ap (λ v. windowed (passed w 1) xs ++ windowed v ys) (passed_both w 1 (length xs)))
    ∙ sym (append_assoc (if shows w then x ∷ [] else []) (windowed (passed w 1) xs) (windowed (passed w (1 + length xs)) ys))
    ∙ ap (λ l. l ++ windowed (passed w (1 + length xs)) ys) (sym (windowed_one w x xs))
    ∙ ap (λ n. windowed w (x ∷ xs) ++ windowed (passed w n) ys) (let count : 1 + length xs ≡ length (x ∷ xs) = omega arith in count)

-- some rows are written, and then others
pub written_both : {A B : Type 0} (f : A → List B) (w v : Window) (xs ys : List A) (old new : List B) → new ≡ old ++ flat_map f (windowed w xs) → v ≡ passed w (length xs) → new ++ flat_map f (windowed v ys) ≡ old ++ flat_map f (windowed w (xs ++ ys))
written_both f w v xs ys old new is rest =
    ap (λ l. l ++ flat_map f (windowed v ys)) is
    ∙ ap (λ u. (old ++ flat_map f (windowed w xs)) ++ flat_map f (windowed u ys)) rest
    ∙ append_assoc old (flat_map f (windowed w xs)) (flat_map f (windowed (passed w (length xs)) ys))
    ∙ ap (λ l. old ++ l) (sym (flat_map-append f (windowed w xs) (windowed (passed w (length xs)) ys)) ∙ ap (flat_map f) (sym (windowed_both w xs ys)))

-- what is left of a window behind both
pub passed_more : {A : Type 0} (w v : Window) (xs ys : List A) → v ≡ passed w (length xs) → passed v (length ys) ≡ passed w (length (xs ++ ys))
passed_more w v xs ys is =
    ap (λ u. passed u (length ys)) is ∙ passed_both w (length xs) (length ys) ∙ ap (passed w) (sym (length-append xs ys))
