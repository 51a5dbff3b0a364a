-- Lists that are gone through from the first item on.
use Rattle.std.proofs.Common.{◌≡◌, ◌-◌, ◌≤◌, List, [], ◌∷◌, length, take, drop, get_or, arith, refl}
use Rattle.std.proofs.lemmas.List.{take_all}

-- the items behind the first
pub rest_of : {A : Type 0} (x : A) (xs : List A) → take (length (x ∷ xs) - 1) (drop 1 (x ∷ xs)) ≡ xs
rest_of x xs =
    let count : length (x ∷ xs) - 1 ≡ length xs = omega arith in
    rw count (take_all (length xs) xs (omega arith))

-- the first item and the others
pub first_and_rest : {A : Type 0} (xs : List A) (d : A) → 1 ≤ length xs → xs ≡ get_or xs 0 d ∷ take (length xs - 1) (drop 1 xs)
first_and_rest [] d l = absurd (omega (arith, l))
first_and_rest (x ∷ xs) d l = rw (rest_of x xs) refl
