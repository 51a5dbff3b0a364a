-- Lists of bytes.
use Rattle.std.proofs.Common.{ℕ, zero, suc, ◌<◌, List, [], ◌∷◌, ◌++◌, take, drop, arith}
use Rattle.rv_files.specs.Segments.{AreBytes}

pub bytes_none : AreBytes []
bytes_none i = omega arith

pub bytes_cons : (b : ℕ) (bs : List ℕ) → b < 256 → AreBytes bs → AreBytes (b ∷ bs)
bytes_cons b bs lt h zero = lt
bytes_cons b bs lt h (suc i) = h i

pub bytes_append : (xs ys : List ℕ) → AreBytes xs → AreBytes ys → AreBytes (xs ++ ys)
bytes_append [] ys a b = b
bytes_append (x ∷ xs) ys a b = bytes_cons x (xs ++ ys) (a 0) (bytes_append xs ys (λ i. a (suc i)) b)

pub bytes_take : (n : ℕ) (xs : List ℕ) → AreBytes xs → AreBytes (take n xs)
bytes_take zero xs h = bytes_none
bytes_take (suc n) [] h = bytes_none
bytes_take (suc n) (x ∷ xs) h = bytes_cons x (take n xs) (h 0) (bytes_take n xs (λ i. h (suc i)))

pub bytes_drop : (n : ℕ) (xs : List ℕ) → AreBytes xs → AreBytes (drop n xs)
bytes_drop zero xs h = h
bytes_drop (suc n) [] h = bytes_none
bytes_drop (suc n) (x ∷ xs) h = bytes_drop n xs (λ i. h (suc i))
