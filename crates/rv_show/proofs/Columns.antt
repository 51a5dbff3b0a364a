-- The columns of a line, byte by byte.
use Rattle.std.proofs.Common.{◌≡◌, ℕ, suc, ◌+◌, ◌-◌, ◌≤◌, List, [], ◌∷◌, length, take, drop, ap, arith}
use Rattle.rv_text.specs.SliceLaws.{rest_of}
use Rattle.rv_show.specs.declared.characters.Place.{Place}
use Rattle.rv_show.specs.Characters.{column_behind, next}

pub length_of_rest : (bs : List ℕ) → 1 ≤ length bs → length (take (length bs - 1) (drop 1 bs)) + 1 ≡ length bs
length_of_rest [] l = absurd (omega (arith, l))
length_of_rest (b ∷ bs) l = let same = ap length (rest_of b bs) in omega (arith, same)

-- one byte more
pub next_column : (place : Place) (n : ℕ) (bs : List ℕ) → 1 ≤ length bs → column_behind (next place bs) n (take (length bs - 1) (drop 1 bs)) ≡ column_behind place (suc n) bs
next_column place n [] l = absurd (omega (arith, l))
next_column place n (b ∷ bs) l = ap (column_behind (next place (b ∷ bs)) n) (rest_of b bs)
