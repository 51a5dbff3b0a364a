-- The bytes before an alignment. (docs/LANGUAGE.md, Padding)
use Rattle.std.specs.Prelude.{ℕ, ◌/◌, ◌%◌, Bool, true, false, List, [], ◌∷◌, ◌++◌, replicate}
use Rattle.std.specs.List.{repeat}

-- in a section of code a zero byte where the count is odd, then `c.nop` where what is left is 2 modulo 4, then `nop`;
-- elsewhere zeros
abbrev pub padding : (in_code : Bool) → (count : ℕ) → List ℕ
padding false n = replicate n 0
padding true n =
    replicate (n % 2) 0
    ++ (repeat (n / 2 % 2) (0x01 ∷ 0x00 ∷ []) ++ repeat (n / 4) (0x13 ∷ 0x00 ∷ 0x00 ∷ 0x00 ∷ []))
