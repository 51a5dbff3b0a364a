-- The operators on whole numbers. A result that is not from -2 ^ 63 to 2 ^ 63 - 1 is none. (docs/LANGUAGE.md, Expressions)
use Rattle.std.specs.Prelude.{ℕ, zero, suc, ◌^◌, ℤ, pos, negsuc, ◌+ℤ◌, ◌-ℤ◌, ◌*ℤ◌, neg_ℤ, nat_lt, Option, Some, None, option_map, option_and_then, int_div, int_rem, bit_and, bit_or, bit_xor, if◌then◌else◌}
use Rattle.std.specs.Int.{int_shr, cast_signed, cast_unsigned, w64}
use Rattle.rv_expr.specs.declared.tree.BinaryOp.{BinaryOp}
use Rattle.rv_expr.specs.declared.tree.BinaryOp.TheVariants.{Mul, Div, Rem, Shl, Shr, And, Or, Xor, Add, Sub}
use Rattle.rv_expr.specs.declared.tree.UnaryOp.{UnaryOp}
use Rattle.rv_expr.specs.declared.tree.UnaryOp.TheVariants.{Neg, Not}

-- the number itself, where it is from -2 ^ 63 to 2 ^ 63 - 1
abbrev pub fitting : ℤ → Option ℤ
fitting (pos n) = if nat_lt n (2 ^ 63) then Some (pos n) else None
fitting (negsuc n) = if nat_lt n (2 ^ 63) then Some (negsuc n) else None

-- the quotient, rounded toward zero; none for the divisor 0
abbrev pub quotient : ℤ → ℤ → Option ℤ
quotient x (pos zero) = None
quotient x (pos (suc d)) = fitting (int_div x (pos (suc d)))
quotient x (negsuc d) = fitting (int_div x (negsuc d))

-- what is left of the dividend, with its sign; it is always in range
abbrev pub remainder : ℤ → ℤ → Option ℤ
remainder x (pos zero) = None
remainder x (pos (suc d)) = Some (int_rem x (pos (suc d)))
remainder x (negsuc d) = Some (int_rem x (negsuc d))

-- the count of a shift, from 0 to 63
abbrev pub count_of : ℤ → Option ℕ
count_of (pos k) = if nat_lt k 64 then Some k else None
count_of (negsuc k) = None

-- the number times 2 ^ count
abbrev pub shifted_left : ℤ → ℤ → Option ℤ
shifted_left x y = option_and_then (λ k. fitting (x *ℤ pos (2 ^ k))) (count_of y)

-- the number divided by 2 ^ count, rounded down
abbrev pub shifted_right : ℤ → ℤ → Option ℤ
shifted_right x y = option_map (λ k. int_shr x k) (count_of y)

-- on the 64 bits of both, in two's complement
abbrev pub on_bits : (ℕ → ℕ → ℕ) → ℤ → ℤ → ℤ
on_bits f x y = cast_signed w64 (f (cast_unsigned w64 x) (cast_unsigned w64 y))

-- `-x - 1`, which is always in range
abbrev pub complement : ℤ → ℤ
complement (pos n) = negsuc n
complement (negsuc n) = pos n

abbrev pub apply_unary : UnaryOp → ℤ → Option ℤ
apply_unary Neg x = fitting (neg_ℤ x)
apply_unary Not x = Some (complement x)

abbrev pub apply : BinaryOp → ℤ → ℤ → Option ℤ
apply Mul x y = fitting (x *ℤ y)
apply Div x y = quotient x y
apply Rem x y = remainder x y
apply Shl x y = shifted_left x y
apply Shr x y = shifted_right x y
apply And x y = Some (on_bits bit_and x y)
apply Or x y = Some (on_bits bit_or x y)
apply Xor x y = Some (on_bits bit_xor x y)
apply Add x y = fitting (x +ℤ y)
apply Sub x y = fitting (x -ℤ y)
