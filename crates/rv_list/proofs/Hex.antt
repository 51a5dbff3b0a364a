-- Digits of addresses.
use Rattle.std.proofs.Common.{◌≡◌, ℕ, zero, suc, ◌+◌, ◌*◌, ◌/◌, ◌%◌, ◌^◌, List, refl, sym, arith}
use Rattle.rv_text.specs.Rows.{hex}
use Rattle.rv_list.specs.Image.{byte_row}

-- a number with so many zeros behind its digits
abbrev shifted : (digits n : ℕ) → ℕ
shifted zero n = n
shifted (suc digits) n = 16 * shifted digits n

-- what stands before the last digits does not change them
same_hex : (digits n m q : ℕ) → n ≡ m + shifted digits q → hex digits n ≡ hex digits m
unfolding hex
same_hex zero n m q e = refl
same_hex (suc digits) n m q e =
    let above : n / 16 ≡ m / 16 + shifted digits q = omega (arith, e) in
    let last : n % 16 ≡ m % 16 = omega (arith, e) in
    rw (same_hex digits (n / 16) (m / 16) q above, last) refl

-- an address has eight digits
hex_wraps : (n : ℕ) → hex 8 (n % 2 ^ 32) ≡ hex 8 n
hex_wraps n = sym (same_hex 8 n (n % 2 ^ 32) (n / 2 ^ 32) (omega arith))

pub byte_row_wraps : (n : ℕ) (bytes : List ℕ) → byte_row (n % 2 ^ 32) bytes ≡ byte_row n bytes
unfolding byte_row
byte_row_wraps n bytes = rw (hex_wraps n) refl
