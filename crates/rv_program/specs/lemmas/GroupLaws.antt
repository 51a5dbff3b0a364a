-- Groups of buckets, bit by bit.
use Rattle.std.proofs.Common.{◌≡◌, ℕ, ◌<◌, ◌+◌, ◌*◌, ◌/◌, ◌%◌, ◌^◌, max, true, arith, ap, sym, ◌∙◌}
use Rattle.std.specs.Int.{bit_at}
use Rattle.std.specs.Int.Bits.{bit_or}
use Rattle.std.proofs.lemmas.Bool.{eqb-true, eq-eqb}
use Rattle.std.proofs.lemmas.Nat.Bits.{bit_at-lt, bit_at-pow_same, bit_at_or, bit_at_cat_low}
use Rattle.rv_program.specs.declared.groups.Groups.{Groups}
use Rattle.rv_program.specs.internal.Groups.{bits_of, groups_of, with_bit, has_bit, with_group, has_group}

bits-kept : (bits group : ℕ) → group < 64 → bit_at (bits_of (groups_of bits)) group ≡ bit_at bits group
bits-kept bits group below =
    let low : bits_of (groups_of bits) ≡ bits % 2 ^ 64 = omega arith in
    let split : (bits / 2 ^ 64) * 2 ^ 64 + bits % 2 ^ 64 ≡ bits = omega arith in
    ap (λ n. bit_at n group) low ∙ sym (bit_at_cat_low (bits / 2 ^ 64) 64 (bits % 2 ^ 64) group below) ∙ ap (λ n. bit_at n group) split

-- One bit more

module _ (groups : Groups) (bit other : ℕ) (below : other < 64) where
  with-bits : bit_at (bits_of (with_bit groups bit)) other ≡ max (bit_at (bits_of groups) other) (bit_at (2 ^ bit) other)
  with-bits = bits-kept (bit_or (bits_of groups) (2 ^ bit)) other below ∙ bit_at_or (bits_of groups) (2 ^ bit) other

  pub bit-kept : has_bit groups other ≡ true → has_bit (with_bit groups bit) other ≡ true
  bit-kept has =
      let one = eqb-true (bit_at (bits_of groups) other) 1 has in
      let low = bit_at-lt (2 ^ bit) other in
      eq-eqb (bit_at (bits_of (with_bit groups bit)) other) 1 (omega (arith, one, low, with-bits))

pub bit-added : (groups : Groups) (bit : ℕ) → bit < 64 → has_bit (with_bit groups bit) bit ≡ true
bit-added groups bit below =
    let one = bit_at-pow_same bit in
    let low = bit_at-lt (bits_of groups) bit in
    let is = with-bits groups bit bit below in
    eq-eqb (bit_at (bits_of (with_bit groups bit)) bit) 1 (omega (arith, one, low, is))

-- Buckets

pub group-added : (groups : Groups) (bucket : ℕ) → has_group (with_group groups bucket) bucket ≡ true
group-added groups bucket = bit-added groups (bucket % 59) (omega arith)

pub group-kept : (groups : Groups) (bucket other : ℕ) → has_group groups other ≡ true → has_group (with_group groups bucket) other ≡ true
group-kept groups bucket other has = bit-kept groups (bucket % 59) (other % 59) (omega arith) has
