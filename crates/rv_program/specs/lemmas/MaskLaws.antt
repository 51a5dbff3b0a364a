-- Masks, bit by bit: lines together have what one of them has.
use Rattle.std.proofs.Common.{◌≡◌, ℕ, ◌<◌, ◌%◌, ◌^◌, ◌==◌, ◌-◌, max, min, Bool, true, false, true≢false, arith, ap, sym, ◌∙◌, refl}
use Rattle.std.specs.Prelude.{if◌then◌else◌}
use Rattle.std.specs.Int.{bit_at}
use Rattle.std.specs.Int.Bits.{bit_and, bit_or, or_zero_l, or_zero_r}
use Rattle.std.proofs.lemmas.Bool.{eqb-true, eq-eqb, false_from_ne_true}
use Rattle.std.proofs.lemmas.Nat.{or_lt, and_le_r, le_or_l, le_or_r}
use Rattle.std.proofs.lemmas.Nat.Bits.{bit_at-lt, bit_at-zero, bit_at_ones, bit_at-pow_same, bit_at_and, bit_at_or, same_from_bits_below}
use Rattle.rv_program.specs.declared.mask.Kind.{Kind}
use Rattle.rv_program.specs.declared.mask.Mask.{Mask}
use Rattle.rv_program.specs.internal.Masks.{mask, IsMask, no_mask, both_masks, part_of, part_at, shared, mask_in, mask_of_bucket, mask_of_remainders, all_names, has_name, kind_bit, mask_of_kind, with_kind, has_kind}

or_assoc : (a b c : ℕ) → a < 2 ^ 64 → b < 2 ^ 64 → c < 2 ^ 64 → bit_or (bit_or a b) c ≡ bit_or a (bit_or b c)
or_assoc a b c p q r =
    same_from_bits_below 64 (bit_or (bit_or a b) c) (bit_or a (bit_or b c)) (or_lt 64 (bit_or a b) c (or_lt 64 a b p q) r) (or_lt 64 a (bit_or b c) p (or_lt 64 b c q r))
    (λ i lt.
    let left = bit_at_or (bit_or a b) c i in
    let inner = bit_at_or a b i in
    let right = bit_at_or a (bit_or b c) i in
    let outer = bit_at_or b c i in
    omega (arith, left, inner, right, outer))

same : {a b c d a' b' c' d' : ℕ} → a ≡ a' → b ≡ b' → c ≡ c' → d ≡ d' → mask a b c d ≡ mask a' b' c' d'
same p q r s = λ i. mask (p i) (q i) (r i) (s i)

pub both-values : (x y : Mask) → IsMask x → IsMask y → IsMask (both_masks x y)
both-values x y p q = (or_lt 64 x.first y.first p.0 q.0, or_lt 64 x.second y.second p.1 q.1, or_lt 64 x.third y.third p.2 q.2, or_lt 64 x.fourth y.fourth p.3 q.3)

pub both-left : (x : Mask) → both_masks no_mask x ≡ x
both-left x = same (or_zero_l x.first) (or_zero_l x.second) (or_zero_l x.third) (or_zero_l x.fourth)

pub both-right : (x : Mask) → both_masks x no_mask ≡ x
both-right x = same (or_zero_r x.first) (or_zero_r x.second) (or_zero_r x.third) (or_zero_r x.fourth)

pub both-associative : (x y z : Mask) → IsMask x → IsMask y → IsMask z → both_masks (both_masks x y) z ≡ both_masks x (both_masks y z)
both-associative x y z p q r =
    same (or_assoc x.first y.first z.first p.0 q.0 r.0) (or_assoc x.second y.second z.second p.1 q.1 r.1)
    (or_assoc x.third y.third z.third p.2 q.2 r.2)
    (or_assoc x.fourth y.fourth z.fourth p.3 q.3 r.3)

both-part : (x y : Mask) (part : ℕ) → part_at (both_masks x y) part ≡ bit_or (part_at x part) (part_at y part)
both-part x y part = at (part == 0) (part == 1) (part == 2)
  where
    at : (a b c : Bool) → (if a then bit_or x.first y.first else (if b then bit_or x.second y.second else (if c then bit_or x.third y.third else bit_or x.fourth y.fourth))) ≡ bit_or (if a then x.first else (if b then x.second else (if c then x.third else x.fourth))) (if a then y.first else (if b then y.second else (if c then y.third else y.fourth)))
    at true b c = refl
    at false true c = refl
    at false false true = refl
    at false false false = refl

module _ (x y : Mask) (bucket : ℕ) where
  both-bit : bit_at (part_at (both_masks x y) (part_of bucket)) (bucket % 59) ≡ max (bit_at (part_at x (part_of bucket)) (bucket % 59)) (bit_at (part_at y (part_of bucket)) (bucket % 59))
  both-bit = ap (λ n. bit_at n (bucket % 59)) (both-part x y (part_of bucket)) ∙ bit_at_or (part_at x (part_of bucket)) (part_at y (part_of bucket)) (bucket % 59)

  -- never too few: what one of them has, both have
  pub name-in_first : has_name x bucket ≡ true → has_name (both_masks x y) bucket ≡ true
  name-in_first has =
      let one = eqb-true (bit_at (part_at x (part_of bucket)) (bucket % 59)) 1 has in
      let low = bit_at-lt (part_at y (part_of bucket)) (bucket % 59) in
      eq-eqb (bit_at (part_at (both_masks x y) (part_of bucket)) (bucket % 59)) 1 (omega (arith, one, low, both-bit))

  pub name-in_second : has_name y bucket ≡ true → has_name (both_masks x y) bucket ≡ true
  name-in_second has =
      let one = eqb-true (bit_at (part_at y (part_of bucket)) (bucket % 59)) 1 has in
      let low = bit_at-lt (part_at x (part_of bucket)) (bucket % 59) in
      eq-eqb (bit_at (part_at (both_masks x y) (part_of bucket)) (bucket % 59)) 1 (omega (arith, one, low, both-bit))

part-of_bucket : (part bits : ℕ) → part_at (mask_in part bits) part ≡ bits
part-of_bucket part bits = at (part == 0) (part == 1) (part == 2)
  where
    in_part : (a b c : Bool) → Mask
    in_part a b c = if a then mask bits 0 0 0 else (if b then mask 0 bits 0 0 else (if c then mask 0 0 bits 0 else mask 0 0 0 bits))

    at : (a b c : Bool) → (if a then (in_part a b c).first else (if b then (in_part a b c).second else (if c then (in_part a b c).third else (in_part a b c).fourth))) ≡ bits
    at true b c = refl
    at false true c = refl
    at false false true = refl
    at false false false = refl

-- that of a bucket has it
pub name-of_bucket : (bucket : ℕ) → has_name (mask_of_bucket bucket) bucket ≡ true
name-of_bucket bucket =
    eq-eqb (bit_at (part_at (mask_of_bucket bucket) (part_of bucket)) (bucket % 59)) 1
    (ap (λ n. bit_at n (bucket % 59)) (part-of_bucket (part_of bucket) (2 ^ (bucket % 59))) ∙ bit_at-pow_same (bucket % 59))

pub part-of_remainders : (remainders part : ℕ) → part_at (mask_of_remainders remainders) part ≡ remainders
part-of_remainders remainders part = at (part == 0) (part == 1) (part == 2)
  where
    at : (a b c : Bool) → (if a then remainders else (if b then remainders else (if c then remainders else remainders))) ≡ remainders
    at true b c = refl
    at false true c = refl
    at false false true = refl
    at false false false = refl

-- that of all names has each
all-bits : (bit : ℕ) → bit < 59 → bit_at (2 ^ 59 - 1) bit ≡ 1
all-bits bit below = bit_at_ones 59 bit below

pub name-of_all : (bucket : ℕ) → has_name all_names bucket ≡ true
name-of_all bucket =
    eq-eqb (bit_at (part_at all_names (part_of bucket)) (bucket % 59)) 1
    (ap (λ n. bit_at n (bucket % 59)) (part-of_remainders (2 ^ 59 - 1) (part_of bucket)) ∙ all-bits (bucket % 59) (omega arith))

-- Kinds

module _ (x y : Mask) (kind : Kind) where
  both-kind : bit_at (both_masks x y).first (kind_bit kind) ≡ max (bit_at x.first (kind_bit kind)) (bit_at y.first (kind_bit kind))
  both-kind = bit_at_or x.first y.first (kind_bit kind)

  kind-in_first : has_kind x kind ≡ true → has_kind (both_masks x y) kind ≡ true
  kind-in_first has =
      let one = eqb-true (bit_at x.first (kind_bit kind)) 1 has in
      let low = bit_at-lt y.first (kind_bit kind) in
      eq-eqb (bit_at (both_masks x y).first (kind_bit kind)) 1 (omega (arith, one, low, both-kind))

  kind-in_second : has_kind y kind ≡ true → has_kind (both_masks x y) kind ≡ true
  kind-in_second has =
      let one = eqb-true (bit_at y.first (kind_bit kind)) 1 has in
      let low = bit_at-lt x.first (kind_bit kind) in
      eq-eqb (bit_at (both_masks x y).first (kind_bit kind)) 1 (omega (arith, one, low, both-kind))

pub kind-of_itself : (kind : Kind) → has_kind (mask_of_kind kind) kind ≡ true
kind-of_itself kind = eq-eqb (bit_at (2 ^ kind_bit kind) (kind_bit kind)) 1 (bit_at-pow_same (kind_bit kind))

pub kind-added : (x : Mask) (kind : Kind) (is : Bool) → is ≡ true → has_kind (with_kind x kind is) kind ≡ true
kind-added x kind true e = kind-in_second x (mask_of_kind kind) kind (kind-of_itself kind)
kind-added x kind false e = absurd (true≢false (sym e))

pub kind-kept : (x : Mask) (kind : Kind) (is : Bool) (other : Kind) → has_kind x other ≡ true → has_kind (with_kind x kind is) other ≡ true
kind-kept x kind true other has = kind-in_first x (mask_of_kind kind) other has
kind-kept x kind false other has = has

pub name-kept : (x : Mask) (kind : Kind) (is : Bool) (bucket : ℕ) → has_name x bucket ≡ true → has_name (with_kind x kind is) bucket ≡ true
name-kept x kind true bucket has = name-in_first x (mask_of_kind kind) bucket has
name-kept x kind false bucket has = has

-- What is wanted of some lines together

and_bound : (w a : ℕ) → a < 2 ^ 64 → bit_and w a < 2 ^ 64
and_bound w a below = let le = and_le_r w a in omega (arith, le, below)

none-shared : (w a b : ℕ) → a < 2 ^ 64 → b < 2 ^ 64 → bit_and w (bit_or a b) ≡ 0 → (bit_and w a ≡ 0) × (bit_and w b ≡ 0)
none-shared w a b p q none = (
  same_from_bits_below 64 (bit_and w a) 0 (and_bound w a p) (omega arith) (λ i lt.
      let both = bit i in
      let alone = bit_at_and w a i in
      omega (arith, both, alone, bit_at-zero i, bit_at-lt w i, bit_at-lt a i, bit_at-lt b i)),
  same_from_bits_below 64 (bit_and w b) 0 (and_bound w b q) (omega arith) (λ i lt.
      let both = bit i in
      let alone = bit_at_and w b i in
      omega (arith, both, alone, bit_at-zero i, bit_at-lt w i, bit_at-lt a i, bit_at-lt b i)),
)
  where
    bit : (i : ℕ) → min (bit_at w i) (max (bit_at a i) (bit_at b i)) ≡ 0
    bit i = ap (λ n. min (bit_at w i) n) (sym (bit_at_or a b i)) ∙ sym (bit_at_and w (bit_or a b) i) ∙ ap (λ n. bit_at n i) none ∙ bit_at-zero i

or_none : (x y : ℕ) → bit_or x y ≡ 0 → (x ≡ 0) × (y ≡ 0)
or_none x y none = (let le = le_or_l x y in omega (arith, le, none), let le = le_or_r x y in omega (arith, le, none))

all_none : (a b c d : ℕ) → a ≡ 0 → b ≡ 0 → c ≡ 0 → d ≡ 0 → bit_or (bit_or a b) (bit_or c d) ≡ 0
all_none a b c d p q r s = (λ i. bit_or (bit_or (p i) (q i)) (bit_or (r i) (s i))) ∙ all_zero
  where
    all_zero : bit_or (bit_or 0 0) (bit_or 0 0) ≡ 0
    all_zero = ap (λ n. bit_or n (bit_or 0 0)) (or_zero_l 0) ∙ or_zero_l (bit_or 0 0) ∙ or_zero_l 0

-- what is shared with lines together is shared with one of them
pub shared-in_parts : (w x y : Mask) → IsMask x → IsMask y → shared w (both_masks x y) ≡ 0 → (shared w x ≡ 0) × (shared w y ≡ 0)
shared-in_parts w x y p q none =
    let both = both_masks x y in
    let halves = or_none (bit_or (bit_and w.first both.first) (bit_and w.second both.second)) (bit_or (bit_and w.third both.third) (bit_and w.fourth both.fourth)) none in
    let low = or_none (bit_and w.first both.first) (bit_and w.second both.second) halves.0 in
    let high = or_none (bit_and w.third both.third) (bit_and w.fourth both.fourth) halves.1 in
    let first = none-shared w.first x.first y.first p.0 q.0 low.0 in
    let second = none-shared w.second x.second y.second p.1 q.1 low.1 in
    let third = none-shared w.third x.third y.third p.2 q.2 high.0 in
    let fourth = none-shared w.fourth x.fourth y.fourth p.3 q.3 high.1 in (
      all_none (bit_and w.first x.first) (bit_and w.second x.second) (bit_and w.third x.third) (bit_and w.fourth x.fourth) first.0 second.0 third.0 fourth.0,
      all_none (bit_and w.first y.first) (bit_and w.second y.second) (bit_and w.third y.third) (bit_and w.fourth y.fourth) first.1 second.1 third.1 fourth.1,
    )

-- what shares nothing with a mask has none of the names that are in that
pub no-common_name : (w m : Mask) (bucket : ℕ) → shared w m ≡ 0 → has_name w bucket ≡ true → has_name m bucket ≡ false
no-common_name w m bucket none has = false_from_ne_true (has_name m bucket) (λ e.
    let halves = or_none (bit_or (bit_and w.first m.first) (bit_and w.second m.second)) (bit_or (bit_and w.third m.third) (bit_and w.fourth m.fourth)) none in
    let low = or_none (bit_and w.first m.first) (bit_and w.second m.second) halves.0 in
    let high = or_none (bit_and w.third m.third) (bit_and w.fourth m.fourth) halves.1 in
    let apart = parts (part_of bucket == 0) (part_of bucket == 1) (part_of bucket == 2) low.0 low.1 high.0 high.1 in
    let one = eqb-true (bit_at (part_at w (part_of bucket)) (bucket % 59)) 1 has in
    let other = eqb-true (bit_at (part_at m (part_of bucket)) (bucket % 59)) 1 e in
    let zero : bit_at (bit_and (part_at w (part_of bucket)) (part_at m (part_of bucket))) (bucket % 59) ≡ 0 = ap (λ n. bit_at n (bucket % 59)) apart ∙ bit_at-zero (bucket % 59) in
    omega (arith, zero, bit_at_and (part_at w (part_of bucket)) (part_at m (part_of bucket)) (bucket % 59), one, other))
  where
    parts : (a b c : Bool) → bit_and w.first m.first ≡ 0 → bit_and w.second m.second ≡ 0 → bit_and w.third m.third ≡ 0 → bit_and w.fourth m.fourth ≡ 0 → bit_and (if a then w.first else (if b then w.second else (if c then w.third else w.fourth))) (if a then m.first else (if b then m.second else (if c then m.third else m.fourth))) ≡ 0
    parts true b c p q r s = p
    parts false true c p q r s = q
    parts false false true p q r s = r
    parts false false false p q r s = s

-- nor one of the kinds
pub no-common_kind : (w m : Mask) (kind : Kind) → shared w m ≡ 0 → has_kind w kind ≡ true → has_kind m kind ≡ false
no-common_kind w m kind none has = false_from_ne_true (has_kind m kind) (λ e.
    let halves = or_none (bit_or (bit_and w.first m.first) (bit_and w.second m.second)) (bit_or (bit_and w.third m.third) (bit_and w.fourth m.fourth)) none in
    let low = or_none (bit_and w.first m.first) (bit_and w.second m.second) halves.0 in
    let one = eqb-true (bit_at w.first (kind_bit kind)) 1 has in
    let other = eqb-true (bit_at m.first (kind_bit kind)) 1 e in
    let zero : bit_at (bit_and w.first m.first) (kind_bit kind) ≡ 0 = ap (λ n. bit_at n (kind_bit kind)) low.0 ∙ bit_at-zero (kind_bit kind) in
    omega (arith, zero, bit_at_and w.first m.first (kind_bit kind), one, other))
