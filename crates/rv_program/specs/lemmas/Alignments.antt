-- The padding of an alignment follows from its section and its address: the first section begins at the base, each other one
-- at a multiple of 4096, and alignments are to 4096 bytes at most.
use Rattle.std.proofs.Common.{◌≡◌, ℕ, zero, suc, ◌+◌, ◌-◌, ◌*◌, ◌/◌, ◌%◌, ◌^◌, ◌≤◌, length, get_or, arith, pow-add, mul_assoc, ap, sym, ◌∙◌, refl}
use Rattle.std.proofs.Math.Nat.{mul-mod_left}
use Rattle.std.proofs.lemmas.Nat.{div-add-mod'}
use Rattle.rv_layout.specs.declared.measured.Measured.{Measured}
use Rattle.rv_layout.specs.declared.measured.Measured.TheVariants.{Align, Nothing}
use Rattle.rv_layout.specs.Places.{size_at, base_from, section_base_of, section_end_of, offset_of, IsLimited}
use Rattle.rv_layout.specs.Rounding.{padding}
use Rattle.rv_layout.specs.RoundingLaws.{padding-add_mul, round_up-multiple}
use Rattle.rv_layout.specs.Sections.{section_number}
use Rattle.rv_program.specs.Layout.{shape_at, shapes_of, section_at, address_at, size_at as line_size_at}
use Rattle.rv_program.specs.Program.{Program}
use Rattle.rv_program.specs.lemmas.Programs.{at-for_lines}

-- Sections

-- each section but the first begins at a multiple of 4096
base_from-whole : (base : ℕ) (end : ℕ → ℕ) (t : ℕ) → base_from base end (suc t) % 4096 ≡ 0
base_from-whole base end t =
    let (i, same) = round_up-multiple (base_from base end t + end t) 4096 (omega arith) in
    ap (λ x. x % 4096) same ∙ mul-mod_left i 4096

-- a multiple of 4096 is one of each smaller power of two
multiple_of_power : (x e : ℕ) → e ≤ 12 → x % 4096 ≡ 0 → (j : ℕ) × (x ≡ j * 2 ^ e)
multiple_of_power x e few whole = (
  x / 4096 * 2 ^ (12 - e),
  let all : 12 - e + e ≡ 12 = omega (arith, few) in
      let parts : 2 ^ (12 - e) * 2 ^ e ≡ 4096 = sym (pow-add 2 (12 - e) e) ∙ ap (λ n. 2 ^ n) all in
      let quotient : x ≡ x / 4096 * 4096 = omega (arith, div-add-mod' x 4096, whole) in
      quotient ∙ ap (λ n. x / 4096 * n) (sym parts) ∙ sym (mul_assoc (x / 4096) (2 ^ (12 - e)) (2 ^ e)),
)

-- the padding is that of the offset in a section that begins at a multiple of 4096
padding-in_section : (b x e : ℕ) → e ≤ 12 → b % 4096 ≡ 0 → padding (b + x) (2 ^ e) ≡ padding x (2 ^ e)
padding-in_section b x e few whole =
    let (j, same) = multiple_of_power b e few whole in
    let sum : b + x ≡ x + j * 2 ^ e = omega (arith, same) in
    ap (λ n. padding n (2 ^ e)) sum ∙ padding-add_mul x j (2 ^ e)

-- how many bytes a line has at an address, whichever multiple of 4096 its section begins at
size-in_section : (b c x y : ℕ) (m : Measured) → IsLimited m → b % 4096 ≡ 0 → c % 4096 ≡ 0 → b + x ≡ c + y → size_at x m ≡ size_at y m
size-in_section b c x y (Align e) few whole whole' same =
    sym (padding-in_section b x e few whole) ∙ ap (λ n. padding n (2 ^ e)) same ∙ padding-in_section c y e few whole'
size-in_section b c x y m limited whole whole' same = refl

-- the same for one section of two texts; the first section of both begins at the base
size-follows : (base : ℕ) (end end' : ℕ → ℕ) (t x y : ℕ) (m : Measured) → IsLimited m → base_from base end t + x ≡ base_from base end' t + y → size_at x m ≡ size_at y m
size-follows base end end' zero x y m limited same = ap (λ n. size_at n m) (omega (arith, same))
size-follows base end end' (suc t) x y m limited same =
    size-in_section (base_from base end (suc t)) (base_from base end' (suc t)) x y m limited (base_from-whole base end t) (base_from-whole base end' t) same

pub shape-in_row : (program : Program) (i : ℕ) → 1 ≤ i → i ≤ length program → get_or (shapes_of program) (i - 1) Nothing ≡ shape_at program i
shape-in_row program i first last =
    let next : suc (i - 1) ≡ i = omega (arith, first) in
    at-for_lines (shape_at program) (length program) (i - 1) Nothing (omega (arith, first, last)) ∙ ap (shape_at program) next

-- two lines with the same shape at one address in the same section have as many bytes
pub size_at-follows : (base : ℕ) (after before : Program) (k j : ℕ) → 1 ≤ k → k ≤ length after → 1 ≤ j → j ≤ length before → IsLimited (shape_at before j) → shape_at after k ≡ shape_at before j → section_at after k ≡ section_at before j → address_at base after k ≡ address_at base before j → line_size_at after k ≡ line_size_at before j
size_at-follows base after before k j first last first' last' limited shape section address =
    let x = offset_of (shapes_of after) k in
    let y = offset_of (shapes_of before) j in
    let here : get_or (shapes_of after) (k - 1) Nothing ≡ shape_at before j = shape-in_row after k first last ∙ shape in
    let there : get_or (shapes_of before) (j - 1) Nothing ≡ shape_at before j = shape-in_row before j first' last' in
    let t = section_number (section_at before j) in
    let same : section_base_of base (shapes_of after) t + x ≡ section_base_of base (shapes_of before) t + y = sym (ap (λ s. section_base_of base (shapes_of after) (section_number s) + x) section) ∙ address in
    ap (size_at x) here
    ∙ size-follows base (section_end_of (shapes_of after)) (section_end_of (shapes_of before)) t x y (shape_at before j) limited same
    ∙ sym (ap (size_at y) there)
