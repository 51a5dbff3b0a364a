-- Within the limits, layouts give the definitions.
use Rattle.std.proofs.Common.{◌≡◌, ℕ, zero, suc, ◌+◌, ◌-◌, ◌*◌, ◌^◌, ◌<◌, ◌≤◌, List, [], ◌∷◌, length, take, if◌then◌else◌, ◌==◌, Bool, true, false, arith, ap, sym, ◌∙◌, refl, ◌⊎◌, inl, inr}
use Rattle.std.proofs.Math.Nat.{mod-eq_of_lt, pow-le-pow_right}
use Rattle.std.proofs.lemmas.Bool.{cases_eq, eq-eqb, ne_eqb}
use Rattle.std.proofs.lemmas.Nat.{pow_pos, mod_below}
use Rattle.rv_layout.specs.declared.measured.Measured.{Measured}
use Rattle.rv_layout.specs.declared.measured.Measured.TheVariants.{Bytes, Align, Switch, Nothing, Faulty}
use Rattle.rv_stmt.specs.declared.section.Sect.{Sect}
use Rattle.rv_stmt.specs.declared.section.Sect.TheVariants.{Init, Text, Rodata, Rwdata, Sdata, Bss}
use Rattle.rv_layout.specs.declared.effect.Effect.{Effect}
use Rattle.rv_layout.specs.declared.effect.Effect.TheVariants.{Plain, Switched}
use Rattle.rv_layout.specs.LayoutLaws.{layout-section, layout-offset}
use Rattle.rv_layout.specs.Places.{before, section_after, offset_after, section_through, offset_through, section_of, offset_of, section_end_of, base_from, section_base_of, address_of, sum_below, IsLimited, AreLimited}
use Rattle.rv_layout.specs.Rounding.{round_up}
use Rattle.rv_layout.specs.RoundingLaws.{round_up-below, round_up-above}
use Rattle.rv_layout.specs.Sections.{sections, section_number}
use Rattle.rv_layout.specs.Advances.{advanced}
use Rattle.rv_layout.specs.Effects.{layout_of, section_reached, offset_reached, base_by_layout}

-- how far the offsets of sections get

pub line_bound : (x : ℕ) (m : Measured) → IsLimited m → offset_after x m ≤ x + 65536
line_bound x (Bytes n) h = omega (arith, h)
line_bound x (Align e) h =
    let pow_le : 2 ^ e ≤ 2 ^ 12 = pow-le-pow_right (omega arith) h in
    omega (arith, round_up-below x (2 ^ e) (pow_pos e), pow_le)
line_bound x (Switch s) h = omega arith
line_bound x Nothing h = omega arith
line_bound x (Faulty fault) h = omega arith

line_grows : (x : ℕ) (m : Measured) → x ≤ offset_after x m
line_grows x (Bytes n) = omega arith
line_grows x (Align e) = round_up-above x (2 ^ e)
line_grows x (Switch s) = omega arith
line_grows x Nothing = omega arith
line_grows x (Faulty fault) = omega arith

chosen_grows : (b : Bool) (x y : ℕ) → x ≤ y → x ≤ (if b then y else x)
chosen_grows true x y h = h
chosen_grows false x y h = omega arith

from_grows : (t : ℕ) (s : Sect) (x : ℕ) (ms : List Measured) → x ≤ offset_through t s x ms
from_grows t s x [] = omega arith
from_grows t s x (m ∷ ms) =
    let b = section_number s == t in
    omega (arith, chosen_grows b x (offset_after x m) (line_grows x m), from_grows t (section_after s m) (if b then offset_after x m else x) ms)

-- the first lines bring a section no farther than all lines
pub part_within : (t : ℕ) (s : Sect) (x k : ℕ) (ms : List Measured) → offset_through t s x (take k ms) ≤ offset_through t s x ms
part_within t s x zero ms = from_grows t s x ms
part_within t s x (suc k) [] = omega arith
part_within t s x (suc k) (m ∷ ms) = part_within t (section_after s m) (if section_number s == t then offset_after x m else x) k ms

-- a line lets one section grow, by at most 65,536 bytes

-- the sections before the one that grows keep their offsets
pub sum_kept : (u : ℕ) (f : ℕ → ℕ) (x : ℕ → ℕ) (n : ℕ) → n ≤ u → sum_below (λ t. if u == t then f (x t) else x t) n ≡ sum_below x n
sum_kept u f x zero h = refl
sum_kept u f x (suc n) h =
    let other : u ≡ n → ⊥ = λ e. absurd (let no : n < n = omega (arith, h, e) in omega (arith, no)) in
    let here : (if u == n then f (x n) else x n) ≡ x n = rw (ne_eqb u n other) refl in
    let less : n ≤ u = omega (arith, h) in
    omega (arith, sum_kept u f x n less, here)

-- one section grows
pub sum_grows : (u : ℕ) (f : ℕ → ℕ) (x : ℕ → ℕ) (n : ℕ) → ((y : ℕ) → f y ≤ y + 65536) → sum_below (λ t. if u == t then f (x t) else x t) n ≤ sum_below x n + 65536
sum_grows u f x zero h = omega arith
sum_grows u f x (suc n) h = at (cases_eq u n) (sum_grows u f x n h)
  where
    at : (u ≡ n) ⊎ (u ≡ n → ⊥) → sum_below (λ t. if u == t then f (x t) else x t) n ≤ sum_below x n + 65536 → sum_below (λ t. if u == t then f (x t) else x t) (suc n) ≤ sum_below x (suc n) + 65536
    at (inl e) so_far =
        let here : (if u == n then f (x n) else x n) ≡ f (x n) = rw (eq-eqb u n e) refl in
        let below : n ≤ u = omega (arith, e) in
        omega (arith, here, h (x n), sum_kept u f x n below)
    at (inr e) so_far =
        let here : (if u == n then f (x n) else x n) ≡ x n = rw (ne_eqb u n e) refl in
        omega (arith, here, so_far)

from_together : (n : ℕ) (s : Sect) (x : ℕ → ℕ) (ms : List Measured) → AreLimited ms → sum_below (λ t. offset_through t s (x t) ms) n ≤ sum_below x n + 65536 * length ms
from_together n s x [] h = omega arith
from_together n s x (m ∷ ms) h =
    let u = section_number s in
    let grown : ℕ → ℕ = λ t. if u == t then offset_after (x t) m else x t in
    omega (arith, from_together n (section_after s m) grown ms h.1, sum_grows u (λ y. offset_after y m) x n (λ y. line_bound y m h.0))

pub sum_of_zeros : (n : ℕ) → sum_below (λ t. 0) n ≡ 0
sum_of_zeros zero = refl
sum_of_zeros (suc n) = omega (arith, sum_of_zeros n)

-- the ends of the sections of a text together
pub ends_together : (ms : List Measured) → AreLimited ms → sum_below (section_end_of ms) sections ≤ 65536 * length ms
ends_together ms h = omega (arith, from_together sections Text (λ t. 0) ms h, sum_of_zeros sections)

one_of_sum : (f : ℕ → ℕ) (t n : ℕ) → t < n → f t ≤ sum_below f n
one_of_sum f t zero l = absurd (omega (arith, l))
one_of_sum f t (suc n) l = at (cases_eq t n) (λ less. one_of_sum f t n less)
  where
    at : (t ≡ n) ⊎ (t ≡ n → ⊥) → (t < n → f t ≤ sum_below f n) → f t ≤ sum_below f (suc n)
    at (inl e) h = let same : f t ≡ f n = ap f e in omega (arith, same)
    at (inr e) h = let less : t < n = omega (arith, l, e) in omega (arith, h less)

-- what a layout gives is below 2 ^ 32

chosen_below : (b : Bool) (x y z : ℕ) → x < z → y < z → (if b then x else y) < z
chosen_below true x y z h k = h
chosen_below false x y z h k = k

out_below : (l : Effect) (t : ℕ) → offset_reached l t < 2 ^ 32
out_below (Plain h) t = chosen_below (section_number Text == t) (advanced h 0) 0 (2 ^ 32) (mod_below _ _ (pow_pos 32)) (pow_pos 32)
out_below (Switched h s xs) t = mod_below _ _ (pow_pos 32)

-- within the limits nothing wraps
pub reached-end : (ms : List Measured) (t : ℕ) → t < sections → AreLimited ms → length ms ≤ 16384 → offset_reached (layout_of ms) t ≡ section_end_of ms t
reached-end ms t l h few =
    let together = ends_together ms h in
    let small : section_end_of ms t < 2 ^ 32 = omega (arith, one_of_sum (section_end_of ms) t sections l, together, few) in
    sym (mod-eq_of_lt (out_below (layout_of ms) t))
    ∙ layout-offset ms t Text 0 0 l h refl
    ∙ mod-eq_of_lt small

pub reached-section : (ms : List Measured) → section_reached (layout_of ms) ≡ section_through Text ms
reached-section ms = layout-section ms Text

-- what agrees on all sections gives the same sums, and the same bases

pub sums_agree : (f g : ℕ → ℕ) (n k : ℕ) → n ≤ k → ((t : ℕ) → t < k → f t ≡ g t) → sum_below f n ≡ sum_below g n
sums_agree f g zero k l h = refl
sums_agree f g (suc n) k l h = omega (arith, sums_agree f g n k (omega (arith, l)) h, h n (omega (arith, l)))

pub bases_agree : (base : ℕ) (f g : ℕ → ℕ) (n k : ℕ) → n ≤ k → ((t : ℕ) → t < k → f t ≡ g t) → base_from base f n ≡ base_from base g n
bases_agree base f g zero k l h = refl
bases_agree base f g (suc n) k l h =
    ap (λ b. round_up (b + f n) 4096) (bases_agree base f g n k (omega (arith, l)) h)
    ∙ ap (λ e. round_up (base_from base g n + e) 4096) (h n (omega (arith, l)))

-- the ends of the sections that a layout gives together
pub reached_together : (ms : List Measured) → AreLimited ms → length ms ≤ 16384 → sum_below (offset_reached (layout_of ms)) sections ≤ 2 ^ 30
reached_together ms h few =
    let same = sums_agree (offset_reached (layout_of ms)) (section_end_of ms) sections sections (omega arith) (λ t l. reached-end ms t l h few) in
    omega (arith, same, ends_together ms h, few)

pub base-layout : (base : ℕ) (ms : List Measured) (t : ℕ) → t < sections → AreLimited ms → length ms ≤ 16384 → base_by_layout base (layout_of ms) t ≡ section_base_of base ms t
base-layout base ms t l h few =
    bases_agree base (offset_reached (layout_of ms)) (section_end_of ms) t sections (omega (arith, l)) (λ u m. reached-end ms u m h few)

-- the lines before a line

pub part_limited : (k : ℕ) (ms : List Measured) → AreLimited ms → AreLimited (take k ms)
part_limited zero ms h = tt
part_limited (suc k) [] h = tt
part_limited (suc k) (m ∷ ms) h = (h.0, part_limited k ms h.1)

part_few : (k : ℕ) (ms : List Measured) → length (take k ms) ≤ length ms
part_few zero ms = omega arith
part_few (suc k) [] = omega arith
part_few (suc k) (m ∷ ms) = omega (arith, part_few k ms)

pub number_below : (s : Sect) → section_number s < sections
number_below Init = omega arith
number_below Text = omega arith
number_below Rodata = omega arith
number_below Rwdata = omega arith
number_below Sdata = omega arith
number_below Bss = omega arith

pub before-within : (ms : List Measured) (i t : ℕ) → t < sections → AreLimited ms → length ms ≤ 16384 → offset_reached (layout_of (before i ms)) t ≤ offset_reached (layout_of ms) t
before-within ms i t l h few =
    let count : length (before i ms) ≤ 16384 = omega (arith, part_few (i - 1) ms, few) in
    let part = reached-end (before i ms) t l (part_limited (i - 1) ms h) count in
    let whole = reached-end ms t l h few in
    omega (arith, part, whole, part_within t Text 0 (i - 1) ms)

pub reached-offset : (ms : List Measured) (i : ℕ) → AreLimited ms → length ms ≤ 16384 → offset_reached (layout_of (before i ms)) (section_number (section_of ms i)) ≡ offset_of ms i
reached-offset ms i h few =
    let count : length (before i ms) ≤ 16384 = omega (arith, part_few (i - 1) ms, few) in
    reached-end (before i ms) (section_number (section_of ms i)) (number_below (section_of ms i)) (part_limited (i - 1) ms h) count

pub address-layout : (base : ℕ) (ms : List Measured) (i : ℕ) → AreLimited ms → length ms ≤ 16384 → base_by_layout base (layout_of ms) (section_number (section_reached (layout_of (before i ms)))) + offset_reached (layout_of (before i ms)) (section_number (section_reached (layout_of (before i ms)))) ≡ address_of base ms i
address-layout base ms i h few =
    let s : Sect = section_reached (layout_of (before i ms)) in
    let same : s ≡ section_of ms i = reached-section (before i ms) in
    let moved : base_by_layout base (layout_of ms) (section_number s) ≡ section_base_of base ms (section_number (section_of ms i)) =
    base-layout base ms (section_number s) (number_below s) h few
    ∙ ap (λ u. section_base_of base ms (section_number u)) same in
    let offset : offset_reached (layout_of (before i ms)) (section_number s) ≡ offset_of ms i =
    ap (λ u. offset_reached (layout_of (before i ms)) (section_number u)) same
    ∙ reached-offset ms i h few in
    omega (arith, moved, offset)
