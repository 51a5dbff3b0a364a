-- The ends of a text tell where its sections begin.
use Rattle.std.proofs.Common.{◌≡◌, ℕ, ◌^◌, ◌<◌, ◌≤◌, List, length, get_or, arith}
use Rattle.std.proofs.lemmas.List.FromFn.{get_or-map-range_with_len}
use Rattle.rv_layout.specs.declared.measured.Measured.{Measured}
use Rattle.rv_layout.specs.PlaceLaws.{bases_agree, ends_together, sums_agree}
use Rattle.rv_layout.specs.Places.{section_end_of, section_base_of, sum_below, AreLimited}
use Rattle.rv_layout.specs.Sections.{sections}
use Rattle.rv_store.specs.internal.Ends.{by_section, ends_of, end_in, base_by_ends}

pub at-number : (f : ℕ → ℕ) (t : ℕ) → t < sections → get_or (by_section f) t 0 ≡ f t
at-number f t l = get_or-map-range_with_len f 0 sections t t 0 l (omega arith)

-- the ends of a text
pub end-is : (ms : List Measured) (t : ℕ) → t < sections → end_in (ends_of ms) t ≡ section_end_of ms t
end-is ms t l = at-number (section_end_of ms) t l

pub ends-together : (ms : List Measured) → AreLimited ms → length ms ≤ 16384 → sum_below (end_in (ends_of ms)) sections ≤ 2 ^ 30
ends-together ms limited few =
    omega (arith, sums_agree (end_in (ends_of ms)) (section_end_of ms) sections sections (omega arith) (end-is ms), ends_together ms limited, few)

pub base-ends : (base : ℕ) (ms : List Measured) (t : ℕ) → t < sections → base_by_ends base (ends_of ms) t ≡ section_base_of base ms t
base-ends base ms t l = bases_agree base (end_in (ends_of ms)) (section_end_of ms) t sections (omega (arith, l)) (end-is ms)
