-- The pass that replaces the block at one place.
use Rattle.std.specs.Prelude.{◌≡◌, ℕ, ◌+◌, ◌-◌, ◌<◌, ◌≤◌, ◌^◌, ◌⊎◌, List}
use Rattle.std.proofs.Common.{arith, inl, inr, refl}
use Rattle.rv_tree.specs.Sums.{total, AllSums}
use Rattle.rv_tree.specs.Passes.{Runs}
use Rattle.rv_tree.specs.PassLaws.{kept_by_parts}
use Rattle.tree_example.specs.Extents.{IsExtent, no_extent, both_extents, extent_of, extent_laws}
use Rattle.tree_example.specs.declared.extent.Extent.{Extent}
use Rattle.tree_example.specs.declared.extent.Block.{Block}

-- the block x behind b becomes y: at the place one of that size, and elsewhere the block itself
pub record IsSet (place size : ℕ) (b : Extent) (x y : Block) : Type 0 where
  pub here : b.count + 1 ≡ place → y ≡ record { size = size }
  pub elsewhere : (b.count + 1 ≡ place → ⊥) → y ≡ x

-- the place is not among those of s behind b, and the counts are exact
abbrev pub IsApart : ℕ → Extent → Extent → Type 0
IsApart place b s = (b.count + s.count < 2 ^ 32 - 1) × ((b.count + s.count < place) ⊎ (place ≤ b.count))

apart-first : (place : ℕ) (b x y : Extent) → IsApart place b (both_extents x y) → IsApart place b x
apart-first place b x y k = (omega (arith, k.0), elim k.1 [ inl h ↦ inl (omega (arith, k.0, h)) | inr h ↦ inr h ])

apart-rest : (place : ℕ) (b x y : Extent) → IsApart place b (both_extents x y) → IsApart place (both_extents b x) y
apart-rest place b x y k = (omega (arith, k.0), elim k.1 [ inl h ↦ inl (omega (arith, k.0, h)) | inr h ↦ inr (omega (arith, k.0, h)) ])

apart-one : (place size : ℕ) (b : Extent) (x : Block) → IsApart place b (extent_of x) → IsSet place size b x x
apart-one place size b x k = record {
  here = λ e. absurd (elim k.1 [ inl h ↦ omega (arith, e, h) | inr h ↦ omega (arith, e, h) ]);
  elsewhere = λ n. refl;
}

-- the law of skipping: what is apart from the place is kept
pub set_at_kept : {P : Type 0} (gives : P → Extent → Block → Block → P → Type 0) (p : P) (place size : ℕ) → ((b : Extent) (x : Block) → IsSet place size b x x → gives p b x x p) → (b : Extent) (xs : List Block) → IsExtent b → AllSums IsExtent extent_of xs → IsApart place b (total no_extent both_extents extent_of xs) → Runs gives both_extents extent_of p b xs xs p
set_at_kept gives p place size one b xs v a k = kept_by_parts gives extent_laws extent_of p (IsApart place) (λ c x y _ _ _ h. apart-first place c x y h) (λ c x y _ _ _ h. apart-rest place c x y h) (λ c x _ h. one c x (apart-one place size c x h)) b xs v a k
