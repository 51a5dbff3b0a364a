-- How many blocks there are, and how many bytes they have together. The count saturates and the size is modular.
use Rattle.std.specs.Prelude.{◌≡◌, ℕ, ◌+◌, ◌-◌, ◌%◌, ◌<◌, ◌^◌, min}
use Rattle.std.proofs.Common.{arith}
use Rattle.rv_tree.specs.Sums.{JoinLaws}
use Rattle.tree_example.specs.declared.extent.Extent.{Extent}
use Rattle.tree_example.specs.declared.extent.Block.{Block}

abbrev pub extent : ℕ → ℕ → Extent
extent count size = record { count = count; size = size }

abbrev pub IsExtent : Extent → Type 0
IsExtent x = (x.count < 2 ^ 32) × (x.size < 2 ^ 64)

abbrev pub no_extent : Extent
no_extent = extent 0 0

abbrev pub both_extents : Extent → Extent → Extent
both_extents x y = extent (min (x.count + y.count) (2 ^ 32 - 1)) ((x.size + y.size) % 2 ^ 64)

abbrev pub extent_of : Block → Extent
extent_of block = extent 1 block.size

same_extent : {a b c d : ℕ} → a ≡ b → c ≡ d → extent a c ≡ extent b d
same_extent p q = cc

pub extent_laws : JoinLaws IsExtent no_extent both_extents
extent_laws = record {
  empty_is_value = (omega arith, omega arith);
  op_is_value = λ x y p q. (omega arith, omega arith);
  left_unit = λ x p. same_extent (omega (arith, p.0)) (omega (arith, p.1));
  right_unit = λ x p. same_extent (omega (arith, p.0)) (omega (arith, p.1));
  associative = λ x y z p q r. same_extent (omega arith) (omega arith);
}
