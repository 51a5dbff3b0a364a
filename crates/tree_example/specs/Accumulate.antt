-- The pass that adds what stands before.
use Rattle.std.specs.Prelude.{◌+◌, ◌%◌, ◌^◌}
use Rattle.tree_example.specs.declared.extent.Extent.{Extent}
use Rattle.tree_example.specs.declared.extent.Block.{Block}

-- a block with the bytes before it added
abbrev pub with_before : Extent → Block → Block
with_before b x = record { size = (x.size + b.size) % 2 ^ 64 }
