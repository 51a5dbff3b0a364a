-- The pass that cuts blocks.
use Rattle.std.specs.Prelude.{ℕ, nat_lt, if◌then◌else◌}
use Rattle.tree_example.specs.declared.extent.Block.{Block}

-- a block of at most so many bytes
abbrev pub limited : ℕ → Block → Block
limited limit x = if nat_lt limit x.size then record { size = limit } else x
