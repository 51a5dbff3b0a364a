-- Why a call gives no new tree. The order of the reasons is the project's own.
use Rattle.std.specs.Prelude.{ℕ, ◌+◌, ◌||◌, ◌==◌, nat_lt, nat_le, Option, Some, None, if◌then◌else◌}
use Rattle.rv_tree.specs.declared.limits.TheConstants.{MAX_ITEMS}
use Rattle.rv_tree.specs.declared.error.TreeError.{TreeError}
use Rattle.rv_tree.specs.declared.error.TreeError.TheVariants.{Place, Full, Memory}

-- why item number k of n is not deleted or replaced, whatever the memory: there is none
abbrev pub place_refusal : ℕ → ℕ → Option TreeError
place_refusal k n = if k == 0 || nat_lt n k then Some Place else None

-- why no item becomes number k beside n others, whatever the memory: the place, then that the tree is full
abbrev pub insert_refusal : ℕ → ℕ → Option TreeError
insert_refusal k n =
    if k == 0 || nat_lt (n + 1) k then Some Place else (if nat_le MAX_ITEMS n then Some Full else None)

-- the number of a refusal
abbrev pub refusal_number : TreeError → ℕ
refusal_number Place = 1
refusal_number Full = 2
refusal_number Memory = 3
