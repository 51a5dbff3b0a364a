use Rattle.std.proofs.Common.{◌≡◌, ◌++◌, replicate}
use Rattle.rv_files.proofs.numbers.push_zeros.Given as goal

-- what is appended so far, and what is left
abbrev pub invariant-zeros : goal.invariant-zeros
invariant-zeros l = l.out.items ++ replicate l.left 0 ≡ l.fn.out.items ++ replicate l.count 0

abbrev pub decreases-zeros : goal.decreases-zeros
decreases-zeros l = l.left
