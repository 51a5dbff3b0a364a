use Rattle.std.proofs.Common.{◌≤◌, length}
use Rattle.rv_program.proofs.equ_values_after.are_equs_many.Given as goal

abbrev pub invariant-equs : goal.invariant-equs
invariant-equs l = l.next ≤ length l.searched
