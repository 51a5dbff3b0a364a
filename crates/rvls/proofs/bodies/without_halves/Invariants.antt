use Rattle.std.proofs.Common.{◌≡◌, ◌+◌, length}
use Rattle.std.specs.Prelude.{vec_len}
use Rattle.rvls.proofs.bodies.without_halves.Given as goal

-- as many bytes as were read
abbrev pub invariant-pieces : goal.invariant-pieces
invariant-pieces l = vec_len l.whole + length l.rest ≡ length l.fn.bytes

abbrev pub decreases-pieces : goal.decreases-pieces
decreases-pieces l = length l.rest
