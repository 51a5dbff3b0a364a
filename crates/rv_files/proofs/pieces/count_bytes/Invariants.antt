use Rattle.std.proofs.Common.{◌≡◌, ◌+◌, ◌≤◌, ◌<◌, length}
use Rattle.rv_files.specs.Pieces.{bytes_of_pieces}
use Rattle.rv_files.proofs.pieces.count_bytes.Given as goal

-- the bytes so far are what is no longer left of the most that there may be
abbrev pub invariant-pieces : goal.invariant-pieces
invariant-pieces l = record {
  count : l.left + length (bytes_of_pieces l.fn.pieces) ≡ 9223372036854775807 + length (bytes_of_pieces l.pieces);
  few : l.left ≤ 9223372036854775807;
}

abbrev pub decreases-pieces : goal.decreases-pieces
decreases-pieces l = length l.pieces
