use Rattle.std.proofs.Common.{◌≡◌, drop, length}
use Rattle.rv_files.specs.Pieces.{bytes_of_pieces}
use Rattle.rv_files.proofs.segment_bytes.BytesLeft.next.Given as goal

-- nothing was taken yet
abbrev pub invariant-pieces : goal.invariant-pieces
invariant-pieces l = drop l.self-inside.taken (bytes_of_pieces l.self-inside.pieces.now) ≡ l.fn.self

abbrev pub decreases-pieces : goal.decreases-pieces
decreases-pieces l = length l.self-inside.pieces.now
