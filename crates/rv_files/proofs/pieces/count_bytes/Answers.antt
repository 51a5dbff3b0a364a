use Rattle.std.proofs.Common.{◌≡◌, ◌+◌, ◌-◌, length, take, drop, ap, ◌∙◌, arith}
use Rattle.std.proofs.lemmas.List.{length-append}
use Rattle.rv_files.specs.Pieces.{bytes_of_piece, bytes_of_pieces}
use Rattle.rv_files.proofs.PieceLists.{next_piece}
use Rattle.rv_files.proofs.pieces.count_bytes.Goals as goal

pub pieces-preserved : goal.pieces-preserved
pieces-preserved c =
    let pieces = c.pieces.pieces.now in
    let later = take (length pieces - 1) (drop 1 pieces) in
    let first = bytes_of_piece c.piece-item.result in
    let whole = ap length (next_piece pieces c.piece-item.result c.in-len1-up.len_at_least c.piece-item.is) ∙ length-append first (bytes_of_pieces later) in
    record {
      count = omega (arith, whole, c.pieces.invariant.count, c.len-len.ensures, c.if-len-left.false);
      few = omega (arith, c.pieces.invariant.few);
    }
