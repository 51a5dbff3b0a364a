use Rattle.std.proofs.Common.{arith}
use Rattle.std.proofs.lemmas.Grind.{common_steps}
use Rattle.std.proofs.lemmas.Result.{err_from_is_err_and}
use Rattle.rv_files.proofs.Partly.{partly_next, partly_lost}
use Rattle.rv_files.proofs.PieceLists.{next_piece}
use Rattle.rv_files.proofs.segment_bytes.write_pieces.Goals as goal

pub returns-in_err-write_piece-clause-text : goal.returns-in_err-write_piece-clause-text
returns-in_err-write_piece-clause-text g c =
    let p = err_from_is_err_and c.from_residual.result c.from_residual.ensures.1 in
    let part = rw (next_piece c.pieces.pieces.now c.piece-item.result c.in-len1-up.len_at_least c.piece-item.is) at c.pieces.invariant.part in
    rw p.1 (partly_lost _ _ _ _ _ _ part c.in_err-write_piece.ensures.text)

pub pieces-preserved : goal.pieces-preserved
pieces-preserved g c =
    let part = rw (next_piece c.pieces.pieces.now c.piece-item.result c.in-len1-up.len_at_least c.piece-item.is) at c.pieces.invariant.part in
    record {
      part = partly_next _ _ _ _ _ _ part c.in_ok-write_piece.ensures.text;
      failures = grind (arith, common_steps, c.in_ok-write_piece.ensures.count);
    }
