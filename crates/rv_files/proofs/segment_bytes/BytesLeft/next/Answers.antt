use Rattle.std.proofs.Common.{◌≡◌, ◌+◌, ◌-◌, ◌<◌, ◌≤◌, length, take, drop, ap, sym, ◌∙◌, arith}
use Rattle.rv_files.specs.Pieces.{bytes_of_piece, bytes_of_pieces}
use Rattle.rv_files.proofs.PieceLists.{drop_at, drop_past, next_piece, past_end}
use Rattle.rv_files.proofs.segment_bytes.BytesLeft.next.Goals as goal

pub overflow_add-self : goal.overflow_add-self
overflow_add-self c = omega (arith, c.in-Some.ensures.within)

pub overflow_sub-self : goal.overflow_sub-self
overflow_sub-self c =
    let past = past_end (bytes_of_piece c.piece-item.result) c.pieces.self-inside.taken (sym c.in_default-byte.ensures.value) in
    omega (arith, past, c.len.ensures)

pub returns-in-Some-clause-byte : goal.returns-in-Some-clause-byte
returns-in-Some-clause-byte c =
    let pieces = c.pieces.self-inside.pieces.now in
    let later = take (length pieces - 1) (drop 1 pieces) in
    let whole = next_piece pieces c.piece-item.result c.in-len1-up.len_at_least c.piece-item.is in
    sym c.pieces.invariant ∙ rw whole (drop_at (bytes_of_piece c.piece-item.result) (bytes_of_pieces later) c.pieces.self-inside.taken c.in-Some.byte (sym c.in-Some.ensures.value))

pub pieces-preserved : goal.pieces-preserved
pieces-preserved c =
    let pieces = c.pieces.self-inside.pieces.now in
    let later = take (length pieces - 1) (drop 1 pieces) in
    let taken = c.pieces.self-inside.taken in
    let first = bytes_of_piece c.piece-item.result in
    let whole = next_piece pieces c.piece-item.result c.in-len1-up.len_at_least c.piece-item.is in
    let past = past_end first taken (sym c.in_default-byte.ensures.value) in
    let count = ap (λ n. drop (taken - n) (bytes_of_pieces later)) c.len.ensures in
    count ∙ sym (drop_past first (bytes_of_pieces later) taken past) ∙ ap (drop taken) (sym whole) ∙ c.pieces.invariant
