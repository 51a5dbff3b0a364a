use Rattle.std.proofs.Common.{◌≡◌, ◌-◌, ◌++◌, replicate, arith}
use Rattle.std.proofs.lemmas.Result.{err_from_is_err_and}
use Rattle.rv_files.proofs.Partly.{partly_start, partly_next, partly_lost_last}
use Rattle.rv_files.proofs.bin.write_bytes.Goals as goal

pub returns-in_err-write-clause-text : goal.returns-in_err-write-clause-text
returns-in_err-write-clause-text g c =
    let p = err_from_is_err_and c.from_residual-in_err-write.result c.from_residual-in_err-write.ensures.1 in
    let s = c.args.segment.now in
    let gap : c.saturating_sub.result ≡ s.address - c.args.at = omega (arith, c.saturating_sub.ensures, c.from-address.ensures, c.address.ensures) in
    let zeros = rw gap at c.in_ok-write_repeated.ensures.text in
    let bytes = rw c.bytes-bytes.ensures at c.in_err-write.ensures.text in
    let start = partly_start (g.W.Sink.taken c.args.sink.now) (replicate (s.address - c.args.at) 0 ++ s.bytes) in
    rw p.1 (partly_lost_last _ _ _ _ _ (partly_next _ _ _ _ _ _ start zeros) bytes)
