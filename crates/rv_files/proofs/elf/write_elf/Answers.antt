use Rattle.std.proofs.Common.{◌++◌}
use Rattle.std.proofs.lemmas.Result.{err_from_is_err_and}
use Rattle.rv_files.specs.Elf.{contents}
use Rattle.rv_files.proofs.BinSteps.{partly_writes}
use Rattle.rv_files.proofs.Partly.{partly_start, partly_next, partly_lost}
use Rattle.rv_files.proofs.elf.write_elf.Goals as goal

pub returns-in_err-write_bin-clause-text : goal.returns-in_err-write_bin-clause-text
returns-in_err-write_bin-clause-text g c =
    let p = err_from_is_err_and c.from_residual-in_err-write_bin.result c.from_residual-in_err-write_bin.ensures.1 in
    let file = c.elf.inside in
    let head = rw c.as_slice.ensures.value at c.in_ok-write_all.ensures.text in
    let bytes = rw (c.start_of.ensures, c.as_slice-segments.ensures.value) at c.in_err-write_bin.ensures.text in
    let start = partly_start (g.W.Sink.taken c.args.sink.now) (file.head.items ++ (contents file.segments.items ++ file.tail.items)) in
    rw (p.1, ← c.elf.view_is) (partly_lost _ _ _ _ _ _ (partly_next _ _ _ _ _ _ start head) bytes)

pub returns-clause-text : goal.returns-clause-text
returns-clause-text g c =
    let file = c.elf.inside in
    let head = rw c.as_slice.ensures.value at c.in_ok-write_all.ensures.text in
    let bytes = rw (c.start_of.ensures, c.as_slice-segments.ensures.value) at c.in_ok-write_bin.ensures.text in
    let tail = rw c.as_slice-2.ensures.value at c.write_all-2.ensures.text in
    let start = partly_start (g.W.Sink.taken c.args.sink.now) (file.head.items ++ (contents file.segments.items ++ file.tail.items)) in
    rw (← c.elf.view_is) (partly_writes _ _ _ _ _ _ (partly_next _ _ _ _ _ _ (partly_next _ _ _ _ _ _ start head) bytes) tail)
