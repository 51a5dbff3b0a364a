use Rattle.std.proofs.Common.{◌≡◌, take, arith}
use Rattle.rv_doc.specs.Positions.{lines_of}
use Rattle.rv_diagnostics.specs.Published.{long_count}
use Rattle.rv_diagnostics.proofs.Publications.{no_long}
use Rattle.rv_diagnostics.proofs.publishing.put_some_long.Goals as goal

pub returns-then-count-eq0 : goal.returns-then-count-eq0
returns-then-count-eq0 c =
    let lines = take 16384 (lines_of c.args.document.now) in
    let none : long_count lines ≡ 0 = omega (arith, c.requires, c.if-count-eq0.true) in
    no_long c.args.context.now.encoding lines c.args.window.now c.args.m.now none
