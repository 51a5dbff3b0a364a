use Rattle.std.proofs.lemmas.Grind.{common_steps}
use Rattle.std.proofs.Common.{◌+◌, map, refl, arith}
use Rattle.rv_show.specs.Origins.{mark_of}
use Rattle.rv_files.proofs.LineMarks.{line_below, marks_more}
use Rattle.rv_files.proofs.marks.line_marks.Goals as goal

pub loop-k-preserved : goal.loop-k-preserved
loop-k-preserved c =
    let lines = c.args.store.now.lines in
    let k = c.loop-k.k in
    let there = line_below lines k (k + 1) c.in-Some.line.now refl c.in-Some.ensures.value in
    marks_more (map mark_of c.loop-k.marks.items) _ k lines c.in-Some.line.now c.loop-k.invariant there c.in_ok-push_mark_on.ensures

pub returns : goal.returns
returns c = grind (arith, common_steps)
