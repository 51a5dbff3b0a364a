use Rattle.std.proofs.Common.{arith}
use Rattle.std.proofs.lemmas.Grind.{common_steps}
use Rattle.std.proofs.lemmas.Result.{err_from_is_err_and}
use Rattle.rv_commands.proofs.LineRows.{line_at, line_gathered, line_lost}
use Rattle.rv_commands.proofs.pages.push_lines.Goals as goal

pub returns-in_err-push_line-clause-text : goal.returns-in_err-push_line-clause-text
returns-in_err-push_line-clause-text g c =
    let p = err_from_is_err_and c.from_residual.result c.from_residual.ensures.1 in
    let line = line_at c.args.store.now.lines c.loop-k.k c.in-Some.line.now c.in-Some.ensures.value in
    rw p.1 (line_lost _ _ _ _ _ _ _ _ line c.loop-k.invariant.waits c.in_err-push_line.ensures.text)

pub loop-k-preserved : goal.loop-k-preserved
loop-k-preserved g c =
    let line = line_at c.args.store.now.lines c.loop-k.k c.in-Some.line.now c.in-Some.ensures.value in
    record {
      waits = line_gathered _ _ _ _ _ _ _ _ _ line c.loop-k.invariant.waits c.in_ok-push_line.ensures.text;
      failures = grind (arith, common_steps, c.in_ok-push_line.ensures.count);
    }
