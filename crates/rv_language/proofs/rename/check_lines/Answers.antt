use Rattle.std.proofs.Common.{◌+◌, ◌<◌, ℕ, arith}
use Rattle.std.proofs.lemmas.Result.{err_from_is_err_and}
use Rattle.std.specs.Prelude.{Option}
use Rattle.rv_list.specs.PassedLines.{passed_line}
use Rattle.rv_language.specs.declared.rename.NameRefusal.{NameRefusal}
use Rattle.rv_language.specs.Renames.{change_of, line_refusal}
use Rattle.rv_language.proofs.RenamedNames.{refused_of_more}
use Rattle.rv_language.proofs.rename.check_lines.Goals as goal

pub returns-in_err-check_line-clause-refused : goal.returns-in_err-check_line-clause-refused
returns-in_err-check_line-clause-refused g c =
    let shown = g.V.View.shown c.args.view.now in
    let refusal : ℕ → Option NameRefusal = λ k. line_refusal (change_of c.args.renaming.now) (k + 1) (shown.line (k + 1)) in
    let line = passed_line c.line.ensures.value c.advance.ensures.text c.loop-k.invariant.text c.advance.ensures.passed c.loop-k.invariant.passed in
    let some : c.loop-k.k < shown.count = omega (arith, c.loop-k-test.true, c.line_count-k-end.ensures.value) in
    let here = rw line at c.in_err-check_line.ensures.refused in
    let refused = refused_of_more refusal c.loop-k.k shown.count c.in_err-check_line.field-0.0 c.loop-k.invariant.none some here in
    let failed = err_from_is_err_and c.from_residual.result c.from_residual.ensures.1 in
    rw (failed.1, failed.2) refused
