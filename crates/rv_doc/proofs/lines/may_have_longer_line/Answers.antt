use Rattle.std.proofs.Common.{◌<◌, ◌≤◌, length, sym, ◌∙◌, ap, arith}
use Rattle.std.specs.Prelude.{nat_lt}
use Rattle.std.specs.List.{list_any}
use Rattle.rv_doc.specs.Positions.{lines_of}
use Rattle.rv_doc.proofs.LongLines.{none_longer, none_before_start}
use Rattle.rv_doc.proofs.lines.may_have_longer_line.Goals as goal

pub starts-preserved : goal.starts-preserved
starts-preserved c =
    let rest = c.starts.rest.now in
    let start = c.line_start_before-start.result in
    let some : 0 < start = omega (arith, c.if-start-eq0.false) in
    let within : start ≤ length rest = omega (arith, c.line_start_before-start.ensures.before, c.starts-test.true) in
    ap (λ t. list_any (λ line. nat_lt c.args.most (length line)) (lines_of t)) c.split_at.ensures.back
    ∙ none_before_start c.args.most start rest c.line_start_before-start.ensures.border some c.line_start_before-start.ensures.before within
    ∙ c.starts.invariant

pub returns : goal.returns
returns c = λ e. sym c.starts.invariant ∙ none_longer c.args.most c.starts.rest.now (omega (arith, c.starts-test.false))
