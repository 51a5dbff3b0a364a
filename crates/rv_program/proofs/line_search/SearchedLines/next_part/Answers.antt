use Rattle.std.proofs.Common.{arith, subst}
use Rattle.std.specs.Option.{option_map}
use Rattle.rv_program.specs.internal.LineSearch.{AreUnwanted, AreFirst, AreOf}
use Rattle.rv_program.specs.internal.Lines.{lines_of}
use Rattle.rv_program.proofs.LineSearches.{unwanted-by_sums}
use Rattle.rv_program.proofs.line_search.SearchedLines.next_part.Goals as goal

pub returns-clause-passed : goal.returns-clause-passed
returns-clause-passed c =
    let lines = c.self.inside.lines.now in
    let items = c.in-Some.items.now.items in
    let next = c.next_part-next in
    let are : AreFirst lines (lines_of items) = subst (λ o. AreOf (option_map (λ tree. tree.now.items) o) lines) c.in-Some.is c.self.invariant in
    subst (λ ls. AreUnwanted c.args.wanted ls c.args.i c.min.result) c.self.view_is
    (unwanted-by_sums c.args.wanted lines items are c.args.i next.result.begin next.result.end c.min.result next.ensures (omega (arith, c.min.ensures)) (omega (arith, c.min.ensures)))
