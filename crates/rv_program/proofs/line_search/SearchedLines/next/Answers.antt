use Rattle.rv_program.proofs.LineSearches.{unwanted-none}
use Rattle.rv_program.proofs.line_search.SearchedLines.next.Goals as goal

pub returns-then-has-clause-passed : goal.returns-then-has-clause-passed
returns-then-has-clause-passed c = unwanted-none c.args.wanted c.args.self.now c.args.i
