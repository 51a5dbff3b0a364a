use Rattle.rv_stmt.specs.Statement.{statement_of}
use Rattle.rv_store.proofs.AlikeLines.{highs-none}
use Rattle.rv_store.proofs.alike.have_same_high.Goals as goal

pub returns-then-not-brief-2 : goal.returns-then-not-brief-2
returns-then-not-brief-2 c =
    λ _.
    highs-none (statement_of c.args.former.now) (statement_of c.args.line.now) c.brief.result c.brief-then-not-brief.result c.brief.ensures c.brief-then-not-brief.ensures
    c.if-not-brief.true c.if-not-brief-2.true
