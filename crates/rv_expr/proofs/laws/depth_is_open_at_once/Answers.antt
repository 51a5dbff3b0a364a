use Rattle.rv_expr.proofs.OpenAtOnceLemmas.{depth_from_open, open_from_depth}
use Rattle.rv_expr.proofs.laws.depth_is_open_at_once.Goals as goal

pub returns-clause-deep : goal.returns-clause-deep
returns-clause-deep c = depth_from_open

pub returns-clause-only : goal.returns-clause-only
returns-clause-only c = open_from_depth
