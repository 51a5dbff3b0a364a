use Rattle.std.proofs.lemmas.Grind.{common_steps}
use Rattle.std.proofs.Common.{◌-◌, arith}
use Rattle.rv_tree.proofs.Rows.{alike_behind}
use Rattle.rv_tree.proofs.row.Row.go_on.Goals as goal

pub returns-in-Some-clause-behind : goal.returns-in-Some-clause-behind
returns-in-Some-clause-behind g c = alike_behind _ _ c.args.at (c.min-end.result - c.args.at) c.requires.behind

pub returns-in-Some-sum_behind_kept-clause-behind : goal.returns-in-Some-sum_behind_kept-clause-behind
returns-in-Some-sum_behind_kept-clause-behind g c = grind (arith, common_steps)
