use Rattle.std.proofs.Common.{◌≤◌, ◌-◌, arith, drop, length, length-take}
use Rattle.rv_tree.specs.Rows.{some_behind}
use Rattle.rv_tree.proofs.row.Row.sum_behind_kept.Goals as goal

pub returns-clause-runs : goal.returns-clause-runs
returns-clause-runs g c =
    let n = c.args.end - c.args.at in
    let items = some_behind c.args.at n c.args.self.now in
    let few : length items ≤ 16384 = omega (arith, c.requires.few, length-take n (drop c.args.at c.args.self.now)) in
    g.met.P.Pass.kept c.args.pass.now c.args.before.now items few c.known.ensures c.sum-sum.ensures.sums (rw c.sum-sum.ensures.value at c.skips.ensures c.if-not-skips.false)
