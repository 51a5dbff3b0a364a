use Rattle.std.proofs.Common.{◌≡◌, ◌≤◌, ℕ, List, suc, ◌-◌, ◌∙◌, arith, ap, ap₂, drop, take}
use Rattle.rv_tree.specs.Rows.{some_behind}
use Rattle.rv_tree.specs.Sums.{total}
use Rattle.rv_tree.proofs.Rows.{drop_get, taken_behind}
use Rattle.rv_tree.proofs.row.Row.sum.Goals as goal

pub loop-left-preserved : goal.loop-left-preserved
loop-left-preserved g c =
    let j = g.T.Sum.Joined in
    let done = c.loop-left.invariant in
    let on : suc (c.loop-left.left - 1) ≡ c.loop-left.left = omega (arith, c.loop-left-test.true) in
    let item = rw on at (drop_get c.args.self.now (c.loop-left.left - 1) c.args.end c.get.result.now (omega (arith, c.loop-left-test.true, done.most)) c.get.ensures) in
    record {
      least = omega (arith, c.loop-left-test.true, done.least);
      most = omega (arith, done.most);
      sum = rw item (c.join-sum.ensures ∙ ap₂ j.op c.sum-item.ensures done.sum);
      sums = rw item (rw c.sum-item.ensures at c.known.ensures, done.sums);
    }

-- at the end it is the sum of them all
all_behind : {X : Type 0} (xs : List X) (left from end : ℕ) → left ≡ from → from ≤ end → drop left (take end xs) ≡ some_behind from (end - from) xs
all_behind xs left from end all le = ap (λ i. drop i (take end xs)) all ∙ taken_behind xs from end le

pub returns-clause-value : goal.returns-clause-value
returns-clause-value g c =
    let j = g.T.Sum.Joined in
    let done = c.loop-left.invariant in
    done.sum ∙ ap (total j.empty j.op g.T.Summed.sum_of) (all_behind c.args.self.now c.loop-left.left c.args.from c.args.end (omega (arith, c.loop-left-test.false, done.least)) c.requires.order)

pub returns-clause-sums : goal.returns-clause-sums
returns-clause-sums g c =
    let done = c.loop-left.invariant in
    rw (all_behind c.args.self.now c.loop-left.left c.args.from c.args.end (omega (arith, c.loop-left-test.false, done.least)) c.requires.order) at done.sums
