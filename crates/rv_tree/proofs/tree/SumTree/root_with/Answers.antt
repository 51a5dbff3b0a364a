use Rattle.std.proofs.Common.{length, arith, ap, ◌∙◌}
use Rattle.std.specs.List.{insert}
use Rattle.std.proofs.lemmas.List.Edits.{length-insert}
use Rattle.std.proofs.lemmas.Result.{IfOk-weaker}
use Rattle.rv_tree.proofs.tree.SumTree.root_with.Goals as goal

pub returns-in-Some-clause-items : goal.returns-in-Some-clause-items
returns-in-Some-clause-items g c =
    let is = rw c.in-Some.is at c.self.view_is in
    let new = c.in_ok-item.ensures.ok in
    IfOk-weaker c.inserted.result _ _ (λ t made. made ∙ (λ i. insert (is i).items c.args.before (new i))) c.inserted.ensures.items

pub returns-in-Some-clause-few : goal.returns-in-Some-clause-few
returns-in-Some-clause-few g c =
    let one_more = length-insert c.args.self.now.items c.args.before c.args.item c.requires.place in
    IfOk-weaker c.inserted.result _ _ (λ t is. omega (arith, ap length is ∙ one_more, c.requires.room)) (returns-in-Some-clause-items g c)
