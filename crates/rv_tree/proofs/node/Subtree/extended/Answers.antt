use Rattle.std.proofs.Common.{◌≡◌, ◌∙◌, List, [], ◌∷◌, ◌++◌, length, arith, ap, sym, subst}
use Rattle.std.specs.Prelude.{insert}
use Rattle.std.proofs.lemmas.List.{take_all, drop_all}
use Rattle.rv_tree.specs.Sums.{total, AllSums}
use Rattle.rv_tree.specs.SumLaws.{total-push, all_sums-append}
use Rattle.rv_tree.proofs.node.Subtree.extended.Goals as goal

at_end : {T : Type 0} (xs : List T) (y : T) → insert xs (length xs) y ≡ xs ++ y ∷ []
at_end xs y = (λ i. take_all (length xs) xs (omega arith) i ++ y ∷ drop_all (length xs) xs (omega arith) i)

pub leaf_with_sum-requires-clause-sum : goal.leaf_with_sum-requires-clause-sum
leaf_with_sum-requires-clause-sum g c =
    let j = g.T.Sum.Joined in
    let of = g.T.Summed.sum_of in
    let xs = c.args.self.now.items in
    let y = c.args.item.value in
    let made : c.in_ok-row.row ≡ xs ++ y ∷ [] = c.in_ok-row.ensures ∙ ap (λ ys. insert ys c.len.result y) c.items.ensures.value ∙ ap (λ n. insert c.args.row.now n y) c.len.ensures.value ∙ at_end c.args.row.now y ∙ ap (λ ys. ys ++ y ∷ []) (sym c.requires.items) in
    let own : c.sum-sum.result ≡ of y = c.sum-sum.ensures ∙ ap of c.deref-own.ensures in
    c.join-sum.ensures
    ∙ (λ i. j.op (c.sum.ensures.value i) (own i))
    ∙ sym (total-push g.met.T.Sum.Joined.laws of xs y c.sum.ensures.sums (subst j.IsValue own c.known.ensures))
    ∙ ap (total j.empty j.op of) (sym made)

pub leaf_with_sum-requires-clause-sums : goal.leaf_with_sum-requires-clause-sums
leaf_with_sum-requires-clause-sums g c =
    let j = g.T.Sum.Joined in
    let of = g.T.Summed.sum_of in
    let xs = c.args.self.now.items in
    let y = c.args.item.value in
    let made : c.in_ok-row.row ≡ xs ++ y ∷ [] = c.in_ok-row.ensures ∙ ap (λ ys. insert ys c.len.result y) c.items.ensures.value ∙ ap (λ n. insert c.args.row.now n y) c.len.ensures.value ∙ at_end c.args.row.now y ∙ ap (λ ys. ys ++ y ∷ []) (sym c.requires.items) in
    let own : c.sum-sum.result ≡ of y = c.sum-sum.ensures ∙ ap of c.deref-own.ensures in
    subst (AllSums j.IsValue of) (sym made) (all_sums-append j.IsValue of xs (y ∷ []) c.sum.ensures.sums (subst j.IsValue own c.known.ensures, tt))
