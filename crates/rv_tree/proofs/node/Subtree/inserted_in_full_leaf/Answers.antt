use Rattle.std.proofs.Common.{arith}
use Rattle.std.proofs.lemmas.Grind.{common_steps}
use Rattle.rv_tree.proofs.node.Subtree.inserted_in_full_leaf.Goals as goal

pub returns-then-before-eq-WIDTH-clause-items : goal.returns-then-before-eq-WIDTH-clause-items
returns-then-before-eq-WIDTH-clause-items c = grind (arith, common_steps)
