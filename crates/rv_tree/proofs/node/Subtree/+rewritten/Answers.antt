use Rattle.std.proofs.lemmas.Grind.{common_steps}
use Rattle.std.proofs.Common.{◌≤◌, ◌++◌, length, ap, sym, ◌∙◌, append_assoc, rules, arith, length-append}
use Rattle.std.proofs.lemmas.Result.{IfOk-weaker}
use Rattle.rv_tree.specs.Passes.{here}
use Rattle.rv_tree.proofs.Exits.{on_err, both_ok}
use Rattle.rv_tree.specs.PassLaws.{runs-append, stops-append_left, stops-append_right, stops_after_run, accepts_after}
use Rattle.rv_tree.proofs.node.Subtree.+rewritten.Goals as goal

pub returns-then-is_left_out-clause-stops : goal.returns-then-is_left_out-clause-stops
returns-then-is_left_out-clause-stops g t c = on_err _ _ here

pub returns-in_err-first-clause-stops : goal.returns-in_err-first-clause-stops
returns-in_err-first-clause-stops g t c =
    let j = g.T.Sum.Joined in
    let p = g.P.Pass in
    let items = rw c.deref-here.ensures at c.sides.ensures.items in
    on_err _ _ (rw items at (stops-append_left p.gives p.refuses j.IsValue j.empty j.op g.met.T.Sum.Joined.laws g.T.Summed.sum_of c.sides.result.1.now.value.items c.in_err-first.ensures.stops))

pub rewritten-requires-2 : goal.rewritten-requires-2
rewritten-requires-2 g t c = λ κs w.
    let j = g.T.Sum.Joined in
    let p = g.P.Pass in
    let right = c.sides.result.1.now.value.items in
    let items = rw c.deref-here.ensures at c.sides.ensures.items in
    let all = rw (sym items, append_assoc) at c.requires.accepted.1 in
    let can = accepts_after p.gives p.refuses j.IsValue j.empty j.op g.met.T.Sum.Joined.laws g.T.Summed.sum_of p.accepts g.met.P.Pass.accepts_rest (right ++ c.requires.accepted.0) c.is_left_out.ensures.known c.sum_behind-middle.ensures.sums c.in_ok-first.ensures.runs all in
    let small : length right ≤ 16384 = omega (arith, c.requires.few, ap length items, length-append c.sides.result.0.now.value.items right) in
    (search rules, (search rules, (search rules, (search rules, ((c.requires.accepted.0, rw c.sum_behind-middle.ensures.value can), small)))))

pub returns-in_err-second-clause-stops : goal.returns-in_err-second-clause-stops
returns-in_err-second-clause-stops g t c =
    let j = g.T.Sum.Joined in
    let p = g.P.Pass in
    let items = rw c.deref-here.ensures at c.sides.ensures.items in
    let stops = rw c.sum_behind-middle.ensures.value at c.in_err-second.ensures.stops in
    on_err _ _ (rw items at (stops-append_right p.gives p.refuses j.IsValue j.empty j.op g.met.T.Sum.Joined.laws g.T.Summed.sum_of c.sides.result.1.now.value.items c.is_left_out.ensures.known c.sum_behind-middle.ensures.sums c.in_ok-first.ensures.runs stops))

pub returns-clause-runs : goal.returns-clause-runs
returns-clause-runs g t c =
    let j = g.T.Sum.Joined in
    let p = g.P.Pass in
    let items = rw c.deref-here.ensures at c.sides.ensures.items in
    let second = rw c.sum_behind-middle.ensures.value at c.in_ok-second.ensures.runs in
    let runs = rw items at (runs-append p.gives p.refuses j.IsValue j.empty j.op g.met.T.Sum.Joined.laws g.T.Summed.sum_of c.sides.result.1.now.value.items c.in_ok-second.second.tree.value.items c.is_left_out.ensures.known c.sum_behind-middle.ensures.sums c.in_ok-first.ensures.runs second) in
    IfOk-weaker c.rejoined.result _ _ (λ r same. rw same runs) c.rejoined.ensures.items

pub returns-clause-stops : goal.returns-clause-stops
returns-clause-stops g t c =
    let j = g.T.Sum.Joined in
    let p = g.P.Pass in
    let laws = g.met.T.Sum.Joined.laws in
    let items = rw c.deref-here.ensures at c.sides.ensures.items in
    let second = rw c.sum_behind-middle.ensures.value at c.in_ok-second.ensures.runs in
    let stops = stops_after_run p.gives p.refuses j.IsValue j.empty j.op laws g.T.Summed.sum_of second in
    on_err _ _ (rw items at (stops-append_right p.gives p.refuses j.IsValue j.empty j.op laws g.T.Summed.sum_of c.sides.result.1.now.value.items c.is_left_out.ensures.known c.sum_behind-middle.ensures.sums c.in_ok-first.ensures.runs stops))

pub returns-clause-same : goal.returns-clause-same
returns-clause-same g t c = c.rejoined.ensures.same

pub returns-clause-shape : goal.returns-clause-shape
returns-clause-shape g t c =
    let items = ap length (rw c.deref-here.ensures at c.sides.ensures.items) in
    let first = c.in_ok-first.ensures.shape.1 in
    let second = c.in_ok-second.ensures.shape.1 in
    let many = length-append c.in_ok-first.first.tree.value.items c.in_ok-second.second.tree.value.items in
    let before = length-append c.sides.result.0.now.value.items c.sides.result.1.now.value.items in
    both_ok c.rejoined.result _ _ c.rejoined.ensures.height
    (IfOk-weaker c.rejoined.result _ _ (λ r same. ap length same ∙ omega (arith, many, before, first, second, items)) c.rejoined.ensures.items)

pub rejoined-requires-clause-balanced : goal.rejoined-requires-clause-balanced
rejoined-requires-clause-balanced g t c =
    let near = c.sides.ensures.balanced in
    let first = c.in_ok-first.ensures.shape.0 in
    let second = c.in_ok-second.ensures.shape.0 in
    (omega (arith, near.0, first, second), omega (arith, near.1, first, second))

pub rejoined-requires-clause-few : goal.rejoined-requires-clause-few
rejoined-requires-clause-few g t c =
    let items = ap length (rw c.deref-here.ensures at c.sides.ensures.items) in
    let before = length-append c.sides.result.0.now.value.items c.sides.result.1.now.value.items in
    omega (arith, c.requires.few, items, before, c.in_ok-first.ensures.shape.1, c.in_ok-second.ensures.shape.1)

pub rejoined-requires-clause-height : goal.rejoined-requires-clause-height
rejoined-requires-clause-height g t c =
    let whole = rw c.deref-here.ensures at c.sides.ensures.height in
    let first = c.in_ok-first.ensures.shape.0 in
    let second = c.in_ok-second.ensures.shape.0 in
    omega (arith, whole, first, second)

pub rewritten-requires : goal.rewritten-requires
rewritten-requires c = grind (arith, common_steps)
