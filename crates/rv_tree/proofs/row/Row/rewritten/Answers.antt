use Rattle.std.proofs.Common.{◌≡◌, ◌+◌, ◌++◌, ◌∙◌, append_assoc, arith, drop, take, take-add, take-append-drop, ap, ap₂, refl, sym}
use Rattle.std.proofs.lemmas.List.{map-append}
use Rattle.std.specs.Prelude.{unwrap_or}
use Rattle.rv_tree.specs.Passes.{none, Stops}
use Rattle.rv_tree.specs.PassLaws.{runs-append, stops-append_right, accepts_after}
use Rattle.rv_tree.specs.Rows.{some_behind}
use Rattle.rv_tree.specs.SumLaws.{all_sums-append, total_is_value, total-append}
use Rattle.rv_tree.specs.Sums.{total}
use Rattle.rv_tree.proofs.Exits.{on_err}
use Rattle.rv_tree.proofs.Rows.{some_and_rest}
use Rattle.rv_tree.proofs.row.Row.rewritten.Goals as goal

pub loop-at-init : goal.loop-at-init
loop-at-init g c =
    let j = g.T.Sum.Joined in
    let sum = c.join-sum.ensures ∙ ap (j.op c.args.before.now) c.unit.ensures in
    let same = sum ∙ g.met.T.Sum.Joined.laws.right_unit c.args.before.now c.known.ensures in
    record {
      within = omega arith;
      same = refl;
      behind = refl;
      runs = none;
      sum = sum;
      sums = tt;
      alike = λ yes. refl;
      accepted = (c.requires.accepted.0, rw same c.requires.accepted.1);
    }

pub returns-in_err-count-clause-stops : goal.returns-in_err-count-clause-stops
returns-in_err-count-clause-stops g c =
    let j = g.T.Sum.Joined in
    let p = g.P.Pass in
    let self = c.args.self.now in
    let at = c.loop-at.at in
    let done = c.loop-at.invariant in
    let all = stops-append_right p.gives p.refuses j.IsValue j.empty j.op g.met.T.Sum.Joined.laws g.T.Summed.sum_of (drop at self) c.known.ensures done.sums done.runs (rw done.sum at c.in_err-count.ensures.stops) in
    let stops : Stops p.gives p.refuses j.op g.T.Summed.sum_of c.args.pass.now c.args.before.now self c.go_on.new.pass = rw (take-append-drop at self) at all in
    on_err _ _ stops

pub loop-at-preserved : goal.loop-at-preserved
loop-at-preserved g c =
    let j = g.T.Sum.Joined in
    let p = g.P.Pass in
    let laws = g.met.T.Sum.Joined.laws in
    let of = g.T.Summed.sum_of in
    let before = c.args.before.now in
    let self = c.args.self.now in
    let at = c.loop-at.at in
    let was = unwrap_or c.loop-at.made self in
    let made = unwrap_or c.go_on.new.made self in
    let done = c.loop-at.invariant in
    let n = c.in_ok-count.count in
    let step = c.in_ok-count.ensures in
    let mine = some_behind at n self in
    let its = some_behind at n made in
    let old : take (at + n) self ≡ take at self ++ mine = take-add at n self in
    let new : take (at + n) made ≡ take at was ++ its = take-add at n made ∙ ap (λ ys. ys ++ its) step.front in
    let runs = runs-append p.gives p.refuses j.IsValue j.empty j.op laws of mine its c.known.ensures done.sums done.runs (rw done.sum at step.runs) in
    let sums = all_sums-append j.IsValue of (take at was) its done.sums step.sums in
    let first = total_is_value laws of (take at was) done.sums in
    let both = sym (total-append laws of (take at was) its done.sums step.sums) ∙ ap (total j.empty j.op of) (sym new) in
    let sum = step.sum
    ∙ ap (λ s. j.op s (total j.empty j.op of its)) done.sum
    ∙ laws.associative before (total j.empty j.op of (take at was)) (total j.empty j.op of its) c.known.ensures first (total_is_value laws of its step.sums)
    ∙ ap (j.op before) both in
    let value : j.IsValue c.loop-at.sum = rw done.sum (laws.op_is_value before (total j.empty j.op of (take at was)) c.known.ensures first) in
    let behind = rw (sym (some_and_rest self at n), append_assoc) at done.accepted.1 in
    let accepted = accepts_after p.gives p.refuses j.IsValue j.empty j.op laws of p.accepts g.met.P.Pass.accepts_rest (drop (at + n) self ++ done.accepted.0) value step.sums step.runs behind in
    record {
      within = step.further.1;
      same = step.same;
      behind = step.behind;
      runs = rw (old, new) runs;
      sum = sum;
      sums = rw new sums;
      alike = λ yes. let both = step.alike yes in rw (old, new) (map-append of (take at was) its ∙ ap₂ (λ us vs. us ++ vs) (done.alike both.0) both.1 ∙ sym (map-append of (take at self) mine));
      accepted = (done.accepted.0, rw step.sum accepted);
    }
