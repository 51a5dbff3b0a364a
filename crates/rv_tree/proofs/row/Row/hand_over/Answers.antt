use Rattle.std.proofs.Common.{◌≡◌, true, false, ℕ, ◌+◌, ◌<◌, List, ◌∷◌, [], ◌++◌, ◌∙◌, drop, length, map, take, ap, arith, refl, sym}
use Rattle.std.specs.Prelude.{unwrap_or}
use Rattle.std.proofs.Math.ListN.{set}
use Rattle.std.proofs.lemmas.List.{drop-set, drop-set-lt, length-set, take-set}
use Rattle.rv_tree.specs.Passes.{none, one_more, Stops, here, refused, later}
use Rattle.rv_tree.specs.Rows.{some_behind}
use Rattle.rv_tree.specs.Sums.{total}
use Rattle.rv_tree.proofs.Exits.{on_err}
use Rattle.rv_tree.proofs.Rows.{alike_behind, drop_at}
use Rattle.rv_tree.proofs.row.Row.hand_over.Goals.{then-same, else-same}
use Rattle.rv_tree.proofs.row.Row.hand_over.Goals as goal

-- the item at a place where it was put
put : {X : Type 0} {new : List X} (was : List X) (i n : ℕ) (y : X) → new ≡ set was i y → length was ≡ n → i < n → some_behind i 1 new ≡ y ∷ []
put was i n y is same within = ap (some_behind i 1) is ∙ ap (take 1) (drop-set was i y (rw same within))

not_true : {X : Type 0} → false ≡ true → X
not_true e = absurd (cc e)

pub visit-requires : goal.visit-requires
visit-requires g c =
    let old = drop_at c.args.self.now c.args.at c.get-item.result.now c.get-item.ensures in
    record { accepted = (drop (c.args.at + 1) c.args.self.now ++ c.requires.accepted.0, rw old at c.requires.accepted.1) }

pub returns-in_err-visit-clause-stops : goal.returns-in_err-visit-clause-stops
returns-in_err-visit-clause-stops g c =
    let old = drop_at c.args.self.now c.args.at c.get-item.result.now c.get-item.ensures in
    let stops : Stops g.P.Pass.gives g.P.Pass.refuses g.T.Sum.Joined.op g.T.Summed.sum_of c.args.pass.now c.args.before.now (drop c.args.at c.args.self.now) c.visit.new.self = rw old (refused c.in_err-visit.ensures.refused) in
    on_err _ _ stops

pub returns-in_err-change-in-Some-clause-stops : goal.returns-in_err-change-in-Some-clause-stops
returns-in_err-change-in-Some-clause-stops g c =
    let old = drop_at c.args.self.now c.args.at c.get-item.result.now c.get-item.ensures in
    let stops : Stops g.P.Pass.gives g.P.Pass.refuses g.T.Sum.Joined.op g.T.Summed.sum_of c.args.pass.now c.args.before.now (drop c.args.at c.args.self.now) c.visit.new.self = rw old (later (rw c.in-Some.is at c.in_ok-visit.ensures.given) here) in
    on_err _ _ stops

pub returns-in-None-clause-runs : goal.returns-in-None-clause-runs
returns-in-None-clause-runs g c =
    let x = c.get-item.result.now in
    let old = drop_at c.args.self.now c.args.at x c.get-item.ensures in
    let one : some_behind c.args.at 1 c.args.self.now ≡ x ∷ [] = ap (take 1) old in
    let made : some_behind c.args.at 1 (unwrap_or c.args.made.now c.args.self.now) ≡ x ∷ [] = ap (take 1) (c.requires.behind ∙ old) in
    rw (one, made) (one_more (rw c.in-None.is at c.in_ok-visit.ensures.given) none)

pub returns-in-None-clause-sum : goal.returns-in-None-clause-sum
returns-in-None-clause-sum g c =
    let j = g.T.Sum.Joined in
    let of = g.T.Summed.sum_of in
    let x = c.get-item.result.now in
    let old = drop_at c.args.self.now c.args.at x c.get-item.ensures in
    let made : some_behind c.args.at 1 (unwrap_or c.args.made.now c.args.self.now) ≡ x ∷ [] = ap (take 1) (c.requires.behind ∙ old) in
    let value : j.IsValue (of x) = rw c.sum-sum.ensures at c.known.ensures in
    let sum = c.sum-sum.ensures ∙ sym (g.met.T.Sum.Joined.laws.right_unit (of x) value) ∙ ap (total j.empty j.op of) (sym made) in
    c.join.ensures ∙ ap (j.op c.args.before.now) sum

pub returns-in-None-clause-sums : goal.returns-in-None-clause-sums
returns-in-None-clause-sums g c =
    let x = c.get-item.result.now in
    let old = drop_at c.args.self.now c.args.at x c.get-item.ensures in
    let made : some_behind c.args.at 1 (unwrap_or c.args.made.now c.args.self.now) ≡ x ∷ [] = ap (take 1) (c.requires.behind ∙ old) in
    let value : g.T.Sum.Joined.IsValue (g.T.Summed.sum_of x) = rw c.sum-sum.ensures at c.known.ensures in
    rw made (value, tt)

pub returns-in_ok-change-in-Some-clause-runs : goal.returns-in_ok-change-in-Some-clause-runs
returns-in_ok-change-in-Some-clause-runs g c =
    let self = c.args.self.now in
    let x = c.get-item.result.now in
    let one : some_behind c.args.at 1 self ≡ x ∷ [] = ap (take 1) (drop_at self c.args.at x c.get-item.ensures) in
    let made = put (unwrap_or c.args.made.now c.args.self.now) c.args.at (length c.args.self.now) c.in-Some.new c.in_ok-change-in-Some.ensures c.requires.same c.requires.within in
    rw (one, made) (one_more (rw c.in-Some.is at c.in_ok-visit.ensures.given) none)

pub returns-in_ok-change-in-Some-clause-sum : goal.returns-in_ok-change-in-Some-clause-sum
returns-in_ok-change-in-Some-clause-sum g c =
    let j = g.T.Sum.Joined in
    let of = g.T.Summed.sum_of in
    let y = c.in-Some.new in
    let made = put (unwrap_or c.args.made.now c.args.self.now) c.args.at (length c.args.self.now) c.in-Some.new c.in_ok-change-in-Some.ensures c.requires.same c.requires.within in
    let value : j.IsValue (of y) = rw c.sum-sum-in-Some.ensures at c.known-in-Some.ensures in
    let sum = c.sum-sum-in-Some.ensures ∙ sym (g.met.T.Sum.Joined.laws.right_unit (of y) value) ∙ ap (total j.empty j.op of) (sym made) in
    c.join-in-Some.ensures ∙ ap (j.op c.args.before.now) sum

pub returns-in_ok-change-in-Some-clause-sums : goal.returns-in_ok-change-in-Some-clause-sums
returns-in_ok-change-in-Some-clause-sums g c =
    let made = put (unwrap_or c.args.made.now c.args.self.now) c.args.at (length c.args.self.now) c.in-Some.new c.in_ok-change-in-Some.ensures c.requires.same c.requires.within in
    let value : g.T.Sum.Joined.IsValue (g.T.Summed.sum_of c.in-Some.new) = rw c.sum-sum-in-Some.ensures at c.known-in-Some.ensures in
    rw made (value, tt)

pub returns-in-None-clause-front : goal.returns-in-None-clause-front
returns-in-None-clause-front g c = refl

pub returns-in-None-clause-behind : goal.returns-in-None-clause-behind
returns-in-None-clause-behind g c = alike_behind _ _ c.args.at 1 c.requires.behind

pub returns-in_ok-change-in-Some-clause-front : goal.returns-in_ok-change-in-Some-clause-front
returns-in_ok-change-in-Some-clause-front g c =
    let was = unwrap_or c.args.made.now c.args.self.now in
    ap (take c.args.at) c.in_ok-change-in-Some.ensures ∙ take-set was c.args.at c.in-Some.new

pub returns-in_ok-change-in-Some-clause-behind : goal.returns-in_ok-change-in-Some-clause-behind
returns-in_ok-change-in-Some-clause-behind g c =
    let was = unwrap_or c.args.made.now c.args.self.now in
    ap (drop (c.args.at + 1)) c.in_ok-change-in-Some.ensures ∙ drop-set-lt (c.args.at + 1) was c.args.at c.in-Some.new (omega arith) ∙ alike_behind was c.args.self.now c.args.at 1 c.requires.behind

pub returns-in_ok-change-in-Some-clause-same : goal.returns-in_ok-change-in-Some-clause-same
returns-in_ok-change-in-Some-clause-same g c =
    let was = unwrap_or c.args.made.now c.args.self.now in
    ap length c.in_ok-change-in-Some.ensures ∙ length-set was c.args.at c.in-Some.new ∙ c.requires.same

pub returns-in_ok-change-in-Some-clause-alike : goal.returns-in_ok-change-in-Some-clause-alike
returns-in_ok-change-in-Some-clause-alike g c = λ yes.
    let of = g.T.Summed.sum_of in
    let x = c.get-item.result.now in
    let one : some_behind c.args.at 1 c.args.self.now ≡ x ∷ [] = ap (take 1) (drop_at c.args.self.now c.args.at x c.get-item.ensures) in
    let made = put (unwrap_or c.args.made.now c.args.self.now) c.args.at (length c.args.self.now) c.in-Some.new c.in_ok-change-in-Some.ensures c.requires.same c.requires.within in
    elim c.if-same.branch [
      | then-same w ↦
          let sum : of c.in-Some.new ≡ of x = w.has_sum_of.ensures (rw w.same-is at yes) in
          (w.if-same.true, ap (map of) made ∙ ap (λ s. s ∷ []) sum ∙ sym (ap (map of) one))
      | else-same w ↦ not_true (sym w.if-same.false ∙ rw w.same-is at yes)
    ]
