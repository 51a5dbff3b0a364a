use Rattle.std.proofs.Common.{ℕ, ◌+◌, ◌≤◌, List, length, take, arith, ap, ◌∙◌}
use Rattle.rv_list.specs.Joined.{joined}
use Rattle.rv_files.specs.Symbols.{Symbol, symbols_on, symbols_of}
use Rattle.rv_files.proofs.FirstReports.{first_reached}
use Rattle.rv_files.proofs.text_symbols.first_symbols.Goals as goal

pub returns-then-len-most-clause-first : goal.returns-then-len-most-clause-first
unfolding symbols_of
returns-then-len-most-clause-first g c =
    let shown = g.V.View.shown c.args.view.now in
    let symbols : ℕ → List Symbol = λ k. symbols_on shown (k + 1) (shown.line (k + 1)) in
    let within : c.loop-k.k ≤ shown.count = omega (arith, c.loop-k-test.true, c.line_count-k-end.ensures.value) in
    let reached : c.args.most ≤ length (joined symbols c.loop-k.k) = omega (arith, c.if-len-most.true, c.len.ensures, ap length c.loop-k.invariant.whole) in
    ap (take c.args.most) c.loop-k.invariant.whole ∙ first_reached symbols c.args.most c.loop-k.k shown.count within reached

pub returns-then-len-most-clause-all : goal.returns-then-len-most-clause-all
returns-then-len-most-clause-all g c = λ few. absurd (omega (arith, few, c.if-len-most.true, c.len.ensures))
