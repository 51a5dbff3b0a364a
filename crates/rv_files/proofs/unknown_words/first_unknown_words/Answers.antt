use Rattle.std.proofs.Common.{ℕ, ◌≡◌, ◌+◌, ◌≤◌, List, length, take, arith, ap, sym, ◌∙◌}
use Rattle.std.proofs.lemmas.List.{take_all}
use Rattle.rv_list.specs.Joined.{joined}
use Rattle.rv_report.specs.Words.{UnknownWord}
use Rattle.rv_files.specs.Words.{unknown_word, unknown_words}
use Rattle.rv_files.proofs.FirstReports.{first_reached}
use Rattle.rv_files.proofs.unknown_words.first_unknown_words.Goals as goal

pub returns-then-len-most : goal.returns-then-len-most
unfolding unknown_words
returns-then-len-most g c =
    let shown = g.V.View.shown c.args.view.now in
    let words : ℕ → List UnknownWord = λ k. unknown_word (k + 1) (shown.line (k + 1)) in
    let within : c.loop-k.k ≤ shown.count = omega (arith, c.loop-k-test.true, c.line_count-k-end.ensures.value) in
    let reached : c.args.most ≤ length (joined words c.loop-k.k) = omega (arith, c.if-len-most.true, c.len.ensures, ap length c.loop-k.invariant.whole) in
    sym (take_all c.args.most c.loop-k.words.items c.loop-k.invariant.few) ∙ ap (take c.args.most) c.loop-k.invariant.whole ∙ first_reached words c.args.most c.loop-k.k shown.count within reached
