use Rattle.std.proofs.Common.{◌≡◌, ℕ, ◌+◌, ◌++◌, List, ap, ◌∙◌, arith}
use Rattle.rv_list.specs.Image.{bytes_in, section_bytes}
use Rattle.rv_list.specs.Joined.{joined}
use Rattle.rv_list.specs.JoinedLaws.{joined_more}
use Rattle.rv_list.specs.PassedLines.{passed_line}
use Rattle.rv_files.proofs.pieces.section_pieces.Goals as goal

pub loop-k-preserved : goal.loop-k-preserved
loop-k-preserved g c =
    let shown = g.V.View.shown c.args.view.now in
    let k = c.loop-k.k in
    let bytes : ℕ → List ℕ = λ k. bytes_in c.args.section (shown.line (k + 1)) in
    let here = ap (bytes_in c.args.section) (passed_line c.line.ensures.value c.advance.ensures.text c.loop-k.invariant.text c.advance.ensures.passed c.loop-k.invariant.passed) in
    record {
      whole = rw (c.in_ok-push_line.ensures.whole, c.loop-k.invariant.whole, joined_more bytes k) (ap (λ l. joined bytes k ++ l) here);
      bytes = c.in_ok-push_line.ensures.bytes c.loop-k.invariant.bytes;
      text = c.advance.ensures.text ∙ c.loop-k.invariant.text;
      passed = omega (arith, c.advance.ensures.passed, c.loop-k.invariant.passed);
    }

pub returns-clause-whole : goal.returns-clause-whole
unfolding section_bytes
returns-clause-whole g c =
    let shown = g.V.View.shown c.args.view.now in
    let all : c.loop-k.k ≡ shown.count = omega (arith, c.line_count-k-end.ensures.value) in
    c.loop-k.invariant.whole ∙ ap (joined (λ k. bytes_in c.args.section (shown.line (k + 1)))) all
