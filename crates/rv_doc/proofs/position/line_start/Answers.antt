use Rattle.std.proofs.Common.{◌≡◌, ◌+◌, ◌-◌, suc, refl, sym, ◌∙◌, ap, arith, length, drop, []}
use Rattle.std.proofs.lemmas.Grind.{common_steps}
use Rattle.rv_doc.specs.Positions.{lines_of, line_at, size_of_lines}
use Rattle.rv_doc.proofs.Starts.{size_found, size_only, line_found, line_only}
use Rattle.rv_doc.proofs.position.line_start.Goals as goal

pub returns-in_default-clause-value : goal.returns-in_default-clause-value
returns-in_default-clause-value c =
    let more : c.lines.left ≡ suc (c.lines.left - 1) = omega (arith, c.lines-test.true) in
    let all = ap (λ n. size_of_lines (lines_of c.lines.rest.now) n) more ∙ size_only c.lines.rest.now (c.lines.left - 1) c.in_default.ensures in
    omega (arith, c.lines.invariant.value, all, c.lines.invariant.within)

pub returns-in_default-clause-line : goal.returns-in_default-clause-line
returns-in_default-clause-line c =
    let more : c.lines.left ≡ suc (c.lines.left - 1) = omega (arith, c.lines-test.true) in
    let none = ap (λ n. line_at (lines_of c.lines.rest.now) n) more ∙ line_only c.lines.rest.now (c.lines.left - 1) c.in_default.ensures in
    let no_more : drop (length c.args.text.now) c.args.text.now ≡ [] = grind (arith, common_steps) in
    ap (λ l. line_at (lines_of l) 0) no_more ∙ sym (c.lines.invariant.line ∙ none)

pub lines-preserved : goal.lines-preserved
lines-preserved c =
    let k = c.in-Some.k in
    let rest = c.lines.rest.now in
    let n = c.lines.left - 1 in
    let more : c.lines.left ≡ suc n = omega (arith, c.lines-test.true) in
    let sizes = ap (λ n. size_of_lines (lines_of rest) n) more ∙ size_found rest k n c.in-Some.ensures in
    let lines = ap (λ n. line_at (lines_of rest) n) more ∙ line_found rest k n c.in-Some.ensures in
    record {
      value = rw c.split_at-in-lines.ensures.back (let room : length (drop (k + 1) rest) ≡ length rest - (k + 1) = grind (arith, common_steps) in omega (arith, c.lines.invariant.value, sizes, room, c.in-Some.ensures.0.high));
      line = c.lines.invariant.line ∙ lines ∙ rw c.split_at-in-lines.ensures.back refl;
      rest = grind (arith, common_steps, c.lines.invariant.rest, c.split_at-in-lines.ensures.back);
      within = grind (arith, common_steps, c.lines.invariant.within, c.split_at-in-lines.ensures.back);
    }
