use Rattle.std.proofs.Common.{◌≡◌, ◌≤◌, ◌-◌, ◌++◌, length, map, take, drop, ap, ◌∙◌, arith}
use Rattle.rv_changes.specs.Assembled.{assembled_line}
use Rattle.rv_changes.proofs.Kept.{filled}
use Rattle.rv_changes.proofs.limits.fill.Goals as goal

pub returns-then-len-eq-MAX_LINES : goal.returns-then-len-eq-MAX_LINES
returns-then-len-eq-MAX_LINES c = λ first.
    let old = c.args.store.now in
    let full : length old.lines ≡ 16384 = omega (arith, c.len.ensures.value, c.if-len-eq-MAX_LINES.true) in
    ap (λ l. record { base = old.base; lines = l }) (first ∙ ap (λ n. map assembled_line (take n c.args.all)) full)

pub returns : goal.returns
returns c = λ first.
    let old = c.args.store.now in
    let few : length old.lines ≤ 16384 = omega (arith, c.len.ensures.value, c.len.ensures.few) in
    c.in_ok-append_lines.ensures
    ∙ ap (λ l. record { base = old.base; lines = old.lines ++ map assembled_line (take (16384 - length old.lines) l) }) (c.behind-left.ensures ∙ ap (λ n. drop n c.args.all) c.len-2.ensures.value)
    ∙ ap (λ l. record { base = old.base; lines = l }) (filled assembled_line old.lines 16384 c.args.all few first)
