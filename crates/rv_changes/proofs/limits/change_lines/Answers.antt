use Rattle.std.proofs.Common.{◌+◌, ◌<◌, ◌≤◌, length, ap, ◌∙◌, arith}
use Rattle.std.proofs.lemmas.Grind.{common_steps}
use Rattle.rv_changes.specs.Assembled.{assembled_line}
use Rattle.rv_changes.proofs.Kept.{all_kept}
use Rattle.rv_changes.proofs.limits.change_lines.Goals as goal

pub returns-then-saturating_add : goal.returns-then-saturating_add
returns-then-saturating_add c = λ old is within after done.
    let store = c.args.store.now in
    let few : length store.lines < 16384 = omega (arith, c.len-len.ensures.value, c.if-len-lt-MAX_LINES.true) in
    let room : length store.lines + length c.args.lines ≤ 16384 + c.args.count = grind (arith, common_steps, c.requires.added, c.len-len.ensures.value, c.saturating_add-then-saturating_add-len.ensures, c.saturating_add-then-saturating_add-len-2.ensures, c.if-saturating_add.true) in
    c.in_ok-done.ensures.lines done
    ∙ ap (λ l. record { base = store.base; lines = l }) (all_kept assembled_line old c.args.lines c.args.all c.args.first c.args.count 16384 store.lines is within after few room)
