use Rattle.std.proofs.Common.{◌+◌, ◌≤◌, length, map, take, ap, ◌∙◌, arith}
use Rattle.std.proofs.lemmas.Grind.{common_steps}
use Rattle.rv_program.specs.Text.{Text}
use Rattle.rv_doc.specs.Edits.{spliced}
use Rattle.rv_changes.specs.Assembled.{assembled_line}
use Rattle.rv_changes.proofs.Kept.{first_after, first_before}
use Rattle.rv_changes.proofs.limits.change_at_limit.Goals as goal

pub returns-then-added-room : goal.returns-then-added-room
returns-then-added-room c = λ old is within after done.
    let store = c.args.store.now in
    let cut = c.in_ok-cut_lines.ensures in
    let all = map assembled_line (take 16384 c.args.all) in
    c.in_ok-fill.ensures (first_before assembled_line old c.args.lines c.args.all c.args.first c.args.count 16384 store.lines c.cut_lines.new.store.lines is within after (ap (λ (t : Text). t.lines) cut))
    ∙ ap (λ b. record { base = b; lines = all }) (ap (λ (t : Text). t.base) cut)

pub returns-in_ok-fill-2 : goal.returns-in_ok-fill-2
returns-in_ok-fill-2 c = λ old is within after done.
    let store = c.args.store.now in
    let first = c.args.first in
    let count = c.args.count in
    let kept = c.min-kept.result in
    let cut = c.in_ok-cut_lines-2.ensures in
    let put = c.in_ok-done.ensures.lines c.if-done.true in
    let room : first + count ≤ kept = grind (arith, common_steps, c.saturating_add.ensures, c.if-saturating_add-kept.false, c.min-kept.ensures, c.len.ensures.value, c.len.ensures.few) in
    let few : kept ≤ length store.lines = grind (arith, common_steps, c.min-kept.ensures, c.len.ensures.value) in
    let made = ap (λ (t : Text). t.lines) put ∙ ap (λ (t : Text). spliced t.lines first count (map assembled_line c.args.lines)) cut in
    c.in_ok-fill-2.ensures (first_after assembled_line old c.args.lines c.args.all first count 16384 kept store.lines c.put_lines.new.store.lines is after room few made)
    ∙ ap (λ b. record { base = b; lines = map assembled_line (take 16384 c.args.all) }) (ap (λ (t : Text). t.base) put ∙ ap (λ (t : Text). t.base) cut)
