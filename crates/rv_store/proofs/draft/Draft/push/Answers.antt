use Rattle.std.proofs.Common.{◌≡◌, ◌+◌, ◌-◌, ◌≤◌, length, insert, None, arith, ap, sym, subst, ◌∙◌}
use Rattle.std.specs.List.{AllPass}
use Rattle.rv_program.specs.Text.{Text, Insert, is_line, refusal_of, lines_after}
use Rattle.rv_store.proofs.EditRefusals.{lined_after, few_after}
use Rattle.rv_store.proofs.StillTexts.{inserted}
use Rattle.rv_store.proofs.draft.Draft.push.Goals as goal

pub invariant_of-self-2 : goal.invariant_of-self-2
invariant_of-self-2 g c =
    let lines = c.self.inside.lines.items in
    let n = c.len-count.result in
    let line = c.args.line.now in
    let allowed : refusal_of lines (Insert (n + 1) line) ≡ None = sym (c.refusal.ensures lines (sym c.len-count.ensures)) ∙ c.in_default.is in
    let place : n ≡ n + 1 - 1 = omega arith in
    let edited : c.put.new.self.items ≡ lines_after lines (Insert (n + 1) line) =
    c.in_ok-put.ensures.ok ∙ sym (inserted lines n c.in_ok-read.read c.len-count.ensures) ∙ ap (insert lines n) c.in_ok-read.ensures.line ∙ ap (λ k. insert lines k line) place in
    record {
      based = c.self.invariant.based;
      lined = subst (AllPass is_line) (sym edited) (lined_after lines (Insert (n + 1) line) c.self.invariant.lined allowed);
      few = subst (λ ls. length ls ≤ 16384) (sym edited) (few_after lines (Insert (n + 1) line) c.self.invariant.few allowed);
    }

pub returns-clause-edit : goal.returns-clause-edit
returns-clause-edit g c =
    let lines = c.self.inside.lines.items in
    let n = c.len-count.result in
    let line = c.args.line.now in
    let allowed : refusal_of lines (Insert (n + 1) line) ≡ None = sym (c.refusal.ensures lines (sym c.len-count.ensures)) ∙ c.in_default.is in
    let place : n ≡ n + 1 - 1 = omega arith in
    let edited : c.put.new.self.items ≡ lines_after lines (Insert (n + 1) line) =
    c.in_ok-put.ensures.ok ∙ sym (inserted lines n c.in_ok-read.read c.len-count.ensures) ∙ ap (insert lines n) c.in_ok-read.ensures.line ∙ ap (λ k. insert lines k line) place in
    let same : lines ≡ c.args.self.now.lines = ap (λ (t : Text). t.lines) c.self.view_is in
    let count : n ≡ length c.args.self.now.lines = c.len-count.ensures ∙ ap length same in
    let base = ap (λ (t : Text). t.base) c.self.view_is in
    let whole = edited ∙ (λ i. lines_after (same i) (Insert (count i + 1) line)) in
    (sym (λ i. refusal_of (same i) (Insert (count i + 1) line)) ∙ allowed, λ i. record { base = base i; lines = whole i })
