use Rattle.std.proofs.Common.{◌≡◌, ◌+◌, ℕ, nat_le, ◌&&◌, ◌||◌, Bool, true≢false, arith, ap, sym, ◌∙◌}
use Rattle.std.specs.List.{list_any}
use Rattle.rv_program.specs.Program.{program_of, statement_at, body_at}
use Rattle.rv_program.specs.Uses.{names_used, uses_local_label}
use Rattle.rv_program.specs.lemmas.LineRows.{row-added, row-kept, row-through}
use Rattle.rv_program.specs.lemmas.LocalLines.{statement-of-line}
use Rattle.rv_store.specs.internal.Apart.{added_by, touched_by}
use Rattle.rv_store.specs.internal.Still.{is_settled, uses_any}
use Rattle.rv_store.proofs.ApartLines.{passed-on, with-next, with-block}
use Rattle.rv_store.proofs.apart.LineBehind.users.Goals as goal
use Rattle.rv_store.proofs.apart.LineBehind.users.Goals.{then-touches+else-is_settled+in-Ok, else-touches}

pub lines-init : goal.lines-init
lines-init c =
    let lines = c.args.searched.now in
    let behind = c.args.self.now in
    let test : ℕ → Bool = uses_any (touched_by behind) (program_of lines) in
    let settled : ℕ → Bool = λ i. is_settled (body_at (program_of lines) i) in
    let next = c.lines_up_to_touched-i.ensures in
    let begin = c.lines_untouched-begin in
    let unused = passed-on test 0 begin.result c.lines_up_to_touched-i.result (begin.ensures.untouched lines (sym c.len.ensures) c.requires.uses) next.passed in
    record {
      within = next.within;
      users = c.new-users.ensures.items ∙ row-through test 0 c.lines_up_to_touched-i.result (omega arith) unused;
      unsettled = λ i first last h. unused i first last;
    }

pub lines-preserved : goal.lines-preserved
lines-preserved c =
    let lines = c.args.searched.now in
    let p = program_of lines in
    let behind = c.args.self.now in
    let n = c.lines.i in
    let row = c.lines.users.items in
    let test : ℕ → Bool = uses_any (touched_by behind) p in
    let settled : ℕ → Bool = λ i. is_settled (body_at p i) in
    let statement = ap (λ ls. statement_at (program_of ls) (n + 1)) (sym c.lines-lines.ensures) ∙ statement-of-line c.lines-lines.result.now n c.index-lines-i.result (omega (arith, c.lines-test.true)) c.index-lines-i.is in
    let used : c.touches.result ≡ test (n + 1) =
    c.touches.ensures ∙ ap (λ s. list_any (added_by behind) (names_used s.body) || (nat_le behind.from (n + 1) && uses_local_label s.body)) (sym statement) in
    let next = c.lines_up_to_touched-i-in-lines.ensures in
    let end = c.lines_up_to_touched-i-in-lines.result in
    let unused = next.passed in
    let through = row-through test (n + 1) end next.up unused in
    record {
      within = next.within;
      users = elim c.if-touches.branch [
        | then-touches+else-is_settled+in-Ok w ↦ ap (λ v. v.items) w.users-is ∙ w.in-Ok.ensures.items ∙ row-added test n row c.lines.invariant.users (sym used ∙ w.if-touches.true) ∙ through
        | else-touches w ↦ ap (λ v. v.items) w.users-is ∙ row-kept test n row c.lines.invariant.users (sym used ∙ w.if-touches.false) ∙ through
      ];
      unsettled = with-block test settled (n + 1) end
          (with-next test settled 0 n c.lines.invariant.unsettled (elim c.if-touches.branch [
            | then-touches+else-is_settled+in-Ok w ↦ λ h. absurd (true≢false (sym h ∙ ap (λ s. is_settled s.body) statement ∙ sym w.is_settled.ensures ∙ w.if-is_settled.false))
            | else-touches w ↦ λ h. sym used ∙ w.if-touches.false
          ]))
          (λ i past within h. unused i past within);
    }
