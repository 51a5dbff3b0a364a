use Rattle.std.proofs.Common.{◌≡◌, ◌+◌, suc, nat_lt, false, length, arith, ap, sym, ◌∙◌}
use Rattle.std.proofs.lemmas.Bool.{not-true, le-ltb, and_left, and_right}
use Rattle.rv_stmt.specs.Statement.{statement_of}
use Rattle.rv_program.specs.References.{among_local}
use Rattle.rv_program.specs.internal.Locals.{lines_with, with_last, lines_below}
use Rattle.rv_program.specs.lemmas.LocalLines.{none-among}
use Rattle.rv_store.specs.internal.StillLines.{is_behind_with}
use Rattle.rv_store.proofs.StillRows.{locals-before, has-last-none}
use Rattle.rv_store.proofs.survey.Survey.put_locals.Goals as goal
use Rattle.rv_store.proofs.survey.Survey.put_locals.Goals.{then-place-len-via-then-place-len, then-place-len-via-else-place-len+then-not-brief}

pub returns-then-place-len-clause-ok : goal.returns-then-place-len-clause-ok
returns-then-place-len-clause-ok c number =
    let s = c.args.self.now in
    let place = c.args.place in
    let behind = nat_lt (length s.lines.items) (suc place) in
    let has = among_local number (statement_of c.args.line.now).labels in
    let none : is_behind_with s place c.args.line.now number ≡ false =
    elim c.then-place-len.branch [
      | then-place-len-via-then-place-len w ↦ and_left behind has (le-ltb (length s.lines.items) (suc place) (omega (arith, w.if-place-len.true, c.len.ensures)))
      | then-place-len-via-else-place-len+then-not-brief w ↦ and_right behind has (none-among number (statement_of c.args.line.now).labels (sym (ap (λ b. b.local_labels) w.brief.ensures) ∙ not-true w.brief.result.local_labels w.if-not-brief.true))
    ] in
    ap (λ b. with_last (suc place) b (lines_with s.locals number)) (sym none)

pub returns-then-place-len-clause-locals : goal.returns-then-place-len-clause-locals
returns-then-place-len-clause-locals c = has-last-none c.args.place c.args.self.now c.requires.locals

pub returns-clause-locals : goal.returns-clause-locals
returns-clause-locals c =
    let s = c.args.self.now in
    let place = c.args.place in
    let next : c.args.place + 1 ≡ suc place = omega arith in
    record {
      within = λ l number. absurd (omega (arith, l, c.if-place-len.false, c.len.ensures));
      behind = λ l number.
          ap (λ n. lines_below n (lines_with c.put_line.new.self number)) (sym next)
          ∙ c.put_line.ensures.below number
          ∙ ap (λ n. lines_below n (lines_with s.locals number)) next
          ∙ locals-before place s c.requires.locals l number;
    }
