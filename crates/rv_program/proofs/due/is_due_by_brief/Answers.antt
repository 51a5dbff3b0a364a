use Rattle.std.proofs.Common.{◌≡◌, ◌≤◌, not, false, true≢false, length, ap, sym, subst, ◌∙◌}
use Rattle.std.proofs.lemmas.Bool.{eq-eqb}
use Rattle.rv_program.specs.internal.Before.{base_before, lines_before, edit_on}
use Rattle.rv_program.specs.Changes.{is_invalidated}
use Rattle.rv_program.specs.Counted.{counts_of}
use Rattle.rv_program.proofs.ComparedJumps.{not-compared}
use Rattle.rv_program.proofs.DueLines.{due-valid}
use Rattle.rv_program.proofs.KeptLows.{kept-low}
use Rattle.rv_program.proofs.due.is_due_by_brief.Goals as goal
use Rattle.rv_program.proofs.due.is_due_by_brief.Goals.{then-stays, else-stays, then-brief, else-brief, then-keeps_low-via-then-keeps_low, then-keeps_low-via-else-keeps_low+then-not-may_be_invalidated}

pub returns-then-keeps_low-clause-due : goal.returns-then-keeps_low-clause-due
returns-then-keeps_low-clause-due g c =
    let before = c.args.before.now in
    elim c.then-keeps_low.branch [
      | then-keeps_low-via-then-keeps_low w ↦ elim c.if-brief.branch [
        | then-brief v ↦ elim c.if-stays.branch [
          | then-stays u ↦
              sym (kept-low before c.args.after.now.text c.args.line c.requires.before c.requires.after c.requires.first c.requires.last c.args.differing.now c.requires.differing c.args.lows.now c.requires.lows
              c.args.brief c.requires.brief (λ new. u.if-stays.true (c.place.ensures.only c.args.line new)) (sym u.value-is ∙ v.if-brief.true)
              (v.have_same_lows-keeps_low.ensures (sym v.keeps_low-is ∙ w.if-keeps_low.true)))
          | else-stays u ↦ absurd (true≢false (sym v.if-brief.true ∙ u.value-is ∙ ap not (eq-eqb c.args.line c.place.result u.if-stays.false)))
        ]
        | else-brief v ↦ absurd (true≢false (sym w.if-keeps_low.true ∙ v.keeps_low-is ∙ v.if-brief.false))
      ]
      | then-keeps_low-via-else-keeps_low+then-not-may_be_invalidated w ↦
          let valid : is_invalidated (base_before before) (lines_before before) (edit_on before) c.args.line ≡ false = w.may_be_invalidated.ensures w.if-not-may_be_invalidated.true in
          due-valid (base_before before) (lines_before before) (edit_on before) c.args.line c.requires.before.allowed c.requires.first
          (subst (λ ls. c.args.line ≤ length ls) c.requires.after.lines c.requires.last) valid
    ]

pub returns-then-keeps_low-clause-compared : goal.returns-then-keeps_low-clause-compared
returns-then-keeps_low-clause-compared g c =
    not-compared c.args.before.now c.args.after.now.text c.args.line c.requires.after c.requires.first (counts_of g.C.Count.parsed_count g.C.Count.valued_count g.C.Count.encoded_count c.args.counter.now)

pub returns-else-not-is_carried-clause-compared : goal.returns-else-not-is_carried-clause-compared
returns-else-not-is_carried-clause-compared g c =
    not-compared c.args.before.now c.args.after.now.text c.args.line c.requires.after c.requires.first (counts_of g.C.Count.parsed_count g.C.Count.valued_count g.C.Count.encoded_count c.args.counter.now)
