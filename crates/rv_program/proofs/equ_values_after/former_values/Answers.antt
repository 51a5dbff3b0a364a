use Rattle.std.proofs.Common.{◌≡◌, ◌+◌, ◌<◌, ◌≤◌, length, vec_len, Err, arith, ap, sym, subst, ◌∙◌}
use Rattle.rv_expr.specs.declared.faults.ValueFault.TheVariants.{LaterEqu}
use Rattle.rv_program.specs.internal.Rows.{in_row}
use Rattle.rv_program.specs.lemmas.NameRows.{row-placed}
use Rattle.rv_program.proofs.FormerEqus.{AreFormerBelow, below-start, below-same, below-changed, all-looked_at}
use Rattle.rv_program.proofs.equ_values_after.former_values.Goals as goal
use Rattle.rv_program.proofs.equ_values_after.former_values.Goals.{then-not-is_defined_as_before+else-is_by_former_equ, else-not-is_defined_as_before}

pub loop-number-init : goal.loop-number-init
loop-number-init c =
    let before = c.args.before.now in
    let text = c.args.text.now in
    let former = c.in_ok-row.row.items in
    let least : length former ≤ length text.names.now = omega (arith, ap length c.in_ok-row.ensures.items, c.requires.before.symbols.equ_values.within, ap length c.requires.after.names) in
    let counted : vec_len c.in_ok-row.row ≡ length former = omega (arith, c.in_ok-row.row.ok.0) in
    let placed = row-placed text.names.now former c.resize.new.self.items (Err LaterEqu) c.len.result _ c.in_ok-resize.ensures.items counted c.len.ensures least in
    let all : length c.resize.new.self.items ≡ length text.names.now = omega (arith, c.in_ok-resize.ensures.len, c.resize.new.self.ok.0, c.len.ensures) in
    record {
      within = omega arith;
      below = below-start before text c.requires.before c.requires.rows c.requires.after c.resize.new.self.items former c.in_ok-differing.differing
          (λ name. ap (λ f. f name) placed.0 ∙ ap (λ names. in_row names former (Err LaterEqu) name) c.requires.after.names)
          c.in_ok-row.ensures.items all;
    }

pub loop-number-preserved : goal.loop-number-preserved
loop-number-preserved c =
    let before = c.args.before.now in
    let text = c.args.text.now in
    let n = c.loop-number.number in
    let below = c.loop-number.invariant.below in
    let more : n < length text.names.now = omega (arith, c.loop-number-test.true) in
    record {
      within = omega (arith, c.loop-number-test.true);
      below = elim c.if-not-is_defined_as_before.branch [
        | then-not-is_defined_as_before+else-is_by_former_equ w ↦
            subst (λ r. AreFormerBelow before text (n + 1) r c.if-not-is_defined_as_before.differing) (sym (ap (λ v. v.items) w.row-is))
            (subst (AreFormerBelow before text (n + 1) _) (sym w.differing-is)
            (below-changed before text c.requires.before c.requires.rows c.requires.after n c.loop-number.row.items c.loop-number.differing below
            w.add.new.self c.bucket-bucket.result more w.add.ensures.kept w.add.ensures.added c.bucket-bucket.ensures.bucket
            (w.is_by_former_equ.ensures w.if-is_by_former_equ.false)))
        | else-not-is_defined_as_before w ↦
            subst (λ r. AreFormerBelow before text (n + 1) r c.if-not-is_defined_as_before.differing) (sym (ap (λ v. v.items) w.row-is))
            (subst (AreFormerBelow before text (n + 1) _) (sym w.differing-is)
            (below-same before text c.requires.before c.requires.rows c.requires.after n c.loop-number.row.items c.loop-number.differing below
            (c.is_defined_as_before.ensures w.if-not-is_defined_as_before.false)))
      ];
    }

pub returns : goal.returns
returns c =
    all-looked_at c.args.before.now c.args.text.now c.requires.before c.requires.rows c.requires.after c.loop-number.number c.loop-number.row.items c.loop-number.differing
    (omega (arith, c.loop-number-test.false)) c.loop-number.invariant.below
