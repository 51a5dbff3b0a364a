use Rattle.std.proofs.Common.{◌≡◌, ◌+◌, false, true≢false, arith, sym, subst, ◌∙◌}
use Rattle.std.proofs.lemmas.Bool.{eqb-true, not-false}
use Rattle.rv_program.specs.internal.NameSets.{mark_of, has_bucket}
use Rattle.rv_program.specs.lemmas.NameSetLaws.{below-itself}
use Rattle.rv_program.specs.lemmas.SamenessLaws.{same_entry-Decides}
use Rattle.rv_program.proofs.KeptLows.{lows-without, HasLowsBelow, changed-inside, lows-next, lows-below}
use Rattle.rv_program.proofs.lows.differing_lows.Goals as goal
use Rattle.rv_program.proofs.lows.differing_lows.Goals.{then-differs_in_low, else-differs_in_low}

pub returns-then-is_empty-2 : goal.returns-then-is_empty-2
returns-then-is_empty-2 c =
    lows-without c.args.before.now c.args.after.now.text c.args.highs.now c.requires.before c.requires.highs
    (eqb-true _ 0 (sym c.is_empty.ensures ∙ c.if-is_empty.true))
    (eqb-true _ 0 (sym c.is_empty-then-is_empty.ensures ∙ c.if-is_empty-2.true))

pub loop-number-init : goal.loop-number-init
loop-number-init c = record { within = omega arith; so_far = λ name number numbered below outside. absurd (omega (arith, below)) }

pub loop-number-preserved : goal.loop-number-preserved
loop-number-preserved c =
    let before = c.args.before.now in
    let after = c.args.after.now.text in
    let n = c.loop-number.number in
    let set = c.loop-number.lows in
    let so_far = c.loop-number.invariant.so_far in
    record {
      within = omega (arith, c.loop-number-test.true);
      so_far = elim c.if-differs_in_low.branch [
        | then-differs_in_low w ↦
            let added = w.add.new.self in
            subst (HasLowsBelow (n + 1) after.names.now before after) (sym w.lows-is)
            (lows-next before after after.names.now n set added so_far w.add.ensures.kept (λ name numbered outside.
            absurd (true≢false (sym (changed-inside (mark_of added w.bucket.result) w.add.ensures.added) ∙ subst (λ b. has_bucket added b ≡ false) (sym (w.bucket.ensures.bucket name numbered)) outside))))
        | else-differs_in_low w ↦
            subst (HasLowsBelow (n + 1) after.names.now before after) (sym w.lows-is)
            (lows-next before after after.names.now n set set so_far (λ bucket. below-itself (mark_of set bucket)) (λ name numbered outside.
            (same_entry-Decides _ _).0 (not-false _ (sym (c.differs_in_low.ensures name numbered) ∙ w.if-differs_in_low.false))))
      ];
    }

pub returns : goal.returns
returns c =
    lows-below c.args.before.now c.args.after.now.text c.requires.before c.requires.rows.text c.requires.after c.loop-number.number (omega (arith, c.loop-number-test.false)) c.loop-number.lows
    c.loop-number.invariant.so_far
