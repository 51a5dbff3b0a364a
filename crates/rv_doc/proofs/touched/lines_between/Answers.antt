use Rattle.std.proofs.Common.{◌≡◌, length, take, refl, ap, ◌∙◌, arith}
use Rattle.rv_doc.specs.Positions.{lines_of}
use Rattle.rv_doc.proofs.Edited.{breaks, middle, lines_differ, few_differ}
use Rattle.rv_doc.proofs.touched.lines_between.Goals as goal

pub returns-clause-lines : goal.returns-clause-lines
returns-clause-lines c =
    let first : c.line_breaks.result ≡ breaks (take c.args.start c.args.old.now) = c.line_breaks.ensures.value ∙ ap breaks c.split_at.ensures.front in
    let old : c.split_at-2.result.0.now ≡ middle c.args.old.now c.args.start c.args.behind = c.split_at-2.ensures.front ∙ rw c.split_at.ensures.back refl in
    let new : c.split_at-4.result.0.now ≡ middle c.args.new.now c.args.start c.args.behind = c.split_at-4.ensures.front ∙ rw c.split_at-3.ensures.back refl in
    rw (first, c.line_count.ensures.value, old, new) (lines_differ c.args.old.now c.args.new.now c.args.start c.args.behind (record { old_room = c.requires.old; new_room = c.requires.new; front = c.requires.front; back = c.requires.back; starts = c.requires.starts; ends = c.requires.ends }))

pub returns-clause-within : goal.returns-clause-within
returns-clause-within c =
    let first : c.line_breaks.result ≡ breaks (take c.args.start c.args.old.now) = c.line_breaks.ensures.value ∙ ap breaks c.split_at.ensures.front in
    let old : c.split_at-2.result.0.now ≡ middle c.args.old.now c.args.start c.args.behind = c.split_at-2.ensures.front ∙ rw c.split_at.ensures.back refl in
    let count : c.line_count.result ≡ length (lines_of (middle c.args.old.now c.args.start c.args.behind)) = c.line_count.ensures.value ∙ ap (λ t. length (lines_of t)) old in
    omega (arith, first, count, few_differ c.args.old.now c.args.new.now c.args.start c.args.behind (record { old_room = c.requires.old; new_room = c.requires.new; front = c.requires.front; back = c.requires.back; starts = c.requires.starts; ends = c.requires.ends }))
