use Rattle.std.proofs.Common.{◌≡◌, ◌<◌, length, slice_set, rules, ap, sym, subst, ◌∙◌, ℕ, get_or}
use Rattle.std.proofs.lemmas.List.{length-set, get_or_default}
use Rattle.rv_program.specs.declared.name_set.Mark.TheVariants.{Unknown}
use Rattle.rv_program.specs.internal.NameSets.{IsBelow, AreMasked, mark_of}
use Rattle.rv_program.specs.internal.Masks.{both_masks, mask_of_bucket}
use Rattle.rv_program.specs.lemmas.NameSetLaws.{below-put, masked-with}
use Rattle.rv_program.proofs.name_set.NameSet.add.Goals.{After-differs}
use Rattle.rv_program.proofs.name_set.NameSet.add.Goals as goal

pub invariant_of-self : goal.invariant_of-self
invariant_of-self c =
    let marks = c.self.inside.marks.items in
    let place = c.from-place.result in
    let at : place ≡ c.args.bucket = search rules in
    let within : place < length marks = search rules in
    let sized : length marks ≡ 16384 = c.self.invariant.0 in (
      length-set marks place c.with-mark.result ∙ sized,
      subst (AreMasked (slice_set marks place c.with-mark.result)) (ap (λ bucket. both_masks c.self.inside.mask (mask_of_bucket bucket)) at ∙ ap (both_masks c.self.inside.mask) (sym c.of_bucket.ensures) ∙ sym c.with-self-inside.ensures)
          (masked-with marks c.self.inside.mask place c.with-mark.result c.self.invariant.1),
    )

kept : (c : After-differs) (other : ℕ) → IsBelow (mark_of c.args.self.now other) (get_or (slice_set c.self.inside.marks.items c.from-place.result c.with-mark.result) other Unknown)
kept c other =
    let marks = c.self.inside.marks.items in
    let place = c.from-place.result in
    let within : place < length marks = search rules in
    let old : mark_of c.args.self.now other ≡ get_or marks other Unknown = ap (λ s. mark_of s other) (sym c.self.view_is) in
    let here : c.index.result.now ≡ get_or marks place Unknown = c.index.ensures ∙ get_or_default marks place c.index.result.now Unknown within in
    subst (λ mark. IsBelow mark (get_or (slice_set marks place c.with-mark.result) other Unknown)) (sym old)
    (below-put marks place c.with-mark.result within (subst (λ mark. IsBelow mark c.with-mark.result) here c.with-mark.ensures.first) other)

pub returns-then-differs-clause-kept : goal.returns-then-differs-clause-kept
returns-then-differs-clause-kept c = kept (goal.at.returns-then-differs-clause-kept c).After-differs

pub returns-else-differs-clause-kept : goal.returns-else-differs-clause-kept
returns-else-differs-clause-kept c = kept (goal.at.returns-else-differs-clause-kept c).After-differs
