use Rattle.std.proofs.Common.{◌≡◌, length, replicate, get_or, ap, subst, sym, ◌∙◌}
use Rattle.std.proofs.lemmas.List.{length-replicate}
use Rattle.rv_program.specs.declared.name_set.Mark.TheVariants.{Unknown}
use Rattle.rv_program.specs.internal.NameSets.{AreMasked}
use Rattle.rv_program.specs.lemmas.Lists.{get_or-same}
use Rattle.rv_program.specs.lemmas.NameSetLaws.{none-masked}
use Rattle.rv_program.proofs.name_set.NameSet.empty.Goals as goal

pub returns-clause-none : goal.returns-clause-none
returns-clause-none c =
    let none : c.in_ok-marks.marks.items ≡ replicate 16384 Unknown = c.in_ok-marks.ensures.items_if_clones_equal (λ y e. e) in
    λ bucket. ap (λ marks. get_or marks bucket Unknown) none ∙ get_or-same 16384 bucket Unknown

pub invariant_of-result : goal.invariant_of-result
invariant_of-result c =
    let none : c.in_ok-marks.marks.items ≡ replicate 16384 Unknown = c.in_ok-marks.ensures.items_if_clones_equal (λ y e. e) in
    (ap length none ∙ length-replicate 16384 Unknown, subst (λ marks. AreMasked marks c.none.result) (sym none) (none-masked 16384 c.none.result))
