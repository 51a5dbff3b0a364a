use Rattle.std.proofs.Common.{ap, sym, ◌∙◌}
use Rattle.std.proofs.lemmas.Bool.{not-false}
use Rattle.rv_program.specs.internal.Rows.{number_of}
use Rattle.rv_program.proofs.DifferingNames.{nowhere-by_value}
use Rattle.rv_program.proofs.differing.may_differ.Goals as goal

pub returns-else-not-is_same_entry : goal.returns-else-not-is_same_entry
returns-else-not-is_same_entry c =
    λ no name numbered.
    let before = c.args.before.now in
    let after = c.args.after.now in
    let numbered' = ap (λ names. number_of names name) (sym c.requires.after.names) ∙ numbered in
    let same = c.is_same_entry.ensures.0 c.if-not-is_same_entry.false in
    nowhere-by_value before after c.requires.before c.requires.rows c.requires.after name
    (sym (c.value_of.ensures name numbered) ∙ same ∙ c.value_of-2.ensures name numbered')
    (c.is_one_constant.ensures (not-false c.is_one_constant.result no) name numbered)
