use Rattle.std.proofs.Common.{◌≡◌, FitsSigned, to_z, of_z, w64, rules, arith, ap, sym, ◌∙◌}
use Rattle.std.proofs.lemmas.Int.{ints}
use Rattle.rv_program.specs.internal.Rows.{number_of}
use Rattle.rv_program.proofs.DifferingNames.{told-of, tells-label}
use Rattle.rv_program.proofs.differing.mark_of_labels.Goals as goal

pub returns : goal.returns
returns c =
    λ name numbered.
    let before = c.args.before.now in
    let after = c.args.after.now in
    let numbered' = ap (λ names. number_of names name) (sym c.requires.after.names) ∙ numbered in
    let fits : FitsSigned w64 c.args.shift = search rules in
    let same : to_z w64 (of_z w64 c.args.shift) ≡ c.args.shift = omega (arith, ints) in
    tells-label before after c.requires.before c.requires.rows c.requires.after name c.args.shift c.in_ok-stood.stood c.in_ok-address.address
    (c.in_ok-address.ensures.value name numbered) (c.in_ok-stood.ensures.value name numbered')
    (c.in_ok-address.ensures.label name numbered) (c.in_ok-stood.ensures.label name numbered') c.mark_of_label.result
    (told-of _ _ _ _ _ _ _ c.mark_of_label.ensures same (omega arith) (omega arith))
