use Rattle.std.proofs.Common.{◌≡◌, not, None, ap, sym, ◌∙◌}
use Rattle.rv_program.specs.Sameness.{same_constant}
use Rattle.rv_program.specs.internal.Rows.{number_of, entry_at}
use Rattle.rv_store.proofs.shapes.ConstantPairNameTest.passes.Goals as goal

pub returns : goal.returns
returns c =
    let pair = c.args.self.now in
    let name = c.args.name.now in
    let numbered = c.number-number.ensures.number in
    let before : number_of pair.before.now.text.names.now name ≡ c.number-number.result = ap (λ names. number_of names name) (sym c.requires.names) ∙ sym numbered in
    let here = c.entry_at.ensures ∙ ap (entry_at pair.given.now.row.now None) numbered in
    let there = c.constant_of.ensures name before in
    c.ne.ensures ∙ (λ i. not (same_constant (here i) (there i)))
