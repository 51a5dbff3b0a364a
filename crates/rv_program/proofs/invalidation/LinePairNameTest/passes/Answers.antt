use Rattle.std.proofs.Common.{◌≡◌, ap, sym, ◌∙◌, not}
use Rattle.rv_program.specs.Sameness.{same_constant}
use Rattle.rv_program.specs.internal.Rows.{number_of}
use Rattle.rv_program.proofs.LinePairLaws.{differs-by_value, differs-by_constant}
use Rattle.rv_program.proofs.invalidation.LinePairNameTest.passes.Goals as goal

pub returns-then-not-is_same_entry : goal.returns-then-not-is_same_entry
returns-then-not-is_same_entry c =
    let pair = c.args.self.now in
    let name = c.args.name.now in
    let numbered : number_of pair.after.now.text.names.now name ≡ c.number-number.result = sym c.number-number.ensures.number in
    let numbered_before : number_of pair.before.now.text.names.now name ≡ c.number-number.result = sym (ap (λ names. number_of names name) c.requires.lines.names) ∙ numbered in
    differs-by_value pair name c.requires c.value_of.result c.value_of-2.result (c.value_of.ensures name numbered) (c.value_of-2.ensures name numbered_before) c.is_same_entry.result c.is_same_entry.ensures c.if-not-is_same_entry.true

pub returns-else-not-is_same_entry : goal.returns-else-not-is_same_entry
returns-else-not-is_same_entry c =
    let pair = c.args.self.now in
    let name = c.args.name.now in
    let numbered : number_of pair.after.now.text.names.now name ≡ c.number-number.result = sym c.number-number.ensures.number in
    let numbered_before : number_of pair.before.now.text.names.now name ≡ c.number-number.result = sym (ap (λ names. number_of names name) c.requires.lines.names) ∙ numbered in
    let constant = c.constant_of.ensures name numbered in
    let constant_before = c.constant_of-else-not-is_same_entry.ensures name numbered_before in
    c.ne.ensures ∙ (λ i. not (same_constant (constant i) (constant_before i)))
    ∙ differs-by_constant pair name c.requires c.value_of.result c.value_of-2.result (c.value_of.ensures name numbered) (c.value_of-2.ensures name numbered_before) c.is_same_entry.result c.is_same_entry.ensures c.if-not-is_same_entry.false
