use Rattle.std.proofs.Common.{◌≡◌, ◌<◌, ◌^◌, ◌∙◌, ap, subst, true, false, rules, if◌then◌else◌}
use Rattle.rv_ops.specs.Table.{is_full}
use Rattle.rv_manual.proofs.FieldSteps.{has_all_bits, number_of, number_of_word, size_of_word}
use Rattle.rv_manual.proofs.fields.word_number.Goals as goal

pub returns-in-Half : goal.returns-in-Half
returns-in-Half c =
    let i = c.args.ins.now in
    let size : false ≡ is_full i.0 = ap has_all_bits c.in-Half.ensures ∙ size_of_word i.0 i.1 in
    let below : c.from.result < 2 ^ 16 = search rules in
    record {
      value = c.from.ensures ∙ ap number_of c.in-Half.ensures ∙ number_of_word i.0 i.1;
      size = subst (λ full. c.from.result < 2 ^ (if full then 32 else 16)) size below;
    }

pub returns-in-Full : goal.returns-in-Full
returns-in-Full c =
    let i = c.args.ins.now in
    let size : true ≡ is_full i.0 = ap has_all_bits c.in-Full.ensures ∙ size_of_word i.0 i.1 in
    let below : c.in-Full.number < 2 ^ 32 = search rules in
    record {
      value = ap number_of c.in-Full.ensures ∙ number_of_word i.0 i.1;
      size = subst (λ full. c.in-Full.number < 2 ^ (if full then 32 else 16)) size below;
    }
