use Rattle.std.proofs.Common.{◌≡◌, true, false, ◌∙◌, ap, sym}
use Rattle.rv_code.specs.declared.word.Word.TheVariants.{Half, Full}
use Rattle.rv_ops.specs.Table.{is_full}
use Rattle.rv_code.proofs.Words.{word_of-full, word_of-half}
use Rattle.rv_code.proofs.encoding.word_of.Goals as goal

pub returns-then-is_full : goal.returns-then-is_full
returns-then-is_full c =
    let full : is_full c.args.op ≡ true = sym c.is_full.ensures.value ∙ c.if-is_full.true in
    ap (λ n. Full n) c.bits-number.ensures.value ∙ sym (word_of-full c.args.op c.args.fields.now full)

pub returns-else-is_full : goal.returns-else-is_full
returns-else-is_full c =
    let full : is_full c.args.op ≡ false = sym c.is_full.ensures.value ∙ c.if-is_full.false in
    ap (λ n. Half n) c.bits-number.ensures.value ∙ sym (word_of-half c.args.op c.args.fields.now full)
