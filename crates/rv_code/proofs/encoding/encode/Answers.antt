use Rattle.std.proofs.Common.{◌∙◌, ap}
use Rattle.rv_code.specs.Encoding.{word_of}
use Rattle.rv_code.proofs.encoding.encode.Goals as goal

pub returns : goal.returns
returns c =
    let ins = c.args.ins.now in
    c.word_of.ensures ∙ ap (λ o. word_of o c.fields.result.now) c.op.ensures.value ∙ ap (λ f. word_of ins.0 f) c.fields.ensures
