use Rattle.std.proofs.Common.{◌+◌, ◌∙◌, ap}
use Rattle.rv_ops.specs.Table.{fixed_of}
use Rattle.rv_code.specs.Encoding.{encoding_of, bits_of_slices}
use Rattle.rv_code.proofs.encoding.bits.Goals as goal

pub returns-clause-value : goal.returns-clause-value
unfolding encoding_of
returns-clause-value c =
    c.assembled.ensures.value
    ∙ ap (λ n. n + bits_of_slices c.args.fields.now c.slices-its_slices.result.now) c.fixed-its_fixed.ensures
    ∙ ap (λ ps. fixed_of c.args.op + bits_of_slices c.args.fields.now ps) c.slices-its_slices.ensures.value
