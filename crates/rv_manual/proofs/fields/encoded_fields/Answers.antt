use Rattle.std.proofs.Common.{◌≡◌, suc, ◌-◌, ◌<◌, ◌^◌, ◌++◌, ◌∙◌, ap, sym, subst, arith, IsTrue, map, append-nil, mod-eq_of_lt}
use Rattle.rv_code.specs.Encoding.{encoding_of}
use Rattle.rv_manual.specs.Fields.{bits_together, covers, field_of, fields_of, size_of, stretches_below, stretches_of}
use Rattle.rv_manual.proofs.FieldSteps.{are_together, one_more}
use Rattle.rv_manual.proofs.FormatFacts.{are_covered}
use Rattle.rv_manual.proofs.fields.encoded_fields.Goals as goal

pub bits-preserved : goal.bits-preserved
bits-preserved c =
    let f = field_of c.word_number-word.result in
    let o = c.op-op.result in
    let left : c.bits.end ≡ suc (c.bits.end - 1) = omega (arith, c.bits-test.true) in
    record {
      room = omega (arith, c.push_field.ensures.len, c.bits.invariant.room, left);
      rest = ap (λ items. items ++ map f (stretches_below o (c.bits.end - 1))) c.push_field.ensures.value
          ∙ one_more f o c.bits.end (c.bits.end - 1) c.bits.fields.items left ∙ c.bits.invariant.rest;
    }

pub returns : goal.returns
unfolding fields_of stretches_of
returns c =
    let i = c.args.ins.now in
    let word = encoding_of i.0 i.1 in
    let f = field_of c.word_number-word.result in
    let o = c.op-op.result in
    let done : c.bits.end ≡ 0 = omega (arith, c.bits-test.false) in
    let all : c.bits.fields.items ≡ map f (stretches_below o (size_of o)) =
    sym (append-nil c.bits.fields.items) ∙ ap (λ n. c.bits.fields.items ++ map f (stretches_below o n)) (sym done) ∙ c.bits.invariant.rest in
    let value : c.bits.fields.items ≡ map (field_of word) (stretches_of i.0) =
    all ∙ ap (λ p. map f (stretches_below p (size_of p))) c.op-op.ensures.value
    ∙ ap (λ w. map (field_of w) (stretches_below i.0 (size_of i.0))) c.word_number-word.ensures.value in
    let below : word < 2 ^ size_of i.0 = subst (λ n. n < 2 ^ size_of i.0) c.word_number-word.ensures.value c.word_number-word.ensures.size in
    record {
      value = value;
      covers = subst (λ fs. IsTrue (covers (size_of i.0) fs)) (sym value) (are_covered i.0 word);
      together = ap bits_together value ∙ are_together word (size_of i.0) (stretches_of i.0) (are_covered i.0 word) ∙ mod-eq_of_lt below;
    }
