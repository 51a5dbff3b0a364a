use Rattle.std.proofs.Common.{◌≡◌, ap, sym, ◌∙◌}
use Rattle.rv_program.specs.internal.Masks.{has_name, both_masks, mask_of_bucket}
use Rattle.rv_program.specs.internal.NameSets.{bucket_of}
use Rattle.rv_program.specs.lemmas.MaskLaws.{name-in_first, name-in_second, name-of_bucket}
use Rattle.rv_store.proofs.apart.LineBehind.mark.Goals as goal

pub returns-then-passes : goal.returns-then-passes
returns-then-passes c =
    let symbol = c.args.symbol.now in
    let bucket = c.bucket_of.result in
    let old = c.args.added.now in
    let is : bucket ≡ bucket_of symbol = c.bucket_of.ensures.bucket in
    let new : c.with.result ≡ both_masks old (mask_of_bucket bucket) = c.with.ensures ∙ ap (both_masks old) c.of_bucket.ensures in
    record {
      kept = λ name before. record { has = ap (λ m. has_name m (bucket_of name)) new ∙ name-in_first old (mask_of_bucket bucket) (bucket_of name) before.has };
      marked = λ name one passes. record {
        has = ap (has_name c.with.result) (ap bucket_of one ∙ sym is)
            ∙ ap (λ m. has_name m bucket) new
            ∙ name-in_second old (mask_of_bucket bucket) bucket (name-of_bucket bucket);
      };
    }
