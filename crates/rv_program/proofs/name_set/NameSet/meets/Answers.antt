use Rattle.std.proofs.Common.{◌≡◌, ◌%◌, ◌==◌, ap, sym, ◌∙◌}
use Rattle.std.specs.Int.{bit_at}
use Rattle.std.proofs.lemmas.Bool.{eqb-true, not-false}
use Rattle.rv_program.specs.internal.Groups.{bits_of}
use Rattle.rv_program.specs.internal.Masks.{shared, mask_of_remainders, part_of}
use Rattle.rv_program.specs.internal.NameSets.{has_bucket}
use Rattle.rv_program.specs.lemmas.MaskLaws.{no-common_name, part-of_remainders}
use Rattle.rv_program.proofs.name_set.NameSet.meets.Goals as goal

pub returns : goal.returns
returns c = λ apart bucket has.
    let bits = bits_of c.args.groups in
    let mask = mask_of_remainders bits in
    let same : c.of_remainders.result ≡ mask = c.of_remainders.ensures ∙ ap mask_of_remainders c.bits.ensures in
    let none : shared c.self.inside.mask mask ≡ 0 = eqb-true (shared c.self.inside.mask mask) 0 (ap (λ m. shared c.self.inside.mask m == 0) (sym same) ∙ sym c.lacks.ensures ∙ not-false c.lacks.result apart) in
    ap (λ n. bit_at n (bucket % 59) == 1) (sym (part-of_remainders bits (part_of bucket)))
    ∙ no-common_name c.self.inside.mask mask bucket none (c.self.invariant.1 bucket (ap (λ set. has_bucket set bucket) c.self.view_is ∙ has))
