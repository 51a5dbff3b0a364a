use Rattle.std.proofs.Common.{◌≡◌, ◌%◌, ◌<◌, ◌^◌, arith, nat_eq, true, false, subst, rules}
use Rattle.std.specs.Prelude.{IfNone, IfSome}
use Rattle.rv_code.specs.Encoding.{Fits, encoding_of}
use Rattle.rv_code.specs.Decoding.{IsWordOfNone}
use Rattle.rv_code.specs.Groups.{codes_of_half_group}
use Rattle.rv_code.proofs.Decoded.{found_half, not_half, only_half}
use Rattle.rv_code.proofs.GroupLaws.{in_half_codes}
use Rattle.rv_code.proofs.decoding.decode16.Goals as goal

pub first_instruction-requires : goal.first_instruction-requires
first_instruction-requires c =
    let below : c.from.result < 2 ^ 16 = search rules in
    in_half_codes _ _ c.args.word c.half_rows.ensures (omega (arith, below))

pub returns-then-word-eq3-clause-only : goal.returns-then-word-eq3-clause-only
returns-then-word-eq3-clause-only c =
    let low : nat_eq (c.args.word % 4) 3 ≡ true = search rules in λ o f h e. absurd (not_half c.args.word low o f h e)

pub returns-clause-found : goal.returns-clause-found
returns-clause-found c =
    let low : nat_eq (c.args.word % 4) 3 ≡ false = search rules in
    let same : c.from.result ≡ c.args.word = search rules in
    let found = subst (λ n. IfSome c.first_instruction.result (λ i. Fits i.0 i.1 × (encoding_of i.0 i.1 ≡ n))) same c.first_instruction.ensures.found in
    found_half c.first_instruction.result c.args.word low found

pub returns-clause-only : goal.returns-clause-only
returns-clause-only c =
    let same : c.from.result ≡ c.args.word = search rules in
    let found = subst (λ n. IfSome c.first_instruction.result (λ i. Fits i.0 i.1 × (encoding_of i.0 i.1 ≡ n))) same c.first_instruction.ensures.found in
    let of_rows = subst (λ codes. IfNone c.first_instruction.result (IsWordOfNone codes c.from.result)) c.half_rows.ensures c.first_instruction.ensures.none in
    let none = subst (λ n. IfNone c.first_instruction.result (IsWordOfNone (codes_of_half_group c.args.word) n)) same of_rows in
    only_half c.first_instruction.result c.args.word found none
