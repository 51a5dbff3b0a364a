use Rattle.std.proofs.Common.{◌≡◌, ◌%◌, nat_eq, true, false, subst, rules}
use Rattle.std.specs.Prelude.{IfNone}
use Rattle.rv_code.specs.Decoding.{IsWordOfNone}
use Rattle.rv_code.proofs.Decoded.{found_full, not_full, only_full}
use Rattle.rv_code.proofs.GroupLaws.{in_full_codes}
use Rattle.rv_code.proofs.decoding.decode32.Goals as goal

pub first_instruction-requires : goal.first_instruction-requires
first_instruction-requires c = in_full_codes _ _ c.args.word c.full_rows.ensures

pub returns-then-word-ne3-clause-only : goal.returns-then-word-ne3-clause-only
returns-then-word-ne3-clause-only c =
    let low : nat_eq (c.args.word % 4) 3 ≡ false = search rules in λ o f h e. absurd (not_full c.args.word low o f h e)

pub returns-clause-found : goal.returns-clause-found
returns-clause-found c =
    let low : nat_eq (c.args.word % 4) 3 ≡ true = search rules in
    found_full c.first_instruction.result c.args.word low c.first_instruction.ensures.found

pub returns-clause-only : goal.returns-clause-only
returns-clause-only c =
    let none = subst (λ codes. IfNone c.first_instruction.result (IsWordOfNone codes c.args.word)) c.full_rows.ensures c.first_instruction.ensures.none in
    only_full c.first_instruction.result c.args.word c.first_instruction.ensures.found none
