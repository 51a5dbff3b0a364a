-- First uses of the names of a text that is cut short.
use Rattle.std.proofs.Common.{ℕ, List, [], ◌++◌, take, arith, ap, sym, ◌∙◌}
use Rattle.std.proofs.lemmas.List.{get_or-take, get_or_append_left, length-append, length-take}
use Rattle.rv_program.specs.internal.FirstUses.{Firsts, names_on, AreFirstUses}
use Rattle.rv_program.specs.internal.NameSets.{may_have}

pub uses-before : (lines more : List (List ℕ)) (firsts : Firsts) → AreFirstUses (lines ++ more) firsts → AreFirstUses lines firsts
uses-before lines more firsts are i bucket within uses =
    are i bucket (omega (arith, within, length-append lines more)) (ap (λ l. may_have (names_on l) bucket) (get_or_append_left lines more [] i within) ∙ uses)

pub uses-taken : (lines : List (List ℕ)) (firsts : Firsts) → AreFirstUses lines firsts → (count : ℕ) → AreFirstUses (take count lines) firsts
uses-taken lines firsts are count i bucket within uses =
    let some = length-take count lines in
    are i bucket (omega (arith, within, some)) (ap (λ l. may_have (names_on l) bucket) (sym (get_or-take count lines i [] (omega (arith, within, some)))) ∙ uses)
