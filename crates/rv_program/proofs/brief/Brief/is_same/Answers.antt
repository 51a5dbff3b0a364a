use Rattle.std.proofs.Common.{◌≡◌, Bool, true, false, not, true≢false, sym, refl, ◌∙◌}
use Rattle.std.specs.Bool.{beq}
use Rattle.rv_program.specs.declared.mask.Kind.TheVariants.{Equ, PcrelHigh, Shaped, Addressed, Uncompared}
use Rattle.rv_program.specs.internal.DefinedNames.{mask_of_defined}
use Rattle.rv_program.specs.internal.Masks.{both_masks, with_kind}
use Rattle.rv_program.specs.internal.NameSets.{mask_of_used}
use Rattle.rv_program.proofs.brief.Brief.is_same.Goals as goal

both-same : (a b : Bool) → beq a b ≡ true → a ≡ b
both-same true true is = refl
both-same false false is = refl
both-same true false is = absurd (true≢false (sym is))
both-same false true is = absurd (true≢false (sym is))

not-other : (a b : Bool) → not (beq a b) ≡ false → a ≡ b
not-other true true is = refl
not-other false false is = refl
not-other true false is = absurd (true≢false is)
not-other false true is = absurd (true≢false is)

pub returns : goal.returns
returns c = λ same.
    let names = c.are_same.ensures c.if-not-are_same.false in
    let defined = c.are_same-else-not-are_same.ensures c.if-not-are_same-2.false in
    let equ = not-other _ _ c.if-self-other.false in
    let high = not-other _ _ c.if-self-other-2.false in
    let shaped = sym c.is_shaped.ensures ∙ not-other _ _ c.if-is_shaped.false ∙ c.is_shaped-2.ensures in
    let address = not-other _ _ c.if-self-other-3.false in
    let left = sym c.is_left_uncompared.ensures ∙ both-same _ _ same ∙ c.is_left_uncompared-2.ensures in
    λ i. with_kind (with_kind (with_kind (with_kind (with_kind (both_masks (mask_of_used (names i)) (mask_of_defined (defined i))) Equ (equ i)) PcrelHigh (high i)) Shaped (shaped i)) Addressed (address i)) Uncompared (left i)
