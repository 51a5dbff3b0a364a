-- The modifiers that are completed are those of `rv_stmt`.
use Rattle.std.proofs.Common.{◌≡◌, ℕ, ◌-◌, List, [], ◌∷◌, map, take, drop, length, Option, Some, refl}
use Rattle.rv_stmt.specs.declared.modifiers.Modifier.{Modifier}
use Rattle.rv_stmt.specs.declared.modifiers.Modifier.TheVariants.{High, Low, PcrelHigh, PcrelLow}
use Rattle.rv_stmt.specs.Values.{modifier_named, modifier_names}
use Rattle.rv_language.specs.declared.completion.TheConstants.{HIGH_PARTS, LOW_PARTS}

-- the modifier whose name stands between a `%` and a parenthesis
abbrev modifier_in : List ℕ → Option Modifier
modifier_in text = modifier_named (drop 1 (take (length text - 1) text))

high_parts : map (λ text. modifier_in text.now) HIGH_PARTS ≡ Some High ∷ Some PcrelHigh ∷ []
unfolding modifier_named modifier_names
high_parts = refl

low_parts : map (λ text. modifier_in text.now) LOW_PARTS ≡ Some Low ∷ Some PcrelLow ∷ []
unfolding modifier_named modifier_names
low_parts = refl
