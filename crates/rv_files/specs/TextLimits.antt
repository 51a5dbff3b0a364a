-- Texts within the limits of a store.
use Rattle.std.specs.Prelude.{◌≡◌, ◌≤◌, true, length, All}
use Rattle.rv_text.specs.declared.lexeme.TheConstants.{MAX_LINE_LENGTH}
use Rattle.rv_layout.specs.Places.{is_base}
use Rattle.rv_program.specs.declared.limits.TheConstants.{MAX_LINES}
use Rattle.rv_program.specs.Text.{Text}

-- the base is a right one, and the lines are few and short
pub record IsWithinLimits (text : Text) : Type 0 where
  pub based : is_base text.base ≡ true
  pub few : length text.lines ≤ MAX_LINES
  pub short : All (λ line. length line ≤ MAX_LINE_LENGTH) text.lines
