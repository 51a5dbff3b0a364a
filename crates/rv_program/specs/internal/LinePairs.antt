-- A line of a text after an edit and the line that it was before it.
use Rattle.std.specs.Prelude.{◌≡◌, ℕ, ◌≤◌, Bool, false, List, length, ◌⊎◌}
use Rattle.rv_program.specs.declared.invalidation.LinePair.{LinePair}
use Rattle.rv_program.specs.declared.limits.TheConstants.{MAX_LINES}
use Rattle.rv_program.specs.Changes.{differs_in_name}
use Rattle.rv_program.specs.internal.NameSets.{Marks, Has}
use Rattle.rv_program.specs.Program.{Program, body_at}
use Rattle.rv_program.specs.internal.SymbolRows.{AreSymbolRows}
use Rattle.rv_program.specs.internal.TextRows.{program_in}
use Rattle.rv_program.specs.Uses.{is_equ}

abbrev pub program_before_pair : LinePair → Program
program_before_pair pair = program_in pair.before.now.text

abbrev pub program_after_pair : LinePair → Program
program_after_pair pair = program_in pair.after.now.text

-- the rows are those of the two texts, by the same names; the lines are lines of these, and have one body
pub record IsLinePair (pair : LinePair) : Type 0 where
  pub before : AreSymbolRows pair.before.now
  pub after : AreSymbolRows pair.after.now
  pub few : length pair.before.now.text.lines.now ≤ MAX_LINES
  pub few_after : length pair.after.now.text.lines.now ≤ MAX_LINES
  pub base : pair.after.now.text.base ≡ pair.before.now.text.base
  pub names : pair.after.now.text.names.now ≡ pair.before.now.text.names.now
  pub first_stood : 1 ≤ pair.stood
  pub last_stood : pair.stood ≤ length pair.before.now.text.lines.now
  pub first : 1 ≤ pair.line
  pub last : pair.line ≤ length pair.after.now.text.lines.now
  pub body : body_at (program_after_pair pair) pair.line ≡ body_at (program_before_pair pair) pair.stood

-- and they are no `.equ`, so that all symbols give the same on them as on other lines
pub record IsOpenPair (pair : LinePair) : Type 0 where
  pub lines : IsLinePair pair
  pub no_equ : is_equ (body_at (program_after_pair pair) pair.line) ≡ false

-- a symbol gives another value or another constant on the line than it gave before
abbrev pub differs_in_name_on : LinePair → (name : List ℕ) → Bool
differs_in_name_on pair name =
    differs_in_name pair.before.now.text.base (program_before_pair pair) (program_after_pair pair) pair.line pair.stood name

-- the set has each symbol, unless that does not differ on the line, or the line is an `.equ`
abbrev pub HasDifferingOn : LinePair → Marks → Type 0
HasDifferingOn pair set =
    is_equ (body_at (program_after_pair pair) pair.line) ≡ false → (name : List ℕ) → Has set name ⊎ (differs_in_name_on pair name ≡ false)
