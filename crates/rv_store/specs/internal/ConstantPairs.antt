-- The constants on a line of a text after an edit, and on the line that it was before it.
use Rattle.std.specs.Prelude.{◌≡◌, ℕ, Bool, not, List, None}
use Rattle.rv_store.specs.declared.shapes.ConstantPair.{ConstantPair}
use Rattle.rv_program.specs.Constants.{constant_of}
use Rattle.rv_program.specs.internal.Rows.{in_row}
use Rattle.rv_program.specs.Sameness.{same_constant}
use Rattle.rv_program.specs.internal.SymbolRows.{AreSymbolRows}
use Rattle.rv_program.specs.internal.TextRows.{program_in}

-- the rows are those of the text before the edit, by the same names
pub record IsConstantPair (pair : ConstantPair) : Type 0 where
  pub rows : AreSymbolRows pair.before.now
  pub names : pair.given.now.names.now ≡ pair.before.now.text.names.now

-- a name is another constant on the line than it was before
abbrev pub differs_in_constant : ConstantPair → (name : List ℕ) → Bool
differs_in_constant pair name =
    not (same_constant (in_row pair.given.now.names.now pair.given.now.row.now None name) (constant_of (program_in pair.before.now.text) pair.stood name))
