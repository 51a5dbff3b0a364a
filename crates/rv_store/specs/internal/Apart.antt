-- What a line after a text adds, and the mask of it.
use Rattle.std.specs.Prelude.{◌≡◌, ℕ, Bool, true, List}
use Rattle.rv_stmt.specs.Statement.{statement_of}
use Rattle.rv_store.specs.declared.apart.LineBehind.{LineBehind}
use Rattle.rv_store.specs.internal.Appended.{adds_by_rows}
use Rattle.rv_program.specs.declared.mask.Mask.{Mask}
use Rattle.rv_store.specs.internal.Still.{Touched}
use Rattle.rv_program.specs.internal.Masks.{has_name}
use Rattle.rv_program.specs.internal.NameSets.{bucket_of}

-- it adds the name
abbrev pub added_by : LineBehind → (name : List ℕ) → Bool
added_by behind name = adds_by_rows behind.names.now behind.definitions.now behind.number (statement_of behind.line.now) name

-- what it touches
abbrev pub touched_by : LineBehind → Touched
touched_by behind = record { names = added_by behind; from = behind.from }

-- a mask has a name
pub record HasMaskOf (name : List ℕ) (mask : Mask) : Type 0 where
  pub has : has_name mask (bucket_of name) ≡ true

-- those of some names that pass are added
pub record AreMarked (passes : List ℕ → Bool) (IsOneOf : List ℕ → Type 0) (old new : Mask) : Type 0 where
  pub kept : (name : List ℕ) → HasMaskOf name old → HasMaskOf name new
  pub marked : (name : List ℕ) → IsOneOf name → passes name ≡ true → HasMaskOf name new
