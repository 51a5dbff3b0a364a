-- The names that a line defines, in brief.
use Rattle.std.specs.Prelude.{ℕ, ◌==◌, Bool, true, false, List, [], ◌∷◌}
use Rattle.rv_stmt.specs.declared.statement.Body.{Body}
use Rattle.rv_stmt.specs.declared.statement.Body.TheVariants.{Equ as EquBody}
use Rattle.rv_stmt.specs.declared.statement.Stmt.{Stmt}
use Rattle.rv_stmt.specs.LabelNames.{Label, LabelName}
use Rattle.rv_stmt.specs.LabelNames as label
use Rattle.rv_program.specs.declared.defined_names.DefinedNames.{DefinedNames}
use Rattle.rv_program.specs.declared.defined_names.DefinedNames.TheVariants.{Nothing, One, Many}
use Rattle.rv_program.specs.declared.mask.Mask.{Mask}
use Rattle.rv_program.specs.internal.Masks.{no_mask, all_names, mask_of_bucket}
use Rattle.rv_program.specs.internal.NameSets.{bucket_of}

abbrev pub defined_by_label : LabelName → DefinedNames
defined_by_label (label.Symbol symbol) = One (bucket_of symbol)
defined_by_label (label.Local number) = Nothing

-- by its labels and its `.equ`; of several the names are not kept
abbrev pub defined_by : List Label → Body → DefinedNames
defined_by [] (EquBody d) = One (bucket_of d.symbol)
defined_by [] body = Nothing
defined_by (l ∷ ls) (EquBody d) = Many
defined_by (l ∷ []) body = defined_by_label l.name
defined_by (l ∷ (m ∷ ls)) body = Many

abbrev pub defined_in : Stmt → DefinedNames
defined_in s = defined_by s.labels s.body

-- one of them may be of a bucket
abbrev pub may_define : DefinedNames → (bucket : ℕ) → Bool
may_define Nothing bucket = false
may_define (One other) bucket = other == bucket
may_define Many bucket = true

abbrev pub mask_of_defined : DefinedNames → Mask
mask_of_defined Nothing = no_mask
mask_of_defined (One bucket) = mask_of_bucket bucket
mask_of_defined Many = all_names
