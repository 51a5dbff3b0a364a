-- Lines that define the same and take the same room: where the one is put in the place of the other, all other lines stay as
-- they are.
use Rattle.std.specs.Prelude.{◌≡◌, ℕ, Bool, true, false, ◌&&◌, ◌==◌, List, [], ◌∷◌, map, bytes_eq}
use Rattle.rv_stmt.specs.declared.statement.Stmt.{Stmt}
use Rattle.rv_stmt.specs.LabelNames.{Label, LabelName, Symbol, Local}
use Rattle.rv_layout.specs.declared.measured.Measured.{Measured}
use Rattle.rv_layout.specs.declared.measured.Measured.TheVariants.{Nothing, Faulty}
use Rattle.rv_layout.specs.Shapes.{shape_of}
use Rattle.rv_program.specs.Constants.{constant_of}
use Rattle.rv_program.specs.Layout.{shape_at}
use Rattle.rv_program.specs.Pairs.{pcrel_high_of}
use Rattle.rv_program.specs.Program.{Program, statement_at}
use Rattle.rv_program.specs.Uses.{is_equ}

-- two labels define the same
abbrev pub same_name : LabelName → LabelName → Bool
same_name (Symbol symbol) (Symbol other) = bytes_eq symbol other
same_name (Local number) (Local other) = number == other
same_name name other = false

abbrev pub same_labels : List Label → List Label → Bool
same_labels [] [] = true
same_labels (l ∷ ls) (m ∷ ms) = same_name l.name m.name && same_labels ls ms
same_labels ls ms = false

-- what labels define, in their order
abbrev pub label_names : List Label → List LabelName
label_names labels = map (λ l. l.name) labels

-- no more than labels and bytes, and the labels are the same, and so is the high half, if there is one
pub record DefinesSame (before after : Stmt) : Type 0 where
  pub labels : label_names after.labels ≡ label_names before.labels
  pub equ_before : is_equ before.body ≡ false
  pub equ_after : is_equ after.body ≡ false
  pub high : pcrel_high_of after.body ≡ pcrel_high_of before.body

-- what a shape does to the layout: a faulty line has no bytes, like one without a body
abbrev pub room_of : Measured → Measured
room_of (Faulty fault) = Nothing
room_of m = m

-- this statement is alike that of line k
pub record IsAlike (program : Program) (k : ℕ) (after : Stmt) : Type 0 where
  pub defines : DefinesSame (statement_at program k) after
  pub room : room_of (shape_of (constant_of program k) after.body) ≡ room_of (shape_at program k)
