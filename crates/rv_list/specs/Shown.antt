-- What is shown of a text. Lines are counted from 1.
use Rattle.std.specs.Prelude.{ℕ, ℤ, ◌+◌, ◌==◌, Bool, false, ◌&&◌, not, List, Option}
use Rattle.rv_stmt.specs.declared.section.Sect.TheVariants.{Bss}
use Rattle.rv_stmt.specs.declared.statement.Stmt.{Stmt}
use Rattle.rv_layout.specs.Sections.{section_number}
use Rattle.rv_fix.specs.declared.coded.Coded.{Coded}
use Rattle.rv_list.specs.declared.view.DefinitionPlace.{DefinitionPlace}
use Rattle.rv_list.specs.declared.view.DefinitionPlace.TheVariants.{Label, Equ}
use Rattle.rv_list.specs.declared.view.LinePlace.{LinePlace}
use Rattle.rv_list.specs.declared.view.LineView.{LineView}
use Rattle.rv_list.specs.declared.view.SectionPlace.{SectionPlace}
use Rattle.rv_list.specs.Joined.{joined}

-- a line: its bytes, its statement, where it lies, and its code
pub record ShownLine : Type 0 where
  pub text : List ℕ
  pub stmt : Stmt
  pub place : LinePlace
  pub code : Coded

-- a text: how many lines there are, each of them by its number, where each section lies, by its number, where each name is
-- defined, and the value of each name that is defined by an `.equ`, if it has one
pub record Shown : Type 0 where
  pub count : ℕ
  pub line : ℕ → ShownLine
  pub section : ℕ → SectionPlace
  pub definition : List ℕ → DefinitionPlace
  pub value : List ℕ → Option ℤ

-- a line as a view hands it out
abbrev pub shown_line : LineView → ShownLine
shown_line line = record { text = line.text.now; stmt = line.stmt.now; place = line.place; code = line.code.now }

-- what the lines give, with their numbers, one after another
abbrev pub from_lines : {A : Type 0} → Shown → (ℕ → ShownLine → List A) → List A
from_lines shown f = joined (λ k. f (k + 1) (shown.line (k + 1))) shown.count

-- a definition is the label of this number on this line
abbrev pub is_label : (line index : ℕ) → DefinitionPlace → Bool
is_label line index (Label l i) = l == line && i == index
is_label line index place = false

-- it is the `.equ` of this line
abbrev pub is_equ : (line : ℕ) → DefinitionPlace → Bool
is_equ line (Equ l) = l == line
is_equ line place = false

-- the bytes of a section are shown, by its number: those of `.bss` are not, since it has none
abbrev pub shows_bytes : (t : ℕ) → Bool
shows_bytes t = not (t == section_number Bss)
