-- The lines of a text that were passed, one after another.
use Rattle.std.specs.Prelude.{◌≡◌, ℕ, suc, ◌≤◌, ◌%◌, ◌==◌, Bool, true, false, not, ◌||◌, List, length, drop, slice_get, Option}
use Rattle.std.specs.Option.{is_some}
use Rattle.rv_stmt.specs.declared.section.Sect.{Sect}
use Rattle.rv_stmt.specs.declared.section.Sect.TheVariants.{Bss}
use Rattle.rv_stmt.specs.Statement.{statement_of}
use Rattle.rv_list.specs.declared.view.LinePlace.{LinePlace}
use Rattle.rv_program.specs.declared.item.Item.{Item}
use Rattle.rv_program.specs.declared.limits.TheConstants.{MAX_LINES}
use Rattle.rv_program.specs.internal.Items.{AreItems}
use Rattle.rv_program.specs.Text.{Text}
use Rattle.rv_program.specs.Uses.{is_equ}

-- a text, and how many of its lines were passed
pub record PassedLines : Type 0 where
  pub text : Text
  pub count : ℕ

-- so many lines were passed: the item of the last one of them, and the items that are left
pub record ArePassed (base : ℕ) (lines : List (List ℕ)) (count : ℕ) (last : Option Item) (left : List Item) : Type 0 where
  pub items : List Item
  pub of_text : AreItems base lines items
  pub few : length lines ≤ MAX_LINES
  pub within : count ≤ length items
  pub rest : left ≡ drop count items
  pub found : (k : ℕ) → count ≡ suc k → last ≡ slice_get items k

-- a line may have faults in any place: it defines something, or its body is faulty
abbrev pub is_loud : Item → Bool
is_loud item =
    let stmt = statement_of item.line in
    not (length stmt.labels == 0) || is_equ stmt.body || is_some item.code.fault

-- a line in this place may be an instruction at an odd address, or have bytes in the section whose bytes are not shown
abbrev pub is_bss : Sect → Bool
is_bss Bss = true
is_bss section = false

abbrev pub may_be_misplaced : LinePlace → Bool
may_be_misplaced place = place.address % 2 == 1 || is_bss place.section
