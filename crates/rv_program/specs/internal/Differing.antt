-- Which symbols an edit changes, by a set that has all of them.
use Rattle.std.specs.Prelude.{◌≡◌, ℕ, ℤ, pos, ◌+ℤ◌, ◌==◌, ◌⊎◌, Bool, true, false, List, Option, Some, None, Ok}
use Rattle.rv_stmt.specs.Readings.{and_then}
use Rattle.rv_fix.specs.Values.{Entry}
use Rattle.rv_program.specs.declared.before.Before.{Before}
use Rattle.rv_program.specs.declared.name_set.Mark.{Mark}
use Rattle.rv_program.specs.declared.name_set.Mark.TheVariants.{Unknown, Same, Moved, Changed}
use Rattle.rv_program.specs.declared.text_rows.TextRows.{TextRows}
use Rattle.rv_program.specs.declared.used_names.UsedNames.{UsedNames}
use Rattle.rv_program.specs.internal.Before.{base_before}
use Rattle.rv_program.specs.Changes.{program_after, differs_in_name}
use Rattle.rv_program.specs.Constants.{constant_of}
use Rattle.rv_program.specs.Definitions.{definition_of, is_defined}
use Rattle.rv_program.specs.Edits.{line_before_edit}
use Rattle.rv_program.specs.declared.mask.Mask.{Mask}
use Rattle.rv_program.specs.declared.mask.Kind.TheVariants.{Addressed, Uncompared}
use Rattle.rv_program.specs.internal.Masks.{has_name, has_kind}
use Rattle.rv_program.specs.internal.NameSets.{bucket_of, Marks, mark_of, has_bucket, IsOutside, IsMoved}
use Rattle.rv_program.specs.internal.TextRows.{program_in, address_in_text}
use Rattle.rv_program.specs.Layout.{size_at}
use Rattle.rv_program.specs.Pairs.{high_at, low_of_symbol}
use Rattle.rv_program.specs.Program.{program_of, body_at}
use Rattle.rv_program.specs.References.{reference_of}
use Rattle.rv_program.specs.Text.{Edit}
use Rattle.rv_program.specs.Uses.{is_equ}

-- a symbol is the same constant on each line after an edit as on the line that it was before it
abbrev pub IsOneConstant : (lines : List (List ℕ)) → Edit → (name : List ℕ) → Type 0
IsOneConstant lines edit name =
    (k j : ℕ) → line_before_edit edit k ≡ Some j → constant_of (program_after lines edit) k name ≡ constant_of (program_of lines) j name

-- a symbol gives the same value and is the same constant on each line as on the line that it was, `.equ`s apart
abbrev pub DiffersNowhere : (base : ℕ) → (lines : List (List ℕ)) → Edit → (name : List ℕ) → Type 0
DiffersNowhere base lines edit name =
    (k j : ℕ) → line_before_edit edit k ≡ Some j → is_equ (body_at (program_after lines edit) k) ≡ false → is_equ (body_at (program_of lines) j) ≡ false
    → differs_in_name base (program_of lines) (program_after lines edit) k j name ≡ false

-- what gives an address gives one that is so much greater
abbrev pub moved_by : (shift : ℤ) → Entry → Entry
moved_by shift entry = and_then entry (λ address. Ok (address +ℤ shift))

-- a mark says what is true of a label by the address that it had and the one that it has
abbrev pub TellsAddress : (shift : ℤ) → Mark → (stood address : ℕ) → Type 0
TellsAddress shift Unknown stood address = ⊥
TellsAddress shift Same stood address = address ≡ stood
TellsAddress shift Moved stood address = pos address ≡ pos stood +ℤ shift
TellsAddress shift Changed stood address = Unit {0}

-- a symbol gives an address that is so much greater on each line, `.equ`s apart, or it gives none
abbrev pub MovesBy : (base : ℕ) → (lines : List (List ℕ)) → Edit → (shift : ℤ) → (name : List ℕ) → Type 0
MovesBy base lines edit shift name =
    (k j : ℕ) → line_before_edit edit k ≡ Some j → is_equ (body_at (program_after lines edit) k) ≡ false → is_equ (body_at (program_of lines) j) ≡ false
    → reference_of base (program_after lines edit) k name ≡ moved_by shift (reference_of base (program_of lines) j name)

-- a mark says what is true of a symbol, where the lines behind the edit moved so far
abbrev pub Tells : (base : ℕ) → (lines : List (List ℕ)) → Edit → (shift : ℤ) → Mark → (name : List ℕ) → Type 0
Tells base lines edit shift Unknown name = DiffersNowhere base lines edit name × MovesBy base lines edit shift name
Tells base lines edit shift Same name = DiffersNowhere base lines edit name
Tells base lines edit shift Moved name = MovesBy base lines edit shift name
Tells base lines edit shift Changed name = Unit {0}

-- the set has the true mark of each symbol
abbrev pub HasDiffering : (base : ℕ) → (lines : List (List ℕ)) → Edit → Marks → Type 0
HasDiffering base lines edit set = (name : List ℕ) → Tells base lines edit set.shift (mark_of set (bucket_of name)) name

-- `%pcrel_lo` of a symbol gives what it gave
abbrev pub IsSameLow : Before → (after : TextRows) → (name : List ℕ) → Type 0
IsSameLow before after name =
    low_of_symbol after.base (program_in after) name ≡ low_of_symbol (base_before before) (program_in before.symbols.text) name

-- it does so for each symbol that a set does not have. Without a set it does so where the symbol is defined before and after, or neither
-- before nor after.
abbrev pub HasLows : Before → (after : TextRows) → Option Marks → Type 0
HasLows before after (Some set) = (name : List ℕ) → has_bucket set (bucket_of name) ≡ false → IsSameLow before after name
HasLows before after None =
    (name : List ℕ) → is_defined (definition_of (program_in after) name) ≡ is_defined (definition_of (program_in before.symbols.text) name) → IsSameLow before after name

-- so it does for the names that a line uses: they are not in that set, or without one, in that of the symbols that differ, or it is one that
-- moved
abbrev pub HaveSameLows : UsedNames → (differing : Marks) → (lows : Option Marks) → Type 0
HaveSameLows used differing (Some lows) = IsOutside used lows
HaveSameLows used differing None = IsMoved used differing ⊎ IsOutside used differing

-- a line that has nothing of this mask is not due unless it is new: it uses no name of the sets, nor what is not compared, nor its own address,
-- but that where no line moved
pub record HasDueMask (set : Marks) (lows : Option Marks) (still : Bool) (wanted : Mask) : Type 0 where
  pub names : (bucket : ℕ) → has_bucket set bucket ≡ true → has_name wanted bucket ≡ true
  pub of_lows : (others : Marks) → lows ≡ Some others → (bucket : ℕ) → has_bucket others bucket ≡ true → has_name wanted bucket ≡ true
  pub uncompared : has_kind wanted Uncompared ≡ true
  pub addressed : still ≡ false → has_kind wanted Addressed ≡ true

-- a line has bytes where it stood before an edit, and the high half that it had there
pub record HasSameHigh (before : Before) (after : TextRows) (stood line : ℕ) : Type 0 where
  pub bytes : (size_at (program_in before.symbols.text) stood == 0) ≡ false
  pub high : high_at after.base (program_in after) line ≡ high_at (base_before before) (program_in before.symbols.text) stood

-- a line that uses one name alone moved as far as the lines after the edit, and so did what the name gives
pub record MovedTogether (before after : TextRows) (set : Marks) (used : UsedNames) (stood line : ℕ) : Type 0 where
  pub moved : IsMoved used set
  pub rises : pos (address_in_text after line) ≡ pos (address_in_text before stood) +ℤ set.shift
