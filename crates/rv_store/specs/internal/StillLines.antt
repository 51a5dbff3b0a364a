-- A line with which other lines have to do by its names and its local labels alone, and the rows of a text that get it in place.
use Rattle.std.specs.Prelude.{◌≡◌, ℕ, suc, ◌+◌, ◌-◌, ◌<◌, ◌≤◌, ◌⊎◌, nat_lt, ◌&&◌, Bool, true, false, List, [], ◌∷◌, ◌++◌, length, get_or, Option, Some, None}
use Rattle.std.specs.Option.{option_map}
use Rattle.rv_stmt.specs.Statement.{statement_of}
use Rattle.rv_layout.specs.Places.{IsLimited}
use Rattle.rv_layout.specs.Sections.{section_number}
use Rattle.rv_store.specs.declared.last_line.LastLine.{LastLine}
use Rattle.rv_store.specs.declared.still.FormerLine.{FormerLine}
use Rattle.rv_store.specs.declared.still.Still.{Still}
use Rattle.rv_store.specs.declared.survey.Survey.{Survey}
use Rattle.rv_store.specs.internal.Appended.{StayEqus, IsUnsettled, AreSymbols}
use Rattle.rv_store.specs.internal.Ends.{ends_of}
use Rattle.rv_store.specs.internal.Still.{Touched, is_put_or_uses, IsStill}
use Rattle.rv_program.specs.Layout.{shape_at, shapes_of, place_at}
use Rattle.rv_program.specs.Program.{program_of, lines_that}
use Rattle.rv_program.specs.References.{among_local}
use Rattle.rv_program.specs.internal.Locals.{lines_with, with_last, lines_below}
use Rattle.rv_program.specs.internal.Still.{set_or_push}
use Rattle.rv_program.specs.internal.Work.{high_operands}
use Rattle.rv_store.specs.internal.Waiting.{KeepsHighs, AreBare}

-- the section of the high half that it adds, if it adds one
abbrev pub high_section : Still → Option ℕ
high_section given = option_map (λ first. section_number given.place.section) given.waiting

-- What line k of a text is, if other lines have to do with it by its names and its local labels alone, and which lines of the text before it
-- are due: line k, and those that use one of these. It defines a name that the text does not, and is behind it, or it touches no name.
pub record IsStillLine (base : ℕ) (lines : List (List ℕ)) (k : ℕ) (line : List ℕ) (given : Still) (due : List ℕ) : Type 0 where
  pub touched : Touched
  pub still : IsStill base (program_of lines) (program_of (set_or_push lines (k - 1) line)) k touched
  pub shape : given.shape ≡ shape_at (program_of (set_or_push lines (k - 1) line)) k
  pub limited : IsLimited given.shape
  pub ends : given.ends ≡ ends_of (shapes_of (program_of (set_or_push lines (k - 1) line)))
  pub place : given.place ≡ place_at base (program_of (set_or_push lines (k - 1) line)) k
  pub nothing : given.defines ≡ false → (name : List ℕ) → touched.names name ≡ false
  pub last : given.defines ≡ true → (k ≡ suc (length lines)) × StayEqus base lines line
  pub highs : KeepsHighs base (program_of lines) (program_of (set_or_push lines (k - 1) line)) k (high_section given)
  pub waiting : (first : ℕ) → given.waiting ≡ Some first → (AreBare (program_of lines) (section_number given.place.section) first) × (high_operands (statement_of line).body ≡ 1)
  pub those : due ≡ lines_that (is_put_or_uses touched (program_of lines) k) (length lines)

-- the last line of a text, if no other line has to do with it
pub record IsLastLine (base : ℕ) (text : List (List ℕ)) (given : LastLine) : Type 0 where
  pub lines : List (List ℕ)
  pub line : List ℕ
  pub there : Still
  pub whole : text ≡ lines ++ line ∷ []
  pub still : IsStillLine base lines (length lines + 1) line there []
  pub plain : there.waiting ≡ None
  pub before : given.before ≡ ends_of (shapes_of (program_of lines))
  pub defines : given.defines ≡ there.defines
  pub local : (number : ℕ) → among_local number (statement_of line).labels ≡ false

-- Rows by lines

-- a place is behind the lines, and a line there has the local label
abbrev pub is_behind_with : Survey → (place : ℕ) (line : List ℕ) (number : ℕ) → Bool
is_behind_with s place line number = nat_lt (length s.lines.items) (suc place) && among_local number (statement_of line).labels

-- they have a line in place
pub record AreLinesPut (place : ℕ) (line : List ℕ) (given : Still) (old new : Survey) : Type 0 where
  pub lines : new.lines.items ≡ set_or_push old.lines.items place line
  pub shapes : new.shapes.items ≡ set_or_push old.shapes.items place given.shape
  pub ends : new.ends ≡ given.ends
  pub places : new.places.items ≡ set_or_push old.places.items place given.place
  pub locals : (number : ℕ) → lines_with new.locals number ≡ with_last (suc place) (is_behind_with old place line number) (lines_with old.locals number)
  pub highs : new.highs.items ≡ old.highs.items

-- a row is another one, or that with something in place
abbrev pub MayBePut : {A : Type 0} → (place : ℕ) → (old new : List A) → Type 0
MayBePut {A} place old new = (new ≡ old) ⊎ ((a : A) × (new ≡ set_or_push old place a))

-- the other rows by lines changed in nothing
pub record StayButLocals (old new : Survey) : Type 0 where
  pub lines : new.lines.items ≡ old.lines.items
  pub shapes : new.shapes.items ≡ old.shapes.items
  pub places : new.places.items ≡ old.places.items
  pub highs : new.highs.items ≡ old.highs.items

-- the rows of local labels may have a line behind the lines
pub record MayHaveLast (place : ℕ) (old new : Survey) : Type 0 where
  pub within : place < length old.lines.items → (number : ℕ) → lines_with new.locals number ≡ lines_with old.locals number
  pub behind : length old.lines.items ≤ place → (number : ℕ) → lines_below (suc place) (lines_with new.locals number) ≡ lines_with old.locals number

-- some of the rows have a line in place
pub record ArePartlyPut (place : ℕ) (old new : Survey) : Type 0 where
  pub lines : MayBePut place old.lines.items new.lines.items
  pub shapes : MayBePut place old.shapes.items new.shapes.items
  pub places : MayBePut place old.places.items new.places.items
  pub locals : MayHaveLast place old new
  pub highs : new.highs.items ≡ old.highs.items

-- what stands at a place of a row, if it does not end there
abbrev pub IsAt : {A : Type 0} → List A → (place : ℕ) → Option A → Type 0
IsAt row place None = length row ≡ place
IsAt row place (Some a) = (place < length row) × (a ≡ get_or row place a)

pub record IsFormerLine (place : ℕ) (s : Survey) (former : FormerLine) : Type 0 where
  pub line : IsAt s.lines.items place former.line
  pub shape : IsAt s.shapes.items place former.shape
  pub lies : IsAt s.places.items place former.place
  pub ends : former.ends ≡ s.ends

-- Rows by names

-- they are those of the text, or wait for the names that its last line defines
pub record MayWait (base : ℕ) (names : List (List ℕ)) (line : List ℕ) (defines : Bool) (s : Survey) : Type 0 where
  pub whole : defines ≡ false → AreSymbols base (program_of s.lines.items) (length s.lines.items) names s
  pub waits : defines ≡ true → (lines : List (List ℕ)) × IsUnsettled base lines names line s
