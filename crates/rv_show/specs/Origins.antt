-- Where the lines of a text come from: a preprocessor leaves marks that say it. (docs/FILES.md, Line marks)
use Rattle.std.specs.Prelude.{ℕ, ◌+◌, ◌-◌, nat_lt, List, map, None}
use Rattle.std.specs.List.{last_or, take_while}
use Rattle.std.specs.Option.{option_map_or}
use Rattle.rv_show.specs.declared.origins.LineMark.{LineMark}
use Rattle.rv_show.specs.declared.origins.Origin as declared
use Rattle.rv_show.specs.declared.page.Page.{Page}

-- a mark on a line: the line below it is this line of a file
pub record Mark : Type 0 where
  pub on : ℕ
  pub line : ℕ
  pub file : List ℕ

-- what a text is read from: a file, and the marks on its lines, in the order of these lines
pub record Source : Type 0 where
  pub file : List ℕ
  pub marks : List Mark

-- a line of a file
pub record Origin : Type 0 where
  pub file : List ℕ
  pub line : ℕ

-- a mark as a caller lends it
abbrev pub mark_of : LineMark → Mark
mark_of mark = record { on = mark.on; line = mark.line; file = mark.file.now }

-- the source of a page
abbrev pub source_of : Page → Source
source_of page = record { file = page.file.now; marks = map mark_of page.marks.now }

-- a line of a file as it is handed out
abbrev pub origin_seen : declared.Origin → Origin
origin_seen origin = record { file = origin.file.now; line = origin.line }

-- where a line comes from by a mark above it
abbrev pub origin_by : Mark → (line : ℕ) → Origin
origin_by mark line = record { file = mark.file; line = mark.line + (line - mark.on - 1) }

-- the marks above a line, up to the first that is not
abbrev pub marks_above : (line : ℕ) → List Mark → List Mark
marks_above line marks = take_while (λ mark. nat_lt mark.on line) marks

-- where a line of a source comes from: by the last mark above it, and from itself where there is none
abbrev pub origin_of : Source → (line : ℕ) → Origin
origin_of source line =
    option_map_or (λ mark. origin_by mark line) (last_or None (marks_above line source.marks)) (record { file = source.file; line = line })
