-- The diagnostics of a document that are published: of its lines past a limit, of the faults of its text, and of the warnings about it;
-- where these are too many, those nearest to a line, and one more that says how many are left out.
use Rattle.std.specs.Prelude.{ℕ, ℤ, codes, ◌+◌, ◌-◌, ◌==◌, min, nat_lt, not, Bool, true, false, List, [], ◌∷◌, ◌++◌, length, map, take, drop, filter, Option, Some, None, if◌then◌else◌}
use Rattle.std.specs.List.{flat_map}
use Rattle.std.specs.Fmt.{signed_decimal}
use Rattle.json.specs.Print.{print}
use Rattle.json.specs.Token.{Token, begin_object, end_object, begin_array, end_array, key, number as number_token}
use Rattle.rv_text.specs.declared.faults.Fault.{Fault}
use Rattle.rv_text.specs.declared.lexeme.TheConstants.{MAX_LINE_LENGTH}
use Rattle.rv_expr.specs.Value.{Environment}
use Rattle.rv_fix.specs.Values.{operand_values_of}
use Rattle.rv_list.specs.Faults.{faults_of}
use Rattle.rv_list.specs.Joined.{joined}
use Rattle.rv_list.specs.Shown.{Shown, ShownLine, from_lines}
use Rattle.rv_report.specs.Lines.{Line}
use Rattle.rv_report.specs.Warnings.{Warning, warning_of}
use Rattle.rv_report.specs.Words.{Words}
use Rattle.rv_doc.specs.declared.encoding.Encoding.{Encoding}
use Rattle.rv_program.specs.declared.limits.TheConstants.{MAX_LINES}
use Rattle.rv_files.specs.Words.{searched_words}
use Rattle.rv_diagnostics.specs.Diagnostics.{fault_diagnostic, long_line, many_lines, more_diagnostics, warning_diagnostic}
use Rattle.rv_diagnostics.specs.declared.publishing.TheConstants.{MOST}
use Rattle.rv_doc.specs.declared.window.Window.{Window}
use Rattle.rv_diagnostics.specs.Json.{frame, message, string_member}
use Rattle.rv_doc.specs.Windows.{nearest, windowed}

-- what the lines before a place give, with their numbers, one after another
abbrev pub from_first : {A : Type 0} → Shown → (at : ℕ) → (ℕ → ShownLine → List A) → List A
from_first shown at f = joined (λ k. f (k + 1) (shown.line (k + 1))) (min at shown.count)

-- some diagnostics, one after another, those of them that a window shows
abbrev pub shown_in : Window → List (List Token) → List Token
shown_in window diagnostics = flat_map (λ tokens. tokens) (windowed window diagnostics)

-- Faults

abbrev pub fault_count : Shown → ℕ
fault_count shown = length (from_lines shown (faults_of shown))

-- how many stand before a line, by its number from 0 on
abbrev pub faults_before : Shown → (at : ℕ) → ℕ
faults_before shown at = length (from_first shown at (faults_of shown))

-- the words among which a name is looked for that may be meant, where a text has so many faults
abbrev pub words_with : Shown → (faults : ℕ) → Words
words_with shown faults = searched_words shown (min faults MOST)

-- a line with what its messages may name; `given` is what names give on a line, by its number, where `.` is an address
abbrev pub faulty_line : (given : ℕ → ℕ → Environment) → Words → (number : ℕ) → ShownLine → Line
faulty_line given words number line = record {
  number = number;
  text = line.text;
  stmt = line.stmt;
  address = line.place.address;
  values = operand_values_of (given number line.place.address) line.place.address line.stmt.body;
  words = words;
}

-- the diagnostic of a fault of a line
unfoldable pub line_diagnostic : Encoding → (uri : List ℕ) → (given : ℕ → ℕ → Environment) → Shown → Words → (number : ℕ) → ShownLine → Fault → List Token
line_diagnostic encoding uri given shown words number line =
    fault_diagnostic encoding uri (given number line.place.address) shown (faulty_line given words number line)

-- the diagnostics of a line, one for each fault
unfoldable pub line_diagnostics : Encoding → (uri : List ℕ) → (given : ℕ → ℕ → Environment) → Shown → Words → (number : ℕ) → ShownLine → List (List Token)
line_diagnostics encoding uri given shown words number line =
    map (line_diagnostic encoding uri given shown words number line) (faults_of shown number line)

-- those of a text
abbrev pub all_diagnostics : Encoding → (uri : List ℕ) → (given : ℕ → ℕ → Environment) → Shown → Words → List (List Token)
all_diagnostics encoding uri given shown words = from_lines shown (line_diagnostics encoding uri given shown words)

-- Warnings

abbrev pub optional : {A : Type 0} → Option A → List A
optional None = []
optional (Some x) = x ∷ []

-- the warning about a line, if there is one
abbrev pub warnings_about : Shown → (number : ℕ) → ShownLine → List Warning
warnings_about shown number line = optional (warning_of shown line.stmt.body)

abbrev pub warning_count : Shown → ℕ
warning_count shown = length (from_lines shown (warnings_about shown))

abbrev pub warnings_before : Shown → (at : ℕ) → ℕ
warnings_before shown at = length (from_first shown at (warnings_about shown))

-- its diagnostic
unfoldable pub warning_diagnostics : Encoding → Shown → (number : ℕ) → ShownLine → List (List Token)
warning_diagnostics encoding shown number line =
    map (warning_diagnostic encoding number line.text) (warnings_about shown number line)

-- that of each warning about a text
abbrev pub all_warnings : Encoding → Shown → List (List Token)
all_warnings encoding shown = from_lines shown (warning_diagnostics encoding shown)

-- Limits

abbrev pub is_long : (line : List ℕ) → Bool
is_long line = nat_lt MAX_LINE_LENGTH (length line)

abbrev pub long_count : (lines : List (List ℕ)) → ℕ
long_count lines = length (filter is_long lines)

-- the diagnostics of the lines that are too long, the first of the lines having this number
abbrev pub long_lines : Encoding → (number : ℕ) → (lines : List (List ℕ)) → List (List Token)
long_lines encoding number [] = []
long_lines encoding number (line ∷ lines) =
    (if is_long line then long_line encoding number line ∷ [] else []) ++ long_lines encoding (number + 1) lines

-- What stands behind some line breaks is a line or more; behind the last one it is a line if it is not empty.
abbrev pub are_lines : (lines : List (List ℕ)) → Bool
are_lines [] = false
are_lines (line ∷ []) = not (length line == 0)
are_lines (line ∷ (later ∷ lines)) = true

-- that of the lines behind those that a text may have, if there are any
abbrev pub too_many : (lines : List (List ℕ)) → List Token
too_many lines = if are_lines (drop MAX_LINES lines) then many_lines else []

-- All

-- the diagnostics of the lines that are too long, at most so many as are shown
abbrev pub some_long : Encoding → (lines : List (List ℕ)) → (at : ℕ) → List Token
some_long encoding lines at =
    shown_in (nearest MOST (long_count (take at (take MAX_LINES lines))) (long_count (take MAX_LINES lines))) (long_lines encoding 0 (take MAX_LINES lines))

-- those of the faults, at most so many
abbrev pub fault_diagnostics : Encoding → (uri : List ℕ) → (given : ℕ → ℕ → Environment) → Shown → (most at : ℕ) → List Token
fault_diagnostics encoding uri given shown most at =
    shown_in (nearest most (faults_before shown at) (fault_count shown)) (all_diagnostics encoding uri given shown (words_with shown (fault_count shown)))

-- those of the warnings, at most so many
abbrev pub some_warnings : Encoding → Shown → (most at : ℕ) → List Token
some_warnings encoding shown most at =
    shown_in (nearest most (warnings_before shown at) (warning_count shown)) (all_warnings encoding shown)

-- How grave are those that are not shown, of so many faults and lines that are too long: 1 where one of these is among them, and 2 where all are
-- warnings, since warnings are shown last.
abbrev pub gravest_left_out : (faults : ℕ) → ℕ
gravest_left_out faults = if nat_lt MOST faults then 1 else 2

-- how many of so many faults, lines that are too long among them, and warnings are not shown, if there are any
abbrev pub left_out : (faults warnings at : ℕ) → List Token
left_out faults warnings at =
    if nat_lt MOST (faults + warnings) then more_diagnostics at (gravest_left_out faults) (faults + warnings - MOST) else []

-- The diagnostics of a document, by its lines and by what is shown of it and given in it as a text: all of them, or those that are nearest to
-- a line, by its number from 0 on, where there are more than are shown.
unfoldable pub diagnostics_of : Encoding → (uri : List ℕ) → (given : ℕ → ℕ → Environment) → Shown → (lines : List (List ℕ)) → (at : ℕ) → List Token
diagnostics_of encoding uri given shown lines at =
    too_many lines
    ++ (some_long encoding lines at
    ++ (fault_diagnostics encoding uri given shown (MOST - long_count (take MAX_LINES lines)) at
    ++ (some_warnings encoding shown (MOST - long_count (take MAX_LINES lines) - fault_count shown) at
    ++ left_out (long_count (take MAX_LINES lines) + fault_count shown) (warning_count shown) at)))

-- Messages

-- the version of a document, if it has one
abbrev pub version_member : Option ℤ → List Token
version_member None = []
version_member (Some version) = key (codes "version") ∷ (number_token (signed_decimal version) ∷ [])

-- what the message says before the diagnostics
unfoldable pub publication_head : (uri : List ℕ) → (version : Option ℤ) → List Token
publication_head uri version =
    string_member (codes "method") (codes "textDocument/publishDiagnostics")
    ++ (key (codes "params") ∷ (begin_object ∷ (string_member (codes "uri") uri
    ++ (version_member version ++ (key (codes "diagnostics") ∷ (begin_array ∷ []))))))

-- the message with these diagnostics of a document, in its frame
abbrev pub publication : (uri : List ℕ) → (version : Option ℤ) → (diagnostics : List Token) → List ℕ
publication uri version diagnostics =
    frame (print (message (publication_head uri version ++ (diagnostics ++ (end_array ∷ (end_object ∷ []))))))
