-- The reports of a text: those of the faults of all lines, and then those of the warnings about them. The first ones are shown, and how
-- many there are.
use Rattle.std.specs.Prelude.{ℕ, ◌+◌, min, Bool, List, [], ◌∷◌, ◌++◌, length, map, take, Option, Some, None, Result, Ok, Err, if◌then◌else◌}
use Rattle.std.specs.List.{concat}
use Rattle.rv_fix.specs.Values.{operand_values_of}
use Rattle.rv_list.specs.Faults.{fault_rows}
use Rattle.rv_list.specs.Shown.{Shown, ShownLine, from_lines}
use Rattle.rv_show.specs.declared.page.Style.{Style}
use Rattle.rv_show.specs.Origins.{Source}
use Rattle.rv_show.specs.Totals.{last_rows}
use Rattle.rv_report.specs.Lines.{Line}
use Rattle.rv_report.specs.Reports.{report_of, warning_report_of}
use Rattle.rv_report.specs.Warnings.{Warning, warning_of}
use Rattle.rv_report.specs.Words.{Words}
use Rattle.rv_store.specs.LinesOfTexts.{names_from}
use Rattle.rv_store.specs.Shown.{shown_of}
use Rattle.rv_program.specs.Text.{Text}
use Rattle.rv_files.specs.declared.report_error.ReportError.{ReportError}
use Rattle.rv_files.specs.declared.report_error.ReportError.TheVariants.{Write, Memory}
use Rattle.rv_files.specs.declared.odd_addresses.Reported.{Reported}
use Rattle.rv_files.specs.OddAddresses.{all_reported, reported_faults}
use Rattle.rv_files.specs.Words.{searched_words}

-- a line with what its reports may name
abbrev pub reported_line : Text → Words → (number : ℕ) → ShownLine → Line
reported_line text words number line = record {
  number = number;
  text = line.text;
  stmt = line.stmt;
  address = line.place.address;
  values = operand_values_of (names_from (record { text = text; line = number }) line.place.address) line.place.address line.stmt.body;
  words = words;
}

-- the report of a fault of a line
abbrev pub own_report_of : Style → Source → Text → Words → (number : ℕ) → ShownLine → Reported → List ℕ
own_report_of style source text words number line reported =
    report_of style source (names_from (record { text = text; line = number }) line.place.address) (shown_of text) (reported_line text words number line) reported.more reported.fault

-- the reports of a line, one for each fault that has one of its own
unfoldable pub line_reports : Style → Source → Text → Words → (number : ℕ) → ShownLine → List (List ℕ)
line_reports style source text words number line =
    map (own_report_of style source text words number line) (reported_faults (shown_of text) number line)

-- those of a text
abbrev pub all_reports : Style → Source → Text → Words → List (List ℕ)
all_reports style source text words = from_lines (shown_of text) (line_reports style source text words)

abbrev pub fault_count : Text → ℕ
fault_count text = length (fault_rows (shown_of text))

-- how many faults have a report
abbrev pub report_count : Text → ℕ
report_count text = length (all_reported (shown_of text))

-- Warnings

abbrev pub optional : {A : Type 0} → Option A → List A
optional None = []
optional (Some x) = x ∷ []

-- the warning about a line, if there is one
abbrev pub warnings_about : Shown → ShownLine → List Warning
warnings_about shown line = optional (warning_of shown line.stmt.body)

-- its report
unfoldable pub warning_reports : Style → Source → Shown → (number : ℕ) → ShownLine → List (List ℕ)
warning_reports style source shown number line =
    map (warning_report_of style source number line.text) (warnings_about shown line)

-- that of each warning about a text
abbrev pub all_warnings : Style → Source → Text → List (List ℕ)
all_warnings style source text = from_lines (shown_of text) (warning_reports style source (shown_of text))

abbrev pub warning_count : Text → ℕ
warning_count text = length (from_lines (shown_of text) (λ number line. warnings_about (shown_of text) line))

-- All

-- the reports of a text, where warnings are asked for or not
abbrev pub reports : Style → Source → Text → Words → (warns : Bool) → List (List ℕ)
reports style source text words warns =
    all_reports style source text words ++ (if warns then all_warnings style source text else [])

-- how many warnings there are, where they are asked for
abbrev pub asked_warnings : Text → (warns : Bool) → ℕ
asked_warnings text warns = if warns then warning_count text else 0

-- the first reports, and how many there are
unfoldable pub text_reports : Style → Source → Text → (most : ℕ) → (warns : Bool) → List ℕ
text_reports style source text most warns =
    concat (take most (reports style source text (searched_words (shown_of text) (min (report_count text) most)) warns))
    ++ last_rows source.file (fault_count text) (asked_warnings text warns) (report_count text + asked_warnings text warns) most

-- how many calls of a writer have failed after its reports
abbrev pub failures_by_report : {A : Type 0} → ℕ → Result A ReportError → ℕ
failures_by_report failures (Ok _) = failures
failures_by_report failures (Err Write) = failures + 1
failures_by_report failures (Err Memory) = failures
