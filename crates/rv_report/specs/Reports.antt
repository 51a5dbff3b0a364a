-- The rows that report a fault or a warning.
use Rattle.std.specs.Prelude.{ℕ, ◌==◌, List, [], ◌++◌, codes, decimal, if◌then◌else◌}
use Rattle.rv_text.specs.declared.faults.Fault.{Fault}
use Rattle.rv_text.specs.declared.faults.FaultNumber.{FaultNumber}
use Rattle.rv_text.specs.declared.faults.FaultNumber.TheVariants as faults
use Rattle.rv_expr.specs.Value.{Environment}
use Rattle.rv_list.specs.declared.view.DefinitionPlace.{DefinitionPlace}
use Rattle.rv_list.specs.declared.view.DefinitionPlace.TheVariants.{Nowhere, Label, Equ}
use Rattle.rv_list.specs.Faults.{fault_name}
use Rattle.rv_list.specs.Shown.{Shown}
use Rattle.rv_show.specs.declared.page.Gravity.TheVariants as gravity
use Rattle.rv_show.specs.declared.page.Style.{Style}
use Rattle.rv_show.specs.Characters.{shown_name}
use Rattle.rv_show.specs.Origins.{Origin, Source, origin_of}
use Rattle.rv_show.specs.Parts.{part}
use Rattle.rv_show.specs.Rows.{line_row, mark_row, message_row}
use Rattle.rv_show.specs.Totals.{amount_of}
use Rattle.rv_report.specs.Lines.{Line}
use Rattle.rv_report.specs.Messages.{message_of}
use Rattle.rv_report.specs.Warnings.{Warning, warning_message}

-- where the first definition of a name is
unfoldable pub note_at : Origin → List ℕ
note_at origin =
    shown_name 0 origin.file ++ (codes ":" ++ (decimal origin.line ++ codes ": note: the first definition is here\n"))

abbrev pub note_of : Source → DefinitionPlace → List ℕ
note_of source Nowhere = []
note_of source (Label line index) = note_at (origin_of source line)
note_of source (Equ line) = note_at (origin_of source line)

abbrev pub note_by : FaultNumber → Source → DefinitionPlace → List ℕ
note_by faults.Duplicate source place = note_of source place
note_by number source place = []

-- one instruction at an odd address is reported for so many more
unfoldable pub odd_note_at : Origin → (more : ℕ) → List ℕ
odd_note_at origin more =
    shown_name 0 origin.file ++ (codes ":" ++ (decimal origin.line ++ (codes ": note: and "
    ++ (amount_of (codes "more instruction") more ++ codes " after it, for the same reason\n"))))

abbrev pub odd_note_of : Origin → (more : ℕ) → List ℕ
odd_note_of origin more = if more == 0 then [] else odd_note_at origin more

abbrev pub odd_note_by : FaultNumber → Origin → (more : ℕ) → List ℕ
odd_note_by faults.OddAddress origin more = odd_note_of origin more
odd_note_by number origin more = []

-- the rows of a fault, with the place that its line comes from, and how many more instructions it is reported for
unfoldable pub report_of : Style → Source → Environment → Shown → Line → (more : ℕ) → Fault → List ℕ
report_of style source given shown line more fault =
    let origin = origin_of source line.number in
    message_row style origin fault.span.from gravity.Error (message_of given shown line fault) (fault_name fault.number)
    ++ (line_row origin.line line.text
    ++ (mark_row style origin.line line.text fault.span
    ++ (note_by fault.number source (shown.definition (part line.text fault.span))
    ++ odd_note_by fault.number origin more)))

-- the rows of a warning about a line
unfoldable pub warning_report_of : Style → Source → (number : ℕ) → (text : List ℕ) → Warning → List ℕ
warning_report_of style source number text warning =
    let origin = origin_of source number in
    message_row style origin warning.span.from gravity.Warning (warning_message warning.label) (codes "label-as-register")
    ++ (line_row origin.line text ++ mark_row style origin.line text warning.span)
