-- Which faults have a report of their own. An odd number of bytes puts all instructions behind it at odd addresses: the first
-- of them is reported, for all.
use Rattle.std.specs.Prelude.{ℕ, ◌+◌, ◌-◌, ◌%◌, ◌==◌, List, [], ◌∷◌, take, drop, reverse, Option, Some, None, if◌then◌else◌}
use Rattle.std.specs.List.{flat_map}
use Rattle.rv_text.specs.declared.faults.Fault.{Fault}
use Rattle.rv_text.specs.declared.faults.FaultNumber.{FaultNumber}
use Rattle.rv_text.specs.declared.faults.FaultNumber.TheVariants.{OddAddress}
use Rattle.rv_stmt.specs.declared.section.Sect.{Sect}
use Rattle.rv_layout.specs.Sections.{section_number}
use Rattle.rv_list.specs.Faults.{faults_of, is_at_odd_address}
use Rattle.rv_list.specs.Shown.{Shown, ShownLine, from_lines}
use Rattle.rv_files.specs.declared.odd_addresses.Parity.{Parity}
use Rattle.rv_files.specs.declared.odd_addresses.Reported.{Reported}

-- how a line stands to odd addresses
abbrev pub parity_of : ShownLine → Parity
parity_of line = record {
  section = line.place.section;
  at_odd = is_at_odd_address line.stmt.body line.place;
  odd_size = line.place.size % 2 == 1;
}

abbrev pub parities_of : Shown → List Parity
parities_of shown = from_lines shown (λ number line. parity_of line ∷ [])

-- how many instructions of a section are at odd addresses, up to a line there with an odd number of bytes
abbrev pub odd_run : Sect → List Parity → ℕ
odd_run section [] = 0
odd_run section (p ∷ ps) =
    if section_number p.section == section_number section
    then (if p.odd_size then 0 else (if p.at_odd then odd_run section ps + 1 else odd_run section ps))
    else odd_run section ps

-- how many there are before and behind a line of a section that are at odd addresses for the same reason
abbrev pub odd_before : List Parity → (number : ℕ) → Sect → ℕ
odd_before lines number section = odd_run section (reverse (take (number - 1) lines))

abbrev pub odd_behind : List Parity → (number : ℕ) → Sect → ℕ
odd_behind lines number section = odd_run section (drop number lines)

-- the report of an instruction at an odd address, unless one before it has it
abbrev pub odd_report : List Parity → (number : ℕ) → Sect → Fault → List Reported
odd_report lines number section fault =
    if odd_before lines number section == 0
    then record { fault = fault; more = odd_behind lines number section } ∷ []
    else []

abbrev pub report_by : FaultNumber → List Parity → (number : ℕ) → Sect → Fault → List Reported
report_by OddAddress lines number section fault = odd_report lines number section fault
report_by n lines number section fault = record { fault = fault; more = 0 } ∷ []

-- the report of a fault on a line, if it has one
abbrev pub own_report : List Parity → (number : ℕ) → Sect → Fault → List Reported
own_report lines number section fault = report_by fault.number lines number section fault

-- the faults of a line that have one
unfoldable pub reported_faults : Shown → (number : ℕ) → ShownLine → List Reported
reported_faults shown number line =
    flat_map (own_report (parities_of shown) number line.place.section) (faults_of shown number line)

-- those of a text
abbrev pub all_reported : Shown → List Reported
all_reported shown = from_lines shown (reported_faults shown)

-- one that is there
abbrev pub one_reported : Option Reported → List Reported
one_reported None = []
one_reported (Some reported) = reported ∷ []
