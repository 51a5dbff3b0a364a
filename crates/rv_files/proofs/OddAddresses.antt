-- The faults that have a report of their own.
use Rattle.std.proofs.Common.{◌≡◌, ℕ, zero, suc, ◌+◌, ◌≤◌, ◌==◌, Bool, true, false, List, [], ◌∷◌, length, map, Option, Some, if◌then◌else◌, refl, ap, ◌∙◌, arith}
use Rattle.std.proofs.lemmas.List.{length-append, length-map}
use Rattle.std.specs.List.{flat_map}
use Rattle.rv_text.specs.declared.faults.Fault.{Fault}
use Rattle.rv_text.specs.declared.faults.FaultNumber.{FaultNumber}
use Rattle.rv_text.specs.declared.faults.FaultNumber.TheVariants.{OddAddress}
use Rattle.rv_stmt.specs.declared.section.Sect.{Sect}
use Rattle.rv_list.specs.Faults.{fault_row, faults_of}
use Rattle.rv_list.specs.Joined.{joined}
use Rattle.rv_list.specs.Shown.{Shown, ShownLine}
use Rattle.rv_store.specs.Shown.{shown_of}
use Rattle.rv_program.specs.Text.{Text}
use Rattle.rv_files.specs.declared.odd_addresses.Parity.{Parity}
use Rattle.rv_files.specs.declared.odd_addresses.Reported.{Reported}
use Rattle.rv_files.specs.OddAddresses.{odd_before, odd_behind, odd_report, one_reported, own_report, parities_of, report_by, reported_faults}
use Rattle.rv_files.specs.TextReports.{fault_count, report_count}

pub as_many_reported : (found : List (Option Reported)) (reported : List Reported) → found ≡ map (λ r. Some r) reported → length found ≡ length reported
as_many_reported found reported is = ap length is ∙ length-map reported (λ r. Some r)

-- a line without faults has none
pub none_reported_here : (shown : Shown) (number : ℕ) (line : ShownLine) → faults_of shown number line ≡ [] → reported_faults shown number line ≡ []
unfolding reported_faults
none_reported_here shown number line none =
    ap (flat_map (own_report (parities_of shown) number line.place.section)) none

-- those that were found are those
pub all_reported_found : (reported : List Reported) → flat_map one_reported (map (λ r. Some r) reported) ≡ reported
all_reported_found [] = refl
all_reported_found (r ∷ rs) = ap (λ l. r ∷ l) (all_reported_found rs)

-- No more reports than faults

few_odd : (lines : List Parity) (number : ℕ) (section : Sect) (fault : Fault) → length (odd_report lines number section fault) ≤ 1
few_odd lines number section fault = at (odd_before lines number section == 0)
  where
    at : (b : Bool) → length {A = Reported} (if b then record { fault = fault; more = odd_behind lines number section } ∷ [] else []) ≤ 1
    at true = omega arith
    at false = omega arith

few_by : (n : FaultNumber) (lines : List Parity) (number : ℕ) (section : Sect) (fault : Fault) → length (report_by n lines number section fault) ≤ 1
few_by OddAddress lines number section fault = few_odd lines number section fault
few_by n lines number section fault = omega arith

few_here : (lines : List Parity) (number : ℕ) (section : Sect) (faults : List Fault) → length (flat_map (own_report lines number section) faults) ≤ length faults
few_here lines number section [] = omega arith
few_here lines number section (f ∷ fs) =
    omega (arith, few_by f.number lines number section f, few_here lines number section fs, length-append (own_report lines number section f) (flat_map (own_report lines number section) fs))

fewer : {A B : Type 0} (f : ℕ → List A) (g : ℕ → List B) (n : ℕ) → ((k : ℕ) → length (f k) ≤ length (g k)) → length (joined f n) ≤ length (joined g n)
fewer f g zero few = omega arith
fewer f g (suc n) few =
    omega (arith, length-append (joined f n) (f n), length-append (joined g n) (g n), fewer f g n few, few n)

pub no_more_reports : (text : Text) → report_count text ≤ fault_count text
unfolding reported_faults
no_more_reports text =
    let shown = shown_of text in
    fewer
    (λ k. reported_faults shown (k + 1) (shown.line (k + 1)))
    (λ k. map (fault_row (k + 1)) (faults_of shown (k + 1) (shown.line (k + 1))))
    shown.count
    (λ k. omega (arith, few_here (parities_of shown) (k + 1) (shown.line (k + 1)).place.section (faults_of shown (k + 1) (shown.line (k + 1))), length-map (faults_of shown (k + 1) (shown.line (k + 1))) (fault_row (k + 1))))
