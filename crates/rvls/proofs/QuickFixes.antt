-- Lines that are right after a change.
use Rattle.std.proofs.Common.{◌≡◌, ℕ, true, List, map, ap, sym, ◌∙◌}
use Rattle.std.specs.Prelude.{Option, Some, ◌&&◌}
use Rattle.std.specs.List.{list_all}
use Rattle.std.proofs.lemmas.List.Folds.{list_all-map}
use Rattle.rv_text.specs.declared.faults.Fault.{Fault}
use Rattle.rv_list.specs.Faults.{faults_of}
use Rattle.rv_list.specs.Shown.{Shown, ShownLine}
use Rattle.rvls.specs.QuickFixes.{is_right_line, is_statement, may_stay}

-- A statement whose faults, as they are found, may all stay makes a right line.
pub right_line : (shown : Shown) (number at : ℕ) (line : ShownLine) (faults : List (Option Fault)) → is_statement line.stmt.body ≡ true → faults ≡ map (λ f. Some f) (faults_of shown number line) → list_all (may_stay line.text at) faults ≡ is_right_line shown number at line
right_line shown number at line faults is found =
    ap (list_all (may_stay line.text at)) found
    ∙ list_all-map (may_stay line.text at) (λ f. Some f) (faults_of shown number line)
    ∙ ap (λ b. b && list_all (λ fault. may_stay line.text at (Some fault)) (faults_of shown number line)) (sym is)
