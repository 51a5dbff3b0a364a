-- The lines of a text in order.
use Rattle.std.proofs.Common.{◌≡◌, ℕ, ◌+◌, [], ap, sym, ◌∙◌}
use Rattle.rv_list.specs.Faults.{faults_of}
use Rattle.rv_list.specs.Shown.{Shown, ShownLine}

-- the line that was passed last, where k lines were passed before it
pub passed_line : {now before shown : Shown} {passed n k : ℕ} {line : ShownLine} → line ≡ now.line passed → now ≡ before → before ≡ shown → passed ≡ n + 1 → n ≡ k → line ≡ shown.line (k + 1)
passed_line {now} {before} {shown} {passed} {n} {k} {line} is text same next count =
    is ∙ ap (λ (s : Shown). s.line passed) (text ∙ same) ∙ ap (λ i. shown.line i) (next ∙ ap (λ i. i + 1) count)

-- it has no faults
pub passed_quiet : {now before shown : Shown} {passed n k : ℕ} → faults_of now passed (now.line passed) ≡ [] → now ≡ before → before ≡ shown → passed ≡ n + 1 → n ≡ k → faults_of shown (k + 1) (shown.line (k + 1)) ≡ []
passed_quiet {now} {before} {shown} {passed} {n} {k} none text same next count =
    let shows : shown ≡ now = sym (text ∙ same) in
    let place : k + 1 ≡ passed = sym (next ∙ ap (λ i. i + 1) count) in
    (λ i. faults_of (shows i) (place i) ((shows i).line (place i))) ∙ none
