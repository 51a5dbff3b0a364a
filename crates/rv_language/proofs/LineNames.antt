-- Names of a line that are found one after another.
use Rattle.std.proofs.Common.{◌≡◌, ℕ, ◌+◌, List, [], ◌∷◌, ◌++◌, append_assoc}
use Rattle.rv_stmt.specs.LabelNames.{Label}
use Rattle.rv_language.specs.declared.names.NameSpan.{NameSpan}
use Rattle.rv_language.specs.declared.names.Standing.TheVariants as standing
use Rattle.rv_language.specs.LineNames.{label_names}

-- one more behind the last
pub one_more_name : (names more : List NameSpan) (name : NameSpan) → (names ++ name ∷ []) ++ more ≡ names ++ name ∷ more
one_more_name names more name = append_assoc names (name ∷ []) more

-- the next label
pub next_label : (index : ℕ) (labels later : List Label) (label : Label) (names names' : List NameSpan) → labels ≡ label ∷ later → names' ≡ names ++ record { span = label.span; standing = standing.Label index } ∷ [] → names' ++ label_names (index + 1) later ≡ names ++ label_names index labels
next_label index labels later label names names' are added =
    rw (are, added) (append_assoc names (record { span = label.span; standing = standing.Label index } ∷ []) (label_names (index + 1) later))
