-- One step along the labels of a line.
use Rattle.std.proofs.Common.{◌≡◌, ℕ, ◌+◌, ◌-◌, ◌≤◌, List, [], ◌∷◌, ◌++◌, length, drop, zero, suc, option_and_then, codes, if◌then◌else◌, append_assoc, Option, Some, None, refl, sym, ap, ◌∙◌, arith}
use Rattle.std.proofs.lemmas.List.{drop-drop, length-drop}
use Rattle.std.proofs.lemmas.Option.{none-some}
use Rattle.std.specs.List.{slice_get}
use Rattle.rv_text.specs.Lexing.{SpelledToken}
use Rattle.rv_stmt.specs.LabelNames.{Label}
use Rattle.rv_stmt.specs.Labels.{labels_and_body, label_at, label_of_token, with_label}
use Rattle.rv_stmt.specs.Tokens.{is_punctuation_there}

slice_get-drop : {A : Type 0} (xs : List A) (k i : ℕ) → slice_get xs (k + i) ≡ slice_get (drop k xs) i
slice_get-drop xs zero i = let place : 0 + i ≡ i = omega arith in ap (slice_get xs) place
slice_get-drop [] (suc k) i = refl
slice_get-drop (x ∷ xs) (suc k) i =
    let place : suc k + i ≡ suc (k + i) = omega arith in
    ap (slice_get (x ∷ xs)) place ∙ slice_get-drop xs k i

-- the label of a token with another after it
abbrev label_of_two_tokens : Option SpelledToken → Option SpelledToken → Option Label
label_of_two_tokens first second =
    if is_punctuation_there (codes ":") second then option_and_then label_of_token first else None

label_at-drop : (ps : List SpelledToken) (k : ℕ) → label_at ps k ≡ label_at (drop k ps) 0
label_at-drop ps k =
    let second : slice_get ps (k + 1) ≡ slice_get (drop k ps) 1 = slice_get-drop ps k 1 in
    let place : k ≡ k + 0 = omega arith in
    let first : slice_get ps k ≡ slice_get (drop k ps) 0 = ap (slice_get ps) place ∙ slice_get-drop ps k 0 in
    ap (λ b. label_of_two_tokens (slice_get ps k) b) second ∙ ap (λ a. label_of_two_tokens a (slice_get (drop k ps) 1)) first

-- a label at the start: the others follow it and its `:`
record IsLabelled (ps : List SpelledToken) (label : Label) : Type 0 where
  labels : (labels_and_body ps).labels ≡ label ∷ (labels_and_body (drop 2 ps)).labels
  body : (labels_and_body ps).body ≡ (labels_and_body (drop 2 ps)).body
  within : 2 ≤ length ps

first_label : (ps : List SpelledToken) (label : Label) → label_at ps 0 ≡ Some label → IsLabelled ps label
first_label [] label h = absurd (none-some label h)
first_label (p ∷ []) label h = absurd (none-some label h)
first_label (p ∷ q ∷ ps) label h = record {
  labels = ap (λ l. (with_label l (p ∷ q ∷ ps) (labels_and_body ps)).labels) h;
  body = ap (λ l. (with_label l (p ∷ q ∷ ps) (labels_and_body ps)).body) h;
  within = omega arith;
}

no_first_label : (ps : List SpelledToken) → label_at ps 0 ≡ None → labels_and_body ps ≡ record { labels = []; body = ps }
no_first_label [] h = refl
no_first_label (p ∷ []) h = refl
no_first_label (p ∷ q ∷ ps) h = ap (λ l. with_label l (p ∷ q ∷ ps) (labels_and_body ps)) h

module _ (ps : List SpelledToken) (k : ℕ) where
  -- a label at a place: what follows it and its `:`
  module _ (label : Label) (h : label_at ps k ≡ Some label) where
    found : IsLabelled (drop k ps) label
    found = first_label (drop k ps) label (sym (label_at-drop ps k) ∙ h)

    pub one_label : (ls : List Label) → (ls ++ (label ∷ [])) ++ (labels_and_body (drop (k + 2) ps)).labels ≡ ls ++ (labels_and_body (drop k ps)).labels
    one_label ls =
        append_assoc ls (label ∷ []) (labels_and_body (drop (k + 2) ps)).labels
        ∙ ap (λ qs. ls ++ (label ∷ (labels_and_body qs).labels)) (sym (drop-drop 2 k ps))
        ∙ ap (λ more. ls ++ more) (sym found.labels)

    pub same_body : (labels_and_body (drop (k + 2) ps)).body ≡ (labels_and_body (drop k ps)).body
    same_body = ap (λ qs. (labels_and_body qs).body) (sym (drop-drop 2 k ps)) ∙ sym found.body

    pub two_more : k ≤ length ps → k + 2 ≤ length ps
    two_more within =
        let two : 2 ≤ length ps - k = rw length-drop at found.within in
        omega (arith, two)

  -- no label at a place: the body begins there
  module _ (h : label_at ps k ≡ None) where
    none : labels_and_body (drop k ps) ≡ record { labels = []; body = drop k ps }
    none = no_first_label (drop k ps) (sym (label_at-drop ps k) ∙ h)

    pub no_labels : (labels_and_body (drop k ps)).labels ≡ []
    no_labels = ap (λ l. l.labels) none

    pub body_here : (labels_and_body (drop k ps)).body ≡ drop k ps
    body_here = ap (λ l. l.body) none
