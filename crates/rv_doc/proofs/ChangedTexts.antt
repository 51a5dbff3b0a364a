-- The text after the changes of a message, one after another.
use Rattle.std.proofs.Common.{◌≡◌, ℕ, List, ◌∷◌, map, Option, Some, None, refl, ap, ◌∙◌}
use Rattle.std.specs.Option.{option_map}
use Rattle.serde_json.specs.Data.{Data}
use Rattle.rv_doc.specs.declared.encoding.Encoding.{Encoding}
use Rattle.rv_doc.specs.Edits.{Change, text_after, text_after_all}
use Rattle.rv_doc.specs.Changes.{both, change_of, changes_of}

-- the changes behind the first one are made in the text that it leaves
later_changes : (e : Encoding) (document : List ℕ) (change : Change) (later : Option (List Change)) → option_map (text_after_all e (text_after e document change)) later ≡ option_map (text_after_all e document) (both (λ change changes. change ∷ changes) (Some change) later)
later_changes e document change None = refl
later_changes e document change (Some changes) = refl

-- the first change is made, and then the others
pub next_change : {A : Type 0} (view : A → Data) (e : Encoding) (document new : List ℕ) (values : List A) (first : A) (later : List A) (change : Change) → first ∷ later ≡ values → Some change ≡ change_of (view first) → new ≡ text_after e document change → option_map (text_after_all e new) (changes_of (map view later)) ≡ option_map (text_after_all e document) (changes_of (map view values))
next_change view e document new values first later change whole is said =
    ap (λ t. option_map (text_after_all e t) (changes_of (map view later))) said
    ∙ later_changes e document change (changes_of (map view later))
    ∙ ap (λ c. option_map (text_after_all e document) (both (λ change changes. change ∷ changes) c (changes_of (map view later)))) is
    ∙ ap (λ l. option_map (text_after_all e document) (changes_of (map view l))) whole
