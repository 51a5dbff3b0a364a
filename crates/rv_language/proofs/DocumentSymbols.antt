-- Symbols of a document that are written one after another.
use Rattle.std.proofs.Common.{◌≡◌, ℕ, ◌+◌, List, ◌∷◌, ◌++◌, ap, sym, ◌∙◌, append_assoc}
use Rattle.json.specs.Token.{Token}
use Rattle.rv_doc.specs.declared.encoding.Encoding.{Encoding}
use Rattle.rv_list.specs.Joined.{joined}
use Rattle.rv_list.specs.JoinedLaws.{joined_more}
use Rattle.rv_list.specs.Shown.{Shown}
use Rattle.rv_stmt.specs.LabelNames.{Label}
use Rattle.rv_language.specs.DocumentSymbols.{label_symbols, labels_symbols}

-- the next label of a line
pub next_label : (e : Encoding) (shown : Shown) (number : ℕ) (text : List ℕ) (index : ℕ) (labels later : List Label) (label : Label) (m m' : List Token) → labels ≡ label ∷ later → m' ≡ m ++ label_symbols e shown number text index label.span label.name → m' ++ labels_symbols e shown number text (index + 1) later ≡ m ++ labels_symbols e shown number text index labels
next_label e shown number text index labels later label m m' are said =
    rw (are, said) (append_assoc m (label_symbols e shown number text index label.span label.name) (labels_symbols e shown number text (index + 1) later))

-- the next line
pub next_joined : {A : Type 0} (f : ℕ → List A) (k : ℕ) (start m m' : List A) → m ≡ start ++ joined f k → m' ≡ m ++ f k → m' ≡ start ++ joined f (k + 1)
next_joined f k start m m' before said =
    said ∙ ap (λ x. x ++ f k) before ∙ append_assoc start (joined f k) (f k) ∙ ap (λ x. start ++ x) (sym (joined_more f k))
