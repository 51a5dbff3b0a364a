-- Labels behind others in a list.
use Rattle.std.proofs.Common.{◌≡◌, ℕ, ◌+◌, ◌≤◌, List, [], ◌∷◌, ◌++◌, suc, length, drop, append-nil, sym, ap, ◌∙◌, refl, arith}
use Rattle.std.proofs.lemmas.List.{nil_from_length, take-append-le, drop-append-le, length-append, length-drop, take_all}
use Rattle.rv_text.specs.declared.lexeme.Span.{Span}
use Rattle.rv_stmt.specs.declared.label_list.Entry.{Entry}
use Rattle.rv_stmt.specs.declared.label_list.EntryName.{EntryName}
use Rattle.rv_stmt.specs.declared.label_list.EntryName.TheVariants as entry
use Rattle.rv_stmt.specs.LabelEntries.{first_name, labels_of, name_length, names_length}
use Rattle.rv_stmt.specs.LabelNames.{Symbol, Local}

-- what an entry defines does not depend on later names
same_first_name : (names more : List ℕ) (name : EntryName) → name_length name ≤ length names → first_name (names ++ more) name ≡ first_name names name
same_first_name names more (entry.Symbol n) h = ap Symbol (take-append-le n names more h)
same_first_name names more (entry.Local number) h = refl

labels_of-append : (names more : List ℕ) (es fs : List Entry) → names_length es ≡ length names → labels_of (names ++ more) (es ++ fs) ≡ labels_of names es ++ labels_of more fs
labels_of-append names more [] fs h = ap (λ ns. labels_of (ns ++ more) fs) (nil_from_length names (sym h))
labels_of-append names more (e ∷ es) fs h =
    let within : name_length e.name ≤ length names = omega arith in
    let left : names_length es ≡ length (drop (name_length e.name) names) = rw length-drop (omega arith) in
    let first : first_name (names ++ more) e.name ≡ first_name names e.name = same_first_name names more e.name within in
    let later : labels_of (drop (name_length e.name) (names ++ more)) (es ++ fs) ≡ labels_of (drop (name_length e.name) names) es ++ labels_of more fs =
    ap (λ ns. labels_of ns (es ++ fs)) (drop-append-le (name_length e.name) names more within)
    ∙ labels_of-append (drop (name_length e.name) names) more es fs left in
    ap (λ name. record { name = name; span = e.span } ∷ labels_of (drop (name_length e.name) (names ++ more)) (es ++ fs)) first
    ∙ ap (λ ls. record { name = first_name names e.name; span = e.span } ∷ ls) later

pub length-labels_of : (names : List ℕ) (es : List Entry) → length (labels_of names es) ≡ length es
length-labels_of names [] = refl
length-labels_of names (e ∷ es) = ap suc (length-labels_of (drop (name_length e.name) names) es)

names_length-append : (es fs : List Entry) → names_length (es ++ fs) ≡ names_length es + names_length fs
names_length-append [] fs = omega arith
names_length-append (e ∷ es) fs = let later = names_length-append es fs in omega arith

module _ (names : List ℕ) (es : List Entry) (h : names_length es ≡ length names) (span : Span) where
  -- a symbol at the end
  module _ (name : List ℕ) (n : ℕ) (k : n ≡ length name) where
    pub labels_of-symbol : labels_of (names ++ name) (es ++ record { name = entry.Symbol n; span = span } ∷ []) ≡ labels_of names es ++ record { name = Symbol name; span = span } ∷ []
    labels_of-symbol =
        labels_of-append names name es (record { name = entry.Symbol n; span = span } ∷ []) h
        ∙ ap (λ text. labels_of names es ++ record { name = Symbol text; span = span } ∷ []) (take_all n name (omega arith))

    pub names_length-symbol : names_length (es ++ record { name = entry.Symbol n; span = span } ∷ []) ≡ length (names ++ name)
    names_length-symbol =
        let left = names_length-append es (record { name = entry.Symbol n; span = span } ∷ []) in
        rw length-append (omega arith)

  -- a local label at the end
  module _ (number : ℕ) where
    pub labels_of-local : labels_of names (es ++ record { name = entry.Local number; span = span } ∷ []) ≡ labels_of names es ++ record { name = Local number; span = span } ∷ []
    labels_of-local =
        ap (λ ns. labels_of ns (es ++ record { name = entry.Local number; span = span } ∷ [])) (sym (append-nil names))
        ∙ labels_of-append names [] es (record { name = entry.Local number; span = span } ∷ []) h

    pub names_length-local : names_length (es ++ record { name = entry.Local number; span = span } ∷ []) ≡ length names
    names_length-local =
        let left = names_length-append es (record { name = entry.Local number; span = span } ∷ []) in
        omega arith
