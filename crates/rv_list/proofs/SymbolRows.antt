-- The rows of the labels of a line.
use Rattle.std.proofs.Common.{◌≡◌, ℕ, ◌+◌, List, ◌∷◌, ◌++◌, ap, ◌∙◌}
use Rattle.std.proofs.lemmas.List.Folds.{concat-append}
use Rattle.std.specs.List.{concat}
use Rattle.std.specs.Prelude.{Option}
use Rattle.rv_text.specs.Streams.{WritesPrefix}
use Rattle.rv_text.specs.Blocks.{Waits}
use Rattle.rv_stmt.specs.LabelNames.{Label}
use Rattle.rv_list.specs.Shown.{Shown}
use Rattle.rv_list.specs.Symbols.{label_symbols, labels_symbols}
use Rattle.rv_text.specs.Halfway.{Halfway, halfway_next, halfway_lost}

-- the rows of the first label, and those of the others
text_next : (shown : Shown) (line address index : ℕ) (ls later : List Label) (l : Label) → ls ≡ l ∷ later → concat (labels_symbols shown line address index ls) ≡ concat (label_symbols shown line address index l.name) ++ concat (labels_symbols shown line address (index + 1) later)
text_next shown line address index ls later l e =
    ap (λ xs. concat (labels_symbols shown line address index xs)) e
    ∙ concat-append (label_symbols shown line address index l.name) (labels_symbols shown line address (index + 1) later)

-- a write fails within the rows of the first label
pub lost_label : (shown : Shown) (line address index : ℕ) (ls later : List Label) (l : Label) (t0 t1 t2 : Option (List ℕ)) (p0 p1 text : List ℕ) → ls ≡ l ∷ later → Halfway t0 p0 t1 p1 text (concat (labels_symbols shown line address index ls)) → WritesPrefix t1 (p1 ++ concat (label_symbols shown line address index l.name)) t2 → WritesPrefix t0 (p0 ++ text) t2
lost_label shown line address index ls later l t0 t1 t2 p0 p1 text e h w =
    halfway_lost t0 t1 t2 p0 p1 text (concat (label_symbols shown line address index l.name)) (concat (labels_symbols shown line address (index + 1) later)) (rw (text_next shown line address index ls later l e) at h) w

-- they are gathered
pub gathered_label : (shown : Shown) (line address index : ℕ) (ls later : List Label) (l : Label) (t0 t1 t2 : Option (List ℕ)) (p0 p1 p2 text : List ℕ) → ls ≡ l ∷ later → Halfway t0 p0 t1 p1 text (concat (labels_symbols shown line address index ls)) → Waits t1 p1 (concat (label_symbols shown line address index l.name)) t2 p2 → Halfway t0 p0 t2 p2 text (concat (labels_symbols shown line address (index + 1) later))
gathered_label shown line address index ls later l t0 t1 t2 p0 p1 p2 text e h w =
    halfway_next t0 t1 t2 p0 p1 p2 text (concat (label_symbols shown line address index l.name)) (concat (labels_symbols shown line address (index + 1) later)) (rw (text_next shown line address index ls later l e) at h) w
