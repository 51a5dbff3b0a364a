-- Names that a statement defines keep their numbers when more names get one.
use Rattle.std.proofs.Common.{◌≡◌, ℕ, List, [], ◌∷◌, sym, subst}
use Rattle.rv_stmt.specs.LabelNames.{Label, LabelName, Symbol, Local}
use Rattle.rv_program.specs.internal.Defining.{IsLabelNumbered, AreLabelsNumbered}
use Rattle.rv_program.specs.internal.Rows.{Grows}
use Rattle.rv_program.specs.lemmas.NameRows.{grows-trans, number-grown}

label-grown : (old new : List (List ℕ)) (name : LabelName) → Grows old new → IsLabelNumbered old name → IsLabelNumbered new name
label-grown old new (Symbol symbol) grows has = number-grown old new symbol grows has
label-grown old new (Local number) grows has = tt

pub labels-grown : (old new : List (List ℕ)) (ls : List Label) → Grows old new → AreLabelsNumbered old ls → AreLabelsNumbered new ls
labels-grown old new [] grows are = tt
labels-grown old new (l ∷ ls) grows are = (label-grown old new l.name grows are.0, labels-grown old new ls grows are.1)

-- the next label has a number
pub next-numbered : (old new : List (List ℕ)) (left later all : List Label) (l : Label) → Grows old new → left ≡ l ∷ later → IsLabelNumbered new l.name → ((more : List (List ℕ)) → Grows old more → AreLabelsNumbered more left → AreLabelsNumbered more all)
    → (more : List (List ℕ)) → Grows new more → AreLabelsNumbered more later → AreLabelsNumbered more all
next-numbered old new left later all l grows is here numbered more further rest =
    numbered more (grows-trans old new more grows further) (subst (AreLabelsNumbered more) (sym is) (label-grown new more l.name further here, rest))
