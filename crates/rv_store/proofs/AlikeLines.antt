-- When a line defines the same as another one.
use Rattle.std.proofs.Common.{◌≡◌, true, false, not, List, [], ◌∷◌, Option, Some, None, true≢false, ap, sym, ◌∙◌, refl}
use Rattle.std.specs.Option.{is_some}
use Rattle.std.proofs.lemmas.Bool.{eqb-true, and_parts, not-true}
use Rattle.rv_ops.specs.NameLaws.{bytes_eq-true}
use Rattle.rv_stmt.specs.declared.statement.Stmt.{Stmt}
use Rattle.rv_stmt.specs.LabelNames.{Label, LabelName, Symbol, Local}
use Rattle.rv_program.specs.declared.brief.Brief.{Brief}
use Rattle.rv_store.specs.internal.Alike.{same_name, same_labels, label_names}
use Rattle.rv_program.specs.internal.Briefs.{brief_of}
use Rattle.rv_program.specs.Pairs.{pcrel_high_of}
use Rattle.rv_program.specs.lemmas.Lists.{no-items}

-- Labels

same_name-true : (name other : LabelName) → same_name name other ≡ true → name ≡ other
same_name-true (Symbol symbol) (Symbol other) h = ap Symbol (bytes_eq-true symbol other h)
same_name-true (Local number) (Local other) h = ap Local (eqb-true number other h)
same_name-true (Symbol symbol) (Local number) h = absurd (true≢false (sym h))
same_name-true (Local number) (Symbol symbol) h = absurd (true≢false (sym h))

pub same_labels-true : (ls ms : List Label) → same_labels ls ms ≡ true → label_names ls ≡ label_names ms
same_labels-true [] [] h = refl
same_labels-true [] (m ∷ ms) h = absurd (true≢false (sym h))
same_labels-true (l ∷ ls) [] h = absurd (true≢false (sym h))
same_labels-true (l ∷ ls) (m ∷ ms) h =
    let parts = and_parts (same_name l.name m.name) (same_labels ls ms) h in
    λ i. same_name-true l.name m.name parts.0 i ∷ same_labels-true ls ms parts.1 i

-- What a brief says

none : {A : Type 0} (o : Option A) → is_some o ≡ false → o ≡ None
none None h = refl
none (Some x) h = absurd (true≢false h)

pub no_high : (s : Stmt) (b : Brief) → b ≡ brief_of s → b.pcrel_high ≡ false → pcrel_high_of s.body ≡ None
no_high s b is high = none (pcrel_high_of s.body) (sym (ap (λ b. b.pcrel_high) is) ∙ high)

no_labels : (s : Stmt) (b : Brief) → b ≡ brief_of s → b.labels ≡ false → s.labels ≡ []
no_labels s b is h = no-items s.labels (sym (ap (λ b. b.labels) is) ∙ h)

-- lines that both have no high half
pub highs-none : (s t : Stmt) (before after : Brief) → before ≡ brief_of s → after ≡ brief_of t → not before.pcrel_high ≡ true → not after.pcrel_high ≡ true → pcrel_high_of t.body ≡ pcrel_high_of s.body
highs-none s t before after is_before is_after none_before none_after =
    no_high t after is_after (not-true after.pcrel_high none_after) ∙ sym (no_high s before is_before (not-true before.pcrel_high none_before))

-- lines that both have no labels
pub labels-none : (s t : Stmt) (before after : Brief) → before ≡ brief_of s → after ≡ brief_of t → not before.labels ≡ true → not after.labels ≡ true → label_names t.labels ≡ label_names s.labels
labels-none s t before after is_before is_after none_before none_after =
    ap label_names (no_labels t after is_after (not-true after.labels none_after) ∙ sym (no_labels s before is_before (not-true before.labels none_before)))
