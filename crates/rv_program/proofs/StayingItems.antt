-- The items that an edit leaves as they are.
use Rattle.std.proofs.Common.{◌≡◌, ℕ, ◌≤◌, Bool, false, not, ◌||◌, List, length, Option, Some, None, is_some, Decides, ap, subst, sym, ◌∙◌, refl, []}
use Rattle.std.proofs.lemmas.Bool.{false≢true}
use Rattle.std.proofs.lemmas.Bool.Decides.{same_from_decides}
use Rattle.rv_layout.specs.declared.measured.Measured.{Measured}
use Rattle.rv_fix.specs.declared.coded.Coded.{Coded}
use Rattle.rv_program.specs.declared.item.Item.{Item}
use Rattle.rv_program.specs.declared.line_values.LineValues.{LineValues}
use Rattle.rv_program.specs.Changes.{program_after, is_new_or, differs_in_code, differs_in_values, is_reencoded, is_changed}
use Rattle.rv_program.specs.Codes.{values_at, code_at}
use Rattle.rv_program.specs.Edits.{line_before_edit}
use Rattle.rv_program.specs.Kept.{IsKept}
use Rattle.rv_program.specs.internal.Former.{IsFormer}
use Rattle.rv_program.specs.internal.Items.{IsItem}
use Rattle.rv_program.specs.Layout.{shape_at}
use Rattle.rv_program.specs.Program.{program_of}
use Rattle.rv_program.specs.Sameness.{same_shape, same_values, same_code}
use Rattle.rv_program.specs.Text.{Edit, refusal_of, lines_after}
use Rattle.rv_program.proofs.ChangeLaws.{kept-reencoded}
use Rattle.rv_program.specs.lemmas.EarlierLines.{stood}
use Rattle.rv_program.specs.lemmas.SamenessLaws.{same_values-Decides, same_code-Decides}

stood_somewhere : (o : Option ℕ) (none : Bool) → is_some o ≡ not none → none ≡ false → (j : ℕ) × (o ≡ Some j)
stood_somewhere None none test stands = absurd (false≢true (test ∙ ap not stands))
stood_somewhere (Some j) none test stands = (j, refl)

module _ (base : ℕ) (lines : List (List ℕ)) (edit : Edit) (k : ℕ) (item : Item) (former : IsFormer base lines edit k item) where
  -- a line that is not reencoded keeps its item
  pub stays : refusal_of lines edit ≡ None → 1 ≤ k → k ≤ length (lines_after lines edit) → is_reencoded base lines edit k ≡ false → IsItem base (lines_after lines edit) k item
  stays allowed first last h =
      let line : IsKept base lines edit k = kept-reencoded base lines edit k allowed first last h in
      let kept : IsItem base lines line.line item = former line.line line.before in
      let there = stood lines edit k line.line allowed first last line.before in
      record {
        line = kept.line ∙ sym (there.line []);
        shape = kept.shape ∙ sym line.shape;
        values = kept.values ∙ sym line.values;
        code = kept.code ∙ sym line.code;
      }

  -- the same in the text after the edit by another name
  pub stays_in : (base' : ℕ) (lines' : List (List ℕ)) → base' ≡ base → lines' ≡ lines_after lines edit → refusal_of lines edit ≡ None → 1 ≤ k → k ≤ length lines' → is_reencoded base lines edit k ≡ false → IsItem base' lines' k item
  stays_in base' lines' same_base same_lines allowed first last h =
      subst (λ b. IsItem b lines' k item) (sym same_base)
      (subst (λ ls. IsItem base ls k item) (sym same_lines) (stays allowed first (subst (λ ls. k ≤ length ls) same_lines last) h))

  -- whether a line that stood somewhere is reencoded, by its item
  pub stood-reencoded : (o : Option ℕ) (none : Bool) → o ≡ line_before_edit edit k → is_some o ≡ not none → none ≡ false → (values : LineValues) (shape : Measured) → values ≡ values_at base (program_after lines edit) k → shape ≡ shape_at (program_after lines edit) k → (same : Bool) → Decides same (values ≡ item.values) → (not same || not (same_shape shape item.shape)) ≡ is_reencoded base lines edit k
  stood-reencoded o none here test stands values shape are is same decides =
      let (j, at) = stood_somewhere o none test stands in
      let kept : IsItem base lines j item = former j (sym here ∙ at) in
      let tested : same ≡ same_values values item.values = same_from_decides _ _ decides (same_values-Decides values item.values) in
      (λ i. not (tested i) || not (same_shape shape item.shape))
      ∙ (λ i. not (same_values (are i) (kept.values i)) || not (same_shape (is i) (kept.shape i)))
      ∙ sym (ap (is_new_or (differs_in_values base (program_of lines) (program_after lines edit) k)) (sym here ∙ at))

  -- and whether it is changed
  pub stood-changed : (o : Option ℕ) (none : Bool) → o ≡ line_before_edit edit k → is_some o ≡ not none → none ≡ false → (code : Coded) → code ≡ code_at base (program_after lines edit) k → (same : Bool) → Decides same (code ≡ item.code) → not same ≡ is_changed base lines edit k
  stood-changed o none here test stands code is same decides =
      let (j, at) = stood_somewhere o none test stands in
      let kept : IsItem base lines j item = former j (sym here ∙ at) in
      let tested : same ≡ same_code code item.code = same_from_decides _ _ decides (same_code-Decides code item.code) in
      ap not tested
      ∙ (λ i. not (same_code (is i) (kept.code i)))
      ∙ sym (ap (is_new_or (differs_in_code base (program_of lines) (program_after lines edit) k)) (sym here ∙ at))
