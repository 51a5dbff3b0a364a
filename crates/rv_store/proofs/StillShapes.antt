-- Lines that stay where they were, since an edit moves none.
use Rattle.std.proofs.Common.{◌≡◌, ℕ, suc, ◌-◌, ◌≤◌, ◌==◌, false, not, List, length, Some, None, arith, ap, sym, ◌∙◌}
use Rattle.std.proofs.lemmas.Bool.{eq-eqb, or_from, not_from_true}
use Rattle.rv_layout.specs.declared.measured.Measured.{Measured}
use Rattle.rv_layout.specs.Places.{section_of, address_of}
use Rattle.rv_list.specs.declared.view.LinePlace.{LinePlace}
use Rattle.rv_program.specs.Changes.{differs_in_place}
use Rattle.rv_program.specs.Edits.{line_before_edit}
use Rattle.rv_program.specs.Layout.{section_at, address_at}
use Rattle.rv_program.specs.Program.{program_of}
use Rattle.rv_program.specs.Sameness.{same_section}
use Rattle.rv_program.specs.Text.{Edit, Insert, Delete, Replace, refusal_of}
use Rattle.rv_program.specs.internal.Rows.{AreShapes}
use Rattle.rv_program.specs.lemmas.SamenessLaws.{same_section-Decides}
use Rattle.rv_program.specs.internal.EditedRows.{HasPlace, edited_row}
use Rattle.rv_store.specs.internal.Ends.{place_by_shapes}
use Rattle.rv_store.specs.internal.Unmoved.{AreUnmoved}
use Rattle.rv_program.specs.lemmas.EarlierLines.{has_place}
use Rattle.rv_program.specs.lemmas.TextLines.{length_of_shapes}
use Rattle.rv_store.proofs.Unmoved.{place-stood}

pub has-as_many : {A B : Type 0} (xs : List A) (ys : List B) (edit : Edit) → length xs ≡ length ys → HasPlace ys edit → HasPlace xs edit
has-as_many xs ys (Insert place line) count has = (has.0, omega (arith, has.1, count))
has-as_many xs ys (Delete place) count has = (has.0, omega (arith, has.1, count))
has-as_many xs ys (Replace place line) count has = (has.0, omega (arith, has.1, count))

-- an edit that is not refused has its place in the row of shapes
pub shapes-place : (old : List (List ℕ)) (edit : Edit) (shapes : List Measured) → refusal_of old edit ≡ None → AreShapes (program_of old) shapes → HasPlace shapes edit
shapes-place old edit shapes allowed are = has-as_many shapes old edit (length_of_shapes old shapes are) (has_place old edit allowed)

module _ (base : ℕ) (old lines : List (List ℕ)) (edit : Edit) (before after : List Measured) (are_before : AreShapes (program_of old) before) (are_after : AreShapes (program_of lines) after) where
  same-place : (line stood : ℕ) → place_by_shapes base after line ≡ place_by_shapes base before stood → differs_in_place base (program_of old) (program_of lines) line stood ≡ false
  same-place line stood same =
      let address : address_at base (program_of lines) line ≡ address_at base (program_of old) stood =
      ap (λ ms. address_of base ms line) (sym are_after) ∙ ap (λ (p : LinePlace). p.address) same ∙ ap (λ ms. address_of base ms stood) are_before in
      let section : section_at (program_of lines) line ≡ section_at (program_of old) stood =
      ap (λ ms. section_of ms line) (sym are_after) ∙ ap (λ (p : LinePlace). p.section) same ∙ ap (λ ms. section_of ms stood) are_before in
      or_from (not (address_at base (program_of lines) line == address_at base (program_of old) stood)) (not (same_section (section_at (program_of lines) line) (section_at (program_of old) stood)))
      (not_from_true _ (eq-eqb (address_at base (program_of lines) line) (address_at base (program_of old) stood) address))
      (not_from_true _ ((same_section-Decides (section_at (program_of lines) line) (section_at (program_of old) stood)).1 section))

  pub still-unmoved : (line stood : ℕ) → refusal_of old edit ≡ None → AreUnmoved before edit after → 1 ≤ line → line_before_edit edit line ≡ Some stood → differs_in_place base (program_of old) (program_of lines) line stood ≡ false
  still-unmoved line stood allowed unmoved first stands =
      let next : suc (line - 1) ≡ line = omega (arith, first) in
      let lay = place-stood base before edit unmoved.shape (line - 1) stood unmoved.none (shapes-place old edit before allowed are_before) (ap (line_before_edit edit) next ∙ stands) in
      same-place line stood (ap (λ ms. place_by_shapes base ms line) unmoved.shapes ∙ ap (place_by_shapes base (edited_row before edit unmoved.shape)) (sym next) ∙ lay)
