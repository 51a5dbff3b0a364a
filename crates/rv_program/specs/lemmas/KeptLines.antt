-- A line that an edit does not invalidate has the shape, the values and the code that it had.
use Rattle.std.proofs.Common.{◌≡◌, ℕ, ◌≤◌, Bool, true, false, not, ◌==◌, ◌&&◌, ◌||◌, List, length, Option, Some, None, Ok, pos, true≢false, arith, ap, sym, subst, ◌∙◌, refl}
use Rattle.std.specs.List.{list_any}
use Rattle.std.proofs.lemmas.Bool.{eqb-true, not-false, or_parts}
use Rattle.rv_stmt.specs.declared.statement.Body.{Body}
use Rattle.rv_stmt.specs.declared.statement.Body.TheVariants as body
use Rattle.rv_stmt.specs.Statement.{operands_of}
use Rattle.rv_layout.specs.Places.{IsLimited}
use Rattle.rv_layout.specs.Sections.{is_code}
use Rattle.rv_layout.specs.ShapeLaws.{limited}
use Rattle.rv_layout.specs.Shapes.{shape_of}
use Rattle.rv_program.specs.declared.line_values.LineValues.TheVariants.{Operands, Padding}
use Rattle.rv_program.specs.Changes.{program_after, is_new_or, differs_in_name, differs_in_place, differs_in_uses, is_invalidated}
use Rattle.rv_program.specs.Codes.{values_of_body, values_by_shape, values_at, code_by_values}
use Rattle.rv_program.specs.Constants.{constant_of}
use Rattle.rv_program.specs.Edits.{line_before_edit}
use Rattle.rv_program.specs.Kept.{IsKept}
use Rattle.rv_program.specs.Layout.{shape_at, section_at, address_at}
use Rattle.rv_program.specs.Pairs.{names_at}
use Rattle.rv_program.specs.Program.{Program, program_of, body_at}
use Rattle.rv_program.specs.References.{reference_of}
use Rattle.rv_program.specs.Sameness.{same_section, same_constant, same_entry}
use Rattle.rv_program.specs.Text.{Edit, refusal_of, lines_after}
use Rattle.rv_program.specs.Uses.{names_used, uses_address, uses_local_label, uses_paired_high, is_equ}
use Rattle.rv_program.specs.lemmas.Alignments.{size_at-follows}
use Rattle.rv_program.specs.lemmas.EarlierLines.{Stood, stood, statement-stood}
use Rattle.rv_program.specs.lemmas.Programs.{length-program}
use Rattle.rv_program.specs.lemmas.SamenessLaws.{same_section-Decides, same_constant-Decides, same_entry-Decides}
use Rattle.rv_program.specs.lemmas.UsedConstants.{shape-follows}
use Rattle.rv_program.specs.lemmas.UsedValues.{entries-follow}

-- a line that is not new, and does not differ from the line that it was
pub not_new : (differs_from : ℕ → Bool) (before : Option ℕ) → is_new_or differs_from before ≡ false → (j : ℕ) × (before ≡ Some j) × (differs_from j ≡ false)
not_new differs_from None h = absurd (true≢false h)
not_new differs_from (Some j) h = (j, refl, h)

module _ (base : ℕ) (before after : Program) (k j : ℕ) where
  -- what a line with this body uses is the same on both lines
  pub record UsesSame (b : Body) : Type 0 where
    pub names : list_any (differs_in_name base before after k j) (names_used b) ≡ false
    pub place : uses_address b ≡ true → (address_at base after k ≡ address_at base before j) × (section_at after k ≡ section_at before j)
    pub local : uses_local_label b ≡ false
    pub paired_high : uses_paired_high b ≡ false
    pub equ : is_equ b ≡ false

  pub same_name : (name : List ℕ) → differs_in_name base before after k j name ≡ false → (reference_of base after k name ≡ reference_of base before j name) × (constant_of after k name ≡ constant_of before j name)
  same_name name h =
      let parts = or_parts (not (same_entry (reference_of base after k name) (reference_of base before j name))) (not (same_constant (constant_of after k name) (constant_of before j name))) h in
      ((same_entry-Decides _ _).0 (not-false _ parts.0), (same_constant-Decides _ _).0 (not-false _ parts.1))

  same_place : differs_in_place base before after k j ≡ false → (address_at base after k ≡ address_at base before j) × (section_at after k ≡ section_at before j)
  same_place h =
      let parts = or_parts (not (address_at base after k == address_at base before j)) (not (same_section (section_at after k) (section_at before j))) h in
      (eqb-true _ _ (not-false _ parts.0), (same_section-Decides _ _).0 (not-false _ parts.1))

  place-used : (used : Bool) → (used && differs_in_place base before after k j) ≡ false → used ≡ true → (address_at base after k ≡ address_at base before j) × (section_at after k ≡ section_at before j)
  place-used true h is = same_place h
  place-used false h is = absurd (true≢false (sym is))

  pub uses-same : (b : Body) → differs_in_uses base before after k j b ≡ false → UsesSame b
  uses-same b h =
      let names = list_any (differs_in_name base before after k j) (names_used b) in
      let place = uses_address b && differs_in_place base before after k j in
      let all = or_parts (names || place || uses_local_label b || uses_paired_high b) (is_equ b) h in
      let most = or_parts (names || place || uses_local_label b) (uses_paired_high b) all.0 in
      let some = or_parts (names || place) (uses_local_label b) most.0 in
      let few = or_parts names place some.0 in
      record { names = few.0; place = place-used (uses_address b) few.1; local = some.1; paired_high = most.1; equ = all.1 }

  shape-kept : (b : Body) → UsesSame b → shape_of (constant_of after k) b ≡ shape_of (constant_of before j) b
  shape-kept b uses =
      shape-follows (differs_in_name base before after k j) (constant_of after k) (constant_of before j) (λ name h. (same_name name h).1) b uses.names

  module _ (first : 1 ≤ k) (last : k ≤ length after) (first' : 1 ≤ j) (last' : j ≤ length before) (shape : shape_at after k ≡ shape_at before j) where
    values_of_body-kept : (b : Body) → body_at before j ≡ b → UsesSame b → values_of_body base after k b ≡ values_of_body base before j b
    values_of_body-kept (body.Align d) is uses =
        let place = uses.place refl in
        let few : IsLimited (shape_at before j) = subst IsLimited (sym (ap (shape_of (constant_of before j)) is)) (limited (constant_of before j) (body.Align d) (omega arith)) in
        let size = size_at-follows base after before k j first last first' last' few shape place.1 place.0 in
        λ i. Padding (is_code (place.1 i)) (size i)
    values_of_body-kept (body.Equ d) is uses = absurd (true≢false uses.equ)
    values_of_body-kept b is uses =
        ap Operands
        (entries-follow (differs_in_name base before after k j) (names_at base after k) (names_at base before j) (address_at base after k) (address_at base before j)
        (λ name h. (same_name name h).0) (ap (λ a. Ok (pos a))) (operands_of b) uses.names (λ h. (uses.place h).0) uses.local uses.paired_high)

-- a line that is not invalidated
pub kept : (base : ℕ) (lines : List (List ℕ)) (edit : Edit) (k : ℕ) → refusal_of lines edit ≡ None → 1 ≤ k → k ≤ length (lines_after lines edit) → is_invalidated base lines edit k ≡ false → IsKept base lines edit k
kept base lines edit k allowed first last h =
    let before : Program = program_of lines in
    let after : Program = program_after lines edit in
    let (j, is, same) = not_new (λ j. differs_in_uses base before after k j (body_at after k)) (line_before_edit edit k) h in
    let there : Stood lines edit k j = stood lines edit k j allowed first last is in
    let body : body_at after k ≡ body_at before j = ap (λ s. s.body) (statement-stood lines edit k j first last there) in
    let uses = uses-same base before after k j (body_at after k) same in
    let shape : shape_at after k ≡ shape_at before j = shape-kept base before after k j (body_at after k) uses ∙ ap (shape_of (constant_of before j)) body in
    let last' : k ≤ length after = omega (arith, last, length-program (lines_after lines edit)) in
    let stood' : j ≤ length before = omega (arith, there.last, length-program lines) in
    let of_body : values_of_body base after k (body_at after k) ≡ values_of_body base before j (body_at before j) =
    values_of_body-kept base before after k j first last' there.first stood' shape (body_at after k) (sym body) uses
    ∙ ap (values_of_body base before j) body in
    let values : values_at base after k ≡ values_at base before j = λ i. values_by_shape (shape i) (of_body i) in
    record {
      line = j;
      before = is;
      shape = shape;
      values = values;
      code = λ i. code_by_values (shape i) (body i) (values i);
    }
