-- The shapes of the lines of a text after an edit, line by line from those before it.
use Rattle.std.proofs.Common.{◌≡◌, ℕ, suc, ℤ, ◌+◌, ◌-◌, ◌<◌, ◌≤◌, Bool, true, false, ◌&&◌, List, [], ◌∷◌, ◌++◌, length, get_or, set, drop, Option, Some, None, arith, ap, sym, ◌∙◌, refl}
use Rattle.std.specs.List.{list_any}
use Rattle.std.proofs.Math.Seq.{get_or-append_seam, set-append_seam}
use Rattle.std.proofs.lemmas.List.{append-nil, append_assoc, drop_all, drop_more, length-append, length-drop}
use Rattle.std.proofs.lemmas.List.Edits.{get_or-insert_at}
use Rattle.std.proofs.lemmas.List.{get_or-set_same}
use Rattle.rv_stmt.specs.declared.directive.Definition.{Definition}
use Rattle.rv_stmt.specs.declared.statement.Body.{Body}
use Rattle.rv_stmt.specs.declared.statement.Body.TheVariants.{Equ as EquBody}
use Rattle.rv_stmt.specs.Statement.{statement_of}
use Rattle.rv_layout.specs.declared.measured.Measured.{Measured}
use Rattle.rv_layout.specs.declared.measured.Measured.TheVariants.{Nothing}
use Rattle.rv_program.specs.declared.before.Before.{Before}
use Rattle.rv_program.specs.internal.Before.{IsBefore, lines_before, edit_on}
use Rattle.rv_program.specs.internal.EditedRows.{HasPlace, edited_row}
use Rattle.rv_program.specs.Constants.{constant_through, constant_of}
use Rattle.rv_program.specs.Edits.{line_before_edit, place_of_edit}
use Rattle.rv_store.specs.internal.EditedRows.{shape_or, former_shape, shapes_through}
use Rattle.rv_program.specs.Layout.{shape_at}
use Rattle.rv_program.specs.internal.NewShapes.{IsNewShape}
use Rattle.rv_program.specs.Program.{Program, program_of, body_at, for_lines}
use Rattle.rv_program.specs.internal.Rows.{AreConstants}
use Rattle.rv_program.specs.Text.{Edit, Insert, Delete, Replace, lines_after}
use Rattle.rv_program.specs.Uses.{names_used, is_sized, is_equ, uses_symbols}
use Rattle.rv_program.specs.lemmas.ConstantRows.{constants-kept}
use Rattle.rv_program.specs.lemmas.EarlierLines.{has_place, length-edited, edited-at, count-after}
use Rattle.rv_program.specs.lemmas.KeptShapes.{body-on, differs_from, shape-before, shape-stays}
use Rattle.rv_program.specs.lemmas.NewShapeLaws.{deleted-stood, new-place, shape-at_place}
use Rattle.rv_program.specs.lemmas.TextLines.{length_of_shapes}
use Rattle.rv_program.specs.lemmas.Programs.{length-for_lines}

-- That of the line that the edit puts in

pub former-new : {A B : Type 0} (ms : List A) (lines : List B) (edit : Edit) (shape other : A) → length ms ≡ length lines → HasPlace lines edit → line_before_edit edit (place_of_edit edit) ≡ None → get_or (edited_row ms edit shape) (place_of_edit edit - 1) other ≡ shape
former-new ms lines (Insert place line) shape other count has new = get_or-insert_at ms (place - 1) shape other (omega (arith, has.0, has.1, count))
former-new ms lines (Delete place) shape other count has new = absurd (deleted-stood place new)
former-new ms lines (Replace place line) shape other count has new = get_or-set_same ms (place - 1) shape other (omega (arith, has.0, has.1, count))

-- Lines without a part in the constants

neither_part : (a b t : Bool) → (a && b) ≡ false → (a && (b && t)) ≡ false
neither_part false b t h = refl
neither_part true b t h = ap (λ c. c && t) h

module _ (before : Before) (is : IsBefore before) where
  pub shape_count : length before.shapes.now ≡ length (lines_before before)
  shape_count = length_of_shapes (lines_before before) before.shapes.now is.shapes

  pub place : HasPlace (lines_before before) (edit_on before)
  place = has_place (lines_before before) (edit_on before) is.allowed

module _ (before : Before) (is : IsBefore before) (lines : List (List ℕ)) (after : lines ≡ lines_after (lines_before before) (edit_on before)) (shape : Measured) where
  abbrev pub former : List Measured
  former = edited_row before.shapes.now (edit_on before) shape

  pub former-length : length former ≡ length lines
  former-length =
      length-edited before.shapes.now (lines_before before) (edit_on before) shape (shape_count before is) (place before is)
      ∙ sym (ap length after ∙ count-after (lines_before before) (edit_on before) (place before is))

  pub former-stood : (i j : ℕ) (other : Measured) → i < length lines → line_before_edit (edit_on before) (i + 1) ≡ Some j → get_or former i other ≡ shape_at (program_of (lines_before before)) j
  former-stood i j other within stood =
      let back : i ≡ i + 1 - 1 = omega arith in
      ap (λ n. get_or former n other) back
      ∙ edited-at before.shapes.now (lines_before before) (edit_on before) shape (i + 1) j other (shape_count before is) (place before is) (omega arith) stood
      ∙ shape-before before is lines after i j within stood other

  module _ (new : IsNewShape (lines_before before) (edit_on before) shape) where
    pub former-here : (i : ℕ) (other : Measured) → line_before_edit (edit_on before) (i + 1) ≡ None → get_or former i other ≡ shape_at (program_of lines) (i + 1)
    former-here i other none =
        let here : i + 1 ≡ place_of_edit (edit_on before) = new-place (edit_on before) (i + 1) none in
        let at : i ≡ place_of_edit (edit_on before) - 1 = omega (arith, here) in
        let there = ap (line_before_edit (edit_on before)) (sym here) ∙ none in
        ap (λ n. get_or former n other) at
        ∙ former-new before.shapes.now (lines_before before) (edit_on before) shape other (shape_count before is) (place before is) there
        ∙ shape-at_place (lines_before before) (edit_on before) shape is.allowed new there
        ∙ (λ n. shape_at (program_of (sym after n)) (sym here n))

    -- what stands there before the loop over the lines
    pub former-is : (i : ℕ) (other : Measured) → i < length lines → get_or former i other ≡ former_shape (program_of (lines_before before)) (program_of lines) (edit_on before) (i + 1)
    former-is i other within = at (line_before_edit (edit_on before) (i + 1)) refl
      where
        at : (stood : Option ℕ) → line_before_edit (edit_on before) (i + 1) ≡ stood → get_or former i other ≡ shape_or (shape_at (program_of lines) (i + 1)) (shape_at (program_of (lines_before before))) stood
        at None h = former-here i other h
        at (Some j) h = former-stood i j other within h

    pub former-stays : (i : ℕ) (text : List ℕ) (other : Measured) → i < length lines → text ≡ get_or lines i text → (is_sized (statement_of text).body && uses_symbols (statement_of text).body) ≡ false → get_or former i other ≡ shape_at (program_of lines) (i + 1)
    former-stays i text other within read apart = at (line_before_edit (edit_on before) (i + 1)) refl
      where
        body : Body
        body = (statement_of text).body

        program : Program
        program = program_of lines

        at : (stood : Option ℕ) → line_before_edit (edit_on before) (i + 1) ≡ stood → get_or former i other ≡ shape_at program (i + 1)
        at None h = former-here i other h
        at (Some j) h =
            let differs = λ (name : List ℕ). differs_from (program_of (lines_before before)) j (constant_of program (i + 1)) name in
            let same : (is_sized body && (uses_symbols body && list_any differs (names_used body))) ≡ false =
            neither_part (is_sized body) (uses_symbols body) (list_any differs (names_used body)) apart in
            former-stood i j other within h
            ∙ sym (shape-stays before is lines after i j within h (constant_of program (i + 1)) refl body (body-on lines i text within read) same)

-- a line without an `.equ` leaves the constants
not-equ : (body : Body) (d : Definition) → is_equ body ≡ false → body ≡ EquBody d → ⊥
not-equ body d apart is = absurd (let wrong : false ≡ true = sym apart ∙ ap is_equ is in cc)

pub constants-stay : (lines : List (List ℕ)) (i : ℕ) (text : List ℕ) (names : List (List ℕ)) (row : List (Option ℤ)) → i < length lines → text ≡ get_or lines i text → is_equ (statement_of text).body ≡ false → AreConstants (program_of lines) i names row → AreConstants (program_of lines) (i + 1) names row
constants-stay lines i text names row within read apart are =
    let program : Program = program_of lines in
    let next : suc i ≡ i + 1 = omega arith in
    let here : (statement_of text).body ≡ body_at program (suc i) = body-on lines i text within read ∙ ap (body_at program) (sym next) in
    record {
      each = are.each
          ∙ sym (constants-kept program i (λ d is. absurd (not-equ (statement_of text).body d apart (here ∙ is))))
          ∙ ap (constant_through program) next;
      within = are.within;
    }

-- The row, line by line

module _ (program : Program) (former : List Measured) where
  pub through-length : (i : ℕ) → i ≤ length former → length (shapes_through program former i) ≡ length former
  through-length i within =
      let parts = length-append (for_lines (shape_at program) i) (drop i former) in
      let first = length-for_lines (shape_at program) i in
      let rest = length-drop i former in
      omega (arith, parts, first, rest, within)

  split : (i : ℕ) (other : Measured) → i < length former → shapes_through program former i ≡ for_lines (shape_at program) i ++ get_or former i other ∷ drop (i + 1) former
  split i other within = ap (λ rest. for_lines (shape_at program) i ++ rest) (drop_more former i other within)

  -- what stands at the place of the next line
  pub through-here : (i : ℕ) (other : Measured) → i < length former → get_or (shapes_through program former i) i other ≡ get_or former i other
  through-here i other within =
      let count = length-for_lines (shape_at program) i in
      ap (λ row. get_or row i other) (split i other within)
      ∙ ap (λ k. get_or (for_lines (shape_at program) i ++ get_or former i other ∷ drop (i + 1) former) k other) (sym count)
      ∙ get_or-append_seam (for_lines (shape_at program) i) (get_or former i other) (drop (i + 1) former) other

  next : (i : ℕ) → for_lines (shape_at program) i ++ shape_at program (i + 1) ∷ drop (i + 1) former ≡ shapes_through program former (i + 1)
  next i =
      let one : i + 1 ≡ suc i = omega arith in
      ap (λ k. for_lines (shape_at program) i ++ shape_at program k ∷ drop (i + 1) former) one
      ∙ sym (append_assoc (for_lines (shape_at program) i) (shape_at program (suc i) ∷ []) (drop (i + 1) former))
      ∙ ap (λ k. for_lines (shape_at program) k ++ drop (i + 1) former) (sym one)

  pub through-kept : (i : ℕ) (other : Measured) → i < length former → get_or former i other ≡ shape_at program (i + 1) → shapes_through program former i ≡ shapes_through program former (i + 1)
  through-kept i other within same =
      split i other within
      ∙ ap (λ m. for_lines (shape_at program) i ++ m ∷ drop (i + 1) former) same
      ∙ next i

  pub through-set : (i : ℕ) → i < length former → set (shapes_through program former i) i (shape_at program (i + 1)) ≡ shapes_through program former (i + 1)
  through-set i within =
      let m = shape_at program (i + 1) in
      let count = length-for_lines (shape_at program) i in
      ap (λ row. set row i m) (split i Nothing within)
      ∙ ap (λ k. set (for_lines (shape_at program) i ++ get_or former i Nothing ∷ drop (i + 1) former) k m) (sym count)
      ∙ set-append_seam (for_lines (shape_at program) i) (get_or former i Nothing) (drop (i + 1) former) m
      ∙ next i

  pub through-all : (i : ℕ) → length former ≤ i → shapes_through program former i ≡ for_lines (shape_at program) i
  through-all i all = ap (λ rest. for_lines (shape_at program) i ++ rest) (drop_all i former all) ∙ append-nil (for_lines (shape_at program) i)
