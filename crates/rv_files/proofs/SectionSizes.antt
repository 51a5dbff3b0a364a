-- A section has as many bytes as it is long, and holds bytes.
use Rattle.std.proofs.Common.{◌≡◌, ℕ, zero, suc, ◌+◌, ◌-◌, ◌≤◌, ◌<◌, ◌==◌, true, false, List, [], ◌∷◌, ◌++◌, length, take, refl, ap, sym, ◌∙◌, ◌⊎◌, inl, inr, arith}
use Rattle.std.specs.Prelude.{All, cond, if◌then◌else◌}
use Rattle.std.proofs.lemmas.Bool.{cases_eq, eq-eqb, ne_eqb}
use Rattle.std.proofs.lemmas.List.{length-append, length-map}
use Rattle.rv_stmt.specs.declared.section.Sect.{Sect}
use Rattle.rv_stmt.specs.declared.section.Sect.TheVariants.{Text as TextSection}
use Rattle.rv_stmt.specs.Statement.{statement_of}
use Rattle.rv_layout.specs.declared.measured.Measured.{Measured}
use Rattle.rv_layout.specs.declared.measured.Measured.TheVariants.{Bytes, Align, Switch, Nothing, Faulty}
use Rattle.rv_layout.specs.Places.{section_after, offset_after, section_through, offset_through, offset_of, size_at as size_of_shape}
use Rattle.rv_layout.specs.Sections.{section_number}
use Rattle.rv_list.specs.Image.{bytes_in, section_bytes}
use Rattle.rv_list.specs.Joined.{joined}
use Rattle.rv_program.specs.Codes.{code_at}
use Rattle.rv_program.specs.Layout.{shape_at, shapes_of, section_at, section_end_at}
use Rattle.rv_program.specs.Program.{Program, program_of, for_lines}
use Rattle.rv_store.specs.Shown.{shown_line_at, shown_of}
use Rattle.rv_program.specs.Text.{Text}
use Rattle.rv_files.specs.Segments.{AreBytes}
use Rattle.rv_files.proofs.Bytes.{bytes_none, bytes_append}
use Rattle.rv_files.proofs.LineSizes.{first_answers, size_by_shape, line_sized, line_bytes}
use Rattle.rv_files.proofs.PayloadSizes.{SizeLaws}

-- one more shape
offset_more : (t : ℕ) (s : Sect) (x : ℕ) (ms : List Measured) (m : Measured) → offset_through t s x (ms ++ m ∷ []) ≡ (if section_number (section_through s ms) == t then offset_after (offset_through t s x ms) m else offset_through t s x ms)
offset_more t s x [] m = refl
offset_more t s x (n ∷ ms) m = offset_more t (section_after s n) (if section_number s == t then offset_after x n else x) ms m

-- the offset after a shape is that before it, and its size
after_size : (x : ℕ) (m : Measured) → offset_after x m ≡ x + size_of_shape x m
after_size x (Bytes n) = refl
after_size x (Align e) = refl
after_size x (Switch s) = omega arith
after_size x Nothing = omega arith
after_size x (Faulty fault) = omega arith

module _ (laws : SizeLaws) (text : Text) (t : ℕ) where
  abbrev program : Program
  program = program_of text.lines

  abbrev bytes_on : ℕ → List ℕ
  bytes_on k = bytes_in t (shown_line_at text (k + 1))

  abbrev shapes_before : ℕ → List Measured
  shapes_before k = for_lines (shape_at program) k

  abbrev end_before : ℕ → ℕ
  end_before k = offset_through t TextSection 0 (shapes_before k)

  -- the section of a line, and its offset there
  section_on : (k : ℕ) → k < length program → section_at program (k + 1) ≡ section_through TextSection (shapes_before k)
  section_on k within =
      let place : k + 1 - 1 ≡ k = omega arith in
      ap (λ j. section_through TextSection (take j (shapes_of program))) place
      ∙ ap (section_through TextSection) (first_answers (shape_at program) (length program) k (omega (arith, within)))

  offset_on : (k : ℕ) → k < length program → section_number (section_at program (k + 1)) ≡ t → offset_of (shapes_of program) (k + 1) ≡ end_before k
  offset_on k within here =
      let place : k + 1 - 1 ≡ k = omega arith in
      ap (λ u. offset_through u TextSection 0 (take (k + 1 - 1) (shapes_of program))) here
      ∙ ap (λ j. offset_through t TextSection 0 (take j (shapes_of program))) place
      ∙ ap (offset_through t TextSection 0) (first_answers (shape_at program) (length program) k (omega (arith, within)))

  -- a line lengthens its section by its bytes
  line_adds : (k : ℕ) → k < length program → end_before (suc k) ≡ end_before k + length (bytes_on k)
  line_adds k within =
      offset_more t TextSection 0 (shapes_before k) (shape_at program (suc k))
      ∙ ap (λ s. if section_number s == t then offset_after (end_before k) (shape_at program (suc k)) else end_before k) (sym (section_on k within))
      ∙ at (cases_eq (section_number (section_at program (k + 1))) t)
    where
      payload : List ℕ
      payload = (code_at text.base program (k + 1)).payload

      shape : Measured
      shape = shape_at program (suc k)

      sized : section_number (section_at program (k + 1)) ≡ t → length (code_at text.base program (k + 1)).payload ≡ size_of_shape (end_before k) (shape_at program (suc k))
      sized here =
          let next : k + 1 ≡ suc k = omega arith in
          line_sized laws text.base text.lines (k + 1) (omega arith) (omega (arith, within))
          ∙ size_by_shape program (k + 1) (omega arith) (omega (arith, within))
          ∙ ap (λ x. size_of_shape x (shape_at program (k + 1))) (offset_on k within here)
          ∙ ap (λ j. size_of_shape (end_before k) (shape_at program j)) next

      at : (section_number (section_at program (k + 1)) ≡ t) ⊎ (section_number (section_at program (k + 1)) ≡ t → ⊥)
          → (if section_number (section_at program (k + 1)) == t then offset_after (end_before k) (shape_at program (suc k)) else end_before k)
          ≡ end_before k + length (bytes_on k)
      at (inl here) =
          let e = eq-eqb (section_number (section_at program (k + 1))) t here in
          rw e (after_size (end_before k) (shape_at program (suc k)) ∙ ap (λ n. end_before k + n) (sym (sized here)))
      at (inr there) =
          let e = ne_eqb (section_number (section_at program (k + 1))) t there in
          rw e (omega arith)

  bytes_before : (k : ℕ) → k ≤ length program → length (joined bytes_on k) ≡ end_before k
  bytes_before zero within = refl
  bytes_before (suc k) within =
      omega (arith, length-append (joined bytes_on k) (bytes_on k), bytes_before k (omega (arith, within)), line_adds k (omega (arith, within)))

  pub section_sized : length (section_bytes (shown_of text) t) ≡ section_end_at (program_of text.lines) t
  unfolding section_bytes
  section_sized =
      let count : length text.lines ≡ length program = sym (length-map text.lines statement_of) in
      ap (λ n. length (joined bytes_on n)) count ∙ bytes_before (length program) (omega arith)

-- bytes

module _ (text : Text) (t : ℕ) (bytes : All AreBytes text.lines) where
  bytes_of_line : (k : ℕ) → AreBytes (bytes_in t (shown_line_at text (k + 1)))
  bytes_of_line k =
      elim (section_number (section_at (program_of text.lines) (k + 1)) == t)
      as (λ b. AreBytes (cond b (code_at text.base (program_of text.lines) (k + 1)).payload []))
      [ true ↦ line_bytes text.base text.lines (k + 1) bytes | false ↦ bytes_none ]

  bytes_of_lines : (n : ℕ) → AreBytes (joined (λ k. bytes_in t (shown_line_at text (k + 1))) n)
  bytes_of_lines zero = bytes_none
  bytes_of_lines (suc n) =
      bytes_append (joined (λ k. bytes_in t (shown_line_at text (k + 1))) n) (bytes_in t (shown_line_at text (n + 1))) (bytes_of_lines n) (bytes_of_line n)

  pub section_holds_bytes : AreBytes (section_bytes (shown_of text) t)
  unfolding section_bytes
  section_holds_bytes = bytes_of_lines (length text.lines)
