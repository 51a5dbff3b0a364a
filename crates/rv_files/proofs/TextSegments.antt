-- The segments of a text.
use Rattle.std.proofs.Common.{◌≡◌, ℕ, ℤ, zero, suc, ◌+◌, ◌-◌, ◌*◌, ◌^◌, ◌≤◌, Bool, true, false, List, [], ◌∷◌, ◌++◌, length, get_or, Option, refl, ◌∙◌, arith}
use Rattle.std.specs.Prelude.{All, if◌then◌else◌}
use Rattle.std.proofs.lemmas.List.{length-map}
use Rattle.rv_text.specs.declared.lexeme.TheConstants.{MAX_LINE_LENGTH}
use Rattle.rv_stmt.specs.declared.statement.Body.{Body}
use Rattle.rv_stmt.specs.Statement.{statement_of, data_size_of}
use Rattle.rv_layout.specs.BaseLaws.{base-bound}
use Rattle.rv_layout.specs.declared.measured.Measured.{Measured}
use Rattle.rv_layout.specs.PlaceLaws.{ends_together}
use Rattle.rv_layout.specs.Places.{section_end_of, base_from, IsLimited, AreLimited}
use Rattle.rv_layout.specs.Sections.{sections}
use Rattle.rv_layout.specs.Shapes.{shape_of}
use Rattle.rv_list.specs.Image.{section_bytes}
use Rattle.rv_list.specs.Shown.{shows_bytes}
use Rattle.rv_program.specs.Constants.{constant_of}
use Rattle.rv_program.specs.Layout.{shape_at, shapes_of, section_base_at, section_end_at}
use Rattle.rv_program.specs.Program.{Program, program_of, no_statement, body_at, for_lines}
use Rattle.rv_store.specs.Shown.{shown_of}
use Rattle.rv_program.specs.Text.{Text}
use Rattle.rv_files.specs.Bin.{AreAscending}
use Rattle.rv_files.specs.ElfLoading.{AreLoadable}
use Rattle.rv_files.specs.Segments.{Segment, AreBytes, HoldBytes, segment_at, segments_of}
use Rattle.rv_files.specs.TextLimits.{IsWithinLimits}
use Rattle.rv_files.proofs.Bytes.{bytes_none}
use Rattle.rv_program.specs.lemmas.Programs.{length-for_lines}
use Rattle.rv_files.proofs.SectionSizes.{section_holds_bytes}
use Rattle.rv_files.proofs.SegmentOrder.{few_below, bytes_below, ascending_below, loadable_below}

-- What laws say of the lines and the sections of texts.
pub record TextLaws : Type 0 where
  pub content : (line : List ℕ) → data_size_of (statement_of line).body ≤ 4 * length line
  pub shapes : (constants : List ℕ → Option ℤ) (b : Body) → data_size_of b ≤ 2 ^ 16 → IsLimited (shape_of constants b)
  pub sections : (text : Text) (t : ℕ) → length (section_bytes (shown_of text) t) ≡ section_end_at (program_of text.lines) t

-- Shapes

limited_append : (ms : List Measured) (m : Measured) → AreLimited ms → IsLimited m → AreLimited (ms ++ m ∷ [])
limited_append [] m h k = (k, tt)
limited_append (n ∷ ms) m h k = (h.0, limited_append ms m h.1 k)

limited_lines : (f : ℕ → Measured) (n : ℕ) → ((i : ℕ) → IsLimited (f i)) → AreLimited (for_lines f n)
limited_lines f zero h = tt
limited_lines f (suc n) h = limited_append (for_lines f n) (f (suc n)) (limited_lines f n h) (h (suc n))

few_data : TextLaws → (lines : List (List ℕ)) (k : ℕ) → All (λ line. length line ≤ MAX_LINE_LENGTH) lines → data_size_of (get_or (program_of lines) k no_statement).body ≤ 2 ^ 16
few_data laws [] k short = omega arith
few_data laws (line ∷ lines) zero short = omega (arith, laws.content line, short 0 [] (omega arith))
few_data laws (line ∷ lines) (suc k) short = few_data laws lines k (λ j d within. short (suc j) d (omega (arith, within)))

limited_shapes : TextLaws → (lines : List (List ℕ)) → All (λ line. length line ≤ MAX_LINE_LENGTH) lines → AreLimited (shapes_of (program_of lines))
limited_shapes laws lines short =
    limited_lines (shape_at (program_of lines)) (length (program_of lines))
    (λ i. laws.shapes (constant_of (program_of lines) i) (body_at (program_of lines) i) (few_data laws lines (i - 1) short))

-- Segments

pub few_segments : (text : Text) → length (segments_of (shown_of text)) ≤ 6
few_segments text = few_below (segment_at (shown_of text)) sections

-- by whether its bytes are shown
abbrev segment_by : Text → (t : ℕ) → Bool → Segment
segment_by text t shows =
    if shows
    then record { section = t; address = section_base_at text.base (program_of text.lines) t; bytes = section_bytes (shown_of text) t; zeros = 0 }
    else record { section = t; address = section_base_at text.base (program_of text.lines) t; bytes = []; zeros = section_end_at (program_of text.lines) t }

bytes_in_segment : (text : Text) → All AreBytes text.lines → (t : ℕ) → AreBytes (segment_at (shown_of text) t).bytes
bytes_in_segment text bytes t =
    elim (shows_bytes t)
    as (λ b. AreBytes (segment_by text t b).bytes)
    [ true ↦ section_holds_bytes text t bytes | false ↦ bytes_none ]

pub bytes_in_segments : (text : Text) → All AreBytes text.lines → HoldBytes (segments_of (shown_of text))
bytes_in_segments text bytes = bytes_below (segment_at (shown_of text)) sections (bytes_in_segment text bytes)

module _ (laws : TextLaws) (text : Text) where
  abbrev program : Program
  program = program_of text.lines

  abbrev end : ℕ → ℕ
  end = section_end_of (shapes_of program)

  abbrev segment : ℕ → Segment
  segment = segment_at (shown_of text)

  begins : (t : ℕ) → (segment t).address ≡ base_from text.base end t
  begins t =
      elim (shows_bytes t)
      as (λ b. (segment_by text t b).address ≡ base_from text.base end t)
      [ true ↦ refl | false ↦ refl ]

  sized : (t : ℕ) → length (segment t).bytes + (segment t).zeros ≡ end t
  sized t =
      elim (shows_bytes t)
      as (λ b. length (segment_by text t b).bytes + (segment_by text t b).zeros ≡ end t)
      [ true ↦ omega (arith, laws.sections text t) | false ↦ omega arith ]

  pub ascending_segments : AreAscending text.base (segments_of (shown_of text))
  ascending_segments = ascending_below segment text.base end begins sized sections

  pub loadable_segments : IsWithinLimits text → AreLoadable (segments_of (shown_of text))
  loadable_segments within =
      let count : length (shapes_of program) ≡ length text.lines = length-for_lines (shape_at program) (length program) ∙ length-map text.lines statement_of in
      let together = ends_together (shapes_of program) (limited_shapes laws text.lines within.short) in
      loadable_below segment text.base end begins sized sections sections (omega arith) (omega arith) (base-bound text.base within.based) (omega (arith, together, count, within.few))
