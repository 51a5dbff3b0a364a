-- A text without its last line, with which no other line has to do: what is kept of it, and that the edit changes no other line.
use Rattle.std.proofs.Common.{◌≡◌, ℕ, suc, ◌+◌, ◌-◌, ◌<◌, ◌≤◌, ◌==◌, true, false, nat_lt, List, [], ◌∷◌, ◌++◌, length, map, take, get_or, set, slice_index, remove, Some, None, if◌then◌else◌, append-nil, arith, ap, sym, subst, ◌∙◌, refl}
use Rattle.std.specs.Option.{option_map}
use Rattle.std.proofs.Math.ListN.{drop_of_length-le}
use Rattle.std.proofs.Math.Path.{fun_ext}
use Rattle.std.proofs.Math.Seq.{take-append_seam, get_or-append_seam}
use Rattle.std.proofs.lemmas.Bool.{lt-ltb, and_right, not_from_true, or_parts}
use Rattle.std.proofs.lemmas.List.{take-map, length-map, get_or-set_same, set-set, set-get_or}
use Rattle.std.proofs.lemmas.List.FromFn.{length-map-range_with_len}
use Rattle.rv_stmt.specs.Statement.{statement_of}
use Rattle.rv_layout.specs.declared.measured.Measured.{Measured}
use Rattle.rv_layout.specs.declared.measured.Measured.TheVariants.{Nothing}
use Rattle.rv_stmt.specs.declared.section.Sect.TheVariants.{Text}
use Rattle.rv_layout.specs.PlaceLaws.{number_below, part_limited}
use Rattle.rv_layout.specs.Places.{before, section_through, offset_through, section_of, offset_of, line_size_of, size_at, section_end_of, IsLimited, AreLimited}
use Rattle.rv_layout.specs.Sections.{sections, section_number}
use Rattle.rv_list.specs.declared.view.LinePlace.{LinePlace}
use Rattle.rv_program.specs.declared.item.Item.{Item}
use Rattle.rv_program.specs.Changes.{is_new_or, differs_in_code, is_changed, changed_lines}
use Rattle.rv_program.specs.Codes.{values_at, code_at}
use Rattle.rv_program.specs.Constants.{constant_through}
use Rattle.rv_program.specs.Layout.{shape_at, shapes_of, place_at}
use Rattle.rv_program.specs.Pairs.{pcrel_high_of}
use Rattle.rv_program.specs.Program.{Program, program_of, for_lines, lines_that}
use Rattle.rv_program.specs.References.{among_local, has_local, equ_value}
use Rattle.rv_program.specs.Text.{Edit, Delete, lines_after}
use Rattle.rv_program.specs.internal.Items.{AreItems}
use Rattle.rv_program.specs.internal.Still.{set_or_push}
use Rattle.rv_program.specs.internal.Rows.{AreConstants, AreEquValues, AreShapes, AreHighs}
use Rattle.rv_program.specs.internal.Locals.{lines_with}
use Rattle.rv_program.specs.internal.LinesAhead.{all_ahead, none_ahead}
use Rattle.rv_program.specs.lemmas.LocalLines.{statement-of-line}
use Rattle.rv_program.specs.lemmas.Programs.{at-for_lines, length-for_lines, length-program}
use Rattle.rv_program.specs.lemmas.SamenessLaws.{same_code-Decides}
use Rattle.rv_store.specs.declared.ends.Ends.{Ends}
use Rattle.rv_store.specs.declared.last_line.LastLine.{LastLine}
use Rattle.rv_store.specs.declared.still.Still.{Still}
use Rattle.rv_store.specs.declared.survey.Survey.{Survey}
use Rattle.rv_store.specs.internal.Appended.{adds, touches, shape_at_end, IsApart, AreSymbols}
use Rattle.rv_store.specs.internal.Ends.{ends_of, ends_after, ends_before, base_by_ends, next_offset, place_by_shapes}
use Rattle.rv_store.specs.internal.Still.{uses_any, is_put_or_uses, IsOther, IsStill}
use Rattle.rv_store.specs.internal.StillLines.{IsStillLine, IsLastLine}
use Rattle.rv_store.specs.internal.Waiting.{KeepsHighs}
use Rattle.rv_store.specs.internal.Surveys.{IsSurvey}
use Rattle.rv_store.proofs.AddedHighs.{end-plain}
use Rattle.rv_store.proofs.EndLaws.{at-section, ends_of-push}
use Rattle.rv_store.proofs.Endings.{ending-line}
use Rattle.rv_store.proofs.LongerPrograms.{shapes-more, for_lines-same}
use Rattle.rv_store.proofs.LongerTexts.{count-longer, program-longer}
use Rattle.rv_program.specs.lemmas.LineRows.{row-through}
use Rattle.rv_store.proofs.StillLaws.{shape-still, locals-put, highs-back, values-still, code-still, constant-all, equ_value-all}
use Rattle.rv_store.proofs.StillTexts.{end-set_or_push}

-- Rows without their last value

without-last : {A : Type 0} (xs : List A) (n : ℕ) → length xs ≤ suc n → remove xs n ≡ take n xs
without-last xs n few = ap (λ rest. take n xs ++ rest) (drop_of_length-le xs few) ∙ append-nil (take n xs)

take-for_lines : {A : Type 0} (f : ℕ → A) (n : ℕ) → take n (for_lines f (suc n)) ≡ for_lines f n
take-for_lines f n =
    ap (λ k. take k (for_lines f n ++ f (suc n) ∷ [])) (sym (length-for_lines f n)) ∙ take-append_seam (for_lines f n) (f (suc n) ∷ [])

-- The ends of the sections

-- what was set at a place is set back
set-back-by : (xs : List ℕ) (i size : ℕ) → i < length xs → set (set xs i (slice_index xs i + size)) i (slice_index (set xs i (slice_index xs i + size)) i - size) ≡ xs
set-back-by xs i size within =
    let there : slice_index (set xs i (slice_index xs i + size)) i ≡ slice_index xs i + size = get_or-set_same xs i (slice_index xs i + size) 0 within in
    let back : slice_index xs i + size - size ≡ slice_index xs i = omega arith in
    ap (λ n. set (set xs i (slice_index xs i + size)) i (n - size)) there
    ∙ ap (set (set xs i (slice_index xs i + size)) i) back
    ∙ set-set xs i (slice_index xs i + size) (slice_index xs i)
    ∙ set-get_or xs i 0

-- before the last line
ends_before-last : (ms : List Measured) (m : Measured) (place : LinePlace) → place.section ≡ section_through Text ms → place.size ≡ size_at (next_offset (ends_of ms)) m → ends_before (ends_of (ms ++ m ∷ [])) place ≡ ends_of ms
ends_before-last ms m place section size =
    let ends : Ends = ends_of ms in
    let number : ℕ = section_number ends.section in
    let within : number < length ends.offsets =
    (let below = number_below ends.section in omega (arith, below, length-map-range_with_len (section_end_of ms) 0 sections)) in
    ap (λ e. ends_before e place) (ends_of-push ms m)
    ∙ (λ i. record {
      section = section i;
      offsets = set (ends_after ends m).offsets (section_number (section i)) (slice_index (ends_after ends m).offsets (section_number (section i)) - size i);
    })
    ∙ ap (λ offsets. record { section = ends.section; offsets = offsets }) (set-back-by ends.offsets number (size_at (next_offset ends) m) within)

-- The place of the last line

module _ (ms : List Measured) (m : Measured) (n : ℕ) (count : n ≡ length ms) where
  at_end : suc n - 1 ≡ length ms
  at_end = omega (arith, count)

  before-last : before (suc n) (ms ++ m ∷ []) ≡ ms
  before-last = ap (λ k. take k (ms ++ m ∷ [])) at_end ∙ take-append_seam ms (m ∷ [])

  pub section-last : section_of (ms ++ m ∷ []) (suc n) ≡ section_through Text ms
  section-last = ap (section_through Text) before-last

  offset-last : offset_of (ms ++ m ∷ []) (suc n) ≡ next_offset (ends_of ms)
  offset-last =
      ap (λ xs. offset_through (section_number (section_through Text xs)) Text 0 xs) before-last ∙ sym (at-section (section_end_of ms) (section_through Text ms))

  pub size-last : line_size_of (ms ++ m ∷ []) (suc n) ≡ size_at (next_offset (ends_of ms)) m
  size-last =
      let shape = ap (λ k. get_or (ms ++ m ∷ []) k Nothing) at_end ∙ get_or-append_seam ms m [] Nothing in λ i. size_at (offset-last i) (shape i)

limited-last : (ms : List Measured) (m : Measured) → AreLimited (ms ++ m ∷ []) → IsLimited m
limited-last [] m are = are.0
limited-last (n ∷ ms) m are = limited-last ms m are.1

-- The last line of a text

module _ (base : ℕ) (lines : List (List ℕ)) (line : List ℕ) where
  abbrev pub shapes : List Measured
  shapes = shapes_of (program_of lines)

  abbrev pub shape : Measured
  shape = shape_at_end (program_of lines) (statement_of line)

  pub shapes-with : shapes_of (program_of (lines ++ line ∷ [])) ≡ shapes ++ shape ∷ []
  shapes-with = ap shapes_of (program-longer lines line) ∙ shapes-more (program_of lines) (statement_of line)

  pub count-shapes : length lines ≡ length shapes
  count-shapes = sym (length-for_lines (shape_at (program_of lines)) (length (program_of lines)) ∙ length-program lines)

  -- the ends before it
  pub ends-without : (ends : Ends) (place : LinePlace) → ends ≡ ends_of (shapes_of (program_of (lines ++ line ∷ []))) → place ≡ place_at base (program_of (lines ++ line ∷ [])) (suc (length lines)) → ends_before ends place ≡ ends_of shapes
  ends-without ends place are lies =
      (λ i. ends_before (are i) place)
      ∙ ap (λ xs. ends_before (ends_of xs) place) shapes-with
      ∙ ends_before-last shapes shape place
      (ap (λ l. l.section) lies ∙ ap (λ xs. section_of xs (suc (length lines))) shapes-with ∙ section-last shapes shape (length lines) count-shapes)
      (ap (λ l. l.size) lies ∙ ap (λ xs. line_size_of xs (suc (length lines))) shapes-with ∙ size-last shapes shape (length lines) count-shapes)

  module _ (limited : AreLimited (shapes ++ shape ∷ [])) (few : length lines < 16384) where
    pub limited-without : AreLimited shapes
    limited-without = subst AreLimited (take-append_seam shapes (shape ∷ [])) (part_limited (length shapes) (shapes ++ shape ∷ []) limited)

    -- no other line has to do with it
    pub is-last_line : (given : LastLine) (ends : Ends) (text : List (List ℕ)) → text ≡ lines ++ line ∷ [] → ends ≡ ends_of (shapes_of (program_of (lines ++ line ∷ []))) → given.before ≡ ends_of shapes
        → ((t : ℕ) → t < sections → base_by_ends base ends t ≡ base_by_ends base given.before t) → (from : ℕ) → IsApart (program_of lines) (statement_of line) from
        → ((number : ℕ) → among_local number (statement_of line).labels ≡ false) → pcrel_high_of (statement_of line).body ≡ None → (given.defines ≡ false → (name : List ℕ) → adds (program_of lines) (statement_of line) name ≡ false)
        → [] ≡ lines_that (uses_any (touches (program_of lines) (statement_of line) from) (program_of lines)) (length lines) → IsLastLine base text given
    is-last_line given ends text whole all first stay from apart local none nothing unused =
        let there : Still = record { shape = shape; ends = ends; place = place_by_shapes base (shapes ++ shape ∷ []) (suc (length shapes)); defines = given.defines; waiting = None } in
        record {
          lines = lines;
          line = line;
          there = there;
          whole = whole;
          still = ending-line base lines line from shapes given.before there [] refl limited-without few apart nothing refl (limited-last shapes shape limited) first (all ∙ ap ends_of shapes-with) stay refl
              (λ lies. end-plain base (program_of lines) (statement_of line) none) (λ n e. absurd (let no : None ≡ Some n = e in cc)) unused;
          before = first;
          defines = refl;
          local = local;
          plain = refl;
        }

-- The survey of the text

module _ (base : ℕ) (lines : List (List ℕ)) (line : List ℕ) (names : List (List ℕ)) (s : Survey) (few : length (lines ++ line ∷ []) ≤ 16384) (are : IsSurvey base (program_of (lines ++ line ∷ [])) names s) where
  pub limited-with : AreLimited (shapes base lines line ++ shape base lines line ∷ [])
  limited-with = subst AreLimited (are.shapes ∙ shapes-with base lines line) are.limited

  pub few-without : length lines < 16384
  few-without = omega (arith, few, count-longer lines line)

  pub ends-with : s.ends ≡ ends_of (shapes_of (program_of (lines ++ line ∷ [])))
  ends-with = are.ends ∙ ap ends_of are.shapes

  -- the ends before its last line
  pub ends-first : (place : LinePlace) → place ≡ get_or s.places.items (length lines) place → (ends : Ends) → ends ≡ ends_before s.ends place → ends ≡ ends_of (shapes base lines line)
  ends-first place there ends is =
      let within : length lines < length (program_of (lines ++ line ∷ [])) = omega (arith, length-program (lines ++ line ∷ []), count-longer lines line) in
      is ∙ ends-without base lines line s.ends place ends-with
      (there ∙ ap (λ row. get_or row (length lines) place) are.places
      ∙ at-for_lines (place_at base (program_of (lines ++ line ∷ []))) (length (program_of (lines ++ line ∷ []))) (length lines) place within)

-- Without it

module _ {base : ℕ} {lines : List (List ℕ)} {line : List ℕ} {there : Still} (is : IsStillLine base lines (length lines + 1) line there []) (plain : there.waiting ≡ None) where
  abbrev without : Program
  without = program_of lines

  abbrev whole : Program
  whole = program_of (lines ++ line ∷ [])

  still : IsStill base without whole (length lines + 1) is.touched
  still = subst (λ ls. IsStill base without (program_of ls) (length lines + 1) is.touched) (sym (end-set_or_push lines (length lines + 1 - 1) line (omega arith))) is.still

  -- and no high half goes
  highs-kept : KeepsHighs base without whole (length lines + 1) None
  highs-kept =
      subst (λ ls. KeepsHighs base without (program_of ls) (length lines + 1) None) (sym (end-set_or_push lines (length lines + 1 - 1) line (omega arith)))
      (subst (λ o. KeepsHighs base without (program_of (set_or_push lines (length lines + 1 - 1) line)) (length lines + 1) (option_map (λ n. section_number there.place.section) o)) plain is.highs)

  other : (i : ℕ) → 1 ≤ i → i ≤ length lines → IsOther without (length lines + 1) i
  other i first last = record { first = first; last = omega (arith, last, length-program lines); differs = λ e. omega (arith, e, last) }

  -- no line uses a name that is touched
  unused : (i : ℕ) → IsOther without (length lines + 1) i → uses_any is.touched without i ≡ false
  unused i there =
      let first = there.first in
      let last = there.last in
      (or_parts (i == length lines + 1) (uses_any is.touched without i)
      (none_ahead (is_put_or_uses is.touched without (length lines + 1)) 0 (length lines)
      (sym (all_ahead (is_put_or_uses is.touched without (length lines + 1)) (length lines)) ∙ sym is.those)
      i (omega (arith, first)) (omega (arith, last, length-program lines)))).1

  row-back : {A : Type 0} (f g : ℕ → A) (n : ℕ) → n ≡ suc (length lines) → ((i : ℕ) → IsOther without (length lines + 1) i → g i ≡ f i) → take (length lines) (for_lines g n) ≡ for_lines f (length lines)
  row-back f g n all same =
      ap (λ k. take (length lines) (for_lines g k)) all ∙ take-for_lines g (length lines) ∙ for_lines-same g f (length lines) (λ i first last. same i (other i first last))

  -- a row of a survey
  survey-row : {A : Type 0} (f g : ℕ → A) (row : List A) → ((i : ℕ) → IsOther without (length lines + 1) i → g i ≡ f i) → row ≡ for_lines g (length whole) → take (length lines) row ≡ for_lines f (length without)
  survey-row f g row same are =
      ap (take (length lines)) are
      ∙ row-back f g (length whole) (length-program (lines ++ line ∷ []) ∙ count-longer lines line) same
      ∙ ap (for_lines f) (sym (length-program lines))

  -- where it defines nothing, the rows by names stay
  pub symbols-back : (names : List (List ℕ)) (s : Survey) → ((name : List ℕ) → is.touched.names name ≡ false) → AreSymbols base whole (length (lines ++ line ∷ [])) names s → AreSymbols base without (length lines) names s
  symbols-back names s none are =
      let count = length-program lines in
      let longer : length without ≤ length (lines ++ line ∷ []) = omega (arith, count, count-longer lines line) in
      record {
        definitions = record { each = are.definitions.each ∙ fun_ext (λ name. still.definitions name (none name)); within = are.definitions.within };
        constants = record {
          each = are.constants.each ∙ fun_ext (λ name. constant-all still (length (lines ++ line ∷ [])) longer name (none name) ∙ ap (λ k. constant_through without k name) count);
          within = are.constants.within;
        };
        equ_values = record {
          each = are.equ_values.each ∙ fun_ext (λ name. equ_value-all still (length (lines ++ line ∷ [])) longer name (none name) ∙ ap (λ k. equ_value base without k name) count);
          within = are.equ_values.within;
        };
      }

  -- the lines of a local label that the last line has not
  locals-without : (number : ℕ) → among_local number (statement_of line).labels ≡ false → lines_that (has_local whole number) (length whole) ≡ lines_that (has_local without number) (length without)
  locals-without number none =
      let n : ℕ = length lines + 1 in
      let statement = statement-of-line (lines ++ line ∷ []) (length lines) line (omega (arith, count-longer lines line)) (sym (get_or-append_seam lines line [] line)) in
      locals-put still number
      ∙ ap (λ b. lines_that (has_local without number) (length without) ++ (if b then n ∷ [] else []))
      (and_right (nat_lt (length without) n) (has_local whole number n) (ap (λ s. among_local number s.labels) statement ∙ none))
      ∙ append-nil (lines_that (has_local without number) (length without))

  -- the rows by lines lose their last values
  pub survey-without : (names : List (List ℕ)) (old new : Survey) → IsSurvey base whole names old → AreSymbols base without (length lines) names new → new.shapes.items ≡ take (length lines) old.shapes.items → new.ends ≡ ends_of (shapes_of without)
      → new.places.items ≡ take (length lines) old.places.items → ((number : ℕ) → lines_with new.locals number ≡ lines_with old.locals number) → ((number : ℕ) → among_local number (statement_of line).labels ≡ false) → new.highs.items ≡ take (length lines) old.highs.items → IsSurvey base without names new
  survey-without names old new are symbols shapes ends places locals local highs =
      let count : length lines ≡ length without = sym (length-program lines) in
      let kept : AreShapes without new.shapes.items = shapes ∙ survey-row (shape_at without) (shape_at whole) old.shapes.items (shape-still still) are.shapes in
      let constants = subst (λ k. AreConstants without k names new.constants.items) count symbols.constants in
      let equ_values = subst (λ k. AreEquValues base without k names new.equ_values.items) count symbols.equ_values in
      record {
        definitions = symbols.definitions;
        constants = constants;
        shapes = kept;
        limited = subst AreLimited (sym shapes) (part_limited (length lines) old.shapes.items are.limited);
        ends = ends ∙ ap ends_of (sym kept);
        places = places ∙ survey-row (place_at base without) (place_at base whole) old.places.items (λ i there. still.places i there.first there.last) are.places;
        locals = λ number. locals number ∙ are.locals number ∙ locals-without number (local number);
        equ_values = equ_values;
        highs = subst (AreHighs base without) (sym (highs ∙ ap (λ n. take n old.highs.items) count)) (highs-back still highs-kept refl old.highs.items are.highs);
      }

  -- The items

  item-row : {A : Type 0} (part : Item → A) (f g : ℕ → A) (items : List Item) → ((i : ℕ) → IsOther without (length lines + 1) i → g i ≡ f i) → map part items ≡ for_lines g (length (lines ++ line ∷ [])) → map part (take (length lines) items) ≡ for_lines f (length lines)
  item-row part f g items same are =
      sym (take-map part (length lines) items) ∙ ap (take (length lines)) are ∙ row-back f g (length (lines ++ line ∷ [])) (count-longer lines line) same

  pub items-without : (items : List Item) → AreItems base (lines ++ line ∷ []) items → AreItems base lines (remove items (length lines))
  items-without items are =
      let few : length items ≤ suc (length lines) = omega (arith, length-map items (λ i. i.line), ap length are.lines, count-longer lines line) in
      subst (AreItems base lines) (sym (without-last items (length lines) few)) (record {
        lines = sym (take-map (λ i. i.line) (length lines) items) ∙ ap (take (length lines)) are.lines ∙ take-append_seam lines (line ∷ []);
        shapes = item-row (λ i. i.shape) (shape_at without) (shape_at whole) items (shape-still still) are.shapes;
        values = item-row (λ i. i.values) (values_at base without) (values_at base whole) items (λ i there. values-still still highs-kept i there (unused i there)) are.values;
        codes = item-row (λ i. i.code) (code_at base without) (code_at base whole) items (λ i there. code-still still highs-kept i there (unused i there)) are.codes;
      })

  -- The edit

  abbrev deletion : Edit
  deletion = Delete (suc (length lines))

  pub lines-without : lines_after (lines ++ line ∷ []) deletion ≡ lines
  lines-without =
      let place : suc (length lines) - 1 ≡ length lines = omega arith in
      ap (remove (lines ++ line ∷ [])) place ∙ without-last (lines ++ line ∷ []) (length lines) (omega (arith, count-longer lines line)) ∙ take-append_seam lines (line ∷ [])

  -- it changes no other line
  pub nothing_changed : changed_lines base (lines ++ line ∷ []) deletion ≡ []
  nothing_changed =
      sym (row-through (is_changed base (lines ++ line ∷ []) deletion) 0 (length (lines_after (lines ++ line ∷ []) deletion)) (omega arith)
      (λ i first last.
      let within : i ≤ length lines = omega (arith, last, ap length lines-without) in
      let there : IsOther without (length lines + 1) i = other i (omega (arith, first)) within in
      let stood : nat_lt i (suc (length lines)) ≡ true = lt-ltb i (suc (length lines)) (omega (arith, within)) in
      (λ j. is_new_or (differs_in_code base whole (program_of (lines-without j)) i) (if stood j then Some i else Some (i + 1)))
      ∙ not_from_true _ ((same_code-Decides _ _).1 (sym (code-still still highs-kept i there (unused i there))))))
