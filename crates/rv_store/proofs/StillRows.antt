-- The rows of a text that get a line in place with which other lines have to do by its names and its local labels alone, or lose it again.
use Rattle.std.proofs.Common.{◌≡◌, ℕ, zero, suc, ◌-◌, ◌≤◌, nat_lt, ◌&&◌, inl, inr, Bool, true, false, if◌then◌else◌, List, [], ◌∷◌, ◌++◌, length, set, take, get_or, Option, Some, None, Result, Ok, Err, arith, ap, sym, subst, ◌∙◌, refl}
use Rattle.std.specs.Result.{OnErr}
use Rattle.std.proofs.Math.Seq.{take-append_seam}
use Rattle.std.proofs.lemmas.Bool.{le-ltb, ltb-true, and_left, and_parts}
use Rattle.std.proofs.lemmas.List.{take_all, append-nil}
use Rattle.rv_stmt.specs.Statement.{statement_of}
use Rattle.rv_layout.specs.declared.measured.Measured.{Measured}
use Rattle.rv_layout.specs.Places.{IsLimited, AreLimited}
use Rattle.rv_program.specs.lemmas.TextLines.{length_of_places, length_of_shapes}
use Rattle.rv_store.specs.declared.still.Still.{Still}
use Rattle.rv_store.specs.declared.survey.Survey.{Survey}
use Rattle.rv_store.specs.internal.Appended.{AreSameSymbols, AreSameLines, AreSymbols, IsUnsettled}
use Rattle.rv_store.specs.internal.Ends.{ends_of}
use Rattle.rv_store.specs.internal.HighRows.{AreRows}
use Rattle.rv_program.specs.Layout.{shape_at, place_at}
use Rattle.rv_program.specs.Program.{Program, program_of, no_statement, statement_at, lines_that}
use Rattle.rv_program.specs.References.{among_local, has_local}
use Rattle.rv_program.specs.internal.Locals.{lines_with, with_last, lines_below}
use Rattle.rv_program.specs.internal.Rows.{AreDefinitions, AreConstants, AreEquValues, AreShapes, ArePlaces, AreLocals, AreHighs}
use Rattle.rv_program.specs.internal.Still.{set_or_push}
use Rattle.rv_store.specs.internal.Column.{taken_back}
use Rattle.rv_store.specs.internal.StillLines.{IsStillLine, is_behind_with, AreLinesPut, MayBePut, MayHaveLast, ArePartlyPut, IsAt, MayWait}
use Rattle.rv_store.specs.internal.Surveys.{IsSurvey}
use Rattle.rv_store.proofs.Columns.{set-back, set-same}
use Rattle.rv_program.specs.lemmas.LocalLines.{first-below, below-last}
use Rattle.rv_program.specs.lemmas.Programs.{length-program}
use Rattle.rv_store.proofs.StillLaws.{shape-still, locals-put}
use Rattle.rv_store.proofs.StillTexts.{set-set_or_push, end-set_or_push, map-set_or_push, at-set_or_push, within-next, row-still, symbols-still}

-- whatever the error
pub in_any_error : {X E Q : Type 0} (r : Result X E) → Q → OnErr r Q
in_any_error (Ok x) q = tt
in_any_error (Err e) q = q

-- Rows with something in place, and without it

pub back : {A : Type 0} (old new : List A) (place : ℕ) (former : Option A) → MayBePut place old new → IsAt old place former → taken_back new place former ≡ old
back old new place None (inl same) end = ap (take place) same ∙ take_all place old (omega (arith, end))
back old new place None (inr put) end =
    ap (take place) (put.1 ∙ sym (end-set_or_push old place put.0 (sym end))) ∙ ap (λ n. take n (old ++ put.0 ∷ [])) (sym end) ∙ take-append_seam old (put.0 ∷ [])
back old new place (Some a) (inl same) stood = ap (λ row. set row place a) same ∙ set-same old place a stood.1
back old new place (Some a) (inr put) stood =
    ap (λ row. set row place a) (put.1 ∙ sym (set-set_or_push old place put.0 stood.0)) ∙ set-back old place put.0 a stood.1

-- Rows of local labels with a line behind them

with-line : (line : ℕ) (here : Bool) (xs : List ℕ) → (here ≡ true → lines_below line xs ≡ xs) → with_last line here xs ≡ xs ++ (if here then line ∷ [] else [])
with-line line true xs before = ap (λ ls. ls ++ line ∷ []) (before refl)
with-line line false xs before = sym (append-nil xs)

module _ (place : ℕ) (s : Survey) (located : AreLocals (program_of s.lines.items) (length (program_of s.lines.items)) s.locals) where
  -- all stand before it
  pub locals-before : length s.lines.items ≤ place → (number : ℕ) → lines_below (suc place) (lines_with s.locals number) ≡ lines_with s.locals number
  locals-before behind number =
      ap (lines_below (suc place)) (located number)
      ∙ first-below (has_local (program_of s.lines.items) number) (suc place) (length (program_of s.lines.items)) (omega (arith, behind, length-program s.lines.items))
      ∙ sym (located number)

  pub has-last-none : MayHaveLast place s s
  has-last-none = record { within = λ l number. refl; behind = locals-before }

  pub has-last : (line : List ℕ) (new : Survey) → ((number : ℕ) → lines_with new.locals number ≡ with_last (suc place) (is_behind_with s place line number) (lines_with s.locals number)) → MayHaveLast place s new
  has-last line new put = record {
    within = λ l number.
        put number
        ∙ ap (λ b. with_last (suc place) b (lines_with s.locals number))
        (and_left (nat_lt (length s.lines.items) (suc place)) (among_local number (statement_of line).labels) (le-ltb (length s.lines.items) (suc place) (omega (arith, l))));
    behind = λ l number. ap (lines_below (suc place)) (put number) ∙ below-last (suc place) (is_behind_with s place line number) (lines_with s.locals number) ∙ locals-before l number;
  }

pub partly : (place : ℕ) (line : List ℕ) (given : Still) (old new : Survey) → AreLocals (program_of old.lines.items) (length (program_of old.lines.items)) old.locals → AreLinesPut place line given old new → ArePartlyPut place old new
partly place line given old new located put = record {
  lines = inr (line, put.lines);
  shapes = inr (given.shape, put.shapes);
  places = inr (given.place, put.places);
  locals = has-last place old located line new put.locals;
  highs = put.highs;
}

pub partly-none : (place : ℕ) (s : Survey) → AreLocals (program_of s.lines.items) (length (program_of s.lines.items)) s.locals → ArePartlyPut place s s
partly-none place s located = record { lines = inl refl; shapes = inl refl; places = inl refl; locals = has-last-none place s located; highs = refl }

-- where the rows by lines change no more
pub partly-still : (place : ℕ) (old middle new : Survey) → ArePartlyPut place old middle → AreSameLines middle new → ArePartlyPut place old new
partly-still place old middle new put same = record {
  lines = subst (MayBePut place old.lines.items) (sym same.lines) put.lines;
  shapes = subst (MayBePut place old.shapes.items) (sym same.shapes) put.shapes;
  places = subst (MayBePut place old.places.items) (sym same.places) put.places;
  locals = record {
    within = λ l number. same.locals number ∙ put.locals.within l number;
    behind = λ l number. ap (lines_below (suc place)) (same.locals number) ∙ put.locals.behind l number;
  };
  highs = same.highs ∙ put.highs;
}

limited-put : (ms : List Measured) (i : ℕ) (m : Measured) → AreLimited ms → IsLimited m → AreLimited (set_or_push ms i m)
limited-put [] i m are is = (is, tt)
limited-put (n ∷ ms) zero m are is = (is, are.1)
limited-put (n ∷ ms) (suc i) m are is = (are.0, limited-put ms i m are.1 is)

-- The rows of a text

module _ (base : ℕ) (lines : List (List ℕ)) (names : List (List ℕ)) (s : Survey) (are : IsSurvey base (program_of lines) names s) where
  pub count-shapes : length s.shapes.items ≡ length lines
  count-shapes = length_of_shapes lines s.shapes.items are.shapes

  pub count-places : length s.places.items ≡ length lines
  count-places = length_of_places base lines s.places.items are.places

-- rows by lines that are the old ones, and rows by names that hold the same
pub survey-back : (base : ℕ) (lines names names' : List (List ℕ)) (old new : Survey) → IsSurvey base (program_of lines) names old → AreSameLines old new → AreSymbols base (program_of lines) (length lines) names' new → IsSurvey base (program_of lines) names' new
survey-back base lines names names' old new are same symbols =
    let count : length lines ≡ length (program_of lines) = sym (length-program lines) in
    let constants = subst (λ k. AreConstants (program_of lines) k names' new.constants.items) count symbols.constants in
    let equ_values = subst (λ k. AreEquValues base (program_of lines) k names' new.equ_values.items) count symbols.equ_values in
    record {
      definitions = symbols.definitions;
      constants = constants;
      shapes = same.shapes ∙ are.shapes;
      limited = subst AreLimited (sym same.shapes) are.limited;
      ends = same.ends ∙ are.ends ∙ ap ends_of (sym same.shapes);
      places = same.places ∙ are.places;
      locals = λ number. same.locals number ∙ are.locals number;
      equ_values = equ_values;
      highs = subst (AreHighs base (program_of lines)) (sym same.highs) are.highs;
    }

-- what a survey holds by names
pub symbols-of : (base : ℕ) (lines names : List (List ℕ)) (s : Survey) → IsSurvey base (program_of lines) names s → AreSymbols base (program_of lines) (length lines) names s
symbols-of base lines names s are =
    let count = length-program lines in
    record {
      definitions = are.definitions;
      constants = subst (λ k. AreConstants (program_of lines) k names s.constants.items) count are.constants;
      equ_values = subst (λ k. AreEquValues base (program_of lines) k names s.equ_values.items) count are.equ_values;
    }

-- the same rows
pub symbols-same : (base : ℕ) (program : Program) (k : ℕ) (names : List (List ℕ)) (old new : Survey) → AreSameSymbols old new → AreSymbols base program k names old → AreSymbols base program k names new
symbols-same base program k names old new same are = record {
  definitions = subst (λ v. AreDefinitions program names v.items) (sym same.definitions) are.definitions;
  constants = subst (λ v. AreConstants program k names v.items) (sym same.constants) are.constants;
  equ_values = subst (λ v. AreEquValues base program k names v.items) (sym same.equ_values) are.equ_values;
}

module _ {base : ℕ} {lines : List (List ℕ)} {k : ℕ} {line : List ℕ} {given : Still} {due : List ℕ} (is : IsStillLine base lines k line given due) where
  module _ (names : List (List ℕ)) (old new : Survey) (are : IsSurvey base (program_of lines) names old) (put : AreLinesPut (k - 1) line given old new) where
    shapes-put : AreShapes (program_of (set_or_push lines (k - 1) line)) new.shapes.items
    shapes-put =
        put.shapes ∙ (λ j. set_or_push (are.shapes j) (k - 1) (is.shape j)) ∙ row-still is.still (shape_at (program_of lines)) (shape_at (program_of (set_or_push lines (k - 1) line))) (λ i other. sym (shape-still is.still i other))

    places-put : ArePlaces base (program_of (set_or_push lines (k - 1) line)) new.places.items
    places-put =
        put.places ∙ (λ j. set_or_push (are.places j) (k - 1) (is.place j))
        ∙ row-still is.still (place_at base (program_of lines)) (place_at base (program_of (set_or_push lines (k - 1) line))) (λ i other. sym (is.still.places i other.first other.last))

    module _ (listed : old.lines.items ≡ lines) where
      locals-here : AreLocals (program_of (set_or_push lines (k - 1) line)) (length (program_of (set_or_push lines (k - 1) line))) new.locals
      locals-here number =
          let p = program_of lines in
          let q = program_of (set_or_push lines (k - 1) line) in
          let first = is.still.first in
          let next = within-next is.still in
          let place : suc (k - 1) ≡ k = omega (arith, first) in
          let count : length old.lines.items ≡ length p = ap length listed ∙ sym (length-program lines) in
          let statement : statement_at q k ≡ statement_of line =
          ap (λ ss. get_or ss (k - 1) no_statement) (map-set_or_push statement_of lines (k - 1) line)
          ∙ at-set_or_push p (k - 1) (statement_of line) no_statement (omega (arith, next, first)) in
          let here : is_behind_with old (k - 1) line number ≡ (nat_lt (length p) k && has_local q number k) =
          (λ j. nat_lt (count j) (place j) && among_local number (sym statement j).labels) in
          put.locals number
          ∙ ap (with_last (suc (k - 1)) (is_behind_with old (k - 1) line number)) (are.locals number)
          ∙ with-line (suc (k - 1)) (is_behind_with old (k - 1) line number) (lines_that (has_local p number) (length p))
          (λ has. first-below (has_local p number) (suc (k - 1)) (length p)
          (let past = ltb-true (length old.lines.items) (suc (k - 1)) (and_parts (nat_lt (length old.lines.items) (suc (k - 1))) (among_local number (statement_of line).labels) has).0 in omega (arith, past, count)))
          ∙ (λ j. lines_that (has_local p number) (length p) ++ (if here j then place j ∷ [] else []))
          ∙ sym (locals-put is.still number)

    module _ (last : List ℕ) (named : last ≡ line) (few : length (set_or_push lines (k - 1) line) ≤ 16384) (same : AreSameSymbols old new) (listed : old.lines.items ≡ lines) where
      now : new.lines.items ≡ set_or_push lines (k - 1) line
      now = put.lines ∙ ap (λ ls. set_or_push ls (k - 1) line) listed

      -- the rows by names wait for a line that defines a name
      pub unsettled : given.defines ≡ true → IsUnsettled base lines names last new
      unsettled defines =
          let end = is.last defines in
          subst (λ l. IsUnsettled base lines names l new) (sym named) (record {
            more = now ∙ sym (end-set_or_push lines (k - 1) line (let number = end.0 in omega (arith, number)));
            few = rw now few;
            earlier = end.1;
            symbols = symbols-same base (program_of lines) (length lines) names old new same (symbols-of base lines names old are);
            places = subst (λ ls. ArePlaces base (program_of ls) new.places.items) (sym now) places-put;
            locals = subst (λ ls. AreLocals (program_of ls) (length (program_of ls)) new.locals) (sym now) (locals-here listed);
          })

      pub may-wait : MayWait base names last given.defines new
      may-wait = record {
        whole = λ none.
            let kept = symbols-same base (program_of lines) (length (program_of lines)) names old new same (record { definitions = are.definitions; constants = are.constants; equ_values = are.equ_values }) in
            subst (λ ls. AreSymbols base (program_of ls) (length ls) names new) (sym now)
            (subst (λ n. AreSymbols base (program_of (set_or_push lines (k - 1) line)) n names new) (length-program (set_or_push lines (k - 1) line)) (symbols-still is.still names new (is.nothing none) kept));
        waits = λ defines. (lines, unsettled defines);
      }

    -- and then have it, but for the row of high halves
    rows-put : (names' : List (List ℕ)) (settled : Survey) → old.lines.items ≡ lines → AreSameLines new settled → AreSymbols base (program_of (set_or_push lines (k - 1) line)) (length (set_or_push lines (k - 1) line)) names' settled → AreRows base (program_of (set_or_push lines (k - 1) line)) names' settled
    rows-put names' settled listed same symbols =
        let shapes = same.shapes ∙ shapes-put in
        let counted = subst (λ m. AreSymbols base (program_of (set_or_push lines (k - 1) line)) m names' settled) (sym (length-program (set_or_push lines (k - 1) line))) symbols in
        record {
          definitions = counted.definitions;
          constants = counted.constants;
          shapes = shapes;
          limited = subst AreLimited (sym (same.shapes ∙ put.shapes)) (limited-put old.shapes.items (k - 1) given.shape are.limited is.limited);
          ends = same.ends ∙ put.ends ∙ is.ends ∙ ap ends_of (sym shapes);
          places = same.places ∙ places-put;
          locals = λ number. same.locals number ∙ locals-here listed number;
          equ_values = counted.equ_values;
        }

    -- the same by the lines that the survey holds
    pub rows-whole : (names' : List (List ℕ)) (settled : Survey) → AreSameLines new settled → AreSymbols base (program_of settled.lines.items) (length settled.lines.items) names' settled → old.lines.items ≡ lines → AreRows base (program_of settled.lines.items) names' settled
    rows-whole names' settled same symbols listed =
        let all : settled.lines.items ≡ set_or_push lines (k - 1) line = same.lines ∙ put.lines ∙ ap (λ ls. set_or_push ls (k - 1) line) listed in
        subst (λ ls. AreRows base (program_of ls) names' settled) (sym all)
        (rows-put names' settled listed same (subst (λ ls. AreSymbols base (program_of ls) (length ls) names' settled) all symbols))
