-- No other line has to do with a line in the place of one that it is alike.
use Rattle.std.proofs.Common.{◌≡◌, ℕ, suc, ◌-◌, ◌<◌, ◌≤◌, true, false, ◌||◌, List, [], ◌∷◌, ◌++◌, length, Some, None, if◌then◌else◌, true≢false, arith, ap, sym, subst, ◌∙◌, refl}
use Rattle.std.specs.Option.{option_map}
use Rattle.std.proofs.lemmas.Bool.{ne_eqb, eq-eqb}
use Rattle.std.proofs.lemmas.List.{map-set}
use Rattle.rv_stmt.specs.Statement.{statement_of}
use Rattle.rv_layout.specs.Places.{IsLimited}
use Rattle.rv_layout.specs.Sections.{section_number}
use Rattle.rv_layout.specs.Shapes.{shape_of}
use Rattle.rv_store.specs.declared.still.Still.{Still}
use Rattle.rv_store.specs.internal.Alike.{IsAlike}
use Rattle.rv_program.specs.Constants.{constant_of}
use Rattle.rv_store.specs.internal.Ends.{ends_of}
use Rattle.rv_program.specs.Layout.{shape_at, shapes_of, place_at}
use Rattle.rv_program.specs.Program.{Program, program_of, lines_that}
use Rattle.rv_program.specs.internal.Still.{set_or_push}
use Rattle.rv_store.specs.internal.Still.{Touched, uses_any, is_put_or_uses, IsStill, IsPutEdit}
use Rattle.rv_store.specs.internal.StillLines.{IsStillLine}
use Rattle.rv_store.specs.internal.Waiting.{KeepsHighs}
use Rattle.rv_program.specs.Text.{Replace}
use Rattle.rv_store.proofs.AlikeLaws.{nothing_touched, put, shape-put, ends-same, place-same, alike-still, alike-highs}
use Rattle.rv_store.proofs.ApartLines.{untouched}
use Rattle.rv_program.specs.lemmas.LineRows.{row-through}
use Rattle.rv_program.specs.lemmas.Programs.{length-program}
use Rattle.rv_store.proofs.StillTexts.{set-set_or_push}

pub replaced-put : (lines : List (List ℕ)) (k : ℕ) (line : List ℕ) → 1 ≤ k → k ≤ length lines → IsPutEdit lines (Replace k line) k line
replaced-put lines k line first last = record {
  edited = set-set_or_push lines (k - 1) line (omega (arith, first, last));
  new = ap (λ b. if b then None else Some k) (eq-eqb k k refl);
  others = λ i to differs. ap (λ b. if b then None else Some i) (ne_eqb i k differs);
}

-- line k alone is due, where no name is touched, and local labels are for no line
one-line : (touched : Touched) (p : Program) (k n : ℕ) → 1 ≤ k → k ≤ n → ((name : List ℕ) → touched.names name ≡ false) → n < touched.from → lines_that (is_put_or_uses touched p k) n ≡ k ∷ []
one-line touched p k n first last none beyond =
    sym (row-through (is_put_or_uses touched p k) k n last (λ i past to. apart i to (λ e. omega (arith, e, past))))
    ∙ ap (lines_that (is_put_or_uses touched p k)) (sym next)
    ∙ (λ j. sym (row-through (is_put_or_uses touched p k) 0 (k - 1) (omega arith) (λ i from to. apart i (omega (arith, to, last)) (λ e. omega (arith, e, to, first)))) j
    ++ (if here j then next j ∷ [] else []))
  where
    next : suc (k - 1) ≡ k
    next = omega (arith, first)

    here : is_put_or_uses touched p k (suc (k - 1)) ≡ true
    here = ap (λ b. b || uses_any touched p (suc (k - 1))) (eq-eqb (suc (k - 1)) k next)

    apart : (i : ℕ) → i ≤ n → (i ≡ k → ⊥) → is_put_or_uses touched p k i ≡ false
    apart i within differs = let unused = untouched p touched i none (omega (arith, within, beyond)) in λ j. ne_eqb i k differs j || unused j

pub alike-line : (base : ℕ) (lines : List (List ℕ)) (k : ℕ) (line : List ℕ) (given : Still) → 1 ≤ k → k ≤ length lines → IsAlike (program_of lines) k (statement_of line)
    → given.shape ≡ shape_of (constant_of (program_of lines) k) (statement_of line).body → IsLimited given.shape → given.ends ≡ ends_of (shapes_of (program_of lines)) → given.place ≡ place_at base (program_of lines) k → given.defines ≡ false → given.waiting ≡ None
    → IsStillLine base lines k line given (k ∷ [])
alike-line base lines k line given first last alike shape limited ends place none plain =
    let p : Program = program_of lines in
    let t = statement_of line in
    let within : k ≤ length p = omega (arith, last, length-program lines) in
    let q : Program = put p k t first within alike in
    let after : program_of (set_or_push lines (k - 1) line) ≡ q = ap program_of (sym (set-set_or_push lines (k - 1) line (omega (arith, first, last)))) ∙ map-set statement_of lines (k - 1) line in
    record {
      touched = nothing_touched p;
      still = subst (λ r. IsStill base p r k (nothing_touched p)) (sym after) (alike-still p k t first within alike base);
      shape = shape ∙ sym (shape-put p k t first within alike) ∙ ap (λ r. shape_at r k) (sym after);
      limited = limited;
      ends = ends ∙ sym (ends-same p k t first within alike) ∙ ap (λ r. ends_of (shapes_of r)) (sym after);
      place = place ∙ sym (ap (λ f. f k) (place-same p k t first within alike base)) ∙ ap (λ r. place_at base r k) (sym after);
      highs = subst (λ o. KeepsHighs base p (program_of (set_or_push lines (k - 1) line)) k (option_map (λ n. section_number given.place.section) o)) (sym plain)
          (subst (λ r. KeepsHighs base p r k None) (sym after) (alike-highs p k t first within alike base));
      waiting = λ n e. absurd (let no : None ≡ Some n = sym plain ∙ e in cc);
      nothing = λ e name. refl;
      last = λ defines. absurd (true≢false (sym defines ∙ none));
      those = sym (one-line (nothing_touched p) p k (length lines) first last (λ name. refl) (omega (arith, length-program lines)));
    }
