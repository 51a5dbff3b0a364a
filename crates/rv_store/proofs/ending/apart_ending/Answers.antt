use Rattle.std.proofs.Common.{◌≡◌, ℕ, suc, ◌<◌, ◌==◌, not, true, false, List, [], ◌∷◌, ◌++◌, length, Option, Some, None, arith, ap, sym, subst, ◌∙◌}
use Rattle.rv_stmt.specs.Statement.{statement_of}
use Rattle.rv_layout.specs.declared.measured.Measured.{Measured}
use Rattle.rv_layout.specs.Places.{IsLimited, AreLimited}
use Rattle.rv_store.specs.declared.ends.Ends.{Ends}
use Rattle.rv_program.specs.declared.limits.TheConstants.{MAX_LINES}
use Rattle.rv_store.specs.internal.Appended.{adds, touches, TellEarlier, FindsLocals, IsApart}
use Rattle.rv_program.specs.internal.FirstUses.{AreFirstUses}
use Rattle.rv_store.specs.internal.Ends.{ends_of, IsBehind}
use Rattle.rv_program.specs.Program.{Program, program_of, lines_that}
use Rattle.rv_store.specs.internal.Still.{uses_any}
use Rattle.rv_program.specs.References.{among_local}
use Rattle.rv_program.specs.internal.Rows.{AreShapes}
use Rattle.std.specs.Option.{is_some}
use Rattle.rv_expr.specs.declared.tree.Direction.TheVariants.{Forward}
use Rattle.rv_program.specs.lemmas.Lists.{all-first}
use Rattle.rv_program.specs.lemmas.LocalLines.{local_line-row}
use Rattle.rv_store.proofs.ApartLines.{tell-text}
use Rattle.rv_store.proofs.Endings.{ends-with, together-before, together-all, short-before, ending-line}
use Rattle.rv_store.proofs.ShapeRows.{limited-push}
use Rattle.rv_program.specs.lemmas.TextLines.{length_of_shapes}
use Rattle.std.specs.Option.{option_map}
use Rattle.std.proofs.lemmas.Bool.{and_from, eq-eqb, not_from_false}
use Rattle.rv_stmt.specs.declared.statement.Stmt.{Stmt}
use Rattle.rv_layout.specs.Sections.{section_number}
use Rattle.rv_program.specs.Layout.{section_at, size_at}
use Rattle.rv_store.specs.internal.Waiting.{KeepsHighs, AreBare}
use Rattle.rv_store.proofs.AddedHighs.{end-plain, end-high, one-high}
use Rattle.rv_store.proofs.AlikeLines.{no_high}
use Rattle.rv_store.proofs.LongerPrograms.{more}
use Rattle.rv_store.proofs.ending.apart_ending.Goals.{then-brief+in_ok-waiting_from, else-brief}
use Rattle.rv_store.proofs.ending.apart_ending.Goals as goal

behind : (lines : List (List ℕ)) (shapes : List Measured) (shape : Measured) (before after : Ends) → AreShapes (program_of lines) shapes → AreLimited shapes → IsLimited shape → length lines < MAX_LINES → before ≡ ends_of shapes → after ≡ ends_of (shapes ++ shape ∷ []) → IsBehind shape before after shapes
behind lines shapes shape before after are limited limited_shape few is all =
    let count = length_of_shapes lines shapes are in
    record {
      few = omega (arith, count, few);
      limited = limited-push shapes shape limited limited_shape;
      first = is;
      all = all;
    }

pub advance-requires-clause-short : goal.advance-requires-clause-short
advance-requires-clause-short c =
    let count = length_of_shapes c.args.survey.now.lines.items c.args.survey.now.shapes.items c.requires.shapes in
    short-before c.args.survey.now.shapes.items c.args.shape (omega (arith, count, c.requires.few)) (limited-push _ _ c.requires.limited c.requires.limited_shape) c.args.survey.now.ends c.requires.ends

pub adds_apart-requires-clause-definitions : goal.adds_apart-requires-clause-definitions
adds_apart-requires-clause-definitions c =
    subst (TellEarlier c.in_tree-searched.result c.args.names.now) (sym c.deref.ensures.value)
    (subst (λ ls. TellEarlier ls c.args.names.now c.args.survey.now.definitions.items) (sym (c.in_tree-searched.ensures ∙ c.as_slice-2.ensures))
    (tell-text c.args.survey.now.lines.items c.args.names.now c.args.survey.now.definitions.items c.requires.definitions))

pub adds_apart-requires-clause-uses : goal.adds_apart-requires-clause-uses
adds_apart-requires-clause-uses c = subst (λ ls. AreFirstUses ls c.uses.result.now) (sym (c.in_tree-searched.ensures ∙ c.as_slice-2.ensures)) c.uses.ensures

pub in_tree-searched-requires : goal.in_tree-searched-requires
in_tree-searched-requires c = all-first (c.requires.items ∙ sym c.as_slice-2.ensures)

pub stay_sections-requires-clause-ends_before : goal.stay_sections-requires-clause-ends_before
stay_sections-requires-clause-ends_before c =
    let count = length_of_shapes c.args.survey.now.lines.items c.args.survey.now.shapes.items c.requires.shapes in
    together-before c.args.survey.now.shapes.items c.args.shape (omega (arith, count, c.requires.few)) (limited-push _ _ c.requires.limited c.requires.limited_shape) c.args.survey.now.ends c.requires.ends

pub stay_sections-requires-clause-ends : goal.stay_sections-requires-clause-ends
stay_sections-requires-clause-ends c =
    let count = length_of_shapes c.args.survey.now.lines.items c.args.survey.now.shapes.items c.requires.shapes in
    together-all c.args.survey.now.shapes.items c.args.shape (omega (arith, count, c.requires.few)) (limited-push _ _ c.requires.limited c.requires.limited_shape) c.advance.new.self
    (ends-with c.args.survey.now.shapes.items c.args.shape c.args.survey.now.ends c.advance.new.self c.requires.ends c.advance.ensures)

pub last_place-place-requires-clause-behind : goal.last_place-place-requires-clause-behind
last_place-place-requires-clause-behind c =
    let shapes = c.args.survey.now.shapes.items in
    let all = ends-with shapes c.args.shape c.args.survey.now.ends c.advance.new.self c.requires.ends c.advance.ensures in (
      shapes,
      behind c.args.survey.now.lines.items shapes c.args.shape c.args.survey.now.ends c.advance.new.self c.requires.shapes c.requires.limited c.requires.limited_shape c.requires.few c.requires.ends all,
    )

pub adds_apart-requires-clause-locals : goal.adds_apart-requires-clause-locals
adds_apart-requires-clause-locals c = subst (λ ls. FindsLocals (program_of ls) (statement_of c.args.line.now) c.reach-from.result) (sym (c.in_tree-searched.ensures ∙ c.as_slice-2.ensures)) (λ number i has within before.
    let lines = c.args.survey.now.lines.items in
    subst (λ o. is_some o ≡ true) (local_line-row (program_of lines) c.args.survey.now.locals i number Forward c.requires.locals within)
    (c.reach-from.ensures.found number i (ap (among_local number) (c.as_slice.ensures ∙ ap (λ t. t.labels) c.stmt.ensures) ∙ has) before))

some-is : {x y : ℕ} → ◌≡◌ {A = Option ℕ} (Some x) (Some y) → x ≡ y
some-is e = cc

pub returns : goal.returns
returns c =
    let lines : List (List ℕ) = c.args.survey.now.lines.items in
    let s : Stmt = statement_of c.args.line.now in
    let p : Program = program_of lines in
    let t : ℕ = section_number c.last_place-place.result.section in
    let shapes = c.args.survey.now.shapes.items in
    let all = ends-with shapes c.args.shape c.args.survey.now.ends c.advance.new.self c.requires.ends c.advance.ensures in
    ending-line c.args.base c.args.survey.now.lines.items c.args.line.now c.reach-from.result shapes c.args.survey.now.ends _ _ c.requires.shapes c.requires.limited c.requires.few
    (subst (λ ls. IsApart (program_of ls) (statement_of c.args.line.now) c.reach-from.result) (c.in_tree-searched.ensures ∙ c.as_slice-2.ensures) c.in_ok-added.ensures.apart)
    (subst (λ ls. c.in_ok-added.added.any ≡ false → (name : List ℕ) → adds (program_of ls) (statement_of c.args.line.now) name ≡ false) (c.in_tree-searched.ensures ∙ c.as_slice-2.ensures) c.in_ok-added.ensures.nothing)
    c.requires.shape c.requires.limited_shape c.requires.ends all (c.stay_sections.ensures c.if-not-stay_sections.false)
    (c.last_place-place.ensures shapes (behind c.args.survey.now.lines.items shapes c.args.shape c.args.survey.now.ends c.advance.new.self c.requires.shapes c.requires.limited c.requires.limited_shape c.requires.few c.requires.ends all))
    (λ lies. elim c.if-brief.branch [
      | then-brief+in_ok-waiting_from w ↦
          subst (λ o. KeepsHighs c.args.base p (more p s) (suc (length p)) (option_map (λ first. t) o)) (sym w.waiting-is)
          (end-high c.args.base lines s t _ w.in_ok-waiting_from.ensures.waiting
          (and_from (section_number (section_at (more p s) (suc (length p))) == t) (not (size_at (more p s) (suc (length p)) == 0))
          (eq-eqb (section_number (section_at (more p s) (suc (length p)))) t (ap (λ l. section_number l.section) (sym lies)))
          (not_from_false (size_at (more p s) (suc (length p)) == 0) (ap (λ l. l.size == 0) (sym lies) ∙ w.in_ok-waiting_from.ensures.bytes))))
      | else-brief w ↦
          subst (λ o. KeepsHighs c.args.base p (more p s) (suc (length p)) (option_map (λ first. t) o)) (sym w.waiting-is)
          (end-plain c.args.base p s (no_high s c.brief.result c.brief.ensures w.if-brief.false))
    ])
    (λ first e. elim c.if-brief.branch [
      | then-brief+in_ok-waiting_from w ↦ (
        subst (AreBare p t) (some-is (sym w.waiting-is ∙ e)) w.in_ok-waiting_from.ensures.waiting.bare,
        one-high s.body (sym (ap (λ b. b.pcrel_high) c.brief.ensures) ∙ w.if-brief.true),
      )
      | else-brief w ↦ absurd (let no : None ≡ Some first = sym w.waiting-is ∙ e in cc)
    ])
    (subst (λ ls. c.in_ok-added.added.users.items ≡ lines_that (uses_any (touches (program_of ls) (statement_of c.args.line.now) c.reach-from.result) (program_of ls)) (length ls)) (c.in_tree-searched.ensures ∙ c.as_slice-2.ensures) c.in_ok-added.ensures.users)
