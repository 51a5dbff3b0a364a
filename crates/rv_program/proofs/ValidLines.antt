-- Lines that an edit does not invalidate, by their briefs.
use Rattle.std.proofs.Common.{◌≡◌, ℕ, ◌+◌, ◌-◌, ◌<◌, ◌≤◌, inr, Bool, true, false, not, ◌&&◌, ◌||◌, List, [], length, get_or, Option, Some, None, arith, ap, sym, subst, ◌∙◌, refl}
use Rattle.std.specs.List.{list_any}
use Rattle.std.proofs.lemmas.Bool.{and_right, or_parts}
use Rattle.std.proofs.lemmas.List.{get_or_default}
use Rattle.rv_stmt.specs.declared.statement.Body.{Body}
use Rattle.rv_stmt.specs.Statement.{statement_of}
use Rattle.rv_program.specs.declared.before.Before.{Before}
use Rattle.rv_program.specs.declared.brief.Brief.{Brief}
use Rattle.rv_program.specs.declared.mask.Kind.{Kind}
use Rattle.rv_program.specs.declared.mask.Mask.{Mask}
use Rattle.rv_program.specs.declared.mask.Kind.TheVariants.{Addressed, Uncompared}
use Rattle.rv_program.specs.declared.text_rows.TextRows.{TextRows}
use Rattle.rv_program.specs.internal.Before.{IsBefore, IsAfter, AreStill, base_before, lines_before, edit_on}
use Rattle.rv_program.specs.internal.Briefs.{brief_of}
use Rattle.rv_program.specs.Changes.{differs_in_name, differs_in_place, is_invalidated, is_due}
use Rattle.rv_program.specs.internal.Differing.{HasDiffering, HasLows, HaveSameLows, HasDueMask}
use Rattle.rv_program.specs.Edits.{line_before_edit, place_of_edit}
use Rattle.rv_program.specs.internal.LineSearch.{LineLacks, AreUnwanted}
use Rattle.rv_program.specs.internal.LinesWithout.{is_of_kind}
use Rattle.rv_program.specs.internal.Masks.{has_name, has_kind}
use Rattle.rv_program.specs.internal.NameSets.{Marks, brief_of_names, has_bucket, may_have, IsOutside}
use Rattle.rv_program.specs.Program.{Program, program_of, statement_at, body_at}
use Rattle.rv_program.specs.internal.TextRows.{program_in}
use Rattle.rv_program.specs.Uses.{names_used, uses_address, uses_local_label, uses_paired_high, is_equ}
use Rattle.rv_program.proofs.DifferingNames.{differing-on}
use Rattle.rv_program.proofs.DueLines.{due-valid}
use Rattle.rv_program.proofs.KeptLows.{kept-low}
use Rattle.rv_program.proofs.LinePairLaws.{same-by_brief, invalidated-by_uses}
use Rattle.rv_program.specs.lemmas.LineMasks.{unwanted-unused, unwanted-kind}
use Rattle.rv_program.specs.lemmas.LocalLines.{statement-of-line}
use Rattle.rv_program.specs.lemmas.LowLines.{nothing-left}
use Rattle.rv_program.specs.lemmas.NameSetLaws.{none-passes}
use Rattle.rv_program.specs.lemmas.NewShapeLaws.{new-place}

module _ (before : Before) (after : TextRows) (line : ℕ) (is : IsBefore before) (is_after : IsAfter before after) (first : 1 ≤ line) (last : line ≤ length after.lines.now) (set : Marks) (has : HasDiffering (base_before before) (lines_before before) (edit_on before) set) (brief : Brief) (of_line : brief ≡ brief_of (statement_at (program_in after) line)) where
  -- a line that stayed, and uses no symbol that differs, nor its own address where it moved, nor what is not compared
  pub valid-by_brief : (line_before_edit (edit_on before) line ≡ None → ⊥) → brief.uncompared ≡ false → IsOutside brief.names set → ((stood : ℕ) → line_before_edit (edit_on before) line ≡ Some stood → (brief.address && differs_in_place (base_before before) (program_in before.symbols.text) (program_in after) line stood) ≡ false) → is_invalidated (base_before before) (lines_before before) (edit_on before) line ≡ false
  valid-by_brief stays compared apart place = at (line_before_edit (edit_on before) line) refl
    where
      old : Program
      old = program_in before.symbols.text

      new : Program
      new = program_in after

      body : Body
      body = body_at new line

      compared_body : (uses_local_label body || uses_paired_high body || is_equ body) ≡ false
      compared_body = sym (ap (λ b. b.uncompared) of_line) ∙ compared

      no_equ : is_equ body ≡ false
      no_equ = (or_parts (uses_local_label body || uses_paired_high body) (is_equ body) compared_body).1

      apart_body : IsOutside (brief_of_names (names_used body)) set
      apart_body bucket has = sym (ap (λ b. may_have b.names bucket) of_line) ∙ apart bucket has

      at : (stood : Option ℕ) → line_before_edit (edit_on before) line ≡ stood → is_invalidated (base_before before) (lines_before before) (edit_on before) line ≡ false
      at None new_line = absurd (stays new_line)
      at (Some stood) stands =
          let names : list_any (differs_in_name (base_before before) old new line stood) (names_used body) ≡ false =
          none-passes (has_bucket set) (differs_in_name (base_before before) old new line stood) (differing-on before after line stood is is_after first last stands set has no_equ) (names_used body) apart_body in
          let unmoved : (uses_address body && differs_in_place (base_before before) old new line stood) ≡ false =
          ap (λ used. used && differs_in_place (base_before before) old new line stood) (sym (ap (λ b. b.address) of_line)) ∙ place stood stands in
          invalidated-by_uses before after line stood is is_after first last stands
          ∙ same-by_brief (base_before before) old new line stood body names unmoved compared_body

  -- a line that stayed, and has nothing of the mask of those that may be due
  pub not_due-by_mask : (lows : Option Marks) → HasLows before after lows → (text : List ℕ) → statement_at (program_in after) line ≡ statement_of text → (still : Bool) (wanted : Mask) → HasDueMask set lows still wanted → LineLacks wanted text → (still ≡ true → AreStill before after) → (line_before_edit (edit_on before) line ≡ None → ⊥) → is_due (base_before before) (lines_before before) (edit_on before) line ≡ false
  not_due-by_mask lows has_lows text statement still wanted due apart unmoved stays = by_low brief.low refl
    where
      is_brief : brief ≡ brief_of (statement_of text)
      is_brief = of_line ∙ ap brief_of statement

      unused : (names : Marks) → ((bucket : ℕ) → has_bucket names bucket ≡ true → has_name wanted bucket ≡ true) → IsOutside brief.names names
      unused names masked bucket has = ap (λ b. may_have b.names bucket) is_brief ∙ unwanted-unused text wanted apart bucket (masked bucket has)

      without : (kind : Kind) → has_kind wanted kind ≡ true → is_of_kind kind (statement_of text).body ≡ false
      without kind is = unwanted-kind text wanted apart kind is

      at : (b : Bool) → still ≡ b → (stood : ℕ) → line_before_edit (edit_on before) line ≡ Some stood → (brief.address && differs_in_place (base_before before) (program_in before.symbols.text) (program_in after) line stood) ≡ false
      at false moved stood stands =
          ap (λ used. used && differs_in_place (base_before before) (program_in before.symbols.text) (program_in after) line stood)
          (ap (λ b. b.address) is_brief ∙ without Addressed (due.addressed moved))
      at true same stood stands = and_right brief.address _ (unmoved same line stood first last stands)

      -- one that is found by its symbol, or by nothing of other lines
      by_low : (low : Bool) → brief.low ≡ low → is_due (base_before before) (lines_before before) (edit_on before) line ≡ false
      by_low true is_low = kept-low before after line is is_after first last set has lows has_lows brief of_line stays is_low (same lows refl)
        where
          same : (o : Option Marks) → lows ≡ o → HaveSameLows brief.names set o
          same None e = inr (unused set due.names)
          same (Some others) e = unused others (due.of_lows others e)
      by_low false no_low =
          let compared : brief.uncompared ≡ false =
          nothing-left brief.uncompared brief.low (ap (λ b. b.uncompared && not b.low) is_brief ∙ without Uncompared due.uncompared) no_low in
          let valid = valid-by_brief stays compared (unused set due.names) (at still refl) in
          sym (due-valid (base_before before) (lines_before before) (edit_on before) line is.allowed first (subst (λ ls. line ≤ length ls) is_after.lines last) valid)

-- Lines that have nothing of the mask of those that may be due

module _ (before : Before) (after : TextRows) (lines : List (List ℕ)) (still : Bool) (wanted : Mask) (set : Marks) (lows : Option Marks) (is : IsBefore before) (is_after : IsAfter before after) (column : lines ≡ after.lines.now) (unmoved : still ≡ true → AreStill before after) (has : HasDiffering (base_before before) (lines_before before) (edit_on before) set) (has_lows : HasLows before after lows) (due : HasDueMask set lows still wanted) where
  -- none of them is due, but for the one that the edit puts in
  pub due-apart : (i j : ℕ) → j ≤ length lines → AreUnwanted wanted lines i j → ((k : ℕ) → i ≤ k → k < j → k + 1 ≡ place_of_edit (edit_on before) → ⊥) → (line : ℕ) → i < line → line ≤ j → is_due (base_before before) (lines_before before) (edit_on before) line ≡ false
  due-apart i j last others apart line past within =
      let k = line - 1 in
      let next : k + 1 ≡ line = omega (arith, past) in
      let few : k < length lines = omega (arith, past, within, last) in
      let text = get_or lines k [] in
      let first : 1 ≤ line = omega (arith, past) in
      let inside : line ≤ length after.lines.now = omega (arith, few, ap length column, next) in
      let statement : statement_at (program_in after) line ≡ statement_of text =
      ap (λ ls. statement_at (program_of ls) line) (sym column)
      ∙ ap (statement_at (program_of lines)) (sym next)
      ∙ statement-of-line lines k text few (get_or_default lines k [] text few) in
      not_due-by_mask before after line is is_after first inside set has (brief_of (statement_at (program_in after) line)) refl lows has_lows text statement still wanted due
      (others k (omega (arith, past)) (omega (arith, past, within))) unmoved
      (λ new. apart k (omega (arith, past)) (omega (arith, past, within)) (next ∙ new-place (edit_on before) line new))
