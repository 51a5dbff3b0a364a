-- A line of a text and the line that it was before an edit: whether a symbol differs on them, by the rows of the texts.
use Rattle.std.proofs.Common.{◌≡◌, ℕ, ◌≤◌, Some, Bool, true, false, not, ◌||◌, List, length, true≢false, ◌&&◌, ap, sym, ◌∙◌, refl}
use Rattle.std.proofs.lemmas.Bool.Decides.{same_from_decides}
use Rattle.std.proofs.lemmas.Bool.{or_parts}
use Rattle.std.specs.Bool.{Decides}
use Rattle.std.specs.List.{list_any}
use Rattle.rv_stmt.specs.declared.statement.Body.TheVariants as body
use Rattle.rv_stmt.specs.declared.statement.Body.{Body}
use Rattle.rv_fix.specs.Values.{Entry}
use Rattle.rv_program.specs.declared.before.Before.{Before}
use Rattle.rv_program.specs.declared.invalidation.LinePair.{LinePair}
use Rattle.rv_program.specs.declared.text_rows.TextRows.{TextRows}
use Rattle.rv_program.specs.internal.Before.{IsBefore, IsAfter, base_before, lines_before, edit_on}
use Rattle.rv_program.specs.Changes.{program_after, is_new_or, differs_in_name, differs_in_place, differs_in_uses, is_invalidated}
use Rattle.rv_program.specs.Constants.{constant_of}
use Rattle.rv_program.specs.Edits.{line_before_edit}
use Rattle.rv_program.specs.internal.LinePairs.{IsOpenPair, differs_in_name_on, program_before_pair, program_after_pair}
use Rattle.rv_program.specs.Program.{Program, program_of, body_at}
use Rattle.rv_program.specs.References.{usable_equs, symbol_through, reference_of}
use Rattle.rv_program.specs.Sameness.{same_constant, same_entry}
use Rattle.rv_program.specs.Text.{lines_after}
use Rattle.rv_program.specs.internal.TextRows.{program_in}
use Rattle.rv_program.specs.Uses.{names_used, uses_address, uses_local_label, uses_paired_high, is_equ}
use Rattle.rv_program.specs.lemmas.EarlierLines.{Stood, stood, statement-stood}
use Rattle.rv_program.specs.lemmas.Programs.{length-program}
use Rattle.rv_program.specs.lemmas.SamenessLaws.{same_entry-Decides}

-- A line that is no `.equ` may use all `.equ`s

usable-open : (program : Program) (i : ℕ) (b : Body) → is_equ b ≡ false → usable_equs program i b ≡ length program
usable-open program i (body.Equ d) none = absurd (true≢false none)
usable-open program i b none = refl

-- what a symbol gives where the `.equ`s of all lines may be used
abbrev pub symbol_at_end : TextRows → (name : List ℕ) → Entry
symbol_at_end text name = symbol_through text.base (program_in text) (length text.lines.now) name

pub reference-open : (text : TextRows) (line : ℕ) (name : List ℕ) → is_equ (body_at (program_in text) line) ≡ false → symbol_at_end text name ≡ reference_of text.base (program_in text) line name
reference-open text line name none =
    ap (λ k. symbol_through text.base (program_in text) k name)
    (sym (length-program text.lines.now) ∙ sym (usable-open (program_in text) line (body_at (program_in text) line) none))

-- Whether a symbol differs

-- `same`: it gives the same on both lines
module _ (pair : LinePair) (name : List ℕ) (is : IsOpenPair pair) (value value' : Entry) (after : value ≡ symbol_at_end pair.after.now.text name) (before : value' ≡ symbol_at_end pair.before.now.text name) (same : Bool) (decided : Decides same (value ≡ value')) where
  abbrev same_constants : Bool
  same_constants =
      same_constant (constant_of (program_after_pair pair) pair.line name) (constant_of (program_before_pair pair) pair.stood name)

  values : same ≡ same_entry (reference_of pair.before.now.text.base (program_after_pair pair) pair.line name) (reference_of pair.before.now.text.base (program_before_pair pair) pair.stood name)
  values =
      let here = after ∙ reference-open pair.after.now.text pair.line name is.no_equ ∙ ap (λ base. reference_of base (program_after_pair pair) pair.line name) is.lines.base in
      let there = before ∙ reference-open pair.before.now.text pair.stood name (ap is_equ (sym is.lines.body) ∙ is.no_equ) in
      same_from_decides same (same_entry value value') decided (same_entry-Decides value value') ∙ (λ i. same_entry (here i) (there i))

  -- where its values differ
  pub differs-by_value : same ≡ false → not same ≡ differs_in_name_on pair name
  differs-by_value h = ap not h ∙ ap (λ b. not b || not same_constants) (sym h) ∙ ap (λ s. not s || not same_constants) values

  -- where its values are the same
  pub differs-by_constant : same ≡ true → not same_constants ≡ differs_in_name_on pair name
  differs-by_constant h = ap (λ s. not s || not same_constants) (sym h ∙ values)

-- A line that uses no symbol that differs, its own address on one place alone, and nothing that is not compared

or_none : (b : Bool) → (b || false || false || false || false) ≡ b
or_none true = refl
or_none false = refl

pub uses-by_names : (base : ℕ) (before after : Program) (k j : ℕ) (b : Body) → (uses_address b && differs_in_place base before after k j) ≡ false → (uses_local_label b || uses_paired_high b || is_equ b) ≡ false → differs_in_uses base before after k j b ≡ list_any (differs_in_name base before after k j) (names_used b)
uses-by_names base before after k j b place uncompared =
    let all = or_parts (uses_local_label b || uses_paired_high b) (is_equ b) uncompared in
    let both = or_parts (uses_local_label b) (uses_paired_high b) all.0 in
    let names = list_any (differs_in_name base before after k j) (names_used b) in
    (λ i. names || place i || both.0 i || both.1 i || all.1 i) ∙ or_none names

pub same-by_brief : (base : ℕ) (before after : Program) (k j : ℕ) (b : Body) → list_any (differs_in_name base before after k j) (names_used b) ≡ false → (uses_address b && differs_in_place base before after k j) ≡ false → (uses_local_label b || uses_paired_high b || is_equ b) ≡ false → differs_in_uses base before after k j b ≡ false
same-by_brief base before after k j b names place uncompared =
    uses-by_names base before after k j b place uncompared ∙ names

-- The lines of an edit

module _ (before : Before) (after : TextRows) (line earlier : ℕ) (is : IsBefore before) (is_after : IsAfter before after) (first : 1 ≤ line) (last : line ≤ length after.lines.now) (stands : line_before_edit (edit_on before) line ≡ Some earlier) where
  within : line ≤ length (lines_after (lines_before before) (edit_on before))
  within = rw (← is_after.lines) last

  pub stood-before : Stood (lines_before before) (edit_on before) line earlier
  stood-before = stood (lines_before before) (edit_on before) line earlier is.allowed first within stands

  -- the line has the body that it had
  pub body-before : body_at (program_in after) line ≡ body_at (program_in before.symbols.text) earlier
  body-before =
      ap (λ lines. body_at (program_of lines) line) is_after.lines
      ∙ ap (λ s. s.body) (statement-stood (lines_before before) (edit_on before) line earlier first within stood-before)

  pub invalidated-by_uses : is_invalidated (base_before before) (lines_before before) (edit_on before) line ≡ differs_in_uses (base_before before) (program_in before.symbols.text) (program_in after) line earlier (body_at (program_in after) line)
  invalidated-by_uses =
      ap (is_new_or (λ j. differs_in_uses (base_before before) (program_of (lines_before before)) (program_after (lines_before before) (edit_on before)) line j (body_at (program_after (lines_before before) (edit_on before)) line))) stands
      ∙ ap (λ lines. differs_in_uses (base_before before) (program_in before.symbols.text) (program_of lines) line earlier (body_at (program_of lines) line)) (sym is_after.lines)
