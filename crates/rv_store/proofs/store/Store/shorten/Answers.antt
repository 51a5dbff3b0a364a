use Rattle.std.proofs.Common.{◌≡◌, ◌+◌, ◌-◌, ◌≤◌, ◌<◌, suc, ℕ, List, [], ◌∷◌, ◌++◌, length, get_or, map, remove, arith, ap, sym, subst, ◌∙◌}
use Rattle.std.specs.List.{AllPass}
use Rattle.std.proofs.lemmas.List.{length-append, length-map, get_or_append_left}
use Rattle.std.proofs.Math.Seq.{get_or-append_seam}
use Rattle.rv_program.specs.declared.item.Item.{Item}
use Rattle.rv_program.specs.Changes.{changed_lines}
use Rattle.rv_program.specs.internal.Items.{AreItems}
use Rattle.rv_program.specs.Program.{program_of}
use Rattle.rv_program.specs.Text.{Text, Delete, is_line, lines_after, text_after}
use Rattle.rv_store.specs.declared.last_line.LastLine.{LastLine}
use Rattle.rv_store.specs.declared.survey.Survey.{Survey}
use Rattle.rv_store.specs.internal.StillLines.{IsStillLine, IsLastLine}
use Rattle.rv_store.specs.internal.Stored.{IsStored}
use Rattle.rv_store.specs.internal.Surveys.{IsSurvey}
use Rattle.rv_store.proofs.LastLines.{items-without, lines-without, nothing_changed}
use Rattle.rv_store.proofs.LongerTexts.{count-longer}
use Rattle.rv_store.proofs.TreeMemory.{place-by-memory}
use Rattle.rv_store.proofs.store.Store.shorten.Goals as goal

lined-without : (xs ys : List (List ℕ)) → AllPass is_line (xs ++ ys) → AllPass is_line xs
lined-without xs ys are = λ k d below. ap is_line (sym (get_or_append_left xs ys d k below)) ∙ are k d (omega (arith, below, length-append xs ys))

module _ (base : ℕ) (names : List (List ℕ)) (survey : Survey) (items : List Item) (stored : IsStored base (map (λ i. i.line) items) names survey items) (old : Text) (view : record { base = base; lines = map (λ i. i.line) items } ≡ old) (last : LastLine) (is : IsLastLine old.base old.lines last) where
  whole : map (λ i. i.line) items ≡ is.lines ++ is.line ∷ []
  whole = ap (λ t. t.lines) view ∙ is.whole

  still : IsStillLine base is.lines (length is.lines + 1) is.line is.there []
  still = subst (λ b. IsStillLine b is.lines (length is.lines + 1) is.line is.there []) (sym (ap (λ t. t.base) view)) is.still

  abbrev kept : IsLastLine base survey.lines.items last
  kept = record {
    lines = is.lines;
    line = is.line;
    there = is.there;
    whole = stored.listed ∙ whole;
    still = still;
    plain = is.plain;
    before = is.before;
    defines = is.defines;
    local = is.local;
  }

  surveyed : IsSurvey base (program_of survey.lines.items) names survey
  surveyed = subst (λ ls. IsSurvey base (program_of ls) names survey) (sym stored.listed) stored.surveyed

  count : length items ≡ suc (length is.lines)
  count = sym (length-map items (λ i. i.line)) ∙ ap length whole ∙ count-longer is.lines is.line

  number : length old.lines ≡ suc (length is.lines)
  number = ap length is.whole ∙ count-longer is.lines is.line

  held : length survey.lines.items ≡ suc (length is.lines)
  held = ap length (stored.listed ∙ whole) ∙ count-longer is.lines is.line

  some : 1 ≤ length survey.lines.items
  some = omega (arith, held)

  number-within : (k : ℕ) → k ≡ length items → (1 ≤ k) × (k ≤ length items)
  number-within k at_end = (omega (arith, at_end, count), omega (arith, at_end))

  last-held : (k : ℕ) → k ≡ length items → k - 1 < length survey.lines.items
  last-held k at_end = omega (arith, at_end, count, held)

  module _ (items' : List Item) (k : ℕ) (removed : items' ≡ remove items (k - 1)) (at_end : k ≡ length items) where
    items-left : AreItems base is.lines items'
    items-left =
        let place : k - 1 ≡ length is.lines = omega (arith, at_end, count) in
        subst (AreItems base is.lines) (sym (removed ∙ ap (remove items) place)) (items-without still is.plain items (subst (λ ls. AreItems base ls items) whole stored.assembled))

    text-left : record { base = base; lines = map (λ i. i.line) items' } ≡ text_after old (Delete (length old.lines))
    text-left =
        let left : map (λ i. i.line) items' ≡ lines_after old.lines (Delete (length old.lines)) =
        items-left.lines ∙ sym (lines-without still is.plain) ∙ (λ j. lines_after (sym is.whole j) (Delete (sym number j))) in
        λ i. record { base = (view i).base; lines = left i }

    stored-left : (new : Survey) → new.lines.items ≡ is.lines → IsSurvey base (program_of is.lines) names new → IsStored base (map (λ i. i.line) items') names new items'
    stored-left new listed now =
        let fewer = items-left.lines in record {
          based = stored.based;
          lined = subst (AllPass is_line) (sym fewer) (lined-without is.lines (is.line ∷ []) (subst (AllPass is_line) whole stored.lined));
          few = omega (arith, stored.few, ap length fewer, ap length whole, count-longer is.lines is.line);
          listed = listed ∙ sym fewer;
          surveyed = subst (λ ls. IsSurvey base (program_of ls) names new) (sym fewer) now;
          assembled = subst (λ ls. AreItems base ls items') (sym fewer) items-left;
        }

pub invariant_of-self : goal.invariant_of-self
invariant_of-self c =
    let base = c.self.inside.base in
    let names = c.self.inside.names in
    let survey = c.self.inside.survey in
    let items = c.self.inside.items.items in
    let is = kept base names survey items c.self.invariant c.args.self.now c.self.view_is c.args.last.now c.requires in
    let count-items = count base names survey items c.self.invariant c.args.self.now c.self.view_is c.args.last.now c.requires in
    stored-left base names survey items c.self.invariant c.args.self.now c.self.view_is c.args.last.now c.requires
    c.in_ok-items.items.items c.len-k.result c.in_ok-items.ensures.items c.len-k.ensures.value
    c.remove_last.new.self (c.remove_last.ensures.lines base is)
    (c.remove_last.ensures.survey base is
    (c.in_ok-line.ensures ∙ c.index-as_slice-k.is
    ∙ (λ i. get_or ((c.as_slice.ensures ∙ is.whole) i) (let place : c.len-k.result - 1 ≡ length c.requires.lines = omega (arith, c.len-k.ensures.value, count-items) in place i) c.index-as_slice-k.result)
    ∙ get_or-append_seam c.requires.lines c.requires.line [] c.index-as_slice-k.result)
    (surveyed base names survey items c.self.invariant c.args.self.now c.self.view_is c.args.last.now c.requires))

pub returns-clause-ok : goal.returns-clause-ok
returns-clause-ok c =
    text-left c.self.inside.base c.self.inside.names c.self.inside.survey c.self.inside.items.items c.self.invariant c.args.self.now c.self.view_is c.args.last.now c.requires
    c.in_ok-items.items.items c.len-k.result c.in_ok-items.ensures.items c.len-k.ensures.value

pub returns-clause-changed : goal.returns-clause-changed
returns-clause-changed c =
    let old = c.args.self.now in
    let is = c.requires in
    let count : length old.lines ≡ suc (length is.lines) = ap length is.whole ∙ count-longer is.lines is.line in
    c.of.ensures ∙ c.new.ensures.items ∙ sym (nothing_changed is.still is.plain) ∙ (λ j. changed_lines old.base (sym is.whole j) (Delete (sym count j)))

pub bounds-as_slice-k : goal.bounds-as_slice-k
bounds-as_slice-k c =
    subst (λ ls. c.len-k.result - 1 < length ls) (sym c.as_slice.ensures)
    (last-held c.self.inside.base c.self.inside.names c.self.inside.survey c.self.inside.items.items c.self.invariant c.args.self.now c.self.view_is c.args.last.now c.requires c.len-k.result c.len-k.ensures.value)

pub remove_last-requires-clause-some : goal.remove_last-requires-clause-some
remove_last-requires-clause-some c =
    some c.self.inside.base c.self.inside.names c.self.inside.survey c.self.inside.items.items c.self.invariant c.args.self.now c.self.view_is c.args.last.now c.requires

pub remove_last-requires-clause-few : goal.remove_last-requires-clause-few
remove_last-requires-clause-few c = subst (λ ls. length ls ≤ 16384) (sym c.self.invariant.listed) c.self.invariant.few

pub returns-in_err-items-clause-memory : goal.returns-in_err-items-clause-memory
returns-in_err-items-clause-memory c =
    let k = c.len-k.result in
    let items = c.self.inside.items.items in
    let within = number-within c.self.inside.base c.self.inside.names c.self.inside.survey items c.self.invariant c.args.self.now c.self.view_is c.args.last.now c.requires k c.len-k.ensures.value in
    place-by-memory c.from_residual.result c.in_err-items.field-0.0 k (length items) c.from_residual.ensures.1 c.in_err-items.ensures.refused within.0 within.1
