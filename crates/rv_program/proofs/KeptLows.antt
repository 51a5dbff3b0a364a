-- What `%pcrel_lo` of symbols gives before an edit and after it, and lines of which that is the only operand.
use Rattle.std.proofs.Common.{◌≡◌, ℕ, ℤ, suc, ◌+◌, ◌-◌, ◌<◌, ◌≤◌, ◌⊎◌, inl, inr, Bool, true, false, true≢false, List, [], ◌∷◌, length, nat_le, Option, Some, None, is_some, Ok, Err, if◌then◌else◌, arith, ap, sym, subst, ◌∙◌, refl}
use Rattle.std.proofs.lemmas.Bool.{cases_lt, not-false, not_from_true, or_parts, false_from_ne_true}
use Rattle.std.proofs.lemmas.List.{get_or_past}
use Rattle.rv_expr.specs.declared.faults.ValueFault.TheVariants.{Undefined, LaterEqu, NoPartner}
use Rattle.rv_expr.specs.declared.tree.LabelReference.TheVariants as reference
use Rattle.rv_stmt.specs.declared.statement.Body.{Body}
use Rattle.rv_stmt.specs.Readings.{and_then}
use Rattle.rv_fix.specs.Values.{Entry}
use Rattle.rv_list.specs.declared.view.DefinitionPlace.{DefinitionPlace}
use Rattle.rv_list.specs.declared.view.DefinitionPlace.TheVariants.{Nowhere, Label as ByLabel, Equ}
use Rattle.rv_program.specs.declared.before.Before.{Before}
use Rattle.rv_program.specs.declared.brief.Brief.{Brief}
use Rattle.rv_program.specs.declared.name_set.Mark.{Mark}
use Rattle.rv_program.specs.declared.name_set.Mark.TheVariants.{Unknown, Same, Moved, Changed}
use Rattle.rv_program.specs.declared.text_rows.TextRows.{TextRows}
use Rattle.rv_program.specs.declared.used_names.UsedNames.TheVariants.{Few}
use Rattle.rv_program.specs.internal.Before.{IsBefore, IsAfter, base_before, lines_before, edit_on}
use Rattle.rv_program.specs.internal.Briefs.{brief_of}
use Rattle.rv_program.specs.Changes.{differs_in_name, is_due}
use Rattle.rv_program.specs.Definitions.{definition_of, is_defined}
use Rattle.rv_program.specs.internal.Differing.{moved_by, HasDiffering, IsSameLow, HasLows, HaveSameLows}
use Rattle.rv_program.specs.Edits.{line_before_edit}
use Rattle.rv_program.specs.internal.NameSets.{bucket_of, differs, IsBelow, HasMoved, Marks, mark_of, has_bucket, no_names, brief_of_names, may_have, IsOutside, IsMoved}
use Rattle.rv_program.specs.Pairs.{low_by, low_of_symbol, low_symbol_of, paired_high_of}
use Rattle.rv_program.specs.Program.{Program, program_of, statement_at, body_at}
use Rattle.rv_program.specs.References.{line_of_place, or_faulty_equ, by_definition, reference_of}
use Rattle.rv_program.specs.internal.Rows.{number_of, entry_at, AreHighs}
use Rattle.rv_program.specs.Sameness.{same_entry}
use Rattle.rv_program.specs.internal.TextRows.{AreTextRows, AreHighsIn, program_in}
use Rattle.rv_program.specs.Uses.{names_used, is_equ}
use Rattle.rv_program.proofs.CarriedLines.{moves-by}
use Rattle.rv_program.proofs.DifferingNames.{differing-on}
use Rattle.rv_program.proofs.DueLines.{reencoded-by_low, due-low}
use Rattle.rv_program.proofs.LinePairLaws.{body-before}
use Rattle.rv_program.specs.lemmas.LineNameLaws.{high-by, label_line-within}
use Rattle.rv_program.specs.lemmas.LowLines.{UsesLow, uses-low}
use Rattle.rv_program.specs.lemmas.NameRows.{number-below}
use Rattle.rv_program.specs.lemmas.NameSetLaws.{bucket-added}
use Rattle.rv_program.specs.lemmas.SamenessLaws.{same_entry-Decides}

-- Where no line has a high half, it gives a fault, by whether the symbol is defined

abbrev fault_by : (defined : Bool) → Entry
fault_by defined = Err (if defined then NoPartner else Undefined)

no-low : (place : DefinitionPlace) → low_by (and_then (line_of_place place) (λ line. Err NoPartner)) ≡ fault_by (is_defined place)
no-low Nowhere = refl
no-low (ByLabel line index) = refl
no-low (Equ line) = refl

low-by_definition : (base : ℕ) (program : Program) (highs : List Entry) (name : List ℕ) → AreHighs base program highs → length highs ≡ 0 → low_of_symbol base program name ≡ fault_by (is_defined (definition_of program name))
low-by_definition base program highs name are none =
    ap low_by (high-by (line_of_place (definition_of program name)) (paired_high_of base program) (λ line. Err NoPartner) (λ line found.
    let within = label_line-within program 0 (reference.Symbol name) line (omega arith) found in
    let next : suc (line - 1) ≡ line = omega (arith, within.0) in
    ap (paired_high_of base program) (sym next) ∙ sym (are.each (line - 1) (omega (arith, within.0, within.1))) ∙ get_or_past highs (line - 1) (Err NoPartner) (omega (arith, none))))
    ∙ no-low (definition_of program name)

pub lows-without : (before : Before) (after : TextRows) (highs : List Entry) → IsBefore before → AreHighsIn after highs → length highs ≡ 0 → length before.highs.now ≡ 0 → HasLows before after None
lows-without before after highs is are none none_before name defined =
    low-by_definition after.base (program_in after) highs name are none
    ∙ ap fault_by defined
    ∙ sym (low-by_definition (base_before before) (program_in before.symbols.text) before.highs.now name is.highs none_before)

-- What a symbol gives tells whether it is defined

abbrev is_value : Entry → Bool
is_value (Err Undefined) = false
is_value entry = true

usable-value : (test : Bool) (value : Entry) → is_value (if test then or_faulty_equ value else Err LaterEqu) ≡ true
usable-value true (Ok v) = refl
usable-value true (Err fault) = refl
usable-value false value = refl

value-defined : (address : ℕ → ℕ) (k : ℕ) (place : DefinitionPlace) (value : Entry) → is_value (by_definition address k place value) ≡ is_defined place
value-defined address k Nowhere value = refl
value-defined address k (ByLabel line index) value = refl
value-defined address k (Equ line) value = usable-value (nat_le line k) value

moved-defined : (shift : ℤ) (entry : Entry) → is_value (moved_by shift entry) ≡ is_value entry
moved-defined shift (Ok v) = refl
moved-defined shift (Err fault) = refl

reference-defined : (base : ℕ) (program : Program) (i : ℕ) (name : List ℕ) → is_value (reference_of base program i name) ≡ is_defined (definition_of program name)
reference-defined base program i name = value-defined _ _ (definition_of program name) _

module _ (before : Before) (after : TextRows) (line stood : ℕ) (is : IsBefore before) (is_after : IsAfter before after) (first : 1 ≤ line) (last : line ≤ length after.lines.now) (stands : line_before_edit (edit_on before) line ≡ Some stood) (set : Marks) (has : HasDiffering (base_before before) (lines_before before) (edit_on before) set) (no_equ : is_equ (body_at (program_in after) line) ≡ false) (name : List ℕ) where
  abbrev IsDefinedAsBefore : Type 0
  IsDefinedAsBefore = is_defined (definition_of (program_in after) name) ≡ is_defined (definition_of (program_in before.symbols.text) name)

  -- a symbol that gives what it gave
  defined-unless : has_bucket set (bucket_of name) ≡ false → IsDefinedAsBefore
  defined-unless outside = at (differing-on before after line stood is is_after first last stands set has no_equ name)
    where
      at : (has_bucket set (bucket_of name) ≡ true) ⊎ (differs_in_name (base_before before) (program_in before.symbols.text) (program_in after) line stood name ≡ false) → IsDefinedAsBefore
      at (inl inside) = absurd (true≢false (sym inside ∙ outside))
      at (inr same) =
          let here = reference_of (base_before before) (program_in after) line name in
          let there = reference_of (base_before before) (program_in before.symbols.text) stood name in
          let gives : here ≡ there = (same_entry-Decides here there).0 (not-false (same_entry here there) (or_parts _ _ same).0) in
          sym (reference-defined (base_before before) (program_in after) line name) ∙ ap is_value gives ∙ reference-defined (base_before before) (program_in before.symbols.text) stood name

  -- one that moved, if it gives an address
  defined-moved : HasMoved (mark_of set (bucket_of name)) → IsDefinedAsBefore
  defined-moved moved =
      let edited = ap program_of is_after.lines in
      let there = body-before before after line stood is is_after first last stands in
      let moves = moves-by (base_before before) (lines_before before) (edit_on before) name set.shift (mark_of set (bucket_of name)) moved (has name) in
      let gives : reference_of (base_before before) (program_in after) line name ≡ moved_by set.shift (reference_of (base_before before) (program_in before.symbols.text) stood name) =
      ap (λ p. reference_of (base_before before) p line name) edited
      ∙ moves line stood stands (ap (λ p. is_equ (body_at p line)) (sym edited) ∙ no_equ) (ap is_equ (sym there) ∙ no_equ) in
      sym (reference-defined (base_before before) (program_in after) line name)
      ∙ ap is_value gives
      ∙ moved-defined set.shift (reference_of (base_before before) (program_in before.symbols.text) stood name)
      ∙ reference-defined (base_before before) (program_in before.symbols.text) stood name

-- A loop over the names

-- the set has each of the first n names for which it gives something else
abbrev pub HasLowsBelow : (n : ℕ) → (names : List (List ℕ)) → Before → (after : TextRows) → Marks → Type 0
HasLowsBelow n names before after set =
    (name : List ℕ) (number : ℕ) → number_of names name ≡ Some number → number < n → has_bucket set (bucket_of name) ≡ false → IsSameLow before after name

-- more names are in a set where each mark says less
stays-outside : (mark other : Mark) → IsBelow mark other → differs other ≡ false → differs mark ≡ false
stays-outside Unknown other below outside = refl
stays-outside Same other below outside = refl
stays-outside Moved Moved below outside = outside
stays-outside Moved Changed below outside = outside
stays-outside Changed Changed below outside = outside
stays-outside mark other below outside = absurd below

-- a symbol is in the set that it was added to
pub changed-inside : (mark : Mark) → IsBelow Changed mark → differs mark ≡ true
changed-inside Changed below = refl
changed-inside mark below = absurd below

module _ (before : Before) (after : TextRows) (names : List (List ℕ)) (n : ℕ) (set added : Marks) (so_far : HasLowsBelow n names before after set) (kept : (bucket : ℕ) → IsBelow (mark_of set bucket) (mark_of added bucket)) where
  -- the next name is in the set, or it gives what it gave
  pub lows-next : ((name : List ℕ) → number_of names name ≡ Some n → has_bucket added (bucket_of name) ≡ false → IsSameLow before after name) → HasLowsBelow (n + 1) names before after added
  lows-next next name number is below outside = at (cases_lt number n)
    where
      at : (number < n) ⊎ (n ≤ number) → IsSameLow before after name
      at (inl earlier) =
          so_far name number is earlier (stays-outside (mark_of set (bucket_of name)) (mark_of added (bucket_of name)) (kept (bucket_of name)) outside)
      at (inr last) = let here : number ≡ n = omega (arith, below, last) in next name (is ∙ ap Some here) outside

module _ (before : Before) (after : TextRows) (is : IsBefore before) (are : AreTextRows after) (is_after : IsAfter before after) where
  unnumbered : (name : List ℕ) → number_of after.names.now name ≡ None → IsSameLow before after name
  unnumbered name none =
      let none' : number_of before.symbols.text.names.now name ≡ None = ap (λ names. number_of names name) (sym is_after.names) ∙ none in
      let here : definition_of (program_in after) name ≡ Nowhere = sym (ap (λ f. f name) are.defined.each) ∙ ap (entry_at after.definitions.now Nowhere) none in
      let there : definition_of (program_in before.symbols.text) name ≡ Nowhere =
      sym (ap (λ f. f name) is.symbols.text.defined.each) ∙ ap (entry_at before.symbols.text.definitions.now Nowhere) none' in
      ap (λ place. low_by (and_then (line_of_place place) (paired_high_of after.base (program_in after)))) here
      ∙ sym (ap (λ place. low_by (and_then (line_of_place place) (paired_high_of (base_before before) (program_in before.symbols.text)))) there)

  -- all names have been looked at
  pub lows-below : (n : ℕ) → length after.names.now ≤ n → (set : Marks) → HasLowsBelow n after.names.now before after set → HasLows before after (Some set)
  lows-below n all set so_far name outside = at (number_of after.names.now name) refl
    where
      at : (number : Option ℕ) → number_of after.names.now name ≡ number → IsSameLow before after name
      at None e = unnumbered name e
      at (Some number) e = so_far name number e (let within = number-below after.names.now name number e in omega (arith, within, all)) outside

-- A line of which that is the only operand

module _ (before : Before) (after : TextRows) (line : ℕ) (is : IsBefore before) (is_after : IsAfter before after) (first : 1 ≤ line) (last : line ≤ length after.lines.now) (set : Marks) (has : HasDiffering (base_before before) (lines_before before) (edit_on before) set) (lows : Option Marks) (has_lows : HasLows before after lows) (brief : Brief) (of_line : brief ≡ brief_of (statement_at (program_in after) line)) where
  abbrev body : Body
  body = body_at (program_in after) line

  -- its symbol is not in a set that its names do not meet
  outside-of : (name : List ℕ) → names_used body ≡ name ∷ [] → (others : Marks) → IsOutside brief.names others → has_bucket others (bucket_of name) ≡ false
  outside-of name only others apart =
      let used : may_have brief.names (bucket_of name) ≡ true =
      ap (λ b. may_have b.names (bucket_of name)) of_line ∙ ap (λ ns. may_have (brief_of_names ns) (bucket_of name)) only ∙ bucket-added no_names (bucket_of name) in
      false_from_ne_true (has_bucket others (bucket_of name)) (λ inside. true≢false (sym used ∙ apart (bucket_of name) inside))

  moved-of : (name : List ℕ) → names_used body ≡ name ∷ [] → IsMoved brief.names set → HasMoved (mark_of set (bucket_of name))
  moved-of name only moved =
      let bucket : moved.0 ≡ bucket_of name =
      (let same : Few (Some moved.0) None ≡ Few (Some (bucket_of name)) None = sym moved.1 ∙ ap (λ b. b.names) of_line ∙ ap brief_of_names only in cc) in
      subst (λ b. HasMoved (mark_of set b)) bucket moved.2

  same-low : (stood : ℕ) → line_before_edit (edit_on before) line ≡ Some stood → (name : List ℕ) → UsesLow body name → (o : Option Marks) → HasLows before after o → HaveSameLows brief.names set o → IsSameLow before after name
  same-low stood stands name uses (Some others) gives apart = gives name (outside-of name uses.names others apart)
  same-low stood stands name uses None gives (inl moved) =
      gives name (defined-moved before after line stood is is_after first last stands set has uses.no_equ name (moved-of name uses.names moved))
  same-low stood stands name uses None gives (inr apart) =
      gives name (defined-unless before after line stood is is_after first last stands set has uses.no_equ name (outside-of name uses.names set apart))

  -- it stayed, and its symbol gives what it gave
  pub kept-low : (line_before_edit (edit_on before) line ≡ None → ⊥) → brief.low ≡ true → HaveSameLows brief.names set lows → is_due (base_before before) (lines_before before) (edit_on before) line ≡ false
  kept-low stays low apart = at (low_symbol_of body) refl (line_before_edit (edit_on before) line) refl
    where
      at : (symbol : Option (List ℕ)) → low_symbol_of body ≡ symbol → (stood : Option ℕ) → line_before_edit (edit_on before) line ≡ stood → is_due (base_before before) (lines_before before) (edit_on before) line ≡ false
      at None goes stood stands = absurd (true≢false (sym low ∙ ap (λ b. b.low) of_line ∙ ap is_some goes))
      at (Some name) goes None new = absurd (stays new)
      at (Some name) goes (Some stood) stands =
          let same : IsSameLow before after name = same-low stood stands name (uses-low name body goes) lows has_lows apart in
          let there = body-before before after line stood is is_after first last stands in
          let x = low_of_symbol after.base (program_in after) name in
          let y = low_of_symbol (base_before before) (program_in before.symbols.text) name in
          sym (due-low (base_before before) (lines_before before) (edit_on before) line name (ap (λ lines. low_symbol_of (body_at (program_of lines) line)) (sym is_after.lines) ∙ goes))
          ∙ sym (reencoded-by_low before after line stood name is_after stands goes (sym there))
          ∙ not_from_true (same_entry x y) ((same_entry-Decides x y).1 same)
