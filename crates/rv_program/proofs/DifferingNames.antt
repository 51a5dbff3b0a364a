-- Symbols that give the same before an edit and after it.
use Rattle.std.proofs.Common.{◌≡◌, ℕ, ℤ, eqb, ◌+◌, ◌<◌, ◌≤◌, ◌⊎◌, inl, inr, true, false, not, ◌||◌, List, length, Option, Some, None, Ok, Err, pos, arith, ap, sym, subst, ◌∙◌, refl}
use Rattle.std.specs.Option.{option_eq}
use Rattle.std.proofs.lemmas.Bool.{cases_lt, eqb-true, false≢true}
use Rattle.std.proofs.lemmas.Bool.Decides.{nat_tests}
use Rattle.std.proofs.lemmas.Grind.{common_steps}
use Rattle.rv_expr.specs.declared.faults.ValueFault.TheVariants.{Undefined}
use Rattle.rv_list.specs.declared.view.DefinitionPlace.{DefinitionPlace}
use Rattle.rv_list.specs.declared.view.DefinitionPlace.TheVariants.{Nowhere, Label as ByLabel, Equ}
use Rattle.rv_program.specs.declared.before.Before.{Before}
use Rattle.rv_program.specs.declared.name_set.Mark.{Mark}
use Rattle.rv_program.specs.declared.name_set.Mark.TheVariants.{Unknown, Same, Moved, Changed}
use Rattle.rv_program.specs.declared.symbol_rows.SymbolRows.{SymbolRows}
use Rattle.rv_program.specs.declared.text_rows.TextRows.{TextRows}
use Rattle.rv_program.specs.internal.Before.{IsBefore, IsAfter, base_before, lines_before, edit_on}
use Rattle.rv_program.specs.Changes.{program_after, differs_in_name}
use Rattle.rv_program.specs.Constants.{constant_of}
use Rattle.rv_program.specs.Definitions.{definition_of, equ_line}
use Rattle.rv_program.specs.internal.Differing.{IsOneConstant, DiffersNowhere, TellsAddress, moved_by, MovesBy, Tells, HasDiffering}
use Rattle.rv_program.specs.Edits.{line_before_edit}
use Rattle.rv_program.specs.Layout.{address_at}
use Rattle.rv_program.specs.internal.NameSets.{bucket_of, differs, IsBelow, Marks, mark_of, Has}
use Rattle.rv_program.specs.Program.{Program, program_of, body_at}
use Rattle.rv_program.specs.References.{by_definition, equ_value, reference_of}
use Rattle.rv_program.specs.internal.Rows.{number_of, entry_at, in_row, AreConstants}
use Rattle.rv_program.specs.internal.SymbolRows.{AreSymbolRows}
use Rattle.rv_program.specs.Text.{Edit, Insert}
use Rattle.rv_program.specs.internal.TextRows.{program_in}
use Rattle.rv_program.specs.Uses.{is_equ}
use Rattle.rv_program.specs.lemmas.ConstantLaws.{constant-of_other, constant-of_later, constant-of_earlier}
use Rattle.rv_program.specs.lemmas.DefinitionLaws.{IsWithin, definition-within}
use Rattle.rv_program.proofs.LinePairLaws.{symbol_at_end, reference-open, body-before}
use Rattle.rv_program.specs.lemmas.NameRows.{number-below}
use Rattle.rv_program.specs.lemmas.Programs.{length-program}
use Rattle.rv_program.specs.lemmas.SamenessLaws.{same_entry-Decides, same_constant-Decides}

-- Lines keep their order

-- line j before one that stood at d, as line k after it
pub record IsInOrder (k j l d : ℕ) : Type 0 where
  pub below : k < l → j < d
  pub above : k ≤ l → j ≤ d

pub in-order : (edit : Edit) (k j l d : ℕ) → line_before_edit edit k ≡ Some j → line_before_edit edit l ≡ Some d → IsInOrder k j l d
in-order (Insert place line) k j l d e f = record { below = λ h. grind (arith, nat_tests, common_steps); above = λ h. grind (arith, nat_tests, common_steps) }
in-order _ k j l d e f = record { below = λ h. grind (arith, nat_tests, common_steps); above = λ h. grind (arith, nat_tests, common_steps) }

-- Places of definitions

none-equ : (place : DefinitionPlace) → equ_line place ≡ None → (place ≡ Nowhere) ⊎ ((defining : ℕ) × (index : ℕ) × (place ≡ ByLabel defining index))
none-equ Nowhere e = inl refl
none-equ (ByLabel line index) e = inr (line, index, refl)
none-equ (Equ line) e = absurd (let no : Some line ≡ None = e in cc)

some-equ : (place : DefinitionPlace) (line : ℕ) → equ_line place ≡ Some line → place ≡ Equ line
some-equ (Equ d) line e = ap Equ (let is : Some d ≡ Some line = e in cc)
some-equ _ line e = absurd (let no : None ≡ Some line = e in cc)

-- the `.equ` is on a line of the text
pub equ-within : (program : Program) (name : List ℕ) (line : ℕ) → equ_line (definition_of program name) ≡ Some line → line ≤ length program
equ-within program name line e =
    let within : IsWithin 1 (1 + length program) (Equ line) = subst (IsWithin 1 (1 + length program)) (some-equ (definition_of program name) line e) (definition-within program name) in
    omega (arith, within.1)

pub same-line : (o : Option ℕ) (line : ℕ) → option_eq eqb o (Some line) ≡ true → o ≡ Some line
same-line None line e = absurd (false≢true e)
same-line (Some k) line e = ap Some (eqb-true k line e)

no-constant : (program : Program) (name : List ℕ) → equ_line (definition_of program name) ≡ None → (line : ℕ) → constant_of program line name ≡ None
no-constant program name e line = constant-of_other program line name (definition_of program name) refl (none-equ (definition_of program name) e)

-- a symbol that is defined nowhere gives no value
undefined : (text : TextRows) (name : List ℕ) → definition_of (program_in text) name ≡ Nowhere → symbol_at_end text name ≡ Err Undefined
undefined text name none =
    ap (λ place. by_definition (address_at text.base (program_in text)) (length text.lines.now) place (equ_value text.base (program_in text) (length text.lines.now) name)) none

-- what a mark tells of two addresses it tells of them by other names
pub told-of : (shift shift' : ℤ) (mark : Mark) (stood address stood' address' : ℕ) → TellsAddress shift mark stood address → shift ≡ shift' → stood ≡ stood' → address ≡ address' → TellsAddress shift' mark stood' address'
told-of shift shift' mark stood address stood' address' told same same_stood same_address = rw (sym same, sym same_stood, sym same_address) told

-- The symbols of a text before an edit and after it

module _ (before : Before) (after : SymbolRows) (is : IsBefore before) (rows : AreSymbolRows after) (is_after : IsAfter before after.text) where
  program-edited : program_in after.text ≡ program_after (lines_before before) (edit_on before)
  program-edited = ap program_of is_after.lines

  constants : AreConstants (program_in after.text) (length (program_in after.text)) after.text.names.now after.constants.now
  constants =
      subst (λ n. AreConstants (program_in after.text) n after.text.names.now after.constants.now) (sym (length-program after.text.lines.now)) rows.constants

  constants-before : AreConstants (program_in before.symbols.text) (length (program_in before.symbols.text)) before.symbols.text.names.now before.symbols.constants.now
  constants-before =
      subst (λ n. AreConstants (program_in before.symbols.text) n before.symbols.text.names.now before.symbols.constants.now) (sym (length-program (lines_before before))) is.symbols.constants

  module _ (name : List ℕ) where
    -- a symbol that no `.equ` defines
    pub one-by_none : equ_line (definition_of (program_in after.text) name) ≡ None → equ_line (definition_of (program_in before.symbols.text) name) ≡ None → IsOneConstant (lines_before before) (edit_on before) name
    one-by_none none none' =
        λ k j stands.
        ap (λ p. constant_of p k name) (sym program-edited)
        ∙ no-constant (program_in after.text) name none k
        ∙ sym (no-constant (program_in before.symbols.text) name none' j)

    -- one whose `.equ` stayed, and defines the same constant
    module _ (line stood : ℕ) (here : equ_line (definition_of (program_in after.text) name) ≡ Some line) (there : equ_line (definition_of (program_in before.symbols.text) name) ≡ Some stood) (stays : line_before_edit (edit_on before) line ≡ Some stood) (same : in_row after.text.names.now after.constants.now None name ≡ in_row before.symbols.text.names.now before.symbols.constants.now None name) where
      on-line : (k j : ℕ) → IsInOrder line stood k j → IsInOrder k j line stood → (line < k) ⊎ (k ≤ line) → constant_of (program_in after.text) k name ≡ constant_of (program_in before.symbols.text) j name
      on-line k j order back (inl later) =
          sym (constant-of_earlier (program_in after.text) after.text.names.now after.constants.now k name line constants (some-equ _ line here) later)
          ∙ same
          ∙ constant-of_earlier (program_in before.symbols.text) before.symbols.text.names.now before.symbols.constants.now j name stood constants-before (some-equ _ stood there) (order.below later)
      on-line k j order back (inr earlier) =
          constant-of_later (program_in after.text) k name line (some-equ _ line here) earlier
          ∙ sym (constant-of_later (program_in before.symbols.text) j name stood (some-equ _ stood there) (back.above earlier))

      pub one-by_equ : IsOneConstant (lines_before before) (edit_on before) name
      one-by_equ =
          λ k j stands.
          ap (λ p. constant_of p k name) (sym program-edited)
          ∙ on-line k j (in-order (edit_on before) line stood k j stays stands) (in-order (edit_on before) k j line stood stands stays) (cases_lt line k)

    -- one that gives the same value on all lines that are no `.equ`, and is one constant
    pub nowhere-by_value : symbol_at_end after.text name ≡ symbol_at_end before.symbols.text name → IsOneConstant (lines_before before) (edit_on before) name → DiffersNowhere (base_before before) (lines_before before) (edit_on before) name
    nowhere-by_value value constant k j stands no_equ no_equ' =
        let base = base_before before in
        let p = program_after (lines_before before) (edit_on before) in
        let q = program_of (lines_before before) in
        let here : symbol_at_end after.text name ≡ reference_of base p k name =
        reference-open after.text k name (ap (λ p. is_equ (body_at p k)) program-edited ∙ no_equ)
        ∙ (λ i. reference_of (is_after.base i) (program-edited i) k name) in
        let entry = (same_entry-Decides (reference_of base p k name) (reference_of base q j name)).1 (sym here ∙ value ∙ reference-open before.symbols.text j name no_equ') in
        let same = (same_constant-Decides (constant_of p k name) (constant_of q j name)).1 (constant k j stands) in
        λ i. not (entry i) || not (same i)

    -- one that gives an address that is so much greater on all lines that are no `.equ`
    pub moves-by_value : (shift : ℤ) → symbol_at_end after.text name ≡ moved_by shift (symbol_at_end before.symbols.text name) → MovesBy (base_before before) (lines_before before) (edit_on before) shift name
    moves-by_value shift value k j stands no_equ no_equ' =
        let p = program_after (lines_before before) (edit_on before) in
        let here : symbol_at_end after.text name ≡ reference_of (base_before before) p k name =
        reference-open after.text k name (ap (λ p. is_equ (body_at p k)) program-edited ∙ no_equ)
        ∙ (λ i. reference_of (is_after.base i) (program-edited i) k name) in
        sym here ∙ value ∙ ap (moved_by shift) (reference-open before.symbols.text j name no_equ')

    -- a label, by the address that it had and the one that it has
    pub tells-label : (shift : ℤ) (stood address : ℕ) → symbol_at_end after.text name ≡ Ok (pos address) → symbol_at_end before.symbols.text name ≡ Ok (pos stood) → equ_line (definition_of (program_in after.text) name) ≡ None → equ_line (definition_of (program_in before.symbols.text) name) ≡ None → (mark : Mark) → TellsAddress shift mark stood address → Tells (base_before before) (lines_before before) (edit_on before) shift mark name
    tells-label shift stood address value value' none none' Unknown tells = absurd tells
    tells-label shift stood address value value' none none' Same tells =
        nowhere-by_value (value ∙ ap (λ a. Ok (pos a)) tells ∙ sym value') (one-by_none none none')
    tells-label shift stood address value value' none none' Moved tells =
        moves-by_value shift (value ∙ ap Ok tells ∙ sym (ap (moved_by shift) value'))
    tells-label shift stood address value value' none none' Changed tells = tt

    -- one that has no number
    pub tells-unnumbered : (shift : ℤ) → number_of after.text.names.now name ≡ None → Tells (base_before before) (lines_before before) (edit_on before) shift Unknown name
    tells-unnumbered shift none =
        let none' : number_of before.symbols.text.names.now name ≡ None = ap (λ names. number_of names name) (sym is_after.names) ∙ none in
        let here = sym (ap (λ f. f name) rows.text.defined.each) ∙ ap (entry_at after.text.definitions.now Nowhere) none in
        let there = sym (ap (λ f. f name) is.symbols.text.defined.each) ∙ ap (entry_at before.symbols.text.definitions.now Nowhere) none' in
        let value = undefined after.text name here in
        let value' = undefined before.symbols.text name there in (
          nowhere-by_value (value ∙ sym value') (one-by_none (ap equ_line here) (ap equ_line there)),
          moves-by_value shift (value ∙ sym (ap (moved_by shift) value')),
        )

-- Marks

module _ (base : ℕ) (lines : List (List ℕ)) (edit : Edit) (shift : ℤ) (name : List ℕ) where
  tells-more : (mark other : Mark) → IsBelow mark other → Tells base lines edit shift mark name → Tells base lines edit shift other name
  tells-more Unknown Unknown below tells = tells
  tells-more Unknown Same below tells = tells.0
  tells-more Unknown Moved below tells = tells.1
  tells-more Same Same below tells = tells
  tells-more Moved Moved below tells = tells
  tells-more _ Changed below tells = tt
  tells-more _ _ below tells = absurd below

  differs-or : (mark : Mark) → Tells base lines edit shift mark name → (differs mark ≡ true) ⊎ DiffersNowhere base lines edit name
  differs-or Unknown tells = inr tells.0
  differs-or Same tells = inr tells
  differs-or _ tells = inl refl

-- A loop over the names

-- the marks are true of the first n names, and of those that have no number
abbrev pub HasDifferingBelow : (n : ℕ) → (names : List (List ℕ)) → Before → Marks → Type 0
HasDifferingBelow n names before set =
    (name : List ℕ) → ((number : ℕ) → number_of names name ≡ Some number → number < n)
    → Tells (base_before before) (lines_before before) (edit_on before) set.shift (mark_of set (bucket_of name)) name

module _ (before : Before) (after : SymbolRows) (is : IsBefore before) (rows : AreSymbolRows after) (is_after : IsAfter before after.text) (set : Marks) where
  -- no name has a mark yet
  pub below-none : ((bucket : ℕ) → mark_of set bucket ≡ Unknown) → HasDifferingBelow 0 after.text.names.now before set
  below-none none name within = at (number_of after.text.names.now name) refl
    where
      at : (number : Option ℕ) → number_of after.text.names.now name ≡ number → Tells (base_before before) (lines_before before) (edit_on before) set.shift (mark_of set (bucket_of name)) name
      at None e =
          subst (λ mark. Tells (base_before before) (lines_before before) (edit_on before) set.shift mark name) (sym (none (bucket_of name)))
          (tells-unnumbered before after is rows is_after name set.shift e)
      at (Some number) e = let below = within number e in absurd (omega (arith, below))

  -- all names have been looked at
  pub all-below : (n : ℕ) → length after.text.names.now ≤ n → HasDifferingBelow n after.text.names.now before set → HasDiffering (base_before before) (lines_before before) (edit_on before) set
  all-below n all so_far name =
      so_far name (λ number e. let within = number-below after.text.names.now name number e in omega (arith, within, all))

-- the next name is added, with a mark that is true of it
module _ (before : Before) (names : List (List ℕ)) (n : ℕ) (set added : Marks) (still : added.shift ≡ set.shift) (so_far : HasDifferingBelow n names before set) (kept : (bucket : ℕ) → IsBelow (mark_of set bucket) (mark_of added bucket)) (mark : Mark) (bucket : ℕ) (below : IsBelow mark (mark_of added bucket)) (of_next : (name : List ℕ) → number_of names name ≡ Some n → bucket ≡ bucket_of name) (tells : (name : List ℕ) → number_of names name ≡ Some n → Tells (base_before before) (lines_before before) (edit_on before) set.shift mark name) where
  pub below-added : HasDifferingBelow (n + 1) names before added
  below-added name within = at (number_of names name) refl
    where
      Told : Type 0
      Told = Tells (base_before before) (lines_before before) (edit_on before) added.shift (mark_of added (bucket_of name)) name

      from : (mark : Mark) → IsBelow mark (mark_of added (bucket_of name)) → Tells (base_before before) (lines_before before) (edit_on before) set.shift mark name → Told
      from mark is true_of =
          subst (λ shift. Tells (base_before before) (lines_before before) (edit_on before) shift (mark_of added (bucket_of name)) name) (sym still)
          (tells-more (base_before before) (lines_before before) (edit_on before) set.shift name mark (mark_of added (bucket_of name)) is true_of)

      again : Tells (base_before before) (lines_before before) (edit_on before) set.shift (mark_of set (bucket_of name)) name → Told
      again = from (mark_of set (bucket_of name)) (kept (bucket_of name))

      at-number : (number : ℕ) → number_of names name ≡ Some number → (number < n) ⊎ (n ≤ number) → Told
      at-number number e (inl earlier) =
          again (so_far name (λ other e'. let same : Some number ≡ Some other = sym e ∙ e' in let is : number ≡ other = cc in omega (arith, is, earlier)))
      at-number number e (inr last) =
          let most = within number e in
          let here : number ≡ n = omega (arith, most, last) in
          let next : number_of names name ≡ Some n = e ∙ ap Some here in
          from mark (subst (λ b. IsBelow mark (mark_of added b)) (of_next name next) below) (tells name next)

      at : (number : Option ℕ) → number_of names name ≡ number → Told
      at None e = again (so_far name (λ number e'. absurd (let no : None ≡ Some number = sym e ∙ e' in cc)))
      at (Some number) e = at-number number e (cases_lt number n)

-- A line and the line that it was

module _ (before : Before) (after : TextRows) (line earlier : ℕ) (is : IsBefore before) (is_after : IsAfter before after) (first : 1 ≤ line) (last : line ≤ length after.lines.now) (stands : line_before_edit (edit_on before) line ≡ Some earlier) (set : Marks) (has : HasDiffering (base_before before) (lines_before before) (edit_on before) set) where
  pub differing-on : is_equ (body_at (program_in after) line) ≡ false → (name : List ℕ) → Has set name ⊎ (differs_in_name (base_before before) (program_in before.symbols.text) (program_in after) line earlier name ≡ false)
  differing-on no_equ name = at (differs-or (base_before before) (lines_before before) (edit_on before) set.shift name (mark_of set (bucket_of name)) (has name))
    where
      edited : program_in after ≡ program_after (lines_before before) (edit_on before)
      edited = ap program_of is_after.lines

      no_equ_before : is_equ (body_at (program_in before.symbols.text) earlier) ≡ false
      no_equ_before = ap is_equ (sym (body-before before after line earlier is is_after first last stands)) ∙ no_equ

      at : Has set name ⊎ DiffersNowhere (base_before before) (lines_before before) (edit_on before) name → Has set name ⊎ (differs_in_name (base_before before) (program_in before.symbols.text) (program_in after) line earlier name ≡ false)
      at (inl member) = inl member
      at (inr nowhere) =
          let same = nowhere line earlier stands (ap (λ p. is_equ (body_at p line)) (sym edited) ∙ no_equ) no_equ_before in
          inr (ap (λ p. differs_in_name (base_before before) (program_in before.symbols.text) p line earlier name) edited ∙ same)
