-- The values of `.equ`s after an edit, where some are those that the row of the text before it has.
use Rattle.std.proofs.Common.{◌≡◌, ℕ, zero, suc, ◌+◌, ◌-◌, ◌<◌, ◌≤◌, ◌⊎◌, inl, inr, Bool, true, false, ◌||◌, nat_le, pos, List, [], ◌∷◌, length, get_or, set as put, if◌then◌else◌, Option, Some, None, Ok, Err, true≢false, arith, ap, sym, subst, ◌∙◌, refl}
use Rattle.std.specs.List.{list_any, flat_map}
use Rattle.std.proofs.Math.Path.{fun_ext}
use Rattle.std.proofs.lemmas.Bool.{cases_lt, leb-true, leb-false, le-leb, lt-leb, eq-eqb, both_ways, or_parts, or_left}
use Rattle.std.proofs.lemmas.List.{get_or-set_same, get_or-set_other, length-set}
use Rattle.std.proofs.lemmas.List.Folds.{list_any-append}
use Rattle.rv_expr.specs.declared.faults.ValueFault.TheVariants.{LaterEqu}
use Rattle.rv_expr.specs.Value.{Environment}
use Rattle.rv_stmt.specs.declared.directive.Definition.{Definition}
use Rattle.rv_stmt.specs.declared.operand.Operand.{Operand}
use Rattle.rv_stmt.specs.declared.operand.OperandValue.{OperandValue}
use Rattle.rv_stmt.specs.declared.operand.OperandValue.TheVariants.{Plain}
use Rattle.rv_stmt.specs.declared.statement.Body.TheVariants.{Equ as EquBody}
use Rattle.rv_fix.specs.Values.{Entry}
use Rattle.rv_list.specs.declared.view.DefinitionPlace.{DefinitionPlace}
use Rattle.rv_list.specs.declared.view.DefinitionPlace.TheVariants.{Nowhere, Label as ByLabel, Equ}
use Rattle.rv_program.specs.declared.before.Before.{Before}
use Rattle.rv_program.specs.declared.name_set.Mark.{Mark}
use Rattle.rv_program.specs.declared.name_set.Mark.TheVariants.{Unknown, Same, Moved, Changed}
use Rattle.rv_program.specs.declared.text_rows.TextRows.{TextRows}
use Rattle.rv_program.specs.Constants.{value_without_modifier, first_value, defined_value}
use Rattle.rv_program.specs.Definitions.{definition_of, is_equ_on, equ_line}
use Rattle.rv_program.specs.Edits.{line_before_edit}
use Rattle.rv_program.specs.internal.Before.{IsBefore, IsAfter, base_before, lines_before, edit_on}
use Rattle.rv_program.specs.internal.KeptEqus.{program_before, former_value, GivesSame, IsSameThrough, HasValuesThrough, AreValuesAfter, IsLeft}
use Rattle.rv_program.specs.internal.LineNames.{names_by}
use Rattle.rv_program.specs.internal.LinesWithout.{AreWithout}
use Rattle.rv_program.specs.internal.NameSets.{bucket_of, differs, IsBelow, Marks, mark_of, has_bucket, may_have, brief_of_names}
use Rattle.rv_program.specs.internal.Rows.{number_of, in_row, entry_at}
use Rattle.rv_program.specs.internal.TextRows.{address_in, program_in, AreTextRows, AreEquValuesIn, address_in_text, references_through}
use Rattle.rv_program.specs.Layout.{address_at}
use Rattle.rv_program.specs.Program.{Program, body_at}
use Rattle.rv_program.specs.References.{by_definition, or_faulty_equ, equ_value, symbol_through}
use Rattle.rv_program.specs.Uses.{names_in, has_here, has_local_label, expression_of, is_pcrel_high, is_relative, operand_uses_address, names_used, uses_address, uses_local_label, is_equ}
use Rattle.rv_program.specs.lemmas.ConstantRows.{IsEquOf, is_equ_of, equ-defines}
use Rattle.rv_program.specs.lemmas.DefinitionLaws.{IsWithin, definition-within}
use Rattle.rv_program.specs.lemmas.EarlierLines.{Stood}
use Rattle.rv_program.specs.lemmas.EquLaws.{references_after, equ_value-here, equ_value-kept, equ_value-stays, equ_values-none}
use Rattle.rv_program.specs.lemmas.LineNameLaws.{address_in-is, references_by-rows}
use Rattle.rv_program.specs.lemmas.NameRows.{number-same}
use Rattle.rv_program.specs.lemmas.NameSetLaws.{none-passes}
use Rattle.rv_program.specs.lemmas.Programs.{length-program, kept-past}
use Rattle.rv_program.specs.lemmas.UsedValues.{value-follows}
use Rattle.rv_program.proofs.DifferingNames.{in-order}
use Rattle.rv_program.proofs.LinePairLaws.{stood-before, body-before}

-- Definitions

-- the line of an `.equ`
pub equ-line : (line other : ℕ) → Equ line ≡ Equ other → line ≡ other
equ-line line other e = cc

is_on : (line : ℕ) (place : DefinitionPlace) → place ≡ Equ line → is_equ_on line place ≡ true
is_on line place e = ap (is_equ_on line) e ∙ eq-eqb line line refl

none-on : (line : ℕ) (place : DefinitionPlace) → equ_line place ≡ None → is_equ_on line place ≡ false
none-on line Nowhere e = refl
none-on line (ByLabel l index) e = refl
none-on line (Equ l) e = absurd (let no : Some l ≡ None = e in cc)

-- a symbol that no `.equ` defines has no value
pub equ_value-never : (base : ℕ) (program : Program) (name : List ℕ) → equ_line (definition_of program name) ≡ None → (k : ℕ) → equ_value base program k name ≡ Err LaterEqu
equ_value-never base program name none zero = refl
equ_value-never base program name none (suc k) =
    equ_value-kept base program k name (none-on (suc k) (definition_of program name) none) ∙ equ_value-never base program name none k

-- What names give where the row has the values of earlier `.equ`s, whatever it has for others

module _ (text : TextRows) (row : List Entry) (k : ℕ) (rows : AreTextRows text) (has : HasValuesThrough text k row) where
  symbol-known : (name : List ℕ) → by_definition (address_in text.places.now) k (definition_of (program_in text) name) (in_row text.names.now row (Err LaterEqu) name) ≡ symbol_through text.base (program_in text) k name
  symbol-known name = at (definition_of (program_in text) name) refl (definition-within (program_in text) name)
    where
      at : (place : DefinitionPlace) → definition_of (program_in text) name ≡ place → IsWithin 1 (1 + length (program_in text)) place → by_definition (address_in text.places.now) k place (in_row text.names.now row (Err LaterEqu) name) ≡ by_definition (address_at text.base (program_in text)) k place (equ_value text.base (program_in text) k name)
      at Nowhere e w = refl
      at (ByLabel line index) e w = ap (λ address. Ok (pos address)) (address_in-is text.base (program_in text) text.places.now line rows.placed w.0 (omega (arith, w.1)))
      at (Equ line) e w = by_line (nat_le line k) refl
        where
          by_line : (b : Bool) → nat_le line k ≡ b → (if b then or_faulty_equ (in_row text.names.now row (Err LaterEqu) name) else Err LaterEqu) ≡ (if b then or_faulty_equ (equ_value text.base (program_in text) k name) else Err LaterEqu)
          by_line true g = ap or_faulty_equ (has name line e (leb-true line k g))
          by_line false g = refl

  pub references-known : (line : ℕ) → 1 ≤ line → line ≤ length (program_in text) → names_by text row [] line k (address_in_text text line) ≡ references_through text k line
  references-known line first last =
      let none = references_by-rows text _ 0 line 0 rows (equ_values-none text.base (program_in text) text.names.now) (omega arith) last first in
      let symbols = fun_ext (λ name. ap (λ f. by_definition (address_in text.places.now) k (f name) (in_row text.names.now row (Err LaterEqu) name)) rows.defined.each ∙ symbol-known name) in
      λ i. record {
        symbol = symbols i;
        local = ap (λ (e : Environment). e.local) none i;
        here = ap (λ (e : Environment). e.here) none i;
        paired_high = ap (λ (e : Environment). e.paired_high) none i;
      }

-- all values are known of a row that has exactly them
pub known-of_all : (text : TextRows) (k : ℕ) (row : List Entry) → AreEquValuesIn text k row → HasValuesThrough text k row
known-of_all text k row are name line e last = ap (λ f. f name) are.each

-- What the operand of an `.equ` gives follows from what it uses

module _ (differs : List ℕ → Bool) (given other : Environment) (symbols : (name : List ℕ) → differs name ≡ false → given.symbol name ≡ other.symbol name) where
  plain-follows : (v : OperandValue) → list_any differs (names_in (expression_of v)) ≡ false → (has_here (expression_of v) ≡ true → given.here ≡ other.here) → has_local_label (expression_of v) ≡ false → value_without_modifier given v ≡ value_without_modifier other v
  plain-follows (Plain e) names here local =
      value-follows differs given other symbols e names here (λ h. absurd (both_ways (has_local_label e) local h))
  plain-follows v names here local = refl

  first-follows : (os : List Operand) → list_any differs (flat_map (λ o. names_in (expression_of o.value)) os) ≡ false → (list_any operand_uses_address os ≡ true → given.here ≡ other.here) → list_any (λ o. has_local_label (expression_of o.value)) os ≡ false → first_value given os ≡ first_value other os
  first-follows [] names here local = refl
  first-follows (o ∷ os) names here local =
      let first = names_in (expression_of o.value) in
      let more = flat_map (λ o. names_in (expression_of o.value)) os in
      let names' = or_parts (list_any differs first) (list_any differs more) (sym (list_any-append differs first more) ∙ names) in
      let local' = or_parts (has_local_label (expression_of o.value)) (list_any (λ o. has_local_label (expression_of o.value)) os) local in
      plain-follows o.value names'.0
      (λ h. here (or_left (operand_uses_address o) (list_any operand_uses_address os) (or_left (has_here (expression_of o.value) || is_pcrel_high o.value) (is_relative o.role) (or_left (has_here (expression_of o.value)) (is_pcrel_high o.value) h))))
      local'.0

-- Marks and rows

pub below-none : (mark other : Mark) → IsBelow mark other → differs other ≡ false → differs mark ≡ false
below-none Unknown other below none = refl
below-none Same other below none = refl
below-none Moved Moved below none = absurd (true≢false none)
below-none Moved Changed below none = absurd (true≢false none)
below-none Changed Changed below none = absurd (true≢false none)
below-none _ _ below none = absurd below

pub changed-in : (mark : Mark) → IsBelow Changed mark → differs mark ≡ true
changed-in Changed below = refl
changed-in _ below = absurd below

-- a name of another number keeps what the row has for it
pub in_row-other : {A : Type 0} (names : List (List ℕ)) (row : List A) (other : A) (n : ℕ) (v : A) (name : List ℕ) → (number_of names name ≡ Some n → ⊥) → in_row names (put row n v) other name ≡ in_row names row other name
in_row-other names row other n v name differs = at (number_of names name) refl
  where
    at : (r : Option ℕ) → number_of names name ≡ r → entry_at (put row n v) other r ≡ entry_at row other r
    at None e = refl
    at (Some k) e = get_or-set_other row n k v other (λ same. differs (e ∙ ap Some same))

-- A text before an edit and after it

module _ (before : Before) (text : TextRows) (is : IsBefore before) (rows : AreTextRows text) (is_after : IsAfter before text) where
  abbrev new : Program
  new = program_in text

  abbrev old : Program
  old = program_before before

  abbrev has : List Entry → (name : List ℕ) → Entry
  has row name = in_row text.names.now row (Err LaterEqu) name

  -- a symbol that gives what it gave, on line i + 1 and on the line p + 1 that it was
  symbol-same : (i p : ℕ) (name : List ℕ) → line_before_edit (edit_on before) (suc i) ≡ Some (suc p) → suc p ≤ length (lines_before before) → IsSameThrough before text i name → symbol_through text.base new i name ≡ symbol_through (base_before before) old p name
  symbol-same i p name stands last same = at (definition_of new name) refl (definition_of old name) refl same
    where
      at : (place : DefinitionPlace) → definition_of new name ≡ place → (former : DefinitionPlace) → definition_of old name ≡ former → GivesSame before text i name place former → by_definition (address_at text.base new) i place (equ_value text.base new i name) ≡ by_definition (address_at (base_before before) old) p former (equ_value (base_before before) old p name)
      at Nowhere e Nowhere f w = refl
      at (ByLabel line index) e (ByLabel stood other) f w = ap (λ a. Ok (pos a)) w
      at (Equ line) e (Equ stood) f w = by_line (nat_le line i) refl
        where
          by_line : (b : Bool) → nat_le line i ≡ b → by_definition (address_at text.base new) i (Equ line) (equ_value text.base new i name) ≡ by_definition (address_at (base_before before) old) p (Equ stood) (equ_value (base_before before) old p name)
          by_line true g =
              let earlier = leb-true line i g in
              let less = (in-order (edit_on before) line stood (suc i) (suc p) w.0 stands).below (omega (arith, earlier)) in
              let stood-earlier : stood ≤ p = omega (arith, less) in
              let value = w.1 earlier ∙ equ_value-stays (base_before before) old name stood p (length (lines_before before)) f stood-earlier (omega (arith, last)) in
              ap (λ t. if t then or_faulty_equ (equ_value text.base new i name) else Err LaterEqu) g
              ∙ ap or_faulty_equ value
              ∙ sym (ap (λ t. if t then or_faulty_equ (equ_value (base_before before) old p name) else Err LaterEqu) (le-leb stood p stood-earlier))
          by_line false g =
              let later = leb-false line i g in
              let more = (in-order (edit_on before) (suc i) (suc p) line stood stands w.0).above (omega (arith, later)) in
              ap (λ t. if t then or_faulty_equ (equ_value text.base new i name) else Err LaterEqu) g
              ∙ sym (ap (λ t. if t then or_faulty_equ (equ_value (base_before before) old p name) else Err LaterEqu) (lt-leb stood p (omega (arith, more))))
      at _ e _ f w = absurd w

  -- The row and the set as far as line i + 1

  module _ (i : ℕ) (row row' : List Entry) (set set' : Marks) (are : AreValuesAfter before text i row set) (apart : (name : List ℕ) → (definition_of new name ≡ Equ (suc i) → ⊥) → has row' name ≡ has row name) (fewer : (name : List ℕ) → has_bucket set' (bucket_of name) ≡ false → has_bucket set (bucket_of name) ≡ false) (here : (name : List ℕ) → definition_of new name ≡ Equ (suc i) → has row' name ≡ equ_value text.base new (suc i) name) (told : (name : List ℕ) → definition_of new name ≡ Equ (suc i) → has_bucket set' (bucket_of name) ≡ false → equ_value text.base new (suc i) name ≡ former_value before name) (as_many : length row' ≡ length row) where
    known-next : HasValuesThrough text (suc i) row'
    known-next name line e last = at (cases_lt line (suc i))
      where
        at : (line < suc i) ⊎ (suc i ≤ line) → has row' name ≡ equ_value text.base new (suc i) name
        at (inl less) =
            let earlier : line ≤ i = omega (arith, less) in
            apart name (λ f. let same = equ-line line (suc i) (sym e ∙ f) in absurd (omega (arith, same, less)))
            ∙ are.known name line e earlier
            ∙ sym (equ_value-stays text.base new name line i (suc i) e earlier (omega arith))
        at (inr more) = let same : line ≡ suc i = omega (arith, last, more) in here name (e ∙ ap Equ same)

    same-next : (name : List ℕ) → has_bucket set' (bucket_of name) ≡ false → IsSameThrough before text (suc i) name
    same-next name none = at (definition_of new name) refl (definition_of old name) (are.same name (fewer name none))
      where
        at : (place : DefinitionPlace) → definition_of new name ≡ place → (former : DefinitionPlace) → GivesSame before text i name place former → GivesSame before text (suc i) name place former
        at Nowhere e Nowhere w = tt
        at (ByLabel line index) e (ByLabel stood other) w = w
        at (Equ line) e (Equ stood) w = (w.0, λ last. value last (cases_lt line (suc i)))
          where
            value : line ≤ suc i → (line < suc i) ⊎ (suc i ≤ line) → equ_value text.base new (suc i) name ≡ former_value before name
            value last (inl less) =
                let earlier : line ≤ i = omega (arith, less) in
                equ_value-stays text.base new name line i (suc i) e earlier (omega arith) ∙ w.1 earlier
            value last (inr more) = let same : line ≡ suc i = omega (arith, last, more) in told name (e ∙ ap Equ same) none
        at _ e _ w = absurd w

    pub values-next : AreValuesAfter before text (i + 1) row' set'
    values-next = subst (λ k. AreValuesAfter before text k row' set') (let e : suc i ≡ i + 1 = omega arith in e) (record {
      known = known-next;
      former = λ name line stood e f stands less.
          apart name (λ g. let same = equ-line line (suc i) (sym e ∙ g) in absurd (omega (arith, same, less)))
          ∙ are.former name line stood e f stands (omega (arith, less));
      others = λ name none. apart name (λ e. absurd (let no : Some (suc i) ≡ None = sym (ap equ_line e) ∙ none in cc)) ∙ are.others name none;
      same = same-next;
      defined = are.defined;
      as_many = as_many ∙ are.as_many;
    })

  -- a line that defines no symbol by an `.equ`
  module _ (i : ℕ) (none : (d : Definition) → body_at new (suc i) ≡ EquBody d → is_equ_on (suc i) (definition_of new d.symbol) ≡ false) where
    pub nothing-here : (name : List ℕ) → definition_of new name ≡ Equ (suc i) → ⊥
    nothing-here name e = by (equ-defines new i name (is_on (suc i) (definition_of new name) e))
      where
        by : IsEquOf (body_at new (suc i)) name → ⊥
        by (is_equ_of d body same) =
            true≢false (sym (is_on (suc i) (definition_of new d.symbol) (ap (definition_of new) same ∙ e)) ∙ none d body)

    pub values-kept : (row : List Entry) (set : Marks) → AreValuesAfter before text i row set → AreValuesAfter before text (i + 1) row set
    values-kept row set are =
        values-next i row row set set are (λ name _. refl) (λ name h. h) (λ name e. absurd (nothing-here name e)) (λ name e h. absurd (nothing-here name e)) refl

  -- lines without an `.equ`
  pub values-past : (i j : ℕ) (row : List Entry) (set : Marks) → i ≤ j → AreWithout is_equ new i j → AreValuesAfter before text i row set → AreValuesAfter before text j row set
  values-past i j row set up passed =
      kept-past (λ k. AreValuesAfter before text k row set) i j up
      (λ k first last. values-kept k (λ d body. absurd (let no : true ≡ false = sym (ap is_equ body) ∙ passed.each k first last in cc)) row set)

  -- one that is left alone
  module _ (i : ℕ) (row : List Entry) (set : Marks) (within : i < length text.lines.now) (are : AreValuesAfter before text i row set) (left : IsLeft before text (suc i) set) where
    there : Stood (lines_before before) (edit_on before) (suc i) left.stood
    there = stood-before before text (suc i) left.stood is is_after (omega arith) (omega (arith, within)) left.stands

    abbrev p : ℕ
    p = left.stood - 1

    next : left.stood ≡ suc p
    next = omega (arith, there.first)

    stands' : line_before_edit (edit_on before) (suc i) ≡ Some (suc p)
    stands' = left.stands ∙ ap Some next

    body : body_at new (suc i) ≡ body_at old (suc p)
    body = body-before before text (suc i) left.stood is is_after (omega arith) (omega (arith, within)) left.stands ∙ ap (body_at old) next

    abbrev differs-in : List ℕ → Bool
    differs-in name = has_bucket set (bucket_of name)

    only : (name : List ℕ) → (differs-in name ≡ true) ⊎ (differs-in name ≡ false)
    only name = at (differs-in name) refl
      where
        at : (b : Bool) → differs-in name ≡ b → (differs-in name ≡ true) ⊎ (differs-in name ≡ false)
        at true e = inl e
        at false e = inr e

    value-same : (d : Definition) → body_at new (suc i) ≡ EquBody d → defined_value (references_after text.base new i) (EquBody d) ≡ defined_value (references_after (base_before before) old p) (EquBody d)
    value-same d e =
        let given = references_after text.base new i in
        let other = references_after (base_before before) old p in
        let names = none-passes (has_bucket set) differs-in only (names_used (EquBody d)) (λ bucket has. ap (λ b. may_have (brief_of_names (names_used b)) bucket) (sym e) ∙ left.names bucket has) in
        first-follows differs-in given other
        (λ name same. symbol-same i p name stands' (subst (λ n. n ≤ length (lines_before before)) next there.last) (are.same name same))
        d.operands names
        (λ h. ap (λ a. Ok (pos a)) (left.address (ap uses_address e ∙ h) ∙ ap (address_at (base_before before) old) next))
        (sym (ap uses_local_label e) ∙ left.local)

    value-left : (name : List ℕ) → definition_of new name ≡ Equ (suc i) → equ_value text.base new (suc i) name ≡ former_value before name
    value-left name e = by (equ-defines new i name (is_on (suc i) (definition_of new name) e))
      where
        by : IsEquOf (body_at new (suc i)) name → equ_value text.base new (suc i) name ≡ former_value before name
        by (is_equ_of d here same) =
            let former = are.defined name (suc i) (suc p) e stands' in
            equ_value-here text.base new i name (is_on (suc i) (definition_of new name) e)
            ∙ ap (defined_value (references_after text.base new i)) here
            ∙ value-same d here
            ∙ ap (defined_value (references_after (base_before before) old p)) (sym here ∙ body)
            ∙ sym (equ_value-here (base_before before) old p name (is_on (suc p) (definition_of old name) former))
            ∙ sym (equ_value-stays (base_before before) old name (suc p) (suc p) (length (lines_before before)) former (omega arith) (subst (λ n. n ≤ length (lines_before before)) next there.last))

    pub values-left : AreValuesAfter before text (i + 1) row set
    values-left =
        values-next i row row set set are (λ name _. refl) (λ name h. h)
        (λ name e. are.former name (suc i) (suc p) e (are.defined name (suc i) (suc p) e stands') stands' (omega arith) ∙ sym (value-left name e))
        (λ name e h. value-left name e) refl

  -- one whose value is computed
  module _ (i : ℕ) (row : List Entry) (set : Marks) (are : AreValuesAfter before text i row set) (d : Definition) (n : ℕ) (value : Entry) (here : body_at new (suc i) ≡ EquBody d) (number : number_of text.names.now d.symbol ≡ Some n) (within : n < length row) (given : value ≡ defined_value (references_after text.base new i) (EquBody d)) where
    symbol-is : (name : List ℕ) → definition_of new name ≡ Equ (suc i) → name ≡ d.symbol
    symbol-is name e = by (equ-defines new i name (is_on (suc i) (definition_of new name) e))
      where
        by : IsEquOf (body_at new (suc i)) name → name ≡ d.symbol
        by (is_equ_of other there same) =
            let is : EquBody other ≡ EquBody d = sym there ∙ here in
            let one : other ≡ d = cc in
            sym same ∙ ap (λ x. x.symbol) one

    value-here : (name : List ℕ) → definition_of new name ≡ Equ (suc i) → value ≡ equ_value text.base new (suc i) name
    value-here name e =
        given ∙ ap (defined_value (references_after text.base new i)) (sym here)
        ∙ sym (equ_value-here text.base new i name (is_on (suc i) (definition_of new name) e))

    number-is : (name : List ℕ) → definition_of new name ≡ Equ (suc i) → number_of text.names.now name ≡ Some n
    number-is name e = ap (number_of text.names.now) (symbol-is name e) ∙ number

    -- one that no edit put in, and that the set does not have, has its former value in the row
    former-in_row : (name : List ℕ) → definition_of new name ≡ Equ (suc i) → has_bucket set (bucket_of name) ≡ false → has row name ≡ former_value before name
    former-in_row name e none =
        at (definition_of old name) refl (subst (λ place. GivesSame before text i name place (definition_of old name)) e (are.same name none))
      where
        at : (former : DefinitionPlace) → definition_of old name ≡ former → GivesSame before text i name (Equ (suc i)) former → has row name ≡ former_value before name
        at (Equ stood) f w = are.former name (suc i) stood e f w.0 (omega arith)
        at _ f w = absurd w

    -- the same one
    pub values-same : value ≡ get_or row n (Err LaterEqu) → AreValuesAfter before text (i + 1) row set
    values-same same =
        let at-number : (name : List ℕ) → definition_of new name ≡ Equ (suc i) → has row name ≡ get_or row n (Err LaterEqu) = λ name e. ap (entry_at row (Err LaterEqu)) (number-is name e) in
        values-next i row row set set are (λ name _. refl) (λ name h. h)
        (λ name e. at-number name e ∙ sym same ∙ value-here name e)
        (λ name e h. sym (value-here name e) ∙ same ∙ sym (at-number name e) ∙ former-in_row name e h) refl

    -- another one
    pub values-set : (set' : Marks) (bucket : ℕ) → definition_of new d.symbol ≡ Equ (suc i) → ((other : ℕ) → IsBelow (mark_of set other) (mark_of set' other)) → bucket ≡ bucket_of d.symbol → IsBelow Changed (mark_of set' bucket) → AreValuesAfter before text (i + 1) (put row n value) set'
    values-set set' bucket defines below of_symbol added =
        values-next i row (put row n value) set set' are
        (λ name other. in_row-other text.names.now row (Err LaterEqu) n value name (λ e. other (ap (definition_of new) (number-same text.names.now name d.symbol n e number) ∙ defines)))
        (λ name none. below-none (mark_of set (bucket_of name)) (mark_of set' (bucket_of name)) (below (bucket_of name)) none)
        (λ name e. ap (entry_at (put row n value) (Err LaterEqu)) (number-is name e) ∙ get_or-set_same row n value (Err LaterEqu) within ∙ value-here name e)
        (λ name e none. absurd (true≢false (sym (changed-in (mark_of set' bucket) added) ∙ ap (has_bucket set') (of_symbol ∙ ap bucket_of (sym (symbol-is name e))) ∙ none)))
        (length-set row n value)

  -- all lines
  pub values-all : (row : List Entry) (set : Marks) → AreValuesAfter before text (length text.lines.now) row set → AreEquValuesIn text (length text.lines.now) row
  values-all row set are = record {
    each = fun_ext (λ name. at name (definition_of new name) refl (definition-within new name));
    within = omega (arith, are.as_many);
  }
    where
      at : (name : List ℕ) (place : DefinitionPlace) → definition_of new name ≡ place → IsWithin 1 (1 + length new) place → has row name ≡ equ_value text.base new (length text.lines.now) name
      at name (Equ line) e w = are.known name line e (omega (arith, w.1, length-program text.lines.now))
      at name place e w = are.others name (ap equ_line e) ∙ sym (equ_value-never text.base new name (ap equ_line e) (length text.lines.now))
