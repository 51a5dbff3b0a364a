-- The row and the set with which the `.equ`s of a text after an edit are begun: a loop over the names.
use Rattle.std.proofs.Common.{◌≡◌, ℕ, ◌+◌, ◌<◌, ◌≤◌, ◌⊎◌, inl, inr, false, List, length, set as put, Option, Some, None, Err, true≢false, arith, ap, sym, subst, ◌∙◌, refl}
use Rattle.std.proofs.lemmas.Bool.{cases_lt}
use Rattle.std.proofs.lemmas.List.{get_or-set_same, length-set}
use Rattle.rv_expr.specs.declared.faults.ValueFault.TheVariants.{LaterEqu}
use Rattle.rv_fix.specs.Values.{Entry}
use Rattle.rv_list.specs.declared.view.DefinitionPlace.{DefinitionPlace}
use Rattle.rv_list.specs.declared.view.DefinitionPlace.TheVariants.{Nowhere, Label as ByLabel, Equ}
use Rattle.rv_program.specs.declared.before.Before.{Before}
use Rattle.rv_program.specs.declared.name_set.Mark.TheVariants.{Changed}
use Rattle.rv_program.specs.declared.text_rows.TextRows.{TextRows}
use Rattle.rv_program.specs.Definitions.{definition_of, equ_line}
use Rattle.rv_program.specs.Edits.{line_before_edit}
use Rattle.rv_program.specs.internal.Before.{IsBefore, IsAfter, edit_on}
use Rattle.rv_program.specs.internal.KeptEqus.{program_before, former_value, GivesSame, IsSameThrough, IsDefinedAsBefore, HasFormerValues, AreValuesAfter}
use Rattle.rv_program.specs.internal.NameSets.{bucket_of, IsBelow, Marks, mark_of, has_bucket}
use Rattle.rv_program.specs.internal.Rows.{number_of, in_row, entry_at}
use Rattle.rv_program.specs.internal.TextRows.{address_in, program_in, AreTextRows}
use Rattle.rv_program.specs.Layout.{address_at}
use Rattle.rv_program.specs.lemmas.LineNameLaws.{address_in-is}
use Rattle.rv_program.specs.lemmas.DefinitionLaws.{IsWithin, definition-within}
use Rattle.rv_program.specs.lemmas.NameRows.{number-below}
use Rattle.rv_program.proofs.KeptEqus.{equ-line, equ_value-never, below-none, changed-in, in_row-other}

-- what is true of a symbol that has been looked at
pub record IsStart (before : Before) (text : TextRows) (row : List Entry) (set : Marks) (name : List ℕ) : Type 0 where
  pub same : has_bucket set (bucket_of name) ≡ false → IsSameThrough before text 0 name
  pub others : equ_line (definition_of (program_in text) name) ≡ None → in_row text.names.now row (Err LaterEqu) name ≡ Err LaterEqu
  pub defined : IsDefinedAsBefore before text name

-- the first n names, and those that have no number, have been looked at; for all others the row has what it had
pub record AreFormerBelow (before : Before) (text : TextRows) (n : ℕ) (row : List Entry) (set : Marks) : Type 0 where
  pub former : HasFormerValues before text 0 row
  pub ahead : (name : List ℕ) (m : ℕ) → number_of text.names.now name ≡ Some m → n ≤ m → in_row text.names.now row (Err LaterEqu) name ≡ former_value before name
  pub seen : (name : List ℕ) → ((m : ℕ) → number_of text.names.now name ≡ Some m → m < n) → IsStart before text row set name
  pub as_many : length row ≡ length text.names.now

-- the address of a label by its row
pub label-address : (text : TextRows) (name : List ℕ) (line index address : ℕ) → AreTextRows text → definition_of (program_in text) name ≡ ByLabel line index → address ≡ address_in text.places.now line → address ≡ address_at text.base (program_in text) line
label-address text name line index address rows e is =
    let within : IsWithin 1 (1 + length (program_in text)) (ByLabel line index) = subst (IsWithin 1 (1 + length (program_in text))) e (definition-within (program_in text) name) in
    is ∙ address_in-is text.base (program_in text) text.places.now line rows.placed within.0 (omega (arith, within.1))

-- a symbol by its definitions
pub same-by : (before : Before) (text : TextRows) (name : List ℕ) (place former : DefinitionPlace) → definition_of (program_in text) name ≡ place → definition_of (program_before before) name ≡ former → GivesSame before text 0 name place former → IsSameThrough before text 0 name
same-by before text name place former e f same =
    subst (λ p. GivesSame before text 0 name p (definition_of (program_before before) name)) (sym e) (subst (GivesSame before text 0 name place) (sym f) same)

pub same-by_equ : (before : Before) (text : TextRows) (name : List ℕ) (line stood : ℕ) → definition_of (program_in text) name ≡ Equ line → definition_of (program_before before) name ≡ Equ stood → line_before_edit (edit_on before) line ≡ Some stood → IsSameThrough before text 0 name
same-by_equ before text name line stood e f stands =
    let within : IsWithin 1 (1 + length (program_in text)) (Equ line) = subst (IsWithin 1 (1 + length (program_in text))) e (definition-within (program_in text) name) in
    same-by before text name (Equ line) (Equ stood) e f (stands, λ none. absurd (omega (arith, within.0, none)))

module _ (before : Before) (text : TextRows) (is : IsBefore before) (rows : AreTextRows text) (is_after : IsAfter before text) where
  abbrev has : List Entry → (name : List ℕ) → Entry
  has row name = in_row text.names.now row (Err LaterEqu) name

  -- a symbol that has no number is defined nowhere, and was defined nowhere
  nowhere : (name : List ℕ) → number_of text.names.now name ≡ None → definition_of (program_in text) name ≡ Nowhere
  nowhere name none = sym (ap (λ f. f name) rows.defined.each) ∙ ap (entry_at text.definitions.now Nowhere) none

  nowhere-before : (name : List ℕ) → number_of text.names.now name ≡ None → definition_of (program_before before) name ≡ Nowhere
  nowhere-before name none =
      sym (ap (λ f. f name) is.symbols.text.defined.each)
      ∙ ap (entry_at before.symbols.text.definitions.now Nowhere) (ap (λ names. number_of names name) (sym is_after.names) ∙ none)

  unnumbered : (row : List Entry) (set : Marks) (name : List ℕ) → number_of text.names.now name ≡ None → IsStart before text row set name
  unnumbered row set name none =
      let here = nowhere name none in
      record {
        same = λ h. subst (λ place. GivesSame before text 0 name place (definition_of (program_before before) name)) (sym here)
            (subst (λ place. GivesSame before text 0 name Nowhere place) (sym (nowhere-before name none)) tt);
        others = λ h. ap (entry_at row (Err LaterEqu)) none;
        defined = λ line stood e stands. absurd (let no : Nowhere ≡ Equ line = sym here ∙ e in cc);
      }

  -- the row has what the `.equ`s gave, and no name has been looked at
  pub below-start : (row former : List Entry) (set : Marks) → ((name : List ℕ) → has row name ≡ in_row before.symbols.text.names.now former (Err LaterEqu) name) → former ≡ before.symbols.equ_values.now → length row ≡ length text.names.now → AreFormerBelow before text 0 row set
  below-start row former set same are as_many =
      let value : (name : List ℕ) → has row name ≡ former_value before name = λ name.
      same name ∙ ap (λ r. in_row before.symbols.text.names.now r (Err LaterEqu) name) are ∙ ap (λ f. f name) is.symbols.equ_values.each in
      record {
        former = λ name line stood e f stands less. value name;
        ahead = λ name m e up. value name;
        seen = λ name within. at name within (number_of text.names.now name) refl;
        as_many = as_many;
      }
    where
      at : (name : List ℕ) → ((m : ℕ) → number_of text.names.now name ≡ Some m → m < 0) → (number : Option ℕ) → number_of text.names.now name ≡ number → IsStart before text row set name
      at name within None e = unnumbered row set name e
      at name within (Some m) e = absurd (let below = within m e in omega (arith, below))

  -- a symbol that is defined as it was
  same-start : (row : List Entry) (set : Marks) (name : List ℕ) → has row name ≡ former_value before name → IsSameThrough before text 0 name → IsStart before text row set name
  same-start row set name value same = at (definition_of (program_in text) name) refl (definition_of (program_before before) name) refl same
    where
      at : (place : DefinitionPlace) → definition_of (program_in text) name ≡ place → (former : DefinitionPlace) → definition_of (program_before before) name ≡ former → GivesSame before text 0 name place former → IsStart before text row set name
      at Nowhere e Nowhere f w = record {
        same = λ h. same;
        others = λ h. value ∙ equ_value-never _ (program_before before) name (ap equ_line f) _;
        defined = λ line stood g stands. absurd (let no : Nowhere ≡ Equ line = sym e ∙ g in cc);
      }
      at (ByLabel l index) e (ByLabel d other) f w = record {
        same = λ h. same;
        others = λ h. value ∙ equ_value-never _ (program_before before) name (ap equ_line f) _;
        defined = λ line stood g stands. absurd (let no : ByLabel l index ≡ Equ line = sym e ∙ g in cc);
      }
      at (Equ l) e (Equ d) f w = record {
        same = λ h. same;
        others = λ h. absurd (let no : Some l ≡ None = sym (ap equ_line e) ∙ h in cc);
        defined = λ line stood g stands.
            let here = equ-line l line (sym e ∙ g) in
            let is : Some d ≡ Some stood = sym w.0 ∙ ap (line_before_edit (edit_on before)) here ∙ stands in
            let one : d ≡ stood = cc in
            f ∙ ap Equ one;
      }
      at _ e _ f w = absurd w

  module _ (n : ℕ) (row : List Entry) (set : Marks) (are : AreFormerBelow before text n row set) where
    -- the next name is defined as it was
    pub below-same : ((name : List ℕ) → number_of text.names.now name ≡ Some n → IsSameThrough before text 0 name) → AreFormerBelow before text (n + 1) row set
    below-same same = record {
      former = are.former;
      ahead = λ name m e up. are.ahead name m e (omega (arith, up));
      seen = λ name within. at name within (number_of text.names.now name) refl;
      as_many = are.as_many;
    }
      where
        by : (name : List ℕ) → ((m : ℕ) → number_of text.names.now name ≡ Some m → m < n + 1) → (m : ℕ) → number_of text.names.now name ≡ Some m → (m < n) ⊎ (n ≤ m) → IsStart before text row set name
        by name within m e (inl less) =
            are.seen name (λ other f. let is : Some m ≡ Some other = sym e ∙ f in let one : m ≡ other = cc in omega (arith, one, less))
        by name within m e (inr more) =
            let below = within m e in
            let here : m ≡ n = omega (arith, below, more) in
            same-start row set name (are.ahead name m e more) (same name (e ∙ ap Some here))

        at : (name : List ℕ) → ((m : ℕ) → number_of text.names.now name ≡ Some m → m < n + 1) → (number : Option ℕ) → number_of text.names.now name ≡ number → IsStart before text row set name
        at name within None e = unnumbered row set name e
        at name within (Some m) e = by name within m e (cases_lt m n)

    -- the next name is not, and no `.equ` defines it that stood
    module _ (set' : Marks) (bucket : ℕ) (within : n < length text.names.now) (below : (other : ℕ) → IsBelow (mark_of set other) (mark_of set' other)) (added : IsBelow Changed (mark_of set' bucket)) (of_next : (name : List ℕ) → number_of text.names.now name ≡ Some n → bucket ≡ bucket_of name) (no_former : (name : List ℕ) (line stood : ℕ) → number_of text.names.now name ≡ Some n → definition_of (program_in text) name ≡ Equ line → line_before_edit (edit_on before) line ≡ Some stood → ⊥) where
      abbrev row' : List Entry
      row' = put row n (Err LaterEqu)

      again : (name : List ℕ) → (number_of text.names.now name ≡ Some n → ⊥) → has row' name ≡ has row name
      again name apart = in_row-other text.names.now row (Err LaterEqu) n (Err LaterEqu) name apart

      pub below-changed : AreFormerBelow before text (n + 1) row' set'
      below-changed = record {
        former = λ name line stood e f stands less.
            again name (λ g. no_former name line stood g e stands) ∙ are.former name line stood e f stands less;
        ahead = λ name m e up.
            again name (λ g. let is : Some m ≡ Some n = sym e ∙ g in let one : m ≡ n = cc in omega (arith, one, up)) ∙ are.ahead name m e (omega (arith, up));
        seen = λ name within. at name within (number_of text.names.now name) refl;
        as_many = length-set row n (Err LaterEqu) ∙ are.as_many;
      }
        where
          kept : (name : List ℕ) → (number_of text.names.now name ≡ Some n → ⊥) → IsStart before text row set name → IsStart before text row' set' name
          kept name apart start = record {
            same = λ none. start.same (below-none (mark_of set (bucket_of name)) (mark_of set' (bucket_of name)) (below (bucket_of name)) none);
            others = λ none. again name apart ∙ start.others none;
            defined = start.defined;
          }

          by : (name : List ℕ) → ((m : ℕ) → number_of text.names.now name ≡ Some m → m < n + 1) → (m : ℕ) → number_of text.names.now name ≡ Some m → (m < n) ⊎ (n ≤ m) → IsStart before text row' set' name
          by name within' m e (inl less) =
              kept name (λ g. let is : Some m ≡ Some n = sym e ∙ g in let one : m ≡ n = cc in omega (arith, one, less))
              (are.seen name (λ other f. let is : Some m ≡ Some other = sym e ∙ f in let one : m ≡ other = cc in omega (arith, one, less)))
          by name within' m e (inr more) =
              let least = within' m e in
              let here : m ≡ n = omega (arith, least, more) in
              let numbered : number_of text.names.now name ≡ Some n = e ∙ ap Some here in
              record {
                same = λ none. absurd (true≢false (sym (changed-in (mark_of set' bucket) added) ∙ ap (has_bucket set') (of_next name numbered) ∙ none));
                others = λ none. ap (entry_at row' (Err LaterEqu)) numbered
                    ∙ get_or-set_same row n (Err LaterEqu) (Err LaterEqu) (omega (arith, within, are.as_many));
                defined = λ line stood g stands. absurd (no_former name line stood numbered g stands);
              }

          at : (name : List ℕ) → ((m : ℕ) → number_of text.names.now name ≡ Some m → m < n + 1) → (number : Option ℕ) → number_of text.names.now name ≡ number → IsStart before text row' set' name
          at name within' None e = unnumbered row' set' name e
          at name within' (Some m) e = by name within' m e (cases_lt m n)

  -- all names have been looked at
  pub all-looked_at : (n : ℕ) (row : List Entry) (set : Marks) → length text.names.now ≤ n → AreFormerBelow before text n row set → AreValuesAfter before text 0 row set
  all-looked_at n row set all are = record {
    known = λ name line e last. absurd (first name line e last (definition-within (program_in text) name));
    former = are.former;
    others = λ name none. (start name).others none;
    same = λ name none. (start name).same none;
    defined = λ name. (start name).defined;
    as_many = are.as_many;
  }
    where
      first : (name : List ℕ) (line : ℕ) → definition_of (program_in text) name ≡ Equ line → line ≤ 0 → IsWithin 1 (1 + length (program_in text)) (definition_of (program_in text) name) → ⊥
      first name line e last w =
          let within : IsWithin 1 (1 + length (program_in text)) (Equ line) = subst (IsWithin 1 (1 + length (program_in text))) e w in
          omega (arith, within.0, last)

      start : (name : List ℕ) → IsStart before text row set name
      start name = are.seen name (λ m e. let below = number-below text.names.now name m e in omega (arith, below, all))
