-- A line at the end of a text that has nothing to do with it: the rows by names with what the line defines, and without it.
use Rattle.std.proofs.Common.{◌≡◌, ℕ, ℤ, zero, suc, ◌+◌, ◌-◌, ◌<◌, ◌≤◌, ◌==◌, nat_lt, Bool, true, false, List, [], ◌∷◌, ◌++◌, length, set, bytes_eq, Option, Some, None, Err, if◌then◌else◌, true≢false, arith, ap, sym, subst, ◌∙◌, refl, ◌⊎◌, inl, inr}
use Rattle.std.proofs.Math.ListN.{drop_of_length-le}
use Rattle.std.proofs.Math.Path.{fun_ext}
use Rattle.std.proofs.lemmas.Bool.{cases_lt, ne_eqb, eq-eqb, lt-ltb}
use Rattle.std.proofs.lemmas.List.{length-set, set_past, get_or_past}
use Rattle.std.proofs.lemmas.Slice.Eq.{bytes_eq-Decides}
use Rattle.rv_expr.specs.declared.faults.ValueFault.TheVariants.{LaterEqu}
use Rattle.rv_stmt.specs.declared.directive.Definition.{Definition}
use Rattle.rv_stmt.specs.declared.statement.Body.{Body}
use Rattle.rv_stmt.specs.declared.statement.Body.TheVariants.{Equ as EquBody}
use Rattle.rv_stmt.specs.declared.statement.Stmt.{Stmt}
use Rattle.rv_stmt.specs.LabelNames.{Label}
use Rattle.rv_stmt.specs.Statement.{statement_of}
use Rattle.rv_fix.specs.Values.{Entry}
use Rattle.rv_list.specs.declared.view.DefinitionPlace.{DefinitionPlace}
use Rattle.rv_list.specs.declared.view.DefinitionPlace.TheVariants.{Nowhere, Label as ByLabel, Equ}
use Rattle.rv_store.specs.declared.survey.Survey.{Survey}
use Rattle.rv_store.specs.internal.Appended.{StayEqus, AreSymbols, AreHalfForgotten}
use Rattle.rv_program.specs.Constants.{constant_through}
use Rattle.rv_program.specs.internal.Defining.{or_here, also_on, IsOn}
use Rattle.rv_program.specs.Definitions.{defines_symbol, place_among_labels, place_in_body, or_place, place_in_statement, first_place, definition_of, is_defined, is_equ_on}
use Rattle.rv_program.specs.internal.MovedDefinitions.{line_after_edit, place_after, found_after, kept_after}
use Rattle.rv_program.specs.Program.{Program, program_of}
use Rattle.rv_program.specs.References.{equ_value}
use Rattle.rv_program.specs.internal.Rows.{number_of, in_row, Grows, AreDefinitions, AreConstants, AreEquValues}
use Rattle.rv_program.specs.Text.{Delete}
use Rattle.rv_program.specs.Uses.{is_equ}
use Rattle.rv_program.specs.lemmas.ConstantLaws.{constant-none}
use Rattle.rv_program.specs.lemmas.ConstantRows.{constant-kept}
use Rattle.rv_program.specs.lemmas.DefinitionLaws.{IsWithin, within-on, statement-within, definition-within}
use Rattle.rv_program.specs.lemmas.DefinitionRows.{or_place-nowhere, here-kept, within-up, nowhere}
use Rattle.rv_program.specs.lemmas.EquLaws.{equ_value-kept}
use Rattle.rv_store.proofs.LongerPrograms.{constants-same}
use Rattle.rv_store.proofs.LongerTexts.{count-longer, program-longer, definitions-longer}
use Rattle.rv_program.specs.lemmas.NameRows.{grows-length, row-grown, row-set, row-at}
use Rattle.rv_program.specs.lemmas.Programs.{length-program}
use Rattle.rv_store.proofs.StillLaws.{no_equ_after}

-- A symbol that a text does not define

pub no-constant : (p : Program) (k : ℕ) (name : List ℕ) → definition_of p name ≡ Nowhere → constant_through p k name ≡ None
no-constant p k name none = constant-none p name k (λ i l. ap (is_equ_on (suc i)) none)

pub no-equ_value : (base : ℕ) (p : Program) (k : ℕ) (name : List ℕ) → definition_of p name ≡ Nowhere → equ_value base p k name ≡ Err LaterEqu
no-equ_value base p zero name none = refl
no-equ_value base p (suc k) name none = equ_value-kept base p k name (ap (is_equ_on (suc k)) none) ∙ no-equ_value base p k name none

-- Rows that hold nothing for a symbol

row-without : {A : Type 0} (names : List (List ℕ)) (row : List A) (other : A) (symbol : List ℕ) (f : List ℕ → A) → in_row names row other symbol ≡ other → f symbol ≡ other → ((m : List ℕ) → (m ≡ symbol → ⊥) → in_row names row other m ≡ f m) → in_row names row other ≡ f
row-without names row other symbol f held here others = fun_ext (λ m. at m (bytes_eq m symbol) refl)
  where
    at : (m : List ℕ) (b : Bool) → bytes_eq m symbol ≡ b → in_row names row other m ≡ f m
    at m true e =
        let same : m ≡ symbol = (bytes_eq-Decides m symbol).0 e in
        ap (in_row names row other) same ∙ held ∙ sym here ∙ ap f (sym same)
    at m false e = others m (λ same. true≢false (sym ((bytes_eq-Decides m symbol).1 same) ∙ e))

row-forgotten : {A : Type 0} (names : List (List ℕ)) (row : List A) (other : A) (symbol : List ℕ) (n : ℕ) (f : List ℕ → A) → number_of names symbol ≡ Some n → f symbol ≡ other → ((m : List ℕ) → (m ≡ symbol → ⊥) → in_row names row other m ≡ f m) → in_row names (set row n other) other ≡ f
row-forgotten names row other symbol n f number here others = at (cases_lt n (length row))
  where
    at : (n < length row) ⊎ (length row ≤ n) → in_row names (set row n other) other ≡ f
    at (inl within) = row-set names row other symbol n other f number within (sym here) others
    at (inr past) =
        ap (λ r. in_row names r other) (set_past row n other past)
        ∙ row-without names row other symbol f (row-at names row other symbol n number ∙ get_or_past row n other past) here others

-- Definitions behind a text

-- what the text defines comes first
behind : (n : ℕ) (earlier here : DefinitionPlace) → IsWithin 1 (1 + n) earlier → or_here (suc n) earlier here ≡ or_place earlier here
behind n Nowhere here within = or_place-nowhere here
behind n (ByLabel l index) here within = here-kept (suc n) (ByLabel l index) here (within-up l (suc n) (omega (arith, within.1)))
behind n (Equ l) here within = here-kept (suc n) (Equ l) here (within-up l (suc n) (omega (arith, within.1)))

labels-no_equ : (at line index : ℕ) (ls : List Label) (name : List ℕ) → is_equ_on at (place_among_labels line index ls name) ≡ false
labels-no_equ at line index [] name = refl
labels-no_equ at line index (l ∷ ls) name = by (defines_symbol l.name name) (labels-no_equ at line (index + 1) ls name)
  where
    by : (b : Bool) → is_equ_on at (place_among_labels line (index + 1) ls name) ≡ false → is_equ_on at (if b then ByLabel line index else place_among_labels line (index + 1) ls name) ≡ false
    by true rest = refl
    by false rest = rest

-- an `.equ` on a line is the second of two definitions if it is not the first
second-equ : (line : ℕ) (a b : DefinitionPlace) → is_equ_on line a ≡ false → is_equ_on line (or_place a b) ≡ true → is_equ_on line b ≡ true
second-equ line Nowhere b none h = h
second-equ line (ByLabel l index) b none h = absurd (true≢false (sym h))
second-equ line (Equ l) b none h = absurd (true≢false (sym h ∙ none))

defined-equ : (line : ℕ) (place : DefinitionPlace) → is_equ_on line place ≡ true → is_defined place ≡ true
defined-equ line Nowhere h = absurd (true≢false (sym h))
defined-equ line (ByLabel l index) h = refl
defined-equ line (Equ l) h = refl

-- where the `.equ` behind the text defines a name, the text does not
equ-undefined : (n : ℕ) (earlier here : DefinitionPlace) → IsWithin 1 (1 + n) earlier → is_equ_on (suc n) (or_here (suc n) earlier here) ≡ true → earlier ≡ Nowhere
equ-undefined n Nowhere here within h = refl
equ-undefined n (ByLabel l index) here within h = absurd (true≢false (sym h ∙ ap (is_equ_on (suc n)) (behind n (ByLabel l index) here within)))
equ-undefined n (Equ l) here within h = absurd (true≢false (sym h ∙ ap (is_equ_on (suc n)) (behind n (Equ l) here within) ∙ no_equ_after n (suc n) (Equ l) (omega arith) within))

-- without what is on the line behind the text
taken-back : (n : ℕ) (earlier here found : DefinitionPlace) → IsWithin 1 (1 + n) earlier → IsOn (suc n) here → found ≡ Nowhere → place_after (Delete (suc n)) found (or_here (suc n) earlier here) ≡ earlier
taken-back n Nowhere Nowhere found within on none = refl
taken-back n Nowhere (ByLabel l index) found within on none =
    ap (λ b. if b then found else ByLabel (line_after_edit (Delete (suc n)) l) index) (eq-eqb l (suc n) on) ∙ none
taken-back n Nowhere (Equ l) found within on none =
    ap (λ b. if b then found else Equ (line_after_edit (Delete (suc n)) l)) (eq-eqb l (suc n) on) ∙ none
taken-back n (ByLabel l index) here found within on none =
    let other : (l == suc n) ≡ false = ne_eqb l (suc n) (λ e. omega (arith, e, within.1)) in
    let before : nat_lt l (suc n) ≡ true = lt-ltb l (suc n) (omega (arith, within.1)) in
    ap (place_after (Delete (suc n)) found) (behind n (ByLabel l index) here within)
    ∙ (λ i. if other i then found else ByLabel (if before i then l else l - 1) index)
taken-back n (Equ l) here found within on none =
    let other : (l == suc n) ≡ false = ne_eqb l (suc n) (λ e. omega (arith, e, within.1)) in
    let before : nat_lt l (suc n) ≡ true = lt-ltb l (suc n) (omega (arith, within.1)) in
    ap (place_after (Delete (suc n)) found) (behind n (Equ l) here within)
    ∙ (λ i. if other i then found else Equ (if before i then l else l - 1))

-- a body that defines a name is the `.equ` of that name
equ-names : (line : ℕ) (b : Body) (name : List ℕ) → is_defined (place_in_body line b name) ≡ true → (d : Definition) × (b ≡ EquBody d) × (d.symbol ≡ name)
equ-names line (EquBody d) name h = at (bytes_eq d.symbol name) refl h
  where
    at : (b : Bool) → bytes_eq d.symbol name ≡ b → is_defined (if b then Equ line else Nowhere) ≡ true → (e : Definition) × (EquBody d ≡ EquBody e) × (e.symbol ≡ name)
    at true e g = (d, refl, (bytes_eq-Decides d.symbol name).0 e)
    at false e g = absurd (true≢false (sym g))
equ-names line b name h = absurd (true≢false (sym h))

-- Rows that hold the same by more names

pub symbols-grown : (base : ℕ) (p : Program) (k : ℕ) (names names' : List (List ℕ)) (s : Survey) → Grows names names' → AreSymbols base p k names s → AreSymbols base p k names' s
symbols-grown base p k names names' s grows are =
    let longer = grows-length names names' grows in
    record {
      definitions = record { each = row-grown names names' s.definitions.items Nowhere grows are.definitions.within ∙ are.definitions.each; within = omega (arith, longer, are.definitions.within) };
      constants = record { each = row-grown names names' s.constants.items None grows are.constants.within ∙ are.constants.each; within = omega (arith, longer, are.constants.within) };
      equ_values = record { each = row-grown names names' s.equ_values.items (Err LaterEqu) grows are.equ_values.within ∙ are.equ_values.each; within = omega (arith, longer, are.equ_values.within) };
    }

-- The text with the line and without it

module _ (base : ℕ) (lines : List (List ℕ)) (line : List ℕ) (earlier : StayEqus base lines line) where
  abbrev p : Program
  p = program_of lines

  abbrev s : Stmt
  s = statement_of line

  abbrev q : Program
  q = program_of (lines ++ line ∷ [])

  abbrev n : ℕ
  n = length lines

  count : length p ≡ n
  count = length-program lines

  within : (name : List ℕ) → IsWithin 1 (1 + n) (definition_of p name)
  within name = subst (λ k. IsWithin 1 (1 + k) (definition_of p name)) count (definition-within p name)

  definitions-with : also_on (suc n) (definition_of p) (place_in_statement (suc n) s) ≡ definition_of q
  definitions-with =
      let next : suc n ≡ n + 1 = omega arith in
      fun_ext (λ name. behind n (definition_of p name) (place_in_statement (suc n) s name) (within name) ∙ ap (λ k. or_place (definition_of p name) (place_in_statement k s name)) next)
      ∙ definitions-longer lines line

  -- only the `.equ` of the line is one on it
  equ-of_body : (name : List ℕ) → is_equ_on (suc n) (definition_of q name) ≡ true → is_defined (place_in_body (suc n) s.body name) ≡ true
  equ-of_body name h =
      let here : is_equ_on (suc n) (or_place (definition_of p name) (place_in_statement (suc n) s name)) ≡ true =
      ap (is_equ_on (suc n)) (sym (behind n (definition_of p name) (place_in_statement (suc n) s name) (within name)) ∙ ap (λ f. f name) definitions-with) ∙ h in
      let last = second-equ (suc n) (definition_of p name) (place_in_statement (suc n) s name) (no_equ_after n (suc n) (definition_of p name) (omega arith) (within name)) here in
      defined-equ (suc n) (place_in_body (suc n) s.body name) (second-equ (suc n) (place_among_labels (suc n) 0 s.labels name) (place_in_body (suc n) s.body name) (labels-no_equ (suc n) (suc n) 0 s.labels name) last)

  -- a name that is none of it
  no_equ-unless : (name : List ℕ) → (is_defined (place_in_body (suc n) s.body name) ≡ true → is_equ_on (suc n) (definition_of q name) ≡ false) → is_equ_on (suc n) (definition_of q name) ≡ false
  no_equ-unless name unless = at (is_equ_on (suc n) (definition_of q name)) refl
    where
      at : (b : Bool) → is_equ_on (suc n) (definition_of q name) ≡ b → is_equ_on (suc n) (definition_of q name) ≡ false
      at false e = e
      at true e = unless (equ-of_body name e)

  earlier-constants : constant_through q n ≡ constant_through p n
  earlier-constants =
      ap (λ r. constant_through r n) (program-longer lines line) ∙ constants-same p s n (omega (arith, count))

  constant-behind : (name : List ℕ) → is_equ_on (suc n) (definition_of q name) ≡ false → constant_through q (suc n) name ≡ constant_through p n name
  constant-behind name none = constant-kept q n name none ∙ ap (λ f. f name) earlier-constants

  equ_value-behind : (name : List ℕ) → is_equ_on (suc n) (definition_of q name) ≡ false → equ_value base q (suc n) name ≡ equ_value base p n name
  equ_value-behind name none = equ_value-kept base q n name none ∙ ap (λ f. f name) earlier

  module _ (names : List (List ℕ)) where
    -- the rows with all definitions of the line
    pub symbols-written : (old new : Survey) → AreSymbols base p n names old → in_row names new.definitions.items Nowhere ≡ also_on (suc n) (in_row names old.definitions.items Nowhere) (place_in_statement (suc n) s) → length new.definitions.items ≡ length names
        → new.constants ≡ old.constants → new.equ_values ≡ old.equ_values → AreSymbols base q n names new
    symbols-written old new are written places constants equ_values =
        let same_constants = subst (λ v. AreConstants p n names v.items) (sym constants) are.constants in
        let same_values = subst (λ v. AreEquValues base p n names v.items) (sym equ_values) are.equ_values in
        record {
          definitions = record { each = written ∙ ap (λ f. also_on (suc n) f (place_in_statement (suc n) s)) are.definitions.each ∙ definitions-with; within = omega (arith, places) };
          constants = record { each = same_constants.each ∙ sym earlier-constants; within = same_constants.within };
          equ_values = record { each = same_values.each ∙ sym earlier; within = same_values.within };
        }

    -- what is no `.equ` has no constant and no value
    pub symbols-no_equ : (t : Survey) → is_equ s.body ≡ false → AreSymbols base q n names t → AreSymbols base q (suc n) names t
    symbols-no_equ t equ are =
        let none : (name : List ℕ) → is_equ_on (suc n) (definition_of q name) ≡ false =
        λ name. no_equ-unless name (λ h. absurd (true≢false (sym h ∙ ap is_defined (nowhere (suc n) s.body name equ)))) in
        record {
          definitions = are.definitions;
          constants = record { each = are.constants.each ∙ sym (fun_ext (λ name. constant-kept q n name (none name))); within = are.constants.within };
          equ_values = record { each = are.equ_values.each ∙ sym (fun_ext (λ name. equ_value-kept base q n name (none name))); within = are.equ_values.within };
        }

    module _ (old : Survey) (are : AreSymbols base q (suc n) names old) where
      abbrev row : List DefinitionPlace
      row = old.definitions.items

      -- without an `.equ` that defines its symbol
      pub equ-unwritten : ((d : Definition) → s.body ≡ EquBody d → is_equ_on (suc n) (in_row names row Nowhere d.symbol) ≡ false) → AreHalfForgotten base lines names line old
      equ-unwritten none =
          let nowhere_on : (name : List ℕ) → is_equ_on (suc n) (definition_of q name) ≡ false =
          λ name. no_equ-unless name (λ h. let is = equ-names (suc n) s.body name h in ap (λ m. is_equ_on (suc n) (definition_of q m)) (sym is.2) ∙ ap (λ f. is_equ_on (suc n) (f is.0.symbol)) (sym are.definitions.each) ∙ none is.0 is.1) in
          record {
            definitions = are.definitions;
            constants = record { each = are.constants.each ∙ fun_ext (λ name. constant-behind name (nowhere_on name)); within = are.constants.within };
            equ_values = record { each = are.equ_values.each ∙ fun_ext (λ name. equ_value-behind name (nowhere_on name)); within = are.equ_values.within };
          }

      module _ (d : Definition) (number : ℕ) (body : s.body ≡ EquBody d) (numbered : number_of names d.symbol ≡ Some number) (equ : is_equ_on (suc n) (in_row names row Nowhere d.symbol) ≡ true) where
        undefined_before : definition_of p d.symbol ≡ Nowhere
        undefined_before =
            equ-undefined n (definition_of p d.symbol) (place_in_statement (suc n) s d.symbol) (within d.symbol)
            (ap (λ f. is_equ_on (suc n) (f d.symbol)) (definitions-with ∙ sym are.definitions.each) ∙ equ)

        -- another name is no `.equ` of the line
        other : (m : List ℕ) → (m ≡ d.symbol → ⊥) → is_equ_on (suc n) (definition_of q m) ≡ false
        other m differs = no_equ-unless m (λ h. at (bytes_eq d.symbol m) refl (ap (λ b. is_defined (place_in_body (suc n) b m)) (sym body) ∙ h))
          where
            at : (b : Bool) → bytes_eq d.symbol m ≡ b → is_defined (if b then Equ (suc n) else Nowhere) ≡ true → is_equ_on (suc n) (definition_of q m) ≡ false
            at true e h = absurd (differs (sym ((bytes_eq-Decides d.symbol m).0 e)))
            at false e h = absurd (true≢false (sym h))

        pub equ-forgotten : (new : Survey) → new.definitions.items ≡ row → new.constants.items ≡ set old.constants.items number None → new.equ_values.items ≡ set old.equ_values.items number (Err LaterEqu) → AreHalfForgotten base lines names line new
        equ-forgotten new definitions constants equ_values = record {
          definitions = subst (AreDefinitions q names) (sym definitions) are.definitions;
          constants = record {
            each = ap (λ r. in_row names r None) constants
                ∙ row-forgotten names old.constants.items None d.symbol number (constant_through p n) numbered (no-constant p n d.symbol undefined_before)
                (λ m differs. ap (λ f. f m) are.constants.each ∙ constant-behind m (other m differs));
            within = rw (constants, length-set {A = Option ℤ}) are.constants.within;
          };
          equ_values = record {
            each = ap (λ r. in_row names r (Err LaterEqu)) equ_values
                ∙ row-forgotten names old.equ_values.items (Err LaterEqu) d.symbol number (equ_value base p n) numbered (no-equ_value base p n d.symbol undefined_before)
                (λ m differs. ap (λ f. f m) are.equ_values.each ∙ equ_value-behind m (other m differs));
            within = rw (equ_values, length-set {A = Entry}) are.equ_values.within;
          };
        }

    -- and then without the definitions on its line
    pub symbols-forgotten : (old new : Survey) → AreHalfForgotten base lines names line old → in_row names new.definitions.items Nowhere ≡ kept_after (Delete (suc n)) lines (in_row names old.definitions.items Nowhere) → length new.definitions.items ≡ length old.definitions.items
        → new.constants ≡ old.constants → new.equ_values ≡ old.equ_values → AreSymbols base p n names new
    symbols-forgotten old new are kept as_many constants equ_values =
        let nothing_left : (name : List ℕ) → found_after (Delete (suc n)) lines name ≡ Nowhere =
        λ name. ap (λ ls. first_place (suc n) (program_of ls) name) (drop_of_length-le lines (let e : length lines ≤ suc n - 1 = omega arith in e)) in
        record {
          definitions = record {
            each = kept ∙ ap (kept_after (Delete (suc n)) lines) (are.definitions.each ∙ sym definitions-with)
                ∙ fun_ext (λ name. taken-back n (definition_of p name) (place_in_statement (suc n) s name) (found_after (Delete (suc n)) lines name) (within name)
                (within-on (suc n) (place_in_statement (suc n) s name) (statement-within (suc n) s name)) (nothing_left name));
            within = omega (arith, as_many, are.definitions.within);
          };
          constants = subst (λ v. AreConstants p n names v.items) (sym constants) are.constants;
          equ_values = subst (λ v. AreEquValues base p n names v.items) (sym equ_values) are.equ_values;
        }

-- The rows of all lines are those of the text with the line

pub of-all : (base : ℕ) (lines names : List (List ℕ)) (line : List ℕ) (all : List (List ℕ)) (t : Survey) → all ≡ lines ++ line ∷ [] → AreSymbols base (program_of (lines ++ line ∷ [])) (suc (length lines)) names t → AreSymbols base (program_of all) (length all) names t
of-all base lines names line all t more are =
    subst (λ ls. AreSymbols base (program_of ls) (length ls) names t) (sym more)
    (subst (λ k. AreSymbols base (program_of (lines ++ line ∷ [])) k names t) (sym (count-longer lines line)) are)

pub all-of : (base : ℕ) (lines names : List (List ℕ)) (line : List ℕ) (all : List (List ℕ)) (t : Survey) → all ≡ lines ++ line ∷ [] → AreSymbols base (program_of all) (length all) names t → AreSymbols base (program_of (lines ++ line ∷ [])) (suc (length lines)) names t
all-of base lines names line all t more are =
    subst (λ k. AreSymbols base (program_of (lines ++ line ∷ [])) k names t) (count-longer lines line)
    (subst (λ ls. AreSymbols base (program_of ls) (length ls) names t) more are)
