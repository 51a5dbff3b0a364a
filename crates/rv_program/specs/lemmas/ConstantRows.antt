-- The row of constants, line by line.
use Rattle.std.proofs.Common.{◌≡◌, ℕ, suc, ◌+◌, ◌-◌, ◌<◌, ◌≤◌, ℤ, Bool, true, false, List, [], ◌∷◌, length, get_or, set, replicate, bytes_eq, Option, Some, None, if◌then◌else◌, arith, ap, sym, ◌∙◌, refl}
use Rattle.std.specs.Result.{result_ok}
use Rattle.std.proofs.Math.Path.{fun_ext}
use Rattle.std.proofs.lemmas.List.{get_or-map, length-replicate}
use Rattle.std.proofs.lemmas.Slice.Eq.{bytes_eq-Decides}
use Rattle.rv_stmt.specs.declared.directive.Definition.{Definition}
use Rattle.rv_stmt.specs.declared.statement.Body.{Body}
use Rattle.rv_stmt.specs.declared.statement.Body.TheVariants.{Equ as EquBody}
use Rattle.rv_stmt.specs.LabelNames.{Label}
use Rattle.rv_stmt.specs.Statement.{statement_of}
use Rattle.rv_layout.specs.Shapes.{constants}
use Rattle.rv_list.specs.declared.view.DefinitionPlace.{DefinitionPlace}
use Rattle.rv_list.specs.declared.view.DefinitionPlace.TheVariants.{Nowhere, Label as ByLabel, Equ}
use Rattle.rv_program.specs.Constants.{defined_value, constant_through}
use Rattle.rv_program.specs.Definitions.{defines_symbol, place_among_labels, place_in_body, first_place, definition_of, is_equ_on}
use Rattle.rv_program.specs.Program.{Program, program_of, no_statement, body_at}
use Rattle.rv_program.specs.internal.Rows.{number_of, in_row, AreDefinitions, AreConstants}
use Rattle.rv_program.specs.lemmas.DefinitionLaws.{is_equ_on-true}
use Rattle.rv_program.specs.lemmas.NameRows.{row-set, row-empty}

-- The lines of `.equ`s

-- a body defines a name by its `.equ`
pub data IsEquOf (body : Body) (name : List ℕ) : Type 0 where
  is_equ_of : (d : Definition) → body ≡ EquBody d → d.symbol ≡ name → IsEquOf body name

no_equ_among_labels : (line index : ℕ) (ls : List Label) (name : List ℕ) (k : ℕ) → place_among_labels line index ls name ≡ Equ k → ⊥
no_equ_among_labels line index [] name k e = let no : Nowhere ≡ Equ k = e in cc
no_equ_among_labels line index (l ∷ ls) name k e = at (defines_symbol l.name name) (no_equ_among_labels line (index + 1) ls name k) e
  where
    at : (b : Bool) → (place_among_labels line (index + 1) ls name ≡ Equ k → ⊥) → (if b then ByLabel line index else place_among_labels line (index + 1) ls name) ≡ Equ k → ⊥
    at true later g = let no : ByLabel line index ≡ Equ k = g in cc
    at false later g = later g

equ_in_body : (line : ℕ) (b : Body) (name : List ℕ) (k : ℕ) → place_in_body line b name ≡ Equ k → (line ≡ k) × IsEquOf b name
equ_in_body line (EquBody d) name k e = at (bytes_eq d.symbol name) refl e
  where
    at : (t : Bool) → bytes_eq d.symbol name ≡ t → (if t then Equ line else Nowhere) ≡ Equ k → (line ≡ k) × IsEquOf (EquBody d) name
    at true g h = (let is : Equ line ≡ Equ k = h in cc, is_equ_of d refl ((bytes_eq-Decides d.symbol name).0 g))
    at false g h = absurd (let no : Nowhere ≡ Equ k = h in cc)
equ_in_body line _ name k e = absurd (let no : Nowhere ≡ Equ k = e in cc)

-- the line that an `.equ` definition names has an `.equ` of the name
equ_first : (line : ℕ) (program : Program) (name : List ℕ) (k : ℕ) → first_place line program name ≡ Equ k → (line ≤ k) × IsEquOf (get_or program (k - line) no_statement).body name
equ_first line [] name k e = absurd (let no : Nowhere ≡ Equ k = e in cc)
equ_first line (s ∷ ss) name k e =
    at (place_among_labels line 0 s.labels name) refl (place_in_body line s.body name) refl (equ_first (line + 1) ss name k)
  where
    at : (a : DefinitionPlace) → place_among_labels line 0 s.labels name ≡ a → (b : DefinitionPlace) → place_in_body line s.body name ≡ b → (first_place (line + 1) ss name ≡ Equ k → (line + 1 ≤ k) × IsEquOf (get_or ss (k - (line + 1)) no_statement).body name) → (line ≤ k) × IsEquOf (get_or (s ∷ ss) (k - line) no_statement).body name
    at Nowhere p Nowhere q later =
        let found = later (rw (p, q) at e) in
        let further : k - line ≡ suc (k - (line + 1)) = omega (arith, found.0) in
        (omega (arith, found.0), rw further found.1)
    at Nowhere p (ByLabel i j) q later = absurd (let no : ByLabel i j ≡ Equ k = rw (p, q) at e in cc)
    at Nowhere p (Equ i) q later =
        let found = equ_in_body line s.body name k (q ∙ (let there : Equ i ≡ Equ k = rw (p, q) at e in there)) in
        let none : k - line ≡ 0 = omega (arith, found.0) in
        (omega (arith, found.0), rw none found.1)
    at (ByLabel i j) p b q later = absurd (let no : ByLabel i j ≡ Equ k = rw p at e in cc)
    at (Equ i) p b q later = absurd (no_equ_among_labels line 0 s.labels name i p)

pub equ-defines : (program : Program) (i : ℕ) (name : List ℕ) → is_equ_on (suc i) (definition_of program name) ≡ true → IsEquOf (body_at program (suc i)) name
equ-defines program i name e = (equ_first 1 program name (suc i) (is_equ_on-true (suc i) (definition_of program name) e)).1

-- What each line but that of the `.equ` of a name keeps of the name

module _ {A : Type 0} (program : Program) (i : ℕ) (now before : List ℕ → A) (kept : (name : List ℕ) → is_equ_on (suc i) (definition_of program name) ≡ false → now name ≡ before name) where
  -- a line that defines no symbol by an `.equ` keeps all
  pub all-kept : ((d : Definition) → body_at program (suc i) ≡ EquBody d → is_equ_on (suc i) (definition_of program d.symbol) ≡ false) → now ≡ before
  all-kept none = fun_ext (λ name. at name (is_equ_on (suc i) (definition_of program name)) refl)
    where
      at : (name : List ℕ) (t : Bool) → is_equ_on (suc i) (definition_of program name) ≡ t → now name ≡ before name
      at name false e = kept name e
      at name true e = by (equ-defines program i name e)
        where
          by : IsEquOf (body_at program (suc i)) name → now name ≡ before name
          by (is_equ_of d here same) =
              absurd (let no : true ≡ false = sym e ∙ ap (λ m. is_equ_on (suc i) (definition_of program m)) (sym same) ∙ none d here in cc)

  -- one that does keeps that of any other name
  pub others-kept : (d : Definition) → body_at program (suc i) ≡ EquBody d → (name : List ℕ) → (name ≡ d.symbol → ⊥) → now name ≡ before name
  others-kept d here name differs = at (is_equ_on (suc i) (definition_of program name)) refl
    where
      at : (t : Bool) → is_equ_on (suc i) (definition_of program name) ≡ t → now name ≡ before name
      at false e = kept name e
      at true e = by (equ-defines program i name e)
        where
          by : IsEquOf (body_at program (suc i)) name → now name ≡ before name
          by (is_equ_of other there same) =
              absurd (differs (let is : EquBody other ≡ EquBody d = sym there ∙ here in let one : other ≡ d = cc in sym same ∙ ap (λ x. x.symbol) one))

-- the same by the row of definitions
pub equ-by_row : (program : Program) (names : List (List ℕ)) (row : List DefinitionPlace) → AreDefinitions program names row → (i : ℕ) (name : List ℕ) (t : Bool) → is_equ_on (i + 1) (in_row names row Nowhere name) ≡ t → is_equ_on (suc i) (definition_of program name) ≡ t
equ-by_row program names row are i name t e =
    let next : suc i ≡ i + 1 = omega arith in
    ap (λ k. is_equ_on k (definition_of program name)) next ∙ ap (λ f. is_equ_on (i + 1) (f name)) (sym are.each) ∙ e

-- The row of constants

-- before the first line there are no constants
pub constants-none : (program : Program) (names : List (List ℕ)) (count : ℕ) → count ≤ length names → AreConstants program 0 names (replicate count None)
constants-none program names count within = record {
  each = row-empty names None count;
  within = omega (arith, length-replicate {A = Option ℤ}, within);
}

pub constant-here : (program : Program) (i : ℕ) (name : List ℕ) → is_equ_on (suc i) (definition_of program name) ≡ true → constant_through program (suc i) name ≡ result_ok (defined_value (constants (constant_through program i)) (body_at program (suc i)))
constant-here program i name e =
    ap (λ t. if t then result_ok (defined_value (constants (constant_through program i)) (body_at program (suc i))) else constant_through program i name) e

pub constant-kept : (program : Program) (i : ℕ) (name : List ℕ) → is_equ_on (suc i) (definition_of program name) ≡ false → constant_through program (suc i) name ≡ constant_through program i name
constant-kept program i name e =
    ap (λ t. if t then result_ok (defined_value (constants (constant_through program i)) (body_at program (suc i))) else constant_through program i name) e

-- a line that defines no symbol by an `.equ` leaves the constants
pub constants-kept : (program : Program) (i : ℕ) → ((d : Definition) → body_at program (suc i) ≡ EquBody d → is_equ_on (suc i) (definition_of program d.symbol) ≡ false) → constant_through program (suc i) ≡ constant_through program i
constants-kept program i = all-kept program i (constant_through program (suc i)) (constant_through program i) (constant-kept program i)

-- one that does puts its constant into the row
pub constants-set : (program : Program) (i : ℕ) (names : List (List ℕ)) (row : List (Option ℤ)) (d : Definition) (n : ℕ) (v : Option ℤ) → body_at program (suc i) ≡ EquBody d → is_equ_on (suc i) (definition_of program d.symbol) ≡ true → number_of names d.symbol ≡ Some n → n < length row → in_row names row None ≡ constant_through program i → v ≡ result_ok (defined_value (constants (in_row names row None)) (EquBody d)) → in_row names (set row n v) None ≡ constant_through program (suc i)
constants-set program i names row d n v here defines number within before value =
    row-set names row None d.symbol n v (constant_through program (suc i)) number within
    (value
    ∙ ap (λ f. result_ok (defined_value (constants f) (EquBody d))) before
    ∙ ap (λ b. result_ok (defined_value (constants (constant_through program i)) b)) (sym here)
    ∙ sym (constant-here program i d.symbol defines))
    (λ m differs. ap (λ f. f m) before ∙ sym (others-kept program i (constant_through program (suc i)) (constant_through program i) (constant-kept program i) d here m differs))

-- the body of a line that has been read
pub body-read : (lines : List (List ℕ)) (i : ℕ) (text : List ℕ) → i < length lines → text ≡ get_or lines i text → body_at (program_of lines) (suc i) ≡ (statement_of text).body
body-read lines i text within read =
    let place : suc i - 1 ≡ i = omega arith in
    ap (λ k. (get_or (program_of lines) k no_statement).body) place
    ∙ ap (λ s. s.body) (get_or-map statement_of lines i text no_statement within) ∙ ap (λ t. (statement_of t).body) (sym read)
