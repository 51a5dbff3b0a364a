-- Names that keep numbers when others lose theirs, and rows by the new numbers.
use Rattle.std.proofs.Common.{◌≡◌, ℕ, zero, suc, ◌+◌, ◌≤◌, Bool, true, false, cond, List, [], ◌∷◌, ◌++◌, length, map, take, bytes_eq, Option, Some, None, option_map, Err, if◌then◌else◌, true≢false, arith, ap, sym, refl, ◌∙◌}
use Rattle.std.proofs.Math.Path.{fun_ext}
use Rattle.std.proofs.lemmas.List.{append-nil, map-append, get_or-map, length-map, take_all}
use Rattle.std.proofs.lemmas.List.Elements.{filter_more}
use Rattle.std.proofs.lemmas.Slice.Eq.{bytes_eq-Decides}
use Rattle.std.specs.List.{filter}
use Rattle.rv_expr.specs.declared.faults.ValueFault.TheVariants.{LaterEqu}
use Rattle.rv_list.specs.declared.view.DefinitionPlace.{DefinitionPlace}
use Rattle.rv_list.specs.declared.view.DefinitionPlace.TheVariants.{Nowhere}
use Rattle.rv_store.specs.declared.forgetting.Remembered.{Remembered}
use Rattle.rv_store.specs.declared.survey.Survey.{Survey}
use Rattle.rv_program.specs.Definitions.{definition_of, is_defined}
use Rattle.rv_store.specs.internal.Forgetting.{AreRemembered}
use Rattle.rv_program.specs.Program.{Program}
use Rattle.rv_program.specs.internal.Rows.{number_of, entry_at, in_row, AreDefinitions, AreConstants, AreEquValues}
use Rattle.rv_program.specs.lemmas.DefinitionLaws.{undefined}
use Rattle.rv_store.proofs.LastDefinitions.{no-constant, no-equ_value}
use Rattle.rv_program.specs.lemmas.NameRows.{position-cons, number-below, name-at}

-- One name more

-- the name with the number n is none of the first n names
pub name-new : (p : List ℕ → Bool) (names : List (List ℕ)) (name : List ℕ) (n : ℕ) → number_of names name ≡ Some n → number_of (filter p (take n names)) name ≡ None
name-new p [] name n e = absurd (let no : None ≡ Some n = e in cc)
name-new p (x ∷ xs) name n e =
    at n (bytes_eq name x) refl (number_of xs name) refl (sym (position-cons (bytes_eq name) x xs) ∙ e) (λ k. name-new p xs name k)
  where
    kept : (k : ℕ) (b : Bool) → bytes_eq name x ≡ false → number_of (filter p (take k xs)) name ≡ None → number_of (cond b (x ∷ filter p (take k xs)) (filter p (take k xs))) name ≡ None
    kept k false h none = none
    kept k true h none =
        position-cons (bytes_eq name) x (filter p (take k xs))
        ∙ ap (λ b. if b then Some 0 else option_map suc (number_of (filter p (take k xs)) name)) h
        ∙ ap (option_map suc) none

    at : (n : ℕ) (b : Bool) → bytes_eq name x ≡ b → (r : Option ℕ) → number_of xs name ≡ r → (if b then Some 0 else option_map suc r) ≡ Some n → ((k : ℕ) → number_of xs name ≡ Some k → number_of (filter p (take k xs)) name ≡ None) → number_of (filter p (take n (x ∷ xs))) name ≡ None
    at zero b h r g e ih = refl
    at (suc n) true h r g e ih = absurd (let no : Some 0 ≡ Some (suc n) = e in cc)
    at (suc n) false h None g e ih = absurd (let no : None ≡ Some (suc n) = e in cc)
    at (suc n) false h (Some k) g e ih =
        let is : Some (suc k) ≡ Some (suc n) = e in
        let same : k ≡ n = cc in kept n (p x) h (ih n (g ∙ ap Some same))

-- it comes after them, if it passes
filtered-next : (p : List ℕ → Bool) (names : List (List ℕ)) (name : List ℕ) (n : ℕ) (b : Bool) → number_of names name ≡ Some n → p name ≡ b → filter p (take (n + 1) names) ≡ filter p (take n names) ++ cond b (name ∷ []) []
filtered-next p names name n b number passes =
    filter_more p names n [] (number-below names name n number)
    ∙ ap (λ m. filter p (take n names) ++ cond (p m) (m ∷ []) []) (sym (name-at names name n [] number))
    ∙ ap (λ t. filter p (take n names) ++ cond t (name ∷ []) []) passes

-- a row with the entry of one name more
row-added : {A : Type 0} (f : List ℕ → A) (names names' : List (List ℕ)) (row row' : List A) (name : List ℕ) → names' ≡ names ++ name ∷ [] → row ≡ map f names → row' ≡ row ++ f name ∷ [] → row' ≡ map f names'
row-added f names names' row row' name grown before pushed =
    pushed ∙ ap (λ r. r ++ f name ∷ []) before ∙ sym (map-append f names (name ∷ [])) ∙ ap (map f) (sym grown)

-- the next name is not defined
pub remembered-passed : (names : List (List ℕ)) (survey : Survey) (n : ℕ) (name : List ℕ) (r : Remembered) → number_of names name ≡ Some n → is_defined (in_row names survey.definitions.items Nowhere name) ≡ false → AreRemembered names survey n r → AreRemembered names survey (n + 1) r
remembered-passed names survey n name r number none are = record {
  names = are.names
      ∙ sym (filtered-next (λ m. is_defined (in_row names survey.definitions.items Nowhere m)) names name n false number none ∙ append-nil (filter (λ m. is_defined (in_row names survey.definitions.items Nowhere m)) (take n names)));
  definitions = are.definitions;
  constants = are.constants;
  equ_values = are.equ_values;
}

-- the next name is defined
pub remembered-added : (names : List (List ℕ)) (survey : Survey) (n : ℕ) (name : List ℕ) (r r' : Remembered) → number_of names name ≡ Some n → is_defined (in_row names survey.definitions.items Nowhere name) ≡ true → AreRemembered names survey n r → r'.names ≡ r.names ++ name ∷ [] → r'.definitions.items ≡ r.definitions.items ++ in_row names survey.definitions.items Nowhere name ∷ [] → r'.constants.items ≡ r.constants.items ++ in_row names survey.constants.items None name ∷ [] → r'.equ_values.items ≡ r.equ_values.items ++ in_row names survey.equ_values.items (Err LaterEqu) name ∷ [] → AreRemembered names survey (n + 1) r'
remembered-added names survey n name r r' number defined are grown definitions constants equ_values = record {
  names = grown
      ∙ ap (λ ns. ns ++ name ∷ []) are.names
      ∙ sym (filtered-next (λ m. is_defined (in_row names survey.definitions.items Nowhere m)) names name n true number defined);
  definitions = row-added (in_row names survey.definitions.items Nowhere) r.names r'.names r.definitions.items r'.definitions.items name grown are.definitions definitions;
  constants = row-added (in_row names survey.constants.items None) r.names r'.names r.constants.items r'.constants.items name grown are.constants constants;
  equ_values = row-added (in_row names survey.equ_values.items (Err LaterEqu)) r.names r'.names r.equ_values.items r'.equ_values.items name grown are.equ_values equ_values;
}

-- All names

-- a name that passes has a number among those that pass if it has one among all
number-filtered : (p : List ℕ → Bool) (names : List (List ℕ)) (name : List ℕ) → p name ≡ true → number_of (filter p names) name ≡ None → number_of names name ≡ None
number-filtered p [] name passes none = refl
number-filtered p (x ∷ xs) name passes none =
    position-cons (bytes_eq name) x xs ∙ at (bytes_eq name x) refl (p x) refl none (number-filtered p xs name passes)
  where
    later : (b : Bool) (r : Option ℕ) → (if b then Some 0 else option_map suc r) ≡ None → (b ≡ false) × (r ≡ None)
    later true r e = absurd (let no : Some 0 ≡ None = e in cc)
    later false (Some k) e = absurd (let no : Some (suc k) ≡ None = e in cc)
    later false None e = (refl, refl)

    at : (b : Bool) → bytes_eq name x ≡ b → (t : Bool) → p x ≡ t → number_of (cond t (x ∷ filter p xs) (filter p xs)) name ≡ None → (number_of (filter p xs) name ≡ None → number_of xs name ≡ None) → (if b then Some 0 else option_map suc (number_of xs name)) ≡ None
    at false h false g e ih = ap (option_map suc) (ih e)
    at false h true g e ih =
        ap (option_map suc) (ih (later (bytes_eq name x) (number_of (filter p xs) name) (sym (position-cons (bytes_eq name) x (filter p xs)) ∙ e)).1)
    at true h true g e ih =
        absurd (true≢false (sym h ∙ (later (bytes_eq name x) (number_of (filter p xs) name) (sym (position-cons (bytes_eq name) x (filter p xs)) ∙ e)).0))
    at true h false g e ih =
        absurd (true≢false (sym passes ∙ ap p ((bytes_eq-Decides name x).0 h) ∙ g))

-- the row for the names that pass holds for each name what the row for all names does, if that holds nothing for the others
row-filtered : {A : Type 0} (p : List ℕ → Bool) (names : List (List ℕ)) (row : List A) (other : A) → ((name : List ℕ) → p name ≡ false → in_row names row other name ≡ other) → in_row (filter p names) (map (in_row names row other) (filter p names)) other ≡ in_row names row other
row-filtered p names row other nothing = fun_ext (λ name. at name (number_of (filter p names) name) refl)
  where
    gone : (name : List ℕ) (b : Bool) → p name ≡ b → number_of (filter p names) name ≡ None → in_row names row other name ≡ other
    gone name false h e = nothing name h
    gone name true h e = ap (entry_at row other) (number-filtered p names name h e)

    at : (name : List ℕ) (r : Option ℕ) → number_of (filter p names) name ≡ r → in_row (filter p names) (map (in_row names row other) (filter p names)) other name ≡ in_row names row other name
    at name None e =
        ap (entry_at (map (in_row names row other) (filter p names)) other) e ∙ sym (gone name (p name) refl e)
    at name (Some n) e =
        ap (entry_at (map (in_row names row other) (filter p names)) other) e
        ∙ get_or-map (in_row names row other) (filter p names) n [] other (number-below (filter p names) name n e)
        ∙ ap (in_row names row other) (sym (name-at (filter p names) name n [] e))

row-remembered : {A : Type 0} (p : List ℕ → Bool) (names : List (List ℕ)) (row : List A) (other : A) (names' : List (List ℕ)) (row' : List A) → names' ≡ filter p (take (length names) names) → row' ≡ map (in_row names row other) names' → ((name : List ℕ) → p name ≡ false → in_row names row other name ≡ other) → (in_row names' row' other ≡ in_row names row other) × (length row' ≤ length names')
row-remembered p names row other names' row' kept made nothing =
    let all : names' ≡ filter p names = kept ∙ ap (filter p) (take_all (length names) names (omega arith)) in
    let count : length row' ≡ length names' = ap length made ∙ length-map names' (in_row names row other) in (
      ap (λ r. in_row names' r other) made
          ∙ ap (λ ns. in_row ns (map (in_row names row other) ns) other) all
          ∙ row-filtered p names row other nothing,
      omega (arith, count),
    )

-- The rows of a text

nowhere : (program : Program) (names : List (List ℕ)) (row : List DefinitionPlace) (name : List ℕ) → AreDefinitions program names row → is_defined (in_row names row Nowhere name) ≡ false → definition_of program name ≡ Nowhere
nowhere program names row name are none = ap (λ f. f name) (sym are.each) ∙ undefined (in_row names row Nowhere name) none

pub definitions-remembered : (program : Program) (names : List (List ℕ)) (survey : Survey) (r : Remembered) → AreRemembered names survey (length names) r → AreDefinitions program names survey.definitions.items → AreDefinitions program r.names r.definitions.items
definitions-remembered program names survey r are defined =
    let held = row-remembered _ names survey.definitions.items Nowhere r.names r.definitions.items are.names are.definitions
    (λ name none. undefined (in_row names survey.definitions.items Nowhere name) none) in
    record { each = held.0 ∙ defined.each; within = held.1 }

pub constants-remembered : (program : Program) (k : ℕ) (names : List (List ℕ)) (survey : Survey) (r : Remembered) → AreRemembered names survey (length names) r → AreDefinitions program names survey.definitions.items → AreConstants program k names survey.constants.items → AreConstants program k r.names r.constants.items
constants-remembered program k names survey r are defined constant =
    let held = row-remembered _ names survey.constants.items None r.names r.constants.items are.names are.constants
    (λ name none. ap (λ f. f name) constant.each
    ∙ no-constant program k name (nowhere program names survey.definitions.items name defined none)) in
    record { each = held.0 ∙ constant.each; within = held.1 }

pub equ_values-remembered : (base : ℕ) (program : Program) (k : ℕ) (names : List (List ℕ)) (survey : Survey) (r : Remembered) → AreRemembered names survey (length names) r → AreDefinitions program names survey.definitions.items → AreEquValues base program k names survey.equ_values.items → AreEquValues base program k r.names r.equ_values.items
equ_values-remembered base program k names survey r are defined values =
    let held = row-remembered _ names survey.equ_values.items (Err LaterEqu) r.names r.equ_values.items are.names are.equ_values
    (λ name none. ap (λ f. f name) values.each
    ∙ no-equ_value base program k name (nowhere program names survey.definitions.items name defined none)) in
    record { each = held.0 ∙ values.each; within = held.1 }
