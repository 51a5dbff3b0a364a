-- A statement at the end of a text has to do with the lines before it by the names that it adds and its local labels alone, if no section
-- moves.
use Rattle.std.proofs.Common.{◌≡◌, ℕ, suc, ◌+◌, ◌-◌, ◌≤◌, nat_le, Bool, true, false, not, ◌&&◌, List, [], ◌∷◌, ◌++◌, length, Ok, Err, if◌then◌else◌, true≢false, arith, ap, sym, ◌∙◌, refl}
use Rattle.std.proofs.lemmas.Bool.{and_parts, not-true, or_left, not_from_false}
use Rattle.std.proofs.lemmas.List.{get_or_append_left, take-append-le}
use Rattle.rv_expr.specs.declared.faults.ValueFault.TheVariants.{Undefined, LaterEqu}
use Rattle.rv_fix.specs.Values.{Entry}
use Rattle.rv_stmt.specs.declared.statement.Stmt.{Stmt}
use Rattle.rv_stmt.specs.declared.section.Sect.TheVariants.{Text}
use Rattle.rv_layout.specs.declared.measured.Measured.TheVariants as measured
use Rattle.rv_layout.specs.PlaceLaws.{number_below}
use Rattle.rv_layout.specs.Places.{before, section_through, offset_through, section_of, offset_of, size_at, line_size_of, section_base_of, address_of}
use Rattle.rv_layout.specs.Sections.{section_number}
use Rattle.rv_list.specs.declared.view.DefinitionPlace.{DefinitionPlace}
use Rattle.rv_list.specs.declared.view.DefinitionPlace.TheVariants.{Nowhere, Label as ByLabel, Equ}
use Rattle.rv_store.specs.internal.Appended.{adds, touches, IsApart, shape_at_end, StaySections}
use Rattle.rv_program.specs.Definitions.{or_place, place_in_statement, definition_of, is_defined}
use Rattle.rv_program.specs.Layout.{shape_at, shapes_of, section_at, address_at, size_at as size_on, place_at}
use Rattle.rv_program.specs.Changes.{differs_in_name}
use Rattle.rv_program.specs.Constants.{constant_of}
use Rattle.rv_program.specs.Program.{Program, body_at}
use Rattle.rv_program.specs.References.{among_local, has_local, or_faulty_equ, by_definition, equ_value, usable_equs, reference_of}
use Rattle.rv_program.specs.Sameness.{same_entry, same_constant}
use Rattle.rv_store.specs.internal.Still.{IsStill}
use Rattle.rv_program.specs.lemmas.DefinitionLaws.{undefined}
use Rattle.rv_store.proofs.LongerPrograms.{more, count-more, statement-earlier, statement-last, definitions-more, equ-earlier, constants-same, shapes-more}
use Rattle.rv_program.specs.lemmas.Programs.{length-for_lines}

-- what is defined gives something else than an undefined name
no_fault : (address : ℕ → ℕ) (k : ℕ) (place : DefinitionPlace) (value : Entry) → is_defined place ≡ true → same_entry (by_definition address k place value) (Err Undefined) ≡ false
no_fault address k Nowhere value h = absurd (true≢false (sym h))
no_fault address k (ByLabel line index) value h = refl
no_fault address k (Equ line) value h = at (nat_le line k) value
  where
    at : (b : Bool) (value : Entry) → same_entry (if b then or_faulty_equ value else Err LaterEqu) (Err Undefined) ≡ false
    at true (Ok v) = refl
    at true (Err fault) = refl
    at false value = refl

-- The text with one statement more

module _ (p : Program) (s : Stmt) (from : ℕ) (apart : IsApart p s from) where
  -- Definitions

  pub definition-same : (name : List ℕ) → adds p s name ≡ false → definition_of (more p s) name ≡ definition_of p name
  definition-same name none = ap (λ f. f name) (definitions-more p s) ∙ at (definition_of p name) none
    where
      here : DefinitionPlace
      here = place_in_statement (suc (length p)) s name

      at : (place : DefinitionPlace) → (not (is_defined place) && is_defined here) ≡ false → or_place place here ≡ place
      at Nowhere h = undefined here h
      at (ByLabel line index) h = refl
      at (Equ line) h = refl

  -- a name that it adds gave nothing before
  added-differs : (base i j : ℕ) (name : List ℕ) → adds p s name ≡ true → differs_in_name base p (more p s) i j name ≡ true
  added-differs base i j name added =
      let here : DefinitionPlace = place_in_statement (suc (length p)) s name in
      let parts = and_parts (not (is_defined (definition_of p name))) (is_defined here) added in
      let none : definition_of p name ≡ Nowhere = undefined (definition_of p name) (not-true (is_defined (definition_of p name)) parts.0) in
      let place : definition_of (more p s) name ≡ here = ap (λ f. f name) (definitions-more p s) ∙ ap (λ d. or_place d here) none in
      let given = usable_equs (more p s) i (body_at (more p s) i) in
      let other : same_entry (reference_of base (more p s) i name) (reference_of base p j name) ≡ false =
      (λ t. same_entry (by_definition (address_at base (more p s)) given (place t) (equ_value base (more p s) given name)) (by_definition (address_at base p) (usable_equs p j (body_at p j)) (none t) (equ_value base p (usable_equs p j (body_at p j)) name)))
      ∙ no_fault (address_at base (more p s)) given here (equ_value base (more p s) given name) parts.1 in
      or_left (not (same_entry (reference_of base (more p s) i name) (reference_of base p j name))) (not (same_constant (constant_of (more p s) i name) (constant_of p j name))) (not_from_false _ other)

  -- Local labels

  pub has_local-same : (number i : ℕ) → 1 ≤ i → i ≤ length p → has_local (more p s) number i ≡ has_local p number i
  has_local-same number i first last = ap (λ t. among_local number t.labels) (statement-earlier p s i first last)

  pub has_local-last : (number : ℕ) → has_local (more p s) number (suc (length p)) ≡ among_local number s.labels
  has_local-last number = ap (λ t. among_local number t.labels) (statement-last p s)

  -- Places, where no section moves

  module _ (base : ℕ) (stay : StaySections base p (shape_at_end p s)) where
    count-shapes : length (shapes_of p) ≡ length p
    count-shapes = length-for_lines (shape_at p) (length p)

    before-same : (i : ℕ) → i ≤ suc (length p) → before i (shapes_of p ++ shape_at_end p s ∷ []) ≡ before i (shapes_of p)
    before-same i last = take-append-le (i - 1) (shapes_of p) (shape_at_end p s ∷ []) (omega (arith, last, count-shapes))

    pub section-same : (i : ℕ) → i ≤ suc (length p) → section_at (more p s) i ≡ section_at p i
    section-same i last = ap (λ ms. section_of ms i) (shapes-more p s) ∙ ap (section_through Text) (before-same i last)

    offset-same : (i : ℕ) → i ≤ suc (length p) → offset_of (shapes_of p ++ shape_at_end p s ∷ []) i ≡ offset_of (shapes_of p) i
    offset-same i last = ap (λ ms. offset_through (section_number (section_through Text ms)) Text 0 ms) (before-same i last)

    pub address-same : (i : ℕ) → i ≤ suc (length p) → address_at base (more p s) i ≡ address_at base p i
    address-same i last =
        ap (λ ms. address_of base ms i) (shapes-more p s)
        ∙ ap (λ ms. section_base_of base (shapes_of p ++ shape_at_end p s ∷ []) (section_number (section_through Text ms)) + offset_of (shapes_of p ++ shape_at_end p s ∷ []) i) (before-same i last)
        ∙ (λ j. stay (section_number (section_of (shapes_of p) i)) (number_below (section_of (shapes_of p) i)) j + offset-same i last j)

    pub size-same : (i : ℕ) → 1 ≤ i → i ≤ length p → size_on (more p s) i ≡ size_on p i
    size-same i first last =
        let shape = get_or_append_left (shapes_of p) (shape_at_end p s ∷ []) measured.Nothing (i - 1) (omega (arith, first, last, count-shapes)) in
        let offset = offset-same i (omega (arith, last)) in
        ap (λ ms. line_size_of ms i) (shapes-more p s) ∙ (λ j. size_at (offset j) (shape j))

    pub place-same : (i : ℕ) → 1 ≤ i → i ≤ length p → place_at base (more p s) i ≡ place_at base p i
    place-same i first last =
        let section = section-same i (omega (arith, last)) in
        let address = address-same i (omega (arith, last)) in
        let size = size-same i first last in
        λ j. record { section = section j; address = address j; size = size j }

    pub end-still : IsStill base p (more p s) (suc (length p)) (touches p s from)
    end-still =
        let count = count-more p s in record {
          first = omega arith;
          last = omega (arith, count);
          longer = omega (arith, count);
          behind = λ i past within. omega (arith, past, within, count);
          statements = λ i other. statement-earlier p s i other.first other.last;
          unused = λ i other. apart.unused i other.first other.last;
          definitions = definition-same;
          differ = added-differs base;
          equs = equ-earlier p s;
          no_equ = λ within. absurd (omega (arith, within));
          constants = constants-same p s;
          locals = has_local-same;
          near = λ number i past has. apart.near number i (sym (has_local-last number) ∙ has);
          places = place-same;
        }
