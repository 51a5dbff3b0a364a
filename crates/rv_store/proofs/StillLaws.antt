-- Where a line is new and the others have to do with it by its names and its local labels alone, all of them that use none of these stay
-- as they are.
use Rattle.std.proofs.Common.{◌≡◌, ℕ, zero, suc, ◌+◌, ◌-◌, ◌<◌, ◌≤◌, ◌⊎◌, inl, inr, nat_le, nat_lt, Bool, true, false, true≢false, ◌==◌, not, ◌&&◌, ◌||◌, List, [], ◌∷◌, ◌++◌, length, take, get_or, Option, Some, None, Result, Err, Ok, ok_or, pos, if◌then◌else◌, append-nil, arith, ap, sym, ◌∙◌, refl}
use Rattle.std.specs.List.{list_any}
use Rattle.std.specs.Option.{is_some}
use Rattle.std.proofs.Math.Path.{fun_ext}
use Rattle.std.proofs.lemmas.Bool.{cases_eq, cases_lt, le-leb, lt-leb, lt-ltb, le-ltb, eqb-true, eq-eqb, ne_eqb, and_parts, and_right, not-true, not-false, not_from_true, or_parts, or_from}
use Rattle.std.proofs.lemmas.List.{get_or_past, get_or-take, length-take}
use Rattle.rv_expr.specs.declared.faults.ValueFault.{ValueFault}
use Rattle.rv_expr.specs.declared.faults.ValueFault.TheVariants.{NoPartner, Undefined, LaterEqu}
use Rattle.rv_expr.specs.declared.tree.Direction.{Direction}
use Rattle.rv_expr.specs.declared.tree.Direction.TheVariants.{Back, Forward}
use Rattle.rv_expr.specs.declared.tree.LabelReference.{LabelReference}
use Rattle.rv_expr.specs.declared.tree.LabelReference.TheVariants as reference
use Rattle.rv_stmt.specs.declared.statement.Body.{Body}
use Rattle.rv_stmt.specs.declared.statement.Body.TheVariants as body
use Rattle.rv_stmt.specs.Readings.{and_then}
use Rattle.rv_layout.specs.Sections.{is_code, section_number}
use Rattle.rv_layout.specs.Shapes.{shape_of}
use Rattle.rv_fix.specs.Values.{Entry, operand_values_of}
use Rattle.rv_list.specs.declared.view.LinePlace.{LinePlace}
use Rattle.rv_list.specs.declared.view.DefinitionPlace.{DefinitionPlace}
use Rattle.rv_list.specs.declared.view.DefinitionPlace.TheVariants.{Nowhere, Label as ByLabel, Equ}
use Rattle.rv_program.specs.declared.line_values.LineValues.TheVariants.{Nothing, Operands, Symbol, Padding}
use Rattle.rv_program.specs.Codes.{values_of_body, values_by_shape, values_at, code_by_values, code_at}
use Rattle.rv_program.specs.Constants.{defined_value, constant_through}
use Rattle.rv_program.specs.Definitions.{definition_of, is_equ_on}
use Rattle.rv_program.specs.Layout.{shape_at, section_at, address_at, size_at, place_at}
use Rattle.rv_program.specs.Pairs.{pcrel_high_of, high_by, high_at, has_bytes_in, next_with_bytes, high_at_line, paired_high_of, names_at}
use Rattle.rv_program.specs.Program.{Program, body_at, lines_that, last_line, first_line}
use Rattle.rv_program.specs.References.{has_local, local_line, line_of_place, label_line, or_faulty_equ, by_definition, address_of_line, names_on, no_pairs, equ_value, symbol_through, usable_equs, reference_of, references_at}
use Rattle.rv_program.specs.internal.Rows.{ArePlaces, AreHighs}
use Rattle.rv_program.specs.internal.TextRows.{no_place}
use Rattle.rv_store.specs.internal.Waiting.{waits, waits_on, is_awaited, KeepsHighs, AreBare, waits_there, HaveHigh}
use Rattle.rv_store.specs.internal.Still.{Touched, uses_any, IsOther, IsStill}
use Rattle.rv_program.specs.Uses.{names_in, has_local_label, tree_of_label, names_used, uses_local_label}
use Rattle.rv_store.proofs.AgreeingNames.{Agree, operand_values-agree, defined_value-agrees, defined_value-settled, high-settled}
use Rattle.rv_program.specs.lemmas.ConstantRows.{constant-kept}
use Rattle.rv_program.specs.lemmas.DefinitionLaws.{IsWithin, definition-within}
use Rattle.rv_program.specs.lemmas.EquLaws.{equ_value-kept}
use Rattle.rv_program.specs.lemmas.LineNameLaws.{IsLine, local_line-is, high-by, label_line-within}
use Rattle.rv_program.specs.lemmas.LineRows.{lines_that-same}
use Rattle.rv_program.specs.lemmas.Programs.{kept-up, length-for_lines, at-for_lines}

-- Lines that pass a test, where no line behind the first n does

last_line-same : (f g : ℕ → Bool) (n : ℕ) → ((i : ℕ) → 1 ≤ i → i ≤ n → f i ≡ g i) → last_line f n ≡ last_line g n
last_line-same f g zero same = refl
last_line-same f g (suc n) same =
    let earlier = last_line-same f g n (λ i first last. same i first (omega (arith, last))) in
    let here = same (suc n) (omega arith) (omega arith) in
    λ j. if here j then Some (suc n) else earlier j

first_line-none : (f : ℕ → Bool) (i count : ℕ) → ((j : ℕ) → i < j → j ≤ i + count → f j ≡ false) → first_line f i count ≡ None
first_line-none f i zero none = refl
first_line-none f i (suc count) none =
    ap (λ b. if b then Some (suc i) else first_line f (suc i) count) (none (suc i) (omega arith) (omega arith))
    ∙ first_line-none f (suc i) count (λ j above below. none j (omega (arith, above)) (omega (arith, below)))

first_line-still : (f g : ℕ → Bool) (i n m : ℕ) → n ≤ m → ((j : ℕ) → i < j → j ≤ i + n → f j ≡ g j) → ((j : ℕ) → i + n < j → j ≤ i + m → f j ≡ false) → first_line f i m ≡ first_line g i n
first_line-still f g i zero m up same none = first_line-none f i m (λ j above below. none j (omega (arith, above)) below)
first_line-still f g i (suc n) zero up same none = absurd (omega (arith, up))
first_line-still f g i (suc n) (suc m) up same none =
    let here = same (suc i) (omega arith) (omega arith) in
    let later = first_line-still f g (suc i) n m (omega (arith, up)) (λ j above below. same j (omega (arith, above)) (omega (arith, below))) (λ j above below. none j (omega (arith, above)) (omega (arith, below))) in
    λ k. if here k then Some (suc i) else later k

-- one that is found among the first lines is the first of all
first_line-found : (f g : ℕ → Bool) (i n m : ℕ) → n ≤ m → ((j : ℕ) → i < j → j ≤ i + n → f j ≡ g j) → is_some (first_line g i n) ≡ true → first_line f i m ≡ first_line g i n
first_line-found f g i zero m up same found = absurd (true≢false (sym found))
first_line-found f g i (suc n) zero up same found = absurd (omega (arith, up))
first_line-found f g i (suc n) (suc m) up same found =
    ap (λ b. if b then Some (suc i) else first_line f (suc i) m) (same (suc i) (omega arith) (omega arith))
    ∙ at (g (suc i)) found (first_line-found f g (suc i) n m (omega (arith, up)) (λ j above below. same j (omega (arith, above)) (omega (arith, below))))
  where
    at : (b : Bool) → is_some (if b then Some (suc i) else first_line g (suc i) n) ≡ true → (is_some (first_line g (suc i) n) ≡ true → first_line f (suc i) m ≡ first_line g (suc i) n) → (if b then Some (suc i) else first_line f (suc i) m) ≡ (if b then Some (suc i) else first_line g (suc i) n)
    at true found later = refl
    at false found later = later found

-- what a text defines is no `.equ` after it
pub no_equ_after : (n k : ℕ) (place : DefinitionPlace) → n < k → IsWithin 1 (1 + n) place → is_equ_on k place ≡ false
no_equ_after n k Nowhere past within = refl
no_equ_after n k (ByLabel line index) past within = refl
no_equ_after n k (Equ line) past within = ne_eqb line k (λ same. omega (arith, same, past, within.1))

-- what no line behind the first n changes
steady : {A : Type 0} (f : ℕ → A) (n m : ℕ) → n ≤ m → ((i : ℕ) → n ≤ i → f (suc i) ≡ f i) → f m ≡ f n
steady f n m up step = kept-up (λ i. f i ≡ f n) n m up (λ i past last so_far. step i past ∙ so_far) refl

-- every `.equ` is on one of the lines
by_definition-all : (address : ℕ → ℕ) (n m : ℕ) (place : DefinitionPlace) (value : Entry) → n ≤ m → IsWithin 1 (1 + n) place → by_definition address m place value ≡ by_definition address n place value
by_definition-all address n m Nowhere value up within = refl
by_definition-all address n m (ByLabel line index) value up within = refl
by_definition-all address n m (Equ line) value up within =
    let one : nat_le line m ≡ true = le-leb line m (omega (arith, up, within.1)) in
    let other : nat_le line n ≡ true = le-leb line n (omega (arith, within.1)) in
    ap (λ b. if b then or_faulty_equ value else Err LaterEqu) (one ∙ sym other)

and-true : (b : Bool) → (b && true) ≡ b
and-true true = refl
and-true false = refl

-- one that passes is found
pub first_line-some : (f : ℕ → Bool) (i count j : ℕ) → i < j → j ≤ i + count → f j ≡ true → is_some (first_line f i count) ≡ true
first_line-some f i zero j above below passes = absurd (omega (arith, above, below))
first_line-some f i (suc count) j above below passes = at (f (suc i)) refl (cases_eq j (suc i)) (λ past. first_line-some f (suc i) count j past (omega (arith, below)) passes)
  where
    at : (b : Bool) → f (suc i) ≡ b → (j ≡ suc i) ⊎ (j ≡ suc i → ⊥) → (suc i < j → is_some (first_line f (suc i) count) ≡ true) → is_some (if b then Some (suc i) else first_line f (suc i) count) ≡ true
    at true e place later = refl
    at false e (inl here) later = absurd (true≢false (sym passes ∙ ap f here ∙ e))
    at false e (inr past) later = later (omega (arith, above, past))

-- and what is found passes
first_line-passes : (f : ℕ → Bool) (i count line : ℕ) → first_line f i count ≡ Some line → f line ≡ true
first_line-passes f i zero line e = absurd (let no : None ≡ Some line = e in cc)
first_line-passes f i (suc count) line e = at (f (suc i)) refl e (first_line-passes f (suc i) count line)
  where
    at : (b : Bool) → f (suc i) ≡ b → (if b then Some (suc i) else first_line f (suc i) count) ≡ Some line → (first_line f (suc i) count ≡ Some line → f line ≡ true) → f line ≡ true
    at true passes found later = let is : ◌≡◌ {A = Option ℕ} (Some (suc i)) (Some line) = found in let here : suc i ≡ line = cc in sym (ap f here) ∙ passes
    at false passes found later = later found

last_line-passes : (f : ℕ → Bool) (n line : ℕ) → last_line f n ≡ Some line → f line ≡ true
last_line-passes f zero line e = absurd (let no : None ≡ Some line = e in cc)
last_line-passes f (suc n) line e = at (f (suc n)) refl e (last_line-passes f n line)
  where
    at : (b : Bool) → f (suc n) ≡ b → (if b then Some (suc n) else last_line f n) ≡ Some line → (last_line f n ≡ Some line → f line ≡ true) → f line ≡ true
    at true passes found later = let is : ◌≡◌ {A = Option ℕ} (Some (suc n)) (Some line) = found in let here : suc n ≡ line = cc in sym (ap f here) ∙ passes
    at false passes found later = later found

-- the line of a local label has it
local-there : (p : Program) (i number : ℕ) (direction : Direction) (line : ℕ) → ok_or (local_line p i number direction) Undefined ≡ Ok line → has_local p number line ≡ true
local-there p i number direction line e = at direction (found (local_line p i number direction) e)
  where
    found : (o : Option ℕ) → ok_or o Undefined ≡ Ok line → o ≡ Some line
    found None h = absurd (let no : Err Undefined ≡ Ok line = h in cc)
    found (Some x) h = let is : ◌≡◌ {A = Result ℕ ValueFault} (Ok x) (Ok line) = h in let same : x ≡ line = cc in ap Some same

    at : (d : Direction) → local_line p i number d ≡ Some line → has_local p number line ≡ true
    at Back h = last_line-passes (has_local p number) i line h
    at Forward h = first_line-passes (has_local p number) i (length p - i) line h

-- a line that does not wait has another one with bytes, or what is added is in another section
stays-by : (p : Program) (added : Option ℕ) (i : ℕ) → waits p added i ≡ false → (is_some (next_with_bytes p (section_number (section_at p i)) (i - 1)) ≡ true) ⊎ (added ≡ Some (section_number (section_at p i)) → ⊥)
stays-by p None i free = inr (λ e. let no : None ≡ Some (section_number (section_at p i)) = e in cc)
stays-by p (Some t) i free = at (cases_eq (section_number (section_at p i)) t)
  where
    here : ℕ
    here = section_number (section_at p i)

    at : (here ≡ t) ⊎ (here ≡ t → ⊥) → (is_some (next_with_bytes p here (i - 1)) ≡ true) ⊎ (Some t ≡ Some here → ⊥)
    at (inl same) =
        let found : not (is_some (next_with_bytes p t (i - 1))) ≡ false = ap (λ b. b && not (is_some (next_with_bytes p t (i - 1)))) (sym (eq-eqb here t same)) ∙ free in
        inl (ap (λ s. is_some (next_with_bytes p s (i - 1))) same ∙ not-false (is_some (next_with_bytes p t (i - 1))) found)
    at (inr differs) = inr (λ e. differs (let is : ◌≡◌ {A = Option ℕ} (Some t) (Some here) = e in let back : t ≡ here = cc in sym back))

-- one that waits has no high half yet
unpaired-when : (base : ℕ) (p : Program) (added : Option ℕ) (i : ℕ) → waits p added i ≡ true → paired_high_of base p i ≡ Err NoPartner
unpaired-when base p None i h = absurd (true≢false (sym h))
unpaired-when base p (Some t) i h =
    let parts = and_parts (section_number (section_at p i) == t) (not (is_some (next_with_bytes p t (i - 1)))) h in
    let same : section_number (section_at p i) ≡ t = eqb-true (section_number (section_at p i)) t parts.0 in
    (λ j. high_at_line base p (next_with_bytes p (same j) (i - 1))) ∙ at (next_with_bytes p t (i - 1)) (not-true (is_some (next_with_bytes p t (i - 1))) parts.1)
  where
    at : (o : Option ℕ) → is_some o ≡ false → high_at_line base p o ≡ Err NoPartner
    at None none = refl
    at (Some line) none = absurd (true≢false none)

-- Names that pass one of two tests

either-none : (f g : List ℕ → Bool) (names : List (List ℕ)) → list_any f names ≡ false → list_any g names ≡ false → list_any (λ name. f name || g name) names ≡ false
either-none f g [] one other = refl
either-none f g (n ∷ ns) one other =
    let first = or_parts (f n) (list_any f ns) one in
    let second = or_parts (g n) (list_any g ns) other in
    or_from (f n || g n) (list_any (λ name. f name || g name) ns) (or_from (f n) (g n) first.0 second.0) (either-none f g ns first.1 second.1)

either-parts : (f g : List ℕ → Bool) (names : List (List ℕ)) → list_any (λ name. f name || g name) names ≡ false → (list_any f names ≡ false) × (list_any g names ≡ false)
either-parts f g [] none = (refl, refl)
either-parts f g (n ∷ ns) none =
    let parts = or_parts (f n || g n) (list_any (λ name. f name || g name) ns) none in
    let here = or_parts (f n) (g n) parts.0 in
    let rest = either-parts f g ns parts.1 in
    (or_from (f n) (list_any f ns) here.0 rest.0, or_from (g n) (list_any g ns) here.1 rest.1)

-- Where no high half is added
pub none-added : (base : ℕ) (p q : Program) (k : ℕ) → (k ≤ length p → high_at base q k ≡ high_at base p k) → (length p < k → high_at base q k ≡ Err NoPartner) → KeepsHighs base p q k None
none-added base p q k within behind = record {
  within = within;
  others = λ t past bytes. inl (behind past);
  there = λ t e. absurd (let no : None ≡ Some t = e in cc);
  unused = λ i first last. none-in (names_used (body_at p i));
  local = λ number i first last h. absurd (true≢false (sym h));
}
  where
    none-in : (names : List (List ℕ)) → list_any (is_awaited p None) names ≡ false
    none-in [] = refl
    none-in (n ∷ ns) = or_from (is_awaited p None n) (list_any (is_awaited p None) ns) (at (line_of_place (definition_of p n))) (none-in ns)
      where
        at : (r : Result ℕ ValueFault) → waits_on p None r ≡ false
        at (Ok line) = refl
        at (Err fault) = refl

-- The two texts

module _ {base : ℕ} {p q : Program} {k : ℕ} {touched : Touched} (is : IsStill base p q k touched) where
  -- none of these names is touched
  abbrev NoneIn : List (List ℕ) → Type 0
  NoneIn names = list_any touched.names names ≡ false

  -- line i finds each local label where it found it
  abbrev Near : (i : ℕ) → Type 0
  Near i = (number : ℕ) (direction : Direction) → local_line q i number direction ≡ local_line p i number direction

  pub body-still : (i : ℕ) → IsOther p k i → body_at q i ≡ body_at p i
  body-still i other = ap (λ s. s.body) (is.statements i other)

  pub shape-still : (i : ℕ) → IsOther p k i → shape_at q i ≡ shape_at p i
  shape-still i other =
      let given = is.constants (i - 1) (omega (arith, other.last)) in
      let here = body-still i other in
      λ j. shape_of (given j) (here j)

  -- Places

  section-still : (i : ℕ) → 1 ≤ i → i ≤ length p → section_at q i ≡ section_at p i
  section-still i first last = ap (λ place. place.section) (is.places i first last)

  address-still : (i : ℕ) → 1 ≤ i → i ≤ length p → address_at base q i ≡ address_at base p i
  address-still i first last = ap (λ place. place.address) (is.places i first last)

  size-still : (i : ℕ) → 1 ≤ i → i ≤ length p → size_at q i ≡ size_at p i
  size-still i first last = ap (λ place. place.size) (is.places i first last)

  -- Local labels

  -- the lines of a label are those before, and line k where it is behind the text
  pub locals-put : (number : ℕ) → lines_that (has_local q number) (length q) ≡ lines_that (has_local p number) (length p) ++ (if nat_lt (length p) k && has_local q number k then k ∷ [] else [])
  locals-put number = at (cases_lt (length p) (length q))
    where
      f : ℕ → Bool
      f = has_local q number

      earlier : lines_that f (length p) ≡ lines_that (has_local p number) (length p)
      earlier = lines_that-same (has_local p number) f (length p) (λ i less. is.locals number (suc i) (omega arith) (omega (arith, less)))

      at : (length p < length q) ⊎ (length q ≤ length p) → lines_that f (length q) ≡ lines_that (has_local p number) (length p) ++ (if nat_lt (length p) k && f k then k ∷ [] else [])
      at (inl more) =
          let next = is.behind (suc (length p)) (omega arith) (omega (arith, more)) in
          let end = is.behind (length q) more (omega arith) in
          let all : length q ≡ suc (length p) = end ∙ sym next in
          let yes : nat_lt (length p) k ≡ true = lt-ltb (length p) k (omega (arith, next)) in
          ap (lines_that f) all
          ∙ (λ j. earlier j ++ (if f (next j) then next j ∷ [] else []))
          ∙ ap (λ b. lines_that (has_local p number) (length p) ++ (if b && f k then k ∷ [] else [])) (sym yes)
      at (inr none) =
          let longer = is.longer in let last = is.last in
          let all : length q ≡ length p = omega (arith, none, longer) in
          let no : nat_lt (length p) k ≡ false = le-ltb (length p) k (omega (arith, last, none)) in
          ap (lines_that f) all
          ∙ earlier
          ∙ sym (append-nil (lines_that (has_local p number) (length p)))
          ∙ ap (λ b. lines_that (has_local p number) (length p) ++ (if b && f k then k ∷ [] else [])) (sym no)

  forward-still : (i number : ℕ) → i ≤ length p → (length p < k → has_local q number k ≡ true → is_some (local_line p i number Forward) ≡ true) → local_line q i number Forward ≡ local_line p i number Forward
  forward-still i number within found = at (cases_lt (length p) k) (has_local q number k) refl
    where
      same : (j : ℕ) → i < j → j ≤ i + (length p - i) → has_local q number j ≡ has_local p number j
      same j above below = is.locals number j (omega (arith, above)) (omega (arith, below, within))

      none : ((j : ℕ) → length p < j → j ≤ length q → has_local q number j ≡ false) → local_line q i number Forward ≡ local_line p i number Forward
      none behind =
          let longer = is.longer in
          first_line-still (has_local q number) (has_local p number) i (length p - i) (length q - i) (omega (arith, longer)) same
          (λ j above below. behind j (omega (arith, above, within)) (omega (arith, below, within, longer)))

      at : (length p < k) ⊎ (k ≤ length p) → (b : Bool) → has_local q number k ≡ b → local_line q i number Forward ≡ local_line p i number Forward
      at (inl past) true has =
          let longer = is.longer in
          first_line-found (has_local q number) (has_local p number) i (length p - i) (length q - i) (omega (arith, longer)) same (found past has)
      at (inl past) false has = none (λ j above below. ap (has_local q number) (is.behind j above below) ∙ has)
      at (inr here) b has = none (λ j above below. absurd (let e = is.behind j above below in omega (arith, e, above, here)))

  -- a line before those that local labels are touched for
  near-before : (i : ℕ) → i ≤ length p → i < touched.from → Near i
  near-before i within before number Back =
      last_line-same (has_local q number) (has_local p number) i (λ j first last. is.locals number j first (omega (arith, last, within)))
  near-before i within before number Forward = forward-still i number within (λ past has. is.near number i past has within before)

  -- one that uses nothing that is touched
  pub none-used : (i : ℕ) → i ≤ length p → uses_any touched p i ≡ false → NoneIn (names_used (body_at p i)) × (uses_local_label (body_at p i) ≡ true → Near i)
  none-used i within none =
      let parts = or_parts (list_any touched.names (names_used (body_at p i))) (nat_le touched.from i && uses_local_label (body_at p i)) none in (
        parts.0,
        λ uses. near-before i within (at (cases_lt i touched.from) uses parts.1),
      )
    where
      at : (i < touched.from) ⊎ (touched.from ≤ i) → uses_local_label (body_at p i) ≡ true → (nat_le touched.from i && uses_local_label (body_at p i)) ≡ false → i < touched.from
      at (inl before) uses unused = before
      at (inr from) uses unused = absurd (true≢false (sym (λ j. le-leb touched.from i from j && uses j) ∙ unused))

  label_line-still : (i : ℕ) (label : LabelReference) → i ≤ length p → NoneIn (names_in (tree_of_label label)) → (has_local_label (tree_of_label label) ≡ true → Near i) → label_line q i label ≡ label_line p i label
  label_line-still i (reference.Symbol name) within none near =
      ap line_of_place (is.definitions name (or_parts (touched.names name) false none).0)
  label_line-still i (reference.Local number direction) within none near =
      let line = near refl number direction in λ j. ok_or (line j) Undefined
  label_line-still i reference.Here within none near = refl

  address_of_line-still : (o : Option ℕ) → IsLine (length p) o → address_of_line base q o ≡ address_of_line base p o
  address_of_line-still None within = refl
  address_of_line-still (Some line) within = let address = address-still line within.0 within.1 in λ j. Ok (pos (address j))

  local-still : (i number : ℕ) (direction : Direction) → i ≤ length p → Near i → address_of_line base q (local_line q i number direction) ≡ address_of_line base p (local_line p i number direction)
  local-still i number direction within near =
      ap (address_of_line base q) (near number direction)
      ∙ address_of_line-still (local_line p i number direction) (local_line-is p i number direction within)

  -- Names

  names_on-agree : (i : ℕ) (symbol symbol' : List ℕ → Entry) (paired paired' : ℕ → Entry) → 1 ≤ i → i ≤ length p → ((name : List ℕ) → touched.names name ≡ false → symbol name ≡ symbol' name) → ((label : LabelReference) → NoneIn (names_in (tree_of_label label)) → (has_local_label (tree_of_label label) ≡ true → Near i) → and_then (label_line q i label) paired ≡ and_then (label_line p i label) paired') → Agree touched.names (Near i) (names_on base q i symbol paired) (names_on base p i symbol' paired')
  names_on-agree i symbol symbol' paired paired' first within symbols pairs =
      let here = address-still i first within in record {
        symbols = symbols;
        local = λ near j number direction. local-still i number direction within near j;
        here = λ j. Ok (pos (here j));
        pairs = pairs;
      }

  -- for expressions
  pub expressions-agree : (i : ℕ) (symbol symbol' : List ℕ → Entry) → 1 ≤ i → i ≤ length p → ((name : List ℕ) → touched.names name ≡ false → symbol name ≡ symbol' name) → Agree touched.names (Near i) (names_on base q i symbol no_pairs) (names_on base p i symbol' no_pairs)
  expressions-agree i symbol symbol' first within symbols =
      names_on-agree i symbol symbol' no_pairs no_pairs first within symbols (λ label none near j. and_then (label_line-still i label within none near j) no_pairs)

  by_definition-still : (m : ℕ) (place : DefinitionPlace) (value : Entry) → IsWithin 1 (1 + length p) place → by_definition (address_at base q) m place value ≡ by_definition (address_at base p) m place value
  by_definition-still m Nowhere value within = refl
  by_definition-still m (ByLabel line index) value within =
      let address = address-still line within.0 (omega (arith, within.1)) in λ j. Ok (pos (address j))
  by_definition-still m (Equ line) value within = refl

  symbol-by : (m : ℕ) → equ_value base q m ≡ equ_value base p m → (name : List ℕ) → touched.names name ≡ false → symbol_through base q m name ≡ symbol_through base p m name
  symbol-by m equs name none =
      (λ j. by_definition (address_at base q) m (is.definitions name none j) (equs j name))
      ∙ by_definition-still m (definition_of p name) (equ_value base p m name) (definition-within p name)

  pub equ_value-still : (m : ℕ) → m ≤ length p → equ_value base q m ≡ equ_value base p m
  equ_value-still zero within = refl
  equ_value-still (suc m) within = at (equ_value-still m (omega (arith, within))) (cases_eq (suc m) k)
    where
      at : equ_value base q m ≡ equ_value base p m → (suc m ≡ k) ⊎ (suc m ≡ k → ⊥) → equ_value base q (suc m) ≡ equ_value base p (suc m)
      at earlier (inl here) = fun_ext (λ name.
          let no : is_equ_on (suc m) (definition_of p name) ≡ false = ap (λ n. is_equ_on n (definition_of p name)) here ∙ is.no_equ (omega (arith, here, within)) name in
          equ_value-kept base q m name (is.equs (suc m) name within ∙ no) ∙ ap (λ f. f name) earlier ∙ sym (equ_value-kept base p m name no))
      at earlier (inr differs) =
          let other : IsOther p k (suc m) = record { first = omega arith; last = within; differs = differs } in
          let names = expressions-agree (suc m) (symbol_through base q m) (symbol_through base p m) (omega arith) within (symbol-by m earlier) in
          let value = ap (defined_value (names_on base q (suc m) (symbol_through base q m) no_pairs)) (body-still (suc m) other) ∙ defined_value-settled names (body_at p (suc m)) (λ settled. none-used (suc m) within (is.unused (suc m) other settled)) in
          λ j name. if is.equs (suc m) name within j then value j else earlier j name

  -- The lines behind the text give none of the other symbols

  no_equ-behind : (m : ℕ) (name : List ℕ) → touched.names name ≡ false → length p < m → is_equ_on m (definition_of q name) ≡ false
  no_equ-behind m name none past =
      ap (is_equ_on m) (is.definitions name none) ∙ no_equ_after (length p) m (definition_of p name) past (definition-within p name)

  pub constant-all : (m : ℕ) → length p ≤ m → (name : List ℕ) → touched.names name ≡ false → constant_through q m name ≡ constant_through p (length p) name
  constant-all m up name none =
      steady (λ i. constant_through q i name) (length p) m up (λ i past. constant-kept q i name (no_equ-behind (suc i) name none (omega (arith, past))))
      ∙ ap (λ f. f name) (is.constants (length p) (omega arith))

  pub equ_value-all : (m : ℕ) → length p ≤ m → (name : List ℕ) → touched.names name ≡ false → equ_value base q m name ≡ equ_value base p (length p) name
  equ_value-all m up name none =
      steady (λ i. equ_value base q i name) (length p) m up (λ i past. equ_value-kept base q i name (no_equ-behind (suc i) name none (omega (arith, past))))
      ∙ ap (λ f. f name) (equ_value-still (length p) (omega arith))

  pub symbol-all : (name : List ℕ) → touched.names name ≡ false → symbol_through base q (length q) name ≡ symbol_through base p (length p) name
  symbol-all name none =
      let value = equ_value base p (length p) name in
      (λ j. by_definition (address_at base q) (length q) (is.definitions name none j) (equ_value-all (length q) is.longer name none j))
      ∙ by_definition-still (length q) (definition_of p name) value (definition-within p name)
      ∙ by_definition-all (address_at base p) (length p) (length q) (definition_of p name) value is.longer (definition-within p name)

  symbol-usable : (i : ℕ) (b : Body) → i ≤ length p → (name : List ℕ) → touched.names name ≡ false → symbol_through base q (usable_equs q i b) name ≡ symbol_through base p (usable_equs p i b) name
  symbol-usable i (body.Equ d) last name none = symbol-by (i - 1) (equ_value-still (i - 1) (omega (arith, last))) name none
  symbol-usable i b last name none = symbol-all name none

  reference-still : (i : ℕ) → IsOther p k i → (name : List ℕ) → touched.names name ≡ false → reference_of base q i name ≡ reference_of base p i name
  reference-still i other name none =
      ap (λ b. symbol_through base q (usable_equs q i b) name) (body-still i other) ∙ symbol-usable i (body_at p i) other.last name none

  references-agree : (i : ℕ) → IsOther p k i → Agree touched.names (Near i) (references_at base q i) (references_at base p i)
  references-agree i other =
      expressions-agree i (reference_of base q i) (reference_of base p i) other.first other.last (reference-still i other)

  -- High halves

  -- a text has no more lines than line k behind the other one
  pub behind-is : length p < k → (length q ≡ k) × (suc (length p) ≡ k)
  behind-is past =
      let last = is.last in (
        is.behind (length q) (omega (arith, past, last)) (omega arith),
        is.behind (suc (length p)) (omega arith) (omega (arith, past, last)),
      )

  has_bytes-still : (section i : ℕ) → 1 ≤ i → i ≤ length p → has_bytes_in q section i ≡ has_bytes_in p section i
  has_bytes-still section i first last =
      let there = section-still i first last in
      let size = size-still i first last in
      λ j. section_number (there j) == section && not (size j == 0)

  -- line k is the first with bytes of its section behind a line from which on the other text has none
  next-added : (section i n m : ℕ) → i + n ≡ length p → i + m ≡ length q → length p < k → has_bytes_in q section k ≡ true → is_some (first_line (has_bytes_in p section) i n) ≡ false → first_line (has_bytes_in q section) i m ≡ Some k
  next-added section i zero zero e all past bytes none = absurd (let b = behind-is past in omega (arith, e, all, past, b.0))
  next-added section i zero (suc m) e all past bytes none =
      let here : suc i ≡ k = (let b = behind-is past in omega (arith, e, b.1)) in
      ap (λ b. if b then Some (suc i) else first_line (has_bytes_in q section) (suc i) m) (ap (has_bytes_in q section) here ∙ bytes) ∙ ap Some here
  next-added section i (suc n) zero e all past bytes none = absurd (let longer = is.longer in omega (arith, e, all, longer))
  next-added section i (suc n) (suc m) e all past bytes none =
      ap (λ b. if b then Some (suc i) else first_line (has_bytes_in q section) (suc i) m) (has_bytes-still section (suc i) (omega arith) (omega (arith, e)))
      ∙ at (has_bytes_in p section (suc i)) none (next-added section (suc i) n m (omega (arith, e)) (omega (arith, all)) past bytes)
    where
      at : (b : Bool) → is_some (if b then Some (suc i) else first_line (has_bytes_in p section) (suc i) n) ≡ false → (is_some (first_line (has_bytes_in p section) (suc i) n) ≡ false → first_line (has_bytes_in q section) (suc i) m ≡ Some k) → (if b then Some (suc i) else first_line (has_bytes_in q section) (suc i) m) ≡ Some k
      at true found later = absurd (true≢false found)
      at false found later = later found

  module _ {added : Option ℕ} (highs : KeepsHighs base p q k added) where
    high-still : (i : ℕ) → 1 ≤ i → i ≤ length p → high_at base q i ≡ high_at base p i
    high-still i first last = at (cases_eq i k)
      where
        at : (i ≡ k) ⊎ (i ≡ k → ⊥) → high_at base q i ≡ high_at base p i
        at (inl here) = ap (high_at base q) here ∙ highs.within (omega (arith, here, last)) ∙ ap (high_at base p) (sym here)
        at (inr differs) =
            let other : IsOther p k i = record { first = first; last = last; differs = differs } in
            let address = address-still i first last in
            let here = body-still i other in
            (λ j. high_by (references_at base q i) (address j) (pcrel_high_of (here j)))
            ∙ high-settled (references-agree i other) (address_at base p i) (body_at p i) (λ settled. none-used i last (is.unused i other settled))

    -- behind the text there is none in another section
    next_high-none : (section i count : ℕ) → (added ≡ Some section → ⊥) → length p ≤ i → i + count ≤ length q → high_at_line base q (first_line (has_bytes_in q section) i count) ≡ Err NoPartner
    next_high-none section i zero other past last = refl
    next_high-none section i (suc count) other past last =
        at (has_bytes_in q section (suc i)) refl (next_high-none section (suc i) count other (omega (arith, past)) (omega (arith, last)))
      where
        here : suc i ≡ k
        here = is.behind (suc i) (omega (arith, past)) (omega (arith, last))

        of : (high_at base q k ≡ Err NoPartner) ⊎ (added ≡ Some section) → high_at base q (suc i) ≡ Err NoPartner
        of (inl none) = ap (high_at base q) here ∙ none
        of (inr same) = absurd (other same)

        at : (b : Bool) → has_bytes_in q section (suc i) ≡ b → high_at_line base q (first_line (has_bytes_in q section) (suc i) count) ≡ Err NoPartner → high_at_line base q (if b then Some (suc i) else first_line (has_bytes_in q section) (suc i) count) ≡ Err NoPartner
        at true bytes later = of (highs.others section (omega (arith, past, here)) (ap (has_bytes_in q section) (sym here) ∙ bytes))
        at false bytes later = later

    -- another line with bytes follows, or line k is in another section
    abbrev Stays : (section i n : ℕ) → Type 0
    Stays section i n = (is_some (first_line (has_bytes_in p section) i n) ≡ true) ⊎ (added ≡ Some section → ⊥)

    next_high-still : (section i n m : ℕ) → i + n ≡ length p → i + m ≡ length q → Stays section i n → high_at_line base q (first_line (has_bytes_in q section) i m) ≡ high_at_line base p (first_line (has_bytes_in p section) i n)
    next_high-still section i zero m e all (inl found) = absurd (true≢false (sym found))
    next_high-still section i zero m e all (inr other) = next_high-none section i m other (omega (arith, e)) (omega (arith, all))
    next_high-still section i (suc n) zero e all stays = absurd (let longer = is.longer in omega (arith, e, all, longer))
    next_high-still section i (suc n) (suc m) e all stays =
        ap (λ b. high_at_line base q (if b then Some (suc i) else first_line (has_bytes_in q section) (suc i) m)) (has_bytes-still section (suc i) (omega arith) (omega (arith, e)))
        ∙ at (has_bytes_in p section (suc i)) stays (next_high-still section (suc i) n m (omega (arith, e)) (omega (arith, all)))
      where
        at : (b : Bool) → (is_some (if b then Some (suc i) else first_line (has_bytes_in p section) (suc i) n) ≡ true) ⊎ (added ≡ Some section → ⊥) → (Stays section (suc i) n → high_at_line base q (first_line (has_bytes_in q section) (suc i) m) ≡ high_at_line base p (first_line (has_bytes_in p section) (suc i) n)) → high_at_line base q (if b then Some (suc i) else first_line (has_bytes_in q section) (suc i) m) ≡ high_at_line base p (if b then Some (suc i) else first_line (has_bytes_in p section) (suc i) n)
        at true stays later = high-still (suc i) (omega arith) (omega (arith, e))
        at false stays later = later stays

    paired_high-still : (i : ℕ) → 1 ≤ i → i ≤ length p → waits p added i ≡ false → paired_high_of base q i ≡ paired_high_of base p i
    paired_high-still i first last free =
        let longer = is.longer in
        let section = section-still i first last in
        (λ j. high_at_line base q (first_line (has_bytes_in q (section_number (section j))) (i - 1) (length q - (i - 1))))
        ∙ next_high-still (section_number (section_at p i)) (i - 1) (length p - (i - 1)) (length q - (i - 1)) (omega (arith, first, last)) (omega (arith, first, last, longer)) (stays-by p added i free)

    -- the row of what is paired, where no high half is added
    pub highs-still : added ≡ None → (row : List Entry) → AreHighs base p row → AreHighs base q row
    highs-still plain row are = record {
      each = λ i below. at i below (cases_lt i (length p));
      within = let longer = is.longer in omega (arith, are.within, longer);
    }
      where
        other : (t : ℕ) → added ≡ Some t → ⊥
        other t e = let wrong : None ≡ Some t = sym plain ∙ e in cc

        at : (i : ℕ) → i < length q → (i < length p) ⊎ (length p ≤ i) → get_or row i (Err NoPartner) ≡ paired_high_of base q (suc i)
        at i below (inl earlier) = are.each i earlier ∙ sym (paired_high-still (suc i) (omega arith) (omega (arith, earlier)) (ap (λ o. waits p o (suc i)) plain))
        at i below (inr past) =
            get_or_past row i (Err NoPartner) (omega (arith, past, are.within))
            ∙ sym (next_high-none (section_number (section_at q (suc i))) (suc i - 1) (length q - (suc i - 1)) (other (section_number (section_at q (suc i)))) (omega (arith, past)) (omega (arith, past, below)))

    pub highs-back : added ≡ None → (row : List Entry) → AreHighs base q row → AreHighs base p (take (length p) row)
    highs-back plain row are = record {
      each = λ i below.
          let longer = is.longer in
          get_or-take (length p) row i (Err NoPartner) below ∙ are.each i (omega (arith, below, longer)) ∙ paired_high-still (suc i) (omega arith) (omega (arith, below)) (ap (λ o. waits p o (suc i)) plain);
      within = omega (arith, length-take (length p) row);
    }

    -- Lines that wait

    -- they have the high half of line k
    paired-when : (o : Option ℕ) → ((t : ℕ) → o ≡ Some t → (length p < k) × (has_bytes_in q t k ≡ true)) → (i : ℕ) → 1 ≤ i → i ≤ length p → waits p o i ≡ true → paired_high_of base q i ≡ high_at base q k
    paired-when None there i first last h = absurd (true≢false (sym h))
    paired-when (Some t) there i first last h =
        let longer = is.longer in
        let parts = and_parts (section_number (section_at p i) == t) (not (is_some (next_with_bytes p t (i - 1)))) h in
        let same : section_number (section_at p i) ≡ t = eqb-true (section_number (section_at p i)) t parts.0 in
        let section = section-still i first last in
        let found = there t refl in
        (λ j. high_at_line base q (first_line (has_bytes_in q (section_number (section j))) (i - 1) (length q - (i - 1))))
        ∙ (λ j. high_at_line base q (first_line (has_bytes_in q (same j)) (i - 1) (length q - (i - 1))))
        ∙ ap (high_at_line base q) (next-added t (i - 1) (length p - (i - 1)) (length q - (i - 1)) (omega (arith, first, last)) (omega (arith, first, last, longer)) found.0 found.1 (not-true (is_some (next_with_bytes p t (i - 1))) parts.1))

    -- as line k has
    paired-last : (t : ℕ) → length p < k → has_bytes_in q t k ≡ true → paired_high_of base q k ≡ high_at base q k
    paired-last t past bytes =
        let number = behind-is past in
        let same : section_number (section_at q k) ≡ t = eqb-true (section_number (section_at q k)) t (and_parts (section_number (section_at q k) == t) (not (size_at q k == 0)) bytes).0 in
        (λ j. high_at_line base q (first_line (has_bytes_in q (same j)) (k - 1) (length q - (k - 1))))
        ∙ ap (high_at_line base q) (next-added t (k - 1) 0 (length q - (k - 1)) (omega (arith, number.1)) (omega (arith, number.0, number.1)) past bytes refl)

    -- the row that holds it for them
    module _ (t first : ℕ) (adds : added ≡ Some t) (bare : AreBare p t first) (places : List LinePlace) (placed : ArePlaces base q places) where
      lies : (i : ℕ) → i < length q → get_or places i no_place ≡ place_at base q (suc i)
      lies i below = ap (λ row. get_or row i no_place) placed ∙ at-for_lines (place_at base q) (length q) i no_place below

      count : length places ≡ length q
      count = ap length placed ∙ length-for_lines (place_at base q) (length q)

      there-waits : (i : ℕ) → i < length p → waits_there places t first i ≡ waits p added (suc i)
      there-waits i below =
          let longer = is.longer in
          let within : nat_lt i (length places) ≡ true = lt-ltb i (length places) (omega (arith, below, longer, count)) in
          let here = lies i (omega (arith, below, longer)) ∙ is.places (suc i) (omega arith) (omega (arith, below)) in
          (λ j. nat_le first i && (within j && section_number (here j).section == t))
          ∙ at (cases_lt i first)
          ∙ ap (λ o. waits p o (suc i)) (sym adds)
        where
          in_section : Bool
          in_section = section_number (section_at p (suc i)) == t

          back : suc i - 1 ≡ i
          back = omega arith

          all : i + (length p - i) ≡ length p
          all = omega (arith, below)

          at : (i < first) ⊎ (first ≤ i) → (nat_le first i && in_section) ≡ (in_section && not (is_some (next_with_bytes p t (suc i - 1))))
          at (inl before) =
              let last = bare.last in
              let found = first_line-some (has_bytes_in p t) i (length p - i) first before (omega (arith, last, all)) (bare.before (omega (arith, before))) in
              let stays : not (is_some (next_with_bytes p t (suc i - 1))) ≡ false = ap (λ n. not (is_some (next_with_bytes p t n))) back ∙ not_from_true _ found in
              ap (λ b. b && in_section) (lt-leb first i before) ∙ sym (and_right in_section (not (is_some (next_with_bytes p t (suc i - 1)))) stays)
          at (inr from) =
              let none = first_line-none (has_bytes_in p t) i (length p - i) (λ j above to. bare.none j (omega (arith, above, from)) (omega (arith, to, all))) in
              let stays : not (is_some (next_with_bytes p t (suc i - 1))) ≡ true = ap (λ n. not (is_some (next_with_bytes p t n))) back ∙ ap (λ o. not (is_some o)) none in
              ap (λ b. b && in_section) (le-leb first i from) ∙ sym (ap (λ b. in_section && b) stays ∙ and-true in_section)

      pub highs-put : (row row' : List Entry) → HaveHigh places t first (high_at base q k) row row' → AreHighs base p row → AreHighs base q row'
      highs-put row row' have are = record {
        each = λ i below. have.each i ∙ at i below (cases_lt i (length p));
        within = omega (arith, have.many, count);
      }
        where
          of : (i : ℕ) → i < length p → (b : Bool) → waits p added (suc i) ≡ b → (if b then high_at base q k else get_or row i (Err NoPartner)) ≡ paired_high_of base q (suc i)
          of i earlier true h = sym (paired-when added highs.there (suc i) (omega arith) (omega (arith, earlier)) h)
          of i earlier false h = are.each i earlier ∙ sym (paired_high-still (suc i) (omega arith) (omega (arith, earlier)) h)

          at : (i : ℕ) → i < length q → (i < length p) ⊎ (length p ≤ i) → (if waits_there places t first i then high_at base q k else get_or row i (Err NoPartner)) ≡ paired_high_of base q (suc i)
          at i below (inl earlier) =
              ap (λ b. if b then high_at base q k else get_or row i (Err NoPartner)) (there-waits i earlier) ∙ of i earlier (waits p added (suc i)) refl
          at i below (inr past) =
              let here : suc i ≡ k = is.behind (suc i) (omega (arith, past)) (omega (arith, below)) in
              let found = highs.there t adds in
              let from : nat_le first i ≡ true = (let last = bare.last in le-leb first i (omega (arith, last, past))) in
              let within : nat_lt i (length places) ≡ true = lt-ltb i (length places) (omega (arith, below, count)) in
              let bytes : has_bytes_in q t (suc i) ≡ true = ap (has_bytes_in q t) here ∙ found.1 in
              let section : (section_number (get_or places i no_place).section == t) ≡ true =
              ap (λ place. section_number place.section == t) (lies i below) ∙ (and_parts (section_number (section_at q (suc i)) == t) (not (size_at q (suc i) == 0)) bytes).0 in
              (λ j. if from j && (within j && section j) then high_at base q k else get_or row i (Err NoPartner))
              ∙ sym (ap (paired_high_of base q) here ∙ paired-last t found.0 found.1)

      -- it held nothing for them
      pub nothing-there : (row : List Entry) → AreHighs base p row → (i : ℕ) → waits_there places t first i ≡ true → get_or row i (Err NoPartner) ≡ Err NoPartner
      nothing-there row are i h = at (cases_lt i (length p))
        where
          at : (i < length p) ⊎ (length p ≤ i) → get_or row i (Err NoPartner) ≡ Err NoPartner
          at (inl earlier) = are.each i earlier ∙ unpaired-when base p added (suc i) (sym (there-waits i earlier) ∙ h)
          at (inr past) = get_or_past row i (Err NoPartner) (omega (arith, past, are.within))

    -- What `%pcrel_lo` takes

    free-by : (i : ℕ) (label : LabelReference) (line : ℕ) → i ≤ length p → list_any (is_awaited p added) (names_in (tree_of_label label)) ≡ false → label_line p i label ≡ Ok line → waits p added line ≡ false
    free-by i (reference.Symbol name) line within none e = sym (ap (waits_on p added) e) ∙ (or_parts (is_awaited p added name) false none).0
    free-by i (reference.Local number direction) line within none e =
        at (waits p added line) refl (label_line-within p i (reference.Local number direction) line within e)
      where
        at : (b : Bool) → waits p added line ≡ b → (1 ≤ line) × (line ≤ length p) → waits p added line ≡ false
        at false h there = h
        at true h there = absurd (true≢false (sym (local-there p i number direction line e) ∙ highs.local number line there.0 there.1 h))
    free-by i reference.Here line within none e = absurd (let no : Err Undefined ≡ Ok line = e in cc)

    pair-still : (i : ℕ) (label : LabelReference) → i ≤ length p → NoneIn (names_in (tree_of_label label)) → list_any (is_awaited p added) (names_in (tree_of_label label)) ≡ false → (has_local_label (tree_of_label label) ≡ true → Near i) → and_then (label_line q i label) (paired_high_of base q) ≡ and_then (label_line p i label) (paired_high_of base p)
    pair-still i label within none unawaited near =
        ap (λ l. and_then l (paired_high_of base q)) (label_line-still i label within none near)
        ∙ high-by (label_line p i label) (paired_high_of base q) (paired_high_of base p)
        (λ line e. let there = label_line-within p i label line within e in paired_high-still line there.0 there.1 (free-by i label line within unawaited e))

    -- names that are touched, or labels of lines that wait
    abbrev Differs : List ℕ → Bool
    Differs name = touched.names name || is_awaited p added name

    names-agree : (i : ℕ) → IsOther p k i → Agree Differs (Near i) (names_at base q i) (names_at base p i)
    names-agree i other =
        let here = address-still i other.first other.last in record {
          symbols = λ name none. reference-still i other name (or_parts (touched.names name) (is_awaited p added name) none).0;
          local = λ near j number direction. local-still i number direction other.last near j;
          here = λ j. Ok (pos (here j));
          pairs = λ label none near.
              let parts = either-parts touched.names (is_awaited p added) (names_in (tree_of_label label)) none in pair-still i label other.last parts.0 parts.1 near;
        }

    -- Values and codes of a line that uses nothing that is touched

    values_of-still : (i : ℕ) (b : Body) → IsOther p k i → NoneIn (names_used b) → list_any (is_awaited p added) (names_used b) ≡ false → (uses_local_label b ≡ true → Near i) → values_of_body base q i b ≡ values_of_body base p i b
    values_of-still i (body.Align d) other none unawaited near =
        let section = section-still i other.first other.last in
        let size = size-still i other.first other.last in
        λ j. Padding (is_code (section j)) (size j)
    values_of-still i (body.Equ d) other none unawaited near =
        let value = defined_value-agrees (references-agree i other) (body.Equ d) none near in
        λ j. if is.equs i d.symbol other.last j then Symbol (value j) else Nothing
    values_of-still i b other none unawaited near =
        let address = address-still i other.first other.last in
        (λ j. Operands (operand_values_of (names_at base q i) (address j) b))
        ∙ ap Operands (operand_values-agree (names-agree i other) (address_at base p i) b (either-none touched.names (is_awaited p added) (names_used b) none unawaited) near)

    pub values-still : (i : ℕ) → IsOther p k i → uses_any touched p i ≡ false → values_at base q i ≡ values_at base p i
    values-still i other unused =
        let none = none-used i other.last unused in
        let shape = shape-still i other in
        let values = ap (values_of_body base q i) (body-still i other) ∙ values_of-still i (body_at p i) other none.0 (highs.unused i other.first other.last) none.1 in
        λ j. values_by_shape (shape j) (values j)

    pub code-still : (i : ℕ) → IsOther p k i → uses_any touched p i ≡ false → code_at base q i ≡ code_at base p i
    code-still i other unused =
        let shape = shape-still i other in
        let here = body-still i other in
        let values = values-still i other unused in
        λ j. code_by_values (shape j) (here j) (values j)
