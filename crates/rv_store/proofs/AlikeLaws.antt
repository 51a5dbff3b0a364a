-- Where a statement is put in the place of one that it is alike, all lines lie where they lay, and no other one has to do with it.
use Rattle.std.proofs.Common.{◌≡◌, ℕ, zero, suc, ◌+◌, ◌-◌, ◌≤◌, ◌⊎◌, inl, inr, Bool, true, false, ◌||◌, List, [], ◌∷◌, length, map, set, get_or, None, if◌then◌else◌, true≢false, arith, ap, sym, ◌∙◌, refl}
use Rattle.std.specs.Result.{result_ok}
use Rattle.std.proofs.lemmas.List.{length-set, get_or-set_same, get_or-set_other}
use Rattle.std.proofs.Math.Path.{fun_ext}
use Rattle.rv_stmt.specs.declared.statement.Body.{Body}
use Rattle.rv_stmt.specs.declared.statement.Body.TheVariants as body
use Rattle.rv_stmt.specs.declared.statement.Stmt.{Stmt}
use Rattle.rv_stmt.specs.LabelNames.{Label}
use Rattle.rv_layout.specs.Shapes.{constants, shape_of}
use Rattle.rv_list.specs.declared.view.DefinitionPlace.TheVariants.{Label as ByLabel}
use Rattle.rv_store.specs.internal.Alike.{label_names, room_of, DefinesSame, IsAlike}
use Rattle.rv_program.specs.Constants.{defined_value, constant_of, constant_through}
use Rattle.rv_program.specs.Definitions.{defines_symbol, place_among_labels, place_in_body, or_place, place_in_statement, first_place, definition_of, is_equ_on}
use Rattle.rv_store.specs.internal.Ends.{ends_of}
use Rattle.rv_program.specs.Layout.{shape_at, shapes_of, address_at, place_at}
use Rattle.rv_program.specs.Pairs.{pcrel_high_of, high_by, high_at}
use Rattle.rv_program.specs.Program.{Program, no_statement, statement_at, body_at, for_lines}
use Rattle.rv_program.specs.References.{is_local, among_local, has_local, symbol_through, usable_equs, reference_of, references_at}
use Rattle.rv_store.specs.internal.Still.{Touched, IsStill}
use Rattle.rv_program.specs.Uses.{is_equ}
use Rattle.rv_store.specs.internal.Waiting.{KeepsHighs}
use Rattle.rv_store.proofs.ApartLines.{untouched}
use Rattle.rv_store.proofs.AgreeingNames.{high-settled}
use Rattle.rv_store.proofs.StillLaws.{none-used, expressions-agree, symbol-all, none-added}
use Rattle.rv_program.specs.lemmas.DefinitionRows.{nowhere}
use Rattle.rv_program.specs.lemmas.ConstantRows.{IsEquOf, is_equ_of, equ-defines, constant-kept}
use Rattle.rv_store.proofs.Rooms as rooms
use Rattle.rv_store.proofs.Rooms.{map-for_lines}
use Rattle.std.proofs.lemmas.Bool.{cases_eq}

-- Labels that define the same

place_among-same : (line index : ℕ) (ls ms : List Label) (name : List ℕ) → label_names ms ≡ label_names ls → place_among_labels line index ms name ≡ place_among_labels line index ls name
place_among-same line index [] [] name e = refl
place_among-same line index [] (m ∷ ms) name e = absurd (cc)
place_among-same line index (l ∷ ls) [] name e = absurd (cc)
place_among-same line index (l ∷ ls) (m ∷ ms) name e =
    let parts : m.name ∷ label_names ms ≡ l.name ∷ label_names ls = e in
    let first : m.name ≡ l.name = cc in
    let rest : label_names ms ≡ label_names ls = cc in
    let more = place_among-same line (index + 1) ls ms name rest in
    λ i. if defines_symbol (first i) name then ByLabel line index else more i

among_local-same : (number : ℕ) (ls ms : List Label) → label_names ms ≡ label_names ls → among_local number ms ≡ among_local number ls
among_local-same number [] [] e = refl
among_local-same number [] (m ∷ ms) e = absurd (cc)
among_local-same number (l ∷ ls) [] e = absurd (cc)
among_local-same number (l ∷ ls) (m ∷ ms) e =
    let parts : m.name ∷ label_names ms ≡ l.name ∷ label_names ls = e in
    let first : m.name ≡ l.name = cc in
    let rest : label_names ms ≡ label_names ls = cc in
    let more = among_local-same number ls ms rest in
    λ i. is_local number (first i) || more i

-- Definitions

place_in_statement-same : (line : ℕ) (s t : Stmt) (name : List ℕ) → DefinesSame s t → place_in_statement line t name ≡ place_in_statement line s name
place_in_statement-same line s t name same =
    let labels = place_among-same line 0 s.labels t.labels name same.labels in
    let here : place_in_body line t.body name ≡ place_in_body line s.body name =
    nowhere line t.body name same.equ_after ∙ sym (nowhere line s.body name same.equ_before) in
    λ i. or_place (labels i) (here i)

first_place-same : (line : ℕ) (p : Program) (j : ℕ) (t : Stmt) (name : List ℕ) → DefinesSame (get_or p j no_statement) t → first_place line (set p j t) name ≡ first_place line p name
first_place-same line [] j t name same = refl
first_place-same line (s ∷ ss) zero t name same =
    ap (λ d. or_place d (first_place (line + 1) ss name)) (place_in_statement-same line s t name same)
first_place-same line (s ∷ ss) (suc j) t name same =
    ap (or_place (place_in_statement line s name)) (first_place-same (line + 1) ss j t name same)

-- The text with a statement in the place of that of line k

-- a line without an `.equ` defines nothing by one
no_equ-on : (p : Program) (i : ℕ) (name : List ℕ) → is_equ (body_at p (suc i)) ≡ false → is_equ_on (suc i) (definition_of p name) ≡ false
no_equ-on p i name none = at (is_equ_on (suc i) (definition_of p name)) refl
  where
    by : IsEquOf (body_at p (suc i)) name → ⊥
    by (is_equ_of d here same) = true≢false (sym (ap is_equ here) ∙ none)

    at : (b : Bool) → is_equ_on (suc i) (definition_of p name) ≡ b → is_equ_on (suc i) (definition_of p name) ≡ false
    at false e = e
    at true e = absurd (by (equ-defines p i name e))

abbrev pub nothing_touched : Program → Touched
nothing_touched p = record { names = λ name. false; from = suc (length p) }

module _ (p : Program) (k : ℕ) (t : Stmt) (first : 1 ≤ k) (last : k ≤ length p) (alike : IsAlike p k t) where
  abbrev pub put : Program
  put = set p (k - 1) t

  pub length-put : length put ≡ length p
  length-put = length-set p (k - 1) t

  pub statement-put : statement_at put k ≡ t
  statement-put = get_or-set_same p (k - 1) t no_statement (omega (arith, first, last))

  statement-here : (i : ℕ) → i - 1 ≡ k - 1 → statement_at put i ≡ t
  statement-here i e = ap (λ j. get_or put j no_statement) e ∙ statement-put

  before-here : (i : ℕ) → i - 1 ≡ k - 1 → statement_at p k ≡ statement_at p i
  before-here i e = ap (λ j. get_or p j no_statement) (sym e)

  pub statement-other : (i : ℕ) → (i - 1 ≡ k - 1 → ⊥) → statement_at put i ≡ statement_at p i
  statement-other i differs = get_or-set_other p (k - 1) (i - 1) t no_statement differs

  labels-same : (i : ℕ) → label_names (statement_at put i).labels ≡ label_names (statement_at p i).labels
  labels-same i = at (cases_eq (i - 1) (k - 1))
    where
      at : (i - 1 ≡ k - 1) ⊎ (i - 1 ≡ k - 1 → ⊥) → label_names (statement_at put i).labels ≡ label_names (statement_at p i).labels
      at (inl same) = ap (λ s. label_names s.labels) (statement-here i same) ∙ alike.defines.labels ∙ ap (λ s. label_names s.labels) (before-here i same)
      at (inr differs) = ap (λ s. label_names s.labels) (statement-other i differs)

  -- Definitions and constants

  pub definitions-same : definition_of put ≡ definition_of p
  definitions-same = fun_ext (λ name. first_place-same 1 p (k - 1) t name alike.defines)

  no_equ : (name : List ℕ) → is_equ_on k (definition_of p name) ≡ false
  no_equ name =
      let next : suc (k - 1) ≡ k = omega (arith, first) in
      ap (λ n. is_equ_on n (definition_of p name)) (sym next) ∙ no_equ-on p (k - 1) name (ap (λ n. is_equ (body_at p n)) next ∙ alike.defines.equ_before)

  constants-same : (m : ℕ) → constant_through put m ≡ constant_through p m
  constants-same zero = refl
  constants-same (suc m) = at (constants-same m) (cases_eq m (k - 1))
    where
      at : constant_through put m ≡ constant_through p m → (m ≡ k - 1) ⊎ (m ≡ k - 1 → ⊥) → constant_through put (suc m) ≡ constant_through p (suc m)
      at before (inl here) = fun_ext (λ name.
          let number : suc m ≡ k = omega (arith, here, first) in
          let no : is_equ_on (suc m) (definition_of p name) ≡ false = ap (λ n. is_equ_on n (definition_of p name)) number ∙ no_equ name in
          constant-kept put m name (ap (λ f. is_equ_on (suc m) (f name)) definitions-same ∙ no) ∙ ap (λ f. f name) before ∙ sym (constant-kept p m name no))
      at before (inr differs) =
          let here = statement-other (suc m) (λ e. differs (omega (arith, e))) in
          λ i name. if is_equ_on (suc m) (definitions-same i name) then result_ok (defined_value (constants (before i)) (here i).body) else before i name

  -- Where lines lie

  -- that of another line
  pub shape-other : (i : ℕ) → (i - 1 ≡ k - 1 → ⊥) → shape_at put i ≡ shape_at p i
  shape-other i differs = λ j. shape_of (constants-same (i - 1) j) (statement-other i differs j).body

  pub shape-put : shape_at put k ≡ shape_of (constant_of p k) t.body
  shape-put = λ j. shape_of (constants-same (k - 1) j) (statement-put j).body

  room-same : (i : ℕ) → room_of (shape_at put i) ≡ room_of (shape_at p i)
  room-same i = at (cases_eq (i - 1) (k - 1))
    where
      at : (i - 1 ≡ k - 1) ⊎ (i - 1 ≡ k - 1 → ⊥) → room_of (shape_at put i) ≡ room_of (shape_at p i)
      at (inl same) =
          (λ j. room_of (shape_of (constants-same (i - 1) j) (statement-here i same j).body))
          ∙ ap (λ n. room_of (shape_of (constant_through p n) t.body)) same
          ∙ alike.room
          ∙ ap (λ n. room_of (shape_of (constant_through p n) (get_or p n no_statement).body)) (sym same)
      at (inr differs) = ap room_of (shape-other i differs)

  rooms-same : map room_of (shapes_of put) ≡ map room_of (shapes_of p)
  rooms-same =
      map-for_lines room_of (shape_at put) (length put)
      ∙ (λ j. for_lines (λ i. room-same i j) (length-put j))
      ∙ sym (map-for_lines room_of (shape_at p) (length p))

  pub ends-same : ends_of (shapes_of put) ≡ ends_of (shapes_of p)
  ends-same = rooms.ends-same (shapes_of put) (shapes_of p) rooms-same

  pub place-same : (base : ℕ) → place_at base put ≡ place_at base p
  place-same base = λ j i. rooms.places-same (shapes_of put) (shapes_of p) rooms-same base i j

  has_local-same : (number i : ℕ) → has_local put number i ≡ has_local p number i
  has_local-same number i = among_local-same number (statement_at p i).labels (statement_at put i).labels (labels-same i)

  -- the other lines stay as they are
  pub alike-still : (base : ℕ) → IsStill base p put k (nothing_touched p)
  alike-still base = record {
    first = first;
    last = omega (arith, last, length-put);
    longer = omega (arith, length-put);
    behind = λ i past within. absurd (omega (arith, past, within, length-put));
    statements = λ i other. statement-other i (λ e. other.differs (omega (arith, e, first, other.first)));
    unused = λ i other settled. untouched p (nothing_touched p) i (λ name. refl) (let within = other.last in omega (arith, within));
    differ = λ i j name no. absurd (true≢false (sym no));
    definitions = λ name none. ap (λ f. f name) definitions-same;
    equs = λ m name within. ap (λ f. is_equ_on m (f name)) definitions-same;
    no_equ = λ within. no_equ;
    constants = λ m within. constants-same m;
    locals = λ number i from to. has_local-same number i;
    near = λ number i past. absurd (omega (arith, past, last));
    places = λ i from to. ap (λ f. f i) (place-same base);
  }

  -- High halves

  usable-all : (q : Program) (b : Body) → is_equ b ≡ false → usable_equs q k b ≡ length q
  usable-all q (body.Equ d) equ = absurd (true≢false equ)
  usable-all q b equ = refl

  high-same : (base : ℕ) → high_at base put k ≡ high_at base p k
  high-same base =
      (λ j. high_by (references_at base put k) (address j) (high j))
      ∙ high-settled (expressions-agree still k (reference_of base put k) (reference_of base p k) first last symbols) (address_at base p k) (body_at p k)
      (λ settled. none-used still k last (untouched p (nothing_touched p) k (λ name. refl) (omega (arith, last))))
    where
      still : IsStill base p put k (nothing_touched p)
      still = alike-still base

      address : address_at base put k ≡ address_at base p k
      address = ap (λ f. (f k).address) (place-same base)

      high : pcrel_high_of (body_at put k) ≡ pcrel_high_of (body_at p k)
      high = ap (λ s. pcrel_high_of s.body) statement-put ∙ alike.defines.high

      symbols : (name : List ℕ) → false ≡ false → reference_of base put k name ≡ reference_of base p k name
      symbols name none =
          ap (λ m. symbol_through base put m name) (usable-all put (body_at put k) (ap (λ s. is_equ s.body) statement-put ∙ alike.defines.equ_after))
          ∙ symbol-all still name none
          ∙ sym (ap (λ m. symbol_through base p m name) (usable-all p (body_at p k) alike.defines.equ_before))

  -- no line has another high half
  pub alike-highs : (base : ℕ) → KeepsHighs base p put k None
  alike-highs base = none-added base p put k (λ within. high-same base) (λ past. absurd (omega (arith, past, last)))
