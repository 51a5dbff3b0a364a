-- Lines with which no line of a text has to do: what they add, and who uses it.
use Rattle.std.proofs.Common.{◌≡◌, ℕ, suc, ◌+◌, ◌-◌, ◌<◌, ◌≤◌, ◌==◌, ◌⊎◌, inl, inr, Bool, true, false, not, ◌&&◌, ◌||◌, List, [], ◌∷◌, ◌++◌, length, bytes_eq, get_or, nat_le, if◌then◌else◌, true≢false, arith, ap, sym, subst, ◌∙◌, refl}
use Rattle.std.specs.List.{list_any}
use Rattle.std.proofs.Math.Path.{fun_ext}
use Rattle.std.proofs.lemmas.Bool.{cases_lt, lt-ltb, le-ltb, lt-leb, eqb-true, eq-eqb, and_parts, and_left, or_from, or_cases}
use Rattle.std.proofs.lemmas.List.{get_or-map, get_or_default}
use Rattle.std.proofs.lemmas.Slice.Eq.{bytes_eq-Decides}
use Rattle.rv_stmt.specs.declared.directive.Definition.{Definition}
use Rattle.rv_stmt.specs.declared.statement.Stmt.{Stmt}
use Rattle.rv_stmt.specs.declared.statement.Body.{Body}
use Rattle.rv_stmt.specs.declared.statement.Body.TheVariants.{Equ as EquBody}
use Rattle.rv_stmt.specs.LabelNames.{Label, Symbol as LabelSymbol}
use Rattle.rv_stmt.specs.Statement.{statement_of}
use Rattle.rv_list.specs.declared.view.DefinitionPlace.{DefinitionPlace}
use Rattle.rv_list.specs.declared.view.DefinitionPlace.TheVariants.{Nowhere, Label as ByLabel, Equ}
use Rattle.rv_store.specs.declared.apart.LineBehind.{LineBehind}
use Rattle.rv_store.specs.internal.Apart.{added_by, HasMaskOf}
use Rattle.rv_program.specs.declared.mask.Kind.TheVariants.{Uncompared}
use Rattle.rv_program.specs.declared.mask.Mask.{Mask}
use Rattle.rv_store.specs.internal.Appended.{adds, is_earlier, TellEarlier, adds_by_rows}
use Rattle.rv_program.specs.internal.Defining.{IsOn}
use Rattle.rv_program.specs.Definitions.{defines_symbol, place_among_labels, place_in_body, or_place, place_in_statement, definition_of, is_defined}
use Rattle.rv_program.specs.internal.FirstUses.{Firsts, first_use, names_on, AreFirstUses}
use Rattle.rv_program.specs.internal.LineSearch.{LineLacks}
use Rattle.rv_program.specs.internal.Masks.{has_name, has_kind}
use Rattle.rv_program.specs.internal.NameSets.{bucket_of, brief_of_names, may_have}
use Rattle.rv_program.specs.Program.{Program, program_of, no_statement, statement_at, body_at}
use Rattle.rv_program.specs.internal.Rows.{in_row, AreDefinitions}
use Rattle.rv_program.specs.Uses.{names_used, uses_local_label, is_equ}
use Rattle.rv_store.specs.internal.Still.{Touched, uses_any}
use Rattle.rv_store.proofs.LongerTexts.{definitions-longer}
use Rattle.rv_program.specs.lemmas.DefinitionLaws.{IsWithin, within-on, statement-within, definition-within}
use Rattle.rv_program.specs.lemmas.LineMasks.{unwanted-unused, unwanted-kind}
use Rattle.rv_program.specs.lemmas.LowLines.{kind-local}
use Rattle.rv_program.specs.lemmas.LocalLines.{statement-of-line}
use Rattle.rv_program.specs.lemmas.NameSetLaws.{none-passes}
use Rattle.rv_program.specs.lemmas.Programs.{length-program}

-- a line without the mask of any added name uses none
only_in : (behind : LineBehind) (added : Mask) → ((name : List ℕ) → added_by behind name ≡ true → HasMaskOf name added) → (name : List ℕ) → (has_name added (bucket_of name) ≡ true) ⊎ (added_by behind name ≡ false)
only_in behind added marked name = at (added_by behind name) refl
  where
    at : (b : Bool) → added_by behind name ≡ b → (has_name added (bucket_of name) ≡ true) ⊎ (added_by behind name ≡ false)
    at true e = inl (marked name e).has
    at false e = inr e

unused-by_mask : (behind : LineBehind) (added : Mask) (line : List ℕ) → ((name : List ℕ) → added_by behind name ≡ true → HasMaskOf name added) → LineLacks added line → list_any (added_by behind) (names_used (statement_of line).body) ≡ false
unused-by_mask behind added line has apart =
    none-passes (has_name added) (added_by behind) (only_in behind added has) (names_used (statement_of line).body) (λ bucket is. unwanted-unused line added apart bucket is)

-- Lines that a line behind a text does not touch

pub none-of : (test : List ℕ → Bool) (names : List (List ℕ)) → ((name : List ℕ) → test name ≡ false) → list_any test names ≡ false
none-of test [] none = refl
none-of test (n ∷ ns) none = let here = none n in let more = none-of test ns none in λ j. here j || more j

-- those before the lines for which local labels are touched, where no name is
pub untouched : (p : Program) (touched : Touched) (i : ℕ) → ((name : List ℕ) → touched.names name ≡ false) → i < touched.from → uses_any touched p i ≡ false
untouched p touched i none before =
    or_from (list_any touched.names (names_used (body_at p i))) (nat_le touched.from i && uses_local_label (body_at p i)) (none-of touched.names (names_used (body_at p i)) none)
    (and_left (nat_le touched.from i) (uses_local_label (body_at p i)) (lt-leb touched.from i before))

module _ (lines : List (List ℕ)) (behind : LineBehind) (line : ℕ) (first : 1 ≤ line) (last : line ≤ length lines) where
  abbrev text : List ℕ
  text = get_or lines (line - 1) []

  statement : statement_at (program_of lines) line ≡ statement_of text
  statement = get_or-map statement_of lines (line - 1) [] no_statement (omega (arith, first, last))

  -- a line without the mask of the names that it adds
  pub unnamed-by_mask : (wanted : Mask) → ((name : List ℕ) → added_by behind name ≡ true → HasMaskOf name wanted) → LineLacks wanted text → list_any (added_by behind) (names_used (body_at (program_of lines) line)) ≡ false
  unnamed-by_mask wanted has apart = ap (λ s. list_any (added_by behind) (names_used s.body)) statement ∙ unused-by_mask behind wanted text has apart

  -- nor one that uses local labels
  pub no_local-by_mask : (wanted : Mask) → has_kind wanted Uncompared ≡ true → LineLacks wanted text → uses_local_label (body_at (program_of lines) line) ≡ false
  no_local-by_mask wanted has apart =
      ap (λ s. uses_local_label s.body) statement ∙ kind-local (statement_of text).body (unwanted-kind text wanted apart Uncompared has)

-- Names that a statement defines

labels-define : (line index : ℕ) (ls : List Label) (name : List ℕ) → is_defined (place_among_labels line index ls name) ≡ list_any (λ l. defines_symbol l.name name) ls
labels-define line index [] name = refl
labels-define line index (l ∷ ls) name = at (defines_symbol l.name name) (labels-define line (index + 1) ls name)
  where
    at : (b : Bool) → is_defined (place_among_labels line (index + 1) ls name) ≡ list_any (λ l. defines_symbol l.name name) ls → is_defined (if b then ByLabel line index else place_among_labels line (index + 1) ls name) ≡ (b || list_any (λ l. defines_symbol l.name name) ls)
    at true rest = refl
    at false rest = rest

either-defined : (a b : DefinitionPlace) → is_defined (or_place a b) ≡ true → (is_defined a ≡ true) ⊎ (is_defined b ≡ true)
either-defined Nowhere b h = inr h
either-defined (ByLabel line index) b h = inl refl
either-defined (Equ line) b h = inl refl

-- by one of its labels, or by its `.equ`
pub statement-defines : (line : ℕ) (s : Stmt) (name : List ℕ) → is_defined (place_in_statement line s name) ≡ true → (list_any (λ l. defines_symbol l.name name) s.labels ≡ true) ⊎ (is_defined (place_in_body line s.body name) ≡ true)
statement-defines line s name h = at (either-defined (place_among_labels line 0 s.labels name) (place_in_body line s.body name) h)
  where
    at : (is_defined (place_among_labels line 0 s.labels name) ≡ true) ⊎ (is_defined (place_in_body line s.body name) ≡ true) → (list_any (λ l. defines_symbol l.name name) s.labels ≡ true) ⊎ (is_defined (place_in_body line s.body name) ≡ true)
    at (inl labels) = inl (sym (labels-define line 0 s.labels name) ∙ labels)
    at (inr body) = inr body

-- a line with one label that is no `.equ` adds no other name
defined-by_one : (l : Label) (others : List Label) (symbol name : List ℕ) → length others ≡ 0 → l.name ≡ LabelSymbol symbol → list_any (λ m. defines_symbol m.name name) (l ∷ others) ≡ true → name ≡ symbol
defined-by_one l [] symbol name none is h = at (or_cases (defines_symbol l.name name) false h)
  where
    at : (defines_symbol l.name name ≡ true) ⊎ (false ≡ true) → name ≡ symbol
    at (inl defines) = sym ((bytes_eq-Decides symbol name).0 (ap (λ n. defines_symbol n name) (sym is) ∙ defines))
    at (inr wrong) = absurd (true≢false (sym wrong))
defined-by_one l (m ∷ others) symbol name none is h = absurd (omega (arith, none))

undefined-by_body : (line : ℕ) (b : Body) (name : List ℕ) → is_equ b ≡ false → is_defined (place_in_body line b name) ≡ false
undefined-by_body line (EquBody d) name h = absurd (true≢false h)
undefined-by_body line b name h = refl

pub one-added : (behind : LineBehind) (l : Label) (others : List Label) (symbol name : List ℕ) → (statement_of behind.line.now).labels ≡ l ∷ others → length others ≡ 0 → l.name ≡ LabelSymbol symbol → is_equ (statement_of behind.line.now).body ≡ false → added_by behind name ≡ true → name ≡ symbol
one-added behind l others symbol name are none is no_equ adds =
    let s = statement_of behind.line.now in
    let parts = and_parts (not (is_earlier behind.number (in_row behind.names.now behind.definitions.now Nowhere name))) (is_defined (place_in_statement behind.number s name)) adds in
    at (statement-defines behind.number s name parts.1)
  where
    at : (list_any (λ l. defines_symbol l.name name) (statement_of behind.line.now).labels ≡ true) ⊎ (is_defined (place_in_body behind.number (statement_of behind.line.now).body name) ≡ true) → name ≡ symbol
    at (inl labels) = defined-by_one l others symbol name none is (ap (list_any (λ l. defines_symbol l.name name)) (sym are) ∙ labels)
    at (inr body) = absurd (true≢false (sym body ∙ undefined-by_body behind.number (statement_of behind.line.now).body name no_equ))

-- an `.equ` without a label adds no name but its symbol
equ-defined : (line : ℕ) (d : Definition) (name : List ℕ) → is_defined (place_in_body line (EquBody d) name) ≡ true → name ≡ d.symbol
equ-defined line d name h = at (bytes_eq d.symbol name) refl h
  where
    at : (b : Bool) → bytes_eq d.symbol name ≡ b → is_defined (if b then Equ line else Nowhere) ≡ true → name ≡ d.symbol
    at true e h = sym ((bytes_eq-Decides d.symbol name).0 e)
    at false e h = absurd (true≢false (sym h))

none-defines : (ls : List Label) (name : List ℕ) → length ls ≡ 0 → list_any (λ l. defines_symbol l.name name) ls ≡ false
none-defines [] name none = refl
none-defines (l ∷ ls) name none = absurd (omega (arith, none))

pub equ-added : (behind : LineBehind) (d : Definition) (name : List ℕ) → length (statement_of behind.line.now).labels ≡ 0 → (statement_of behind.line.now).body ≡ EquBody d → added_by behind name ≡ true → name ≡ d.symbol
equ-added behind d name none is adds =
    let s = statement_of behind.line.now in
    let parts = and_parts (not (is_earlier behind.number (in_row behind.names.now behind.definitions.now Nowhere name))) (is_defined (place_in_statement behind.number s name)) adds in
    at (statement-defines behind.number s name parts.1)
  where
    at : (list_any (λ l. defines_symbol l.name name) (statement_of behind.line.now).labels ≡ true) ⊎ (is_defined (place_in_body behind.number (statement_of behind.line.now).body name) ≡ true) → name ≡ d.symbol
    at (inl labels) = absurd (true≢false (sym labels ∙ none-defines (statement_of behind.line.now).labels name none))
    at (inr body) = equ-defined behind.number d name (ap (λ b. is_defined (place_in_body behind.number b name)) (sym is) ∙ body)

-- so a line that uses no name of its bucket uses none that it adds
of_bucket : (behind : LineBehind) (bucket : ℕ) → ((name : List ℕ) → added_by behind name ≡ true → bucket_of name ≡ bucket) → (name : List ℕ) → ((bucket_of name == bucket) ≡ true) ⊎ (added_by behind name ≡ false)
of_bucket behind bucket only name = at (added_by behind name) refl
  where
    at : (b : Bool) → added_by behind name ≡ b → ((bucket_of name == bucket) ≡ true) ⊎ (added_by behind name ≡ false)
    at true e = inl (eq-eqb (bucket_of name) bucket (only name e))
    at false e = inr e

pub unused-by_bucket : (behind : LineBehind) (bucket : ℕ) (names : List (List ℕ)) → ((name : List ℕ) → added_by behind name ≡ true → bucket_of name ≡ bucket) → may_have (brief_of_names names) bucket ≡ false → list_any (added_by behind) names ≡ false
unused-by_bucket behind bucket names only apart =
    none-passes (λ b. b == bucket) (added_by behind) (of_bucket behind bucket only) names
    (λ b is. ap (may_have (brief_of_names names)) (eqb-true b bucket is) ∙ apart)

-- before the first use of the bucket of all names that the line adds, no line uses one of them
pub unused-by_first : (lines : List (List ℕ)) (behind : LineBehind) (firsts : Firsts) (bucket : ℕ) → ((name : List ℕ) → added_by behind name ≡ true → bucket_of name ≡ bucket) → AreFirstUses lines firsts → (line : ℕ) → 0 < line → line ≤ length lines → line ≤ first_use firsts bucket → list_any (added_by behind) (names_used (body_at (program_of lines) line)) ≡ false
unused-by_first lines behind firsts bucket only are line first within before =
    ap (λ k. list_any (added_by behind) (names_used (body_at (program_of lines) k))) place
    ∙ ap (λ s. list_any (added_by behind) (names_used s.body)) (statement-of-line lines (line - 1) (get_or lines (line - 1) []) inside (get_or_default lines (line - 1) [] (get_or lines (line - 1) []) inside))
    ∙ unused-by_bucket behind bucket (names_used (statement_of (get_or lines (line - 1) [])).body) only (at (may_have (names_on (get_or lines (line - 1) [])) bucket) refl)
  where
    place : line ≡ line - 1 + 1
    place = omega (arith, first)

    inside : line - 1 < length lines
    inside = omega (arith, first, within)

    at : (b : Bool) → may_have (names_on (get_or lines (line - 1) [])) bucket ≡ b → may_have (names_on (get_or lines (line - 1) [])) bucket ≡ false
    at false e = e
    at true e = absurd (let later = are (line - 1) bucket inside e in omega (arith, first, before, later))

-- What holds of each of the first lines

pub passed-on : (f : ℕ → Bool) (begin n end : ℕ) → ((i : ℕ) → begin < i → i ≤ n → f i ≡ false) → ((i : ℕ) → n < i → i ≤ end → f i ≡ false) → (i : ℕ) → begin < i → i ≤ end → f i ≡ false
passed-on f begin n end earlier later i first last = at (cases_lt n i)
  where
    at : (n < i) ⊎ (i ≤ n) → f i ≡ false
    at (inr before) = earlier i first before
    at (inl past) = later i past last

pub with-next : (f settled : ℕ → Bool) (begin n : ℕ) → ((i : ℕ) → begin < i → i ≤ n → settled i ≡ true → f i ≡ false) → (settled (n + 1) ≡ true → f (n + 1) ≡ false) → (i : ℕ) → begin < i → i ≤ n + 1 → settled i ≡ true → f i ≡ false
with-next f settled begin n earlier here i first last h = at (cases_lt n i)
  where
    at : (n < i) ⊎ (i ≤ n) → f i ≡ false
    at (inr before) = earlier i first before h
    at (inl past) = let is : i ≡ n + 1 = omega (arith, past, last) in ap f is ∙ here (sym (ap settled is) ∙ h)

pub with-block : (f settled : ℕ → Bool) (n m : ℕ) → ((i : ℕ) → 1 ≤ i → i ≤ n → settled i ≡ true → f i ≡ false) → ((i : ℕ) → n < i → i ≤ m → settled i ≡ true → f i ≡ false) → (i : ℕ) → 1 ≤ i → i ≤ m → settled i ≡ true → f i ≡ false
with-block f settled n m earlier block i first last h = at (cases_lt n i)
  where
    at : (n < i) ⊎ (i ≤ n) → f i ≡ false
    at (inr before) = earlier i first before h
    at (inl past) = block i past last h

-- What a line adds, by the rows of the text

module _ (lines names : List (List ℕ)) (row : List DefinitionPlace) (s : Stmt) (number : ℕ) (tell : TellEarlier lines names row) (behind : number ≡ suc (length lines)) where
  pub adds-same : adds_by_rows names row number s ≡ adds (program_of lines) s
  adds-same =
      let place : number ≡ suc (length (program_of lines)) = behind ∙ ap suc (sym (length-program lines)) in
      fun_ext (λ name.
      (λ i. not (is_earlier (behind i) (in_row names row Nowhere name)) && is_defined (place_in_statement (place i) s name))
      ∙ ap (λ b. not b && is_defined (place_in_statement (suc (length (program_of lines))) s name)) (tell name))

-- Rows that say which names a text defines

earlier-within : (n : ℕ) (place : DefinitionPlace) → IsWithin 1 (1 + n) place → is_earlier (suc n) place ≡ is_defined place
earlier-within n Nowhere within = refl
earlier-within n (ByLabel l index) within = lt-ltb l (suc n) (omega (arith, within.1))
earlier-within n (Equ l) within = lt-ltb l (suc n) (omega (arith, within.1))

not_earlier-on : (n : ℕ) (place : DefinitionPlace) → IsOn (suc n) place → is_earlier (suc n) place ≡ false
not_earlier-on n Nowhere on = refl
not_earlier-on n (ByLabel l index) on = le-ltb l (suc n) (omega (arith, on))
not_earlier-on n (Equ l) on = le-ltb l (suc n) (omega (arith, on))

earlier-first : (n : ℕ) (place here : DefinitionPlace) → IsWithin 1 (1 + n) place → IsOn (suc n) here → is_earlier (suc n) (or_place place here) ≡ is_defined place
earlier-first n Nowhere here within on = not_earlier-on n here on
earlier-first n (ByLabel l index) here within on = earlier-within n (ByLabel l index) within
earlier-first n (Equ l) here within on = earlier-within n (Equ l) within

module _ (lines names : List (List ℕ)) (row : List DefinitionPlace) where
  within-lines : (name : List ℕ) → IsWithin 1 (1 + length lines) (definition_of (program_of lines) name)
  within-lines name =
      subst (λ n. IsWithin 1 (1 + n) (definition_of (program_of lines) name)) (length-program lines) (definition-within (program_of lines) name)

  -- its own
  pub tell-text : AreDefinitions (program_of lines) names row → TellEarlier lines names row
  tell-text are name =
      ap (λ f. is_earlier (suc (length lines)) (f name)) are.each ∙ earlier-within (length lines) (definition_of (program_of lines) name) (within-lines name)

  -- that of the text with one more line
  pub tell-longer : (line : List ℕ) → AreDefinitions (program_of (lines ++ line ∷ [])) names row → TellEarlier lines names row
  tell-longer line are name =
      let next : length lines + 1 ≡ suc (length lines) = omega arith in
      let s = statement_of line in
      ap (λ f. is_earlier (suc (length lines)) (f name)) (are.each ∙ sym (definitions-longer lines line))
      ∙ ap (λ k. is_earlier (suc (length lines)) (or_place (definition_of (program_of lines) name) (place_in_statement k s name))) next
      ∙ earlier-first (length lines) (definition_of (program_of lines) name) (place_in_statement (suc (length lines)) s name) (within-lines name)
      (within-on (suc (length lines)) (place_in_statement (suc (length lines)) s name) (statement-within (suc (length lines)) s name))
