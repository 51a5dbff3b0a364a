-- A high half at the end of a text, or another line there: what `%pcrel_lo` of the labels on the lines before it takes.
use Rattle.std.proofs.Common.{◌≡◌, ℕ, suc, ◌+◌, ◌-◌, ◌<◌, ◌≤◌, ◌==◌, ◌⊎◌, inl, inr, nat_le, Bool, true, false, not, ◌||◌, true≢false, List, [], ◌∷◌, length, get_or, bytes_eq, Option, Some, None, if◌then◌else◌, arith, ap, sym, subst, ◌∙◌, refl}
use Rattle.std.specs.List.{list_any}
use Rattle.std.specs.Option.{is_some}
use Rattle.std.proofs.lemmas.Bool.{cases_lt, le-leb, leb-true, eqb-true, and_parts, not-true}
use Rattle.std.proofs.lemmas.List.{get_or_default}
use Rattle.rv_expr.specs.Tree.{Tree}
use Rattle.rv_stmt.specs.declared.statement.Body.{Body}
use Rattle.rv_stmt.specs.declared.statement.Body.TheVariants.{Equ as EquBody}
use Rattle.rv_stmt.specs.declared.statement.Stmt.{Stmt}
use Rattle.rv_stmt.specs.LabelNames.{Label}
use Rattle.rv_stmt.specs.Statement.{statement_of}
use Rattle.rv_layout.specs.Sections.{section_number}
use Rattle.rv_list.specs.declared.view.DefinitionPlace.{DefinitionPlace}
use Rattle.rv_list.specs.declared.view.DefinitionPlace.TheVariants.{Nowhere, Label as ByLabel, Equ}
use Rattle.rv_program.specs.Definitions.{defines_symbol, place_among_labels, place_in_body, or_place, place_in_statement, first_place, definition_of}
use Rattle.rv_program.specs.Layout.{section_at, address_at, size_at}
use Rattle.rv_program.specs.Pairs.{pcrel_high_of, high_by, has_bytes_in, next_with_bytes}
use Rattle.rv_program.specs.Program.{Program, program_of, no_statement, statement_at, body_at}
use Rattle.rv_program.specs.References.{line_of_place, references_at}
use Rattle.rv_program.specs.Uses.{names_used}
use Rattle.rv_program.specs.internal.FirstUses.{first_use, names_on}
use Rattle.rv_program.specs.internal.NameSets.{bucket_of, may_have}
use Rattle.rv_program.specs.internal.Work.{one_if_some, high_operands}
use Rattle.rv_program.specs.lemmas.DefinitionLaws.{IsWithin, definition-within}
use Rattle.rv_program.specs.lemmas.NameSetLaws.{none-passes}
use Rattle.rv_program.specs.lemmas.Programs.{length-program}
use Rattle.rv_program.specs.lemmas.TextLines.{statement_of_line}
use Rattle.rv_store.specs.internal.Waiting.{waits_in, waits_on, is_awaited, KeepsHighs, AreWaiting}
use Rattle.rv_store.proofs.LongerPrograms.{more, body-last}
use Rattle.rv_store.proofs.StillLaws.{first_line-some, none-added}

-- Another line

pub end-plain : (base : ℕ) (p : Program) (s : Stmt) → pcrel_high_of s.body ≡ None → KeepsHighs base p (more p s) (suc (length p)) None
end-plain base p s none =
    let k : ℕ = suc (length p) in
    none-added base p (more p s) k (λ within. absurd (omega (arith, within)))
    (λ past. ap (high_by (references_at base (more p s) k) (address_at base (more p s) k)) (ap pcrel_high_of (body-last p s) ∙ none))

-- The line of a label has it

among-labels : (line index : ℕ) (ls : List Label) (name : List ℕ) (l i : ℕ) → place_among_labels line index ls name ≡ ByLabel l i → (l ≡ line) × (list_any (λ x. defines_symbol x.name name) ls ≡ true)
among-labels line index [] name l i e = absurd (let no : Nowhere ≡ ByLabel l i = e in cc)
among-labels line index (x ∷ xs) name l i e = at (defines_symbol x.name name) e (among-labels line (index + 1) xs name l i)
  where
    at : (b : Bool) → (if b then ByLabel line index else place_among_labels line (index + 1) xs name) ≡ ByLabel l i → (place_among_labels line (index + 1) xs name ≡ ByLabel l i → (l ≡ line) × (list_any (λ x. defines_symbol x.name name) xs ≡ true)) → (l ≡ line) × ((b || list_any (λ x. defines_symbol x.name name) xs) ≡ true)
    at true here later = (let is : ByLabel line index ≡ ByLabel l i = here in cc, refl)
    at false here later = later here

body-no_label : (line : ℕ) (b : Body) (name : List ℕ) (l i : ℕ) → place_in_body line b name ≡ ByLabel l i → ⊥
body-no_label line (EquBody d) name l i e = at (bytes_eq d.symbol name) e
  where
    at : (b : Bool) → (if b then Equ line else Nowhere) ≡ ByLabel l i → ⊥
    at true h = let no : Equ line ≡ ByLabel l i = h in cc
    at false h = let no : Nowhere ≡ ByLabel l i = h in cc
body-no_label line b name l i e = let no : Nowhere ≡ ByLabel l i = e in cc

statement-labelled : (line : ℕ) (s : Stmt) (name : List ℕ) (l i : ℕ) → place_in_statement line s name ≡ ByLabel l i → (l ≡ line) × (list_any (λ x. defines_symbol x.name name) s.labels ≡ true)
statement-labelled line s name l i e = at (place_among_labels line 0 s.labels name) refl e
  where
    at : (place : DefinitionPlace) → place_among_labels line 0 s.labels name ≡ place → or_place place (place_in_body line s.body name) ≡ ByLabel l i → (l ≡ line) × (list_any (λ x. defines_symbol x.name name) s.labels ≡ true)
    at Nowhere is h = absurd (body-no_label line s.body name l i h)
    at (ByLabel x index) is h = among-labels line 0 s.labels name l i (is ∙ h)
    at (Equ x) is h = absurd (let no : Equ x ≡ ByLabel l i = h in cc)

-- the line l of some statements, of which the first is on line `from`, has the label
abbrev HasLabel : (from : ℕ) → Program → (name : List ℕ) → (l : ℕ) → Type 0
HasLabel from p name l = (from ≤ l) × (list_any (λ x. defines_symbol x.name name) (get_or p (l - from) no_statement).labels ≡ true)

labelled-from : (from : ℕ) (p : Program) (name : List ℕ) (l i : ℕ) → first_place from p name ≡ ByLabel l i → HasLabel from p name l
labelled-from from [] name l i e = absurd (let no : Nowhere ≡ ByLabel l i = e in cc)
labelled-from from (s ∷ ss) name l i e = at (place_in_statement from s name) refl e (labelled-from (from + 1) ss name l i)
  where
    here : place_in_statement from s name ≡ ByLabel l i → HasLabel from (s ∷ ss) name l
    here is =
        let own = statement-labelled from s name l i is in
        let place : l - from ≡ 0 = omega (arith, own.0) in (
          omega (arith, own.0),
          ap (λ n. list_any (λ x. defines_symbol x.name name) (get_or (s ∷ ss) n no_statement).labels) place ∙ own.1,
        )

    at : (place : DefinitionPlace) → place_in_statement from s name ≡ place → or_place place (first_place (from + 1) ss name) ≡ ByLabel l i → (first_place (from + 1) ss name ≡ ByLabel l i → HasLabel (from + 1) ss name l) → HasLabel from (s ∷ ss) name l
    at Nowhere is h later =
        let rest = later h in
        let place : l - from ≡ suc (l - (from + 1)) = omega (arith, rest.0) in (
          omega (arith, rest.0),
          ap (λ n. list_any (λ x. defines_symbol x.name name) (get_or (s ∷ ss) n no_statement).labels) place ∙ rest.1,
        )
    at (ByLabel x index) is h later = here (is ∙ h)
    at (Equ x) is h later = absurd (let no : Equ x ≡ ByLabel l i = h in cc)

labelled : (p : Program) (name : List ℕ) (l i : ℕ) → definition_of p name ≡ ByLabel l i → (1 ≤ l) × (list_any (λ x. defines_symbol x.name name) (statement_at p l).labels ≡ true)
labelled p name l i e = labelled-from 1 p name l i e

-- A high half

pub one-high : (b : Body) → is_some (pcrel_high_of b) ≡ true → high_operands b ≡ 1
one-high b some = at (pcrel_high_of b) some
  where
    at : (o : Option Tree) → is_some o ≡ true → one_if_some o ≡ 1
    at None h = absurd (true≢false (sym h))
    at (Some e) h = refl

module _ (base : ℕ) (lines : List (List ℕ)) (s : Stmt) (section first : ℕ) (are : AreWaiting lines section first) (bytes : has_bytes_in (more (program_of lines) s) section (suc (length (program_of lines))) ≡ true) where
  abbrev p : Program
  p = program_of lines

  -- a line that waits is one of those behind the first lines
  waits-behind : (i : ℕ) → 1 ≤ i → i ≤ length p → waits_in p section i ≡ true → (first < i) × ((section_number (section_at p i) == section) ≡ true)
  waits-behind i from to h = at (cases_lt first i)
    where
      parts : ((section_number (section_at p i) == section) ≡ true) × (not (is_some (next_with_bytes p section (i - 1))) ≡ true)
      parts = and_parts (section_number (section_at p i) == section) (not (is_some (next_with_bytes p section (i - 1)))) h

      at : (first < i) ⊎ (i ≤ first) → (first < i) × ((section_number (section_at p i) == section) ≡ true)
      at (inl past) = (past, parts.0)
      at (inr before) =
          let last = are.bare.last in
          let found = first_line-some (has_bytes_in p section) (i - 1) (length p - (i - 1)) first (omega (arith, from, before)) (omega (arith, from, to, last)) (are.bare.before (omega (arith, from, before))) in
          absurd (true≢false (sym found ∙ not-true (is_some (next_with_bytes p section (i - 1))) parts.1))

  -- only names of buckets that no line uses are awaited
  abbrev is_past : (bucket : ℕ) → Bool
  is_past bucket = nat_le (length lines) (first_use are.firsts bucket)

  only : (name : List ℕ) → (is_past (bucket_of name) ≡ true) ⊎ (is_awaited p (Some section) name ≡ false)
  only name = at (definition_of p name) refl
    where
      at : (place : DefinitionPlace) → definition_of p name ≡ place → (nat_le (length lines) (first_use are.firsts (bucket_of name)) ≡ true) ⊎ (waits_on p (Some section) (line_of_place place) ≡ false)
      at Nowhere e = inr refl
      at (Equ line) e = inr refl
      at (ByLabel line index) e = of (waits_in p section line) refl
        where
          of : (b : Bool) → waits_in p section line ≡ b → (nat_le (length lines) (first_use are.firsts (bucket_of name)) ≡ true) ⊎ (waits_in p section line ≡ false)
          of false h = inr h
          of true h =
              let has = labelled p name line index e in
              let within : line ≤ length p = (let is = subst-within e in omega (arith, is)) in
              let there = waits-behind line has.0 within h in
              let unused = are.unused line there.0 (omega (arith, within, length-program lines)) there.1 in
              inl (le-leb (length lines) (first_use are.firsts (bucket_of name)) (unused.symbols name has.1))
            where
              subst-within : definition_of p name ≡ ByLabel line index → line < 1 + length p
              subst-within is = (subst (λ d. IsWithin 1 (1 + length p) d) is (definition-within p name)).1

  none-used : (i : ℕ) → 1 ≤ i → i ≤ length p → list_any (is_awaited p (Some section)) (names_used (body_at p i)) ≡ false
  none-used i from to =
      ap (λ t. list_any (is_awaited p (Some section)) (names_used t.body)) (statement_of_line lines i text within from (get_or_default lines (i - 1) [] text inside))
      ∙ none-passes is_past (is_awaited p (Some section)) only (names_used (statement_of text).body) (λ bucket past. at bucket past (may_have (names_on text) bucket) refl)
    where
      text : List ℕ
      text = get_or lines (i - 1) []

      within : i ≤ length lines
      within = omega (arith, to, length-program lines)

      inside : i - 1 < length lines
      inside = omega (arith, from, within)

      at : (bucket : ℕ) → is_past bucket ≡ true → (b : Bool) → may_have (names_on text) bucket ≡ b → may_have (names_on text) bucket ≡ false
      at bucket past false e = e
      at bucket past true e =
          let least = leb-true (length lines) (first_use are.firsts bucket) past in
          let here = are.uses (i - 1) bucket inside e in
          absurd (omega (arith, least, here, inside))

  pub end-high : KeepsHighs base p (more p s) (suc (length p)) (Some section)
  end-high =
      let k : ℕ = suc (length p) in record {
        within = λ within. absurd (omega (arith, within));
        others = λ t past there. inr (ap Some (sym (section-is section bytes) ∙ section-is t there));
        there = λ t e. (omega arith, (let is : ◌≡◌ {A = Option ℕ} (Some section) (Some t) = e in let same : section ≡ t = cc in ap (λ n. has_bytes_in (more p s) n k) (sym same) ∙ bytes));
        unused = none-used;
        local = λ number i from to h.
            let there = waits-behind i from to h in (are.unused i there.0 (omega (arith, to, length-program lines)) there.1).local number;
      }
    where
      section-is : (t : ℕ) → has_bytes_in (more p s) t (suc (length p)) ≡ true → section_number (section_at (more p s) (suc (length p))) ≡ t
      section-is t there =
          eqb-true (section_number (section_at (more p s) (suc (length p)))) t (and_parts (section_number (section_at (more p s) (suc (length p))) == t) (not (size_at (more p s) (suc (length p)) == 0)) there).0
