-- Lines that a search goes past.
use Rattle.std.proofs.Common.{◌≡◌, ℕ, zero, suc, ◌+◌, ◌-◌, ◌<◌, ◌≤◌, ◌==◌, ◌⊎◌, inl, inr, true, false, List, [], ◌∷◌, length, length-append, get_or, drop, Option, Some, None, arith, ap, sym, subst, ◌∙◌, refl}
use Rattle.std.specs.Option.{option_map}
use Rattle.std.specs.Prelude.{slice_get}
use Rattle.std.proofs.lemmas.Bool.{cases_lt}
use Rattle.std.proofs.lemmas.List.{get_or-map, get_or_append_left, get_or_default}
use Rattle.std.proofs.lemmas.Option.{slice_get-map, slice_get-get_or}
use Rattle.rv_list.specs.declared.view.DefinitionPlace.{DefinitionPlace}
use Rattle.rv_list.specs.declared.view.DefinitionPlace.TheVariants.{Nowhere, Label, Equ}
use Rattle.rv_stmt.specs.Statement.{statement_of}
use Rattle.rv_tree.specs.Search.{IsNextPart}
use Rattle.rv_program.specs.declared.item.Item.{Item}
use Rattle.rv_program.specs.declared.mask.Kind.{Kind}
use Rattle.rv_program.specs.declared.mask.Mask.{Mask}
use Rattle.rv_program.specs.Definitions.{place_in_statement, first_place, or_place, is_defined}
use Rattle.rv_program.specs.internal.Briefs.{brief_of, is_brief_of}
use Rattle.rv_program.specs.internal.LineSearch.{LineLacks, AreUnwanted, AreFirst}
use Rattle.rv_program.specs.internal.LineSums.{line_sum_of}
use Rattle.rv_program.specs.internal.Lines.{lines_of}
use Rattle.rv_program.specs.internal.LinesWithout.{is_of_kind, AreWithout}
use Rattle.rv_program.specs.internal.Masks.{shared, mask_of_bucket, mask_of_kind}
use Rattle.rv_program.specs.internal.NameSets.{bucket_of}
use Rattle.rv_program.specs.Program.{Program, program_of, body_at, no_statement}
use Rattle.rv_program.specs.lemmas.LineMasks.{kind-is, line-lacks, unwanted-undefined, unwanted-kind}
use Rattle.rv_program.specs.lemmas.MaskLaws.{name-of_bucket, kind-of_itself}

module _ (wanted : Mask) (lines : List (List ℕ)) where
  -- lines that the sums go past
  pub unwanted-by_sums : (items : List Item) → AreFirst lines (lines_of items) → (i n end m : ℕ) → IsNextPart (λ x. shared wanted (line_sum_of x).mask == 0) items i n end → m ≤ n → m ≤ length lines → AreUnwanted wanted lines i m
  unwanted-by_sums items are i n end m found past within k first last = at (slice_get items k) refl
    where
      inside : k < length (lines_of items)
      inside = omega (arith, last, within, ap length are.whole, length-append lines are.others)

      there : option_map (λ item. item.line) (slice_get items k) ≡ Some (get_or lines k [])
      there =
          sym (slice_get-map (λ item. item.line) items k)
          ∙ slice_get-get_or (lines_of items) k [] inside
          ∙ ap (λ ls. Some (get_or ls k [])) are.whole
          ∙ ap Some (get_or_append_left lines are.others [] k (omega (arith, last, within)))

      at : (o : Option Item) → slice_get items k ≡ o → LineLacks wanted (get_or lines k [])
      at None e = absurd (let no : None ≡ Some (get_or lines k []) = ap (option_map (λ item. item.line)) (sym e) ∙ there in cc)
      at (Some x) e =
          let some : Some x.line ≡ Some (get_or lines k []) = ap (option_map (λ item. item.line)) (sym e) ∙ there in
          let same : x.line ≡ get_or lines k [] = cc in
          subst (LineLacks wanted) same (line-lacks x.line wanted (found.passed k x first (omega (arith, last, past)) e))

  pub unwanted-none : (i : ℕ) → AreUnwanted wanted lines i i
  unwanted-none i k first last = absurd (omega (arith, first, last))

  -- further on
  pub unwanted-joined : (i j m : ℕ) → AreUnwanted wanted lines i j → AreUnwanted wanted lines j m → AreUnwanted wanted lines i m
  unwanted-joined i j m before after k first last = at (cases_lt k j)
    where
      at : (k < j) ⊎ (j ≤ k) → LineLacks wanted (get_or lines k [])
      at (inl below) = before k first below
      at (inr above) = after k above last

  -- one line more
  pub unwanted-next : (i j : ℕ) → LineLacks wanted (get_or lines j []) → AreUnwanted wanted lines i j → AreUnwanted wanted lines i (j + 1)
  unwanted-next i j none before k first last = at (cases_lt k j)
    where
      at : (k < j) ⊎ (j ≤ k) → LineLacks wanted (get_or lines k [])
      at (inl below) = before k first below
      at (inr above) = subst (λ n. LineLacks wanted (get_or lines n [])) (let e : j ≡ k = omega (arith, last, above) in e) none

-- a line of a text
body-is : (lines : List (List ℕ)) (k : ℕ) → k < length lines → body_at (program_of lines) (suc k) ≡ (statement_of (get_or lines k [])).body
body-is lines k within =
    let index : suc k - 1 ≡ k = omega arith in
    ap (λ n. (get_or (program_of lines) n no_statement).body) index ∙ ap (λ s. s.body) (get_or-map statement_of lines k [] no_statement within)

-- it is not of a kind
pub other-kind : (lines : List (List ℕ)) (kind : Kind) (k : ℕ) (line : List ℕ) → k < length lines → line ≡ get_or lines k line → is_brief_of kind (brief_of (statement_of line)) ≡ false → is_of_kind kind (body_at (program_of lines) (suc k)) ≡ false
other-kind lines kind k line within is none =
    ap (is_of_kind kind) (body-is lines k within)
    ∙ ap (λ l. is_of_kind kind (statement_of l).body) (sym (is ∙ get_or_default lines k line [] within))
    ∙ kind-is line kind
    ∙ none

-- none of these lines is
pub unwanted-without : (lines : List (List ℕ)) (kind : Kind) (i j : ℕ) → j ≤ length lines → AreUnwanted (mask_of_kind kind) lines i j → AreWithout (is_of_kind kind) (program_of lines) i j
unwanted-without lines kind i j last others = record {
  each = λ k first below.
      ap (is_of_kind kind) (body-is lines k (omega (arith, below, last)))
      ∙ unwanted-kind (get_or lines k []) (mask_of_kind kind) (others k first below) kind (kind-of_itself kind);
}

-- further on, and one line more
module _ (p : Program) (kind : Kind) where
  pub without-joined : (i j m : ℕ) → AreWithout (is_of_kind kind) p i j → AreWithout (is_of_kind kind) p j m → AreWithout (is_of_kind kind) p i m
  without-joined i j m before after = record { each = λ k first last. elim (cases_lt k j) [ inl below ↦ before.each k first below | inr above ↦ after.each k above last ] }

  pub without-next : (i j : ℕ) → is_of_kind kind (body_at p (suc j)) ≡ false → AreWithout (is_of_kind kind) p i j → AreWithout (is_of_kind kind) p i (j + 1)
  without-next i j none before =
      without-joined i j (j + 1) before (record { each = λ k first last. let same : j ≡ k = omega (arith, first, last) in subst (λ n. is_of_kind kind (body_at p (suc n)) ≡ false) same none })

-- The first definition of a name is not on lines that do not have its mask

pub nowhere : (place : DefinitionPlace) → is_defined place ≡ false → place ≡ Nowhere
nowhere Nowhere is = refl
nowhere (Label line index) is = absurd (let no : true ≡ false = is in cc)
nowhere (Equ line) is = absurd (let no : true ≡ false = is in cc)

module _ (name : List ℕ) where
  drop-one : (lines : List (List ℕ)) (i line : ℕ) → i < length lines → LineLacks (mask_of_bucket (bucket_of name)) (get_or lines i []) → first_place line (program_of (drop i lines)) name ≡ first_place (line + 1) (program_of (drop (suc i) lines)) name
  drop-one [] i line within none = absurd (let no : i < 0 = within in omega (arith, no))
  drop-one (l ∷ ls) zero line within none =
      ap (λ place. or_place place (first_place (line + 1) (program_of ls) name)) (nowhere (place_in_statement line (statement_of l) name) (unwanted-undefined l (mask_of_bucket (bucket_of name)) none line name (name-of_bucket (bucket_of name))))
  drop-one (l ∷ ls) (suc i) line within none = drop-one ls i line (omega (arith, within)) none

  past-count : (lines : List (List ℕ)) (i count : ℕ) → i + count ≤ length lines → AreUnwanted (mask_of_bucket (bucket_of name)) lines i (i + count) → first_place (i + 1) (program_of (drop i lines)) name ≡ first_place (i + count + 1) (program_of (drop (i + count) lines)) name
  past-count lines i zero within others = let same : i + 0 ≡ i = omega arith in ap (λ k. first_place (k + 1) (program_of (drop k lines)) name) (sym same)
  past-count lines i (suc count) within others =
      let next : i + 1 + count ≡ i + suc count = omega arith in
      let one : suc i ≡ i + 1 = omega arith in
      drop-one lines i (i + 1) (omega (arith, within)) (others i (omega arith) (omega arith))
      ∙ ap (λ k. first_place (i + 1 + 1) (program_of (drop k lines)) name) one
      ∙ past-count lines (i + 1) count (omega (arith, within)) (λ k first last. others k (omega (arith, first)) (omega (arith, last)))
      ∙ ap (λ k. first_place (k + 1) (program_of (drop k lines)) name) next

  pub place-past : (lines : List (List ℕ)) (i j : ℕ) → i ≤ j → j ≤ length lines → AreUnwanted (mask_of_bucket (bucket_of name)) lines i j → first_place (i + 1) (program_of (drop i lines)) name ≡ first_place (j + 1) (program_of (drop j lines)) name
  place-past lines i j up within others =
      let all : i + (j - i) ≡ j = omega (arith, up) in
      past-count lines i (j - i) (omega (arith, up, within)) (λ k first last. others k first (omega (arith, last, up)))
      ∙ ap (λ k. first_place (k + 1) (program_of (drop k lines)) name) all

  -- a line that does not define it
  pub place-next : (lines : List (List ℕ)) (i : ℕ) → i < length lines → place_in_statement (i + 1) (statement_of (get_or lines i [])) name ≡ Nowhere → first_place (i + 1) (program_of (drop i lines)) name ≡ first_place (i + 1 + 1) (program_of (drop (i + 1) lines)) name
  place-next lines i within none = let one : suc i ≡ i + 1 = omega arith in at lines i (i + 1) within none ∙ ap (λ k. first_place (i + 1 + 1) (program_of (drop k lines)) name) one
    where
      at : (lines : List (List ℕ)) (i line : ℕ) → i < length lines → place_in_statement line (statement_of (get_or lines i [])) name ≡ Nowhere → first_place line (program_of (drop i lines)) name ≡ first_place (line + 1) (program_of (drop (suc i) lines)) name
      at [] i line within none = absurd (let no : i < 0 = within in omega (arith, no))
      at (l ∷ ls) zero line within none = ap (λ place. or_place place (first_place (line + 1) (program_of ls) name)) none
      at (l ∷ ls) (suc i) line within none = at ls i line (omega (arith, within)) none

  -- a line that defines it
  pub place-found : (lines : List (List ℕ)) (i : ℕ) → i < length lines → is_defined (place_in_statement (i + 1) (statement_of (get_or lines i [])) name) ≡ true → first_place (i + 1) (program_of (drop i lines)) name ≡ place_in_statement (i + 1) (statement_of (get_or lines i [])) name
  place-found lines i within is = at lines i (i + 1) within is
    where
      first : (place rest : DefinitionPlace) → is_defined place ≡ true → or_place place rest ≡ place
      first Nowhere rest is = absurd (let no : false ≡ true = is in cc)
      first (Label line index) rest is = refl
      first (Equ line) rest is = refl

      at : (lines : List (List ℕ)) (i line : ℕ) → i < length lines → is_defined (place_in_statement line (statement_of (get_or lines i [])) name) ≡ true → first_place line (program_of (drop i lines)) name ≡ place_in_statement line (statement_of (get_or lines i [])) name
      at [] i line within is = absurd (let no : i < 0 = within in omega (arith, no))
      at (l ∷ ls) zero line within is = first (place_in_statement line (statement_of l) name) (first_place (line + 1) (program_of ls) name) is
      at (l ∷ ls) (suc i) line within is = at ls i line (omega (arith, within)) is

  -- no line is left
  pub place-none : (lines : List (List ℕ)) (i line : ℕ) → length lines ≤ i → first_place line (program_of (drop i lines)) name ≡ Nowhere
  place-none [] zero line all = refl
  place-none [] (suc i) line all = refl
  place-none (l ∷ ls) zero line all = absurd (let no : suc (length ls) ≤ 0 = all in omega (arith, no))
  place-none (l ∷ ls) (suc i) line all = place-none ls i line (omega (arith, all))
