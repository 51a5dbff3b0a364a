-- What is kept of a text where a line is new with which the others have to do by its names and its local labels alone, and what such an
-- edit may take.
use Rattle.std.proofs.Common.{◌≡◌, ℕ, zero, suc, ◌+◌, ◌-◌, ◌*◌, ◌==◌, ◌<◌, ◌≤◌, ◌⊎◌, inl, inr, nat_le, Bool, true, false, ◌&&◌, ◌||◌, true≢false, List, [], ◌∷◌, ◌++◌, length, map, set, insert, get_or, Option, Some, None, arith, ap, sym, subst, ◌∙◌, refl}
use Rattle.std.specs.List.{list_any}
use Rattle.std.proofs.Math.Path.{fun_ext}
use Rattle.std.proofs.lemmas.Bool.{cases_eq, cases_lt, and_parts, or_cases, not_from_true, eq-eqb, ne_eqb, or_left, or_right, or_parts, or_from}
use Rattle.std.proofs.lemmas.List.{length-map}
use Rattle.std.proofs.lemmas.List.Edits.{insert_end}
use Rattle.std.proofs.lemmas.Option.{get_or_from_slice_get, slice_get_within}
use Rattle.rv_text.specs.Counting.{Counts}
use Rattle.rv_stmt.specs.Statement.{statement_of}
use Rattle.rv_program.specs.declared.item.Item.{Item}
use Rattle.rv_program.specs.Changes.{program_after, is_new_or, differs_in_name, differs_in_uses, differs_in_values}
use Rattle.rv_program.specs.Edits.{line_before_edit}
use Rattle.rv_program.specs.Program.{Program, program_of, no_statement, body_at, for_lines, lines_that}
use Rattle.rv_program.specs.Text.{refusal_of}
use Rattle.rv_program.specs.Uses.{names_used, uses_local_label}
use Rattle.rv_program.specs.internal.Former.{AreFormer}
use Rattle.rv_program.specs.internal.Items.{IsItem, AreItems}
use Rattle.rv_program.specs.internal.NewShapes.{shape_operands}
use Rattle.rv_program.specs.internal.Renewals.{AreCounted}
use Rattle.rv_program.specs.internal.Revisions.{EditedText, revised_lines, invalidates, reencodes, TellsDue}
use Rattle.rv_program.specs.internal.Still.{set_or_push}
use Rattle.rv_program.specs.internal.Work.{equ_operands, high_operands, survey_operands, work}
use Rattle.rv_program.specs.lemmas.CountedLines.{nothing_counted}
use Rattle.rv_program.specs.lemmas.ItemLaws.{item_of_line}
use Rattle.rv_program.specs.lemmas.Lists.{any-weaker}
use Rattle.rv_program.specs.lemmas.NewShapeLaws.{shape-work}
use Rattle.rv_program.specs.lemmas.Programs.{length-for_lines, length-program}
use Rattle.rv_program.specs.lemmas.SamenessLaws.{same_values-Decides, same_shape-Decides}
use Rattle.rv_program.specs.lemmas.ShapeWork.{operands-next, operands-more, constant-work}
use Rattle.rv_program.specs.lemmas.SurveyWork.{survey-work, equ-work}
use Rattle.rv_program.specs.lemmas.WorkLaws.{work-invalidated, work-up}
use Rattle.rv_store.specs.declared.survey.Survey.{Survey}
use Rattle.rv_store.specs.internal.Appended.{AreSymbols}
use Rattle.rv_store.specs.internal.Assembled.{AreCountedAfter}
use Rattle.rv_store.specs.internal.Renewed.{AreItemsLeft}
use Rattle.rv_store.specs.internal.Still.{Touched, uses_any, is_put_or_uses, IsOther, IsStill, IsPutEdit}
use Rattle.rv_store.specs.internal.Waiting.{KeepsHighs}
use Rattle.rv_store.proofs.CountedEdits.{counted-after}
use Rattle.rv_store.proofs.LongerPrograms.{for_lines-same}
use Rattle.rv_store.proofs.StillLaws.{body-still, shape-still, constant-all, equ_value-all, values-still}

-- Rows with another value at a place, or with one more behind their end

set_or_push-before : {A : Type 0} (xs ys : List A) (i : ℕ) (a : A) → i < length xs → set_or_push (xs ++ ys) i a ≡ set_or_push xs i a ++ ys
set_or_push-before [] ys i a l = absurd (let no : i < 0 = l in omega (arith, no))
set_or_push-before (x ∷ xs) ys zero a l = refl
set_or_push-before (x ∷ xs) ys (suc i) a l = ap (λ zs. x ∷ zs) (set_or_push-before xs ys i a (omega (arith, l)))

set_or_push-behind : {A : Type 0} (xs ys : List A) (a : A) → set_or_push (xs ++ ys) (length xs) a ≡ xs ++ set_or_push ys 0 a
set_or_push-behind [] ys a = refl
set_or_push-behind (x ∷ xs) ys a = ap (λ zs. x ∷ zs) (set_or_push-behind xs ys a)

pub set-set_or_push : {A : Type 0} (xs : List A) (i : ℕ) (a : A) → i < length xs → set xs i a ≡ set_or_push xs i a
set-set_or_push [] i a l = absurd (let no : i < 0 = l in omega (arith, no))
set-set_or_push (x ∷ xs) zero a l = refl
set-set_or_push (x ∷ xs) (suc i) a l = ap (λ zs. x ∷ zs) (set-set_or_push xs i a (omega (arith, l)))

pub end-set_or_push : {A : Type 0} (xs : List A) (i : ℕ) (a : A) → i ≡ length xs → xs ++ a ∷ [] ≡ set_or_push xs i a
end-set_or_push [] zero a e = refl
end-set_or_push [] (suc i) a e = refl
end-set_or_push (x ∷ xs) zero a e = absurd (omega (arith, e))
end-set_or_push (x ∷ xs) (suc i) a e = ap (λ zs. x ∷ zs) (end-set_or_push xs i a (omega (arith, e)))

pub inserted : {A : Type 0} (xs : List A) (i : ℕ) (a : A) → i ≡ length xs → insert xs i a ≡ set_or_push xs i a
inserted xs i a end = ap (λ j. insert xs j a) end ∙ insert_end xs a ∙ end-set_or_push xs i a end

pub map-set_or_push : {A B : Type 0} (f : A → B) (xs : List A) (i : ℕ) (a : A) → map f (set_or_push xs i a) ≡ set_or_push (map f xs) i (f a)
map-set_or_push f [] i a = refl
map-set_or_push f (x ∷ xs) zero a = refl
map-set_or_push f (x ∷ xs) (suc i) a = ap (λ ys. f x ∷ ys) (map-set_or_push f xs i a)

pub at-set_or_push : {A : Type 0} (xs : List A) (i : ℕ) (a other : A) → i ≤ length xs → get_or (set_or_push xs i a) i other ≡ a
at-set_or_push [] zero a other l = refl
at-set_or_push [] (suc i) a other l = absurd (omega (arith, l))
at-set_or_push (x ∷ xs) zero a other l = refl
at-set_or_push (x ∷ xs) (suc i) a other l = at-set_or_push xs i a other (omega (arith, l))

module _ {A : Type 0} (f g : ℕ → A) (k : ℕ) (first : 1 ≤ k) where
  pub row-within : (n : ℕ) → k ≤ n → ((i : ℕ) → 1 ≤ i → i ≤ n → (i ≡ k → ⊥) → f i ≡ g i) → set_or_push (for_lines f n) (k - 1) (g k) ≡ for_lines g n
  row-within zero last same = absurd (omega (arith, last, first))
  row-within (suc n) last same = at (cases_lt n k) (λ within. row-within n within (λ i from to. same i from (omega (arith, to))))
    where
      at : (n < k) ⊎ (k ≤ n) → (k ≤ n → set_or_push (for_lines f n) (k - 1) (g k) ≡ for_lines g n) → set_or_push (for_lines f n ++ f (suc n) ∷ []) (k - 1) (g k) ≡ for_lines g n ++ g (suc n) ∷ []
      at (inl above) rest =
          let place : k - 1 ≡ length (for_lines f n) = omega (arith, above, last, length-for_lines f n) in
          let number : k ≡ suc n = omega (arith, above, last) in
          let earlier = for_lines-same f g n (λ i from to. same i from (omega (arith, to)) (λ e. omega (arith, e, to, above))) in
          ap (λ i. set_or_push (for_lines f n ++ f (suc n) ∷ []) i (g k)) place
          ∙ set_or_push-behind (for_lines f n) (f (suc n) ∷ []) (g k)
          ∙ (λ i. earlier i ++ g (number i) ∷ [])
      at (inr below) rest =
          let within : k - 1 < length (for_lines f n) = omega (arith, below, first, length-for_lines f n) in
          let here = same (suc n) (omega arith) (omega arith) (λ e. omega (arith, e, below)) in
          set_or_push-before (for_lines f n) (f (suc n) ∷ []) (k - 1) (g k) within ∙ (λ i. rest below i ++ here i ∷ [])

  row-behind : (n : ℕ) → k ≡ suc n → ((i : ℕ) → 1 ≤ i → i ≤ n → (i ≡ k → ⊥) → f i ≡ g i) → set_or_push (for_lines f n) (k - 1) (g k) ≡ for_lines g (suc n)
  row-behind n number same =
      let place : k - 1 ≡ length (for_lines f n) = omega (arith, number, length-for_lines f n) in
      let earlier = for_lines-same f g n (λ i from to. same i from to (λ e. omega (arith, e, to, number))) in
      sym (end-set_or_push (for_lines f n) (k - 1) (g k) place) ∙ (λ i. earlier i ++ g (number i) ∷ [])

-- The rows of the text

module _ {base : ℕ} {p q : Program} {k : ℕ} {touched : Touched} (is : IsStill base p q k touched) where
  -- line k is one of the lines, or the next one
  pub within-next : k ≤ suc (length p)
  within-next = at (cases_lt (length p) k)
    where
      at : (length p < k) ⊎ (k ≤ length p) → k ≤ suc (length p)
      at (inl past) =
          let last = is.last in let next = is.behind (suc (length p)) (omega arith) (omega (arith, past, last)) in omega (arith, next)
      at (inr within) = omega (arith, within)

  -- a row by lines with that of line k
  pub row-still : {A : Type 0} (f g : ℕ → A) → ((i : ℕ) → IsOther p k i → f i ≡ g i) → set_or_push (for_lines f (length p)) (k - 1) (g k) ≡ for_lines g (length q)
  row-still f g same = at (cases_lt (length p) (length q))
    where
      others : (i : ℕ) → 1 ≤ i → i ≤ length p → (i ≡ k → ⊥) → f i ≡ g i
      others i from to differs = same i (record { first = from; last = to; differs = differs })

      at : (length p < length q) ⊎ (length q ≤ length p) → set_or_push (for_lines f (length p)) (k - 1) (g k) ≡ for_lines g (length q)
      at (inl more) =
          let next = is.behind (suc (length p)) (omega arith) (omega (arith, more)) in
          let end = is.behind (length q) more (omega arith) in
          row-behind f g k is.first (length p) (sym next) others ∙ ap (for_lines g) (next ∙ sym end)
      at (inr all) =
          let longer = is.longer in let last = is.last in
          let same_count : length p ≡ length q = omega (arith, all, longer) in
          row-within f g k is.first (length p) (omega (arith, last, same_count)) others ∙ ap (for_lines g) same_count

  -- where no name is touched, the rows by names stay
  pub symbols-still : (names : List (List ℕ)) (s : Survey) → ((name : List ℕ) → touched.names name ≡ false) → AreSymbols base p (length p) names s → AreSymbols base q (length q) names s
  symbols-still names s none are = record {
    definitions = record { each = are.definitions.each ∙ sym (fun_ext (λ name. is.definitions name (none name))); within = are.definitions.within };
    constants = record { each = are.constants.each ∙ sym (fun_ext (λ name. constant-all is (length q) is.longer name (none name))); within = are.constants.within };
    equ_values = record { each = are.equ_values.each ∙ sym (fun_ext (λ name. equ_value-all is (length q) is.longer name (none name))); within = are.equ_values.within };
  }

-- What the edit does to the other lines

module _ (r : EditedText) {k : ℕ} {line : List ℕ} {touched : Touched} (is : IsStill r.base (program_of r.lines) (program_of (set_or_push r.lines (k - 1) line)) k touched) (put : IsPutEdit r.lines r.edit k line) where
  abbrev p : Program
  p = program_of r.lines

  abbrev q : Program
  q = program_of (set_or_push r.lines (k - 1) line)

  count : length (revised_lines r) ≡ length q
  count = ap length put.edited ∙ sym (length-program (set_or_push r.lines (k - 1) line))

  other : (i : ℕ) → 1 ≤ i → i ≤ length r.lines → (i ≡ k → ⊥) → IsOther p k i
  other i first last differs = record { first = first; last = omega (arith, last, length-program r.lines); differs = differs }

  -- a line but line k is compared with itself
  stood : (differs : Program → ℕ → ℕ → Bool) (i : ℕ) → IsOther p k i → is_new_or (differs (program_after r.lines r.edit) i) (line_before_edit r.edit i) ≡ differs q i i
  stood differs i there =
      ap (is_new_or (differs (program_after r.lines r.edit) i)) (put.others i (let last = there.last in omega (arith, last, length-program r.lines)) there.differs)
      ∙ ap (λ ls. differs (program_of ls) i i) put.edited

  -- a line that uses what is touched is invalidated
  user-invalidated : (i : ℕ) → IsOther p k i → uses_any touched p i ≡ true → invalidates r i ≡ true
  user-invalidated i there used =
      stood (λ t i j. differs_in_uses r.base p t i j (body_at t i)) i there ∙ at (or_cases (list_any touched.names (names_used (body_at p i))) (nat_le touched.from i && uses_local_label (body_at p i)) used)
    where
      at : (list_any touched.names (names_used (body_at p i)) ≡ true) ⊎ ((nat_le touched.from i && uses_local_label (body_at p i)) ≡ true) → differs_in_uses r.base p q i i (body_at q i) ≡ true
      at (inl named) =
          let names : list_any (differs_in_name r.base p q i i) (names_used (body_at q i)) ≡ true =
          ap (λ b. list_any (differs_in_name r.base p q i i) (names_used b)) (body-still is i there)
          ∙ any-weaker touched.names (differs_in_name r.base p q i i) (λ name. is.differ i i name) (names_used (body_at p i)) named in
          or_left _ _ (or_left _ _ (or_left _ _ (or_left _ _ names)))
      at (inr near) =
          let local : uses_local_label (body_at q i) ≡ true =
          ap uses_local_label (body-still is i there) ∙ (and_parts (nat_le touched.from i) (uses_local_label (body_at p i)) near).1 in
          or_left _ _ (or_left _ _ (or_right _ _ local))

  -- and no other one is reencoded
  other-stays : {added : Option ℕ} → KeepsHighs r.base p q k added → (i : ℕ) → IsOther p k i → uses_any touched p i ≡ false → reencodes r i ≡ false
  other-stays highs i there none =
      stood (λ t i j. differs_in_values r.base p t i j) i there
      ∙ or_from _ _ (not_from_true _ ((same_values-Decides _ _).1 (values-still is highs i there none))) (not_from_true _ ((same_shape-Decides _ _).1 (shape-still is i there)))

  tells : {added : Option ℕ} → KeepsHighs r.base p q k added → TellsDue r (length r.lines) (is_put_or_uses touched p k)
  tells highs = record {
    invalidated = λ i first last due. at i first last due (cases_eq i k);
    others = λ i first last stays.
        let none = or_parts (i == k) (uses_any touched p i) stays in
        other-stays highs i (other i first last (λ e. true≢false (sym (eq-eqb i k e) ∙ none.0))) none.1;
  }
    where
      at : (i : ℕ) → 1 ≤ i → i ≤ length r.lines → is_put_or_uses touched p k i ≡ true → (i ≡ k) ⊎ (i ≡ k → ⊥) → invalidates r i ≡ true
      at i first last due (inl here) =
          ap (invalidates r) here ∙ ap (is_new_or (λ j. differs_in_uses r.base p (program_after r.lines r.edit) k j (body_at (program_after r.lines r.edit) k))) put.new
      at i first last due (inr differs) =
          user-invalidated i (other i first last differs) (ap (λ b. b || uses_any touched p i) (sym (ne_eqb i k differs)) ∙ due)

  former : (items : List Item) → AreItems r.base r.lines items → AreFormer r.base r.lines r.edit 0 items
  former items are i item there j stands = at (cases_eq n k)
    where
      n : ℕ
      n = 0 + i + 1

      within : i < length items
      within = slice_get_within items i item there

      last : n ≤ length r.lines
      last = omega (arith, within, length-map items (λ i. i.line), ap length are.lines)

      at : (n ≡ k) ⊎ (n ≡ k → ⊥) → IsItem r.base r.lines j item
      at (inl here) = absurd (let no : None ≡ Some j = sym (ap (line_before_edit r.edit) here ∙ put.new) ∙ stands in cc)
      at (inr differs) =
          let place : i ≡ n - 1 = omega arith in
          let there_too : Some n ≡ Some j = sym (put.others n last differs) ∙ stands in
          let number : n ≡ j = cc in
          let is : get_or items (n - 1) item ≡ item = ap (λ m. get_or items m item) (sym place) ∙ get_or_from_slice_get items i item item there in
          subst (λ m. IsItem r.base r.lines m item) number (subst (IsItem r.base r.lines n) is (item_of_line r.base r.lines items n item are (omega arith) last))

  -- so these are its items, and what is due
  pub items-left : {added : Option ℕ} → KeepsHighs r.base p q k added → (items : List Item) (due : List ℕ) → AreItems r.base r.lines items → due ≡ lines_that (is_put_or_uses touched p k) (length r.lines) → AreItemsLeft r items due (length (revised_lines r))
  items-left highs items due are those =
      let all : length items ≡ length r.lines = sym (length-map items (λ i. i.line)) ∙ ap length are.lines in
      let longer = is.longer in
      let next = within-next is in
      let behind = is.behind (length q) in
      record {
        few = omega (arith, all, longer, count, length-program r.lines);
        next = at (cases_lt (length p) (length q)) all next behind;
        new = λ more.
            let here : length (revised_lines r) ≡ k = count ∙ behind (omega (arith, more, all, count, length-program r.lines)) (omega arith) in
            ap (line_before_edit r.edit) here ∙ put.new;
        former = former items are;
        told = record { test = is_put_or_uses touched p k; tells = subst (λ n. TellsDue r n (is_put_or_uses touched p k)) (sym all) (tells highs); those = those ∙ ap (lines_that (is_put_or_uses touched p k)) (sym all) };
      }
    where
      at : (length p < length q) ⊎ (length q ≤ length p) → length items ≡ length r.lines → k ≤ suc (length p) → (length p < length q → length q ≤ length q → length q ≡ k) → length (revised_lines r) ≤ length items + 1
      at (inl more) all next behind =
          let end = behind more (omega arith) in omega (arith, end, next, all, count, length-program r.lines)
      at (inr most) all next behind = omega (arith, most, all, count, length-program r.lines)

  -- What it may take

  module _ (allowed : refusal_of r.lines r.edit ≡ None) where
    abbrev pub n : ℕ
    n = length (revised_lines r)

    body-put : body_at (program_after r.lines r.edit) k ≡ (statement_of line).body
    body-put =
        ap (λ ls. body_at (program_of ls) k) put.edited
        ∙ ap (λ ss. body_at ss k) (map-set_or_push statement_of r.lines (k - 1) line)
        ∙ ap (λ s. s.body) (at-set_or_push p (k - 1) (statement_of line) no_statement (let next = within-next is in omega (arith, next)))

    -- what the line defines, its high half, and the operand from which its shape follows
    defined-work : shape_operands r.edit + 2 * equ_operands (statement_of line).body + high_operands (statement_of line).body ≤ work survey_operands r.base r.lines r.edit n
    defined-work =
        let last = is.last in
        let first = is.first in
        let surveyed = survey-work r.base r.lines r.edit n in
        let constants = constant-work r.base r.lines r.edit n in
        let equs = equ-work r.base r.lines r.edit n in
        let shape = shape-work r.base r.lines r.edit allowed n refl in
        let next = operands-next equ_operands (program_after r.lines r.edit) (k - 1) in
        let more = operands-more equ_operands (program_after r.lines r.edit) (k - 1 + 1) n (omega (arith, last, first, count)) in
        let here : equ_operands (body_at (program_after r.lines r.edit) (k - 1 + 1)) ≡ equ_operands (statement_of line).body = (let number : k - 1 + 1 ≡ k = omega (arith, first) in ap (λ m. equ_operands (body_at (program_after r.lines r.edit) m)) number ∙ ap equ_operands body-put) in
        let invalidated : invalidates r k ≡ true = ap (is_new_or (λ j. differs_in_uses r.base p (program_after r.lines r.edit) k j (body_at (program_after r.lines r.edit) k))) put.new in
        let high = work-invalidated high_operands r.base r.lines r.edit k first invalidated in
        let highs = work-up high_operands r.base r.lines r.edit k n (omega (arith, last, count)) in
        let own : high_operands (body_at (program_after r.lines r.edit) k) ≡ high_operands (statement_of line).body = ap high_operands body-put in
        omega (arith, surveyed, constants, equs, shape, next, more, here, high, highs, own)

    module _ (old middle : Counts) (parsed : middle.parsed ≡ old.parsed) (least : old.valued ≤ middle.valued) (most : middle.valued ≤ old.valued + 3) (operands : middle.valued ≤ old.valued + 2 * equ_operands (statement_of line).body + high_operands (statement_of line).body) (encoded : middle.encoded ≡ old.encoded) where
      -- first what it defines and its high half are counted, then what the items take
      pub counted-put : (new : Counts) → AreCounted r 0 n middle new → AreCountedAfter r.base r.lines r.edit old new
      counted-put new all =
          let first = is.first in
          let last = is.last in
          let work = defined-work in
          let codes = all.encoded_most in
          counted-after r.base r.lines (revised_lines r) r.edit old new middle.valued refl (all.parsed ∙ parsed) least (omega (arith, most, first, last, count)) (omega (arith, operands, work))
          all.valued_least (let few = all.valued_few in omega (arith, few)) (let values = all.valued_most in omega (arith, values))
          (let fewest = all.encoded_least in omega (arith, fewest, encoded)) (let few = all.encoded_few in omega (arith, few, encoded)) (omega (arith, codes, encoded))

      pub counted-defined : AreCountedAfter r.base r.lines r.edit old middle
      counted-defined = counted-put middle (nothing_counted r 0 n middle (omega arith))
