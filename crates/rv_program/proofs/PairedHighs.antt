-- The high half that `%pcrel_lo` of a label on each line takes, from the last line back.
use Rattle.std.proofs.Common.{◌≡◌, ℕ, zero, suc, ◌+◌, ◌-◌, ◌<◌, ◌≤◌, ◌==◌, Bool, true, false, not, List, length, get_or, set, if◌then◌else◌, Option, Some, ok_or, Err, ◌⊎◌, inl, inr, arith, ap, sym, ◌∙◌, refl, get_or-set_same, get_or-set_other}
use Rattle.std.proofs.lemmas.Bool.{and_parts, not-true, cases_lt}
use Rattle.std.proofs.lemmas.List.{get_or_past}
use Rattle.rv_expr.specs.declared.faults.ValueFault.TheVariants.{NoPartner}
use Rattle.rv_layout.specs.Sections.{section_number, sections}
use Rattle.rv_stmt.specs.Readings.{and_then}
use Rattle.rv_fix.specs.Values.{Entry}
use Rattle.rv_list.specs.declared.view.LinePlace.{LinePlace}
use Rattle.rv_program.specs.Layout.{section_at, size_at, place_at}
use Rattle.rv_program.specs.Pairs.{has_bytes_in, high_at_line, paired_high_of}
use Rattle.rv_program.specs.Program.{Program, first_line}
use Rattle.rv_program.specs.internal.PairedHighs.{high_in, next_in, section_in, has_bytes_there, has_bytes_by, paired_high_in, AreNext}
use Rattle.rv_program.specs.internal.Rows.{own_high_of, ArePlaces, AreOwnHighs, AreHighs}
use Rattle.rv_program.specs.internal.TextRows.{no_place}
use Rattle.rv_program.proofs.HighLaws.{own-is}
use Rattle.rv_program.specs.lemmas.Programs.{length-for_lines, at-line}

-- what a row holds for the line after the first k
pub high-at : (row : List Entry) (k : ℕ) → high_in row (suc k) ≡ get_or row k (Err NoPartner)
high-at row k = ap (λ n. get_or row n (Err NoPartner)) (let e : suc k - 1 ≡ k = omega arith in e)

-- From the last line back

module _ (places : List LinePlace) (highs : List Entry) where
  -- what a section takes after line i
  abbrev taken : (t i count : ℕ) → Entry
  taken t i count = and_then (ok_or (first_line (has_bytes_by places t) i count) NoPartner) (high_in highs)

  pub next-start : (next : List Entry) → ((t : ℕ) → t < sections → next_in next t ≡ Err NoPartner) → AreNext places highs (length places) next
  next-start next none t below =
      none t below ∙ ap (taken t (length places)) (let e : 0 ≡ length places - length places = omega arith in e)

  pub next-passed : (i : ℕ) (place : LinePlace) (old new : List Entry) → i < length places → get_or places i no_place ≡ place → AreNext places highs (suc i) old → ((t : ℕ) → t < sections → next_in new t ≡ (if has_bytes_there t place then high_in highs (suc i) else next_in old t)) → AreNext places highs i new
  next-passed i place old new within lies are passed t below =
      passed t below
      ∙ at (has_bytes_there t place) (are t below)
      ∙ ap (λ b. and_then (ok_or (if b then Some (suc i) else first_line (has_bytes_by places t) (suc i) (length places - suc i)) NoPartner) (high_in highs)) (sym here)
      ∙ ap (taken t i) (let e : suc (length places - suc i) ≡ length places - i = omega (arith, within) in e)
    where
      here : has_bytes_by places t (suc i) ≡ has_bytes_there t place
      here = ap (λ n. has_bytes_there t (get_or places n no_place)) (let e : suc i - 1 ≡ i = omega arith in e) ∙ ap (has_bytes_there t) lies

      at : (b : Bool) → next_in old t ≡ taken t (suc i) (length places - suc i) → (if b then high_in highs (suc i) else next_in old t) ≡ and_then (ok_or (if b then Some (suc i) else first_line (has_bytes_by places t) (suc i) (length places - suc i)) NoPartner) (high_in highs)
      at true later = refl
      at false later = later

  pub next-paired : (i : ℕ) (place : LinePlace) (next : List Entry) → get_or places i no_place ≡ place → section_number place.section < sections → AreNext places highs i next → next_in next (section_number place.section) ≡ paired_high_in places highs (suc i)
  next-paired i place next lies below are =
      are (section_number place.section) below
      ∙ (let back : i ≡ suc i - 1 = omega arith in
      let section : section_number place.section ≡ section_in places (suc i) = ap (λ p. section_number p.section) (sym lies) ∙ ap (λ n. section_number (get_or places n no_place).section) back in
      λ j. taken (section j) (back j) (length places - back j))

  -- the row has one more line
  pub row-paired : (i : ℕ) (row : List Entry) (value : Entry) → i < length row → value ≡ paired_high_in places highs (suc i) → ((k : ℕ) → suc i ≤ k → k < length places → high_in row (suc k) ≡ paired_high_in places highs (suc k)) → (k : ℕ) → i ≤ k → k < length places → high_in (set row i value) (suc k) ≡ paired_high_in places highs (suc k)
  row-paired i row value within is done k from under = high-at (set row i value) k ∙ at (cases_lt i k)
    where
      at : (i < k) ⊎ (k ≤ i) → get_or (set row i value) k (Err NoPartner) ≡ paired_high_in places highs (suc k)
      at (inl behind) =
          get_or-set_other row i k value (Err NoPartner) (λ e. omega (arith, e, behind)) ∙ sym (high-at row k) ∙ done k (omega (arith, behind)) under
      at (inr here) =
          let same : k ≡ i = omega (arith, from, here) in
          ap (λ n. get_or (set row i value) n (Err NoPartner)) same ∙ get_or-set_same row i value (Err NoPartner) within ∙ is
          ∙ ap (λ n. paired_high_in places highs (suc n)) (sym same)

-- By the definitions

first_line-same : (test other : ℕ → Bool) (i count : ℕ) → ((j : ℕ) → i < j → j ≤ i + count → test j ≡ other j) → first_line test i count ≡ first_line other i count
first_line-same test other i zero same = refl
first_line-same test other i (suc count) same =
    (λ j. if same (suc i) (omega arith) (omega arith) j then Some (suc i) else first_line test (suc i) count)
    ∙ ap (λ o. if other (suc i) then Some (suc i) else o) (first_line-same test other (suc i) count (λ j first last. same j (omega (arith, first)) (omega (arith, last))))

module _ (base : ℕ) (program : Program) where
  -- a line with bytes has its own high half in the row
  high-found : (highs : List Entry) (section i count : ℕ) → i + count ≤ length program → AreOwnHighs base program highs → and_then (ok_or (first_line (has_bytes_in program section) i count) NoPartner) (high_in highs) ≡ high_at_line base program (first_line (has_bytes_in program section) i count)
  high-found highs section i zero within own = refl
  high-found highs section i (suc count) within own = at (has_bytes_in program section (suc i)) refl (high-found highs section (suc i) count (omega (arith, within)) own)
    where
      later : Option ℕ
      later = first_line (has_bytes_in program section) (suc i) count

      at : (b : Bool) → has_bytes_in program section (suc i) ≡ b → and_then (ok_or later NoPartner) (high_in highs) ≡ high_at_line base program later → and_then (ok_or (if b then Some (suc i) else later) NoPartner) (high_in highs) ≡ high_at_line base program (if b then Some (suc i) else later)
      at true bytes rest =
          ap (λ n. get_or highs n (Err NoPartner)) (let e : suc i - 1 ≡ i = omega arith in e)
          ∙ own.each i (omega (arith, within))
          ∙ own-is base program (suc i) (not-true (size_at program (suc i) == 0) (and_parts (section_number (section_at program (suc i)) == section) (not (size_at program (suc i) == 0)) bytes).1)
      at false bytes rest = rest

  -- the one of the first line with bytes in the section, by the places of the lines
  paired-by : (places : List LinePlace) (highs : List Entry) (line : ℕ) → ArePlaces base program places → AreOwnHighs base program highs → 1 ≤ line → line ≤ length program → paired_high_in places highs line ≡ paired_high_of base program line
  paired-by places highs line are own first last =
      ap (λ found. and_then (ok_or found NoPartner) (high_in highs)) next
      ∙ high-found highs section (line - 1) (length program - (line - 1)) (omega (arith, first, last)) own
    where
      section : ℕ
      section = section_number (section_at program line)

      at : (i : ℕ) → 1 ≤ i → i ≤ length program → get_or places (i - 1) no_place ≡ place_at base program i
      at i first last = ap (λ row. get_or row (i - 1) no_place) are ∙ at-line (place_at base program) (length program) i no_place first last

      count : length places ≡ length program
      count = ap length are ∙ length-for_lines (place_at base program) (length program)

      bytes : (i : ℕ) → line - 1 < i → i ≤ line - 1 + (length program - (line - 1)) → has_bytes_by places section i ≡ has_bytes_in program section i
      bytes i from to =
          ap (has_bytes_there section) (at i (omega (arith, from)) (omega (arith, to, first, last)))

      next : first_line (has_bytes_by places (section_in places line)) (line - 1) (length places - (line - 1)) ≡ first_line (has_bytes_in program section) (line - 1) (length program - (line - 1))
      next =
          (λ j. first_line (has_bytes_by places (section_number (at line first last j).section)) (line - 1) (count j - (line - 1)))
          ∙ first_line-same (has_bytes_by places section) (has_bytes_in program section) (line - 1) (length program - (line - 1)) bytes

  pub highs-paired : (places : List LinePlace) (highs row : List Entry) → ArePlaces base program places → AreOwnHighs base program highs → length row ≡ length places → ((k : ℕ) → k < length places → high_in row (suc k) ≡ paired_high_in places highs (suc k)) → AreHighs base program row
  highs-paired places highs row are own many paired = record {
    each = λ k below.
        ap (λ n. get_or row n (Err NoPartner)) (let e : k ≡ suc k - 1 = omega arith in e)
        ∙ paired k (omega (arith, below, count))
        ∙ paired-by places highs (suc k) are own (omega arith) (omega (arith, below));
    within = omega (arith, many, count);
  }
    where
      count : length places ≡ length program
      count = ap length are ∙ length-for_lines (place_at base program) (length program)

  -- no line has a high half
  none-found : (section i count : ℕ) → i + count ≤ length program → ((k : ℕ) → k < length program → own_high_of base program (suc k) ≡ Err NoPartner) → high_at_line base program (first_line (has_bytes_in program section) i count) ≡ Err NoPartner
  none-found section i zero within none = refl
  none-found section i (suc count) within none = at (has_bytes_in program section (suc i)) refl (none-found section (suc i) count (omega (arith, within)) none)
    where
      later : Option ℕ
      later = first_line (has_bytes_in program section) (suc i) count

      at : (b : Bool) → has_bytes_in program section (suc i) ≡ b → high_at_line base program later ≡ Err NoPartner → high_at_line base program (if b then Some (suc i) else later) ≡ Err NoPartner
      at true bytes rest =
          sym (own-is base program (suc i) (not-true (size_at program (suc i) == 0) (and_parts (section_number (section_at program (suc i)) == section) (not (size_at program (suc i) == 0)) bytes).1))
          ∙ none i (omega (arith, within))
      at false bytes rest = rest

  pub highs-nothing : (row : List Entry) → length row ≡ 0 → AreOwnHighs base program row → AreHighs base program row
  highs-nothing row empty own = record {
    each = λ k below.
        get_or_past row k (Err NoPartner) (omega (arith, empty))
        ∙ sym (none-found (section_number (section_at program (suc k))) (suc k - 1) (length program - (suc k - 1)) (omega (arith, below))
        (λ n within. sym (own.each n within) ∙ get_or_past row n (Err NoPartner) (omega (arith, empty))));
    within = omega (arith, empty);
  }
