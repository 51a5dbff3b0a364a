-- Rows of local labels, which are sorted by their numbers.
use Rattle.std.proofs.Common.{◌≡◌, ℕ, zero, suc, ◌+◌, ◌<◌, ◌≤◌, ◌==◌, min, Bool, true, false, List, [], ◌∷◌, ◌++◌, length, get_or, slice_get, set, is_some, Some, None, if◌then◌else◌, ◌⊎◌, inl, inr, true≢false, arith, ap, sym, ◌∙◌, refl, subst}
use Rattle.std.specs.Prelude.{insert}
use Rattle.std.specs.List.Sorted.{IsNonDecreasingBy}
use Rattle.std.specs.Option.{unwrap_or}
use Rattle.std.proofs.lemmas.Bool.{cases_lt, eq-eqb, ne_eqb, eqb-true, eqb-false, ltb-true, ltb-false, false≢true}
use Rattle.std.proofs.lemmas.List.{get_or-set_same, length-set}
use Rattle.rv_program.specs.declared.local_row.LocalRow.{LocalRow}
use Rattle.rv_program.specs.internal.Locals.{AreFrom, AreWithin, ArePartedBefore, IsRowOf, is_row_of, lines_with}
use Rattle.rv_program.specs.internal.MovedLocals.{first_number, rows_behind}

-- Rows from a number on

pub from-later : (first next : ℕ) (rows : List LocalRow) → next ≤ first → AreFrom first rows → AreFrom next rows
from-later first next [] up are = tt
from-later first next (row ∷ rows) up are = (omega (arith, up, are.0), are.1)

from-each : (first : ℕ) (rows : List LocalRow) (k : ℕ) (other : LocalRow) → AreFrom first rows → k < length rows → first ≤ (get_or rows k other).number
from-each first [] k other are within = absurd (let no : k < 0 = within in omega (arith, no))
from-each first (row ∷ rows) zero other are within = are.0
from-each first (row ∷ rows) (suc k) other are within =
    let later = from-each (row.number + 1) rows k other are.1 (omega (arith, within)) in
    omega (arith, later, are.0)

-- the order that a binary search asks for
pub from-order : (first : ℕ) (rows : List LocalRow) → AreFrom first rows → IsNonDecreasingBy (λ r. r.number) rows
from-order first [] are i j other up within = absurd (let no : j < 0 = within in omega (arith, no))
from-order first (row ∷ rows) are zero zero other up within = omega arith
from-order first (row ∷ rows) are zero (suc j) other up within =
    let later = from-each (row.number + 1) rows j other are.1 (omega (arith, within)) in
    omega (arith, later)
from-order first (row ∷ rows) are (suc i) zero other up within = absurd (omega (arith, up))
from-order first (row ∷ rows) are (suc i) (suc j) other up within =
    from-order (row.number + 1) rows are.1 i j other (omega (arith, up)) (omega (arith, within))

-- none is of a lesser number
pub none-below : (first number : ℕ) (rows : List LocalRow) → number < first → AreFrom first rows → lines_with rows number ≡ []
none-below first number [] below are = refl
none-below first number (row ∷ rows) below are =
    rw (ne_eqb row.number number (λ e. omega (arith, below, are.0, e)))
    (none-below (row.number + 1) number rows (omega (arith, below, are.0)) are.1)

-- a row tells the lines of its number
pub lines-at : (first : ℕ) (rows : List LocalRow) (place number : ℕ) (other : LocalRow) → AreFrom first rows → IsRowOf number rows place → lines_with rows number ≡ (get_or rows place other).lines
lines-at first [] place number other are of = absurd (let no : place < 0 = of.within in omega (arith, no))
lines-at first (row ∷ rows) zero number other are of = rw (eq-eqb row.number number (of.same other)) refl
lines-at first (row ∷ rows) (suc k) number other are of =
    let within : k < length rows = omega (arith, of.within) in
    let later = from-each (row.number + 1) rows k other are.1 within in
    let same : (get_or rows k other).number ≡ number = of.same other in
    rw (ne_eqb row.number number (λ e. omega (arith, later, same, e)))
    (lines-at (row.number + 1) rows k number other are.1 (record { within = within; same = of.same }))

-- Where a search for a number ends

pub row-of : (rows : List LocalRow) (place number : ℕ) → is_row_of number (slice_get rows place) ≡ true → IsRowOf number rows place
row-of [] place number is = absurd (false≢true is)
row-of (row ∷ rows) zero number is = record { within = omega arith; same = λ other. eqb-true row.number number is }
row-of (row ∷ rows) (suc k) number is =
    let later = row-of rows k number is in
    record { within = omega (arith, later.within); same = later.same }

tail-parted : (number : ℕ) (row : LocalRow) (rows : List LocalRow) (k : ℕ) → ArePartedBefore number (row ∷ rows) (suc k) → ArePartedBefore number rows k
tail-parted number row rows k p = (
  λ j d l m. p.0 (suc j) d (omega arith) (omega (arith, m)),
  λ j d l m. p.1 (suc j) d (omega (arith, l)) (omega (arith, m)),
)

next : (a b : ℕ) → b ≤ a → (a ≡ b → ⊥) → b + 1 ≤ a
next a b up apart = by (cases_lt b a)
  where
    by : (b < a) ⊎ (a ≤ b) → b + 1 ≤ a
    by (inl more) = omega (arith, more)
    by (inr less) = absurd (apart (omega (arith, up, less)))

-- the row there is of a greater number, where it is not of this one
above : (first number : ℕ) (row : LocalRow) (rows : List LocalRow) → AreFrom first (row ∷ rows) → ArePartedBefore number (row ∷ rows) 0 → (row.number == number) ≡ false → AreFrom (number + 1) (row ∷ rows)
above first number row rows are p other =
    (next row.number number (ltb-false row.number number (p.1 zero row (omega arith) (omega arith))) (eqb-false row.number number other), are.1)

pub none-at : (first number : ℕ) (rows : List LocalRow) (place : ℕ) → AreFrom first rows → ArePartedBefore number rows place → is_row_of number (slice_get rows place) ≡ false → lines_with rows number ≡ []
none-at first number [] place are p other = refl
none-at first number (row ∷ rows) zero are p other =
    none-below (number + 1) number (row ∷ rows) (omega arith) (above first number row rows are p other)
none-at first number (row ∷ rows) (suc k) are p other =
    let below = ltb-true row.number number (p.0 zero row (omega arith) (omega arith)) in
    rw (ne_eqb row.number number (λ e. omega (arith, below, e)))
    (none-at (row.number + 1) number rows k are.1 (tail-parted number row rows k p) other)

-- A new row, which is empty

pub insert-from : (first number : ℕ) (rows : List LocalRow) (place : ℕ) (row : LocalRow) → row.number ≡ number → first ≤ number → place ≤ length rows → AreFrom first rows → ArePartedBefore number rows place → is_row_of number (slice_get rows place) ≡ false → AreFrom first (insert rows place row)
insert-from first number [] zero row of low within are p other = (omega (arith, of, low), tt)
insert-from first number [] (suc k) row of low within are p other = absurd (let no : suc k ≤ 0 = within in omega (arith, no))
insert-from first number (old ∷ rows) zero row of low within are p other =
    (omega (arith, of, low), subst (λ n. AreFrom (n + 1) (old ∷ rows)) (sym of) (above first number old rows are p other))
insert-from first number (old ∷ rows) (suc k) row of low within are p other =
    let below = ltb-true old.number number (p.0 zero old (omega arith) (omega arith)) in
    (are.0, insert-from (old.number + 1) number rows k row of (omega (arith, below)) (omega (arith, within)) are.1 (tail-parted number old rows k p) other)

pub insert-lines : (first number : ℕ) (rows : List LocalRow) (place : ℕ) (row : LocalRow) → row.number ≡ number → row.lines ≡ [] → place ≤ length rows → AreFrom first rows → ArePartedBefore number rows place → is_row_of number (slice_get rows place) ≡ false → (n : ℕ) → lines_with (insert rows place row) n ≡ lines_with rows n
insert-lines first number rows zero row of empty within are p other n = at (row.number == n) refl
  where
    at : (b : Bool) → (row.number == n) ≡ b → (if b then row.lines else lines_with rows n) ≡ lines_with rows n
    at true is =
        empty ∙ sym (ap (lines_with rows) (sym (eqb-true row.number n is) ∙ of) ∙ none-at first number rows zero are p other)
    at false is = refl
insert-lines first number [] (suc k) row of empty within are p other n = absurd (let no : suc k ≤ 0 = within in omega (arith, no))
insert-lines first number (old ∷ rows) (suc k) row of empty within are p other n =
    ap (λ ls. if old.number == n then old.lines else ls)
    (insert-lines (old.number + 1) number rows k row of empty (omega (arith, within)) are.1 (tail-parted number old rows k p) other n)

-- Another row in the place of that of its number

pub set-lines : (rows : List LocalRow) (place : ℕ) (row : LocalRow) → IsRowOf row.number rows place → (n : ℕ) (Is : List ℕ → Type 0) → (n ≡ row.number → Is row.lines) → Is (lines_with rows n) → Is (lines_with (set rows place row) n)
set-lines [] place row of n Is here stood = absurd (let no : place < 0 = of.within in omega (arith, no))
set-lines (old ∷ rows) zero row of n Is here stood = at (row.number == n) refl
  where
    at : (b : Bool) → (row.number == n) ≡ b → Is (if b then row.lines else lines_with rows n)
    at true is = here (sym (eqb-true row.number n is))
    at false is = subst (λ c. Is (if c then old.lines else lines_with rows n)) (ap (λ m. m == n) (of.same old) ∙ is) stood
set-lines (old ∷ rows) (suc k) row of n Is here stood =
    at (old.number == n) (set-lines rows k row (record { within = omega (arith, of.within); same = of.same }) n Is here) stood
  where
    at : (b : Bool) → (Is (lines_with rows n) → Is (lines_with (set rows k row) n)) → Is (if b then old.lines else lines_with rows n) → Is (if b then old.lines else lines_with (set rows k row) n)
    at true later is = is
    at false later is = later is

pub set-from : (first : ℕ) (rows : List LocalRow) (place : ℕ) (row : LocalRow) → IsRowOf row.number rows place → AreFrom first rows → AreFrom first (set rows place row)
set-from first [] place row of are = absurd (let no : place < 0 = of.within in omega (arith, no))
set-from first (old ∷ rows) zero row of are =
    let same : old.number ≡ row.number = of.same old in
    (omega (arith, are.0, same), subst (λ n. AreFrom (n + 1) rows) same are.1)
set-from first (old ∷ rows) (suc k) row of are =
    (are.0, set-from (old.number + 1) rows k row (record { within = omega (arith, of.within); same = of.same }) are.1)

pub set-here : (rows : List LocalRow) (place : ℕ) (row : LocalRow) → IsRowOf row.number rows place → AreFrom 0 rows → lines_with (set rows place row) row.number ≡ row.lines
set-here rows place row of are =
    let stands : (other : LocalRow) → get_or (set rows place row) place other ≡ row = λ other. get_or-set_same rows place row other of.within in
    lines-at 0 (set rows place row) place row.number row (set-from 0 rows place row of are) (record {
      within = omega (arith, of.within, length-set rows place row);
      same = λ other. ap (λ r. r.number) (stands other);
    })
    ∙ ap (λ r. r.lines) (stands row)

-- what is so of the lines of each row
pub each-row : (rows : List LocalRow) (Is : List ℕ → Type 0) → Is [] → ((k : ℕ) (other : LocalRow) → k < length rows → Is (get_or rows k other).lines) → (n : ℕ) → Is (lines_with rows n)
each-row [] Is none each n = none
each-row (row ∷ rows) Is none each n =
    at (row.number == n) (each-row rows Is none (λ k other within. each (suc k) other (omega (arith, within))) n)
  where
    at : (b : Bool) → Is (lines_with rows n) → Is (if b then row.lines else lines_with rows n)
    at true later = each zero row (omega arith)
    at false later = later

-- Rows that come one after another

pub within-from : (first end : ℕ) (rows : List LocalRow) → AreWithin first end rows → AreFrom first rows
within-from first end [] are = tt
within-from first end (row ∷ rows) are = (are.0, within-from (row.number + 1) end rows are.1)

within-end : (first end : ℕ) (rows : List LocalRow) → AreWithin first end rows → first ≤ end
within-end first end [] are = are
within-end first end (row ∷ rows) are =
    let later = within-end (row.number + 1) end rows are.1 in
    omega (arith, are.0, later)

pub within-more : (first end more : ℕ) (rows : List LocalRow) → end ≤ more → AreWithin first end rows → AreWithin first more rows
within-more first end more [] up are = omega (arith, up, are)
within-more first end more (row ∷ rows) up are = (are.0, within-more (row.number + 1) end more rows up are.1)

pub within-none : (first end number : ℕ) (rows : List LocalRow) → end ≤ number → AreWithin first end rows → lines_with rows number ≡ []
within-none first end number [] behind are = refl
within-none first end number (row ∷ rows) behind are =
    let later = within-end (row.number + 1) end rows are.1 in
    rw (ne_eqb row.number number (λ e. omega (arith, later, behind, e))) (within-none (row.number + 1) end number rows behind are.1)

pub push-within : (first : ℕ) (rows : List LocalRow) (row : LocalRow) → AreWithin first row.number rows → AreWithin first (row.number + 1) (rows ++ row ∷ [])
push-within first [] row are = (are, omega arith)
push-within first (old ∷ rows) row are = (are.0, push-within (old.number + 1) rows row are.1)

pub push-lines : (first : ℕ) (rows : List LocalRow) (row : LocalRow) → AreWithin first row.number rows → (n : ℕ) → lines_with (rows ++ row ∷ []) n ≡ (if row.number == n then row.lines else lines_with rows n)
push-lines first [] row are n = refl
push-lines first (old ∷ rows) row are n = at (old.number == n) refl (push-lines (old.number + 1) rows row are.1 n)
  where
    at : (b : Bool) → (old.number == n) ≡ b → lines_with (rows ++ row ∷ []) n ≡ (if row.number == n then row.lines else lines_with rows n) → (if b then old.lines else lines_with (rows ++ row ∷ []) n) ≡ (if row.number == n then row.lines else (if b then old.lines else lines_with rows n))
    at true is rest =
        let later = within-end (old.number + 1) row.number rows are.1 in
        let same = eqb-true old.number n is in
        rw (ne_eqb row.number n (λ e. omega (arith, later, same, e))) refl
    at false is rest = rest

-- no lines, as the row of a number
pub none-pushed : (number : ℕ) (rows : List LocalRow) (lines : List ℕ) → (length lines == 0) ≡ true → AreWithin 0 number rows → (n : ℕ) → lines_with rows n ≡ (if number == n then lines else lines_with rows n)
none-pushed number rows lines none are n = at (number == n) refl
  where
    empty : (ls : List ℕ) → (length ls == 0) ≡ true → [] ≡ ls
    empty [] is = refl
    empty (l ∷ ls) is = let no : suc (length ls) ≡ 0 = eqb-true (suc (length ls)) 0 is in absurd (omega (arith, no))

    at : (b : Bool) → (number == n) ≡ b → lines_with rows n ≡ (if b then lines else lines_with rows n)
    at true is = within-none 0 number n rows (let e = eqb-true number n is in omega (arith, e)) are ∙ empty lines none
    at false is = refl

-- Rows of two lists, the lesser number first

-- none is of the number, where the first one is not
pub first-apart : (number : ℕ) (rows : List LocalRow) (row : LocalRow) → 1 ≤ length rows → row ≡ get_or rows 0 row → (row.number ≡ number → ⊥) → AreFrom number rows → [] ≡ lines_with rows number
first-apart number [] row some is apart are = refl
first-apart number (first ∷ rows) row some is apart are =
    let e : row.number ≡ first.number = ap (λ r. r.number) is in
    sym (none-below (number + 1) number (first ∷ rows) (omega arith) (next first.number number are.0 (λ same. apart (e ∙ same)), are.1))

pub behind-from : (number : ℕ) (rows : List LocalRow) → AreFrom number rows → AreFrom (number + 1) (rows_behind number rows)
behind-from number [] are = tt
behind-from number (row ∷ rows) are = at (row.number == number) refl
  where
    at : (b : Bool) → (row.number == number) ≡ b → AreFrom (number + 1) (if b then rows else row ∷ rows)
    at true is = subst (λ n. AreFrom (n + 1) rows) (eqb-true row.number number is) are.1
    at false is = (next row.number number are.0 (eqb-false row.number number is), are.1)

pub behind-here : (number : ℕ) (rows : List LocalRow) → AreFrom number rows → lines_with (rows_behind number rows) number ≡ []
behind-here number rows are = none-below (number + 1) number (rows_behind number rows) (omega arith) (behind-from number rows are)

pub behind-other : (number n : ℕ) (rows : List LocalRow) → (number == n) ≡ false → lines_with (rows_behind number rows) n ≡ lines_with rows n
behind-other number n [] apart = refl
behind-other number n (row ∷ rows) apart = at (row.number == number) refl
  where
    at : (b : Bool) → (row.number == number) ≡ b → lines_with (if b then rows else row ∷ rows) n ≡ (if row.number == n then row.lines else lines_with rows n)
    at true is = rw (ap (λ m. m == n) (eqb-true row.number number is) ∙ apart) refl
    at false is = refl

no-number : (n : ℕ) → Some n ≡ None → ⊥
no-number n is = true≢false (ap is_some is)

pub first-none : (others rows : List LocalRow) → first_number others rows ≡ None → (others ≡ []) × (rows ≡ [])
first-none [] [] is = (refl, refl)
first-none [] (row ∷ rows) is = absurd (no-number row.number is)
first-none (other ∷ others) [] is = absurd (no-number other.number is)
first-none (other ∷ others) (row ∷ rows) is = absurd (no-number (min other.number row.number) is)

pub first-from : (next number : ℕ) (others rows : List LocalRow) → first_number others rows ≡ Some number → AreFrom next others → AreFrom next rows → (next ≤ number) × (AreFrom number others × AreFrom number rows)
first-from next number [] [] is from from' = absurd (no-number number (sym is))
first-from next number [] (row ∷ rows) is from from' =
    let e : row.number ≡ number = ap (λ o. unwrap_or o 0) is in
    (omega (arith, from'.0, e), (tt, (omega (arith, e), from'.1)))
first-from next number (other ∷ others) [] is from from' =
    let e : other.number ≡ number = ap (λ o. unwrap_or o 0) is in
    (omega (arith, from.0, e), ((omega (arith, e), from.1), tt))
first-from next number (other ∷ others) (row ∷ rows) is from from' =
    let e : min other.number row.number ≡ number = ap (λ o. unwrap_or o 0) is in
    (omega (arith, from.0, from'.0, e), ((omega (arith, e), from.1), (omega (arith, e), from'.1)))

pub behind-shorter : (number : ℕ) (others rows : List LocalRow) → first_number others rows ≡ Some number → length (rows_behind number others) + length (rows_behind number rows) < length others + length rows
behind-shorter number [] [] is = absurd (no-number number (sym is))
behind-shorter number [] (row ∷ rows) is =
    let e : row.number ≡ number = ap (λ o. unwrap_or o 0) is in
    rw (eq-eqb row.number number e) (omega arith)
behind-shorter number (other ∷ others) [] is =
    let e : other.number ≡ number = ap (λ o. unwrap_or o 0) is in
    rw (eq-eqb other.number number e) (omega arith)
behind-shorter number (other ∷ others) (row ∷ rows) is = by (cases_lt other.number (row.number + 1))
  where
    e : min other.number row.number ≡ number
    e = ap (λ o. unwrap_or o 0) is

    no-longer : (ls : List LocalRow) → length (rows_behind number ls) ≤ length ls
    no-longer [] = omega arith
    no-longer (l ∷ ls) = at (l.number == number)
      where
        at : (b : Bool) → length (if b then ls else l ∷ ls) ≤ suc (length ls)
        at true = omega arith
        at false = omega arith

    by : (other.number < row.number + 1) ⊎ (row.number + 1 ≤ other.number) → length (rows_behind number (other ∷ others)) + length (rows_behind number (row ∷ rows)) < length (other ∷ others) + length (row ∷ rows)
    by (inl first) =
        let rest = no-longer (row ∷ rows) in
        rw (eq-eqb other.number number (omega (arith, e, first))) (omega (arith, rest))
    by (inr second) =
        let rest = no-longer (other ∷ others) in
        rw (eq-eqb row.number number (omega (arith, e, second))) (omega (arith, rest))
