-- The row of local labels: how it grows by a line, and that it tells the line of a local label.
use Rattle.std.proofs.Common.{◌≡◌, ℕ, zero, suc, ◌+◌, ◌-◌, nat_le, nat_lt, is_some, ◌<◌, ◌≤◌, Bool, true, false, List, [], ◌∷◌, ◌++◌, length, take, drop, get_or, slice_get, Option, Some, None, if◌then◌else◌, ◌⊎◌, inl, inr, arith, ap, sym, ◌∙◌, refl, subst}
use Rattle.std.specs.List.{AllWithin}
use Rattle.std.specs.List.Sorted.{IsNonDecreasing, IsPartitionPoint}
use Rattle.std.specs.Option.{option_or, unwrap_or}
use Rattle.std.proofs.lemmas.Bool.{le-leb, lt-leb, le-ltb, lt-ltb, ltb-true, cases_lt, true≢false, or_parts, or_from}
use Rattle.std.proofs.lemmas.List.{append-nil, get_or-map, get_or-take, get_or-drop, length-take, length-drop}
use Rattle.std.proofs.lemmas.List.Elements.{filter-append}
use Rattle.std.proofs.lemmas.List.Sorted.{IsNonDecreasingBy-push}
use Rattle.std.proofs.lemmas.Option.{slice_get-get_or}
use Rattle.rv_expr.specs.declared.tree.Direction.{Direction}
use Rattle.rv_expr.specs.declared.tree.Direction.TheVariants.{Back, Forward}
use Rattle.rv_stmt.specs.LabelNames.{Label, LabelName}
use Rattle.rv_stmt.specs.LabelNames as label
use Rattle.rv_stmt.specs.Statement.{statement_of}
use Rattle.rv_program.specs.declared.local_row.LocalRow.{LocalRow}
use Rattle.rv_program.specs.internal.Locals.{AreParted, last_up_to, first_above, local_line_in, with_last, AreRising, is_local_label, has_local_labels, lines_below}
use Rattle.rv_program.specs.Program.{Program, program_of, lines_that, last_line, first_line, no_statement, statement_at}
use Rattle.rv_program.specs.References.{has_local, among_local, is_local, local_line}
use Rattle.rv_program.specs.internal.Rows.{AreLocals}

-- The statements of a text

pub statement-of-line : (lines : List (List ℕ)) (i : ℕ) (line : List ℕ) → i < length lines → line ≡ get_or lines i line → statement_at (program_of lines) (i + 1) ≡ statement_of line
statement-of-line lines i line l is =
    let same : i + 1 - 1 ≡ i = omega arith in
    ap (λ k. get_or (program_of lines) k no_statement) same ∙ get_or-map statement_of lines i line no_statement l ∙ ap statement_of (sym is)

-- a line behind this one is found
above-at : (xs : List ℕ) (line k : ℕ) → k < length xs → line < get_or xs k 0 → is_some (first_above line xs) ≡ true
above-at [] line k within up = absurd (let no : k < 0 = within in omega (arith, no))
above-at (x ∷ xs) line zero within up = rw (lt-leb x line up) refl
above-at (x ∷ xs) line (suc k) within up = at (nat_le x line) (above-at xs line k (omega (arith, within)) up)
  where
    at : (b : Bool) → is_some (first_above line xs) ≡ true → is_some (if b then first_above line xs else Some x) ≡ true
    at true found = found
    at false found = refl

-- so is one behind all lines before the last one
pub above-last : (xs : List ℕ) (line : ℕ) → line < unwrap_or (slice_get xs (length xs - 1)) 0 → is_some (first_above line xs) ≡ true
above-last [] line up = absurd (let no : line < 0 = up in omega (arith, no))
above-last (x ∷ xs) line up =
    let is = slice_get-get_or (x ∷ xs) (length (x ∷ xs) - 1) 0 (omega arith) in
    above-at (x ∷ xs) line (length (x ∷ xs) - 1) (omega arith) (subst (λ o. line < unwrap_or o 0) is up)

-- Where a binary search parts the lines

-- those before a line are the first ones
pub below-parted : (line : ℕ) (xs : List ℕ) (i : ℕ) → IsPartitionPoint (λ l. nat_lt l line ≡ true) (λ l. nat_lt l line ≡ false) xs i → take i xs ≡ lines_below line xs
below-parted line [] zero p = refl
below-parted line [] (suc i) p = refl
below-parted line (x ∷ xs) zero p =
    rw (p.1 zero 0 (omega arith) (omega arith))
    (below-parted line xs zero ((λ k d l m. absurd (omega (arith, m))), λ k d l m. p.1 (suc k) d (omega arith) (omega (arith, m))))
below-parted line (x ∷ xs) (suc i) p =
    rw (p.0 zero 0 (omega arith) (omega arith))
    (ap (λ ls. x ∷ ls) (below-parted line xs i ((λ k d l m. p.0 (suc k) d (omega arith) (omega (arith, m))), λ k d l m. p.1 (suc k) d (omega (arith, l)) (omega (arith, m)))))

-- and stay where it is put behind them
pub below-below : (line : ℕ) (xs : List ℕ) → lines_below line (lines_below line xs) ≡ lines_below line xs
below-below line [] = refl
below-below line (x ∷ xs) = at (nat_lt x line) refl (below-below line xs)
  where
    at : (b : Bool) → nat_lt x line ≡ b → lines_below line (lines_below line xs) ≡ lines_below line xs → lines_below line (if b then x ∷ lines_below line xs else lines_below line xs) ≡ (if b then x ∷ lines_below line xs else lines_below line xs)
    at true is rest = rw is (ap (λ ls. x ∷ ls) rest)
    at false is rest = rest

pub below-pushed : (line : ℕ) (xs : List ℕ) → lines_below line (xs ++ line ∷ []) ≡ lines_below line xs
below-pushed line [] = rw (le-ltb line line (omega arith)) refl
below-pushed line (x ∷ xs) = ap (λ ls. if nat_lt x line then x ∷ ls else ls) (below-pushed line xs)

pub below-last : (line : ℕ) (labelled : Bool) (xs : List ℕ) → lines_below line (with_last line labelled xs) ≡ lines_below line xs
below-last line true xs = below-pushed line (lines_below line xs) ∙ below-below line xs
below-last line false xs = refl

below-each : (line : ℕ) (xs : List ℕ) (k d : ℕ) → k < length (lines_below line xs) → get_or (lines_below line xs) k d < line
below-each line [] k d within = absurd (let no : k < 0 = within in omega (arith, no))
below-each line (x ∷ xs) k d within = at (nat_lt x line) refl k within (below-each line xs)
  where
    at : (b : Bool) → nat_lt x line ≡ b → (k : ℕ) → k < length (if b then x ∷ lines_below line xs else lines_below line xs) → ((k d : ℕ) → k < length (lines_below line xs) → get_or (lines_below line xs) k d < line) → get_or (if b then x ∷ lines_below line xs else lines_below line xs) k d < line
    at true is zero within rest = ltb-true x line is
    at true is (suc k) within rest = rest k d (omega (arith, within))
    at false is k within rest = rest k d within

-- the line behind them keeps their order
pub rising-pushed : (line : ℕ) (xs : List ℕ) → IsNonDecreasing (lines_below line xs) → IsNonDecreasing (lines_below line xs ++ line ∷ [])
rising-pushed line xs up =
    IsNonDecreasingBy-push (λ x. x) (lines_below line xs) line up (λ d some. let last = below-each line xs (length (lines_below line xs) - 1) d (omega (arith, some)) in omega (arith, last))

below-kept : (b : Bool) (line l : ℕ) → l < line → lines_below line (if b then l ∷ [] else []) ≡ (if b then l ∷ [] else [])
below-kept true line l before = ap (λ c. if c then l ∷ [] else []) (lt-ltb l line before)
below-kept false line l before = refl

-- all lines are before one behind them
pub first-below : (test : ℕ → Bool) (line n : ℕ) → n < line → lines_below line (lines_that test n) ≡ lines_that test n
first-below test line zero within = refl
first-below test line (suc n) within =
    filter-append (λ l. nat_lt l line) (lines_that test n) (if test (suc n) then suc n ∷ [] else [])
    ∙ ap (λ ls. ls ++ lines_below line (if test (suc n) then suc n ∷ [] else [])) (first-below test line n (omega (arith, within)))
    ∙ ap (λ ls. lines_that test n ++ ls) (below-kept (test (suc n)) line (suc n) within)

tail-AreParted : (line x : ℕ) (xs : List ℕ) (i : ℕ) → AreParted line (x ∷ xs) (suc i) → AreParted line xs i
tail-AreParted line x xs i p = (
  λ k d l m. p.0 (suc k) d (omega arith) (omega (arith, m)),
  λ k d l m. p.1 (suc k) d (omega (arith, l)) (omega (arith, m)),
)

pub above-parted : (line : ℕ) (xs : List ℕ) (i : ℕ) → i ≤ length xs → AreParted line xs i → slice_get (drop i xs) 0 ≡ first_above line xs
above-parted line [] zero l p = refl
above-parted line [] (suc i) l p = absurd (let no : suc i ≤ 0 = l in omega (arith, no))
above-parted line (x ∷ xs) zero l p = rw (p.1 zero 0 (omega arith) (omega arith)) refl
above-parted line (x ∷ xs) (suc i) l p =
    rw (p.0 zero 0 (omega arith) (omega arith)) (above-parted line xs i (omega (arith, l)) (tail-AreParted line x xs i p))

-- where the lines before a part are this one or earlier ones, and those behind it are not, it tells where all are parted
pub parted-between : (line low high count : ℕ) (xs : List ℕ) → low ≤ high → high ≤ length xs → AllWithin (λ l. nat_le l line ≡ true) xs 0 low → AllWithin (λ l. nat_le l line ≡ false) xs high (length xs) → count ≤ high - low → AreParted line (take (high - low) (drop low xs)) count → AreParted line xs (low + count)
parted-between line low high count xs order within first last few parted = (
  λ k d from below. at-first k d below (cases_lt k low),
  λ k d from below. at-last k d from below (cases_lt k high),
)
  where
    long : length (take (high - low) (drop low xs)) ≡ high - low
    long = let all = length-take (high - low) (drop low xs) in let rest = length-drop low xs in omega (arith, all, rest, order, within)

    stands : (k d : ℕ) → low ≤ k → k < high → get_or (take (high - low) (drop low xs)) (k - low) d ≡ get_or xs k d
    stands k d from below =
        get_or-take (high - low) (drop low xs) (k - low) d (omega (arith, from, below))
        ∙ get_or-drop low xs (k - low) d
        ∙ ap (λ n. get_or xs n d) (let e : low + (k - low) ≡ k = omega (arith, from) in e)

    at-first : (k d : ℕ) → k < low + count → (k < low) ⊎ (low ≤ k) → nat_le (get_or xs k d) line ≡ true
    at-first k d below (inl before) = first k d (omega arith) before
    at-first k d below (inr from) =
        ap (λ l. nat_le l line) (sym (stands k d from (omega (arith, below, few, from, order))))
        ∙ parted.0 (k - low) d (omega arith) (omega (arith, below, from))

    at-last : (k d : ℕ) → low + count ≤ k → k < length xs → (k < high) ⊎ (high ≤ k) → nat_le (get_or xs k d) line ≡ false
    at-last k d from below (inl before) =
        ap (λ l. nat_le l line) (sym (stands k d (omega (arith, from)) before))
        ∙ parted.1 (k - low) d (omega (arith, from)) (omega (arith, before, from, long))
    at-last k d from below (inr behind) = last k d behind below

less-one : (n : ℕ) → suc n - 1 ≡ n
less-one n = omega arith

last-cons : (x : ℕ) (ys : List ℕ) → slice_get (x ∷ ys) (length ys) ≡ option_or (slice_get ys (length ys - 1)) (Some x)
last-cons x [] = refl
last-cons x (y ∷ ys) =
    let e = slice_get-get_or (y ∷ ys) (length ys) 0 (omega arith) in
    e ∙ ap (λ o. option_or o (Some x)) (sym e) ∙ ap (λ k. option_or (slice_get (y ∷ ys) k) (Some x)) (sym (less-one (length ys)))

all-above : (line : ℕ) (xs : List ℕ) → AreParted line xs 0 → last_up_to line xs ≡ None
all-above line [] p = refl
all-above line (x ∷ xs) p =
    let up : AreParted line xs 0 = ((λ k d l m. absurd (omega (arith, m))), λ k d l m. p.1 (suc k) d (omega arith) (omega (arith, m))) in
    rw (p.1 zero 0 (omega arith) (omega arith)) (ap (λ o. option_or o None) (all-above line xs up))

pub up_to-parted : (line : ℕ) (xs : List ℕ) (i : ℕ) → i ≤ length xs → AreParted line xs i → slice_get (take i xs) (length (take i xs) - 1) ≡ last_up_to line xs
up_to-parted line xs zero l p = sym (all-above line xs p)
up_to-parted line [] (suc i) l p = refl
up_to-parted line (x ∷ xs) (suc i) l p =
    rw (p.0 zero 0 (omega arith) (omega arith))
    (ap (slice_get (x ∷ take i xs)) (less-one (length (take i xs))) ∙ last-cons x (take i xs) ∙ ap (λ o. option_or o (Some x)) (up_to-parted line xs i (omega (arith, l)) (tail-AreParted line x xs i p)))

-- The lines that pass a test

first_above-append : (line : ℕ) (xs ys : List ℕ) → first_above line (xs ++ ys) ≡ option_or (first_above line xs) (first_above line ys)
first_above-append line [] ys = refl
first_above-append line (x ∷ xs) ys = by (nat_le x line) (first_above-append line xs ys)
  where
    by : (b : Bool) → first_above line (xs ++ ys) ≡ option_or (first_above line xs) (first_above line ys) → (if b then first_above line (xs ++ ys) else Some x) ≡ option_or (if b then first_above line xs else Some x) (first_above line ys)
    by true e = e
    by false e = refl

last_up_to-append : (line : ℕ) (xs ys : List ℕ) → last_up_to line (xs ++ ys) ≡ option_or (last_up_to line ys) (last_up_to line xs)
last_up_to-append line [] ys = or-none (last_up_to line ys)
  where
    or-none : (o : Option ℕ) → o ≡ option_or o None
    or-none None = refl
    or-none (Some x) = refl
last_up_to-append line (x ∷ xs) ys =
    ap (λ o. option_or o (if nat_le x line then Some x else None)) (last_up_to-append line xs ys)
    ∙ or-assoc (last_up_to line ys) (last_up_to line xs) (if nat_le x line then Some x else None)
  where
    or-assoc : (o p q : Option ℕ) → option_or (option_or o p) q ≡ option_or o (option_or p q)
    or-assoc None p q = refl
    or-assoc (Some x) p q = refl

-- one line more, which passes or not
one-up_to : (b : Bool) (line x : ℕ) → x ≤ line → last_up_to line (if b then x ∷ [] else []) ≡ (if b then Some x else None)
one-up_to true line x l = rw (le-leb x line l) refl
one-up_to false line x l = refl

one-beyond : (b : Bool) (line x : ℕ) → line < x → last_up_to line (if b then x ∷ [] else []) ≡ None
one-beyond true line x l = rw (lt-leb x line l) refl
one-beyond false line x l = refl

one-above : (b : Bool) (line x : ℕ) → line < x → first_above line (if b then x ∷ [] else []) ≡ (if b then Some x else None)
one-above true line x l = rw (lt-leb x line l) refl
one-above false line x l = refl

one-passed : (b : Bool) (line x : ℕ) → x ≤ line → first_above line (if b then x ∷ [] else []) ≡ None
one-passed true line x l = rw (le-leb x line l) refl
one-passed false line x l = refl

or-if : (b : Bool) (x : ℕ) (o : Option ℕ) → option_or (if b then Some x else None) o ≡ (if b then Some x else o)
or-if true x o = refl
or-if false x o = refl

last-of-all : (test : ℕ → Bool) (n line : ℕ) → n ≤ line → last_up_to line (lines_that test n) ≡ last_line test n
last-of-all test zero line l = refl
last-of-all test (suc n) line l =
    last_up_to-append line (lines_that test n) (if test (suc n) then suc n ∷ [] else [])
    ∙ ap (λ o. option_or o (last_up_to line (lines_that test n))) (one-up_to (test (suc n)) line (suc n) l)
    ∙ or-if (test (suc n)) (suc n) (last_up_to line (lines_that test n))
    ∙ ap (λ o. if test (suc n) then Some (suc n) else o) (last-of-all test n line (omega (arith, l)))

last-of-lines : (test : ℕ → Bool) (n line : ℕ) → line ≤ n → last_up_to line (lines_that test n) ≡ last_line test line
last-of-lines test zero zero l = refl
last-of-lines test zero (suc line) l = absurd (let no : suc line ≤ 0 = l in omega (arith, no))
last-of-lines test (suc n) line l = at (cases_lt line (suc n)) (last-of-lines test n line)
  where
    at : (line < suc n) ⊎ (suc n ≤ line) → (line ≤ n → last_up_to line (lines_that test n) ≡ last_line test line) → last_up_to line (lines_that test (suc n)) ≡ last_line test line
    at (inl m) before =
        last_up_to-append line (lines_that test n) (if test (suc n) then suc n ∷ [] else [])
        ∙ ap (λ o. option_or o (last_up_to line (lines_that test n))) (one-beyond (test (suc n)) line (suc n) m)
        ∙ before (omega (arith, m))
    at (inr m) before =
        let same : suc n ≡ line = omega (arith, l, m) in
        last-of-all test (suc n) line m ∙ ap (last_line test) same

none-above : (test : ℕ → Bool) (n line : ℕ) → n ≤ line → first_above line (lines_that test n) ≡ None
none-above test zero line l = refl
none-above test (suc n) line l =
    first_above-append line (lines_that test n) (if test (suc n) then suc n ∷ [] else [])
    ∙ ap (λ o. option_or o (first_above line (if test (suc n) then suc n ∷ [] else []))) (none-above test n line (omega (arith, l)))
    ∙ one-passed (test (suc n)) line (suc n) l

-- one line more to look at
first_line-more : (test : ℕ → Bool) (i count : ℕ) → first_line test i (suc count) ≡ option_or (first_line test i count) (if test (suc (count + i)) then Some (suc (count + i)) else None)
first_line-more test i zero = ap (λ k. if test (suc k) then Some (suc k) else None) (let e : i ≡ 0 + i = omega arith in e)
first_line-more test i (suc count) =
    let e : count + suc i ≡ suc count + i = omega arith in
    ap (λ o. if test (suc i) then Some (suc i) else o)
    (first_line-more test (suc i) count ∙ ap (λ k. option_or (first_line test (suc i) count) (if test (suc k) then Some (suc k) else None)) e)
    ∙ sym (pull (test (suc i)) (suc i) (first_line test (suc i) count) (if test (suc (suc count + i)) then Some (suc (suc count + i)) else None))
  where
    pull : (b : Bool) (x : ℕ) (o p : Option ℕ) → option_or (if b then Some x else o) p ≡ (if b then Some x else option_or o p)
    pull true x o p = refl
    pull false x o p = refl

first-of-lines : (test : ℕ → Bool) (line count n : ℕ) → n ≡ count + line → first_above line (lines_that test n) ≡ first_line test line count
first-of-lines test line zero n e = none-above test n line (omega (arith, e))
first-of-lines test line (suc count) zero e = absurd (omega (arith, e))
first-of-lines test line (suc count) (suc n) e =
    let f : n ≡ count + line = omega (arith, e) in
    first_above-append line (lines_that test n) (if test (suc n) then suc n ∷ [] else [])
    ∙ ap (option_or (first_above line (lines_that test n))) (one-above (test (suc n)) line (suc n) (omega (arith, e)))
    ∙ ap (λ o. option_or o (if test (suc n) then Some (suc n) else None)) (first-of-lines test line count n f)
    ∙ ap (λ k. option_or (first_line test line count) (if test (suc k) then Some (suc k) else None)) f
    ∙ sym (first_line-more test line count)

-- the row of local labels tells the line of a label as each line of the text names it
pub local_line-row : (program : Program) (rows : List LocalRow) (line number : ℕ) (direction : Direction) → AreLocals program (length program) rows → line ≤ length program → local_line_in rows line number direction ≡ local_line program line number direction
local_line-row program rows line number Back are l =
    ap (last_up_to line) (are number) ∙ last-of-lines (has_local program number) (length program) line l
local_line-row program rows line number Forward are l =
    let e : length program ≡ length program - line + line = omega (arith, l) in
    ap (first_above line) (are number) ∙ first-of-lines (has_local program number) line (length program - line) (length program) e

-- The rows as they are made

-- a line without local labels
no-local : (k : ℕ) (name : LabelName) → is_local_label name ≡ false → is_local k name ≡ false
no-local k (label.Local number) other = absurd (true≢false other)
no-local k (label.Symbol symbol) other = refl

pub none-among : (k : ℕ) (ls : List Label) → has_local_labels ls ≡ false → among_local k ls ≡ false
none-among k [] none = refl
none-among k (l ∷ ls) none =
    let parts = or_parts (is_local_label l.name) (has_local_labels ls) none in
    or_from _ _ (no-local k l.name parts.0) (none-among k ls parts.1)

-- the lines that pass a test rise
lines-rising : (test : ℕ → Bool) (n : ℕ) → IsNonDecreasing (lines_that test n)
lines-rising test zero = λ i j d l m. absurd (let no : j < 0 = m in omega (arith, no))
lines-rising test (suc n) = at (test (suc n)) (lines-rising test n)
  where
    at : (b : Bool) → IsNonDecreasing (lines_that test n) → IsNonDecreasing (lines_that test n ++ (if b then suc n ∷ [] else []))
    at true up =
        let all = first-below test (suc n) n (omega arith) in
        subst (λ ls. IsNonDecreasing (ls ++ suc n ∷ [])) all (rising-pushed (suc n) (lines_that test n) (subst IsNonDecreasing (sym all) up))
    at false up = subst IsNonDecreasing (sym (append-nil (lines_that test n))) up

pub rows-AreRising : (program : Program) (k : ℕ) (rows : List LocalRow) → AreLocals program k rows → AreRising rows
rows-AreRising program k rows are number = subst IsNonDecreasing (sym (are number)) (lines-rising (has_local program number) k)
