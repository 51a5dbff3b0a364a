-- The first of many reports, written line by line.
use Rattle.std.proofs.Common.{◌≡◌, ℕ, zero, suc, ◌+◌, ◌-◌, ◌<◌, ◌≤◌, List, [], ◌∷◌, ◌++◌, length, map, take, min, Bool, true, false, true≢false, not, if◌then◌else◌, refl, ap, sym, ◌∙◌, arith}
use Rattle.std.proofs.lemmas.List.{append-nil, length-append, length-map, nil_from_length, length-take, take-map, take_min}
use Rattle.std.proofs.lemmas.List.Folds.{concat-append}
use Rattle.std.specs.List.{concat}
use Rattle.std.specs.Prelude.{Option, Some, None}
use Rattle.rv_text.specs.Streams.{after, WritesPrefix}
use Rattle.rv_text.specs.StreamLaws.{after_after, prefix_within}
use Rattle.rv_list.specs.Joined.{joined}
use Rattle.rv_list.specs.Shown.{Shown, ShownLine}
use Rattle.rv_show.specs.declared.page.Style.{Style}
use Rattle.rv_show.specs.Origins.{Source}
use Rattle.rv_show.specs.Totals.{last_rows}
use Rattle.rv_report.specs.Reports.{warning_report_of}
use Rattle.rv_report.specs.Words.{Words}
use Rattle.rv_report.specs.Warnings.{Warning, warning_of}
use Rattle.rv_store.specs.Shown.{shown_of}
use Rattle.rv_program.specs.Text.{Text}
use Rattle.rv_files.specs.declared.odd_addresses.Reported.{Reported}
use Rattle.rv_files.specs.OddAddresses.{reported_faults}
use Rattle.rv_files.specs.TextReports.{all_reports, all_warnings, asked_warnings, fault_count, line_reports, optional, own_report_of, report_count, text_reports, warning_count, warning_reports, warnings_about}
use Rattle.rv_files.specs.Words.{searched_words}
use Rattle.rv_files.proofs.OddAddresses.{as_many_reported, no_more_reports}
use Rattle.rv_list.specs.JoinedLaws.{Then, joined_more, joined_then}

-- the first of two lists one after the other
take_both : {A : Type 0} (n : ℕ) (xs ys : List A) → take n (xs ++ ys) ≡ take n xs ++ take (n - length xs) ys
take_both zero [] ys = refl
take_both {A} (suc n) [] ys =
    let all : suc n - 0 ≡ suc n = omega arith in
    rw all refl
take_both zero (x ∷ xs) ys =
    let none : zero - length (x ∷ xs) ≡ 0 = omega arith in
    rw none refl
take_both (suc n) (x ∷ xs) ys =
    let fewer : suc n - length (x ∷ xs) ≡ n - length xs = omega arith in
    rw fewer (ap (λ l. x ∷ l) (take_both n xs ys))

-- the first faults of a line
pub first_faults : {A : Type 0} (n : ℕ) (fs : List A) (first : List (Option A)) → first ≡ take n (map (λ f. Some f) fs) → first ≡ map (λ f. Some f) (take (length first) fs)
first_faults n fs first is =
    let some : first ≡ map (λ f. Some f) (take n fs) = is ∙ take-map (λ f. Some f) n fs in
    let count : length first ≡ min n (length fs) = ap length some ∙ length-map (take n fs) (λ f. Some f) ∙ length-take n fs in
    some ∙ ap (map (λ f. Some f)) (sym (ap (λ c. take c fs) count ∙ take_min n fs))

pub take_nil : {A : Type 0} (n : ℕ) → take {A = A} n [] ≡ []
take_nil zero = refl
take_nil (suc n) = refl

take_none : {A : Type 0} (n : ℕ) (xs : List A) → n ≡ 0 → take n xs ≡ []
take_none n xs none = rw none refl

-- Lists one after another

-- there is more after the first ones
then_all : {A : Type 0} (f : ℕ → List A) (k n : ℕ) → k ≤ n → Then f k n
then_all f k n within =
    let count : k + (n - k) ≡ n = omega (arith, within) in
    let more = joined_then f k (n - k) in
    record { later = more.later; whole = rw count at more.whole }

-- where so many are reached, no later one is among the first
pub first_reached : {A : Type 0} (f : ℕ → List A) (most k n : ℕ) → k ≤ n → most ≤ length (joined f k) → take most (joined f k) ≡ take most (joined f n)
first_reached f most k n within reached =
    let more = then_all f k n within in
    let none : most - length (joined f k) ≡ 0 = omega (arith, reached) in
    sym (ap (take most) more.whole
    ∙ take_both most (joined f k) more.later
    ∙ ap (λ l. take most (joined f k) ++ l) (take_none (most - length (joined f k)) more.later none)
    ∙ append-nil (take most (joined f k)))

-- the first ones with those of one more
pub first_more : {A : Type 0} (f : ℕ → List A) (most k : ℕ) → take most (joined f (k + 1)) ≡ take most (joined f k) ++ take (most - length (joined f k)) (f k)
first_more f most k = ap (take most) (joined_more f k) ∙ take_both most (joined f k) (f k)

-- as many of one list as of another
pub same_lengths : {A B : Type 0} (f : ℕ → List A) (g : ℕ → List B) (n : ℕ) → ((k : ℕ) → length (f k) ≡ length (g k)) → length (joined f n) ≡ length (joined g n)
same_lengths f g zero same = refl
same_lengths f g (suc n) same =
    omega (arith, length-append (joined f n) (f n), length-append (joined g n) (g n), same_lengths f g n same, same n)

-- Texts that are written one after another

-- the next ones are written
pub first_written : (f : ℕ → List (List ℕ)) (most k : ℕ) (old now new : Option (List ℕ)) → now ≡ after old (concat (take most (joined f k))) → new ≡ after now (concat (take (most - length (joined f k)) (f k))) → new ≡ after old (concat (take most (joined f (k + 1))))
first_written f most k old now new before next =
    rw (next, before, first_more f most k, concat-append (take most (joined f k)) (take (most - length (joined f k)) (f k)))
    (after_after old (concat (take most (joined f k))) (concat (take (most - length (joined f k)) (f k))))

-- a write fails within them
pub first_lost : (f : ℕ → List (List ℕ)) (most k n : ℕ) (old now new : Option (List ℕ)) → k < n → now ≡ after old (concat (take most (joined f k))) → WritesPrefix now (concat (take (most - length (joined f k)) (f k))) new → WritesPrefix old (concat (take most (joined f n))) new
first_lost f most k n old now new within before lost =
    let more = then_all f (k + 1) n (omega (arith, within)) in
    let first = take most (joined f k) in
    let next = take (most - length (joined f k)) (f k) in
    let later = take (most - length (joined f (k + 1))) more.later in
    let whole : concat (take most (joined f n)) ≡ (concat first ++ concat next) ++ concat later =
    ap concat (ap (take most) more.whole ∙ take_both most (joined f (k + 1)) more.later ∙ ap (λ l. l ++ later) (first_more f most k))
    ∙ concat-append (first ++ next) later
    ∙ ap (λ l. l ++ concat later) (concat-append first next) in
    prefix_within old now new (concat first) (concat next) (concat later) (concat (take most (joined f n))) whole before lost

-- Reports

-- a line has as many reports as it has faults with one
line_count : (style : Style) (source : Source) (text : Text) (words : Words) (number : ℕ) (line : ShownLine) → length (line_reports style source text words number line) ≡ length (reported_faults (shown_of text) number line)
unfolding line_reports
line_count style source text words number line =
    length-map (reported_faults (shown_of text) number line) (own_report_of style source text words number line)

pub found_reports : (style : Style) (source : Source) (text : Text) (words : Words) (number : ℕ) (line : ShownLine) (found : List (Option Reported)) → found ≡ map (λ r. Some r) (reported_faults (shown_of text) number line) → length found ≡ length (line_reports style source text words number line)
found_reports style source text words number line found is =
    as_many_reported found (reported_faults (shown_of text) number line) is
    ∙ sym (line_count style source text words number line)

-- as many of them as there are faults among the first
pub as_many : {A : Type 0} (xs : List A) (n left : ℕ) → n ≡ min left (length xs) → take n xs ≡ take left xs
as_many xs n left is = ap (λ c. take c xs) is ∙ take_min left xs

-- and so has a text
pub all_counted : (style : Style) (source : Source) (text : Text) (words : Words) → length (all_reports style source text words) ≡ report_count text
all_counted style source text words =
    same_lengths
    (λ k. line_reports style source text words (k + 1) ((shown_of text).line (k + 1)))
    (λ k. reported_faults (shown_of text) (k + 1) ((shown_of text).line (k + 1)))
    (shown_of text).count
    (λ k. line_count style source text words (k + 1) ((shown_of text).line (k + 1)))

-- Warnings

-- there is a report of each
warnings_counted : (style : Style) (source : Source) (text : Text) → length (all_warnings style source text) ≡ warning_count text
unfolding warning_reports
warnings_counted style source text =
    same_lengths
    (λ k. warning_reports style source (shown_of text) (k + 1) ((shown_of text).line (k + 1)))
    (λ k. warnings_about (shown_of text) ((shown_of text).line (k + 1)))
    (shown_of text).count
    (λ k. length-map (warnings_about (shown_of text) ((shown_of text).line (k + 1))) (warning_report_of style source (k + 1) ((shown_of text).line (k + 1)).text))

asked_counted : (style : Style) (source : Source) (text : Text) (warns : Bool) → length (if warns then all_warnings style source text else []) ≡ asked_warnings text warns
asked_counted style source text true = warnings_counted style source text
asked_counted style source text false = refl

-- a line without a warning has no report of one
pub no_warning_here : (style : Style) (source : Source) (shown : Shown) (number : ℕ) (line : ShownLine) → warning_of shown line.stmt.body ≡ None → warning_reports style source shown number line ≡ []
unfolding warning_reports
no_warning_here style source shown number line none =
    ap (λ w. map (warning_report_of style source number line.text) (optional w)) none

-- a line with one has its report
pub warning_here : (style : Style) (source : Source) (shown : Shown) (number : ℕ) (line : ShownLine) (warning : Warning) → warning_of shown line.stmt.body ≡ Some warning → warning_reports style source shown number line ≡ warning_report_of style source number line.text warning ∷ []
unfolding warning_reports
warning_here style source shown number line warning one =
    ap (λ w. map (warning_report_of style source number line.text) (optional w)) one

-- the first of one report
pub first_one : (x : List ℕ) (left : ℕ) → 0 < left → concat (take left (x ∷ [])) ≡ x
first_one x zero some = absurd (omega (arith, some))
first_one x (suc left) some = ap (λ l. concat (x ∷ l)) (take_nil left) ∙ append-nil x

pub is_on : (b : Bool) → not b ≡ false → b ≡ true
is_on true off = refl
is_on false off = absurd (true≢false off)

-- the first reports of a list and of a later one
pub first_of_both : (most count : ℕ) (xs ys : List (List ℕ)) → length xs ≡ count → concat (take most (xs ++ ys)) ≡ concat (take most xs) ++ concat (take (most - count) ys)
first_of_both most count xs ys is =
    ap concat (take_both most xs ys)
    ∙ concat-append (take most xs) (take (most - length xs) ys)
    ∙ ap (λ n. concat (take most xs) ++ concat (take (most - n) ys)) is

-- a text without faults and warnings has none
pub none_reported : (style : Style) (source : Source) (text : Text) (most : ℕ) (warns : Bool) → fault_count text ≡ 0 → asked_warnings text warns ≡ 0 → text_reports style source text most warns ≡ []
unfolding text_reports
none_reported style source text most warns no_fault no_warning =
    let words = searched_words (shown_of text) (min (report_count text) most) in
    let none : report_count text ≡ 0 = omega (arith, no_more_reports text, no_fault) in
    let faults : all_reports style source text words ≡ [] = nil_from_length (all_reports style source text words) (all_counted style source text words ∙ none) in
    let warnings : (if warns then all_warnings style source text else []) ≡ [] = nil_from_length (if warns then all_warnings style source text else []) (asked_counted style source text warns ∙ no_warning) in
    ap (λ (l : List (List ℕ)). concat (take most (l ++ (if warns then all_warnings style source text else []))) ++ last_rows source.file (fault_count text) (asked_warnings text warns) (report_count text + asked_warnings text warns) most) faults
    ∙ ap (λ (l : List (List ℕ)). concat (take most l) ++ last_rows source.file (fault_count text) (asked_warnings text warns) (report_count text + asked_warnings text warns) most) warnings
    ∙ ap (λ (l : List (List ℕ)). concat l ++ last_rows source.file (fault_count text) (asked_warnings text warns) (report_count text + asked_warnings text warns) most) (take_nil most)
    ∙ ap (λ n. last_rows source.file n (asked_warnings text warns) (report_count text + asked_warnings text warns) most) no_fault
    ∙ ap (λ n. last_rows source.file 0 n (report_count text + asked_warnings text warns) most) no_warning
