-- The reports of the faults of lines.
use Rattle.std.proofs.Common.{◌≡◌, ℕ, zero, suc, ◌-◌, ◌==◌, Bool, true, false, ◌&&◌, nat_le, List, [], ◌∷◌, length, map, take, get_or, slice_get, Option, Some, None, if◌then◌else◌, ap, sym, ◌∙◌}
use Rattle.std.proofs.lemmas.List.{take-map}
use Rattle.std.proofs.lemmas.List.Concat.{concat_is}
use Rattle.std.proofs.lemmas.List.Folds.{flat_map-map}
use Rattle.std.specs.List.{concat, flat_map}
use Rattle.rv_fix.specs.Values.{Entry, operand_values_of}
use Rattle.rv_list.specs.Shown.{ShownLine}
use Rattle.rv_show.specs.declared.page.Style.{Style}
use Rattle.rv_show.specs.Origins.{Source}
use Rattle.rv_report.specs.Words.{Words}
use Rattle.rv_report.specs.Reports.{report_of}
use Rattle.rv_store.specs.LinesOfTexts.{LineOfText, names_from}
use Rattle.rv_store.specs.Shown.{shown_of}
use Rattle.rv_program.specs.Text.{Text, at_line}
use Rattle.rv_files.specs.declared.odd_addresses.Reported.{Reported}
use Rattle.rv_files.specs.OddAddresses.{one_reported, reported_faults}
use Rattle.rv_files.specs.TextReports.{line_reports, own_report_of}
use Rattle.rv_files.proofs.OddAddresses.{all_reported_found}

-- A line of a store

-- what is told of a line that there is
pub told_of_line : {A : Type 0} (lines : List (List ℕ)) (k : ℕ) (x y : A) → Some y ≡ at_line lines k x → y ≡ x
told_of_line lines k x y e = at (nat_le 1 k && nat_le k (length lines)) e
  where
    at : (b : Bool) → Some y ≡ (if b then Some x else None) → y ≡ x
    at true e = cc
    at false e = absurd (let no : Some y ≡ None = e in cc)

at_place : (lines : List (List ℕ)) (k : ℕ) (text : List ℕ) → Some text ≡ slice_get lines k → text ≡ get_or lines k []
at_place [] k text e = absurd (let no : Some text ≡ None = e in cc)
at_place (l ∷ ls) zero text e = let is : Some text ≡ Some l = e in cc
at_place (l ∷ ls) (suc k) text e = at_place ls k text e

-- its bytes
pub bytes_of_line : (lines : List (List ℕ)) (k : ℕ) (text : List ℕ) → Some text ≡ (if k == 0 then None else slice_get lines (k - 1)) → text ≡ get_or lines (k - 1) []
bytes_of_line lines k text e = at (k == 0) e
  where
    at : (b : Bool) → Some text ≡ (if b then None else slice_get lines (k - 1)) → text ≡ get_or lines (k - 1) []
    at true e = absurd (let no : Some text ≡ None = e in cc)
    at false e = at_place lines (k - 1) text e

-- Reports

-- their texts, one after another
in_order : {X : Type 0} (f : X → List ℕ) (n : ℕ) (xs : List X) → flat_map f (take n xs) ≡ concat (take n (map f xs))
in_order f n xs = sym (ap concat (take-map f n xs) ∙ concat_is (map f (take n xs)) ∙ flat_map-map (λ x. x) f (take n xs))

pub line_reports-are : (style : Style) (source : Source) (text : Text) (words : Words) (number count : ℕ) (shown : ShownLine) (names : LineOfText) (bytes : List ℕ) (values : List Entry) (reported : List (Option Reported)) → names ≡ record { text = text; line = number } → bytes ≡ shown.text → values ≡ operand_values_of (names_from names shown.place.address) shown.place.address shown.stmt.body → reported ≡ map (λ r. Some r) (take count (reported_faults (shown_of text) number shown)) → flat_map (λ r. report_of style source (names_from names shown.place.address) (shown_of text) (record { number = number; text = bytes; stmt = shown.stmt; address = shown.place.address; values = values; words = words }) r.more r.fault) (flat_map one_reported reported) ≡ concat (take count (line_reports style source text words number shown))
unfolding line_reports
line_reports-are style source text words number count shown names bytes values reported named same valued faulty =
    ap (λ v. flat_map (λ (r : Reported). report_of style source (names_from names shown.place.address) (shown_of text) (record { number = number; text = bytes; stmt = shown.stmt; address = shown.place.address; values = v; words = words }) r.more r.fault) (flat_map one_reported reported)) valued
    ∙ ap (λ (n : LineOfText). flat_map (λ (r : Reported). report_of style source (names_from n shown.place.address) (shown_of text) (record { number = number; text = bytes; stmt = shown.stmt; address = shown.place.address; values = operand_values_of (names_from n shown.place.address) shown.place.address shown.stmt.body; words = words }) r.more r.fault) (flat_map one_reported reported)) named
    ∙ ap (λ b. flat_map (λ (r : Reported). report_of style source (names_from (record { text = text; line = number }) shown.place.address) (shown_of text) (record { number = number; text = b; stmt = shown.stmt; address = shown.place.address; values = operand_values_of (names_from (record { text = text; line = number }) shown.place.address) shown.place.address shown.stmt.body; words = words }) r.more r.fault) (flat_map one_reported reported)) same
    ∙ ap (λ (f : List (Option Reported)). flat_map (own_report_of style source text words number shown) (flat_map one_reported f)) faulty
    ∙ ap (flat_map (own_report_of style source text words number shown)) (all_reported_found (take count (reported_faults (shown_of text) number shown)))
    ∙ in_order (own_report_of style source text words number shown) count (reported_faults (shown_of text) number shown)
