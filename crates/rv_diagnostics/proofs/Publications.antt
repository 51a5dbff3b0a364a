-- The diagnostics of a document, part by part.
use Rattle.std.proofs.Common.{◌≡◌, ℕ, zero, suc, ◌+◌, ◌-◌, ◌≤◌, Bool, true, false, List, [], ◌∷◌, ◌++◌, length, drop, refl, ap, ◌∙◌, arith, append_assoc}
use Rattle.std.proofs.lemmas.List.{length-append, length-drop, length-map, nil_from_length}
use Rattle.json.specs.Token.{Token, begin_object, end_object, end_array}
use Rattle.std.specs.Prelude.{codes}
use Rattle.rv_report.specs.Words.{Words}
use Rattle.rv_diagnostics.specs.Json.{message, string_member}
use Rattle.rv_expr.specs.Value.{Environment}
use Rattle.rv_list.specs.Faults.{faults_of}
use Rattle.rv_list.specs.Joined.{joined}
use Rattle.rv_list.specs.Shown.{Shown, ShownLine}
use Rattle.rv_doc.specs.declared.encoding.Encoding.{Encoding}
use Rattle.rv_diagnostics.specs.Diagnostics.{warning_diagnostic}
use Rattle.rv_diagnostics.specs.Published.{all_diagnostics, all_warnings, are_lines, fault_count, is_long, line_diagnostics, long_count, long_lines, shown_in, warning_count, warning_diagnostics, warnings_about}
use Rattle.rv_doc.specs.declared.window.Window.{Window}
use Rattle.rv_diagnostics.proofs.ShownRows.{diagnostic_count, none_shown}

same_lengths : {A B : Type 0} (f : ℕ → List A) (g : ℕ → List B) (n : ℕ) → ((k : ℕ) → length (f k) ≡ length (g k)) → length (joined f n) ≡ length (joined g n)
same_lengths f g zero same = refl
same_lengths f g (suc n) same =
    omega (arith, length-append (joined f n) (f n), length-append (joined g n) (g n), same_lengths f g n same, same n)

warnings_shown : (encoding : Encoding) (shown : Shown) (number : ℕ) (line : ShownLine) → length (warning_diagnostics encoding shown number line) ≡ length (warnings_about shown number line)
unfolding warning_diagnostics
warnings_shown encoding shown number line = length-map (warnings_about shown number line) (warning_diagnostic encoding number line.text)

-- a text without faults has no diagnostics of them
pub no_faults : (encoding : Encoding) (uri : List ℕ) (given : ℕ → ℕ → Environment) (shown : Shown) (words : Words) (w : Window) (old : List Token) → fault_count shown ≡ 0 → old ≡ old ++ shown_in w (all_diagnostics encoding uri given shown words)
no_faults encoding uri given shown words w old none =
    none_shown w old (all_diagnostics encoding uri given shown words)
    (nil_from_length (all_diagnostics encoding uri given shown words)
    (same_lengths
    (λ k. line_diagnostics encoding uri given shown words (k + 1) (shown.line (k + 1)))
    (λ k. faults_of shown (k + 1) (shown.line (k + 1)))
    shown.count
    (λ k. diagnostic_count encoding uri given shown words (k + 1) (shown.line (k + 1)))
    ∙ none))

-- nor has one without warnings
pub no_warnings : (encoding : Encoding) (shown : Shown) (w : Window) (old : List Token) → warning_count shown ≡ 0 → old ≡ old ++ shown_in w (all_warnings encoding shown)
no_warnings encoding shown w old none =
    none_shown w old (all_warnings encoding shown)
    (nil_from_length (all_warnings encoding shown)
    (same_lengths
    (λ k. warning_diagnostics encoding shown (k + 1) (shown.line (k + 1)))
    (λ k. warnings_about shown (k + 1) (shown.line (k + 1)))
    shown.count
    (λ k. warnings_shown encoding shown (k + 1) (shown.line (k + 1)))
    ∙ none))

-- and there are as many of lines that are too long as there are such lines
long_shown : (encoding : Encoding) (number : ℕ) (lines : List (List ℕ)) → length (long_lines encoding number lines) ≡ long_count lines
long_shown encoding number [] = refl
long_shown encoding number (line ∷ lines) = at (is_long line) refl (long_shown encoding (number + 1) lines)
  where
    at : (b : Bool) → is_long line ≡ b → length (long_lines encoding (number + 1) lines) ≡ long_count lines → length (long_lines encoding number (line ∷ lines)) ≡ long_count (line ∷ lines)
    at true e rest = rw e (omega (arith, rest))
    at false e rest = rw e (omega (arith, rest))

pub no_long : (encoding : Encoding) (lines : List (List ℕ)) (w : Window) (old : List Token) → long_count lines ≡ 0 → old ≡ old ++ shown_in w (long_lines encoding 0 lines)
no_long encoding lines w old none =
    none_shown w old (long_lines encoding 0 lines) (nil_from_length (long_lines encoding 0 lines) (long_shown encoding 0 lines ∙ none))

-- a document with no more lines than a text may have has none after those
pub few_lines : (lines : List (List ℕ)) (most : ℕ) → length lines ≤ most → are_lines (drop most lines) ≡ false
few_lines lines most few =
    ap are_lines (nil_from_length (drop most lines) (length-drop most lines ∙ (let none : length lines - most ≡ 0 = omega (arith, few) in none)))

-- Messages

pub ended : (m m1 : List Token) → m1 ≡ m ++ (end_array ∷ (end_object ∷ [])) → m1 ++ end_object ∷ [] ≡ m ++ (end_array ∷ (end_object ∷ (end_object ∷ [])))
ended m m1 one = rw one (append_assoc m (end_array ∷ (end_object ∷ [])) (end_object ∷ []))

pub published : (head said m0 m1 : List Token) → m0 ≡ begin_object ∷ string_member (codes "jsonrpc") (codes "2.0") → m1 ≡ m0 ++ (head ++ said) → m1 ++ (end_array ∷ (end_object ∷ (end_object ∷ []))) ≡ message (head ++ (said ++ (end_array ∷ (end_object ∷ []))))
published head said m0 m1 begun one = rw (one, begun) (simp append_assoc)
