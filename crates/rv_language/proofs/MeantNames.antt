-- Where a symbol can stand.
use Rattle.std.proofs.Common.{◌≡◌, ℕ, ◌-◌, ◌<◌, ◌≤◌, Bool, true, false, List, length, take, drop, Option, Some, None, refl, ap, sym, subst, ◌∙◌, arith, true≢false}
use Rattle.std.proofs.lemmas.Bool.Decides.{nat_tests}
use Rattle.std.proofs.lemmas.Grind.{common_steps}
use Rattle.std.proofs.lemmas.List.{get_or-take, get_or-drop, length-take, length-drop}
use Rattle.std.specs.Prelude.{bytes_eq, is_some, nat_le, if◌then◌else◌, option_map, slice_index, ◌==◌}
use Rattle.memchr.specs.Find.{OccursAt, FindsNeedle}
use Rattle.rv_text.specs.declared.lexeme.Span.{Span}
use Rattle.rv_ops.specs.NameLaws.{bytes_eq-true}
use Rattle.rv_expr.specs.TokenRoles.{label_number}
use Rattle.rv_show.specs.Parts.{part}
use Rattle.rv_language.specs.Meanings.{Name, Label, Back, Forward, SymbolMeant, is_local, is_symbol, local_name, means_written, name_of}

-- A name of a local label is no symbol.

no_symbol : (symbol : List ℕ) (line : ℕ) (f : ℕ → Name) (number : Option ℕ) → ((n : ℕ) → is_symbol symbol (f n) ≡ false) → means_written (SymbolMeant symbol) line (option_map f number) ≡ false
no_symbol symbol line f None none = refl
no_symbol symbol line f (Some n) none = none n

of_either : (symbol : List ℕ) (line : ℕ) (b : Bool) (x y : Option Name) → means_written (SymbolMeant symbol) line x ≡ false → means_written (SymbolMeant symbol) line y ≡ false → means_written (SymbolMeant symbol) line (if b then x else y) ≡ false
of_either symbol line true x y first second = first
of_either symbol line false x y first second = second

of_local : (symbol : List ℕ) (line letter : ℕ) (digits name : List ℕ) → means_written (SymbolMeant symbol) line (local_name letter digits name) ≡ false
of_local symbol line letter digits name =
    of_either symbol line (letter == 0x62) _ _
    (no_symbol symbol line Back (label_number digits) (λ n. refl))
    (of_either symbol line (letter == 0x66) _ _
    (no_symbol symbol line Forward (label_number digits) (λ n. refl))
    (no_symbol symbol line Label (label_number name) (λ n. refl)))

-- A symbol that is a part of a line occurs in it.

occurs : (text : List ℕ) (from n : ℕ) → from ≤ length text → OccursAt text (take n (drop from text)) from
occurs text from n within =
    let size = length-take n (drop from text) in
    record {
      fits = grind (arith, common_steps, size, length-drop from text, within);
      reads = λ j lt. sym (get_or-take n (drop from text) j 0 (grind (arith, common_steps, size, lt)) ∙ get_or-drop from text j 0);
    }

-- Past the end of the line nothing is left, which occurs everywhere.
occurs_past : (text symbol : List ℕ) (span : Span) → length text < span.from → part text span ≡ symbol → OccursAt text symbol 0
occurs_past text symbol span past is =
    let none : length symbol ≡ 0 = grind (arith, common_steps, ap length is, length-take (span.to - span.from) (drop span.from text), length-drop span.from text, past) in
    record {
      fits = omega (arith, none);
      reads = λ j lt. absurd (omega (arith, none, lt));
    }

nowhere_by : (text symbol : List ℕ) (span : Span) (b : Bool) → nat_le span.from (length text) ≡ b → FindsNeedle text symbol 0 None → part text span ≡ symbol → ⊥
nowhere_by text symbol span true within none is =
    let le : span.from ≤ length text = grind (arith, nat_tests, within) in
    none span.from (omega arith) (omega (arith, le)) (subst (λ s. OccursAt text s span.from) is (occurs text span.from (span.to - span.from) le))
nowhere_by text symbol span false past none is =
    let gt : length text < span.from = grind (arith, nat_tests, past) in
    none 0 (omega arith) (omega arith) (occurs_past text symbol span gt is)

nowhere_part : (text symbol : List ℕ) (span : Span) → FindsNeedle text symbol 0 None → part text span ≡ symbol → ⊥
nowhere_part text symbol span none is = nowhere_by text symbol span (nat_le span.from (length text)) refl none is

no_part : (text symbol : List ℕ) (span : Span) (b : Bool) → FindsNeedle text symbol 0 None → bytes_eq (part text span) symbol ≡ b → b ≡ false
no_part text symbol span false none is = refl
no_part text symbol span true none is = absurd (nowhere_part text symbol span none (bytes_eq-true (part text span) symbol is))

-- A line in which a symbol is not found has no name that is it.
pub none_in : (text symbol : List ℕ) (found : Option ℕ) → FindsNeedle text symbol 0 found → is_some found ≡ false → (line : ℕ) (span : Span) → means_written (SymbolMeant symbol) line (name_of (part text span)) ≡ false
none_in text symbol (Some k) finds none line span = absurd (true≢false none)
none_in text symbol None finds none line span =
    of_either symbol line (is_local (part text span)) _ _
    (of_local symbol line (slice_index (part text span) (length (part text span) - 1)) (take (length (part text span) - 1) (part text span)) (part text span))
    (no_part text symbol span (bytes_eq (part text span) symbol) finds refl)
