-- A string of bytes stands for bytes.
use Rattle.std.proofs.Common.{◌≡◌, ℕ, zero, suc, ◌+◌, ◌-◌, ◌<◌, Bool, true, false, ◌||◌, ◌==◌, min, nat_lt, List, [], ◌∷◌, take, drop, Option, Some, None, slice_index, refl, arith}
use Rattle.std.specs.Prelude.{⊤, cond, if◌then◌else◌, option_map, option_and_then}
use Rattle.std.specs.List.{prefix_len}
use Rattle.std.proofs.lemmas.Bool.{ltb-true}
use Rattle.rv_text.specs.declared.lexeme.Span.{Span}
use Rattle.rv_text.specs.declared.strings.Spelling.{Spelling}
use Rattle.rv_text.specs.Lexing.{text_at}
use Rattle.rv_text.specs.Numbers.{digits_number}
use Rattle.rv_text.specs.Strings.{letter_escape, is_octal, octal_escape, escape, spelled, with_spelling, spelled_bytes}
use Rattle.rv_files.specs.Segments.{AreBytes}
use Rattle.rv_files.proofs.Bytes.{bytes_none, bytes_cons, bytes_append, bytes_take, bytes_drop}
use Rattle.rv_files.proofs.RegularBodies.{IsSpelled}

abbrev IsByte : Option ℕ → Type 0
IsByte None = ⊤
IsByte (Some b) = b < 256

abbrev SpellsByte : Option Spelling → Type 0
SpellsByte None = ⊤
SpellsByte (Some s) = s.byte < 256

either_byte : (b : Bool) (x y : Option ℕ) → IsByte x → IsByte y → IsByte (cond b x y)
either_byte true x y h k = h
either_byte false x y h k = k

either_spells : (b : Bool) (x y : Option Spelling) → SpellsByte x → SpellsByte y → SpellsByte (cond b x y)
either_spells true x y h k = h
either_spells false x y h k = k

letter_byte : (c : ℕ) → c < 256 → IsByte (letter_escape c)
letter_byte c h =
    either_byte (c == 0x6E) (Some 10) _ (omega arith)
    (either_byte (c == 0x74) (Some 9) _ (omega arith)
    (either_byte (c == 0x72) (Some 13) _ (omega arith)
    (either_byte (c == 0x62) (Some 8) _ (omega arith)
    (either_byte (c == 0x66) (Some 12) _ (omega arith)
    (either_byte (c == 0x5C || c == 0x22 || c == 0x27) (Some c) None h tt)))))

octal_byte : (n : ℕ) (number : Option ℕ) → SpellsByte (option_and_then (λ value. if nat_lt value 256 then Some (record { byte = value; len = n }) else None) number)
octal_byte n None = tt
octal_byte n (Some value) = at (nat_lt value 256) refl
  where
    at : (b : Bool) → nat_lt value 256 ≡ b → SpellsByte (cond b (Some (record { byte = value; len = n })) None)
    at true e = ltb-true value 256 e
    at false e = tt

letter_spells : (c : Option ℕ) → IsByte c → SpellsByte (option_map (λ b. record { byte = b; len = 1 }) c)
letter_spells None h = tt
letter_spells (Some c) h = h

escape_spells : (bs : List ℕ) → AreBytes bs → SpellsByte (escape bs)
escape_spells [] h = tt
escape_spells (c ∷ cs) h =
    let n = min 3 (prefix_len is_octal (c ∷ cs)) in
    either_spells (is_octal c) (octal_escape (c ∷ cs)) (option_map (λ b. record { byte = b; len = 1 }) (letter_escape c))
    (octal_byte n (digits_number 8 (take n (c ∷ cs)))) (letter_spells (letter_escape c) (letter_byte c (h 0)))

longer_spells : (s : Option Spelling) → SpellsByte s → SpellsByte (option_map (λ s. record { byte = s.byte; len = s.len + 1 }) s)
longer_spells None h = tt
longer_spells (Some s) h = h

spelled_spells : (b : ℕ) (bs : List ℕ) → AreBytes (b ∷ bs) → SpellsByte (spelled (b ∷ bs))
spelled_spells b bs h =
    either_spells (b == 0x5C) (option_map (λ s. record { byte = s.byte; len = s.len + 1 }) (escape bs)) (Some (record { byte = b; len = 1 }))
    (longer_spells (escape bs) (escape_spells bs (bytes_drop 1 (b ∷ bs) h))) (h 0)

with_spelling_bytes : (s : Option Spelling) (rest : ℕ → List ℕ) → SpellsByte s → ((k : ℕ) → AreBytes (rest k)) → AreBytes (with_spelling s rest)
with_spelling_bytes None rest h k = bytes_none
with_spelling_bytes (Some s) rest h k = bytes_cons s.byte (rest (s.len - 1)) h (k (s.len - 1))

spelled_are_bytes : (quote taken : ℕ) (bs : List ℕ) → AreBytes bs → AreBytes (spelled_bytes quote taken bs)
spelled_are_bytes quote taken [] h = bytes_none
spelled_are_bytes quote (suc taken) (b ∷ bs) h = spelled_are_bytes quote taken bs (bytes_drop 1 (b ∷ bs) h)
spelled_are_bytes quote zero (b ∷ bs) h =
    elim (b == quote)
    as (λ ends. AreBytes (cond ends [] (with_spelling (spelled (b ∷ bs)) (λ taken. spelled_bytes quote taken bs)))) [
      | true ↦ bytes_none
      | false ↦ with_spelling_bytes (spelled (b ∷ bs)) (λ taken. spelled_bytes quote taken bs) (spelled_spells b bs h) (λ taken. spelled_are_bytes quote taken bs (bytes_drop 1 (b ∷ bs) h))
    ]

pub bytes_spelled : IsSpelled AreBytes
bytes_spelled = record {
  none = bytes_none;
  end = bytes_cons 0 [] (omega arith) bytes_none;
  both = bytes_append;
  content = λ text h. spelled_are_bytes (slice_index text 0) 0 (drop 1 text) (bytes_drop 1 text h);
}

pub bytes_at : (line : List ℕ) (span : Span) → AreBytes line → AreBytes (text_at line span)
bytes_at line span h = bytes_take (span.to - span.from) (drop span.from line) (bytes_drop span.from line h)
