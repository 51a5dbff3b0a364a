-- One step along a string.
use Rattle.std.proofs.Common.{◌≡◌, ℕ, zero, suc, ◌+◌, ◌-◌, ◌<◌, ◌≤◌, false, List, [], ◌∷◌, length, drop, get_or, Option, Some, None, option_map, sym, refl, ap, ◌∙◌, arith, length-drop, eqb, ne_eqb}
use Rattle.std.proofs.lemmas.List.{drop_more, drop-drop}
use Rattle.rv_text.specs.declared.strings.Spelling.{Spelling}
use Rattle.rv_text.specs.Strings.{string_len, spelled}

-- a place that is k bytes further on
abbrev pub moved_on : ℕ → Option ℕ → Option ℕ
moved_on k o = option_map (λ n. k + n) o

same : (o : Option ℕ) {f : ℕ → ℕ} → ((n : ℕ) → f n ≡ n) → option_map f o ≡ o
same None h = refl
same (Some n) h = ap Some (h n)

module _ where
  shifted : (o : Option ℕ) (f g : ℕ → ℕ) → ((n : ℕ) → f n ≡ g n) → option_map f o ≡ option_map g o
  shifted None f g h = refl
  shifted (Some n) f g h = ap Some (h n)

  twice : (o : Option ℕ) (f g : ℕ → ℕ) → option_map f (option_map g o) ≡ option_map (λ n. f (g n)) o
  twice None f g = refl
  twice (Some n) f g = refl

pub string_len-taken : (k : ℕ) (bs : List ℕ) → k ≤ length bs → string_len k bs ≡ option_map (λ n. n + k) (string_len 0 (drop k bs))
string_len-taken zero bs h = sym (same _ (λ n. omega arith))
string_len-taken (suc k) [] h = absurd (omega arith)
string_len-taken (suc k) (b ∷ bs) h =
    ap (option_map (λ n. n + 1)) (string_len-taken k bs (omega arith)) ∙ twice _ _ _ ∙ shifted _ _ _ (λ n. omega arith)

pub string_len-cons : (b : ℕ) (bs xs : List ℕ) (s : Spelling) → xs ≡ b ∷ bs → eqb b 0x22 ≡ false → spelled xs ≡ Some s → string_len 0 xs ≡ option_map (λ n. n + 1) (string_len (s.len - 1) bs)
string_len-cons b bs xs s e other stands = let here = rw e at stands in rw (e, other, here) refl

-- a byte of the string is taken
pub string_at : (bytes : List ℕ) (at : ℕ) (s : Spelling) → at < length bytes → (get_or bytes at 0 ≡ 0x22 → ⊥) → spelled (drop at bytes) ≡ Some s → 1 ≤ s.len → at + s.len ≤ length bytes → moved_on at (string_len 0 (drop at bytes)) ≡ moved_on (at + s.len) (string_len 0 (drop (at + s.len) bytes))
string_at bytes at s within other stands one fits =
    let place : at + 1 + (s.len - 1) ≡ at + s.len = omega arith in
    let rest = drop (at + 1) bytes in
    let cons = string_len-cons (get_or bytes at 0) rest (drop at bytes) s (drop_more bytes at 0 within) (ne_eqb _ _ other) stands in
    let taken = string_len-taken (s.len - 1) rest (rw length-drop (omega arith)) in
    ap (moved_on at) (cons ∙ ap (option_map (λ n. n + 1)) taken)
    ∙ ap (moved_on at) (twice _ _ _)
    ∙ twice _ _ _
    ∙ shifted _ _ _ (λ n. omega arith)
    ∙ ap (λ xs. moved_on (at + s.len) (string_len 0 xs)) (drop-drop (s.len - 1) (at + 1) bytes ∙ ap (λ k. drop k bytes) place)
