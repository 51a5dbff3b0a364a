-- One step along the content of a string.
use Rattle.std.proofs.Common.{◌≡◌, ℕ, zero, suc, ◌+◌, ◌-◌, ◌<◌, ◌≤◌, true, false, ◌==◌, List, [], ◌∷◌, length, drop, Some, slice_index, refl, ap, ◌∙◌, arith}
use Rattle.std.proofs.lemmas.List.{drop_more, drop-drop}
use Rattle.rv_text.specs.declared.strings.Spelling.{Spelling}
use Rattle.rv_text.specs.Strings.{spelled, spelled_bytes, content_from}

bytes_taken : (quote k : ℕ) (bs : List ℕ) → spelled_bytes quote k bs ≡ spelled_bytes quote 0 (drop k bs)
bytes_taken quote zero bs = refl
bytes_taken quote (suc k) [] = refl
bytes_taken quote (suc k) (b ∷ bs) = bytes_taken quote k bs

-- a byte that is not the quote is taken with its spelling
pub byte_taken : (quote b : ℕ) (bs xs : List ℕ) (s : Spelling) → xs ≡ b ∷ bs → (b == quote) ≡ false → spelled xs ≡ Some s → spelled_bytes quote 0 xs ≡ s.byte ∷ spelled_bytes quote 0 (drop (s.len - 1) bs)
byte_taken quote b bs xs s e other stands =
    let here = rw e at stands in
    let after = bytes_taken quote (s.len - 1) bs in
    rw (e, other, here, after) refl

pub content_step : (slice : List ℕ) (at : ℕ) (s : Spelling) → at < length slice → (slice_index slice at == slice_index slice 0) ≡ false → spelled (drop at slice) ≡ Some s → 1 ≤ s.len → content_from slice at ≡ s.byte ∷ content_from slice (at + s.len)
content_step slice at s within other stands one =
    let place : at + 1 + (s.len - 1) ≡ at + s.len = omega (arith, one) in
    byte_taken (slice_index slice 0) (slice_index slice at) (drop (at + 1) slice) (drop at slice) s (drop_more slice at 0 within) other stands
    ∙ ap (λ xs. s.byte ∷ spelled_bytes (slice_index slice 0) 0 xs) (drop-drop (s.len - 1) (at + 1) slice ∙ ap (λ k. drop k slice) place)

pub content_end : (slice : List ℕ) (at : ℕ) → at < length slice → (slice_index slice at == slice_index slice 0) ≡ true → content_from slice at ≡ []
content_end slice at within same =
    let e = drop_more slice at 0 within in
    rw (e, same) refl
