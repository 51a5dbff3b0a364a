-- Where the first word of some bytes ends.
use Rattle.std.proofs.Common.{◌≡◌, ℕ, zero, suc, ◌<◌, Bool, true, false, List, [], ◌∷◌, length, take, drop, refl, arith}
use Rattle.std.proofs.lemmas.List.{take_all, drop-drop}
use Rattle.std.proofs.Math.ListN.{drop_of_length-le}
use Rattle.std.specs.List.{position_or_len}
use Rattle.std.specs.Prelude.{nat_eq, Some, None, slice_index}
use Rattle.memchr.specs.Find.{IsFirstByte, is_byte}
use Rattle.rv_commands.specs.Commands.{is_space, first_word, after_word}

is_false : (b : Bool) → (b ≡ true → ⊥) → b ≡ false
is_false true h = absurd (h refl)
is_false false h = refl

ends_at : (at : ℕ) (bytes : List ℕ) → ((k : ℕ) → k < at → nat_eq (slice_index bytes k) 32 ≡ true → ⊥) → at < length bytes → nat_eq (slice_index bytes at) 32 ≡ true → position_or_len is_space bytes ≡ at
ends_at at [] none lt e = absurd (omega arith)
ends_at zero (x ∷ bytes) none lt e = rw e refl
ends_at (suc at) (x ∷ bytes) none lt e =
    let later = ends_at at bytes (λ k less. none (suc k) (omega arith)) (omega arith) e in
    rw (is_false (nat_eq x 32) (none 0 (omega arith))) (omega (arith, later))

ends_nowhere : (bytes : List ℕ) → ((k : ℕ) → k < length bytes → nat_eq (slice_index bytes k) 32 ≡ true → ⊥) → position_or_len is_space bytes ≡ length bytes
ends_nowhere [] none = refl
ends_nowhere (x ∷ bytes) none =
    let later = ends_nowhere bytes (λ k less. none (suc k) (omega arith)) in
    rw (is_false (nat_eq x 32) (none 0 (omega arith))) (omega (arith, later))

-- what stands before the first space, and after it
pub word_before : (bytes : List ℕ) (at : ℕ) → IsFirstByte (is_byte 32) bytes (Some at) → first_word bytes ≡ take at bytes
word_before bytes at f = rw (ends_at at bytes (λ k less. f.0.before k (omega arith) less) f.0.high f.1) refl

pub word_after : (bytes : List ℕ) (at : ℕ) → IsFirstByte (is_byte 32) bytes (Some at) → after_word bytes ≡ drop 1 (drop at bytes)
word_after bytes at f =
    rw (ends_at at bytes (λ k less. f.0.before k (omega arith) less) f.0.high f.1, drop-drop 1 at bytes) refl

-- without a space all is one word
pub word_whole : (bytes : List ℕ) → IsFirstByte (is_byte 32) bytes None → first_word bytes ≡ bytes
word_whole bytes f = rw (ends_nowhere bytes (λ k less. f k (omega arith) less)) (take_all (length bytes) bytes (omega arith))

pub word_last : (bytes : List ℕ) → IsFirstByte (is_byte 32) bytes None → after_word bytes ≡ []
word_last bytes f = rw (ends_nowhere bytes (λ k less. f k (omega arith) less)) (drop_of_length-le bytes (omega arith))
