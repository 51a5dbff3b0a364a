-- The rows of a header, where the first end of one is found.
use Rattle.std.proofs.Common.{◌≡◌, ℕ, zero, suc, ◌+◌, ◌<◌, Bool, true, false, List, [], ◌∷◌, ◌++◌, length, take, drop, Some, None, refl, ap, sym, ◌∙◌, arith, append_assoc}
use Rattle.std.proofs.lemmas.Bool.Decides.{nat_tests}
use Rattle.std.proofs.lemmas.Grind.{common_steps}
use Rattle.std.proofs.lemmas.List.{append-nil}
use Rattle.std.proofs.lemmas.Str.Ascii.{trim_ascii_is}
use Rattle.std.specs.Str.{IsTrimAscii}
use Rattle.std.specs.Prelude.{◌==◌, ◌&&◌, slice_index}
use Rattle.memchr.specs.Find.{OccursAt, FindsNeedle}
use Rattle.rv_doc.specs.Frames.{row_end, rows_from, trimmed, without_front}

-- The library's relation gives what the definition computes.
pub trimmed_is : (bytes found : List ℕ) → IsTrimAscii bytes found → found ≡ trimmed bytes
trimmed_is bytes found is = trim_ascii_is bytes found (without_front bytes) refl is

-- Where a row ends

reads_here : (b c : ℕ) (bytes : List ℕ) → (b == 0x0D && c == 0x0A) ≡ true → (j : ℕ) → j < 2 → slice_index (b ∷ (c ∷ bytes)) j ≡ slice_index row_end j
reads_here b c bytes is zero lt = grind (arith, nat_tests, common_steps, is)
reads_here b c bytes is (suc zero) lt = grind (arith, nat_tests, common_steps, is)
reads_here b c bytes is (suc (suc j)) lt = absurd (omega (arith, lt))

ends_here : (b c : ℕ) (bytes : List ℕ) → (b == 0x0D && c == 0x0A) ≡ true → OccursAt (b ∷ (c ∷ bytes)) row_end 0
ends_here b c bytes is = record {
  fits = omega arith;
  reads = λ j lt. let e : 0 + j ≡ j = omega arith in ap (slice_index (b ∷ (c ∷ bytes))) e ∙ reads_here b c bytes is j lt;
}

not_here : (b c : ℕ) (bytes : List ℕ) (t : Bool) → (b == 0x0D && c == 0x0A) ≡ t → ¬ OccursAt (b ∷ (c ∷ bytes)) row_end 0 → t ≡ false
not_here b c bytes true is none = absurd (none (ends_here b c bytes is))
not_here b c bytes false is none = refl

is_here : (b c : ℕ) (bytes : List ℕ) → OccursAt (b ∷ (c ∷ bytes)) row_end 0 → (b == 0x0D && c == 0x0A) ≡ true
is_here b c bytes here =
    let first : b ≡ 0x0D = here.reads 0 (omega arith) in
    let second : c ≡ 0x0A = here.reads 1 (omega arith) in
    grind (arith, nat_tests, common_steps, first, second)

-- Of bytes with one more before them

later : (b : ℕ) (bytes : List ℕ) (k : ℕ) → OccursAt bytes row_end k → OccursAt (b ∷ bytes) row_end (suc k)
later b bytes k is = record {
  fits = omega (arith, is.fits);
  reads = λ j lt. let e : suc k + j ≡ suc (k + j) = omega arith in ap (slice_index (b ∷ bytes)) e ∙ is.reads j lt;
}

earlier : (b : ℕ) (bytes : List ℕ) (k : ℕ) → OccursAt (b ∷ bytes) row_end (suc k) → OccursAt bytes row_end k
earlier b bytes k is = record {
  fits = omega (arith, is.fits);
  reads = λ j lt. let e : suc k + j ≡ suc (k + j) = omega arith in sym (ap (slice_index (b ∷ bytes)) e) ∙ is.reads j lt;
}

-- The first row ends there.
row_ends : (row bytes : List ℕ) (at : ℕ) → OccursAt bytes row_end at → ((k : ℕ) → k < at → ¬ OccursAt bytes row_end k) → rows_from row bytes ≡ (row ++ take at bytes) ∷ rows_from [] (drop (at + 2) bytes)
row_ends row [] at here none = absurd (omega (arith, here.fits))
row_ends row (b ∷ []) at here none = absurd (omega (arith, here.fits))
row_ends row (b ∷ (c ∷ bytes)) zero here none = rw (is_here b c bytes here, append-nil row) refl
row_ends row (b ∷ (c ∷ bytes)) (suc at) here none =
    let past : suc at + 2 ≡ suc (at + 2) = omega arith in
    rw (not_here b c bytes (b == 0x0D && c == 0x0A) refl (none 0 (omega arith)), past)
    (row_ends (row ++ b ∷ []) (c ∷ bytes) at (earlier b (c ∷ bytes) at here) (λ k lt is. none (suc k) (omega (arith, lt)) (later b (c ∷ bytes) k is))
    ∙ ap (λ r. r ∷ rows_from [] (drop (at + 2) (c ∷ bytes))) (append_assoc row (b ∷ []) (take at (c ∷ bytes))))

-- There is no other row.
row_lasts : (row bytes : List ℕ) → ((k : ℕ) → k < length bytes + 1 → ¬ OccursAt bytes row_end k) → rows_from row bytes ≡ (row ++ bytes) ∷ []
row_lasts row [] none = rw (append-nil row) refl
row_lasts row (b ∷ []) none = refl
row_lasts row (b ∷ (c ∷ bytes)) none =
    rw (not_here b c bytes (b == 0x0D && c == 0x0A) refl (none 0 (omega arith)))
    (row_lasts (row ++ b ∷ []) (c ∷ bytes) (λ k lt is. none (suc k) (omega (arith, lt)) (later b (c ∷ bytes) k is))
    ∙ ap (λ r. r ∷ []) (append_assoc row (b ∷ []) (c ∷ bytes)))

pub first_row : (bytes : List ℕ) (at : ℕ) → FindsNeedle bytes row_end 0 (Some at) → rows_from [] bytes ≡ take at bytes ∷ rows_from [] (drop (at + 2) bytes)
first_row bytes at finds = row_ends [] bytes at finds.1 (λ k lt. finds.0.before k (omega arith) lt)

pub last_row : (bytes : List ℕ) → FindsNeedle bytes row_end 0 None → rows_from [] bytes ≡ bytes ∷ []
last_row bytes finds = row_lasts [] bytes (λ k lt. finds k (omega arith) lt)
