-- Names that get other ones.
use Rattle.std.proofs.Common.{◌≡◌, ℕ, zero, suc, ◌+◌, ◌-◌, ◌<◌, ◌≤◌, true, false, List, [], ◌∷◌, length, Option, Some, None, refl, arith}
use Rattle.std.proofs.lemmas.Bool.Decides.{nat_tests}
use Rattle.std.specs.Prelude.{nat_lt}
use Rattle.std.specs.List.{list_all}
use Rattle.rv_text.specs.declared.lexeme.Span.{Span}
use Rattle.rv_show.specs.Parts.{part}
use Rattle.rv_language.specs.declared.names.NameSpan.{NameSpan}
use Rattle.rv_language.specs.declared.rename.NameRefusal.{NameRefusal}
use Rattle.rv_language.specs.Meanings.{Name, name_of}
use Rattle.rv_language.specs.Meanings.{means_written}
use Rattle.rv_language.specs.declared.rename.RenameError.{RenameError}
use Rattle.rv_language.specs.declared.rename.RenameError.TheVariants as errors
use Rattle.rv_language.specs.Renames.{Change, IsRefusal, first_refusal, keeps_span, keeps_written, length_after, names_refusal}

-- a name that is neither means the same
kept_written : (change : Change) (line : ℕ) (name : Option Name) → means_written change.old line name ≡ false → means_written change.new line name ≡ false → keeps_written change line name ≡ true
kept_written change line None old new = refl
kept_written change line (Some name) old new = rw (old, new) refl

kept : (change : Change) (line : ℕ) (text : List ℕ) (names : List NameSpan) → ((line : ℕ) (span : Span) → means_written change.old line (name_of (part text span)) ≡ false) → ((line : ℕ) (span : Span) → means_written change.new line (name_of (part text span)) ≡ false) → list_all (keeps_span change line text) names ≡ true
kept change line text [] old new = refl
kept change line text (name ∷ names) old new =
    rw (kept_written change line (name_of (part text name.span)) (old line name.span) (new line name.span)) (kept change line text names old new)

same_length : (change : Change) (line : ℕ) (text : List ℕ) (n : ℕ) (names : List NameSpan) → ((line : ℕ) (span : Span) → means_written change.old line (name_of (part text span)) ≡ false) → length_after change line text n names ≡ n
same_length change line text n [] old = refl
same_length change line text n (name ∷ names) old = rw (old line name.span) (same_length change line text n names old)

-- a line in which neither name stands
pub untouched : (change : Change) (line : ℕ) (text : List ℕ) (names : List NameSpan) → length text ≤ 1000 → ((line : ℕ) (span : Span) → means_written change.old line (name_of (part text span)) ≡ false) → ((line : ℕ) (span : Span) → means_written change.new line (name_of (part text span)) ≡ false) → names_refusal change line text names ≡ None
untouched change line text names few old new =
    let long : nat_lt 1000 (length text) ≡ false = grind (arith, nat_tests, few) in
    rw (kept change line text names old new, same_length change line text (length text) names old, long) refl

-- the first refusal of some is that of more
pub first_of_more : (f : ℕ → Option NameRefusal) (k more : ℕ) (refusal : NameRefusal) → first_refusal f k ≡ Some refusal → first_refusal f (k + more) ≡ Some refusal
first_of_more f k zero refusal is = let e : k + 0 ≡ k = omega arith in rw e is
first_of_more f k (suc more) refusal is =
    let e : k + suc more ≡ suc (k + more) = omega arith in
    rw (e, first_of_more f k more refusal is) refl

-- an error of one is an error of more
pub refused_of_more : (f : ℕ → Option NameRefusal) (k n : ℕ) (e : RenameError) → first_refusal f k ≡ None → k < n → IsRefusal e (f k) → IsRefusal e (first_refusal f n)
refused_of_more f k n errors.Memory none some is = tt
refused_of_more f k n (errors.Refused r) none some is =
    let more : n ≡ suc k + (n - suc k) = omega (arith, some) in
    let here : first_refusal f (suc k) ≡ Some r = rw (none, is) refl in
    rw more (first_of_more f (suc k) (n - suc k) r here)
