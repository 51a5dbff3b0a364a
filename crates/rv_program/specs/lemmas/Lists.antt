-- A map over an edited list, what holds of each element, and tests of some.
use Rattle.std.proofs.Common.{◌≡◌, ℕ, zero, suc, ◌==◌, Bool, true, false, not, ◌||◌, List, [], ◌∷◌, length, get_or, replicate, take, drop, true≢false, arith, ap, sym, ◌∙◌, refl}
use Rattle.std.specs.Prelude.{map, insert, remove}
use Rattle.std.proofs.lemmas.Bool.{ne_eqb, or_left, or_right}
use Rattle.std.proofs.lemmas.List.{append-nil, map-append, take-map, drop-map}
use Rattle.std.proofs.lemmas.List.Elements.{All-append, All-cons, All-take, All-drop}
use Rattle.std.specs.List.{All, list_any}
use Rattle.rv_program.specs.internal.LineSearch.{AreFirst}

pub map_insert : {A B : Type 0} (f : A → B) (xs : List A) (i : ℕ) (x : A) → map f (insert xs i x) ≡ insert (map f xs) i (f x)
map_insert f xs i x = simp (map-append, take-map, drop-map)

pub map_remove : {A B : Type 0} (f : A → B) (xs : List A) (i : ℕ) → map f (remove xs i) ≡ remove (map f xs) i
map_remove f xs i = simp (map-append, take-map, drop-map)

pub all_insert : {A : Type 0} (P : A → Type 0) (xs : List A) (i : ℕ) (x : A) → All P xs → P x → All P (insert xs i x)
all_insert P xs i x all one = All-append P (take i xs) (x ∷ drop i xs) (All-take P i xs all) (All-cons P x (drop i xs) one (All-drop P i xs all))

pub all_remove : {A : Type 0} (P : A → Type 0) (xs : List A) (i : ℕ) → All P xs → All P (remove xs i)
all_remove P xs i all = All-append P (take i xs) (drop (suc i) xs) (All-take P i xs all) (All-drop P (suc i) xs all)

-- a list of one item over and over
pub get_or-same : {A : Type 0} (n k : ℕ) (x : A) → get_or (replicate n x) k x ≡ x
get_or-same zero k x = refl
get_or-same (suc n) zero x = refl
get_or-same (suc n) (suc k) x = get_or-same n k x

-- a list without items
pub no-items : {A : Type 0} (xs : List A) → not (length xs == 0) ≡ false → xs ≡ []
no-items [] none = refl
no-items (x ∷ xs) none =
    absurd (true≢false (sym (ap not (ne_eqb (suc (length xs)) 0 (λ e. omega (arith, e)))) ∙ none))

-- what passes the one test passes the other
pub any-weaker : (p q : List ℕ → Bool) → ((name : List ℕ) → p name ≡ true → q name ≡ true) → (names : List (List ℕ)) → list_any p names ≡ true → list_any q names ≡ true
any-weaker p q weaker [] h = h
any-weaker p q weaker (n ∷ ns) h = at (p n) refl (any-weaker p q weaker ns) h
  where
    at : (t : Bool) → p n ≡ t → (list_any p ns ≡ true → list_any q ns ≡ true) → (t || list_any p ns) ≡ true → (q n || list_any q ns) ≡ true
    at true e later g = or_left (q n) (list_any q ns) (weaker n e)
    at false e later g = or_right (q n) (list_any q ns) (later g)

-- all lines are the first ones
pub all-first : {lines all : List (List ℕ)} → all ≡ lines → AreFirst lines all
all-first {lines} same = record { others = []; whole = same ∙ sym (append-nil lines) }
