-- Numbers of names, and rows by these numbers.
use Rattle.std.proofs.Common.{◌≡◌, ℕ, zero, suc, ◌+◌, ◌<◌, ◌≤◌, Bool, true, false, not, ◌-◌, cond, nat_lt, ltb, List, [], ◌∷◌, ◌++◌, ◌||◌, length, map, get_or, set, take, replicate, position, bytes_eq, Option, Some, None, option_map, if◌then◌else◌, arith, append_assoc, ap, sym, subst, ◌∙◌, refl}
use Rattle.std.proofs.Math.Path.{fun_ext}
use Rattle.std.proofs.lemmas.Bool.{false≢true, false_from_ne_true}
use Rattle.std.proofs.lemmas.Grind.{common_steps}
use Rattle.std.proofs.lemmas.Bool.Decides.{nat_tests}
use Rattle.std.proofs.lemmas.List.{append-nil, map-append, length-append, get_or_past, get_or-set_same, get_or-set_other, take_all, length-replicate}
use Rattle.std.proofs.lemmas.List.Quantifiers.{position-Some}
use Rattle.std.proofs.lemmas.Slice.Eq.{bytes_eq-Decides}
use Rattle.std.specs.List.{list_any, position_or_len, AllByRecursion, IsDistinct}
use Rattle.std.specs.Option.{is_some}
use Rattle.rv_program.specs.internal.NameSets.{bucket_of}
use Rattle.rv_program.specs.internal.Rows.{number_of, has_number, entry_at, in_row, Grows}
use Rattle.rv_program.specs.lemmas.Lists.{get_or-same}
use Rattle.rv_program.specs.lemmas.NameSetLaws.{bucket-below}

-- Places of elements

-- the first place is the head's, or one more than that in the tail
pub position-cons : {A : Type 0} (p : A → Bool) (x : A) (xs : List A) → position p (x ∷ xs) ≡ (if p x then Some 0 else option_map suc (position p xs))
position-cons p x xs = at (p x) (position_or_len p xs) (length xs)
  where
    ltb-suc : (k n : ℕ) → ltb (1 + k) (suc n) ≡ ltb k n
    ltb-suc k n = grind (arith, nat_tests, common_steps)

    cond-suc : (b : Bool) (k : ℕ) → cond b (Some (1 + k)) None ≡ option_map suc (cond b (Some k) None)
    cond-suc true k = ap Some (let e : 1 + k ≡ suc k = omega arith in e)
    cond-suc false k = refl

    at : (b : Bool) (k n : ℕ) → cond (nat_lt (cond (not b) (1 + k) 0) (suc n)) (Some (cond (not b) (1 + k) 0)) None ≡ (if b then Some 0 else option_map suc (cond (nat_lt k n) (Some k) None))
    at true k n = ap (λ t. cond t (Some 0) None) (let e : ltb 0 (suc n) ≡ true = grind (arith, nat_tests, common_steps) in e)
    at false k n = ap (λ t. cond t (Some (1 + k)) None) (ltb-suc k n) ∙ cond-suc (ltb k n) k

pub position-map : {A B : Type 0} (p : B → Bool) (f : A → B) (xs : List A) → position p (map f xs) ≡ position (λ x. p (f x)) xs
position-map p f [] = refl
position-map p f (x ∷ xs) =
    position-cons p (f x) (map f xs)
    ∙ ap (λ r. if p (f x) then Some 0 else option_map suc r) (position-map p f xs)
    ∙ sym (position-cons (λ y. p (f y)) x xs)

-- with more elements at the end
position-left : {A : Type 0} (p : A → Bool) (xs ys : List A) (n : ℕ) → position p xs ≡ Some n → position p (xs ++ ys) ≡ Some n
position-left p [] ys n e = absurd (let no : None ≡ Some n = e in cc)
position-left p (x ∷ xs) ys n e =
    position-cons p x (xs ++ ys) ∙ at (p x) (position p xs) (sym (position-cons p x xs) ∙ e) (position-left p xs ys)
  where
    at : (b : Bool) (r : Option ℕ) → (if b then Some 0 else option_map suc r) ≡ Some n → ((k : ℕ) → r ≡ Some k → position p (xs ++ ys) ≡ Some k) → (if b then Some 0 else option_map suc (position p (xs ++ ys))) ≡ Some n
    at true r e ih = e
    at false None e ih = absurd (let no : None ≡ Some n = e in cc)
    at false (Some k) e ih = ap (option_map suc) (ih k refl) ∙ e

position-right : {A : Type 0} (p : A → Bool) (xs ys : List A) (n : ℕ) → position p xs ≡ None → position p (xs ++ ys) ≡ Some n → length xs ≤ n
position-right p [] ys n e g = omega arith
position-right p (x ∷ xs) ys n e g =
    at (p x) (position p xs) (position p (xs ++ ys)) (sym (position-cons p x xs) ∙ e) (sym (position-cons p x (xs ++ ys)) ∙ g) (position-right p xs ys)
  where
    at : (b : Bool) (r s : Option ℕ) → (if b then Some 0 else option_map suc r) ≡ None → (if b then Some 0 else option_map suc s) ≡ Some n → ((k : ℕ) → r ≡ None → s ≡ Some k → length xs ≤ k) → length (x ∷ xs) ≤ n
    at true r s e g ih = absurd (let no : Some 0 ≡ None = e in cc)
    at false (Some k) s e g ih = absurd (let no : Some (suc k) ≡ None = e in cc)
    at false None None e g ih = absurd (let no : None ≡ Some n = g in cc)
    at false None (Some k) e g ih =
        let is : Some (suc k) ≡ Some n = g in
        let same : suc k ≡ n = cc in
        let below : length xs ≤ k = ih k refl refl in omega (arith, same, below)

-- an element that is put at the end unless one passes
pub position-inserted : {A : Type 0} (p : A → Bool) (xs : List A) (y : A) → p y ≡ true → position p (if list_any p xs then xs else xs ++ y ∷ []) ≡ Some (position_or_len p xs)
position-inserted p [] y h = position-cons p y [] ∙ ap (λ b. if b then Some 0 else None) h
position-inserted p (x ∷ xs) y h = at (p x) refl (list_any p xs) refl (position-inserted p xs y h)
  where
    Goal : Bool → Bool → Type 0
    Goal b c = position p (if b || c then x ∷ xs else x ∷ (xs ++ y ∷ [])) ≡ Some (cond (not b) (1 + position_or_len p xs) 0)

    next : suc (position_or_len p xs) ≡ 1 + position_or_len p xs
    next = omega arith

    at : (b : Bool) → p x ≡ b → (c : Bool) → list_any p xs ≡ c → position p (if c then xs else xs ++ y ∷ []) ≡ Some (position_or_len p xs) → Goal b c
    at true e c g ih = position-cons p x xs ∙ ap (λ t. if t then Some 0 else option_map suc (position p xs)) e
    at false e true g ih =
        position-cons p x xs ∙ ap (λ t. if t then Some 0 else option_map suc (position p xs)) e ∙ ap (option_map suc) ih ∙ ap Some next
    at false e false g ih =
        position-cons p x (xs ++ y ∷ []) ∙ ap (λ t. if t then Some 0 else option_map suc (position p (xs ++ y ∷ []))) e ∙ ap (option_map suc) ih ∙ ap Some next

-- Names

pub number-below : (names : List (List ℕ)) (name : List ℕ) (n : ℕ) → number_of names name ≡ Some n → n < length names
number-below names name n e = (position-Some (bytes_eq name) names n [] e).0

-- a name stands at the place that is its number
pub name-at : (names : List (List ℕ)) (name : List ℕ) (n : ℕ) (other : List ℕ) → number_of names name ≡ Some n → name ≡ get_or names n other
name-at names name n other e = (bytes_eq-Decides name (get_or names n other)).0 (position-Some (bytes_eq name) names n other e).1

-- names with the same number are one
pub number-same : (names : List (List ℕ)) (m name : List ℕ) (n : ℕ) → number_of names m ≡ Some n → number_of names name ≡ Some n → m ≡ name
number-same names m name n e g = name-at names m n [] e ∙ sym (name-at names name n [] g)

-- among names that differ

unlike : (m name : List ℕ) → bytes_eq m name ≡ false → bytes_eq name m ≡ false
unlike m name h =
    false_from_ne_true (bytes_eq name m) (λ e. false≢true (sym h ∙ (bytes_eq-Decides m name).1 (sym ((bytes_eq-Decides name m).0 e))))

all-at : {A : Type 0} (P : A → Type 0) (xs : List A) (n : ℕ) (other : A) → AllByRecursion P xs → n < length xs → P (get_or xs n other)
all-at P [] n other all within = absurd (let no : n < 0 = within in omega (arith, no))
all-at P (x ∷ xs) zero other all within = all.0
all-at P (x ∷ xs) (suc n) other all within = all-at P xs n other all.1 (omega (arith, within))

position-distinct : {A : Type 0} (f : A → List ℕ) (xs : List A) (x : A) (n : ℕ) → IsDistinct (λ a b. bytes_eq (f a) (f b)) xs → n < length xs → x ≡ get_or xs n x → position (λ y. bytes_eq (f x) (f y)) xs ≡ Some n
unfolding IsDistinct
position-distinct f [] x n distinct within is = absurd (let no : n < 0 = within in omega (arith, no))
position-distinct f (y ∷ ys) x zero distinct within is =
    position-cons (λ z. bytes_eq (f x) (f z)) y ys
    ∙ ap (λ b. if b then Some 0 else option_map suc (position (λ z. bytes_eq (f x) (f z)) ys)) ((bytes_eq-Decides (f x) (f y)).1 (ap f is))
position-distinct f (y ∷ ys) x (suc n) distinct within is =
    let below : n < length ys = omega (arith, within) in
    let other : bytes_eq (f y) (f (get_or ys n x)) ≡ false = all-at (λ z. bytes_eq (f y) (f z) ≡ false) ys n x distinct.0 below in
    position-cons (λ z. bytes_eq (f x) (f z)) y ys
    ∙ ap (λ b. if b then Some 0 else option_map suc (position (λ z. bytes_eq (f x) (f z)) ys)) (unlike (f y) (f x) (ap (λ z. bytes_eq (f y) (f z)) is ∙ other))
    ∙ ap (option_map suc) (position-distinct f ys x n distinct.1 below is)

-- a name that stands at a place has the number of the place
pub number-of_place : {A : Type 0} (f : A → List ℕ) (xs : List A) (x : A) (n : ℕ) → IsDistinct (λ a b. bytes_eq (f a) (f b)) xs → n < length xs → x ≡ get_or xs n x → number_of (map f xs) (f x) ≡ Some n
number-of_place f xs x n distinct within is = position-map (bytes_eq (f x)) f xs ∙ position-distinct f xs x n distinct within is

pub grows-refl : (names : List (List ℕ)) → Grows names names
grows-refl names = ([], sym (append-nil names))

pub grows-trans : (a b c : List (List ℕ)) → Grows a b → Grows b c → Grows a c
grows-trans a b c g h = (g.0 ++ h.0, h.1 ∙ ap (λ l. l ++ h.0) g.1 ∙ append_assoc a g.0 h.0)

pub grows-length : (old new : List (List ℕ)) → Grows old new → length old ≤ length new
grows-length old new g = let e : length new ≡ length old + length g.0 = ap length g.1 ∙ length-append old g.0 in omega (arith, e)

-- a name that is put at the end unless it is there
pub grows-inserted : {A : Type 0} (f : A → List ℕ) (b : Bool) (xs : List A) (y : A) → Grows (map f xs) (map f (if b then xs else xs ++ y ∷ []))
grows-inserted f true xs y = grows-refl (map f xs)
grows-inserted f false xs y = (f y ∷ [], map-append f xs (y ∷ []))

absent : {A : Type 0} (p : A → Bool) (xs : List A) → position p xs ≡ None → list_any p xs ≡ false
absent p [] e = refl
absent p (x ∷ xs) e = at (p x) refl (position p xs) refl (sym (position-cons p x xs) ∙ e) (absent p xs)
  where
    at : (b : Bool) → p x ≡ b → (r : Option ℕ) → position p xs ≡ r → (if b then Some 0 else option_map suc r) ≡ None → (position p xs ≡ None → list_any p xs ≡ false) → (p x || list_any p xs) ≡ false
    at true h r g e rest = absurd (let no : Some 0 ≡ None = e in cc)
    at false h None g e rest = ap (λ b. b || list_any p xs) h ∙ rest g
    at false h (Some k) g e rest = absurd (let no : Some (suc k) ≡ None = e in cc)

-- a name that has no number goes last
pub names-inserted : {A : Type 0} (f : A → List ℕ) (name : List ℕ) (xs : List A) (y : A) → f y ≡ name → number_of (map f xs) name ≡ None → map f (if list_any (λ n. bytes_eq (f y) (f n)) xs then xs else xs ++ y ∷ []) ≡ map f xs ++ name ∷ []
names-inserted f name xs y is none =
    let unknown : position (λ n. bytes_eq (f y) (f n)) xs ≡ None = sym (position-map (bytes_eq (f y)) f xs) ∙ ap (number_of (map f xs)) is ∙ none in
    ap (λ b. map f (if b then xs else xs ++ y ∷ [])) (absent (λ n. bytes_eq (f y) (f n)) xs unknown)
    ∙ map-append f xs (y ∷ [])
    ∙ ap (λ n. map f xs ++ n ∷ []) is

-- Buckets of names

bucket-at : (names : List (List ℕ)) (n other : ℕ) → n < length names → get_or (map bucket_of names) n other ≡ bucket_of (get_or names n [])
bucket-at [] n other within = absurd (omega (arith, within))
bucket-at (name ∷ names) zero other within = refl
bucket-at (name ∷ names) (suc n) other within = bucket-at names n other (omega (arith, within))

module _ (names : List (List ℕ)) (buckets : List ℕ) (is : buckets ≡ map bucket_of names) (n bucket : ℕ) (within : n < length names) (here : bucket ≡ get_or buckets n bucket) where
  of_place : bucket ≡ bucket_of (get_or names n [])
  of_place = here ∙ ap (λ bs. get_or bs n bucket) is ∙ bucket-at names n bucket within

  -- the bucket of the name that has this number
  pub bucket-of_number : (name : List ℕ) → number_of names name ≡ Some n → bucket ≡ bucket_of name
  bucket-of_number name numbered =
      of_place ∙ ap bucket_of (sym (name-at names name n [] numbered))

  pub bucket-of_number-below : bucket < 16384
  bucket-of_number-below = subst (λ b. b < 16384) (sym of_place) (bucket-below (get_or names n []))

-- Rows

-- a name keeps its number when names grow
pub number-grown : (old new : List (List ℕ)) (name : List ℕ) → Grows old new → has_number old name ≡ true → has_number new name ≡ true
number-grown old new name grows has = at (number_of old name) refl has
  where
    at : (r : Option ℕ) → number_of old name ≡ r → is_some r ≡ true → has_number new name ≡ true
    at None e h = absurd (false≢true h)
    at (Some n) e h = ap (λ names. has_number names name) grows.1 ∙ ap is_some (position-left (bytes_eq name) old grows.0 n e)

-- a row stays when names grow
pub row-grown : {A : Type 0} (old new : List (List ℕ)) (row : List A) (other : A) → Grows old new → length row ≤ length old → in_row new row other ≡ in_row old row other
row-grown old new row other grows within =
    ap (λ names. in_row names row other) grows.1
    ∙ fun_ext (λ name. at name (number_of old name) refl (number_of (old ++ grows.0) name) refl)
  where
    at : (name : List ℕ) (r : Option ℕ) → number_of old name ≡ r → (s : Option ℕ) → number_of (old ++ grows.0) name ≡ s → in_row (old ++ grows.0) row other name ≡ in_row old row other name
    at name (Some n) e s g = ap (entry_at row other) (position-left (bytes_eq name) old grows.0 n e ∙ sym e)
    at name None e None g = ap (entry_at row other) (g ∙ sym e)
    at name None e (Some n) g =
        let past : length old ≤ n = position-right (bytes_eq name) old grows.0 n e g in
        ap (entry_at row other) g ∙ get_or_past row n other (omega (arith, past, within)) ∙ sym (ap (entry_at row other) e)

-- what a row holds for a name that has a number
pub row-at : {A : Type 0} (names : List (List ℕ)) (row : List A) (other : A) (name : List ℕ) (n : ℕ) → number_of names name ≡ Some n → in_row names row other name ≡ get_or row n other
row-at names row other name n e = ap (entry_at row other) e

-- a row after a value is put in for a name, by what it held for the other names
pub row-set : {A : Type 0} (names : List (List ℕ)) (row : List A) (other : A) (name : List ℕ) (n : ℕ) (v : A) (f : List ℕ → A) → number_of names name ≡ Some n → n < length row → v ≡ f name → ((m : List ℕ) → (m ≡ name → ⊥) → in_row names row other m ≡ f m) → in_row names (set row n v) other ≡ f
row-set names row other name n v f e within same others = fun_ext (λ m. by_name m (bytes_eq m name) refl)
  where
    by_number : (m : List ℕ) → (m ≡ name → ⊥) → (r : Option ℕ) → number_of names m ≡ r → in_row names (set row n v) other m ≡ in_row names row other m
    by_number m differs None g = ap (entry_at (set row n v) other) g ∙ sym (ap (entry_at row other) g)
    by_number m differs (Some k) g =
        ap (entry_at (set row n v) other) g
        ∙ get_or-set_other row n k v other (λ is. differs (number-same names m name n (g ∙ ap Some is) e))
        ∙ sym (ap (entry_at row other) g)

    by_name : (m : List ℕ) (b : Bool) → bytes_eq m name ≡ b → in_row names (set row n v) other m ≡ f m
    by_name m true g =
        let is : m ≡ name = (bytes_eq-Decides m name).0 g in
        ap (in_row names (set row n v) other) is ∙ ap (entry_at (set row n v) other) e ∙ get_or-set_same row n v other within ∙ same ∙ ap f (sym is)
    by_name m false g =
        let differs : m ≡ name → ⊥ = λ is. let t : bytes_eq m name ≡ true = (bytes_eq-Decides m name).1 is in let no : true ≡ false = sym t ∙ g in cc in
        by_number m differs (number_of names m) refl ∙ others m differs

get_or-filled : {A : Type 0} (row : List A) (other : A) (k n : ℕ) → get_or (row ++ replicate k other) n other ≡ get_or row n other
get_or-filled [] other k n = get_or-same k n other
get_or-filled (x ∷ row) other k zero = refl
get_or-filled (x ∷ row) other k (suc n) = get_or-filled row other k n

-- a row that is filled up at its end with the other value
row-filled : {A : Type 0} (names : List (List ℕ)) (row : List A) (other : A) (k : ℕ) → in_row names (row ++ replicate k other) other ≡ in_row names row other
row-filled names row other k = fun_ext (λ name. at (number_of names name))
  where
    at : (r : Option ℕ) → entry_at (row ++ replicate k other) other r ≡ entry_at row other r
    at None = refl
    at (Some n) = get_or-filled row other k n

-- one that gets a place for each name
pub row-placed : {A : Type 0} (names : List (List ℕ)) (row row' : List A) (other : A) (n count : ℕ) → row' ≡ take n row ++ replicate (n - count) other → count ≡ length row → n ≡ length names → length row ≤ length names → (in_row names row' other ≡ in_row names row other) × (length row' ≤ length names)
row-placed names row row' other n count made counted all within =
    let least : length row ≤ n = omega (arith, all, within) in
    let whole : row' ≡ row ++ replicate (n - length row) other = made ∙ (λ i. take_all n row least i ++ replicate (n - counted i) other) in
    let count' : length row' ≡ length row + (n - length row) =
    ap length whole ∙ length-append row (replicate (n - length row) other) ∙ ap (λ k. length row + k) (length-replicate (n - length row) other) in
    (ap (λ r. in_row names r other) whole ∙ row-filled names row other (n - length row), omega (arith, count', all, least))

-- a row of nothing but the other value
pub row-empty : {A : Type 0} (names : List (List ℕ)) (other : A) (k : ℕ) → in_row names (replicate k other) other ≡ (λ name. other)
row-empty names other k = fun_ext (λ name. at (number_of names name))
  where
    at : (r : Option ℕ) → entry_at (replicate k other) other r ≡ other
    at None = refl
    at (Some n) = get_or-same k n other
