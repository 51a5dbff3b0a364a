-- The lengths of strings and characters, and their spellings.
use Rattle.std.proofs.Common.{◌≡◌, ℕ, zero, suc, ◌+◌, ◌-◌, ◌<◌, ◌≤◌, Bool, true, false, cond, List, [], ◌∷◌, ◌++◌, length, take, drop, get_or, Option, Some, None, option_map, ⊎_elim, sym, refl, subst, ap, ◌∙◌, arith, length-drop, length-append}
use Rattle.std.specs.Prelude.{◌==◌, option_and_then}
use Rattle.std.proofs.lemmas.Bool.{cases_Bool, cond-true, cond-false, eqb-true}
use Rattle.std.proofs.lemmas.List.{drop-append-le, drop-take}
use Rattle.rv_text.specs.declared.strings.Spelling.{Spelling}
use Rattle.rv_text.specs.Lexical.{EndsString, closing, spelling, EndsCharacter}
use Rattle.rv_text.specs.Strings.{spelled, string_len, char_len, may_stand}
use Rattle.rv_text.proofs.StringSteps.{string_len-taken, string_len-cons}
use Rattle.rv_text.proofs.SpellingLemmas.{spelled_len, spelled_take, spelled_append}

-- what a step along a string finds
record Step (bs : List ℕ) (b n : ℕ) : Type 0 where
  only : Spelling
  stands : spelled (b ∷ bs) ≡ Some only
  rest : ℕ
  after : string_len (only.len - 1) bs ≡ Some rest
  all : n ≡ rest + 1

one_more : (o : Option ℕ) (n : ℕ) → option_map (λ n. n + 1) o ≡ Some n → (m : ℕ) × (o ≡ Some m) × (n ≡ m + 1)
one_more None n h = absurd cc
one_more (Some m) n h = (m, refl, cc)

moved : (o : Option ℕ) (k n : ℕ) → option_map (λ n. n + k) o ≡ Some n → (m : ℕ) × (o ≡ Some m) × (n ≡ m + k)
moved None k n h = absurd cc
moved (Some m) k n h = (m, refl, cc)

stepped : (o : Option Spelling) (bs : List ℕ) (b n : ℕ) → spelled (b ∷ bs) ≡ o → option_and_then (λ s. option_map (λ n. n + 1) (string_len (s.len - 1) bs)) o ≡ Some n → Step bs b n
stepped None bs b n e h = absurd cc
stepped (Some s) bs b n e h =
    let (m, after, all) = one_more (string_len (s.len - 1) bs) n h in
    record { only = s; stands = e; rest = m; after = after; all = all }

step_of : (b n : ℕ) (bs : List ℕ) → (b == 0x22) ≡ false → string_len 0 (b ∷ bs) ≡ Some n → Step bs b n
step_of b n bs other h = stepped (spelled (b ∷ bs)) bs b n refl (sym (cond-false (b == 0x22) _ _ other) ∙ h)

-- the bytes up to the end of a string are those of one
pub record IsClosed (bs : List ℕ) (n : ℕ) : Type 0 where
  pub fits : n ≤ length bs
  pub ends : EndsString (take n bs)

first_closed : (b n : ℕ) (bs : List ℕ) → (b == 0x22) ≡ true → string_len 0 (b ∷ bs) ≡ Some n → IsClosed (b ∷ bs) n
first_closed b n bs quote h =
    let is : b ≡ 0x22 = eqb-true b 0x22 quote in
    let one : 1 ≡ n = (let e : Some 1 ≡ Some n = sym (cond-true (b == 0x22) _ _ quote) ∙ h in cc) in
    subst (λ n. IsClosed (b ∷ bs) n) one (record { fits = omega arith; ends = rw is closing })

dropped : (l k b : ℕ) (bs : List ℕ) → l ≡ suc k → drop l (b ∷ bs) ≡ drop k bs
dropped l k b bs e = rw e refl

dropped_take : (l k m b : ℕ) (bs : List ℕ) → l ≡ suc k → drop l (take (suc (k + m)) (b ∷ bs)) ≡ take m (drop k bs)
dropped_take l k m b bs e = rw e (drop-take k m bs)

pub string_sound : (fuel n : ℕ) (bs : List ℕ) → length bs ≤ fuel → string_len 0 bs ≡ Some n → IsClosed bs n
string_sound fuel n [] enough h = absurd cc
string_sound zero n (b ∷ bs) enough h = absurd (omega arith)
string_sound (suc fuel) n (b ∷ bs) enough h =
    ⊎_elim
    (λ (quote : (b == 0x22) ≡ true). first_closed b n bs quote h)
    (λ (other : (b == 0x22) ≡ false).
    let step = step_of b n bs other h in
    let s = step.only in
    let len = spelled_len (b ∷ bs) s step.stands in
    let k = s.len - 1 in
    let within : k ≤ length bs = omega (arith, len.1) in
    let (m, stands, is) = moved (string_len 0 (drop k bs)) k step.rest (sym (string_len-taken k bs within) ∙ step.after) in
    let closed = string_sound fuel m (drop k bs) (rw length-drop (omega arith)) stands in
    let fits = rw (length-drop k bs) at closed.fits in
    let all : n ≡ suc (k + m) = omega (arith, step.all) in
    let rest = dropped_take s.len k m b bs (omega (arith, len.0)) in
    rw all (record {
      fits = omega (arith, fits);
      ends =
          spelling b (take (k + m) bs) s other (spelled_take (suc (k + m)) (b ∷ bs) s step.stands (omega arith)) (subst EndsString (sym rest) closed.ends);
    }))
    (cases_Bool (b == 0x22))

-- and the bytes of a string end where it ends, whatever stands after it
ends_some : (bs : List ℕ) → EndsString bs → 1 ≤ length bs
ends_some [] e = elim e [ ]
ends_some (b ∷ bs) e = omega arith

pub string_complete : {bs : List ℕ} (rest : List ℕ) → EndsString bs → string_len 0 (bs ++ rest) ≡ Some (length bs)
string_complete rest closing = refl
string_complete rest (spelling b bs s other stands more) =
    let len = spelled_len (b ∷ bs) s stands in
    let left = rw (length-drop s.len (b ∷ bs)) at (ends_some (drop s.len (b ∷ bs)) more) in
    let k = s.len - 1 in
    let within : k ≤ length bs = omega (arith, left) in
    let here = spelled_append (b ∷ bs) rest s stands (omega (arith, left)) in
    let cons = string_len-cons b (bs ++ rest) (b ∷ (bs ++ rest)) s refl other here in
    let taken = string_len-taken k (bs ++ rest) (rw length-append (omega arith)) in
    let next = subst (λ xs. string_len 0 (xs ++ rest) ≡ Some (length xs)) (dropped s.len k b bs (omega (arith, len.0))) (string_complete rest more) in
    let after : string_len k (bs ++ rest) ≡ Some (length (drop k bs) + k) =
    taken ∙ ap (option_map (λ n. n + k)) (ap (string_len 0) (drop-append-le k bs rest within) ∙ next) in
    let all : length (drop k bs) + k + 1 ≡ length (b ∷ bs) = rw length-drop (omega arith) in
    cons ∙ ap (option_map (λ n. n + 1)) after ∙ ap Some all

-- the same for characters
pub record IsCharacter (b n : ℕ) (bs : List ℕ) : Type 0 where
  pub size : ℕ
  pub is : n ≡ suc size
  pub fits : size ≤ length bs
  pub ends : EndsCharacter b (take size bs)

quote_length : (xs : List ℕ) (i : ℕ) → (get_or xs i 0 == 0x27) ≡ true → i < length xs
quote_length [] i h = absurd cc
quote_length (x ∷ xs) zero h = omega arith
quote_length (x ∷ xs) (suc i) h = omega (arith, quote_length xs i h)

last_one : (xs : List ℕ) (i : ℕ) → (get_or xs i 0 == 0x27) ≡ true → drop i (take (suc i) xs) ≡ 0x27 ∷ []
last_one [] i h = absurd cc
last_one (x ∷ xs) zero h = ap (λ y. y ∷ []) (eqb-true x 0x27 h)
last_one (x ∷ xs) (suc i) h = last_one xs i h

closed_at : (t : Bool) (l n : ℕ) → cond t (Some (l + 1)) None ≡ Some n → (t ≡ true) × (n ≡ suc l)
closed_at true l n h = (refl, (let e : l + 1 ≡ n = cc in omega arith))
closed_at false l n h = absurd cc

character_from : (o : Option Spelling) (b n : ℕ) (bs : List ℕ) → spelled (b ∷ bs) ≡ o → may_stand b ≡ true → option_and_then (λ s. cond (get_or (b ∷ bs) s.len 0 == 0x27) (Some (s.len + 1)) None) o ≡ Some n → IsCharacter b n bs
character_from None b n bs e stands h = absurd cc
character_from (Some s) b n bs e stands h =
    let closing = closed_at (get_or (b ∷ bs) s.len 0 == 0x27) s.len n h in
    let fits = quote_length (b ∷ bs) s.len closing.0 in
    record {
      size = s.len;
      is = closing.1;
      fits = omega (arith, fits);
      ends = record {
        stands = stands;
        only = s;
        spells = spelled_take (suc s.len) (b ∷ bs) s e (omega arith);
        closed = last_one (b ∷ bs) s.len closing.0;
      };
    }

pub character_sound : (b n : ℕ) (bs : List ℕ) → char_len (b ∷ bs) ≡ Some n → IsCharacter b n bs
character_sound b n bs h =
    ⊎_elim
    (λ (stands : may_stand b ≡ true). character_from (spelled (b ∷ bs)) b n bs refl stands (sym (cond-true (may_stand b) _ _ stands) ∙ h))
    (λ (other : may_stand b ≡ false). absurd (let e : None ≡ Some n = sym (cond-false (may_stand b) _ _ other) ∙ h in cc))
    (cases_Bool (may_stand b))

-- what stands at the place of a last element
last_at : (xs rest : List ℕ) (i : ℕ) → drop i xs ≡ 0x27 ∷ [] → (get_or (xs ++ rest) i 0 ≡ 0x27) × (length xs ≡ suc i)
last_at [] rest zero h = absurd cc
last_at [] rest (suc i) h = absurd cc
last_at (x ∷ xs) rest zero h =
    let head : x ≡ 0x27 = cc in
    let tail : xs ≡ [] = cc in
    (head, (let none : length xs ≡ 0 = ap length tail in omega arith))
last_at (x ∷ xs) rest (suc i) h = let more = last_at xs rest i h in (more.0, omega (arith, more.1))

pub character_complete : (b : ℕ) (bs rest : List ℕ) → EndsCharacter b bs → char_len (b ∷ (bs ++ rest)) ≡ Some (length (b ∷ bs))
character_complete b bs rest e =
    let s = e.only in
    let last = last_at (b ∷ bs) rest s.len e.closed in
    let here = spelled_append (b ∷ bs) rest s e.spells (omega (arith, last.1)) in
    let quote : (get_or (b ∷ (bs ++ rest)) s.len 0 == 0x27) ≡ true = rw last.0 refl in
    let all : s.len + 1 ≡ length (b ∷ bs) = omega (arith, last.1) in
    cond-true (may_stand b) _ _ e.stands
    ∙ ap (λ o. option_and_then (λ (s : Spelling). cond (get_or (b ∷ (bs ++ rest)) s.len 0 == 0x27) (Some (s.len + 1)) None) o) here
    ∙ cond-true (get_or (b ∷ (bs ++ rest)) s.len 0 == 0x27) _ _ quote
    ∙ ap Some all
