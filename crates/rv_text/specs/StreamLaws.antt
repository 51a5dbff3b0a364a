-- What several reads or writes in a row do.
use Rattle.std.proofs.Common.{◌≡◌, ℕ, List, [], ◌++◌, Option, Some, None, Result, Ok, Err, refl, ap, sym, append_assoc}
use Rattle.std.proofs.lemmas.List.{append-nil}
use Rattle.rv_text.specs.Streams.{before, after, Writes, WritesPrefix}

-- two writes are one of both texts
pub after_after : (old : Option (List ℕ)) (xs ys : List ℕ) → after (after old xs) ys ≡ after old (xs ++ ys)
after_after None xs ys = refl
after_after (Some prefix) xs ys = ap (λ l. Some l) (append_assoc prefix xs ys)

-- a write of nothing
pub after_none : (old : Option (List ℕ)) → after old [] ≡ old
after_none None = refl
after_none (Some prefix) = ap (λ l. Some l) (append-nil prefix)

-- two reads are one of both texts
pub before_before : (old : Option (List ℕ)) (xs ys : List ℕ) → before xs (before ys old) ≡ before (xs ++ ys) old
before_before None xs ys = refl
before_before (Some rest) xs ys = ap (λ l. Some l) (sym (append_assoc xs ys rest))

-- a read of nothing
pub before_none : (old : Option (List ℕ)) → before [] old ≡ old
before_none None = refl
before_none (Some rest) = refl

-- nothing taken is a prefix of every text
pub prefix_none : (old : Option (List ℕ)) (text : List ℕ) → WritesPrefix old text old
prefix_none old text = record { prefix = []; rest = text; whole = refl; taken = sym (after_none old) }

-- all of a text is a prefix of it and more
pub prefix_whole : (old new : Option (List ℕ)) (part more text : List ℕ) → text ≡ part ++ more → new ≡ after old part → WritesPrefix old text new
prefix_whole old new part more text e t = record { prefix = part; rest = more; whole = e; taken = t }

-- a prefix of the first part
pub prefix_first : (old new : Option (List ℕ)) (part more text : List ℕ) → text ≡ part ++ more → WritesPrefix old part new → WritesPrefix old text new
prefix_first old new part more text e w = record {
  prefix = w.prefix;
  rest = w.rest ++ more;
  whole = rw (e, w.whole) (append_assoc w.prefix w.rest more);
  taken = w.taken;
}

-- a prefix of a part, after what was taken before it and with more to come
pub prefix_within : (old mid new : Option (List ℕ)) (done part more text : List ℕ) → text ≡ (done ++ part) ++ more → mid ≡ after old done → WritesPrefix mid part new → WritesPrefix old text new
prefix_within old mid new done part more text e m w = record {
  prefix = done ++ w.prefix;
  rest = w.rest ++ more;
  whole = rw (e, w.whole) (simp append_assoc);
  taken = rw (w.taken, m) (after_after old done w.prefix);
}

-- a prefix of the last part
pub prefix_last : (old mid new : Option (List ℕ)) (done part text : List ℕ) → text ≡ done ++ part → mid ≡ after old done → WritesPrefix mid part new → WritesPrefix old text new
prefix_last old mid new done part text e m w = record {
  prefix = done ++ w.prefix;
  rest = w.rest;
  whole = rw (e, w.whole) (simp append_assoc);
  taken = rw (w.taken, m) (after_after old done w.prefix);
}

-- a write after one that was taken whole, whether it is taken or fails
pub writes_then : {A E : Type 0} (old mid new : Option (List ℕ)) (done part : List ℕ) (result : Result A E) → mid ≡ after old done → Writes mid part result new → Writes old (done ++ part) result new
writes_then old mid new done part (Ok _) m w = rw (w, m) (after_after old done part)
writes_then old mid new done part (Err _) m w = prefix_last old mid new done part _ refl m w
