-- What is gathered and written in several steps.
use Rattle.std.proofs.Common.{◌≡◌, ℕ, List, [], ◌++◌, Option, Result, Ok, Err, sym, ◌∙◌, append_assoc}
use Rattle.std.proofs.lemmas.List.{append-nil}
use Rattle.rv_text.specs.Streams.{after, Writes, WritesPrefix}
use Rattle.rv_text.specs.Blocks.{Waits, Gathers}
use Rattle.rv_text.specs.StreamLaws.{after_after, after_none, prefix_first}

-- no text
pub waits_none : (t : Option (List ℕ)) (p : List ℕ) → Waits t p [] t p
waits_none t p = record { prefix = []; whole = append-nil p; taken = sym (after_none t) }

-- what was waiting and the text are written
pub waits_written : (t0 t1 t2 : Option (List ℕ)) (p text p1 : List ℕ) → t1 ≡ after t0 p → p1 ≡ [] → t2 ≡ after t1 text → Waits t0 p text t2 p1
waits_written t0 t1 t2 p text p1 a n b = record {
  prefix = p ++ text;
  whole = rw n (sym (append-nil (p ++ text)));
  taken = rw (b, a) (after_after t0 p text);
}

-- two texts are one of both
pub waits_then : (t0 t1 t2 : Option (List ℕ)) (p0 p1 p2 xs ys : List ℕ) → Waits t0 p0 xs t1 p1 → Waits t1 p1 ys t2 p2 → Waits t0 p0 (xs ++ ys) t2 p2
waits_then t0 t1 t2 p0 p1 p2 xs ys a b = record {
  prefix = a.prefix ++ b.prefix;
  whole = sym (append_assoc p0 xs ys) ∙ rw (a.whole, append_assoc a.prefix p1 ys, b.whole) (sym (append_assoc a.prefix b.prefix p2));
  taken = rw (b.taken, a.taken) (after_after t0 a.prefix b.prefix);
}

-- a write fails within the next text
pub waits_lost : (t0 t1 t2 : Option (List ℕ)) (p0 p1 xs ys : List ℕ) → Waits t0 p0 xs t1 p1 → WritesPrefix t1 (p1 ++ ys) t2 → WritesPrefix t0 (p0 ++ (xs ++ ys)) t2
waits_lost t0 t1 t2 p0 p1 xs ys a w = record {
  prefix = a.prefix ++ w.prefix;
  rest = w.rest;
  whole = sym (append_assoc p0 xs ys) ∙ rw (a.whole, append_assoc a.prefix p1 ys, w.whole) (sym (append_assoc a.prefix w.prefix w.rest));
  taken = rw (w.taken, a.taken) (after_after t0 a.prefix w.prefix);
}

-- what is waiting is written
pub waits_end : (t0 t1 t2 : Option (List ℕ)) (p1 text : List ℕ) → Waits t0 [] text t1 p1 → t2 ≡ after t1 p1 → t2 ≡ after t0 text
waits_end t0 t1 t2 p1 text a e = rw (e, a.taken, a.whole) (after_after t0 a.prefix p1)

-- a write fails within what is waiting
pub waits_end_lost : (t0 t1 t2 : Option (List ℕ)) (p1 text : List ℕ) → Waits t0 [] text t1 p1 → WritesPrefix t1 p1 t2 → WritesPrefix t0 text t2
waits_end_lost t0 t1 t2 p1 text a w = record {
  prefix = a.prefix ++ w.prefix;
  rest = w.rest;
  whole = rw (a.whole, w.whole) (sym (append_assoc a.prefix w.prefix w.rest));
  taken = rw (w.taken, a.taken) (after_after t0 a.prefix w.prefix);
}

-- what is waiting is written, or a prefix of it
pub waits_writes : {A E : Type 0} (t0 t1 t2 : Option (List ℕ)) (p1 text : List ℕ) (result : Result A E) → Waits t0 [] text t1 p1 → Writes t1 p1 result t2 → Writes t0 text result t2
waits_writes t0 t1 t2 p1 text (Ok _) a e = waits_end t0 t1 t2 p1 text a e
waits_writes t0 t1 t2 p1 text (Err _) a w = waits_end_lost t0 t1 t2 p1 text a w

-- a text is gathered after another, or a write fails within it
pub gathers_then : {A E : Type 0} (t0 t1 t2 : Option (List ℕ)) (p0 p1 p2 xs ys : List ℕ) (result : Result A E) → Waits t0 p0 xs t1 p1 → Gathers t1 p1 ys result t2 p2 → Gathers t0 p0 (xs ++ ys) result t2 p2
gathers_then t0 t1 t2 p0 p1 p2 xs ys (Ok _) a g = waits_then t0 t1 t2 p0 p1 p2 xs ys a g
gathers_then t0 t1 t2 p0 p1 p2 xs ys (Err _) a g = waits_lost t0 t1 t2 p0 p1 xs ys a g

-- a write fails within the first part of a text
pub lost_first : (t0 t1 : Option (List ℕ)) (p xs more : List ℕ) → WritesPrefix t0 (p ++ xs) t1 → WritesPrefix t0 (p ++ (xs ++ more)) t1
lost_first t0 t1 p xs more w = prefix_first t0 t1 (p ++ xs) more (p ++ (xs ++ more)) (sym (append_assoc p xs more)) w
