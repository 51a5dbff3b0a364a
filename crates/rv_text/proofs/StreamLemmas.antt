-- What a part of a write takes.
use Rattle.std.proofs.Common.{◌≡◌, ℕ, ◌+◌, List, take, drop, Option, Some, None, ap, sym, ◌∙◌}
use Rattle.std.proofs.Math.Seq.{take-add}
use Rattle.std.proofs.lemmas.List.{take-append-drop}
use Rattle.std.specs.Io.KnownBytes.{Appends, Keeps}
use Rattle.rv_text.specs.Streams.{after, WritesPrefix}
use Rattle.rv_text.specs.StreamLaws.{after_after, prefix_whole}

-- one more slice of the bytes
pub after_take_more : (old : Option (List ℕ)) (bytes : List ℕ) (n m : ℕ) → after (after old (take n bytes)) (take m (drop n bytes)) ≡ after old (take (n + m) bytes)
after_take_more old bytes n m = after_after old (take n bytes) (take m (drop n bytes)) ∙ ap (λ l. after old l) (sym (take-add n m bytes))

-- a part of the bytes is a prefix of them
pub prefix_taken : (old new : Option (List ℕ)) (bytes : List ℕ) (n : ℕ) → new ≡ after old (take n bytes) → WritesPrefix old bytes new
prefix_taken old new bytes n e = prefix_whole old new (take n bytes) (drop n bytes) bytes (sym (take-append-drop n bytes)) e

-- what was appended stays where nothing changes after it
pub appends_kept : (old mid new : Option (List ℕ)) (bytes : List ℕ) → Appends old mid bytes → Keeps mid new → Appends old new bytes
appends_kept None mid new bytes appended kept = tt
appends_kept (Some xs) None new bytes appended kept = absurd appended
appends_kept (Some xs) (Some ys) None bytes appended kept = absurd kept
appends_kept (Some xs) (Some ys) (Some zs) bytes appended kept = kept ∙ appended
