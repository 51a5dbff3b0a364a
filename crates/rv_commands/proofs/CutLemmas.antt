-- Where line breaks stand, and how they cut an input.
use Rattle.std.proofs.Common.{◌≡◌, ℕ, zero, suc, ◌-◌, ◌<◌, Bool, true, false, ◌||◌, List, [], ◌∷◌, ◌++◌, length, take, drop, refl, ap, sym, ◌∙◌, arith, subst, append_assoc, length-append}
use Rattle.std.specs.Prelude.{nat_eq, Some, None, slice_index, slice_index_or}
use Rattle.std.specs.List.{flat_map, list_any}
use Rattle.std.proofs.lemmas.List.{take_all, append-nil}
use Rattle.std.proofs.lemmas.List.Folds.{list_any-append}
use Rattle.std.proofs.lemmas.List.Splits.{length-slice_split}
use Rattle.memchr.specs.Find.{IsFirstByte, is_byte}
use Rattle.rv_commands.specs.Transcript.{is_line_break, pieces_of, complete_commands, last_piece, unless_empty, commands_of}
use Rattle.rv_commands.specs.Steps.{IsUnbroken, AreUnbroken}
use Rattle.rv_commands.specs.Pages.{ended}

or_false : (a b : Bool) → (a ≡ true → ⊥) → b ≡ false → (a || b) ≡ false
or_false true b h e = absurd (h refl)
or_false false b h e = e

both_false : (a b : Bool) → (a || b) ≡ false → (a ≡ false) × (b ≡ false)
both_false true b e = cc
both_false false b e = (refl, e)

-- no byte before that place is a line break
unbroken_take : (n : ℕ) (bytes : List ℕ) → ((k : ℕ) → k < n → nat_eq (slice_index bytes k) 10 ≡ true → ⊥) → IsUnbroken (take n bytes)
unbroken_take zero bytes h = refl
unbroken_take (suc n) [] h = refl
unbroken_take (suc n) (x ∷ bytes) h = or_false (nat_eq x 10) (list_any is_line_break (take n bytes)) (h 0 (omega arith)) (unbroken_take n bytes (λ k lt. h (suc k) (omega arith)))

-- no line break stands before the first one
pub unbroken_before : (bytes : List ℕ) (at : ℕ) → IsFirstByte (is_byte 10) bytes (Some at) → IsUnbroken (take at bytes)
unbroken_before bytes at f = unbroken_take at bytes (λ k lt. f.0.before k (omega arith) lt)

-- where no line break is found there is none
pub unbroken_none : (bytes : List ℕ) → IsFirstByte (is_byte 10) bytes None → IsUnbroken bytes
unbroken_none bytes f =
    let whole : take (length bytes) bytes ≡ bytes = take_all (length bytes) bytes (omega arith) in
    subst (λ l. IsUnbroken l) whole (unbroken_take (length bytes) bytes (λ k lt. f k (omega arith) lt))

cut_at : (at : ℕ) (bytes : List ℕ) → at < length bytes → nat_eq (slice_index bytes at) 10 ≡ true → bytes ≡ take at bytes ++ (10 ∷ drop 1 (drop at bytes))
cut_at at [] lt e = absurd (omega arith)
cut_at zero (x ∷ bytes) lt e = let same : x ≡ 10 = grind arith in rw same refl
cut_at (suc at) (x ∷ bytes) lt e = ap (λ l. x ∷ l) (cut_at at bytes (omega arith) e)

-- what stands before the first line break, and after it
pub cut_first : (bytes : List ℕ) (at : ℕ) → IsFirstByte (is_byte 10) bytes (Some at) → bytes ≡ take at bytes ++ (10 ∷ drop 1 (drop at bytes))
cut_first bytes at f = cut_at at bytes f.0.high f.1

-- no line break in two pieces joined
pub unbroken_join : (xs ys : List ℕ) → IsUnbroken xs → IsUnbroken ys → IsUnbroken (xs ++ ys)
unbroken_join xs ys a b = list_any-append is_line_break xs ys ∙ rw (a, b) refl

pub unbroken_append : (xs ys : List (List ℕ)) → AreUnbroken xs → AreUnbroken ys → AreUnbroken (xs ++ ys)
unbroken_append [] ys a b = b
unbroken_append (x ∷ xs) ys a b = (a.0, unbroken_append xs ys a.1 b)

-- the first line break ends the first piece
pieces_ended : (command more : List ℕ) → IsUnbroken command → pieces_of (command ++ (10 ∷ more)) ≡ command ∷ pieces_of more
pieces_ended [] more e = refl
pieces_ended (b ∷ command) more e =
    let parts = both_false (nat_eq b 10) (list_any is_line_break command) e in
    rw (parts.0, pieces_ended command more parts.1) refl

-- bytes without a line break are one piece
pieces_unbroken : (bytes : List ℕ) → IsUnbroken bytes → pieces_of bytes ≡ bytes ∷ []
pieces_unbroken [] e = refl
pieces_unbroken (b ∷ bytes) e =
    let parts = both_false (nat_eq b 10) (list_any is_line_break bytes) e in
    rw (parts.0, pieces_unbroken bytes parts.1) refl

pieces_prefix : (commands : List (List ℕ)) (more : List ℕ) → AreUnbroken commands → pieces_of (flat_map ended commands ++ more) ≡ commands ++ pieces_of more
pieces_prefix [] more u = refl
pieces_prefix (command ∷ commands) more u =
    let regrouped : flat_map ended (command ∷ commands) ++ more ≡ command ++ (10 ∷ (flat_map ended commands ++ more)) = simp append_assoc in
    ap pieces_of regrouped
    ∙ pieces_ended command (flat_map ended commands ++ more) u.0
    ∙ ap (λ l. command ∷ l) (pieces_prefix commands more u.1)

-- all but the last of two lists joined
take_but_last : (xs ys : List (List ℕ)) → 0 < length ys → take (length (xs ++ ys) - 1) (xs ++ ys) ≡ xs ++ take (length ys - 1) ys
take_but_last [] ys some = refl
take_but_last (x ∷ xs) ys some =
    let count : length (x ∷ (xs ++ ys)) - 1 ≡ suc (length (xs ++ ys) - 1) = omega (arith, length-append xs ys) in
    rw count (ap (λ l. x ∷ l) (take_but_last xs ys some))

-- commands that were cut off are the first complete ones
pub complete_prefix : (commands : List (List ℕ)) (more : List ℕ) → AreUnbroken commands → complete_commands (flat_map ended commands ++ more) ≡ commands ++ complete_commands more
complete_prefix commands more u =
    let some : 0 < length (pieces_of more) = omega (arith, length-slice_split is_line_break more) in
    rw (pieces_prefix commands more u) (take_but_last commands (pieces_of more) some)

-- no command is complete without a line break
pub complete_unbroken : (rest : List ℕ) → IsUnbroken rest → complete_commands rest ≡ []
complete_unbroken rest u = rw (pieces_unbroken rest u) refl

last_of : (xs : List (List ℕ)) (y : List ℕ) → slice_index_or (xs ++ y ∷ []) (length (xs ++ y ∷ []) - 1) [] ≡ y
last_of [] y = refl
last_of (x ∷ xs) y =
    let count : length (x ∷ (xs ++ y ∷ [])) - 1 ≡ suc (length (xs ++ y ∷ []) - 1) = omega (arith, length-append xs (y ∷ [])) in
    rw count (last_of xs y)

-- the commands of an input that was cut into commands and a last piece
pub commands_whole : (commands : List (List ℕ)) (rest : List ℕ) → AreUnbroken commands → IsUnbroken rest → commands_of (flat_map ended commands ++ rest) ≡ commands ++ unless_empty rest
commands_whole commands rest u last =
    let complete : complete_commands (flat_map ended commands ++ rest) ≡ commands = rw (complete_prefix commands rest u, complete_unbroken rest last) (append-nil commands) in
    let after_it : last_piece (flat_map ended commands ++ rest) ≡ rest = rw (pieces_prefix commands rest u, pieces_unbroken rest last) (last_of commands rest) in
    rw (complete, after_it) refl

-- pending bytes are the start of the first command that a chunk ends
pub cut_joined : (pending chunk command next : List ℕ) (at : ℕ) → IsFirstByte (is_byte 10) chunk (Some at) → command ≡ pending ++ take at chunk → next ≡ drop 1 (drop at chunk) → pending ++ chunk ≡ command ++ (10 ∷ next)
cut_joined pending chunk command next at f e n =
    rw (e, n) (ap (λ l. pending ++ l) (cut_first chunk at f) ∙ sym (append_assoc pending (take at chunk) (10 ∷ drop 1 (drop at chunk))))
