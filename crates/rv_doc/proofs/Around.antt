-- The lines of a text of which whole lines were replaced.
use Rattle.std.proofs.Common.{◌≡◌, ℕ, ◌<◌, Bool, true, false, List, [], ◌∷◌, ◌++◌, length, refl, ap, sym, ◌∙◌, arith, append_assoc}
use Rattle.std.specs.Prelude.{nat_eq, ◌==◌, count_by}
use Rattle.std.specs.List.{onto_first}
use Rattle.std.proofs.lemmas.List.{append-nil}
use Rattle.std.proofs.lemmas.List.Splits.{length-slice_split}
use Rattle.rv_doc.specs.Positions.{lines_of}

abbrev breaks : List ℕ → ℕ
breaks text = count_by (λ b. b == 10) text

onto_first_append : (x : ℕ) (xs ys : List (List ℕ)) → 0 < length xs → onto_first x (xs ++ ys) ≡ onto_first x xs ++ ys
onto_first_append x [] ys some = absurd (omega arith)
onto_first_append x (first ∷ xs) ys some = refl

some_lines : (text : List ℕ) → 0 < length (lines_of text)
some_lines text = omega (arith, length-slice_split (λ b. b == 10) text)

join_by : (x : ℕ) (b : Bool) → nat_eq x 10 ≡ b → (xs ys : List ℕ) → lines_of (xs ++ 10 ∷ ys) ≡ lines_of xs ++ lines_of ys → lines_of (x ∷ (xs ++ 10 ∷ ys)) ≡ lines_of (x ∷ xs) ++ lines_of ys
join_by x true e xs ys h = rw (e, h) refl
join_by x false e xs ys h = rw (e, h) (onto_first_append x (lines_of xs) (lines_of ys) (some_lines xs))

-- the lines of two texts with a line break between them
pub lines_join : (xs ys : List ℕ) → lines_of (xs ++ 10 ∷ ys) ≡ lines_of xs ++ lines_of ys
lines_join [] ys = refl
lines_join (x ∷ xs) ys = join_by x (nat_eq x 10) refl xs ys (lines_join xs ys)

-- some bytes that are whole lines with their line breaks behind them
pub data EndsLines : List ℕ → List (List ℕ) → Type 0 where
  None : EndsLines [] []
  Some : (text : List ℕ) → EndsLines (text ++ 10 ∷ []) (lines_of text)

-- and with their line breaks before them
pub data BeginsLines : List ℕ → List (List ℕ) → Type 0 where
  None : BeginsLines [] []
  Some : (text : List ℕ) → BeginsLines (10 ∷ text) (lines_of text)

behind : (mid post : List ℕ) (after : List (List ℕ)) → BeginsLines post after → lines_of (mid ++ post) ≡ lines_of mid ++ after
behind mid [] [] BeginsLines.None = rw (append-nil mid) (sym (append-nil (lines_of mid)))
behind mid _ _ (BeginsLines.Some text) = lines_join mid text

-- the lines of a text are those before the middle, those of the middle and those behind it
pub lines_around : (pre mid post : List ℕ) (before after : List (List ℕ)) → EndsLines pre before → BeginsLines post after → lines_of (pre ++ (mid ++ post)) ≡ before ++ (lines_of mid ++ after)
lines_around pre mid post before after EndsLines.None b = behind mid post after b
lines_around pre mid post before after (EndsLines.Some text) b =
    ap lines_of (append_assoc text (10 ∷ []) (mid ++ post)) ∙ lines_join text (mid ++ post) ∙ ap (λ l. lines_of text ++ l) (behind mid post after b)
