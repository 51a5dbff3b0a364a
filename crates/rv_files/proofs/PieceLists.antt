-- Bytes in pieces.
use Rattle.std.proofs.Common.{◌≡◌, ℕ, zero, suc, ◌+◌, ◌-◌, ◌<◌, ◌≤◌, List, [], ◌∷◌, ◌++◌, length, take, drop, get_or, refl, ap, sym, subst, ◌∙◌, append_assoc, ◌⊎◌, inl, inr, arith}
use Rattle.std.specs.Prelude.{Some, None, slice_get, replicate}
use Rattle.std.proofs.lemmas.List.{append-nil, take_all, drop_all, length-append, replicate-append-replicate}
use Rattle.std.proofs.lemmas.List.Concat.{flat_map-append}
use Rattle.std.proofs.lemmas.List.Elements.{All-append, All-cons, All-head, All-nil, All-tail}
use Rattle.std.proofs.lemmas.Option.{none-some, slice_get_cases, slice_get_within, get_or_from_slice_get}
use Rattle.std.proofs.Math.Seq.{take-append_seam, drop-append_seam}
use Rattle.rv_text.specs.SliceLaws.{first_and_rest}
use Rattle.rv_files.specs.declared.pieces.Piece.{Piece}
use Rattle.rv_files.specs.Pieces.{HoldsBytes, bytes_of_piece, bytes_of_pieces}
use Rattle.rv_files.specs.Segments.{AreBytes}
use Rattle.rv_files.proofs.Bytes.{bytes_none, bytes_append}

-- one piece more
pub pieces_more : (ps : List Piece) (p : Piece) → bytes_of_pieces (ps ++ p ∷ []) ≡ bytes_of_pieces ps ++ bytes_of_piece p
pieces_more ps p = flat_map-append bytes_of_piece ps (p ∷ []) ∙ ap (λ l. bytes_of_pieces ps ++ l) (append-nil (bytes_of_piece p))

pub holds_more : (ps : List Piece) (p : Piece) → HoldsBytes ps → AreBytes (bytes_of_piece p) → HoldsBytes (ps ++ p ∷ [])
holds_more ps p before here =
    let P : Piece → Type 0 = λ q. AreBytes (bytes_of_piece q) in
    All-append P ps (p ∷ []) before (All-cons P p [] here (All-nil P))

pub holds_all : (ps : List Piece) → HoldsBytes ps → AreBytes (bytes_of_pieces ps)
holds_all [] held = bytes_none
holds_all (p ∷ ps) held =
    let P : Piece → Type 0 = λ q. AreBytes (bytes_of_piece q) in
    bytes_append (bytes_of_piece p) (bytes_of_pieces ps) (All-head P p ps held) (holds_all ps (All-tail P p ps held))

-- the first piece, and the others
pub next_piece : (ps : List Piece) (p : Piece) → 1 ≤ length ps → p ≡ get_or ps 0 p → bytes_of_pieces ps ≡ bytes_of_piece p ++ bytes_of_pieces (take (length ps - 1) (drop 1 ps))
next_piece ps p some is =
    let later = take (length ps - 1) (drop 1 ps) in
    ap bytes_of_pieces (first_and_rest ps p some)
    ∙ ap (λ (q : Piece). bytes_of_piece q ++ bytes_of_pieces later) (sym is)

-- a byte of the first of two lists is taken
pub drop_at : (xs ys : List ℕ) (n byte : ℕ) → slice_get xs n ≡ Some byte → drop n (xs ++ ys) ≡ byte ∷ drop (n + 1) (xs ++ ys)
drop_at xs ys n byte found =
    let next : suc n ≡ n + 1 = omega arith in
    at xs n (slice_get_within xs n byte found) (get_or_from_slice_get xs n byte byte found) ∙ ap (λ m. byte ∷ drop m (xs ++ ys)) next
  where
    at : (xs : List ℕ) (n : ℕ) → n < length xs → get_or xs n byte ≡ byte → drop n (xs ++ ys) ≡ byte ∷ drop (suc n) (xs ++ ys)
    at [] n within is = absurd (omega arith)
    at (x ∷ xs) zero within is = ap (λ b. b ∷ (xs ++ ys)) is
    at (x ∷ xs) (suc n) within is = at xs n (omega arith) is

-- all of it were taken before
pub drop_past : (xs ys : List ℕ) (n : ℕ) → length xs ≤ n → drop n (xs ++ ys) ≡ drop (n - length xs) ys
drop_past [] ys n past =
    let all : n ≡ n - 0 = omega arith in
    ap (λ m. drop m ys) all
drop_past (x ∷ xs) ys zero past = absurd (omega arith)
drop_past (x ∷ xs) ys (suc n) past =
    let count : n - length xs ≡ suc n - length (x ∷ xs) = omega arith in
    drop_past xs ys n (omega arith) ∙ ap (λ m. drop m ys) count

-- there is no byte at a place past the end
pub past_end : (xs : List ℕ) (n : ℕ) → slice_get xs n ≡ None → length xs ≤ n
past_end xs n none = at ((slice_get_cases xs n).1) where
  at : ((x : ℕ) × (n < length xs) × (slice_get xs n ≡ Some x) × (get_or xs n x ≡ x)) ⊎ ((length xs ≤ n) × (slice_get xs n ≡ None)) → length xs ≤ n
  at (inl found) = absurd (none-some found.0 (sym none ∙ found.2))
  at (inr past) = past.0

-- what is left was all that there was
pub taken_all : (row left all : List ℕ) → row ++ left ≡ all → left ≡ [] → length row ≤ 16 → (row ≡ take 16 all) × (left ≡ drop 16 all)
taken_all row left all whole none few =
    let same : row ≡ all = sym (append-nil row) ∙ ap (λ l. row ++ l) (sym none) ∙ whole in
    let short : length all ≤ 16 = rw (← same) few in
    (same ∙ sym (take_all 16 all short), none ∙ sym (drop_all 16 all short))

-- sixteen bytes were taken
pub taken_full : (row left all : List ℕ) → row ++ left ≡ all → length row ≡ 16 → (row ≡ take 16 all) × (left ≡ drop 16 all)
taken_full row left all whole full =
    let prefix : take (length row) (row ++ left) ≡ row = take-append_seam row left in
    let back : drop (length row) (row ++ left) ≡ left = drop-append_seam row left in
    let prefix' = rw (full, whole) at prefix in
    let back' = rw (full, whole) at back in (sym prefix', sym back')

-- a block of bytes, and the others
pub next_block : (size left byte : ℕ) → size < left → replicate {A = ℕ} left byte ≡ replicate {A = ℕ} size byte ++ replicate (left - size) byte
next_block size left byte more =
    let count : size + (left - size) ≡ left = omega (arith, more) in
    sym (replicate-append-replicate {A = ℕ} size (left - size) byte ∙ ap (λ n. replicate {A = ℕ} n byte) count)
