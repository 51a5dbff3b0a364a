-- A text is the rows of one list of records at most.
use Rattle.std.proofs.Common.{◌≡◌, ℕ, suc, ◌+◌, ◌/◌, ◌%◌, ◌<◌, ◌≤◌, subst, Bool, true, false, List, [], ◌∷◌, ◌++◌, length, take, refl, ap, sym, ◌∙◌, arith, append_assoc}
use Rattle.std.specs.Prelude.{nat_lt, if◌then◌else◌}
use Rattle.std.specs.List.{flat_map}
use Rattle.std.proofs.Math.Seq.{take-append_seam}
use Rattle.std.proofs.lemmas.Bool.Decides.{nat_tests}
use Rattle.std.proofs.lemmas.List.{length-append}
use Rattle.rv_show.specs.Digits.{upper_digit, upper_hex}
use Rattle.rv_files.specs.Hex.{Record, bytes_of_record, row_text}
use Rattle.rv_files.specs.HexLoading.{IsRow, AreRows}
use Rattle.rv_files.specs.Segments.{AreBytes}
use Rattle.rv_files.proofs.Bytes.{bytes_cons, bytes_none}

same_digit : (a b : ℕ) → a < 16 → b < 16 → upper_digit a ≡ upper_digit b → a ≡ b
same_digit a b la lb e = at (nat_lt a 10) (nat_lt b 10) refl refl e
  where
    at : (p q : Bool) → nat_lt a 10 ≡ p → nat_lt b 10 ≡ q → (if p then 48 + a else 55 + a) ≡ (if q then 48 + b else 55 + b) → a ≡ b
    at true true p q e = omega (arith, e)
    at true false p q e =
        let low : a < 10 = grind (arith, nat_tests, p) in
        let high : 10 ≤ b = grind (arith, nat_tests, q) in omega (arith, e, low, high)
    at false true p q e =
        let high : 10 ≤ a = grind (arith, nat_tests, p) in
        let low : b < 10 = grind (arith, nat_tests, q) in omega (arith, e, low, high)
    at false false p q e = omega (arith, e)

cons_parts : (x y : ℕ) (xs ys : List ℕ) → x ∷ xs ≡ y ∷ ys → (x ≡ y) × (xs ≡ ys)
cons_parts x y xs ys e = ((cc), (cc))

-- the digits of as many bytes tell these, and what comes after them
same_bytes : (xs ys a b : List ℕ) → AreBytes xs → AreBytes ys → length xs ≡ length ys → flat_map upper_hex xs ++ a ≡ flat_map upper_hex ys ++ b → (xs ≡ ys) × (a ≡ b)
same_bytes [] [] a b hx hy n e = (refl, e)
same_bytes [] (y ∷ ys) a b hx hy n e = absurd (omega (arith, n))
same_bytes (x ∷ xs) [] a b hx hy n e = absurd (omega (arith, n))
same_bytes (x ∷ xs) (y ∷ ys) a b hx hy n e =
    let first = cons_parts (upper_digit (x / 16)) (upper_digit (y / 16)) (upper_digit (x % 16) ∷ (flat_map upper_hex xs ++ a)) (upper_digit (y % 16) ∷ (flat_map upper_hex ys ++ b)) e in
    let second = cons_parts (upper_digit (x % 16)) (upper_digit (y % 16)) (flat_map upper_hex xs ++ a) (flat_map upper_hex ys ++ b) first.1 in
    let small : x < 256 = hx 0 in
    let small' : y < 256 = hy 0 in
    let high = same_digit (x / 16) (y / 16) (omega (arith, small)) (omega (arith, small')) first.0 in
    let low = same_digit (x % 16) (y % 16) (omega arith) (omega arith) second.0 in
    let same : x ≡ y = omega (arith, high, low) in
    let others = same_bytes xs ys a b (λ i. hx (suc i)) (λ i. hy (suc i)) (omega (arith, n)) second.1 in
    (ap (λ z. z ∷ xs) same ∙ ap (λ zs. y ∷ zs) others.0, others.1)

row_parts : (bytes rest : List ℕ) → row_text bytes ++ rest ≡ 58 ∷ (flat_map upper_hex bytes ++ (10 ∷ rest))
unfolding row_text
row_parts bytes rest = ap (λ l. 58 ∷ l) (append_assoc (flat_map upper_hex bytes) (10 ∷ []) rest)

same_record : (r s : Record) → r.kind ≡ s.kind → r.offset ≡ s.offset → r.content ≡ s.content → r ≡ s
same_record r s k o c =
    ap (λ x. record { kind = x; offset = r.offset; content = r.content }) k
    ∙ ap (λ x. record { kind = s.kind; offset = x; content = r.content }) o
    ∙ ap (λ x. record { kind = s.kind; offset = s.offset; content = x }) c

-- a row tells its record, and what comes after it
same_row : (row row' rest rest' : List ℕ) (r s : Record) → IsRow row r → IsRow row' s → row ++ rest ≡ row' ++ rest' → (r ≡ s) × (rest ≡ rest')
same_row row row' rest rest' r s p q e =
    let xs = bytes_of_record r ++ p.check ∷ [] in
    let ys = bytes_of_record s ++ q.check ∷ [] in
    let rows : 58 ∷ (flat_map upper_hex xs ++ (10 ∷ rest)) ≡ 58 ∷ (flat_map upper_hex ys ++ (10 ∷ rest')) =
    sym (row_parts xs rest) ∙ ap (λ l. l ++ rest) (sym p.text) ∙ e ∙ ap (λ l. l ++ rest') q.text ∙ row_parts ys rest' in
    let digits = (cons_parts 58 58 (flat_map upper_hex xs ++ (10 ∷ rest)) (flat_map upper_hex ys ++ (10 ∷ rest')) rows).1 in
    let tail = r.offset / 256 ∷ r.offset % 256 ∷ r.kind ∷ (r.content ++ p.check ∷ []) in
    let tail' = s.offset / 256 ∷ s.offset % 256 ∷ s.kind ∷ (s.content ++ q.check ∷ []) in
    let counts = (same_bytes (length r.content ∷ []) (length s.content ∷ []) (flat_map upper_hex tail ++ (10 ∷ rest)) (flat_map upper_hex tail' ++ (10 ∷ rest')) (bytes_cons (length r.content) [] (p.bytes 0) bytes_none) (bytes_cons (length s.content) [] (q.bytes 0) bytes_none) refl digits).0 in
    let count : length r.content ≡ length s.content = (cons_parts (length r.content) (length s.content) [] [] counts).0 in
    let size : length xs ≡ length ys = omega (arith, count, length-append (bytes_of_record r) (p.check ∷ []), length-append (bytes_of_record s) (q.check ∷ [])) in
    let all = same_bytes xs ys (10 ∷ rest) (10 ∷ rest') p.bytes q.bytes size digits in
    let parts = (cons_parts (length r.content) (length s.content) tail tail' all.0).1 in
    let high = cons_parts (r.offset / 256) (s.offset / 256) (r.offset % 256 ∷ r.kind ∷ (r.content ++ p.check ∷ [])) (s.offset % 256 ∷ s.kind ∷ (s.content ++ q.check ∷ [])) parts in
    let low = cons_parts (r.offset % 256) (s.offset % 256) (r.kind ∷ (r.content ++ p.check ∷ [])) (s.kind ∷ (s.content ++ q.check ∷ [])) high.1 in
    let kind = cons_parts r.kind s.kind (r.content ++ p.check ∷ []) (s.content ++ q.check ∷ []) low.1 in
    let content : r.content ≡ s.content =
    sym (take-append_seam r.content (p.check ∷ []))
    ∙ ap (take (length r.content)) kind.1
    ∙ ap (λ n. take n (s.content ++ q.check ∷ [])) count
    ∙ take-append_seam s.content (q.check ∷ []) in
    (same_record r s kind.0 (omega (arith, high.0, low.0)) content, (cons_parts 10 10 rest rest' all.1).1)

-- a row is not empty
no_row : (row rest : List ℕ) (r : Record) → IsRow row r → row ++ rest ≡ [] → ⊥
no_row row rest r p e =
    let begins : 58 ∷ (flat_map upper_hex (bytes_of_record r ++ p.check ∷ []) ++ (10 ∷ rest)) ≡ [] =
    sym (row_parts (bytes_of_record r ++ p.check ∷ []) rest) ∙ ap (λ l. l ++ rest) (sym p.text) ∙ e in
    cc begins

pub same_rows : (text : List ℕ) (rs ss : List Record) → AreRows text rs → AreRows text ss → rs ≡ ss
same_rows text [] [] a b = refl
same_rows text [] (s ∷ ss) a b = absurd (no_row b.0 b.1 s b.3 (sym b.2 ∙ a))
same_rows text (r ∷ rs) [] a b = absurd (no_row a.0 a.1 r a.3 (sym a.2 ∙ b))
same_rows text (r ∷ rs) (s ∷ ss) a b =
    let same = same_row a.0 b.0 a.1 b.1 r s a.3 b.3 (sym a.2 ∙ b.2) in
    let later : AreRows a.1 ss = subst (λ l. AreRows l ss) (sym same.1) b.4 in
    ap (λ x. x ∷ rs) same.0 ∙ ap (λ l. s ∷ l) (same_rows a.1 rs ss a.4 later)
