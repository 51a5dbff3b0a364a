-- Advances joined: their unit, that the join is associative, and what it does.
use Rattle.std.proofs.Common.{◌≡◌, ℕ, ◌+◌, ◌-◌, ◌%◌, ◌*◌, ◌/◌, ◌^◌, ◌<◌, ◌≤◌, ◌⊎◌, inl, inr, arith, ap, sym, ◌∙◌, refl, subst}
use Rattle.std.proofs.Math.Nat.{add-mod-mod, mod-add-mod, mod-mod, add-mul-mod_self_right, mod-eq_of_lt, mul_assoc}
use Rattle.std.proofs.lemmas.Nat.{mod_below, div-add-mod', pow-add, pow_pos}
use Rattle.std.proofs.lemmas.Bool.{le-leb, lt-leb, cases_lt}
use Rattle.rv_layout.specs.declared.advance.Advance.{Advance}
use Rattle.rv_layout.specs.Rounding.{round_up}
use Rattle.rv_layout.specs.RoundingLaws.{round_up-add_mul, round_up-multiple, round_up-round_up}
use Rattle.rv_layout.specs.Advances.{advance_of, wrap, up, advanced, then_exact, reduced, then_advance, no_advance, IsAdvance}

-- a power is a multiple of a smaller one
pow_multiple : (m k : ℕ) → m ≤ k → 2 ^ k ≡ 2 ^ (k - m) * 2 ^ m
pow_multiple m k h = let e : k ≡ k - m + m = omega arith in ap (λ n. 2 ^ n) e ∙ pow-add 2 (k - m) m

up-up : (x m k : ℕ) → m ≤ k → up (up x m) k ≡ up x k
up-up x m k h =
    let e = pow_multiple m k h in
    let P : ℕ → Type 0 = λ n. round_up (round_up x (2 ^ m)) n ≡ round_up x n in
    subst P (sym e) (round_up-round_up x (2 ^ m) (2 ^ (k - m)) (pow_pos m) (pow_pos (k - m)))

up-shift : (x j m k : ℕ) → m ≤ k → up (x + j * 2 ^ k) m ≡ up x m + j * 2 ^ k
up-shift x j m k h =
    let e : j * 2 ^ k ≡ j * 2 ^ (k - m) * 2 ^ m = ap (λ n. j * n) (pow_multiple m k h) ∙ sym (mul_assoc j (2 ^ (k - m)) (2 ^ m)) in
    let P : ℕ → Type 0 = λ n. round_up (x + n) (2 ^ m) ≡ round_up x (2 ^ m) + n in
    subst P (sym e) (round_up-add_mul x (j * 2 ^ (k - m)) (2 ^ m))

up-multiple : (x k : ℕ) → (i : ℕ) × (up x k ≡ i * 2 ^ k)
up-multiple x k = round_up-multiple x (2 ^ k) (pow_pos k)

up-add-up : (x y m k : ℕ) → m ≤ k → up (x + up y k) m ≡ up x m + up y k
up-add-up x y m k h =
    let (i, e) = up-multiple y k in
    let P : ℕ → Type 0 = λ n. up (x + n) m ≡ up x m + n in
    subst P (sym e) (up-shift x i m k h)

-- the same, the multiple in front
up-up-add : (x y m k : ℕ) → m ≤ k → up (up y k + x) m ≡ up y k + up x m
up-up-add x y m k h =
    let turn : up y k + x ≡ x + up y k = omega arith in
    let there : up (up y k + x) m ≡ up (x + up y k) m = ap (λ n. up n m) turn in
    omega (arith, there, up-add-up x y m k h)

-- a finer rounding of one part before a coarser one of the sum: either part will do
up-either : (x y m n : ℕ) → m ≤ n → up (x + up y m) n ≡ up (up x m + y) n
up-either x y m n h =
    let refl_le : m ≤ m = omega arith in
    let left : up (x + up y m) m ≡ up x m + up y m = up-add-up x y m m refl_le in
    let right : up (up x m + y) m ≡ up x m + up y m = up-up-add y x m m refl_le in
    sym (up-up (x + up y m) m n h) ∙ ap (λ z. up z n) (left ∙ sym right) ∙ up-up (up x m + y) m n h

up-zero : (x : ℕ) → up x 0 ≡ x
up-zero x = omega (arith, mod_below (1 - x % 1) 1 (omega arith))

-- the join over all numbers

finer : (p q : Advance) → q.exponent ≤ p.exponent → then_exact p q ≡ advance_of p.before p.exponent (up (p.after + q.before) q.exponent + q.after)
finer p q h = rw (le-leb q.exponent p.exponent h) refl

coarser : (p q : Advance) → p.exponent < q.exponent → then_exact p q ≡ advance_of (p.before + up (p.after + q.before) p.exponent) q.exponent q.after
coarser p q h = rw (lt-leb q.exponent p.exponent h) refl

pub then_exact_assoc : (p q r : Advance) → then_exact (then_exact p q) r ≡ then_exact p (then_exact q r)
then_exact_assoc p q r = at (cases_lt p.exponent q.exponent) (cases_lt q.exponent r.exponent) (cases_lt p.exponent r.exponent)
  where
    a : ℕ
    a = p.before

    k : ℕ
    k = p.exponent

    m : ℕ
    m = q.exponent

    n : ℕ
    n = r.exponent

    bc : ℕ
    bc = p.after + q.before

    de : ℕ
    de = q.after + r.before

    pq : Advance
    pq = advance_of a k (up bc m + q.after)

    pq' : Advance
    pq' = advance_of (a + up bc k) m q.after

    qr : Advance
    qr = advance_of q.before m (up de n + r.after)

    qr' : Advance
    qr' = advance_of (q.before + up de m) n r.after

    moved : p.after + (q.before + up de m) ≡ bc + up de m
    moved = omega arith

    turn : up bc m + q.after + r.before ≡ up bc m + de
    turn = omega arith

    at : (k < m) ⊎ (m ≤ k) → (m < n) ⊎ (n ≤ m) → (k < n) ⊎ (n ≤ k) → then_exact (then_exact p q) r ≡ then_exact p (then_exact q r)
    at (inl kq) (inl l) pr =
        let le : k ≤ m = omega arith in
        let less : k < n = omega arith in
        let t : a + up bc k + up de m ≡ a + up (p.after + (q.before + up de m)) k = omega (arith, ap (λ z. up z k) moved, up-add-up bc de k m le) in
        ap (λ s. then_exact s r) (coarser p q kq) ∙ coarser pq' r l ∙ ap (λ z. advance_of z n r.after) t ∙ sym (coarser p qr' less) ∙ sym (ap (then_exact p) (coarser q r l))
    at (inl kq) (inr l) pr =
        ap (λ s. then_exact s r) (coarser p q kq) ∙ finer pq' r l ∙ sym (coarser p qr kq) ∙ sym (ap (then_exact p) (finer q r l))
    at (inr qp) (inr l) pr =
        let le : n ≤ k = omega arith in
        ap (λ s. then_exact s r) (finer p q qp) ∙ finer pq r le
        ∙ ap (λ z. advance_of a k z) (omega (arith, ap (λ z. up z n) turn, up-up-add de bc n m l))
        ∙ sym (finer p qr qp) ∙ sym (ap (then_exact p) (finer q r l))
    at (inr qp) (inl l) (inl pr) =
        let same : up (up bc m + q.after + r.before) k ≡ up (p.after + (q.before + up de m)) k = ap (λ z. up z k) turn ∙ sym (up-either bc de m k qp) ∙ sym (ap (λ z. up z k) moved) in
        ap (λ s. then_exact s r) (finer p q qp) ∙ coarser pq r pr ∙ ap (λ z. advance_of (a + z) n r.after) same ∙ sym (coarser p qr' pr) ∙ sym (ap (then_exact p) (coarser q r l))
    at (inr qp) (inl l) (inr rp) =
        let le : m ≤ n = omega arith in
        let same : up (up bc m + q.after + r.before) n ≡ up (p.after + (q.before + up de m)) n = ap (λ z. up z n) turn ∙ sym (up-either bc de m n le) ∙ sym (ap (λ z. up z n) moved) in
        ap (λ s. then_exact s r) (finer p q qp) ∙ finer pq r rp ∙ ap (λ z. advance_of a k (z + r.after)) same ∙ sym (finer p qr' rp) ∙ sym (ap (then_exact p) (coarser q r l))

-- modulo 2 ^ 32

same_advance : (a a' e b b' : ℕ) → a ≡ a' → b ≡ b' → advance_of a e b ≡ advance_of a' e b'
same_advance a a' e b b' p q = ap (λ n. advance_of n e b) p ∙ ap (λ n. advance_of a' e n) q

wrap_wrap : (x : ℕ) → wrap (wrap x) ≡ wrap x
wrap_wrap x = mod-mod x (2 ^ 32)

pub same_sum : (x x' y y' : ℕ) → wrap x ≡ wrap x' → wrap y ≡ wrap y' → wrap (x + y) ≡ wrap (x' + y')
same_sum x x' y y' p q =
    sym (mod-add-mod x (2 ^ 32) y)
    ∙ ap (λ n. wrap (n + y)) p
    ∙ mod-add-mod x' (2 ^ 32) y
    ∙ sym (add-mod-mod x' y (2 ^ 32))
    ∙ ap (λ n. wrap (x' + n)) q
    ∙ add-mod-mod x' y' (2 ^ 32)

up-wrap : (x m : ℕ) → m ≤ 32 → wrap (up (wrap x) m) ≡ wrap (up x m)
up-wrap x m h =
    let j : ℕ = x / 2 ^ 32 in
    let parts : x ≡ wrap x + j * 2 ^ 32 = omega (arith, div-add-mod' x (2 ^ 32)) in
    let shifted : up x m ≡ up (wrap x) m + j * 2 ^ 32 = omega (arith, ap (λ n. up n m) parts, up-shift (wrap x) j m 32 h) in
    sym (ap wrap shifted ∙ add-mul-mod_self_right (up (wrap x) m) j (2 ^ 32))

pub same_up : (x y m : ℕ) → m ≤ 32 → wrap x ≡ wrap y → wrap (up x m) ≡ wrap (up y m)
same_up x y m h e = sym (up-wrap x m h) ∙ ap (λ n. wrap (up n m)) e ∙ up-wrap y m h

-- numbers that are the same modulo 2 ^ 32 give the same join
same_then : (a a' b b' c c' d d' k m : ℕ) → m ≤ 32 → wrap a ≡ wrap a' → wrap b ≡ wrap b' → wrap c ≡ wrap c' → wrap d ≡ wrap d' → then_advance (advance_of a k b) (advance_of c m d) ≡ then_advance (advance_of a' k b') (advance_of c' m d')
same_then a a' b b' c c' d d' k m h ea eb ec ed = at (cases_lt k m)
  where
    p : Advance
    p = advance_of a k b

    p' : Advance
    p' = advance_of a' k b'

    q : Advance
    q = advance_of c m d

    q' : Advance
    q' = advance_of c' m d'

    at : (k < m) ⊎ (m ≤ k) → then_advance p q ≡ then_advance p' q'
    at (inl l) =
        let less : k ≤ 32 = omega arith in
        ap reduced (coarser p q l)
        ∙ same_advance _ _ m _ _ (same_sum a a' _ _ ea (same_up (b + c) (b' + c') k less (same_sum b b' c c' eb ec))) ed
        ∙ sym (ap reduced (coarser p' q' l))
    at (inr l) =
        ap reduced (finer p q l)
        ∙ same_advance _ _ k _ _ ea (same_sum _ _ d d' (same_up (b + c) (b' + c') m h (same_sum b b' c c' eb ec)) ed)
        ∙ sym (ap reduced (finer p' q' l))

joined_exponent : (q r : Advance) → q.exponent ≤ 32 → r.exponent ≤ 32 → (then_exact q r).exponent ≤ 32
joined_exponent q r g h = at (cases_lt q.exponent r.exponent)
  where
    at : (q.exponent < r.exponent) ⊎ (r.exponent ≤ q.exponent) → (then_exact q r).exponent ≤ 32
    at (inl l) = rw (coarser q r l) h
    at (inr l) = rw (finer q r l) g

pub then_advance_assoc : (p q r : Advance) → q.exponent ≤ 32 → r.exponent ≤ 32 → then_advance (then_advance p q) r ≡ then_advance p (then_advance q r)
then_advance_assoc p q r g h =
    let s = then_exact p q in
    let t = then_exact q r in
    same_then (wrap s.before) s.before (wrap s.after) s.after r.before r.before r.after r.after s.exponent r.exponent h (wrap_wrap s.before) (wrap_wrap s.after) refl refl
    ∙ ap reduced (then_exact_assoc p q r)
    ∙ sym (same_then p.before p.before p.after p.after (wrap t.before) t.before (wrap t.after) t.after p.exponent t.exponent (joined_exponent q r g h) refl refl (wrap_wrap t.before) (wrap_wrap t.after))

pub no_advance-then : (s : Advance) → IsAdvance s → then_advance no_advance s ≡ s
no_advance-then s h = at (cases_lt 0 s.exponent)
  where
    sum : 0 + s.before ≡ s.before
    sum = omega arith

    start : 0 + up (0 + s.before) 0 ≡ s.before
    start = omega (arith, up-zero (0 + s.before))

    at : (0 < s.exponent) ⊎ (s.exponent ≤ 0) → then_advance no_advance s ≡ s
    at (inl l) =
        ap reduced (coarser no_advance s l)
        ∙ same_advance _ _ s.exponent _ _ (ap wrap start ∙ mod-eq_of_lt h.before_fits) (mod-eq_of_lt h.after_fits)
    at (inr l) =
        let none : s.exponent ≡ 0 = omega arith in
        let ahead : s.before ≡ 0 = h.plain none in
        let rounded : up (0 + s.before) s.exponent + s.after ≡ s.after =
        ap (λ e. up (0 + s.before) e + s.after) none ∙ omega (arith, up-zero (0 + s.before), ahead) in
        ap reduced (finer no_advance s l)
        ∙ same_advance _ _ 0 _ _ (mod-eq_of_lt (pow_pos 32)) (ap wrap rounded ∙ mod-eq_of_lt h.after_fits)
        ∙ ap (λ n. advance_of n 0 s.after) (sym ahead)
        ∙ ap (λ n. advance_of s.before n s.after) (sym none)

pub then-no_advance : (s : Advance) → IsAdvance s → then_advance s no_advance ≡ s
then-no_advance s h =
    let le : 0 ≤ s.exponent = omega arith in
    let same : up (s.after + 0) 0 + 0 ≡ s.after = omega (arith, up-zero (s.after + 0)) in
    ap reduced (finer s no_advance le)
    ∙ same_advance _ _ s.exponent _ _ (mod-eq_of_lt h.before_fits) (ap wrap same ∙ mod-eq_of_lt h.after_fits)

pub then_advance-IsAdvance : (p q : Advance) → IsAdvance p → IsAdvance q → IsAdvance (then_advance p q)
then_advance-IsAdvance p q hp hq = at (cases_lt p.exponent q.exponent)
  where
    at : (p.exponent < q.exponent) ⊎ (q.exponent ≤ p.exponent) → IsAdvance (then_advance p q)
    at (inl l) =
        subst IsAdvance (sym (ap reduced (coarser p q l)))
        (record {
          small = hq.small;
          before_fits = mod_below _ _ (pow_pos 32);
          after_fits = mod_below _ _ (pow_pos 32);
          plain = λ none. absurd (let no : p.exponent < 0 = omega (arith, none, l) in omega (arith, no));
        })
    at (inr l) =
        subst IsAdvance (sym (ap reduced (finer p q l)))
        (record {
          small = hp.small;
          before_fits = mod_below _ _ (pow_pos 32);
          after_fits = mod_below _ _ (pow_pos 32);
          plain = λ none. ap wrap (hp.plain none) ∙ mod-eq_of_lt (pow_pos 32);
        })

-- what joined advances do to an offset

exactly_advanced : Advance → ℕ → ℕ
exactly_advanced s x = up (x + s.before) s.exponent + s.after

exactly_advanced-then : (p q : Advance) (x : ℕ) → exactly_advanced (then_exact p q) x ≡ exactly_advanced q (exactly_advanced p x)
unfolding exactly_advanced
exactly_advanced-then p q x = at (cases_lt p.exponent q.exponent)
  where
    bc : ℕ
    bc = p.after + q.before

    turn : up (x + p.before) p.exponent + p.after + q.before ≡ up (x + p.before) p.exponent + bc
    turn = omega arith

    at : (p.exponent < q.exponent) ⊎ (q.exponent ≤ p.exponent) → exactly_advanced (then_exact p q) x ≡ exactly_advanced q (exactly_advanced p x)
    at (inl l) =
        let le : p.exponent ≤ q.exponent = omega arith in
        let there : x + (p.before + up bc p.exponent) ≡ x + p.before + up bc p.exponent = omega arith in
        ap (λ s. exactly_advanced s x) (coarser p q l)
        ∙ ap (λ n. n + q.after)
        (ap (λ n. up n q.exponent) there
        ∙ up-either (x + p.before) bc p.exponent q.exponent le
        ∙ ap (λ n. up n q.exponent) (sym turn))
    at (inr l) =
        ap (λ s. exactly_advanced s x) (finer p q l)
        ∙ omega (arith, up-up-add bc (x + p.before) q.exponent p.exponent l, ap (λ n. up n q.exponent) turn)

pub advanced-same : (s : Advance) (x y : ℕ) → s.exponent ≤ 32 → wrap x ≡ wrap y → advanced s x ≡ advanced s y
advanced-same s x y h e =
    same_sum _ _ s.after s.after (same_up (x + s.before) (y + s.before) s.exponent h (same_sum x y s.before s.before e refl)) refl

advanced-reduced : (s : Advance) (x : ℕ) → s.exponent ≤ 32 → advanced (reduced s) x ≡ advanced s x
advanced-reduced s x h =
    same_sum _ _ (wrap s.after) s.after
    (same_up (x + wrap s.before) (x + s.before) s.exponent h (same_sum x x (wrap s.before) s.before refl (wrap_wrap s.before)))
    (wrap_wrap s.after)

pub advanced-then : (p q : Advance) (x : ℕ) → p.exponent ≤ 32 → q.exponent ≤ 32 → advanced (then_advance p q) x ≡ advanced q (advanced p x)
unfolding exactly_advanced
advanced-then p q x g h =
    advanced-reduced (then_exact p q) x (joined_exponent p q g h)
    ∙ ap wrap (exactly_advanced-then p q x)
    ∙ sym (advanced-same q (wrap (exactly_advanced p x)) (exactly_advanced p x) h (wrap_wrap (exactly_advanced p x)))

pub advanced-bytes : (n x : ℕ) → advanced (advance_of 0 0 n) x ≡ wrap (x + n)
advanced-bytes n x = ap wrap (let e : up (x + 0) 0 ≡ x + 0 = up-zero (x + 0) in omega (arith, e))

pub advanced-aligned : (e x : ℕ) → advanced (advance_of 0 e 0) x ≡ wrap (round_up x (2 ^ e))
advanced-aligned e x =
    ap wrap
    (let z : x + 0 ≡ x = omega arith in
    let f : up (x + 0) e ≡ up x e = ap (λ n. up n e) z in
    omega (arith, f))

-- what the code computes with numbers below 2 ^ 32

pub code-finer : (p q : Advance) (r : ℕ) → IsAdvance p → IsAdvance q → q.exponent ≤ p.exponent → r ≡ wrap (up (wrap (p.after + q.before)) q.exponent) → advance_of p.before p.exponent (wrap (r + q.after)) ≡ then_advance p q
code-finer p q r hp hq l e =
    let small : q.exponent ≤ 32 = omega (arith, hq.small) in
    let rounded : wrap r ≡ wrap (up (p.after + q.before) q.exponent) = ap wrap e ∙ wrap_wrap _ ∙ up-wrap (p.after + q.before) q.exponent small in
    same_advance _ _ p.exponent _ _ (sym (mod-eq_of_lt hp.before_fits)) (same_sum r _ q.after q.after rounded refl)
    ∙ sym (ap reduced (finer p q l))

pub code-coarser : (p q : Advance) (r : ℕ) → IsAdvance p → IsAdvance q → p.exponent < q.exponent → r ≡ wrap (up (wrap (p.after + q.before)) p.exponent) → advance_of (wrap (p.before + r)) q.exponent q.after ≡ then_advance p q
code-coarser p q r hp hq l e =
    let small : p.exponent ≤ 32 = omega (arith, hp.small) in
    let rounded : wrap r ≡ wrap (up (p.after + q.before) p.exponent) = ap wrap e ∙ wrap_wrap _ ∙ up-wrap (p.after + q.before) p.exponent small in
    same_advance _ _ q.exponent _ _ (same_sum p.before p.before r _ refl rounded) (sym (mod-eq_of_lt hq.after_fits))
    ∙ sym (ap reduced (coarser p q l))

pub code-advanced : (s : Advance) (x r : ℕ) → IsAdvance s → r ≡ wrap (up (wrap (x + s.before)) s.exponent) → wrap (r + s.after) ≡ advanced s x
code-advanced s x r h e =
    let small : s.exponent ≤ 32 = omega (arith, h.small) in
    same_sum r _ s.after s.after (ap wrap e ∙ wrap_wrap _ ∙ up-wrap (x + s.before) s.exponent small) refl
