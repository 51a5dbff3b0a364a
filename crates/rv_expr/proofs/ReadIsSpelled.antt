-- What is read is what the grammar spells: by one recursion over the roles that are left, with those that were taken kept
-- beside what waits.
use Rattle.std.proofs.Common.{◌≡◌, ℕ, zero, suc, ◌+◌, ◌-◌, ◌<◌, ◌≤◌, List, [], ◌∷◌, ◌++◌, Option, Some, None, sym, refl, ap, ◌∙◌, subst, append_assoc, arith, ⊎_elim}
use Rattle.std.proofs.lemmas.Bool.{lt-leb, le-leb, cases_lt}
use Rattle.std.proofs.lemmas.List.{append-nil}
use Rattle.std.proofs.lemmas.Option.{none-some, same_Some}
use Rattle.rv_expr.specs.declared.tree.BinaryOp.{BinaryOp}
use Rattle.rv_expr.specs.declared.tree.BinaryOp.TheVariants.{Mul, Div, Rem, Shl, Shr, And, Or, Xor, Add, Sub}
use Rattle.rv_expr.specs.declared.tree.UnaryOp.{UnaryOp}
use Rattle.rv_expr.specs.Tree.{Tree, Unary, Binary, level}
use Rattle.rv_expr.specs.TokenRoles.{TokenRole, Operand, Operator, Open, Close}
use Rattle.rv_expr.specs.declared.reading.Pending.{Pending}
use Rattle.rv_expr.specs.declared.reading.Pending.TheVariants.{Before, After, Parenthesis}
use Rattle.rv_expr.specs.Reading.{signed, joined, closed, alone, expecting_operand, after_operand}
use Rattle.rv_expr.proofs.RoleGrammar.{RolesSpell, atom, parens, unary, binary, looser}
use Rattle.rv_expr.proofs.SpelledIsRead.{Above}

level-pos : (op : BinaryOp) → 0 < level op
level-pos Mul = omega arith
level-pos Div = omega arith
level-pos Rem = omega arith
level-pos Shl = omega arith
level-pos Shr = omega arith
level-pos And = omega arith
level-pos Or = omega arith
level-pos Xor = omega arith
level-pos Add = omega arith
level-pos Sub = omega arith

-- the same roles, grouped in two ways
regroup_after : (ds qs : List TokenRole) (p : TokenRole) (rs : List TokenRole) → ds ++ (qs ++ p ∷ rs) ≡ (ds ++ (qs ++ p ∷ [])) ++ rs
regroup_after ds qs p rs = simp append_assoc

regrouped : (ds rs ps cs qs : List TokenRole) → ds ++ rs ≡ cs ++ qs → ds ++ (rs ++ ps) ≡ cs ++ (qs ++ ps)
regrouped ds rs ps cs qs h = sym (append_assoc ds rs ps) ∙ ap (λ xs. xs ++ ps) h ∙ append_assoc cs qs ps

operator_regrouped : (ds rs : List TokenRole) (p : TokenRole) (ps cs qs : List TokenRole) → ds ++ rs ≡ cs ++ qs → (ds ++ (rs ++ p ∷ [])) ++ ps ≡ cs ++ (qs ++ p ∷ ps)
operator_regrouped ds rs p ps cs qs h = sym (regroup_after ds rs p ps) ∙ regrouped ds rs (p ∷ ps) cs qs h

close_regrouped : (ds rs ps is js cs qs : List TokenRole) → ds ++ rs ≡ is ++ (js ++ Close ∷ []) → is ++ js ≡ cs ++ qs → ds ++ (rs ++ ps) ≡ cs ++ (qs ++ Close ∷ ps)
close_regrouped ds rs ps is js cs qs h g =
    regrouped ds rs ps is (js ++ Close ∷ []) h
    ∙ ap (λ xs. is ++ xs) (append_assoc js (Close ∷ []) ps)
    ∙ regrouped is js (Close ∷ ps) cs qs g

-- the roles that have been taken are those of what waits
abbrev Stands : List Pending → List TokenRole → Type 0
Stands [] cs = cs ≡ []
Stands (Before op ∷ ws) cs =
    (b : Option BinaryOp) × (ds : List TokenRole) × Stands ws ds × (cs ≡ ds ++ Operator (Some op) b ∷ [])
Stands (After op a ∷ ws) cs =
    (u : Option UnaryOp) × (ds qs : List TokenRole) × Stands ws ds × Above (level op) ws × RolesSpell (level op) qs a × (cs ≡ ds ++ (qs ++ Operator u (Some op) ∷ []))
Stands (Parenthesis ∷ ws) cs = (ds : List TokenRole) × Stands ws ds × (cs ≡ ds ++ Open ∷ [])

raised : (n k : ℕ) (qs : List TokenRole) (e : Tree) → RolesSpell k qs e → RolesSpell (n + k) qs e
raised zero k qs e s = subst (λ m. RolesSpell m qs e) (omega arith) s
raised (suc n) k qs e s =
    let up : suc (n + k) ≡ suc n + k = omega arith in
    subst (λ m. RolesSpell m qs e) up (looser (raised n k qs e s))

lifted : (k bound : ℕ) (qs : List TokenRole) (e : Tree) → k ≤ bound → RolesSpell k qs e → RolesSpell bound qs e
lifted k bound qs e le s =
    let there : (bound - k) + k ≡ bound = omega arith in
    subst (λ m. RolesSpell m qs e) there (raised (bound - k) k qs e s)

-- what waits, what was taken for it, and after it an operand of roles that the grammar spells
record Found (bound : ℕ) (cs qs : List TokenRole) (next : List Pending → Tree → Option Tree) (t : Tree) : Type 0 where
  ws : List Pending
  ds : List TokenRole
  rs : List TokenRole
  e : Tree
  stands : Stands ws ds
  above : Above bound ws
  spells : RolesSpell bound rs e
  same : ds ++ rs ≡ cs ++ qs
  goes : next ws e ≡ Some t

binary-at : (op : BinaryOp) (u : Option UnaryOp) (k : ℕ) (ps qs : List TokenRole) (a b : Tree) → k < level op → RolesSpell (level op) ps a → RolesSpell k qs b → RolesSpell (level op) (ps ++ Operator u (Some op) ∷ qs) (Binary op a b)
binary-at op u k ps qs a b lt s t =
    let below = level op - 1 in
    let is : level op ≡ suc below = omega arith in
    subst (λ m. RolesSpell m (ps ++ Operator u (Some op) ∷ qs) (Binary op a b)) (sym is)
    (binary u is (subst (λ m. RolesSpell m ps a) is s) (lifted k below qs b (omega arith) t))

signed-found : (next : List Pending → Tree → Option Tree) (ws : List Pending) (cs qs : List TokenRole) (f t : Tree) → Stands ws cs → RolesSpell 0 qs f → signed next ws f ≡ Some t → Found 0 cs qs next t
signed-found next [] cs qs f t st s h = record { ws = []; ds = cs; rs = qs; e = f; stands = st; above = tt; spells = s; same = refl; goes = h }
signed-found next (Before op ∷ ws) cs qs f t st s h =
    let found = signed-found next ws st.1 (Operator (Some op) st.0 ∷ qs) (Unary op f) t st.2 (unary st.0 s) h in
    record {
      ws = found.ws;
      ds = found.ds;
      rs = found.rs;
      e = found.e;
      stands = found.stands;
      above = found.above;
      spells = found.spells;
      same = found.same ∙ sym (append_assoc st.1 (Operator (Some op) st.0 ∷ []) qs) ∙ ap (λ xs. xs ++ qs) (sym st.3);
      goes = found.goes;
    }
signed-found next (After op a ∷ ws) cs qs f t st s h =
    record { ws = After op a ∷ ws; ds = cs; rs = qs; e = f; stands = st; above = level-pos op; spells = s; same = refl; goes = h }
signed-found next (Parenthesis ∷ ws) cs qs f t st s h =
    record { ws = Parenthesis ∷ ws; ds = cs; rs = qs; e = f; stands = st; above = tt; spells = s; same = refl; goes = h }

joined-found : (bound : ℕ) (next : List Pending → Tree → Option Tree) (ws : List Pending) (k : ℕ) (cs qs : List TokenRole) (f t : Tree) → k ≤ bound → Stands ws cs → Above k ws → RolesSpell k qs f → joined bound next ws f ≡ Some t → Found bound cs qs next t
joined-found bound next [] k cs qs f t le st ab s h =
    record { ws = []; ds = cs; rs = qs; e = f; stands = st; above = tt; spells = lifted k bound qs f le s; same = refl; goes = h }
joined-found bound next (Before op ∷ ws) k cs qs f t le st ab s h = absurd ab
joined-found bound next (Parenthesis ∷ ws) k cs qs f t le st ab s h =
    record { ws = Parenthesis ∷ ws; ds = cs; rs = qs; e = f; stands = st; above = tt; spells = lifted k bound qs f le s; same = refl; goes = h }
joined-found bound next (After op a ∷ ws) k cs qs f t le st ab s h =
    ⊎_elim
    (λ outside.
    let on = rw (lt-leb (level op) bound outside) at h in
    record { ws = After op a ∷ ws; ds = cs; rs = qs; e = f; stands = st; above = outside; spells = lifted k bound qs f le s; same = refl; goes = on })
    (λ inside.
    let on = rw (le-leb (level op) bound inside) at h in
    let whole = binary-at op st.0 k st.2 qs a f ab st.5 s in
    let found = joined-found bound next ws (level op) st.1 (st.2 ++ Operator st.0 (Some op) ∷ qs) (Binary op a f) t inside st.3 st.4 whole on in
    record {
      ws = found.ws;
      ds = found.ds;
      rs = found.rs;
      e = found.e;
      stands = found.stands;
      above = found.above;
      spells = found.spells;
      same = found.same ∙ regroup_after st.1 st.2 (Operator st.0 (Some op)) qs ∙ ap (λ xs. xs ++ qs) (sym st.6);
      goes = found.goes;
    })
    (cases_lt bound (level op))

finish : (ws : List Pending) (ds rs : List TokenRole) (e t : Tree) → Stands ws ds → RolesSpell 3 rs e → alone ws e ≡ Some t → RolesSpell 3 (ds ++ rs) t
finish [] ds rs e t st s h =
    subst (λ xs. RolesSpell 3 (xs ++ rs) t) (sym st) (subst (λ x. RolesSpell 3 rs x) (same_Some e t h) s)
finish (w ∷ ws) ds rs e t st s h = absurd (none-some t h)

closed-found : (next : List Pending → Tree → Option Tree) (ws : List Pending) (ds rs : List TokenRole) (e t : Tree) → Stands ws ds → RolesSpell 3 rs e → closed (signed next) ws e ≡ Some t → Found 0 ds (rs ++ Close ∷ []) next t
closed-found next [] ds rs e t st s h = absurd (none-some t h)
closed-found next (Before op ∷ ws) ds rs e t st s h = absurd (none-some t h)
closed-found next (After op a ∷ ws) ds rs e t st s h = absurd (none-some t h)
closed-found next (Parenthesis ∷ ws) ds rs e t st s h =
    let found = signed-found next ws st.0 (Open ∷ (rs ++ Close ∷ [])) e t st.1 (parens s) h in
    record {
      ws = found.ws;
      ds = found.ds;
      rs = found.rs;
      e = found.e;
      stands = found.stands;
      above = found.above;
      spells = found.spells;
      same = found.same ∙ sym (append_assoc st.0 (Open ∷ []) (rs ++ Close ∷ [])) ∙ ap (λ xs. xs ++ (rs ++ Close ∷ [])) (sym st.2);
      goes = found.goes;
    }

mutual
  from_expecting_operand : (ps : List TokenRole) (ws : List Pending) (cs : List TokenRole) (e : Tree) → Stands ws cs → expecting_operand ws ps ≡ Some e → RolesSpell 3 (cs ++ ps) e
  from_expecting_operand [] ws cs e st h = absurd (none-some e h)
  from_expecting_operand (Operand a ∷ ps) ws cs e st h =
      let found = signed-found (λ vs f. after_operand vs f ps) ws cs (Operand a ∷ []) a e st atom h in
      let there = from_after_operand ps found.ws found.e found.ds found.rs e found.stands found.above found.spells found.goes in
      subst (λ xs. RolesSpell 3 xs e) (regrouped found.ds found.rs ps cs (Operand a ∷ []) found.same) there
  from_expecting_operand (Operator None b ∷ ps) ws cs e st h = absurd (none-some e h)
  from_expecting_operand (Operator (Some op) b ∷ ps) ws cs e st h =
      subst (λ xs. RolesSpell 3 xs e) (append_assoc cs (Operator (Some op) b ∷ []) ps) (from_expecting_operand ps (Before op ∷ ws) (cs ++ Operator (Some op) b ∷ []) e (b, cs, st, refl) h)
  from_expecting_operand (Open ∷ ps) ws cs e st h =
      subst (λ xs. RolesSpell 3 xs e) (append_assoc cs (Open ∷ []) ps) (from_expecting_operand ps (Parenthesis ∷ ws) (cs ++ Open ∷ []) e (cs, st, refl) h)
  from_expecting_operand (Close ∷ ps) ws cs e st h = absurd (none-some e h)

  from_after_operand : (ps : List TokenRole) (ws : List Pending) (f : Tree) (cs qs : List TokenRole) (e : Tree) → Stands ws cs → Above 0 ws → RolesSpell 0 qs f → after_operand ws f ps ≡ Some e → RolesSpell 3 (cs ++ (qs ++ ps)) e
  from_after_operand [] ws f cs qs e st ab s h =
      let found = joined-found 3 alone ws 0 cs qs f e (omega arith) st ab s h in
      subst (λ xs. RolesSpell 3 xs e) (found.same ∙ ap (λ xs. cs ++ xs) (sym (append-nil qs))) (finish found.ws found.ds found.rs found.e e found.stands found.spells found.goes)
  from_after_operand (Operand a ∷ ps) ws f cs qs e st ab s h = absurd (none-some e h)
  from_after_operand (Operator u None ∷ ps) ws f cs qs e st ab s h = absurd (none-some e h)
  from_after_operand (Operator u (Some op) ∷ ps) ws f cs qs e st ab s h =
      let found = joined-found (level op) (λ vs g. expecting_operand (After op g ∷ vs) ps) ws 0 cs qs f e (omega arith) st ab s h in
      let there = from_expecting_operand ps (After op found.e ∷ found.ws) (found.ds ++ (found.rs ++ Operator u (Some op) ∷ [])) e (u, found.ds, found.rs, found.stands, found.above, found.spells, refl) found.goes in
      subst (λ xs. RolesSpell 3 xs e) (operator_regrouped found.ds found.rs (Operator u (Some op)) ps cs qs found.same) there
  from_after_operand (Open ∷ ps) ws f cs qs e st ab s h = absurd (none-some e h)
  from_after_operand (Close ∷ ps) ws f cs qs e st ab s h =
      let inner = joined-found 3 (closed (signed (λ vs g. after_operand vs g ps))) ws 0 cs qs f e (omega arith) st ab s h in
      let found = closed-found (λ vs g. after_operand vs g ps) inner.ws inner.ds inner.rs inner.e e inner.stands inner.spells inner.goes in
      let there = from_after_operand ps found.ws found.e found.ds found.rs e found.stands found.above found.spells found.goes in
      subst (λ xs. RolesSpell 3 xs e) (close_regrouped found.ds found.rs ps inner.ds inner.rs cs qs found.same inner.same) there

-- what is read, the roles spell
pub spelled_from_expecting_operand : (ps : List TokenRole) (e : Tree) → expecting_operand [] ps ≡ Some e → RolesSpell 3 ps e
spelled_from_expecting_operand ps e h = from_expecting_operand ps [] [] e refl h
