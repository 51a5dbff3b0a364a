-- What the grammar spells is read: by one recursion over how it is spelled.
use Rattle.std.proofs.Common.{◌≡◌, ℕ, zero, suc, ◌<◌, ◌≤◌, List, [], ◌∷◌, ◌++◌, Option, Some, sym, refl, ap, ◌∙◌, append_assoc, arith, subst}
use Rattle.std.proofs.lemmas.Bool.{lt-leb, le-leb}
use Rattle.std.proofs.lemmas.List.{append-nil}
use Rattle.rv_expr.specs.declared.tree.BinaryOp.{BinaryOp}
use Rattle.rv_expr.specs.declared.tree.UnaryOp.{UnaryOp}
use Rattle.rv_expr.specs.Tree.{Tree, Binary, level}
use Rattle.rv_expr.specs.TokenRoles.{TokenRole, Operator, Open, Close}
use Rattle.rv_expr.specs.declared.reading.Pending.{Pending}
use Rattle.rv_expr.specs.declared.reading.Pending.TheVariants.{Before, After, Parenthesis}
use Rattle.rv_expr.specs.Reading.{signed, joined, closed, alone, expecting_operand, after_operand}
use Rattle.rv_expr.proofs.RoleGrammar.{RolesSpell, atom, parens, unary, binary, looser}

-- no unary operator waits, and no binary one that binds as tightly as the bound
abbrev pub Above : ℕ → List Pending → Type 0
Above bound [] = Unit {0}
Above bound (Before op ∷ ws) = ⊥
Above bound (After op a ∷ ws) = bound < level op
Above bound (Parenthesis ∷ ws) = Unit {0}

signed-above : (bound : ℕ) (next : List Pending → Tree → Option Tree) (ws : List Pending) (e : Tree) → Above bound ws → signed next ws e ≡ next ws e
signed-above bound next [] e h = refl
signed-above bound next (Before op ∷ ws) e h = absurd h
signed-above bound next (After op a ∷ ws) e h = refl
signed-above bound next (Parenthesis ∷ ws) e h = refl

joined-above : (bound : ℕ) (next : List Pending → Tree → Option Tree) (ws : List Pending) (e : Tree) → Above bound ws → joined bound next ws e ≡ next ws e
joined-above bound next [] e h = refl
joined-above bound next (Before op ∷ ws) e h = absurd h
joined-above bound next (After op a ∷ ws) e h = rw (lt-leb (level op) bound h) refl
joined-above bound next (Parenthesis ∷ ws) e h = refl

Above-less : (bound : ℕ) (ws : List Pending) → Above (suc bound) ws → Above bound ws
Above-less bound [] h = tt
Above-less bound (Before op ∷ ws) h = absurd h
Above-less bound (After op a ∷ ws) h = omega arith
Above-less bound (Parenthesis ∷ ws) h = tt

-- an operand with its unary operators is there for what waits
pub record SignedOperand (ps : List TokenRole) (e : Tree) : Type 0 where
  pub there : (ws : List Pending) (qs : List TokenRole) → expecting_operand ws (ps ++ qs) ≡ signed (λ vs f. after_operand vs f qs) ws e

-- after the roles, an operator that binds as loosely as the bound finds the tree
pub record Chain (bound : ℕ) (ps : List TokenRole) (e : Tree) (ws : List Pending) : Type 0 where
  pub waiting : List Pending
  pub last : Tree
  pub there : (qs : List TokenRole) → expecting_operand ws (ps ++ qs) ≡ after_operand waiting last qs
  pub joins : (m : ℕ) (next : List Pending → Tree → Option Tree) → bound ≤ m → joined m next waiting last ≡ joined m next ws e

chain-from_operand : (bound : ℕ) (ps : List TokenRole) (e : Tree) (ws : List Pending) → SignedOperand ps e → Above bound ws → Chain bound ps e ws
chain-from_operand bound ps e ws o h = record {
  waiting = ws;
  last = e;
  there = λ qs. o.there ws qs ∙ signed-above bound (λ vs f. after_operand vs f qs) ws e h;
  joins = λ m next le. refl;
}

chain-weaker : (bound : ℕ) (ps : List TokenRole) (e : Tree) (ws : List Pending) → Chain bound ps e ws → Chain (suc bound) ps e ws
chain-weaker bound ps e ws c = record {
  waiting = c.waiting;
  last = c.last;
  there = c.there;
  joins = λ m next le. c.joins m next (omega arith);
}

-- what it is to be read, at a bound
abbrev Reads : ℕ → List TokenRole → Tree → Type 0
Reads zero ps e = SignedOperand ps e
Reads (suc bound) ps e = (ws : List Pending) → Above (suc bound) ws → Chain (suc bound) ps e ws

chain_at : (bound : ℕ) (ps : List TokenRole) (e : Tree) → Reads bound ps e → (ws : List Pending) → Above bound ws → Chain bound ps e ws
chain_at zero ps e r ws h = chain-from_operand zero ps e ws r h
chain_at (suc bound) ps e r ws h = r ws h

parens-read : (ps : List TokenRole) (e : Tree) → Reads 3 ps e → SignedOperand (Open ∷ (ps ++ Close ∷ [])) e
parens-read ps e r = record {
  there = λ ws qs.
      let c = chain_at 3 ps e r (Parenthesis ∷ ws) tt in
      ap (expecting_operand (Parenthesis ∷ ws)) (append_assoc ps (Close ∷ []) qs)
      ∙ c.there (Close ∷ qs)
      ∙ c.joins 3 (closed (signed (λ vs f. after_operand vs f qs))) (omega arith);
}

binary-read : (bound : ℕ) (op : BinaryOp) (u : Option UnaryOp) (ps qs : List TokenRole) (a b : Tree) → level op ≡ suc bound → Reads (suc bound) ps a → Reads bound qs b → Reads (suc bound) (ps ++ Operator u (Some op) ∷ qs) (Binary op a b)
binary-read bound op u ps qs a b is r t ws h =
    let left = chain_at (suc bound) ps a r ws h in
    let right = chain_at bound qs b t (After op a ∷ ws) (omega arith) in
    let outer : Above (level op) ws = subst (λ k. Above k ws) (sym is) h in
    record {
      waiting = right.waiting;
      last = right.last;
      there = λ rest.
          ap (expecting_operand ws) (append_assoc ps (Operator u (Some op) ∷ qs) rest)
          ∙ left.there (Operator u (Some op) ∷ (qs ++ rest))
          ∙ left.joins (level op) (λ vs f. expecting_operand (After op f ∷ vs) (qs ++ rest)) (omega arith)
          ∙ joined-above (level op) (λ vs f. expecting_operand (After op f ∷ vs) (qs ++ rest)) ws a outer
          ∙ right.there rest;
      joins = λ m next le. right.joins m next (omega arith) ∙ rw (le-leb (level op) m (omega arith)) refl;
    }

reads : {bound : ℕ} {ps : List TokenRole} {e : Tree} → RolesSpell bound ps e → Reads bound ps e
reads atom = record { there = λ ws qs. refl }
reads (parens {rs} {e} s) = parens-read rs e (reads s)
reads (unary {op} b {rs} {e} s) = record { there = λ ws qs. (reads s).there (Before op ∷ ws) qs }
reads (binary {bound} {op} u {ps} {qs} {a} {b} is s t) = binary-read bound op u ps qs a b is (reads s) (reads t)
reads (looser {bound} {rs} {e} s) = λ ws h. chain-weaker bound rs e ws (chain_at bound rs e (reads s) ws (Above-less bound ws h))

-- what the roles spell is read
pub expecting_operand_from_spelled : (ps : List TokenRole) (e : Tree) → RolesSpell 3 ps e → expecting_operand [] ps ≡ Some e
expecting_operand_from_spelled ps e s =
    let c = chain_at 3 ps e (reads s) [] tt in
    ap (expecting_operand []) (sym (append-nil ps)) ∙ c.there [] ∙ c.joins 3 alone (omega arith)
