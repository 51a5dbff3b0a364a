-- The grammar of expressions, over what the tokens are.
use Rattle.std.proofs.Common.{◌≡◌, ℕ, suc, List, [], ◌∷◌, ◌++◌, Option, Some, ap, refl, ◌∙◌, map, drop, length, get_or, arith}
use Rattle.std.proofs.lemmas.List.{map-append}
use Rattle.rv_text.specs.Lexing.{SpelledToken}
use Rattle.rv_expr.specs.declared.tree.BinaryOp.{BinaryOp}
use Rattle.rv_expr.specs.declared.tree.UnaryOp.{UnaryOp}
use Rattle.rv_expr.specs.Grammar as tokens
use Rattle.rv_expr.specs.Grammar.{Spells}
use Rattle.rv_expr.specs.TokenRoles.{TokenRole, Operand, Operator, Open, Close, token_role}
use Rattle.rv_expr.specs.Tree.{Tree, Unary, Binary, level}

pub data RolesSpell : ℕ → List TokenRole → Tree → Type 0 where
  atom : {e : Tree} → RolesSpell 0 (Operand e ∷ []) e
  parens : {rs : List TokenRole} {e : Tree} → RolesSpell 3 rs e → RolesSpell 0 (Open ∷ (rs ++ (Close ∷ []))) e
  unary : {op : UnaryOp} (b : Option BinaryOp) {rs : List TokenRole} {e : Tree} → RolesSpell 0 rs e → RolesSpell 0 (Operator (Some op) b ∷ rs) (Unary op e)
  binary : {bound : ℕ} {op : BinaryOp} (u : Option UnaryOp) {ps qs : List TokenRole} {a b : Tree} → level op ≡ suc bound → RolesSpell (suc bound) ps a → RolesSpell bound qs b → RolesSpell (suc bound) (ps ++ (Operator u (Some op) ∷ qs)) (Binary op a b)
  looser : {bound : ℕ} {rs : List TokenRole} {e : Tree} → RolesSpell bound rs e → RolesSpell (suc bound) rs e

-- what tokens spell, they spell by what they are
pub roles_from_tokens : {bound : ℕ} {run : List SpelledToken} {e : Tree} → Spells bound run e → RolesSpell bound (map token_role run) e
roles_from_tokens (tokens.operand p e is) = rw is atom
roles_from_tokens (tokens.parentheses p q run e opens s closes) =
    rw (opens, map-append token_role run (q ∷ []), closes) (parens (roles_from_tokens s))
roles_from_tokens (tokens.unary p op other run e is s) = rw is (unary other (roles_from_tokens s))
roles_from_tokens (tokens.binary bound p op other left right a b at s is t) =
    rw (map-append token_role left (p ∷ right), is) (binary other at (roles_from_tokens s) (roles_from_tokens t))
roles_from_tokens (tokens.tighter bound run e s) = looser (roles_from_tokens s)

-- a list of tokens by a first one
record First (run : List SpelledToken) (r : TokenRole) (rs : List TokenRole) : Type 0 where
  p : SpelledToken
  rest : List SpelledToken
  whole : run ≡ p ∷ rest
  is : token_role p ≡ r
  after : map token_role rest ≡ rs

first : (run : List SpelledToken) (r : TokenRole) (rs : List TokenRole) → map token_role run ≡ r ∷ rs → First run r rs
first [] r rs h = absurd (omega (arith, ap length h))
first (p ∷ run) r rs h = record { p = p; rest = run; whole = refl; is = ap (λ xs. get_or xs 0 r) h; after = ap (drop 1) h }

nothing : (run : List SpelledToken) → map token_role run ≡ [] → run ≡ []
nothing [] h = refl
nothing (p ∷ run) h = absurd (omega (arith, ap length h))

-- a list of tokens in two parts
record Parts (run : List SpelledToken) (rs qs : List TokenRole) : Type 0 where
  front : List SpelledToken
  back : List SpelledToken
  whole : run ≡ front ++ back
  before : map token_role front ≡ rs
  after : map token_role back ≡ qs

parts : (run : List SpelledToken) (rs qs : List TokenRole) → map token_role run ≡ rs ++ qs → Parts run rs qs
parts run [] qs h = record { front = []; back = run; whole = refl; before = refl; after = h }
parts run (r ∷ rs) qs h =
    let f = first run r (rs ++ qs) h in
    let s = parts f.rest rs qs f.after in
    record {
      front = f.p ∷ s.front;
      back = s.back;
      whole = f.whole ∙ ap (λ xs. f.p ∷ xs) s.whole;
      before = rw (f.is, s.before) refl;
      after = s.after;
    }

-- what is spelled by what tokens are, they spell
pub tokens_from_roles : {bound : ℕ} {rs : List TokenRole} {e : Tree} → RolesSpell bound rs e → (run : List SpelledToken) → map token_role run ≡ rs → Spells bound run e
tokens_from_roles (atom {e}) run h =
    let f = first run (Operand e) [] h in
    rw (f.whole, nothing f.rest f.after) (tokens.operand f.p e f.is)
tokens_from_roles (parens {rs} {e} s) run h =
    let f = first run Open (rs ++ Close ∷ []) h in
    let inner = parts f.rest rs (Close ∷ []) f.after in
    let last = first inner.back Close [] inner.after in
    rw (f.whole, inner.whole, last.whole, nothing last.rest last.after)
    (tokens.parentheses f.p last.p inner.front e f.is (tokens_from_roles s inner.front inner.before) last.is)
tokens_from_roles (unary {op} b {rs} {e} s) run h =
    let f = first run (Operator (Some op) b) rs h in
    rw f.whole (tokens.unary f.p op b f.rest e f.is (tokens_from_roles s f.rest f.after))
tokens_from_roles (binary {bound} {op} u {ps} {qs} {a} {b} at s t) run h =
    let sides = parts run ps (Operator u (Some op) ∷ qs) h in
    let f = first sides.back (Operator u (Some op)) qs sides.after in
    rw (sides.whole, f.whole)
    (tokens.binary bound f.p op u sides.front f.rest a b at (tokens_from_roles s sides.front sides.before) f.is (tokens_from_roles t f.rest f.after))
tokens_from_roles (looser {bound} {rs} {e} s) run h = tokens.tighter bound run e (tokens_from_roles s run h)
