-- The depth of a run is the most parentheses that are open at once.
use Rattle.std.proofs.Common.{◌≡◌, ℕ, zero, suc, ◌+◌, ◌-◌, ◌<◌, ◌≤◌, List, [], ◌∷◌, ◌++◌, max, map, refl, sym, ap, ◌∙◌, append_assoc, arith, ⊎_elim}
use Rattle.std.proofs.Math.Nat.{le-max_right, max-le}
use Rattle.std.proofs.lemmas.Bool.{cases_lt}
use Rattle.std.proofs.lemmas.List.{append-nil}
use Rattle.rv_text.specs.Lexing.{SpelledToken}
use Rattle.rv_expr.specs.Depth.{depth_after, depth_from, depth_of}
use Rattle.rv_expr.specs.OpenAtOnce.{openings, closings, AreOpenAtOnce}
use Rattle.rv_expr.specs.TokenRoles.{TokenRole, Operand, Operator, Open, Close, token_role}
use Rattle.rv_expr.proofs.Depths.{depth-least}

-- what is open after a stretch, and was not before it, the stretch has opened
stretch-open : (depth : ℕ) (stretch after : List TokenRole) → openings stretch + depth ≤ closings stretch + depth_from depth (stretch ++ after)
stretch-open depth [] after =
    let least = depth-least depth after in
    omega (arith, least)
stretch-open depth (Open ∷ rs) after =
    let inner = stretch-open (suc depth) rs after in
    let most = le-max_right depth (depth_from (suc depth) (rs ++ after)) in
    omega (arith, inner, most)
stretch-open depth (Close ∷ rs) after =
    let inner = stretch-open (depth - 1) rs after in
    let most = le-max_right depth (depth_from (depth - 1) (rs ++ after)) in
    omega (arith, inner, most)
stretch-open depth (Operand e ∷ rs) after =
    let inner = stretch-open depth rs after in
    let most = le-max_right depth (depth_from depth (rs ++ after)) in
    omega (arith, inner, most)
stretch-open depth (Operator u b ∷ rs) after =
    let inner = stretch-open depth rs after in
    let most = le-max_right depth (depth_from depth (rs ++ after)) in
    omega (arith, inner, most)

-- and so deep it is from any place before
open-deep : (count depth : ℕ) (before stretch after : List TokenRole) → closings stretch + count ≤ openings stretch → count ≤ depth_from depth (before ++ (stretch ++ after))
open-deep count depth [] stretch after h =
    let all = stretch-open depth stretch after in
    omega (arith, all, h)
open-deep count depth (r ∷ rs) stretch after h =
    let inner = open-deep count (depth_after depth r) rs stretch after h in
    let most = le-max_right depth (depth_from (depth_after depth r) (rs ++ (stretch ++ after))) in
    omega (arith, inner, most)

pub depth_from_open : (count : ℕ) (run : List SpelledToken) → AreOpenAtOnce count run → count ≤ depth_of run
depth_from_open count run o =
    rw o.whole (open-deep count 0 o.before o.stretch o.after o.opened)

-- the parentheses that are open at a place, where so many are, stand in a stretch that ends there
record Open-here (depth : ℕ) (taken : List TokenRole) : Type 0 where
  before : List TokenRole
  stretch : List TokenRole
  whole : taken ≡ before ++ stretch
  opened : openings stretch ≡ closings stretch + depth

openings-append : (rs qs : List TokenRole) → openings (rs ++ qs) ≡ openings rs + openings qs
openings-append [] qs = omega arith
openings-append (Open ∷ rs) qs = rw (openings-append rs qs) (omega arith)
openings-append (Close ∷ rs) qs = openings-append rs qs
openings-append (Operand e ∷ rs) qs = openings-append rs qs
openings-append (Operator u b ∷ rs) qs = openings-append rs qs

closings-append : (rs qs : List TokenRole) → closings (rs ++ qs) ≡ closings rs + closings qs
closings-append [] qs = omega arith
closings-append (Open ∷ rs) qs = closings-append rs qs
closings-append (Close ∷ rs) qs = rw (closings-append rs qs) (omega arith)
closings-append (Operand e ∷ rs) qs = closings-append rs qs
closings-append (Operator u b ∷ rs) qs = closings-append rs qs

-- one more token
longer : (depth next : ℕ) (taken : List TokenRole) (r : TokenRole) → (o : Open-here depth taken) → openings (r ∷ []) + depth ≡ closings (r ∷ []) + next → Open-here next (taken ++ r ∷ [])
longer depth next taken r o same = record {
  before = o.before;
  stretch = o.stretch ++ r ∷ [];
  whole = ap (λ rs. rs ++ r ∷ []) o.whole ∙ append_assoc o.before o.stretch (r ∷ []);
  opened = rw (openings-append o.stretch (r ∷ []), closings-append o.stretch (r ∷ [])) (omega (arith, o.opened, same));
}

none-open : (taken : List TokenRole) → Open-here 0 taken
none-open taken = record { before = taken; stretch = []; whole = sym (append-nil taken); opened = refl }

open_after : (depth : ℕ) (taken : List TokenRole) (r : TokenRole) → Open-here depth taken → Open-here (depth_after depth r) (taken ++ r ∷ [])
open_after depth taken Open o = longer depth (suc depth) taken Open o (omega arith)
open_after zero taken Close o = none-open (taken ++ Close ∷ [])
open_after (suc depth) taken Close o = longer (suc depth) (suc depth - 1) taken Close o (omega arith)
open_after depth taken (Operand e) o = longer depth depth taken (Operand e) o refl
open_after depth taken (Operator u b) o = longer depth depth taken (Operator u b) o refl

record Stretch (count : ℕ) (roles : List TokenRole) : Type 0 where
  before : List TokenRole
  stretch : List TokenRole
  after : List TokenRole
  whole : roles ≡ before ++ (stretch ++ after)
  opened : closings stretch + count ≤ openings stretch

here-open : (count depth : ℕ) (taken rs : List TokenRole) → Open-here depth taken → count ≤ depth → Stretch count (taken ++ rs)
here-open count depth taken rs o h = record {
  before = o.before;
  stretch = o.stretch;
  after = rs;
  whole = ap (λ xs. xs ++ rs) o.whole ∙ append_assoc o.before o.stretch rs;
  opened = omega (arith, o.opened, h);
}

-- the greater of two numbers is not less than a number that both are less than
not-below : (count x y : ℕ) → count ≤ max x y → x < count → y < count → ⊥
not-below count x y h x-less y-less =
    let below : x ≤ count - 1 = omega (arith, x-less) in
    let under : y ≤ count - 1 = omega (arith, y-less) in
    let both : max x y ≤ count - 1 = max-le below under in
    absurd (omega (arith, h, both, x-less))

found : (count depth : ℕ) (taken rs : List TokenRole) → Open-here depth taken → count ≤ depth_from depth rs → Stretch count (taken ++ rs)
found count depth taken [] o h = here-open count depth taken [] o h
found count depth taken (r ∷ rs) o h =
    ⊎_elim
    (λ above.
    let inner : count ≤ depth_from (depth_after depth r) rs =
    ⊎_elim
    (λ less. absurd (not-below count depth (depth_from (depth_after depth r) rs) h above less))
    (λ enough. enough)
    (cases_lt (depth_from (depth_after depth r) rs) count)
    in
    rw (sym (append_assoc taken (r ∷ []) rs)) (found count (depth_after depth r) (taken ++ r ∷ []) rs (open_after depth taken r o) inner))
    (λ here. here-open count depth taken (r ∷ rs) o here)
    (cases_lt depth count)

pub open_from_depth : (count : ℕ) (run : List SpelledToken) → count ≤ depth_of run → AreOpenAtOnce count run
open_from_depth count run h =
    let s = found count 0 [] (map token_role run) (none-open []) h in
    record { before = s.before; stretch = s.stretch; after = s.after; whole = s.whole; opened = s.opened }
