use Rattle.std.proofs.Common.{◌≡◌, ◌-◌, ◌∙◌, Bool, true, length, ap, sym, arith}
use Rattle.rv_tree.specs.Search.{IsNextPart}
use Rattle.rv_tree.proofs.Searches.{all_passed, in_left, in_right, after_left}
use Rattle.rv_tree.proofs.node.Subtree.+next_leaf.Goals as goal

pub returns-then-skips : goal.returns-then-skips
returns-then-skips g t c =
    let lacks = g.S.Sought.lacks c.args.sought.now in
    let all : lacks c.sum.result.now ≡ true = sym c.skips.ensures ∙ c.if-skips.true in
    let is = all_passed g.met.T.Sum.Joined.laws g.T.Summed.sum_of lacks (λ a b v w k. g.met.S.Sought.lacks_parts c.args.sought.now a b v w k) c.args.self.now.items c.args.before c.sum.ensures.sums (rw c.sum.ensures.value at all) c.requires.place in
    rw c.len-len.ensures is

pub returns-then-left_len-before : goal.returns-then-left_len-before
returns-then-left_len-before g t c =
    let test : g.row.T.Denot → Bool = λ x. g.S.Sought.lacks c.args.sought.now (g.T.Summed.sum_of x) in
    let left = c.sides.result.0.now.value.items in
    let right = c.sides.result.1.now.value.items in
    let len : c.len-left_len.result ≡ length left = c.len-left_len.ensures ∙ ap (λ d. length d.items) c.deref.ensures in
    let found : IsNextPart test right (c.args.before - length left) c.next_leaf.result.begin c.next_leaf.result.end = rw (c.deref-then-left_len-before.ensures, len) at c.next_leaf.ensures in
    let is = in_right test left right c.args.self.now.items c.sides.ensures.items c.args.before c.next_leaf.result.begin c.next_leaf.result.end (omega (arith, len, c.if-left_len-before.true)) found in
    rw (c.after.ensures.begin, c.after.ensures.end, len) is

pub returns-then-first-left_len : goal.returns-then-first-left_len
returns-then-first-left_len g t c =
    let test : g.row.T.Denot → Bool = λ x. g.S.Sought.lacks c.args.sought.now (g.T.Summed.sum_of x) in
    let left = c.sides.result.0.now.value.items in
    let right = c.sides.result.1.now.value.items in
    let len : c.len-left_len.result ≡ length left = c.len-left_len.ensures ∙ ap (λ d. length d.items) c.deref.ensures in
    let first = c.next_leaf-first.result in
    let found : IsNextPart test left c.args.before first.begin first.end = rw c.deref-2.ensures at c.next_leaf-first.ensures in
    in_left test left right c.args.self.now.items c.sides.ensures.items c.args.before first.begin first.end found (omega (arith, len, c.if-first-left_len.true))

pub returns : goal.returns
returns g t c =
    let test : g.row.T.Denot → Bool = λ x. g.S.Sought.lacks c.args.sought.now (g.T.Summed.sum_of x) in
    let left = c.sides.result.0.now.value.items in
    let right = c.sides.result.1.now.value.items in
    let len : c.len-left_len.result ≡ length left = c.len-left_len.ensures ∙ ap (λ d. length d.items) c.deref.ensures in
    let first = c.next_leaf-first.result in
    let second = c.next_leaf-2.result in
    let found : IsNextPart test left c.args.before first.begin first.end = rw c.deref-2.ensures at c.next_leaf-first.ensures in
    let later : IsNextPart test right 0 second.begin second.end = rw c.deref-3.ensures at c.next_leaf-2.ensures in
    let is = after_left test left right c.args.self.now.items c.sides.ensures.items c.args.before first.begin first.end second.begin second.end found (omega (arith, len, c.if-first-left_len.false)) later in
    rw (c.after-2.ensures.begin, c.after-2.ensures.end, len) is
