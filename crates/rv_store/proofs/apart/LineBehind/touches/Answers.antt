use Rattle.std.proofs.Common.{◌≡◌, nat_le, false, arith, sym, ◌∙◌}
use Rattle.std.proofs.lemmas.Bool.{lt-leb, and_left, or_from}
use Rattle.rv_store.proofs.apart.LineBehind.touches.Goals as goal

-- a line before those that may find a local label
pub returns-else-self-number : goal.returns-else-self-number
returns-else-self-number c =
    let before : nat_le c.args.self.now.from c.args.number ≡ false = lt-leb c.args.self.now.from c.args.number (omega (arith, c.if-self-number.false)) in
    before ∙ sym (or_from _ _ (sym c.is_used_on.ensures ∙ c.if-is_used_on.false) (and_left _ _ before))
