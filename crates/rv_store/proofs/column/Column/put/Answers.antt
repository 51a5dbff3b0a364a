use Rattle.std.proofs.Common.{◌≡◌, length, insert, OnOk, arith, ap, subst, ◌∙◌}
use Rattle.rv_store.proofs.StillTexts.{set-set_or_push, inserted}
use Rattle.rv_store.proofs.column.Column.put.Goals as goal

pub returns-then-place-len-clause-ok : goal.returns-then-place-len-clause-ok
returns-then-place-len-clause-ok c =
    c.replace.ensures.lines ∙ set-set_or_push c.args.self.now.items c.args.place c.args.line (omega (arith, c.if-place-len.true, c.len.ensures))

pub returns-clause-ok : goal.returns-clause-ok
returns-clause-ok c =
    let same = ap (λ v. v.items) c.begin.ensures.lines in
    let end : c.args.place ≡ length c.args.self.now.items = omega (arith, c.if-place-len.false, c.len.ensures, c.requires) in
    subst (λ lines. OnOk c.insert.result (c.insert.new.self.items ≡ lines)) (ap (λ ls. insert ls c.args.place c.args.line) same ∙ inserted c.args.self.now.items c.args.place c.args.line end) c.insert.ensures.ok
