use Rattle.std.proofs.Common.{length, ap, sym, ◌∙◌}
use Rattle.std.proofs.lemmas.Bool.{eqb-true}
use Rattle.rv_program.specs.internal.NameSets.{bucket_of}
use Rattle.rv_store.proofs.ApartLines.{equ-added}
use Rattle.rv_store.proofs.apart.LineBehind.only_bucket.Goals as goal

pub returns-in-Equ : goal.returns-in-Equ
returns-in-Equ c name adds =
    let is = c.stmt-stmt.ensures in
    let none = sym (ap (λ t. length t.labels) is) ∙ eqb-true _ _ (sym c.is_empty.ensures ∙ c.if-is_empty.true) in
    ap bucket_of (equ-added c.args.self.now c.in-Equ.definition name none (sym (ap (λ t. t.body) is) ∙ c.in-Equ.is) adds ∙ sym c.bytes.ensures)
    ∙ sym c.bucket_of.ensures.bucket
