use Rattle.std.proofs.Common.{◌≡◌, ◌∷◌, length, arith, ap, sym, ◌∙◌}
use Rattle.rv_stmt.specs.LentLabels.{label_lent, name_lent}
use Rattle.rv_stmt.specs.Statement.{statement_of}
use Rattle.rv_program.specs.internal.NameSets.{bucket_of}
use Rattle.rv_store.proofs.ApartLines.{one-added}
use Rattle.rv_store.proofs.apart.LineBehind.only_label.Goals as goal

pub returns-in-Symbol : goal.returns-in-Symbol
returns-in-Symbol c name adds =
    let behind = c.args.self.now in
    let label = label_lent c.in_ok-label.label in
    let others = c.in_ok-label._others in
    let are : (statement_of behind.line.now).labels ≡ label ∷ others = ap (λ t. t.labels) (sym c.stmt.ensures) ∙ sym c.as_slice.ensures ∙ c.in_ok-label.ensures.some in
    let none : length others ≡ 0 = omega (arith, ap length are, c.len.ensures, ap (λ t. length t.labels) c.stmt.ensures) in
    ap bucket_of (one-added behind label others c.in-Symbol.symbol.now name are none (ap name_lent c.in-Symbol.is) (sym (ap (λ b. b.equ) c.brief.ensures) ∙ c.if-brief.false) adds)
    ∙ sym c.bucket_of.ensures.bucket
