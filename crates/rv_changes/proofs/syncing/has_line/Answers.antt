use Rattle.std.proofs.Common.{◌≡◌, ap, sym, ◌∙◌, Some}
use Rattle.std.proofs.lemmas.Slice.Eq.{bytes_eq-Decides}
use Rattle.rv_changes.proofs.Pieces.{set_same, at_number}
use Rattle.rv_changes.proofs.syncing.has_line.Goals as goal

pub returns-in-Some : goal.returns-in-Some
returns-in-Some c = λ e.
    let old = c.in-Some.old.now in
    let line = c.args.line.now in
    let same : old ≡ line = (bytes_eq-Decides old line).0 (sym c.eq.ensures ∙ e) in
    let stands = at_number c.args.store.now.lines c.args.at c.number_at.result old c.number_at.ensures c.in-Some.ensures.value in
    set_same c.args.store.now.lines c.args.at line (ap (λ l. Some l) (sym same) ∙ stands)
