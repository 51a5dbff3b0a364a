use Rattle.std.proofs.Common.{sym, arith, ne_eqb}
use Rattle.std.proofs.lemmas.List.{take_rest}
use Rattle.rv_text.proofs.ContentSteps.{content_step}
use Rattle.rv_text.proofs.strings.escaped.Goals as goal

pub returns-clause-content : goal.returns-clause-content
returns-clause-content c =
    let stands = rw take_rest at c.in_ok-next.ensures.exact in
    content_step c.args.slice.now c.args.at c.in_ok-next.next (omega (arith, c.if-at-slice.false)) (ne_eqb _ _ c.if-slice-at.false) (sym stands) c.in_ok-next.ensures.fits.0
