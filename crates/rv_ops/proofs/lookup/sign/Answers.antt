use Rattle.std.proofs.Common.{◌≡◌, pos, negsuc, ◌≤ℤ◌, ◌∙◌, ap, sym, subst}
use Rattle.rv_ops.specs.declared.layouts.SignExtension.{SignExtension}
use Rattle.rv_ops.specs.Table.{sign_of, shape_of}
use Rattle.rv_ops.proofs.LayoutFacts.{has_low_sign, has_high_sign}
use Rattle.rv_ops.proofs.lookup.sign.Goals as goal

pub returns-clause-low : goal.returns-clause-low
returns-clause-low c =
    let e : ◌≡◌ {A = SignExtension} c.layout.result.sign (sign_of (shape_of c.args.op)) = c.layout.ensures.sign ∙ ap (λ s. sign_of s) c.shape.ensures in
    subst (λ sign. negsuc 1073741823 ≤ℤ sign.modulus) (sym e) (has_low_sign c.args.op)

pub returns-clause-high : goal.returns-clause-high
returns-clause-high c =
    let e : ◌≡◌ {A = SignExtension} c.layout.result.sign (sign_of (shape_of c.args.op)) = c.layout.ensures.sign ∙ ap (λ s. sign_of s) c.shape.ensures in
    subst (λ sign. sign.modulus ≤ℤ pos 1073741824) (sym e) (has_high_sign c.args.op)
