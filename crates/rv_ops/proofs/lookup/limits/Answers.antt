use Rattle.std.proofs.Common.{◌≡◌, ◌<◌, ◌∙◌, ap, sym, subst}
use Rattle.rv_ops.specs.declared.value_limits.Limits.{Limits}
use Rattle.rv_ops.specs.Table.{limits_of, shape_of}
use Rattle.rv_ops.proofs.LayoutFacts.{has_multiple}
use Rattle.rv_ops.proofs.lookup.limits.Goals as goal

pub returns-clause-multiple : goal.returns-clause-multiple
returns-clause-multiple c =
    let e : ◌≡◌ {A = Limits} c.layout.result.limits (limits_of (shape_of c.args.op)) = c.layout.ensures.limits ∙ ap (λ s. limits_of s) c.shape.ensures in
    subst (λ l. 0 < l.multiple) (sym e) (has_multiple c.args.op)
