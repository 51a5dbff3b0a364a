use Rattle.std.proofs.Common.{sym, subst}
use Rattle.rv_layout.specs.EffectLaws.{join-IsEffect}
use Rattle.rv_layout.specs.Effects.{IsEffect}
use Rattle.rv_layout.proofs.layout.LayoutJoined.join.Goals as goal

pub invariant_of-result : goal.invariant_of-result
invariant_of-result c =
    subst IsEffect (sym c.join.ensures) (join-IsEffect _ _ c.self.invariant c.other.invariant)
