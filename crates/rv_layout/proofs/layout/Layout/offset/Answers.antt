use Rattle.std.proofs.Common.{◌<◌, length, arith, subst}
use Rattle.rv_layout.specs.Effects.{IsEffect}
use Rattle.rv_layout.proofs.AdvanceRows.{advance_in_row}
use Rattle.rv_layout.proofs.layout.Layout.offset.Goals as goal

pub apply-requires : goal.apply-requires
apply-requires c =
    let w = c.in-Switched in
    let is = subst IsEffect w.is c.self.invariant in
    let within : c.args.section < length w.row = omega (arith, c.requires, is.1) in
    advance_in_row w.row c.args.section _ within is.2
