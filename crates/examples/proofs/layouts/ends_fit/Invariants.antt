use Rattle.std.proofs.Common.{◌≡◌, ◌≤◌, ◌*◌, ◌^◌}
use Rattle.rv_layout.specs.Effects.{offset_reached}
use Rattle.rv_layout.specs.Places.{sum_below}
use Rattle.examples.proofs.layouts.ends_fit.Given as goal

-- the ends of the sections before
abbrev pub invariant-loop-section : goal.invariant-loop-section
invariant-loop-section l = record {
  together : l.together ≡ sum_below (offset_reached l.layout) l.section;
  fits : l.together ≤ 2 ^ 32 * l.section;
}
