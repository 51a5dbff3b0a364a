use Rattle.std.proofs.Common.{◌≡◌, length}
use Rattle.rv_diagnostics.specs.Diagnostics.{first_place}
use Rattle.rv_diagnostics.proofs.defined_names.first_place.Given as goal

-- what is left decides
abbrev pub invariant-tokens : goal.invariant-tokens
invariant-tokens l = first_place l.line l.word l.tokens ≡ first_place l.line l.word l.fn.tokens

abbrev pub decreases-tokens : goal.decreases-tokens
decreases-tokens l = length l.tokens
