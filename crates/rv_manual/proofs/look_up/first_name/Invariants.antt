use Rattle.std.proofs.Common.{◌≡◌, length, map}
use Rattle.rv_manual.specs.Manual.{first_name}
use Rattle.rv_manual.proofs.look_up.first_name.Given as goal

-- what is left decides
abbrev pub invariant-names : goal.invariant-names
invariant-names l = first_name (map (λ n. n.now) l.names) l.name ≡ first_name (map (λ n. n.now) l.fn.names) l.name

abbrev pub decreases-names : goal.decreases-names
decreases-names l = length l.names
