use Rattle.std.proofs.Common.{◌≡◌, ℕ, ◌<◌, ◌≤◌, true, false, length}
use Rattle.std.specs.Option.{is_some}
use Rattle.rv_expr.specs.declared.tree.Direction.TheVariants.{Forward}
use Rattle.rv_program.specs.internal.Locals.{local_line_in}
use Rattle.rv_program.specs.References.{among_local}
use Rattle.rv_program.proofs.locals.Locals.reach.Given as goal

-- it is that for the labels so far
abbrev pub invariant-labels : goal.invariant-labels
invariant-labels l = record {
  found : (number i : ℕ) → among_local number l.labels ≡ false → among_local number l.initial.labels ≡ true → i < l.first → is_some (local_line_in l.self i number Forward) ≡ true;
  within : l.first ≤ l.end;
  left : (number : ℕ) → among_local number l.labels ≡ true → among_local number l.initial.labels ≡ true;
  none : ((number : ℕ) → among_local number l.initial.labels ≡ false) → l.first ≡ l.end;
}

abbrev pub decreases-labels : goal.decreases-labels
decreases-labels l = length l.labels
