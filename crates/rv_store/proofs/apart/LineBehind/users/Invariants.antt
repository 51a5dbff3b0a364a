use Rattle.std.proofs.Common.{◌≡◌, ◌≤◌, ◌-◌, ℕ, true, false, length}
use Rattle.rv_program.specs.Program.{program_of, body_at, lines_that}
use Rattle.rv_store.specs.internal.Apart.{touched_by}
use Rattle.rv_store.specs.internal.Still.{is_settled, uses_any}
use Rattle.rv_store.proofs.apart.LineBehind.users.Given as goal

-- the row holds those of the first lines, and none of these is settled
abbrev pub invariant-lines : goal.invariant-lines
invariant-lines l = record {
  within : l.i ≤ length l.searched;
  users : l.users.items ≡ lines_that (uses_any (touched_by l.self) (program_of l.searched)) l.i;
  unsettled : (i : ℕ) → 1 ≤ i → i ≤ l.i → is_settled (body_at (program_of l.searched) i) ≡ true → uses_any (touched_by l.self) (program_of l.searched) i ≡ false;
}

abbrev pub decreases-lines : goal.decreases-lines
decreases-lines l = length l.searched - l.i
