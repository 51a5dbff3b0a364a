use Rattle.std.proofs.Common.{◌≡◌, ◌-◌, ◌≤◌, true, length}
use Rattle.rv_layout.specs.Places.{AreLimited}
use Rattle.rv_program.specs.internal.Before.{edit_on}
use Rattle.rv_store.specs.internal.Unmoved.{AreUnmoved}
use Rattle.rv_store.proofs.SettledShapes.{AreSettled}
use Rattle.rv_store.proofs.shapes.settled_shapes.Given as goal

-- the rows hold what the lines so far give
abbrev pub invariant-loop-i : goal.invariant-loop-i
invariant-loop-i g l = record {
  within : l.i ≤ length l.lines;
  settled : AreSettled l.before l.lines l.fn.shape (g.C.Count.valued_count l.initial.counter) l.i l.rows.shapes.items l.rows.constants.items (g.C.Count.valued_count l.counter);
  limited : AreLimited l.rows.shapes.items;
  as_many : length l.rows.constants.items ≡ length l.definitions;
  still : l.rows.still ≡ true → AreUnmoved l.before.shapes.now (edit_on l.before) l.rows.shapes.items;
  least : g.C.Count.valued_count l.initial.counter ≤ g.C.Count.valued_count l.counter;
  parsed : g.C.Count.parsed_count l.counter ≡ g.C.Count.parsed_count l.initial.counter;
  encoded : g.C.Count.encoded_count l.counter ≡ g.C.Count.encoded_count l.initial.counter;
}

abbrev pub decreases-loop-i : goal.decreases-loop-i
decreases-loop-i g l = length l.lines - l.i
