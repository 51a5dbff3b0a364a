use Rattle.std.proofs.Common.{◌≡◌, ◌≤◌, ◌+◌, ◌*◌, length}
use Rattle.std.specs.Prelude.{vec_capacity}
use Rattle.rv_program.specs.Program.{program_of}
use Rattle.rv_program.specs.internal.Work.{constant_operands, operands_through}
use Rattle.rv_store.specs.internal.Drafts.{AreShapedThrough}
use Rattle.rv_store.proofs.loading.shapes_of.Given as goal

-- the shapes of the lines so far
abbrev pub invariant-loop-i : goal.invariant-loop-i
invariant-loop-i g l = record {
  shaped : AreShapedThrough l.lines l.names l.i l.rows;
  room : length l.lines ≤ vec_capacity l.rows.shapes;
  as_many : length l.rows.constants.items ≡ length l.definitions;
  least : g.C.Count.valued_count l.initial.counter ≤ g.C.Count.valued_count l.counter;
  most : g.C.Count.valued_count l.counter ≤ g.C.Count.valued_count l.initial.counter + 2 * l.i;
  operands : g.C.Count.valued_count l.counter ≤ g.C.Count.valued_count l.initial.counter + operands_through constant_operands (program_of l.lines) l.i;
  parsed : g.C.Count.parsed_count l.counter ≡ g.C.Count.parsed_count l.initial.counter;
  encoded : g.C.Count.encoded_count l.counter ≡ g.C.Count.encoded_count l.initial.counter;
}
