use Rattle.std.proofs.Common.{◌≡◌, ◌≤◌, ◌+◌, ◌-◌, length}
use Rattle.rv_program.specs.internal.TextRows.{program_in, AreEquValuesIn}
use Rattle.rv_program.specs.internal.Work.{equ_operands, operands_through}
use Rattle.rv_program.proofs.equ_values.equ_values.Given as goal

-- the values of the lines so far
abbrev pub invariant-loop-i : goal.invariant-loop-i
invariant-loop-i g l = record {
  within : l.i ≤ length l.searched;
  values : AreEquValuesIn l.text l.i l.row.items;
  as_many : length l.row.items ≡ length l.text.names.now;
  valued : g.C.Count.valued_count l.initial.counter ≤ g.C.Count.valued_count l.counter;
  valued_within : g.C.Count.valued_count l.counter ≤ g.C.Count.valued_count l.initial.counter + l.i;
  operands : g.C.Count.valued_count l.counter ≤ g.C.Count.valued_count l.initial.counter + operands_through equ_operands (program_in l.text) l.i;
  parsed : g.C.Count.parsed_count l.counter ≡ g.C.Count.parsed_count l.initial.counter;
  encoded : g.C.Count.encoded_count l.counter ≡ g.C.Count.encoded_count l.initial.counter;
}

abbrev pub decreases-loop-i : goal.decreases-loop-i
decreases-loop-i g l = length l.searched - l.i
