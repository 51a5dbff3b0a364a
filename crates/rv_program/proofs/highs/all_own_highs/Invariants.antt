use Rattle.std.proofs.Common.{◌≡◌, ◌≤◌, ◌+◌, ◌-◌, length}
use Rattle.rv_program.specs.internal.TextRows.{program_in}
use Rattle.rv_program.specs.internal.Work.{high_operands, operands_through}
use Rattle.rv_program.proofs.HighRows.{AreHighsThrough}
use Rattle.rv_program.proofs.highs.all_own_highs.Given as goal

-- the high halves on the lines so far
abbrev pub invariant-loop-i : goal.invariant-loop-i
invariant-loop-i g l = record {
  within : l.i ≤ length l.searched;
  row : AreHighsThrough l.rows.text.base (program_in l.rows.text) l.i l.row.items;
  many : length l.row.items ≡ length l.searched;
  least : g.C.Count.valued_count l.initial.counter ≤ g.C.Count.valued_count l.counter;
  most : g.C.Count.valued_count l.counter ≤ g.C.Count.valued_count l.initial.counter + l.i;
  operands : g.C.Count.valued_count l.counter ≤ g.C.Count.valued_count l.initial.counter + operands_through high_operands (program_in l.rows.text) l.i;
  parsed : g.C.Count.parsed_count l.counter ≡ g.C.Count.parsed_count l.initial.counter;
  encoded : g.C.Count.encoded_count l.counter ≡ g.C.Count.encoded_count l.initial.counter;
}

abbrev pub decreases-loop-i : goal.decreases-loop-i
decreases-loop-i g l = length l.searched - l.i
