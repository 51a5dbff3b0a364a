use Rattle.std.proofs.Common.{◌≡◌, ◌≤◌, ◌+◌, ◌*◌}
use Rattle.rv_program.specs.internal.Items.{AreFirstItems}
use Rattle.rv_program.specs.internal.ValueRows.{base_of, program_of_rows}
use Rattle.rv_program.specs.internal.Work.{value_operands, operands_through}
use Rattle.rv_store.proofs.loading.items_of.Given as goal

-- the items of the lines so far
abbrev pub invariant-loop-k : goal.invariant-loop-k
invariant-loop-k g l = record {
  items : AreFirstItems (base_of l.rows) l.rows.symbols.text.lines.now l.k l.items.items;
  least : g.C.Count.valued_count l.initial.counter ≤ g.C.Count.valued_count l.counter;
  few : g.C.Count.valued_count l.counter ≤ g.C.Count.valued_count l.initial.counter + 1000 * l.k;
  operands : g.C.Count.valued_count l.counter ≤ g.C.Count.valued_count l.initial.counter + operands_through value_operands (program_of_rows l.rows) l.k;
  parsed : g.C.Count.parsed_count l.counter ≡ g.C.Count.parsed_count l.initial.counter;
  encoded_least : g.C.Count.encoded_count l.initial.counter ≤ g.C.Count.encoded_count l.counter;
  encoded_most : g.C.Count.encoded_count l.counter ≤ g.C.Count.encoded_count l.initial.counter + l.k;
}
