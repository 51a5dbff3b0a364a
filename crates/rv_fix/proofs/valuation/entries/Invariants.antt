use Rattle.std.proofs.Common.{◌≡◌, ◌+◌, ◌<◌, ◌≤◌, ◌^◌, ◌++◌, length, map}
use Rattle.rv_fix.specs.Values.{entry_of}
use Rattle.rv_fix.proofs.valuation.entries.Given as goal

abbrev pub invariant-loop-operands : goal.invariant-loop-operands
invariant-loop-operands g l = record {
  values : l.entries ++ map (entry_of (g.N.Names.environment l.names l.here) l.here) l.operands
      ≡ map (entry_of (g.N.Names.environment l.names l.here) l.here) l.initial.operands;
  room : g.C.Count.valued_count l.counter + length l.operands < 2 ^ 64;
  least : g.C.Count.valued_count l.initial.counter ≤ g.C.Count.valued_count l.counter;
  most : g.C.Count.valued_count l.counter + length l.operands ≤ g.C.Count.valued_count l.initial.counter + length l.initial.operands;
  parsed : g.C.Count.parsed_count l.counter ≡ g.C.Count.parsed_count l.initial.counter;
  encoded : g.C.Count.encoded_count l.counter ≡ g.C.Count.encoded_count l.initial.counter;
}

abbrev pub decreases-loop-operands : goal.decreases-loop-operands
decreases-loop-operands g l = length l.operands
