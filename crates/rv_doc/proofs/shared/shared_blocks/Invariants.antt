use Rattle.std.proofs.Common.{◌≡◌, ◌≤◌, length, take, drop}
use Rattle.rv_doc.proofs.shared.shared_blocks.Given as goal

abbrev pub invariant-pieces : goal.invariant-pieces
invariant-pieces l = record {
  rest : l.rest ≡ drop l.at l.fn.a;
  other : l.other ≡ drop l.at l.fn.b;
  same : take l.at l.fn.a ≡ take l.at l.fn.b;
  first : l.at ≤ length l.fn.a;
  second : l.at ≤ length l.fn.b;
}

abbrev pub decreases-pieces : goal.decreases-pieces
decreases-pieces l = length l.rest
