use Rattle.std.proofs.Common.{◌≡◌, ◌+◌, ◌<◌, ◌*◌, ◌^◌, length}
use Rattle.rv_doc.specs.Positions.{columns}
use Rattle.rv_doc.proofs.encoding.column_of.Given as goal

abbrev pub invariant-bytes : goal.invariant-bytes
invariant-bytes l = record {
  value : columns l.encoding l.front ≡ l.column + columns l.encoding l.rest;
  few : l.column + 2 * length l.rest < 2 ^ 32;
}

abbrev pub decreases-bytes : goal.decreases-bytes
decreases-bytes l = length l.rest
