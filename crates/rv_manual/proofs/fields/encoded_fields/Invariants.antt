use Rattle.std.proofs.Common.{◌≡◌, ◌+◌, ◌≤◌, ◌++◌, length, map}
use Rattle.rv_manual.specs.Fields.{field_of, stretches_below, size_of}
use Rattle.rv_manual.proofs.fields.encoded_fields.Given as goal

-- the fields so far, with those of the bits that are left
abbrev pub invariant-bits : goal.invariant-bits
invariant-bits l = record {
  room : length l.fields.items + l.end ≤ 32;
  rest : l.fields.items ++ map (field_of l.word) (stretches_below l.op l.end) ≡ map (field_of l.word) (stretches_below l.op (size_of l.op));
}

abbrev pub decreases-bits : goal.decreases-bits
decreases-bits l = l.end
