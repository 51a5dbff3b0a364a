use Rattle.std.proofs.Common.{◌≡◌, ◌==◌, not, drop}
use Rattle.std.specs.List.{list_any}
use Rattle.rv_list.proofs.faults.has_set_byte.Given as goal

-- the bytes so far are 0
abbrev pub invariant-loop-place : goal.invariant-loop-place
invariant-loop-place l = record {
  rest : list_any (λ byte. not (byte == 0)) (drop l.place l.payload) ≡ list_any (λ byte. not (byte == 0)) l.payload;
}
