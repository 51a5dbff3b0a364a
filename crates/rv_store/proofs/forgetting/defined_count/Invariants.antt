use Rattle.std.proofs.Common.{◌≡◌, ◌≤◌, length, take}
use Rattle.std.specs.List.{filter}
use Rattle.rv_program.specs.Definitions.{is_defined}
use Rattle.rv_store.proofs.forgetting.defined_count.Given as goal

abbrev pub invariant-loop-place : goal.invariant-loop-place
invariant-loop-place l = record {
  count : l.count ≡ length (filter is_defined (take l.place-index l.definitions));
  most : l.count ≤ l.place-index;
}
