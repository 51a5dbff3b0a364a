use Rattle.std.proofs.Common.{◌≡◌, ◌+◌, ◌*◌, ◌++◌, take, length}
use Rattle.std.specs.List.{flat_map}
use Rattle.rv_text.specs.Rows.{hex}
use Rattle.rv_list.proofs.listing.push_bytes.Given as goal

-- the digits so far
abbrev pub invariant-loop-byte : goal.invariant-loop-byte
invariant-loop-byte l = record {
  text : l.row ≡ l.fn.row ++ flat_map (hex 2) (take l.byte-index l.bytes);
  size : length l.row ≡ length l.fn.row + 2 * l.byte-index;
}
