use Rattle.std.proofs.Common.{◌≡◌, ◌+◌, ◌*◌, ◌++◌, take, length, codes}
use Rattle.std.specs.List.{flat_map}
use Rattle.rv_show.specs.Digits.{upper_hex}
use Rattle.rv_files.proofs.hex.push_bytes.Given as goal

-- the colon and the digits so far
abbrev pub invariant-loop-byte : goal.invariant-loop-byte
invariant-loop-byte g l = record {
  text : l.row ≡ codes ":" ++ flat_map upper_hex (take l.byte-index l.bytes);
  size : length l.row ≡ 1 + 2 * l.byte-index;
}
