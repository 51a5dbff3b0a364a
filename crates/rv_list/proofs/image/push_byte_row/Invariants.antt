use Rattle.std.proofs.Common.{◌≡◌, ◌+◌, ◌*◌, ◌++◌, take, length, codes}
use Rattle.std.specs.List.{flat_map}
use Rattle.rv_text.specs.Rows.{hex}
use Rattle.rv_list.specs.Image.{byte_text}
use Rattle.rv_list.proofs.image.push_byte_row.Given as goal

-- the address and the bytes so far
abbrev pub invariant-loop-byte : goal.invariant-loop-byte
invariant-loop-byte g l = record {
  text : l.row ≡ hex 8 l.address ++ (codes ":" ++ flat_map byte_text (take l.byte-index l.bytes));
  size : length l.row ≡ 9 + 3 * l.byte-index;
}
