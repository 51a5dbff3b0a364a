use Rattle.std.proofs.Common.{◌≡◌, ◌+◌, ◌%◌, ◌^◌, length}
use Rattle.rv_files.specs.Bin.{bin_bytes}
use Rattle.rv_files.specs.Elf.{contents}
use Rattle.rv_files.proofs.elf_headers.contents_size.Given as goal

-- the bytes so far, and those that are left
abbrev pub invariant-segments : goal.invariant-segments
invariant-segments l = (l.size + length (bin_bytes l.at l.segments)) % 2 ^ 64 ≡ length (contents l.fn.segments) % 2 ^ 64

abbrev pub decreases-segments : goal.decreases-segments
decreases-segments l = length l.segments
