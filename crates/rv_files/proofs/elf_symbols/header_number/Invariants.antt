use Rattle.std.proofs.Common.{◌≡◌, ◌+◌, length}
use Rattle.rv_files.specs.Elf.{header_number}
use Rattle.rv_files.proofs.elf_symbols.header_number.Given as goal

-- the segments so far are of other sections
abbrev pub invariant-segments : goal.invariant-segments
invariant-segments l = record {
  found : header_number l.number l.section l.segments ≡ header_number 1 l.section l.fn.segments;
  count : l.number + length l.segments ≡ 1 + length l.fn.segments;
}

abbrev pub decreases-segments : goal.decreases-segments
decreases-segments l = length l.segments
