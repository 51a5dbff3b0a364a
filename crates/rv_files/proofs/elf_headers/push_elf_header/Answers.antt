use Rattle.std.proofs.Common.{append_assoc}
use Rattle.rv_files.specs.Elf.{elf_header}
use Rattle.rv_files.proofs.elf_headers.push_elf_header.Goals as goal

pub returns : goal.returns
unfolding elf_header
returns c =
    let sum = rw (c.in_ok-push_words.ensures, c.in_ok-push_halves.ensures, c.in_ok-extend_from_slice.ensures.items, c.programs_at-programs_at.ensures, c.from.ensures) at c.push_halves-2.ensures in
    simp append_assoc at sum
