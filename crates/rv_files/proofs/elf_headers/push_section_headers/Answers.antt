use Rattle.std.proofs.Common.{append_assoc}
use Rattle.rv_files.specs.Elf.{section_headers}
use Rattle.rv_files.proofs.elf_headers.push_section_headers.Goals as goal

pub returns : goal.returns
unfolding section_headers
returns c =
    let sum = rw (c.in_ok-push_words-2.ensures, c.in_ok-push_words.ensures, c.in_ok-push_segment_headers.ensures, c.in_ok-push_zeros.ensures, c.start_of.ensures, c.symbols_header.ensures, c.strings_header.ensures, c.names_header.ensures) at c.push_words-3.ensures in
    simp append_assoc at sum
