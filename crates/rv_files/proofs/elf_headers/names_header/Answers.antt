use Rattle.std.proofs.Common.{refl, arith}
use Rattle.rv_list.specs.Image.{section_names}
use Rattle.rv_files.specs.Elf.{section_strings}
use Rattle.rv_files.proofs.ElfSteps.{words_same}
use Rattle.rv_files.proofs.elf_headers.names_header.Goals as goal

pub returns : goal.returns
unfolding section_strings section_names
returns c = words_same _ _ (refl, (refl, (refl, (refl, (omega (arith, c.strings_at.ensures), (refl, (refl, (refl, (refl, (refl, refl))))))))))
