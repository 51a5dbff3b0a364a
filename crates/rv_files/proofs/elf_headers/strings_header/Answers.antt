use Rattle.std.proofs.Common.{refl, arith}
use Rattle.rv_files.proofs.ElfSteps.{words_same}
use Rattle.rv_files.proofs.elf_headers.strings_header.Goals as goal

pub returns : goal.returns
returns c = words_same _ _ (refl, (refl, (refl, (refl, (omega (arith, c.strings_at-place.ensures), (refl, (refl, (refl, (refl, (refl, refl))))))))))
