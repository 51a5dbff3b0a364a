use Rattle.std.proofs.Common.{refl, arith}
use Rattle.rv_files.proofs.ElfSteps.{words_same}
use Rattle.rv_files.proofs.elf_headers.symbols_header.Goals as goal

pub returns : goal.returns
returns c = words_same _ _ (refl, (refl, (refl, (refl, (omega (arith, c.symbols_at-place.ensures), (omega (arith, c.table_size.ensures), (omega arith, (omega arith, (refl, (refl, refl))))))))))
