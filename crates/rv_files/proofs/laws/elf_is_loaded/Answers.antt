use Rattle.rv_files.proofs.ElfLaw.{elf_loads, elf_starts}
use Rattle.rv_files.proofs.laws.elf_is_loaded.Goals as goal

pub returns-clause-memory : goal.returns-clause-memory
returns-clause-memory c = elf_loads

pub returns-clause-start : goal.returns-clause-start
returns-clause-start c = elf_starts
