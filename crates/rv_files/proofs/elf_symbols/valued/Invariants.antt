use Rattle.std.proofs.Common.{◌≡◌, ◌++◌, length, map}
use Rattle.std.specs.List.{filter}
use Rattle.rv_files.specs.Elf.{has_value}
use Rattle.rv_files.proofs.elf_symbols.valued.Given as goal

-- the symbols so far, and those that are left
abbrev pub invariant-symbols : goal.invariant-symbols
invariant-symbols l = map (λ s. s.now) l.valued.items ++ filter has_value l.symbols ≡ filter has_value l.fn.symbols

abbrev pub decreases-symbols : goal.decreases-symbols
decreases-symbols l = length l.symbols
