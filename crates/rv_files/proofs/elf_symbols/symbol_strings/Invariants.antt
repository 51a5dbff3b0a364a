use Rattle.std.proofs.Common.{◌≡◌, ◌∷◌, ◌++◌, length, map}
use Rattle.std.specs.List.{flat_map}
use Rattle.rv_files.specs.Elf.{ended}
use Rattle.rv_files.proofs.elf_symbols.symbol_strings.Given as goal

-- the names so far, and those that are left
abbrev pub invariant-symbols : goal.invariant-symbols
invariant-symbols l = l.bytes.items ++ flat_map ended (map (λ s. s.name) (map (λ s. s.now) l.symbols)) ≡ 0 ∷ flat_map ended (map (λ s. s.name) (map (λ s. s.now) l.fn.symbols))

abbrev pub decreases-symbols : goal.decreases-symbols
decreases-symbols l = length l.symbols
