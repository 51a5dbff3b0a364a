use Rattle.std.proofs.Common.{◌≡◌, ◌++◌, length, map, replicate}
use Rattle.rv_files.specs.Elf.{symbol_entries}
use Rattle.rv_files.proofs.elf_symbols.push_symbol_table.Given as goal

-- the entries so far, and those that are left
abbrev pub invariant-symbols : goal.invariant-symbols
invariant-symbols l = l.out.items ++ symbol_entries l.segments l.name (map (λ s. s.now) l.symbols) ≡ l.fn.out.items ++ (replicate 16 0 ++ symbol_entries l.segments 1 (map (λ s. s.now) l.fn.symbols))

abbrev pub decreases-symbols : goal.decreases-symbols
decreases-symbols l = length l.symbols
