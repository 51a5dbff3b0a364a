use Rattle.std.proofs.Common.{◌≡◌, ◌+◌, ◌-◌, ◌∷◌, length, map, take, drop, ap, sym, ◌∙◌, append_assoc}
use Rattle.rv_files.specs.Elf.{symbol_entries, symbol_entry}
use Rattle.rv_files.proofs.ElfSteps.{entries_mod}
use Rattle.rv_text.specs.SliceLaws.{first_and_rest}
use Rattle.rv_files.proofs.elf_symbols.push_symbol_table.Goals as goal

pub symbols-preserved : goal.symbols-preserved
symbols-preserved c =
    let segments = c.args.segments.now in
    let name = c.symbols.name in
    let all = c.symbols.symbols.now in
    let s = c.symbol-item.result in
    let later = map (λ t. t.now) (take (length all - 1) (drop 1 all)) in
    let next = name + (length s.now.name + 1) in
    let first : map (λ t. t.now) all ≡ s.now ∷ later =
    ap (map (λ t. t.now)) (first_and_rest all s c.in-len1-up.len_at_least) ∙ ap (λ t. t.now ∷ later) (sym c.symbol-item.is) in
    let whole = rw first at c.symbols.invariant in
    rw (c.name.ensures, entries_mod segments next later, c.in_ok-push_symbol.ensures)
    (append_assoc c.symbols.out.items (symbol_entry segments name s.now) (symbol_entries segments next later) ∙ whole)
