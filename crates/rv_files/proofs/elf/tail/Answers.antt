use Rattle.std.proofs.Common.{◌≡◌, length, map, ap, append_assoc, ◌∙◌, arith}
use Rattle.std.proofs.lemmas.List.{length-map}
use Rattle.rv_list.specs.Image.{section_names}
use Rattle.rv_files.specs.Elf.{tail, symbol_strings, section_strings}
use Rattle.rv_files.proofs.elf.tail.Goals as goal

pub returns : goal.returns
unfolding tail section_strings section_names
returns c =
    let strings = c.as_slice.ensures.value ∙ c.in_ok-strings.ensures in
    let size : c.len.result ≡ length (symbol_strings (map (λ s. s.now) c.args.symbols.now)) = omega (arith, c.len.ensures, ap length c.in_ok-strings.ensures) in
    let sum = rw (c.in_ok-extend_from_slice.ensures.items, c.in_ok-push_section_headers.ensures, c.in_ok-push_symbol_table.ensures, c.in_ok-push_zeros.ensures, c.new-bytes.ensures.items, c.fill_of.ensures, strings, size) at c.in_ok-extend_from_slice-2.ensures.items in
    rw (length-map c.args.symbols.now (λ s. s.now)) (simp append_assoc at sum)
