use Rattle.std.proofs.Common.{◌≡◌, length, refl, sym, ap, ◌∙◌}
use Rattle.std.specs.List.{filter}
use Rattle.std.proofs.lemmas.List.{length-map}
use Rattle.rv_files.specs.Elf.{has_value, headers_at, elf_file}
use Rattle.rv_files.proofs.ElfSteps.{head_mod}
use Rattle.rv_files.proofs.elf.Elf.of.Goals as goal

pub returns : goal.returns
unfolding elf_file
returns c =
    let segments = c.args.segments.items in
    let symbols = filter has_value c.args.symbols.now in
    let slice = c.as_slice-symbols.ensures.value in
    let count : length c.as_slice-symbols.result.now ≡ length symbols =
    ap length slice ∙ sym (length-map c.in_ok-valued.valued.items (λ s. s.now)) ∙ ap length c.in_ok-valued.ensures in
    let head = rw (c.headers_at-sections_at.ensures, count, c.as_slice.ensures.value, c.as_slice-2.ensures.value, head_mod c.args.entry segments (headers_at segments (length symbols))) at c.in_ok-head.ensures in
    let tail = rw (c.as_slice-3.ensures.value, slice, c.in_ok-valued.ensures) at c.in_ok-tail.ensures in
    rw (head, tail) refl
