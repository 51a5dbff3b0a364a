use Rattle.std.proofs.Common.{◌≡◌, ◌+◌, ◌-◌, ◌*◌, length, ap, arith, append_assoc}
use Rattle.rv_files.specs.Elf.{head}
use Rattle.rv_files.proofs.ElfLaw.{headers_size}
use Rattle.rv_files.proofs.elf_headers.head.Goals as goal

pub returns : goal.returns
unfolding head
returns c =
    let segments = c.args.segments.now in
    let headers = rw (c.in_ok-push_elf_header.ensures, c.new-bytes.ensures.items, c.start_of.ensures) at c.in_ok-push_program_headers.ensures in
    let zeros : c.saturating_sub-zeros.result ≡ 0x1000 - (52 + 32 * length segments) =
    omega (arith, c.saturating_sub-zeros.ensures, c.len.ensures, ap length headers, headers_size c.args.entry segments c.args.sections_at) in
    let sum = rw (headers, zeros) at c.in_ok-push_zeros.ensures in
    simp append_assoc at sum
