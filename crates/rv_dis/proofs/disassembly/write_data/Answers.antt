use Rattle.std.proofs.Common.{arith, ap, length, ◌∙◌, ◌++◌}
use Rattle.rv_dis.proofs.Lengths.{length-hex}
use Rattle.rv_dis.proofs.disassembly.write_data.Goals as goal

pub push_hexadecimal_of-requires-clause-room : goal.push_hexadecimal_of-requires-clause-room
push_hexadecimal_of-requires-clause-room c = omega (arith, length-hex c.args.digits c.args.value, ap length (c.push_str.ensures ∙ ap (λ xs. xs ++ c.args.directive.now) c.requires.text), c.requires.directive, c.requires.digits)
