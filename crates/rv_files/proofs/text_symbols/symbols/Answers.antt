use Rattle.std.proofs.Common.{arith}
use Rattle.rv_files.proofs.text_symbols.symbols.Goals as goal

pub returns : goal.returns
returns g c =
    let symbols = c.in_ok-symbols.symbols in
    c.in_ok-symbols.ensures.all (omega (arith, symbols.ok, symbols.small))
