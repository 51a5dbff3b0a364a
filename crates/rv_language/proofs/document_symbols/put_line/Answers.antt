use Rattle.std.proofs.Common.{append_assoc}
use Rattle.rv_language.specs.DocumentSymbols.{line_symbols}
use Rattle.rv_language.proofs.document_symbols.put_line.Goals as goal

pub returns : goal.returns
unfolding line_symbols
returns g c =
    rw (c.in_ok-put_equ.ensures, c.in_ok-put_labels.ensures, c.as_slice-labels.ensures, c.text_of-text.ensures.value) (simp append_assoc)
