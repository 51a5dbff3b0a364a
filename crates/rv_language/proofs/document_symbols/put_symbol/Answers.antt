use Rattle.std.proofs.Common.{append_assoc, ◌∙◌}
use Rattle.rv_language.specs.DocumentSymbols.{document_symbol}
use Rattle.rv_language.proofs.document_symbols.put_symbol.Goals as goal

pub returns : goal.returns
unfolding document_symbol
returns c =
    let name = c.as_str.ensures.value ∙ c.in_ok-name.ensures.lossy in
    rw (c.in_ok-end_object.ensures, c.in_ok-put_name_range-2.ensures, c.in_ok-key.ensures, c.in_ok-put_name_range.ensures, c.in_ok-put_all.ensures, name)
    (simp append_assoc)
