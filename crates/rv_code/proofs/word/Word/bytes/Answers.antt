use Rattle.std.proofs.Common.{[], ◌∷◌, ◌∙◌, ap, get_or, sym}
use Rattle.rv_code.specs.Encoding.{bytes_of_word}
use Rattle.rv_code.proofs.Words.{pushed}
use Rattle.rv_code.proofs.word.Word.bytes.Goals as goal

pub returns-in-Full : goal.returns-in-Full
returns-in-Full c =
    let items = pushed c.new-bytes.ensures c.push-in-Full.ensures.items c.push-in-Full-2.ensures.items c.push-in-Full-3.ensures.items c.push-in-Full-4.ensures.items in
    items
    ∙ ap (λ bs. get_or bs 0 0 ∷ get_or bs 1 0 ∷ get_or bs 2 0 ∷ get_or bs 3 0 ∷ []) c.to_le_bytes-in-Full.ensures
    ∙ ap bytes_of_word (sym c.in-Full.is)
