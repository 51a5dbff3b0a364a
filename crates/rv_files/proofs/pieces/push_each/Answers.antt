use Rattle.std.proofs.Common.{◌≡◌, ◌++◌, ap, append_assoc, subst, sym, ◌∙◌}
use Rattle.rv_files.specs.Pieces.{HoldsBytes, bytes_of_pieces}
use Rattle.rv_files.proofs.PieceLists.{holds_more, pieces_more}
use Rattle.rv_files.proofs.pieces.push_each.Goals as goal

pub returns-clause-whole : goal.returns-clause-whole
returns-clause-whole c =
    let before = c.take_last.new.pieces.items in
    let bytes = c.in_ok-bytes.bytes.items in
    ap bytes_of_pieces c.in_ok-push.ensures.items
    ∙ pieces_more before c.listed-last.result
    ∙ ap (λ l. bytes_of_pieces before ++ l) (c.listed-last.ensures.value ∙ c.in_ok-append_to.ensures.appended)
    ∙ sym (append_assoc (bytes_of_pieces before) bytes c.args.payload.now)
    ∙ ap (λ l. l ++ c.args.payload.now) c.in_ok-bytes.ensures.whole

pub returns-clause-bytes : goal.returns-clause-bytes
returns-clause-bytes c held =
    let more = holds_more c.take_last.new.pieces.items c.listed-last.result (c.in_ok-bytes.ensures.bytes held) c.listed-last.ensures.bytes in
    subst HoldsBytes (sym c.in_ok-push.ensures.items) more
