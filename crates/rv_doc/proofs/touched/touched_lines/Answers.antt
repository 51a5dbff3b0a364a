use Rattle.std.proofs.Common.{◌-◌, length, sym, arith}
use Rattle.rv_doc.proofs.Edited.{back_less}
use Rattle.rv_doc.proofs.touched.touched_lines.Goals as goal

pub lines_between-requires-clause-back : goal.lines_between-requires-clause-back
lines_between-requires-clause-back c =
    let end = c.line_end_behind-end in
    let back = c.shared_back-back in
    back_less c.args.old.now c.args.new.now c.shared_front-front.result back.result (length c.args.new.now - end.result)
    c.shared_front-front.ensures.first c.shared_front-front.ensures.second
    (rw (sym c.split_at.ensures.back) back.ensures.first)
    (rw (sym c.split_at-2.ensures.back) back.ensures.second)
    (rw (sym c.split_at.ensures.back, sym c.split_at-2.ensures.back) back.ensures.same)
    (omega (arith, end.ensures.behind))
