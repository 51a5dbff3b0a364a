use Rattle.std.proofs.Common.{[]}
use Rattle.rv_ops.proofs.LayoutFacts.{slice_index_or-map}
use Rattle.rv_ops.proofs.names.name_at.Goals as goal

pub returns : goal.returns
returns c = slice_index_or-map (λ row. row.1.now) c.args.rows.now c.args.index (0, record { ref_ptr = (0, 0); now = [] })
