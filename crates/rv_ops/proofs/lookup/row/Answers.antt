use Rattle.std.proofs.Common.{◌∙◌, sym}
use Rattle.rv_ops.specs.declared.table.TheConstants.{TABLE}
use Rattle.rv_ops.specs.Table.{number_of, no_row, operation_name, row_of}
use Rattle.rv_ops.proofs.LayoutFacts.{slice_index_or-map}
use Rattle.rv_ops.proofs.lookup.row.Goals as goal

pub returns-clause-name : goal.returns-clause-name
unfolding operation_name row_of
returns-clause-name c = c.row_at.ensures.name ∙ sym (slice_index_or-map (λ row. row.1.now) TABLE (number_of c.args.op) no_row)

pub returns-clause-shape : goal.returns-clause-shape
unfolding row_of
returns-clause-shape c = c.row_at.ensures.shape ∙ sym (slice_index_or-map (λ row. row.2) TABLE (number_of c.args.op) no_row)

pub returns-clause-fixed : goal.returns-clause-fixed
unfolding row_of
returns-clause-fixed c = c.row_at.ensures.fixed ∙ sym (slice_index_or-map (λ row. row.3) TABLE (number_of c.args.op) no_row)

pub returns-clause-mask : goal.returns-clause-mask
unfolding row_of
returns-clause-mask c = c.row_at.ensures.mask ∙ sym (slice_index_or-map (λ row. row.4) TABLE (number_of c.args.op) no_row)
