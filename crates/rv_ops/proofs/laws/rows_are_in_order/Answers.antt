use Rattle.rv_ops.specs.TableLaws.{number_of-below, row_of-operation, layout_of-shape}
use Rattle.rv_ops.proofs.laws.rows_are_in_order.Goals as goal

pub returns : goal.returns
returns c = record { below = number_of-below; row = row_of-operation; layout = layout_of-shape }
