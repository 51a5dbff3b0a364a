use denote.Enum.Declared.{tag_of}
use Rattle.std.proofs.Common.{◌∙◌, sym}
use Rattle.rv_ops.specs.contracts.op.Shape.{the_type as shape_type}
use Rattle.rv_ops.specs.declared.layouts.TheConstants.{LAYOUTS}
use Rattle.rv_ops.specs.Table.{layout_of, no_layout}
use Rattle.rv_ops.proofs.LayoutFacts.{slice_index_or-map}
use Rattle.rv_ops.proofs.lookup.layout.Goals as goal

pub returns-clause-registers : goal.returns-clause-registers
unfolding layout_of
returns-clause-registers c =
    c.layout_at.ensures.registers ∙ sym (slice_index_or-map (λ row. row.1) LAYOUTS (tag_of shape_type c.args.shape) no_layout)

pub returns-clause-limits : goal.returns-clause-limits
unfolding layout_of
returns-clause-limits c =
    c.layout_at.ensures.limits ∙ sym (slice_index_or-map (λ row. row.2) LAYOUTS (tag_of shape_type c.args.shape) no_layout)

pub returns-clause-sign : goal.returns-clause-sign
unfolding layout_of
returns-clause-sign c =
    c.layout_at.ensures.sign ∙ sym (slice_index_or-map (λ row. row.3) LAYOUTS (tag_of shape_type c.args.shape) no_layout)

pub returns-clause-slices : goal.returns-clause-slices
unfolding layout_of
returns-clause-slices c =
    c.layout_at.ensures.slices ∙ sym (slice_index_or-map (λ row. row.4.now) LAYOUTS (tag_of shape_type c.args.shape) no_layout)
