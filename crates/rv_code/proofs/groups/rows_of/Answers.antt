use Rattle.std.proofs.Common.{◌-◌, length, refl}
use Rattle.std.specs.Prelude.{nat_le, slice_index_or}
use Rattle.std.proofs.lemmas.Bool.{leb-true, and_parts}
use Rattle.rv_ops.specs.declared.table.TheConstants.{TABLE}
use Rattle.rv_code.specs.Groups.{table_codes}
use Rattle.rv_code.proofs.GroupLaws.{group-within, mapped_part}
use Rattle.rv_code.proofs.groups.rows_of.Goals as goal

pub between-requires-clause-first : goal.between-requires-clause-first
between-requires-clause-first c =
    let group = slice_index_or c.args.groups.now c.args.number (0, 0) in
    let within = group-within c.args.groups.now c.args.number c.requires.groups c.requires.number in
    leb-true group.0 group.1 (and_parts (nat_le group.0 group.1) (nat_le group.1 (length TABLE)) within).0

pub between-requires-clause-end : goal.between-requires-clause-end
between-requires-clause-end c =
    let group = slice_index_or c.args.groups.now c.args.number (0, 0) in
    let within = group-within c.args.groups.now c.args.number c.requires.groups c.requires.number in
    leb-true group.1 (length TABLE) (and_parts (nat_le group.0 group.1) (nat_le group.1 (length TABLE)) within).1

pub returns : goal.returns
unfolding table_codes
returns c =
    let group = slice_index_or c.args.groups.now c.args.number (0, 0) in
    mapped_part (λ row. (row.0, row.3, row.4)) c.between.result.now _ table_codes group.0 (group.1 - group.0) c.between.ensures refl
