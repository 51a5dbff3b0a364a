use Rattle.std.proofs.Common.{◌≡◌, false, length}
use Rattle.std.specs.Prelude.{◌||◌, map}
use Rattle.rv_stmt.specs.Forms.{forms_named, named_form}
use Rattle.rv_language.specs.LineNames.{have_slot, is_csr_slot, is_set_slot}
use Rattle.rv_language.proofs.operand_lists.names_in_forms.Given as goal

-- what the rows so far take, and what those that are left take
abbrev pub invariant-rows : goal.invariant-rows
invariant-rows l = record {
  csrs : (l.kinds.csrs || have_slot is_csr_slot l.operand (forms_named (map (λ row. named_form row.0.now row.1 row.2 row.3.now) l.rows) l.name))
      ≡ have_slot is_csr_slot l.operand (forms_named (map (λ row. named_form row.0.now row.1 row.2 row.3.now) l.fn.rows) l.name);
  sets : (l.kinds.sets || have_slot is_set_slot l.operand (forms_named (map (λ row. named_form row.0.now row.1 row.2 row.3.now) l.rows) l.name))
      ≡ have_slot is_set_slot l.operand (forms_named (map (λ row. named_form row.0.now row.1 row.2 row.3.now) l.fn.rows) l.name);
  sections : l.kinds.sections ≡ false;
}

abbrev pub decreases-rows : goal.decreases-rows
decreases-rows l = length l.rows
