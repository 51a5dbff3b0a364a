use Rattle.std.proofs.Common.{◌≡◌, length, map, IsTrue}
use Rattle.std.specs.List.{list_all}
use Rattle.rv_stmt.specs.Forms.{first_of_count, forms_named, named_form, has_registers}
use Rattle.rv_stmt.proofs.form.other_form.Given as goal

abbrev pub invariant-loop-forms : goal.invariant-loop-forms
invariant-loop-forms l = record {
  registers : IsTrue (list_all (λ row. has_registers row.2) l.forms);
  first_of_count : first_of_count l.fault l.count (forms_named (map (λ row. named_form row.0.now row.1 row.2 row.3.now) l.forms) l.name) ≡ first_of_count l.fn.unknown l.count (forms_named (map (λ row. named_form row.0.now row.1 row.2 row.3.now) l.initial.forms) l.name);
}

abbrev pub decreases-loop-forms : goal.decreases-loop-forms
decreases-loop-forms l = length l.forms
