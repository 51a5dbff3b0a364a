use Rattle.rv_list.specs.Faults.{faults_of}
use Rattle.rv_list.proofs.FaultRows.{in_order}
use Rattle.rv_list.proofs.faults.find_faults.Goals as goal

pub returns-clause-faults : goal.returns-clause-faults
unfolding faults_of
returns-clause-faults g c =
    let labels = rw c.as_slice-labels.ensures at c.push_label_faults.ensures.faults in
    let odd = rw (c.is_at_odd_address-odd.ensures, c.name.ensures) at c.push_at_name.ensures.faults in
    let lost = rw (c.is_lost_in_bss-lost.ensures, c.name-2.ensures) at c.push_at_name-2.ensures.faults in
    in_order _ _ _ _ _ _ _ _ _ _ _ c.clear.ensures labels c.push_equ_fault.ensures.faults c.push_body_fault.ensures.faults odd lost
