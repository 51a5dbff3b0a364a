use Rattle.std.proofs.lemmas.Grind.{common_steps}
use Rattle.std.proofs.Common.{◌≡◌, ap, ◌∙◌, arith}
use Rattle.rv_list.specs.Faults.{faults_of, found}
use Rattle.rv_list.specs.FoundFaults.{all_found}
use Rattle.rv_list.specs.Shown.{shown_line}
use Rattle.rv_files.specs.OddAddresses.{reported_faults}
use Rattle.rv_files.proofs.odd_addresses.find_reported.Goals as goal

pub returns-clause-faults : goal.returns-clause-faults
unfolding reported_faults
returns-clause-faults g c =
    let faults = faults_of (g.V.View.shown c.args.view.now) c.args.number (shown_line c.args.line.now) in
    let all : found c.as_slice.result.now ≡ faults = ap found (c.as_slice.ensures.value ∙ c.find_faults.ensures.faults) ∙ all_found faults in
    let reported = rw (c.clear.ensures, all, c.requires.lines) at c.push_reported.ensures.reported in
    reported

pub returns-clause-all : goal.returns-clause-all
returns-clause-all g c = grind (arith, common_steps)
