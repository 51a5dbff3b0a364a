use Rattle.std.proofs.Common.{arith, refl, sym}
use Rattle.rv_list.specs.Image.{section_names}
use Rattle.rv_files.specs.Elf.{name_place}
use Rattle.rv_files.proofs.ElfSteps.{last_place}
use Rattle.rv_files.proofs.elf_headers.name_place.Goals as goal

pub returns-in-0 : goal.returns-in-0
unfolding name_place section_names
returns-in-0 c = rw c.in-0.is refl

pub returns-in-1 : goal.returns-in-1
unfolding name_place section_names
returns-in-1 c = rw c.in-1.is refl

pub returns-in-2 : goal.returns-in-2
unfolding name_place section_names
returns-in-2 c = rw c.in-2.is refl

pub returns-in-3 : goal.returns-in-3
unfolding name_place section_names
returns-in-3 c = rw c.in-3.is refl

pub returns-in-4 : goal.returns-in-4
unfolding name_place section_names
returns-in-4 c = rw c.in-4.is refl

pub returns-in-5 : goal.returns-in-5
unfolding name_place section_names
returns-in-5 c = rw c.in-5.is refl

pub returns-in_default : goal.returns-in_default
returns-in_default c = sym (last_place c.args.section (omega (arith, c.in_default)))
