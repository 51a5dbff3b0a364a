use Rattle.rv_manual.proofs.look_up.entry_of.Goals as goal

pub returns-in-Integers : goal.returns-in-Integers
returns-in-Integers c = c.entry_in.ensures.found

pub returns-in-System : goal.returns-in-System
returns-in-System c = c.entry_in-in-System.ensures.found

pub returns-in-Atomics : goal.returns-in-Atomics
returns-in-Atomics c = c.entry_in-in-Atomics.ensures.found

pub returns-in-OrderedAtomics : goal.returns-in-OrderedAtomics
returns-in-OrderedAtomics c = c.entry_in-in-OrderedAtomics.ensures.found

pub returns-in-Compressed : goal.returns-in-Compressed
returns-in-Compressed c = c.entry_in-in-Compressed.ensures.found

pub returns-in-PseudoInstructions : goal.returns-in-PseudoInstructions
returns-in-PseudoInstructions c = c.entry_in-in-PseudoInstructions.ensures.found

pub returns-in-Directives : goal.returns-in-Directives
returns-in-Directives c = c.entry_in-in-Directives.ensures.found

pub returns-in-Registers : goal.returns-in-Registers
returns-in-Registers c = c.entry_in-in-Registers.ensures.found

pub returns-in-Csrs : goal.returns-in-Csrs
returns-in-Csrs c = c.entry_in-in-Csrs.ensures.found
