use Rattle.rv_code.proofs.WordLemmas.{one_instruction, full_bits, half_bits}
use Rattle.rv_code.proofs.laws.words_tell_instructions_apart.Goals as goal

pub returns : goal.returns
returns c = record { one = one_instruction; full = full_bits; half = half_bits }
