-- How far addresses lie from the line that names them. (docs/LANGUAGE.md, Values of operands)
use Rattle.std.specs.Prelude.{ℕ, ℤ, pos, ◌-ℤ◌}
use Rattle.rv_stmt.specs.ValueParts.{signed_word}

-- how far an address is from that of the line
abbrev pub displacement : (here : ℕ) → (address : ℤ) → ℤ
displacement here v = signed_word (v -ℤ pos here)
