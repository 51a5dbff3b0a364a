-- The bytes of data. (docs/LANGUAGE.md, Values of operands)
use Rattle.std.specs.Prelude.{ℕ, ℤ, pos, negsuc, ◌-◌, ◌*◌, ◌^◌, ◌%◌, List, [], ◌∷◌, ◌++◌, take, Result, Ok, ok_or}
use Rattle.std.specs.Int.{to_le_bytes, w32}
use Rattle.rv_text.specs.declared.faults.Fault.{Fault}
use Rattle.rv_text.specs.declared.faults.FaultNumber.TheVariants.{Range}
use Rattle.rv_stmt.specs.declared.operand.Operand.{Operand}
use Rattle.rv_stmt.specs.declared.operand.Role.{Role}
use Rattle.rv_stmt.specs.declared.operand.Role.TheVariants as role
use Rattle.rv_stmt.specs.Data.{width_bytes, data_width}
use Rattle.rv_stmt.specs.Readings.{Reading, and_then}
use Rattle.rv_stmt.specs.ValueParts.{word_bits}
use Rattle.rv_layout.specs.Shapes.{fill_size}
use Rattle.rv_fix.specs.Reports.{ranged, made_of}
use Rattle.rv_fix.specs.Values.{Entry}

-- a value that its width holds, with a sign or without: n bytes hold -2 ^ (8n - 1) to 2 ^ (8n) - 1
abbrev pub in_width : Role → ℤ → Reading ℤ
in_width (role.Data w) v = ranged (negsuc (2 ^ (8 * width_bytes w - 1) - 1)) (pos (2 ^ (8 * width_bytes w) - 1)) v
in_width role v = Ok v

-- the lowest bytes of a value, the lowest first
abbrev pub low_bytes : (n : ℕ) → ℤ → List ℕ
low_bytes n v = take n (to_le_bytes w32 (word_bits v))

-- these bytes, and those of the values from left to right, or the first fault
abbrev pub with_values : List Operand → List Entry → List ℕ → Result (List ℕ) Fault
with_values [] es bs = Ok bs
with_values (o ∷ os) [] bs = Ok bs
with_values (o ∷ os) (e ∷ es) bs =
    and_then (made_of o e (in_width o.role)) (λ v. with_values os es (bs ++ low_bytes (data_width o.role) v))

-- how many bytes are filled
abbrev pub fill_count : Operand → Entry → Result ℕ Fault
fill_count o e = made_of o e (λ v. ok_or (fill_size v) Range)

-- the byte that they are filled with, -128 to 255; 0 where it is absent
abbrev pub fill_byte : List Operand → List Entry → Result ℕ Fault
fill_byte [] es = Ok 0
fill_byte (o ∷ os) [] = Ok 0
fill_byte (o ∷ os) (e ∷ es) =
    made_of o e (λ v. and_then (ranged (negsuc 127) (pos 255) v) (λ v. Ok (word_bits v % 2 ^ 8)))
