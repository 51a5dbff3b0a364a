-- The rows of a stretch of bytes. (docs/LANGUAGE.md, Disassembly)
use Rattle.std.specs.Prelude.{◌≡◌, ℕ, ◌+◌, ◌%◌, ◌^◌, ◌≤◌, List, [], ◌∷◌, ◌++◌, length, drop, codes, slice_index}
use Rattle.std.specs.Int.{from_le_bytes, w16, w32}
use Rattle.rv_ops.specs.declared.op.Op.{Op}
use Rattle.rv_code.specs.declared.instruction.Fields.{Fields}
use Rattle.rv_code.specs.declared.word.Word.{Word}
use Rattle.rv_code.specs.declared.word.Word.TheVariants.{Half, Full}
use Rattle.rv_code.specs.Encoding.{Fits, word_of}
use Rattle.rv_dis.specs.declared.row.DisRow.{DisRow}
use Rattle.rv_dis.specs.Text.{instruction_text, hexadecimal_of}

-- the number that a word is
abbrev pub word_value : Word → ℕ
word_value (Half n) = n
word_value (Full n) = n

-- how many bytes a word has
abbrev pub word_size : Word → ℕ
word_size (Half n) = 2
word_size (Full n) = 4

-- an instruction
abbrev pub instruction_row : (address : ℕ) → Op → Fields → DisRow
instruction_row address o f =
    record { address = address; value = word_value (word_of o f); len = word_size (word_of o f); text = instruction_text address o f }

-- two bytes with which no instruction begins
abbrev pub half_row : (address : ℕ) → (value : ℕ) → DisRow
half_row address value =
    record { address = address; value = value; len = 2; text = codes ".half " ++ hexadecimal_of 4 value }

-- a last byte without a second
abbrev pub byte_row : (address : ℕ) → (value : ℕ) → DisRow
byte_row address value =
    record { address = address; value = value; len = 1; text = codes ".byte " ++ hexadecimal_of 2 value }

-- the word stands first in the bytes, its lowest byte first
abbrev pub StandsFirst : Word → List ℕ → Type 0
StandsFirst (Half n) bytes = (2 ≤ length bytes) × (n ≡ from_le_bytes w16 bytes)
StandsFirst (Full n) bytes = (4 ≤ length bytes) × (n ≡ from_le_bytes w32 bytes)

-- the word of an instruction stands first
pub record Begins (o : Op) (f : Fields) (bytes : List ℕ) : Type 0 where
  pub fits : Fits o f
  pub word : StandsFirst (word_of o f) bytes

-- the address so many bytes further, modulo 2 ^ 32
abbrev pub further : (address : ℕ) → ℕ → ℕ
further address n = (address + n) % 2 ^ 32

-- The rows of the bytes from an address on. An instruction is shown exactly where its word stands first.
pub data Shows : (address : ℕ) → List ℕ → List DisRow → Type 0 where
  ended : (address : ℕ) → Shows address [] []
  shown : (address : ℕ) (o : Op) (f : Fields) (bytes : List ℕ) (rows : List DisRow) → Begins o f bytes → Shows (further address (word_size (word_of o f))) (drop (word_size (word_of o f)) bytes) rows → Shows address bytes (instruction_row address o f ∷ rows)
  half : (address : ℕ) (bytes : List ℕ) (rows : List DisRow) → 2 ≤ length bytes → ((o : Op) (f : Fields) → Begins o f bytes → ⊥) → Shows (further address 2) (drop 2 bytes) rows → Shows address bytes (half_row address (from_le_bytes w16 bytes) ∷ rows)
  byte : (address : ℕ) (bytes : List ℕ) → length bytes ≡ 1 → Shows address bytes (byte_row address (slice_index bytes 0) ∷ [])

-- a row stands first, and the others after it
pub record IsFirst (address : ℕ) (bytes : List ℕ) (row : DisRow) : Type 0 where
  pub some : 1 ≤ row.len
  pub within : row.len ≤ length bytes
  pub next : (rows : List DisRow) → Shows (further address row.len) (drop row.len bytes) rows → Shows address bytes (row ∷ rows)
