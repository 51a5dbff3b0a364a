-- The padded names begin with the names: computed from the tables.
use Rattle.std.proofs.Common.{◌≡◌, ℕ, zero, suc, ◌<◌, ◌≤◌, true, List, [], ◌∷◌, ◌++◌, length, take, drop, map, slice_index_or, refl, arith, ltb, ltb-true, ◌&&◌}
use Rattle.std.specs.List.{list_all}
use Rattle.std.proofs.lemmas.Bool.{and_parts}
use Rattle.rv_ops.specs.Registers.{register_name}
use Rattle.rv_ops.specs.Table.{number_of, operation_name, row_of}
use Rattle.rv_ops.specs.declared.op.Op.{Op}
use Rattle.rv_ops.specs.declared.op.Op.TheVariants.{Lui}
use Rattle.rv_ops.specs.declared.registers.TheConstants.{REGISTERS}
use Rattle.rv_dis.specs.declared.names.TheConstants.{OPERATION_NAMES, REGISTER_NAMES}

-- the text and the length in a row
abbrev pub operation_text : Op → List ℕ
operation_text o = slice_index_or (map (λ row. row.0.now) OPERATION_NAMES) (number_of o) []

abbrev pub operation_length : Op → ℕ
operation_length o = slice_index_or (map (λ row. row.1) OPERATION_NAMES) (number_of o) 0

pub operation_begins : (o : Op) → take (operation_length o) (operation_text o) ≡ operation_name o
unfolding operation_name row_of
operation_begins Lui = refl
operation_begins _ = refl

pub length_of_operation : (o : Op) → operation_length o ≡ length (operation_name o)
unfolding operation_name row_of
length_of_operation Lui = refl
length_of_operation _ = refl

abbrev pub register_text : ℕ → List ℕ
register_text n = slice_index_or (map (λ row. row.0.now) REGISTER_NAMES) n []

abbrev pub register_length : ℕ → ℕ
register_length n = slice_index_or (map (λ row. row.1) REGISTER_NAMES) n 0

-- the beginnings of the rows of a table, at a place in it
begins_at : (rows : List ((record { now : List ℕ }) × ℕ)) (others : List (List ℕ)) (n : ℕ) → n < length rows → take (slice_index_or (map (λ row. row.1) rows) n 0) (slice_index_or (map (λ row. row.0.now) rows) n []) ≡ slice_index_or (map (λ row. take row.1 row.0.now) rows ++ others) n []
begins_at [] others n h = absurd (omega (arith, h))
begins_at (row ∷ rows) others zero h = refl
begins_at (row ∷ rows) others (suc n) h = begins_at rows others n (omega (arith, h))

pub register_begins : (n : ℕ) → n < 32 → take (register_length n) (register_text n) ≡ register_name n
unfolding register_name
register_begins n h = begins_at REGISTER_NAMES (map (λ row. row.1.now) (drop 32 REGISTERS)) n h

-- a text that may be cut off so that this many bytes of it are left
pub record IsCut (text : List ℕ) (len : ℕ) : Type 0 where
  pub within : len ≤ length text
  pub ascii : slice_index_or text len 0 < 128

are_cuts : (rows : List ((record { now : List ℕ }) × ℕ)) (n : ℕ) → list_all (λ row. ltb row.1 (suc (length row.0.now)) && ltb (slice_index_or row.0.now row.1 0) 128) rows ≡ true → IsCut (slice_index_or (map (λ row. row.0.now) rows) n []) (slice_index_or (map (λ row. row.1) rows) n 0)
are_cuts [] n h = record { within = omega arith; ascii = omega arith }
are_cuts (row ∷ rows) zero h =
    let parts = and_parts (ltb row.1 (suc (length row.0.now))) (ltb (slice_index_or row.0.now row.1 0) 128) (and_parts _ _ h).0 in
    record {
      within = omega (arith, ltb-true row.1 (suc (length row.0.now)) parts.0);
      ascii = ltb-true (slice_index_or row.0.now row.1 0) 128 parts.1;
    }
are_cuts (row ∷ rows) (suc n) h = are_cuts rows n (and_parts _ _ h).1

pub operation_cut : (o : Op) → IsCut (operation_text o) (operation_length o)
operation_cut o = are_cuts OPERATION_NAMES (number_of o) refl

pub register_cut : (n : ℕ) → IsCut (register_text n) (register_length n)
register_cut n = are_cuts REGISTER_NAMES n refl
