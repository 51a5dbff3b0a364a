-- The slices of a word.
use Rattle.std.proofs.Common.{◌≡◌, ℕ, ◌+◌, ◌*◌, ◌/◌, ◌%◌, ◌^◌, ◌≤◌, IsTrue, leb, ◌&&◌, ◌∙◌, ap, leb-true}
use Rattle.std.proofs.lemmas.Nat.{shl_whole, mod_below, pow_pos}
use Rattle.std.proofs.lemmas.Bool.{and_parts}
use Rattle.rv_ops.specs.Room.{is_slice}
use Rattle.rv_ops.specs.declared.layouts.FieldSlice.{FieldSlice}

pub record IsPlaced (s : FieldSlice) : Type 0 where
  pub field : s.field_bit + s.width ≤ 32
  pub word : s.width + s.word_bit ≤ 32

pub has_bits_of_slices : (s : FieldSlice) → IsTrue (is_slice s) → IsPlaced s
has_bits_of_slices s h =
    let width = leb 1 s.width && leb s.width 31 in
    let a = and_parts (leb (s.field_bit + s.width) 32) (leb (s.width + s.word_bit) 32 && width) h in
    let b = and_parts (leb (s.width + s.word_bit) 32) width a.1 in
    record { field = leb-true _ _ a.0; word = leb-true _ _ b.0 }

-- a cut slice, shifted, is whole
pub shifted : (d n from len to : ℕ) → len + to ≤ 32 → d ≡ n / 2 ^ from % 2 ^ len → d * 2 ^ to % 2 ^ 32 ≡ (n / 2 ^ from % 2 ^ len) * 2 ^ to
shifted d n from len to h e =
    ap (λ x. x * 2 ^ to % 2 ^ 32) e ∙ shl_whole (n / 2 ^ from % 2 ^ len) len to 32 (mod_below _ _ (pow_pos len)) h
