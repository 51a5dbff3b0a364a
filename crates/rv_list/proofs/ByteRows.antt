-- Sixteen bytes at a time, and the rows that they make.
use Rattle.std.proofs.Common.{◌≡◌, ℕ, ◌+◌, ◌-◌, ◌*◌, ◌%◌, ◌^◌, ◌<◌, ◌≤◌, List, [], ◌++◌, length, take, drop, sym, ap, ◌∙◌, arith}
use Rattle.std.proofs.lemmas.List.{take_all, drop_all, append-nil, drop-drop, length-take, length-drop}
use Rattle.std.proofs.Math.Seq.{take-append_seam, drop-append_seam}
use Rattle.std.specs.Prelude.{Option, min}
use Rattle.rv_text.specs.Streams.{WritesPrefix}
use Rattle.rv_text.specs.Blocks.{Waits}
use Rattle.rv_list.specs.Image.{byte_row, byte_row_at, row_count, byte_rows}
use Rattle.rv_list.specs.Joined.{joined}
use Rattle.rv_list.proofs.Hex.{byte_row_wraps}
use Rattle.rv_list.proofs.Joined.{lost_next, gathered_next}

-- what is left was all that there was
pub taken_all : (row left all : List ℕ) → row ++ left ≡ all → left ≡ [] → length row ≤ 16 → (row ≡ take 16 all) × (left ≡ drop 16 all)
taken_all row left all whole none few =
    let same : row ≡ all = sym (append-nil row) ∙ ap (λ l. row ++ l) (sym none) ∙ whole in
    let short : length all ≤ 16 = rw (← same) few in
    (same ∙ sym (take_all 16 all short), none ∙ sym (drop_all 16 all short))

-- sixteen bytes were taken
pub taken_full : (row left all : List ℕ) → row ++ left ≡ all → length row ≡ 16 → (row ≡ take 16 all) × (left ≡ drop 16 all)
taken_full row left all whole full =
    let prefix : take (length row) (row ++ left) ≡ row = take-append_seam row left in
    let back : drop (length row) (row ++ left) ≡ left = drop-append_seam row left in
    let prefix' = rw (full, whole) at prefix in
    let back' = rw (full, whole) at back in (sym prefix', sym back')

-- the row in hand is the next one
row_in_hand : (start k address : ℕ) (bytes row : List ℕ) → address ≡ (start + 16 * k) % 2 ^ 32 → row ≡ take 16 (drop (16 * k) bytes) → byte_row address row ≡ byte_row_at start bytes k
row_in_hand start k address bytes row a e = rw (a, e) (byte_row_wraps (start + 16 * k) (take 16 (drop (16 * k) bytes)))

-- sixteen bytes further on
pub rest_of_rows : (k : ℕ) (bytes left rest : List ℕ) → left ≡ drop (16 * k) bytes → rest ≡ drop 16 left → rest ≡ drop (16 * (k + 1)) bytes
rest_of_rows k bytes left rest e r =
    let place : 16 * k + 16 ≡ 16 * (k + 1) = omega arith in
    r ∙ ap (drop 16) e ∙ drop-drop 16 (16 * k) bytes ∙ ap (λ n. drop n bytes) place

-- Some rows are gathered, whose bytes come first; the next row is taken, and the others are left.
pub record Gathered (start : ℕ) (bytes : List ℕ) (t0 : Option (List ℕ)) (p0 : List ℕ) (t1 : Option (List ℕ)) (p1 : List ℕ) (address : ℕ) (row left : List ℕ) : Type 0 where
  pub count : ℕ
  pub place : address ≡ (start + 16 * count) % 2 ^ 32
  pub taken : row ≡ take 16 (drop (16 * count) bytes)
  pub others : left ≡ drop (16 * (count + 1)) bytes
  pub few : 16 * count ≤ length bytes + 15
  pub waits : Waits t0 p0 (joined (byte_row_at start bytes) count) t1 p1

-- a row with bytes begins before the end
more_rows : (bytes row : List ℕ) (k : ℕ) → row ≡ take 16 (drop (16 * k) bytes) → 0 < length row → 16 * k < length bytes
more_rows bytes row k e some =
    let size : length row ≡ min 16 (length bytes - 16 * k) =
    ap length e ∙ length-take 16 (drop (16 * k) bytes) ∙ ap (min 16) (length-drop (16 * k) bytes) in
    omega (arith, size, some)

-- a row without bytes comes after the end
no_more_rows : (bytes row : List ℕ) (k : ℕ) → row ≡ take 16 (drop (16 * k) bytes) → length row ≡ 0 → length bytes ≤ 16 * k
no_more_rows bytes row k e none =
    let size : length row ≡ min 16 (length bytes - 16 * k) =
    ap length e ∙ length-take 16 (drop (16 * k) bytes) ∙ ap (min 16) (length-drop (16 * k) bytes) in
    omega (arith, size, none)

-- a write fails within the row in hand
pub gathered_lost : (start : ℕ) (bytes : List ℕ) (t0 t1 t2 : Option (List ℕ)) (p0 p1 : List ℕ) (address : ℕ) (row left : List ℕ) → Gathered start bytes t0 p0 t1 p1 address row left → 0 < length row → WritesPrefix t1 (p1 ++ byte_row address row) t2 → WritesPrefix t0 (p0 ++ byte_rows start bytes) t2
unfolding byte_rows
gathered_lost start bytes t0 t1 t2 p0 p1 address row left g some w =
    let before = more_rows bytes row g.count g.taken some in
    let next = row_in_hand start g.count address bytes row g.place g.taken in
    lost_next (byte_row_at start bytes) g.count (row_count (length bytes)) t0 t1 t2 p0 p1 (omega (arith, before)) g.waits (rw next at w)

-- the row in hand is gathered
pub gathered_more : (start : ℕ) (bytes : List ℕ) (t0 t1 t2 : Option (List ℕ)) (p0 p1 p2 : List ℕ) (address : ℕ) (row left next rest : List ℕ) → Gathered start bytes t0 p0 t1 p1 address row left → 0 < length row → Waits t1 p1 (byte_row address row) t2 p2 → next ≡ take 16 left → rest ≡ drop 16 left → Gathered start bytes t0 p0 t2 p2 ((address + 16) % 2 ^ 32) next rest
gathered_more start bytes t0 t1 t2 p0 p1 p2 address row left next rest g some w n r = record {
  count = g.count + 1;
  place = omega (arith, g.place);
  taken = n ∙ ap (take 16) g.others;
  others = rest_of_rows (g.count + 1) bytes left rest g.others r;
  few = omega (arith, more_rows bytes row g.count g.taken some);
  waits = gathered_next (byte_row_at start bytes) g.count t0 t1 t2 p0 p1 p2 g.waits (rw (row_in_hand start g.count address bytes row g.place g.taken) at w);
}

-- no row is left
pub gathered_all : (start : ℕ) (bytes : List ℕ) (t0 t1 : Option (List ℕ)) (p0 p1 : List ℕ) (address : ℕ) (row left : List ℕ) → Gathered start bytes t0 p0 t1 p1 address row left → length row ≡ 0 → Waits t0 p0 (byte_rows start bytes) t1 p1
unfolding byte_rows
gathered_all start bytes t0 t1 p0 p1 address row left g none =
    let past = no_more_rows bytes row g.count g.taken none in
    let all : g.count ≡ row_count (length bytes) = omega (arith, past, g.few) in
    rw all at g.waits
