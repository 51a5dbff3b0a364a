-- Edits one after another, and texts that are written one after another.
use Rattle.std.proofs.Common.{◌+◌, ◌<◌, length, map, take, get_or, set, arith, ◌≡◌, ℕ, List, [], ◌∷◌, ◌++◌, Option, Result, Ok, Err, refl}
use Rattle.std.proofs.lemmas.List.{take_more, take_more_set, map-append}
use Rattle.rv_text.specs.Streams.{after, Writes, WritesPrefix}
use Rattle.rv_text.specs.StreamLaws.{after_after, prefix_first, prefix_last}
use Rattle.rv_program.specs.declared.edit_error.EditError.{EditError}
use Rattle.rv_program.specs.Text.{Text, Edit, Edits}
use Rattle.rv_program.specs.declared.edit.LineEdit.{LineEdit}
use Rattle.rv_program.specs.Edits.{edit_of}
use Rattle.rv_commands.specs.Edited.{AreEdits}

-- one more edit
pub edits_push : (old between new : Text) (edits : List Edit) (edit : Edit) (results : List (Result (Unit {0}) EditError)) (result : Result (Unit {0}) EditError) → AreEdits old edits results between → Edits between edit result new → AreEdits old (edits ++ edit ∷ []) (results ++ result ∷ []) new
edits_push old between new [] edit [] result a b = (new, rw a at b, refl)
edits_push old between new (e ∷ edits) edit (r ∷ results) result a b = (a.0, a.1, edits_push a.0 between new edits edit results result a.2 b)
edits_push old between new [] edit (r ∷ results) result a b = absurd a
edits_push old between new (e ∷ edits) edit [] result a b = absurd a

-- the next edit of a list, whose result is put in its place
pub edits_next : (old between new : Text) (edits : List LineEdit) (results : List (Result (Unit {0}) EditError)) (at : ℕ) (default : LineEdit) (result : Result (Unit {0}) EditError) → at < length edits → length results ≡ length edits → AreEdits old (map edit_of (take at edits)) (take at results) between → Edits between (edit_of (get_or edits at default)) result new → AreEdits old (map edit_of (take (at + 1) edits)) (take (at + 1) (set results at result)) new
edits_next old between new edits results at default result within size a b =
    let within_results : at < length results = omega (arith, size, within) in
    rw (take_more edits at default within, map-append edit_of (take at edits) (get_or edits at default ∷ []), take_more_set results at result within_results)
    (edits_push old between new (map edit_of (take at edits)) (edit_of (get_or edits at default)) (take at results) result a b)

-- a text is written, and then another one
pub writes_then : {A E : Type 0} (t0 t1 t2 : Option (List ℕ)) (xs ys : List ℕ) (result : Result A E) → t1 ≡ after t0 xs → Writes t1 ys result t2 → Writes t0 (xs ++ ys) result t2
writes_then t0 t1 t2 xs ys (Ok _) a w = rw (w, a) (after_after t0 xs ys)
writes_then t0 t1 t2 xs ys (Err _) a w = prefix_last t0 t1 t2 xs ys (xs ++ ys) refl a w

-- a write fails within the first one
pub writes_first : (t0 t1 : Option (List ℕ)) (xs ys : List ℕ) → WritesPrefix t0 xs t1 → WritesPrefix t0 (xs ++ ys) t1
writes_first t0 t1 xs ys w = prefix_first t0 t1 xs ys (xs ++ ys) refl w

-- or within the second one
pub writes_last : (t0 t1 t2 : Option (List ℕ)) (xs ys : List ℕ) → t1 ≡ after t0 xs → WritesPrefix t1 ys t2 → WritesPrefix t0 (xs ++ ys) t2
writes_last t0 t1 t2 xs ys a w = prefix_last t0 t1 t2 xs ys (xs ++ ys) refl a w
