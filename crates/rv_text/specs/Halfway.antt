-- A text that is gathered piece by piece.
use Rattle.std.proofs.Common.{◌≡◌, ℕ, List, [], ◌++◌, refl, sym, ◌∙◌, append_assoc}
use Rattle.std.proofs.lemmas.List.{append-nil}
use Rattle.std.specs.Prelude.{Option}
use Rattle.rv_text.specs.Streams.{WritesPrefix}
use Rattle.rv_text.specs.Blocks.{Waits}
use Rattle.rv_text.specs.BlockLaws.{waits_none, waits_then, waits_lost, lost_first}

-- a first part of the text is gathered, and this is what is left of it
pub record Halfway (t0 : Option (List ℕ)) (p0 : List ℕ) (t1 : Option (List ℕ)) (p1 text rest : List ℕ) : Type 0 where
  pub done : List ℕ
  pub waits : Waits t0 p0 done t1 p1
  pub whole : text ≡ done ++ rest

pub halfway_start : (t : Option (List ℕ)) (p text : List ℕ) → Halfway t p t p text text
halfway_start t p text = record { done = []; waits = waits_none t p; whole = refl }

-- the next piece is gathered
pub halfway_next : (t0 t1 t2 : Option (List ℕ)) (p0 p1 p2 text piece rest : List ℕ) → Halfway t0 p0 t1 p1 text (piece ++ rest) → Waits t1 p1 piece t2 p2 → Halfway t0 p0 t2 p2 text rest
halfway_next t0 t1 t2 p0 p1 p2 text piece rest h w = record {
  done = h.done ++ piece;
  waits = waits_then t0 t1 t2 p0 p1 p2 h.done piece h.waits w;
  whole = h.whole ∙ sym (append_assoc h.done piece rest);
}

-- a write fails within the next piece
pub halfway_lost : (t0 t1 t2 : Option (List ℕ)) (p0 p1 text piece rest : List ℕ) → Halfway t0 p0 t1 p1 text (piece ++ rest) → WritesPrefix t1 (p1 ++ piece) t2 → WritesPrefix t0 (p0 ++ text) t2
halfway_lost t0 t1 t2 p0 p1 text piece rest h w =
    rw h.whole (waits_lost t0 t1 t2 p0 p1 h.done (piece ++ rest) h.waits (lost_first t1 t2 p1 piece rest w))

-- nothing is left
pub halfway_end : (t0 t1 : Option (List ℕ)) (p0 p1 text : List ℕ) → Halfway t0 p0 t1 p1 text [] → Waits t0 p0 text t1 p1
halfway_end t0 t1 p0 p1 text h = rw (h.whole, append-nil h.done) h.waits
