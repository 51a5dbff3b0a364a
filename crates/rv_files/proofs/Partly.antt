-- A text that is written piece by piece.
use Rattle.std.proofs.Common.{◌≡◌, ℕ, List, [], ◌++◌, refl, sym, ◌∙◌, append_assoc}
use Rattle.std.specs.Prelude.{Option}
use Rattle.rv_text.specs.Streams.{after, WritesPrefix}
use Rattle.rv_text.specs.StreamLaws.{after_after, after_none, prefix_within, prefix_last}

-- a first part of the text is written, and this is what is left of it
pub record Partly (old : Option (List ℕ)) (text : List ℕ) (now : Option (List ℕ)) (rest : List ℕ) : Type 0 where
  pub done : List ℕ
  pub taken : now ≡ after old done
  pub whole : text ≡ done ++ rest

pub partly_start : (old : Option (List ℕ)) (text : List ℕ) → Partly old text old text
partly_start old text = record { done = []; taken = sym (after_none old); whole = refl }

-- the next piece is written
pub partly_next : (old now new : Option (List ℕ)) (text piece rest : List ℕ) → Partly old text now (piece ++ rest) → new ≡ after now piece → Partly old text new rest
partly_next old now new text piece rest p e = record {
  done = p.done ++ piece;
  taken = rw (e, p.taken) (after_after old p.done piece);
  whole = p.whole ∙ sym (append_assoc p.done piece rest);
}

-- a write fails within the next piece
pub partly_lost : (old now new : Option (List ℕ)) (text piece rest : List ℕ) → Partly old text now (piece ++ rest) → WritesPrefix now piece new → WritesPrefix old text new
partly_lost old now new text piece rest p w =
    prefix_within old now new p.done piece rest text (p.whole ∙ sym (append_assoc p.done piece rest)) p.taken w

-- a write fails within what is left
pub partly_lost_last : (old now new : Option (List ℕ)) (text piece : List ℕ) → Partly old text now piece → WritesPrefix now piece new → WritesPrefix old text new
partly_lost_last old now new text piece p w = prefix_last old now new p.done piece text p.whole p.taken w
