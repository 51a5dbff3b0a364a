-- The bytes of segments, one after another.
use Rattle.std.proofs.Common.{◌≡◌, ℕ, ◌+◌, ◌-◌, ◌<◌, ◌≤◌, List, ◌++◌, length, take, drop, get_or, ap, sym, ◌∙◌, arith}
use Rattle.std.specs.Prelude.{Option, Result}
use Rattle.rv_text.specs.Streams.{Writes}
use Rattle.rv_text.specs.StreamLaws.{writes_then}
use Rattle.rv_files.specs.Bin.{bin_bytes, bytes_up_to, end_of}
use Rattle.rv_files.specs.Segments.{Segment}
use Rattle.rv_files.proofs.Partly.{Partly}
use Rattle.rv_text.specs.SliceLaws.{first_and_rest}

-- the first segment, and the others
pub next_bin : (at : ℕ) (ss : List Segment) (s : Segment) → 1 ≤ length ss → s ≡ get_or ss 0 s → bin_bytes at ss ≡ bytes_up_to at s ++ bin_bytes (end_of at s) (take (length ss - 1) (drop 1 ss))
next_bin at ss s some is =
    let later = take (length ss - 1) (drop 1 ss) in
    ap (bin_bytes at) (first_and_rest ss s some)
    ∙ ap (λ (x : Segment). bytes_up_to at x ++ bin_bytes (end_of at x) later) (sym is)

-- what is left is written, or a prefix of it
pub partly_writes : {A E : Type 0} (old now new : Option (List ℕ)) (text piece : List ℕ) (result : Result A E) → Partly old text now piece → Writes now piece result new → Writes old text result new
partly_writes old now new text piece result p w = rw p.whole (writes_then old now new p.done piece result p.taken w)
