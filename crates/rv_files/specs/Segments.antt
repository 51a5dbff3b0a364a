-- What is loaded of a text.
use Rattle.std.specs.Prelude.{ℕ, ◌+◌, ◌<◌, ◌==◌, List, [], ◌∷◌, length, slice_index, All, if◌then◌else◌}
use Rattle.rv_layout.specs.Sections.{sections}
use Rattle.rv_list.specs.Image.{section_bytes}
use Rattle.rv_list.specs.Joined.{joined}
use Rattle.rv_list.specs.Shown.{Shown, shows_bytes}

-- what is loaded of a section: its number, its address, its bytes, and how many zeros come after them
pub record Segment : Type 0 where
  pub section : ℕ
  pub address : ℕ
  pub bytes : List ℕ
  pub zeros : ℕ

-- numbers below 256
abbrev pub AreBytes : List ℕ → Type 0
AreBytes bytes = (i : ℕ) → slice_index bytes i < 256

abbrev pub HoldBytes : List Segment → Type 0
HoldBytes segments = All (λ s. AreBytes s.bytes) segments

-- what is loaded of section number t: its bytes where they are shown, and otherwise as many zeros
abbrev pub segment_at : Shown → (t : ℕ) → Segment
segment_at shown t =
    if shows_bytes t
    then record { section = t; address = (shown.section t).base; bytes = section_bytes shown t; zeros = 0 }
    else record { section = t; address = (shown.section t).base; bytes = []; zeros = (shown.section t).size }

-- a segment, unless nothing is loaded
abbrev pub unless_empty : Segment → List Segment
unless_empty s = if length s.bytes + s.zeros == 0 then [] else s ∷ []

-- the segments of a text, in the order of the sections
abbrev pub segments_of : Shown → List Segment
segments_of shown = joined (λ t. unless_empty (segment_at shown t)) sections
