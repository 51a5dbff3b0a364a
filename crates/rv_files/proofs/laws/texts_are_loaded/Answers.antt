use Rattle.rv_store.specs.Shown.{shown_of}
use Rattle.rv_files.specs.Segments.{segments_of}
use Rattle.rv_files.proofs.SegmentOrder.{ascending_from_start}
use Rattle.rv_files.proofs.laws.texts_are_loaded.Goals as goal

pub returns : goal.returns
returns c =
    let segments = c.segments_of_texts_are_loadable.ensures in
    record {
      bin = λ text. c.bin_holds_the_segments.ensures text.base (segments_of (shown_of text)) (segments.ascending text);
      hex = λ text entry bytes below. c.hex_is_loaded.ensures (segments_of (shown_of text)) entry (segments.bytes text bytes) below;
      elf = λ text entry symbols within.
          c.elf_is_loaded.ensures.memory entry (segments_of (shown_of text)) symbols (segments.few text)
          (ascending_from_start text.base (segments_of (shown_of text)) (segments.ascending text))
          (segments.loadable text within);
    }
