use Rattle.rv_files.proofs.TextSegments.{TextLaws, few_segments, ascending_segments, loadable_segments, bytes_in_segments}
use Rattle.rv_files.proofs.laws.segments_of_texts_are_loadable.Goals as goal

pub returns : goal.returns
returns c =
    let laws : TextLaws = record {
      content = c.data_are_few.ensures;
      shapes = c.shapes_are_limited.ensures;
      sections = c.lines_have_their_sizes.ensures.sections;
    } in
    record {
      few = few_segments;
      ascending = ascending_segments laws;
      loadable = loadable_segments laws;
      bytes = bytes_in_segments;
    }
