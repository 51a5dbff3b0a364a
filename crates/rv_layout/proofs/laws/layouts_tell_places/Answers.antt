use Rattle.rv_layout.specs.LayoutLaws.{layout_of-push}
use Rattle.rv_layout.specs.Places.{before}
use Rattle.rv_layout.specs.PlaceLaws.{reached-section, reached-offset, reached-end, reached_together, before-within, base-layout, address-layout}
use Rattle.rv_layout.proofs.laws.layouts_tell_places.Goals as goal

pub returns : goal.returns
returns c = record {
  more = layout_of-push;
  section = λ ms i. reached-section (before i ms);
  offset = reached-offset;
  ends = reached-end;
  together = reached_together;
  within = before-within;
  bases = base-layout;
  address = address-layout;
}
