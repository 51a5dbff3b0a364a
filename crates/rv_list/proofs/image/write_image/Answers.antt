use Rattle.rv_list.proofs.Written.{may_fail}
use Rattle.rv_list.proofs.image.write_image.Goals as goal

pub end_text-requires : goal.end_text-requires
end_text-requires g c = may_fail _ _ _ _ c.requires c.push_image-pushed.ensures.count

pub returns : goal.returns
returns g c = record {
  text = c.end_text.ensures.text _ _ (rw c.new-block.ensures at c.push_image-pushed.ensures.text);
  count = c.end_text.ensures.count _ c.push_image-pushed.ensures.count;
}
