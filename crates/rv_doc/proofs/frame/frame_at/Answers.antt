use Rattle.rv_doc.proofs.frame.frame_at.Goals as goal

pub returns-clause-frame : goal.returns-clause-frame
returns-clause-frame c = record {
  end = c.find.result;
  first = c.find.ensures;
  is = c.frame_by.ensures.value;
}
