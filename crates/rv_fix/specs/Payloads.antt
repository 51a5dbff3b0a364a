-- The bytes that a payload stands for.
use Rattle.std.specs.Prelude.{ℕ, List, replicate, true}
use Rattle.rv_fix.specs.declared.payload.Form.{Form}
use Rattle.rv_fix.specs.declared.payload.Form.TheVariants.{Bytes, Repeated, Padding}
use Rattle.rv_fix.specs.Padding.{padding}

abbrev pub bytes_of_form : Form → List ℕ
bytes_of_form (Bytes bytes) = bytes
bytes_of_form (Repeated byte count) = replicate count byte
bytes_of_form (Padding count) = padding true count
