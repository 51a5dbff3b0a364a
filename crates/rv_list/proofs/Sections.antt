-- The text of a section.
use Rattle.std.proofs.Common.{◌≡◌, ℕ, true, ◌++◌, refl}
use Rattle.rv_list.specs.Image.{byte_rows, section_bytes, section_name, section_row, section_text}
use Rattle.rv_list.specs.Shown.{Shown, shows_bytes}

-- a section whose bytes are shown
pub shown_section : (shown : Shown) (t : ℕ) → shows_bytes t ≡ true → section_text shown t ≡ section_row (section_name t) (shown.section t) ++ byte_rows (shown.section t).base (section_bytes shown t)
unfolding section_text
shown_section shown t e = rw e refl
