-- Why a request for another name is not answered.
use Rattle.rv_language.specs.declared.rename.NameRefusal.{NameRefusal}
use Rattle.rv_language.specs.declared.rename.NameRefusal.TheVariants as name
use Rattle.rv_language.specs.declared.rename.RenameError.{RenameError}
use Rattle.rv_language.specs.declared.rename.RenameError.TheVariants as rename
use Rattle.rvls.specs.declared.writing.Failure.{Failure}
use Rattle.rvls.specs.declared.writing.Failure.TheVariants as failure
use Rattle.rvls.specs.declared.writing.Refusal.{Refusal}
use Rattle.rvls.specs.declared.writing.Refusal.TheVariants as refusal

-- the refusal of a name that gets no other one
abbrev pub refusal_of : NameRefusal → Refusal
refusal_of name.NotDefined = refusal.NoName
refusal_of name.NoSymbolName = refusal.NoSymbolName
refusal_of name.NoLocalName = refusal.NoLocalName
refusal_of name.Taken = refusal.NameTaken
refusal_of name.LineTooLong = refusal.LineTooLong

abbrev pub failure_of : RenameError → Failure
failure_of (rename.Refused r) = failure.Refused (refusal_of r)
failure_of rename.Memory = failure.Memory
