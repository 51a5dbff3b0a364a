-- What a tree is seen as by its root.
use Rattle.std.specs.Prelude.{[], Option, Some, None}
use Rattle.std.specs.declared.rc.Rc.{Rc}
use Rattle.std.specs.declared.alloc.Global.{Global}
use Rattle.rv_tree.specs.Contents.{Contents}

-- a tree without a root has no items and no path
abbrev pub contents_of_root : {T : Type 0} → Option (Rc (Contents T) Global) → Contents T
contents_of_root None = record { items = []; height = 0 }
contents_of_root (Some t) = t.value
