-- What a handle from C owns.
use Rattle.std.specs.Prelude.{Option, Some, None}
use Rattle.std.specs.Box.Ownership.{box_owns}
use base.Fml.{Fml, feq}
use mir.Syntax.{Ty}
use denote.RattleType.{RattleType}
use denote.RawPtr.{Ptr, null_ptr}

-- where there is no value, nothing, and the pointer is null; else the value at the pointer, and the right to free its
-- block
abbrev pub holds : (Ty → Ptr → Fml) → (R : RattleType) → Ptr → Option R.Denot → Fml
holds token R p None = feq Ptr p null_ptr
holds token R p (Some x) = box_owns token R p x
