-- A handle may be handed to another thread: so may what it owns, and any thread may free a block of the C library.
use mir.Raw.{raw}
use base.Fraction.{full_share}
use base.Shift.{Keyless}
use denote.Exit.{Exit, unchanged, leaves, hidden, under}
use denote.Memory.{lone}
use denote.RawPtr.{Ptr, block_ptr, null_ptr}
use denote.Struct.Struct.{exits_of}
use denote.Struct.Owning.{shape, fields, to}
use denote.Param.Send.{IsSend, Quiet, AllSend, part_keyless, owning_send, struct_send, sendable}
use Rattle.std.specs.Prelude.{Option, Some, None}
use Rattle.std.specs.Ptr.{points_to}
use Rattle.std.specs.declared.alloc.Global.{Global}
use Rattle.std.specs.contracts.impls.GlobalAllocator.TheImpl.{ghosts}
use Rattle.std.proofs.Crossing as crossing
use Rattle.std.proofs.alloc.Global.TheSendSync as heap
use Rattle.cosvigle_c.specs.Handle.{holds}
use Rattle.cosvigle_c.specs.declared.kept.Kept.{Kept}
use Rattle.cosvigle_c.specs.contracts.kept.Kept as kept
use Rattle.cosvigle_c.specs.contracts.handle.Handle.{the_row, the_type}
use Rattle.cosvigle_c.proofs.kept.Kept.TheSendSync.{the_send}

quiet : {D X : Type 0} (view : D → X) (e : Exit X) → Quiet e → Quiet (hidden (under view e))
quiet view unchanged q = λ x w. tt
quiet view (leaves L l S s r₀) q = λ d. q (view d)

at_pointer : (p : Ptr) (x : Kept) → Keyless (points_to kept.the_row p x)
at_pointer (block_ptr b o) x = part_keyless kept.the_row the_send full_share x b o
at_pointer null_ptr x = tt

held : (a : Global) (p : Ptr) (value : Option Kept) → Keyless (holds (ghosts.dealloc_token a) kept.the_row p value)
held a p None = tt
held a p (Some x) = (at_pointer p x, crossing.frees.frees a (raw (lone kept.the_row.mir)) p)

pub send : IsSend the_row
send =
    let all : AllSend (fields the_type) = (search sendable, (heap.the_field_send, tt)) in
    owning_send the_type all (λ d. held d.alloc d.at d.kept)
    (λ k. quiet (to the_type) (exits_of k (fields the_type)) ((struct_send (shape the_type) all).leaving k))
