-- The faults of a run, and when each comes.
use Rattle.std.specs.Prelude.{◌≡◌, ℕ, List, ◌++◌, Bool, true, false, codes, Result, Ok, Err}
use Rattle.text_filter.specs.declared.fault.FilterFault.{FilterFault}
use Rattle.text_filter.specs.declared.fault.FilterFault.TheVariants.{Read, Write, Memory}

-- the words for a fault, without a program's name in front
abbrev pub reason_of : FilterFault → List ℕ
reason_of Read = codes "read failed"
reason_of Write = codes "write failed"
reason_of Memory = codes "out of memory"

-- the line that `symfilter` prints for a fault
abbrev pub line_of : FilterFault → List ℕ
line_of fault = codes "symfilter: " ++ reason_of fault

-- what reading ends with: `Read` exactly where the source has failed, and never `Write`
abbrev pub IsReadOutcome : {T : Type 0} → Result T FilterFault → Bool → Type 0
IsReadOutcome (Ok _) failed = failed ≡ false
IsReadOutcome (Err Read) failed = failed ≡ true
IsReadOutcome (Err Write) failed = ⊥
IsReadOutcome (Err Memory) failed = failed ≡ false

-- what writing ends with: `Write` exactly where the sink has failed, and never `Read`
abbrev pub IsWriteOutcome : {T : Type 0} → Result T FilterFault → Bool → Type 0
IsWriteOutcome (Ok _) failed = failed ≡ false
IsWriteOutcome (Err Read) failed = ⊥
IsWriteOutcome (Err Write) failed = failed ≡ true
IsWriteOutcome (Err Memory) failed = failed ≡ false

-- what a run ends with: `Read` exactly where the source has failed, and `Write` exactly where the sink has
abbrev pub IsRunOutcome : {T : Type 0} → Result T FilterFault → Bool → Bool → Type 0
IsRunOutcome (Ok _) source_failed sink_failed = (source_failed ≡ false) × (sink_failed ≡ false)
IsRunOutcome (Err Read) source_failed sink_failed = (source_failed ≡ true) × (sink_failed ≡ false)
IsRunOutcome (Err Write) source_failed sink_failed = (source_failed ≡ false) × (sink_failed ≡ true)
IsRunOutcome (Err Memory) source_failed sink_failed = (source_failed ≡ false) × (sink_failed ≡ false)
