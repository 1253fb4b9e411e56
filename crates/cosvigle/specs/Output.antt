-- Standard output, and which fault is reported.
use Rattle.std.specs.Prelude.{◌≡◌, Bool, Option, Some, None, Result, Ok, Err, if◌then◌else◌}
use Rattle.std.specs.IoError.{error_kind}
use Rattle.std.specs.declared.io.Error.{Error}
use Rattle.std.specs.declared.io.ErrorKind.TheVariants.{BrokenPipe}
use Rattle.text_filter.specs.declared.fault.FilterFault.{FilterFault}
use Rattle.text_filter.specs.declared.fault.FilterFault.TheVariants.{Read, Write, Memory}
use Rattle.cosvigle.specs.declared.output.Output.{Output}

-- the writer
abbrev pub inner_of : {W : Type 0} → Output W → W
inner_of output = output.inner

-- whether a write has failed because the reader of the output has gone (`BrokenPipe`)
abbrev pub is_closed : {W : Type 0} → Output W → Bool
is_closed output = output.closed

-- the fault that is reported: any except a failed write to an output whose reader has gone
abbrev pub reported : FilterFault → Bool → Option FilterFault
reported Read closed = Some Read
reported Write closed = if closed then None else Some Write
reported Memory closed = Some Memory

-- this write has failed because the reader of the output has gone
abbrev pub IsBroken : {T : Type 0} → Result T Error → Type 0
IsBroken (Ok _) = ⊥
IsBroken (Err error) = error_kind error ≡ BrokenPipe
