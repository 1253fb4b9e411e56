-- What a `Tally` counts.
use Rattle.std.specs.Prelude.{ℕ, Bool}
use Rattle.text_filter.specs.declared.tally.Tally.{Tally}

-- the source or sink of std
abbrev pub inner_of : {D : Type 0} → Tally D → D
inner_of tally = tally.inner

-- whether a call has failed
abbrev pub has_failed : {D : Type 0} → Tally D → Bool
has_failed tally = tally.failed

-- how many reads are left
abbrev pub reads_left : {D : Type 0} → Tally D → ℕ
reads_left tally = tally.reads_left
