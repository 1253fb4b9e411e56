-- What a buffer's fields mean.
use Rattle.demangle_text.specs.declared.buffer.Buffer.TheInside.{Inside}
use Rattle.demangle_text.specs.Pieces.{Store, IsStore}

-- the storage that the fields hold
abbrev pub store_of : Inside → Store
store_of a = record {
  output_text = a.output;
  spill_text = a.kept.spill;
  saved_pieces = a.kept.saved;
  arg_pieces = a.kept.args;
  scope_starts = a.starts.items;
  marked_len = a.marked_len;
}

-- what holds of the fields between calls
abbrev pub IsConsistent : Inside → Type 0
IsConsistent a = IsStore (store_of a)
