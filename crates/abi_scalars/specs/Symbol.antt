-- The parts of a symbol in front of its encoding and after it.
use Rattle.std.specs.Prelude.{ℕ, List, [], Option, Some, None, drop, codes, if◌then◌else◌}
use Rattle.abi_scalars.specs.Bytes.{begins}

-- <mangled-name> ::= _Z <encoding>, and the same after a further underscore: what follows the prefix
abbrev pub after_prefix : List ℕ → Option (List ℕ)
after_prefix symbol =
    if begins (codes "_Z") symbol then Some (drop 2 symbol) else
    if begins (codes "__Z") symbol then Some (drop 3 symbol) else None

-- the end of the answer: if a dot follows what was read, the dot and all bytes after it
abbrev pub suffix : List ℕ → List ℕ
suffix rest = if begins (codes ".") rest then rest else []
