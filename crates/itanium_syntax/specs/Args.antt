-- The cases of template arguments (Itanium C++ ABI 5.1.5). Of several cases the first one that fits holds.
use Rattle.std.specs.Prelude.{ℕ, List, codes, if◌then◌else◌}
use Rattle.abi_scalars.specs.Bytes.{begins}
use Rattle.itanium_syntax.specs.Cases.{AttachedCase, NoneAttached, ArgsAttached, ArgumentListCase, EndOfArguments, NextArgument}
use Rattle.itanium_syntax.specs.Cases.{ArgumentCase, ExpressionArgument, PackArgument, PrimaryArgument}
use Rattle.itanium_syntax.specs.Cases.{ConstraintArgument, TypeArgument}

-- <template-args> or none
abbrev pub attached_case : List ℕ → AttachedCase
attached_case bytes = if begins (codes "I") bytes then ArgsAttached else NoneAttached

-- the end of <template-args>, or one more argument
abbrev pub argument_list_case : List ℕ → ArgumentListCase
argument_list_case bytes = if begins (codes "E") bytes then EndOfArguments else NextArgument

-- <template-arg>
abbrev pub argument_case : List ℕ → ArgumentCase
argument_case bytes =
    if begins (codes "X") bytes then ExpressionArgument else
    if begins (codes "J") bytes then PackArgument else
    if begins (codes "L") bytes then PrimaryArgument else
    if begins (codes "Q") bytes then ConstraintArgument else TypeArgument
