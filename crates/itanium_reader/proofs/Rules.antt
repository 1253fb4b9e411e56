-- What the check may use for the readers: the laws of the buffer, and what unfolds each.
use Rattle.demangle_text.proofs.Laws.{laws, runs, StaysInPlace-edit, text_after-follows}
pub use Rattle.demangle_text.proofs.Laws.{lasts}
use Rattle.demangle_text.proofs.Laws.{text_after-last}
use Rattle.itanium_syntax.proofs.Fronts.{cases, names_some, entities_some, expressions_some, arguments_some, specials_some}
use Rattle.itanium_reader.proofs.Unfold.{bare_name_opens, no_bare_name, encoding_opens, local_opens}
use Rattle.itanium_reader.proofs.Unfold.{expression_opens, no_expression, primary_opens, argument_opens, thunk_opens}
use Rattle.itanium_reader.proofs.Unfold.{no_thunk, special_opens, pack_opens, no_pack, type_opens, no_type}
use Rattle.itanium_reader.proofs.Unfold.{substitution_opens, parameter_opens, unqualified_opens, symbol_opens}
use Rattle.itanium_reader.proofs.Unfold.{nested_opens, nested_plain, internal_source_opens, outer_source_opens}
use Rattle.itanium_reader.proofs.Unfold.{first_named, first_source_opens}
use Rattle.itanium_reader.proofs.Turns.{no_attached, no_tags}
use Rattle.itanium_reader.proofs.Loops.{loop_start}

pub ruleset buffers = (laws, runs)

pub ruleset parents = (buffers, lasts, StaysInPlace-edit)

pub ruleset fronts = (buffers, cases)

pub ruleset substitutions = (buffers, substitution_opens)

pub ruleset parameters = (buffers, parameter_opens)

pub ruleset tags = (buffers, loop_start)

pub ruleset tagged_names = (buffers, no_tags)

pub ruleset segments = (fronts, lasts)

pub ruleset first_segments = (fronts, lasts, first_named, first_source_opens)

pub ruleset words = (buffers, lasts, text_after-follows)

pub ruleset ordinary_names = (fronts, lasts, names_some)

pub ruleset unqualified_names = (fronts, lasts, unqualified_opens, internal_source_opens)

pub ruleset outer_names = (buffers, lasts, unqualified_opens, outer_source_opens)

pub ruleset nested_names = (buffers, nested_opens, nested_plain)

pub ruleset bare_names = (fronts, bare_name_opens, no_bare_name)

pub ruleset encodings = (fronts, encoding_opens)

pub ruleset entities = (fronts, entities_some)

pub ruleset local_names = (buffers, local_opens)

pub ruleset symbols = (fronts, symbol_opens)

pub ruleset thunks = (words, thunk_opens, no_thunk)

pub ruleset specials = (fronts, specials_some, special_opens)

pub ruleset primaries = (fronts, primary_opens)

pub ruleset expressions = (fronts, expressions_some, expression_opens, no_expression)

pub ruleset arguments = (fronts, arguments_some, argument_opens)

pub ruleset argument_lists = (buffers, lasts, no_attached, text_after-last)

pub ruleset packs = (buffers, pack_opens, no_pack)

pub ruleset typed_lists = (fronts)

pub ruleset types = (fronts, type_opens, no_type)
