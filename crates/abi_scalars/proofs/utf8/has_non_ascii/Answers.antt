use Rattle.std.proofs.Common.{◌+◌, ◌∙◌, sym, ltb}
use Rattle.std.specs.Simd.Lanes.{chunk}
use Rattle.std.proofs.lemmas.Bool.{eqb-true, not-false}
use Rattle.std.proofs.lemmas.Simd.{length-chunk, none_from_empty_mask}
use Rattle.abi_scalars.proofs.Ascii.{low_from, mask_of}
use Rattle.abi_scalars.proofs.utf8.has_non_ascii.Goals as goal

pub returns : goal.returns
returns g c =
    let bytes = c.args.bytes.now in
    let at = c.args.at in
    let n = g.row.N in
    let found = mask_of n (chunk at n bytes) (length-chunk at n bytes c.requires.within) c.requires.lanes in
    record {
      none = λ off. low_from bytes at (at + n) (none_from_empty_mask (λ byte. ltb 127 byte) bytes at n 0 c.requires.within (sym found ∙ eqb-true _ _ (not-false _ off)));
    }
