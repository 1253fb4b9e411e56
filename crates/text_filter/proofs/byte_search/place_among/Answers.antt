use Rattle.std.proofs.Common.{◌≡◌, ◌<◌, ℕ, eqb, sym, ap, ◌∙◌, arith, w8, w32, ◌^◌, map, length, subst}
use lib.Count.{count_trailing_zeros}
use Rattle.std.specs.Simd.Lanes.{chunk, mask_l}
use Rattle.std.proofs.lemmas.Nat.Bits.{bit_at-trailing_zeros}
use Rattle.std.proofs.lemmas.List.{length-map}
use Rattle.std.proofs.lemmas.Simd.{length-chunk, bitmask_splat, mask_l-lt, leading_from_mask_l, trailing_mask_l}
use Rattle.text_filter.proofs.LineEnds.{lanes_passed, lanes_end}
use Rattle.text_filter.proofs.byte_search.place_among.Goals as goal

pub returns-then-found-eq0 : goal.returns-then-found-eq0
returns-then-found-eq0 c =
    let lanes = chunk c.args.at 32 c.args.bytes.now in
    let long = length-chunk c.args.at 32 c.args.bytes.now c.requires.inside in
    let found = bitmask_splat w8 eqb lanes 32 c.args.wanted long (omega arith) in
    let none = leading_from_mask_l (λ byte. eqb byte c.args.wanted) lanes (sym found ∙ c.if-found-eq0.true) ∙ long in
    record {
      found = tt;
      none = lanes_passed c.args.wanted c.args.bytes.now c.args.at 32 32 c.requires.inside c.requires.before (sym none) (omega arith) (omega arith);
    }

pub returns-clause-found : goal.returns-clause-found
returns-clause-found c =
    let bytes = c.args.bytes.now in
    let lanes = chunk c.args.at 32 bytes in
    let long = length-chunk c.args.at 32 bytes c.requires.inside in
    let found = bitmask_splat w8 eqb lanes 32 c.args.wanted long (omega arith) in
    let mask : ℕ = mask_l (map (λ byte. eqb byte c.args.wanted) lanes) in
    let some : 0 < mask = omega arith in
    let all : length (map (λ byte. eqb byte c.args.wanted) lanes) ≡ 32 = length-map lanes (λ byte. eqb byte c.args.wanted) ∙ long in
    let low : mask < 2 ^ 32 = subst (λ n. mask < 2 ^ n) all (mask_l-lt (map (λ byte. eqb byte c.args.wanted) lanes)) in
    let first = trailing_mask_l (λ byte. eqb byte c.args.wanted) 32 lanes (omega arith) some in
    let count = trailing_mask_l (λ byte. eqb byte c.args.wanted) 64 lanes (omega arith) some in
    let within = (bit_at-trailing_zeros w32 mask some low).0 in
    lanes_end c.args.wanted bytes c.args.at _ c.requires.inside c.requires.before (ap (count_trailing_zeros 64) found ∙ count)
    (omega (arith, ap (count_trailing_zeros 64) found, first, count, within))
