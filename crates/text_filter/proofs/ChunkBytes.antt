-- What stands in the chunk.
use Rattle.std.proofs.Common.{◌≡◌, ℕ, ◌+◌, ◌-◌, ◌≤◌, List, [], ◌++◌, Option, length, take, drop, sym, ap, subst, ◌∙◌, arith, append_assoc}
use Rattle.std.proofs.lemmas.List.{length-take, length-take-le, length-append, length-drop, take-append-le, take-take, drop-take, nil_from_length}
use Rattle.std.proofs.Math.Seq.{take-append-add}
use Rattle.std.specs.List.{copy_within}
use Rattle.text_filter.specs.Progress.{ReadsMore}

-- the chunk as it is given back: the bytes that stay, what was read, and what no one looked at
given_back : (kept : ℕ) (now into post rest : List ℕ)
    → (take kept now ++ (into ++ post)) ++ rest ≡ take kept now ++ (into ++ (post ++ rest))
given_back kept now into post rest =
    append_assoc (take kept now) (into ++ post) rest ∙ ap (λ l. take kept now ++ l) (append_assoc into post rest)

-- after the bytes that stay, a front of what was read
pub read_held : (kept count len : ℕ) (old now into post rest : List ℕ) → kept ≤ length now → take kept now ≡ take kept old
    → count ≤ length into → kept + count ≤ len
    → take (kept + count) (take len ((take kept now ++ (into ++ post)) ++ rest)) ≡ take kept old ++ take count into
read_held kept count len old now into post rest inside stays small fits =
    take-take (kept + count) len ((take kept now ++ (into ++ post)) ++ rest) fits
    ∙ ap (take (kept + count)) (given_back kept now into post rest)
    ∙ ap (λ k. take (k + count) (take kept now ++ (into ++ (post ++ rest)))) (sym (length-take-le kept now inside))
    ∙ take-append-add (take kept now) (into ++ (post ++ rest)) count
    ∙ ap (λ l. take kept now ++ l) (take-append-le count into (post ++ rest) small)
    ∙ ap (λ l. l ++ take count into) stays

-- which stands within the chunk
pub read_inside : (kept count len : ℕ) (now into post rest : List ℕ) → kept ≤ length now → count ≤ length into → kept + count ≤ len
    → kept + count ≤ length (take len ((take kept now ++ (into ++ post)) ++ rest))
read_inside kept count len now into post rest inside small fits =
    let whole : List ℕ = take kept now ++ (into ++ (post ++ rest)) in
    let long : length whole ≡ length (take kept now) + (length into + length (post ++ rest)) =
    length-append (take kept now) (into ++ (post ++ rest)) ∙ ap (λ n. length (take kept now) + n) (length-append into (post ++ rest)) in
    subst (λ l. kept + count ≤ length (take len l)) (sym (given_back kept now into post rest))
    (omega (arith, length-take len whole, long, length-take-le kept now inside))

-- nothing was read where no more bytes stand there
pub nothing_read : (kept end : ℕ) (old new : List ℕ) (s s' : Option (List ℕ)) (more : ReadsMore kept end old new s s') → kept ≤ length old → end ≡ kept → more.piece ≡ []
nothing_read kept end old new s s' more inside same =
    nil_from_length more.piece (omega (arith, ap length more.chunk, length-append (take kept old) more.piece, length-take-le kept old inside, length-take-le end new more.inside))

-- what follows whole lines was moved to the front
pub front_moved : (bytes moved : List ℕ) (end ended : ℕ) → ended ≤ end → end ≤ length bytes → moved ≡ copy_within bytes ended end 0
    → take (end - ended) moved ≡ drop ended (take end bytes)
front_moved bytes moved end ended ordered inside is =
    let n : ℕ = end - ended in
    let rest : List ℕ = drop ended bytes in
    let some : n ≤ length rest = omega (arith, length-drop ended bytes) in
    ap (take n) is
    ∙ take-append-le n (take n rest) (drop (0 + n) bytes) (omega (arith, length-take-le n rest some))
    ∙ take-take n n rest (omega arith)
    ∙ sym (drop-take ended n bytes)
    ∙ ap (λ k. drop ended (take k bytes)) (omega arith)

-- all bytes stay where they are if no whole line was read
pub none_moved : (bytes : List ℕ) (end ended : ℕ) → ended ≤ 0 → take (end - ended) bytes ≡ drop ended (take end bytes)
none_moved bytes end ended none =
    let zero : 0 ≡ ended = omega (arith, none) in
    subst (λ n. take (end - n) bytes ≡ drop n (take end bytes)) zero (ap (λ n. take n bytes) (omega arith))
