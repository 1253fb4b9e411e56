-- How an arena counts.
use Rattle.std.specs.Prelude.{◌≡◌, ◌≤◌, min, Bool, true, false, Option, MatchOption, List, [], ◌∷◌}
use Rattle.cxx_tree.specs.declared.counts.Measure as stored
use Rattle.cxx_tree.specs.declared.arena.Entry as entry
use Rattle.cxx_tree.specs.Tree.{Tree}
use Rattle.cxx_tree.specs.Measure.{Measure, measure, measure_each, part_measure, join_as}
use Rattle.cxx_tree.specs.declared.node.Part.{Part}
use Rattle.cxx_tree.specs.declared.node.Part.TheVariants as part
use Rattle.cxx_tree.specs.Stored.{Held, tree_at, trees_in}

-- work and template parameters above 2,097,152 stand as it
abbrev pub Counts : stored.Measure → Measure → Type 0
Counts c m =
    (c.height ≡ m.height)
    × (c.elements ≡ m.elements)
    × (c.each ≡ min 2097152 m.each)
    × (c.packs ≡ min 2097152 m.packs)
    × (c.params ≡ min 2097152 m.params)

-- the counts of trees in a row, each of which is within the limits
unfoldable pub Row : stored.Measure → Measure → Type 0
Row c m = Counts c m × (m.fits ≡ true) × (m.height ≤ 1024)

-- a work that isn't above the limit
unfoldable pub AreExact : Measure → Type 0
AreExact m = (m.each ≤ 1048576) × (m.packs ≤ 1048576)

-- the counts of a tree, or none if it isn't within the limits
unfoldable pub Tallied : Option stored.Measure → Measure → Type 0
Tallied o m = MatchOption o (m.fits ≡ false) (λ c. Row c m × AreExact m)

-- the counts of the trees of an arena, each of which is within the limits
unfoldable pub AreCounted : List entry.Entry → List Tree → Type 0
AreCounted [] [] = Unit {0}
AreCounted (e ∷ es) [] = ⊥
AreCounted [] (t ∷ ts) = ⊥
AreCounted (e ∷ es) (t ∷ ts) = Row e.counts (measure t) × AreExact (measure t) × AreCounted es ts

-- a part of a phrase, and those behind it
unfoldable pub part_and : Held → List Tree → Bool → Part → Measure → Measure
part_and h ts reversed (part.Text a b) m = m
part_and h ts reversed (part.Tree manner t) m = join_as reversed (part_measure manner (measure (tree_at ts t))) m
part_and h ts reversed (part.Trees listing l) m = join_as reversed (measure_each (trees_in h ts l)) m
