-- What is known of a tree without walking it: height, pack, work, and template parameters.
use Rattle.std.specs.Prelude.{ℕ, zero, suc, ◌+◌, ◌*◌, max, nat_le, Bool, true, false, ◌&&◌, if◌then◌else◌, Option, Some, None, length}
use Rattle.std.specs.Option.{option_or}
use Rattle.cxx_tree.specs.declared.kinds.Manner.{Manner}
use Rattle.cxx_tree.specs.declared.kinds.Manner.TheVariants.{Folded}
use Rattle.cxx_tree.specs.Tree.{Tree, Trees, Parts, named, leaf, std_name, phrase, scoped, with_args, abi_tag, in_module, data_name, objc_protocol, listed, expansion, param, type_param, non_type_param, template_param, pack_param, qualified, pointer, reference, member_pointer, array, function, encoding, pack, no_trees, more_trees, no_parts, text, tree, trees}

pub record Measure : Type 0 where
  pub height : ℕ  -- of a leaf 1, of another tree one more than that of its highest child
  pub elements : Option ℕ  -- the number of elements of the first pack in it, outside of expansions
  pub each : ℕ  -- the work of printing it, without the elements of packs
  pub packs : ℕ  -- the work of printing all elements of the packs in it
  pub params : ℕ  -- how many nodes of it are a template parameter or contain one
  pub fits : Bool  -- it and all trees in it are within the limits

-- of no tree
abbrev pub nothing : Measure
nothing = record { height = 0; elements = None; each = 0; packs = 0; params = 0; fits = true }

-- of two trees in a row
abbrev pub join : Measure → Measure → Measure
join a b = record {
  height = max a.height b.height;
  elements = option_or a.elements b.elements;
  each = a.each + b.each;
  packs = a.packs + b.packs;
  params = a.params + b.params;
  fits = a.fits && b.fits;
}

-- of two trees in a row. The flag says that the pack of the second one comes first
abbrev pub join_as : Bool → Measure → Measure → Measure
join_as reversed a b = if reversed then join b a else join a b

-- a node that contains template parameters is one more
abbrev pub counted : ℕ → ℕ
counted zero = 0
counted (suc n) = suc n + 1

-- a height of at most 1,024, and a work of at most 1,048,576
abbrev pub within : ℕ → ℕ → ℕ → Bool
within height each packs = nat_le height 1024 && nat_le (each + packs) 1048576

-- of a tree, from its own work and what is known of its children
abbrev pub around : ℕ → Measure → Measure
around own m = record {
  height = m.height + 1;
  elements = m.elements;
  each = own + m.each;
  packs = m.packs;
  params = counted m.params;
  fits = m.fits && within (m.height + 1) (own + m.each) m.packs;
}

-- the work of a pattern, by the number of elements of its packs
abbrev pub repeated_work : Option ℕ → ℕ → ℕ → ℕ
repeated_work None each packs = each + packs
repeated_work (Some zero) each packs = 0
repeated_work (Some (suc n)) each packs = suc n * each + packs

-- of a pattern that is repeated for each element of its packs
abbrev pub repeated : Measure → Measure
repeated m = record m { elements = None; each = repeated_work m.elements m.each m.packs; packs = 0 }

-- of a pack, from the number of its arguments and what is known of them. One of them is printed at a time
abbrev pub packed : ℕ → Measure → Measure
packed n m = around 1 (record m { elements = Some n; each = 0; packs = m.each + m.packs })

-- of a template parameter
abbrev pub param_measure : Measure
param_measure = record (around 1 nothing) { params = 1 }

-- of a part of a phrase
abbrev pub part_measure : Manner → Measure → Measure
part_measure Folded m = repeated m
part_measure manner m = m

-- the number of trees
unfoldable pub count : Trees → ℕ
count no_trees = 0
count (more_trees t ts) = count ts + 1

unfoldable mutual
  -- of a tree. Its work is 1 and the bytes that it holds itself, and the work of its children
  pub measure : Tree → Measure
  measure (named bytes) = around (1 + length bytes) nothing
  measure (leaf simple a b) = around (1 + max (length a) (length b)) nothing
  measure (std_name std expanded) = around 1 nothing
  measure (phrase attributes ps) = around attributes.own (measure_parts attributes.is_reversed ps)
  measure (scoped friend scope name) = around 1 (join (measure scope) (measure name))
  measure (with_args name args) = around 1 (join (measure name) (measure_each args))
  measure (abi_tag name tag) = around (1 + length tag) (measure name)
  measure (in_module name owner) = around 1 (join (measure name) (measure owner))
  measure (data_name name) = around 1 (measure name)
  measure (objc_protocol t protocol) = around (1 + length protocol) (measure t)
  measure (listed ts) = around 1 (measure_each ts)
  measure (expansion t) = around 1 (repeated (measure t))
  measure (param level index) = param_measure
  measure (type_param constraint name) = around 1 (join (measure constraint) (measure name))
  measure (non_type_param name t) = around 1 (join (measure name) (measure t))
  measure (template_param name declarations rest) =
      around 1 (join (measure name) (join (measure_each declarations) (measure_parts false rest)))
  measure (pack_param declaration) = around 1 (measure declaration)
  measure (qualified t cv) = around 1 (measure t)
  measure (pointer t) = around 1 (measure t)
  measure (reference t lvalue) = around 1 (measure t)
  measure (member_pointer class member) = around 1 (join (measure member) (measure class))
  measure (array element dimension) = around 1 (join (measure element) (measure_parts false dimension))
  measure (function ret params cv ref exception) =
      around 1 (join (measure ret) (join (measure_each params) (measure_parts false exception)))
  measure (encoding ret name params cv ref rest) =
      around 1 (join (measure_each ret) (join (measure name) (join (measure_each params) (measure_parts false rest))))
  measure (pack ts) = packed (count ts) (measure_each ts)

  -- of trees in a row
  pub measure_each : Trees → Measure
  measure_each no_trees = nothing
  measure_each (more_trees t ts) = join (measure t) (measure_each ts)

  -- of the parts of a phrase. The flag says that the last pack comes first
  pub measure_parts : Bool → Parts → Measure
  measure_parts reversed no_parts = nothing
  measure_parts reversed (text a b ps) = measure_parts reversed ps
  measure_parts reversed (tree manner t ps) =
      join_as reversed (part_measure manner (measure t)) (measure_parts reversed ps)
  measure_parts reversed (trees listing ts ps) = join_as reversed (measure_each ts) (measure_parts reversed ps)
