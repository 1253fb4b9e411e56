-- What a tree prints: two texts, between which a name may stand.
use Rattle.std.specs.Prelude.{ℕ, zero, suc, ◌+◌, nat_eq, Bool, true, false, ◌&&◌, ◌||◌, List, [], ◌∷◌, ◌++◌, codes, if◌then◌else◌, Option, Some, None, unwrap_or, option_and_then}
use Rattle.std.specs.Fmt.{decimal}
use Rattle.std.specs.Option.{option_map_or}
use Rattle.cxx_tree.specs.declared.kinds.Cv.{Cv}
use Rattle.cxx_tree.specs.declared.kinds.Listing.{Listing}
use Rattle.cxx_tree.specs.declared.kinds.Listing.TheVariants.{Items, Enclosed, Parens, Angles, Declarations, Sequence}
use Rattle.cxx_tree.specs.declared.kinds.Manner.{Manner}
use Rattle.cxx_tree.specs.declared.kinds.Manner.TheVariants.{Whole, Operand, Scope, Callee, Address, Value, Argument, Count, Folded}
use Rattle.cxx_tree.specs.declared.kinds.Phrase.{Phrase}
use Rattle.cxx_tree.specs.declared.kinds.Prec.{Prec}
use Rattle.cxx_tree.specs.declared.kinds.Prec.TheVariants.{Comma}
use Rattle.cxx_tree.specs.declared.kinds.RefQual.{RefQual}
use Rattle.cxx_tree.specs.Tree.{Tree, Trees, Parts, named, leaf, std_name, phrase, scoped, with_args, abi_tag, in_module, data_name, objc_protocol, listed, expansion, param, type_param, non_type_param, template_param, pack_param, qualified, pointer, reference, member_pointer, array, function, encoding, pack, no_trees, more_trees, no_parts, text, tree, trees}
use Rattle.cxx_tree.specs.Measure.{measure}
use Rattle.cxx_printer.specs.declared.env.Env.{Env}
use Rattle.cxx_printer.specs.declared.env.Style.{Style}
use Rattle.cxx_printer.specs.declared.shapes.Ending.{Ending}
use Rattle.cxx_printer.specs.declared.shapes.Ending.TheVariants.{Less, Greater, Other}
use Rattle.cxx_printer.specs.declared.words.Form.{Form}
use Rattle.cxx_printer.specs.declared.words.Form.TheVariants.{Plain, Arrayed, Callable}
use Rattle.cxx_printer.specs.Words.{is_llvm, enclosed, in_angle, at, in_context, is_guarded, within, styled, ending, std_text, cv_text, ref_text, mark, opened, member_opened, closed}
use Rattle.cxx_printer.specs.Heads.{prec_of, is_tight, is_simple, is_designator, is_named_address, protocol_of, count_of}

-- the two texts, and how the declarators around them are written
pub record Sides : Type 0 where
  pub left : List ℕ
  pub right : List ℕ
  pub bracket : Bool  -- a blank stands before the right text unless it is joined: it begins with an array's bracket
  pub form : Form

-- other texts of a function in GNU's style
pub record FunctionTexts : Type 0 where
  pub scope : List ℕ  -- as a scope, without its return type
  pub callee : List ℕ  -- where it is called, without its parameters
  -- where its address is taken, if it has no parameters there; and how this text ends
  pub address : Option (List ℕ × Ending)

-- what a tree prints, and what is asked of it where it is a part of another
pub record Printed : Type 0 where
  pub text : Sides
  pub kind : Option Bool  -- of a reference, whether it and those that it refers to make an lvalue reference
  pub base : Sides  -- what a reference refers to in the end; of what is no reference, its text
  pub has_right : Bool  -- a right text may stand after the name
  pub closed : Bool  -- the left text ends with a bracket that joins one after it
  pub star : Bool  -- a pointer
  pub ends : Ending  -- how the text ends in GNU's style
  pub function : Option FunctionTexts
  -- of the declaration of a template parameter in GNU's style, the text without the name, and the name
  pub declaration : Option (record { head : List ℕ; name : List ℕ })

-- a text on both sides of a name
abbrev pub sides : List ℕ → List ℕ → Sides
sides left right = record { left = left; right = right; bracket = false; form = Plain }

-- a text on one side
abbrev pub simple : List ℕ → Sides
simple bytes = sides bytes []

-- a text with none of the other attributes
abbrev pub of_text : Sides → Printed
of_text t = record {
  text = t;
  kind = None;
  base = t;
  has_right = false;
  closed = false;
  star = false;
  ends = Other;
  function = None;
  declaration = None;
}

-- a text on one side, and how it ends
abbrev pub plain : List ℕ → Ending → Printed
plain bytes ends = record (of_text (simple bytes)) { ends = ends }

-- the same, and whether it ends with a bracket
abbrev pub joinable : List ℕ → Bool → Ending → Printed
joinable bytes closed ends = record (plain bytes ends) { closed = closed }

abbrev pub blank_unless : Bool → List ℕ
blank_unless flag = if flag then [] else codes " "

-- the right text. The flag says that it is joined to what stands before it
abbrev pub right_behind : Bool → Sides → List ℕ
right_behind joined t = (if t.bracket then blank_unless joined else []) ++ t.right

-- the right text of a type, after a name or a declarator
abbrev pub behind : Printed → List ℕ
behind t = right_behind false t.text

abbrev pub whole : Printed → List ℕ
whole p = p.text.left ++ right_behind p.closed p.text

-- a tree that is a part of another, and what it prints
pub record Item : Type 0 where
  pub tree : Tree
  pub printed : Env → Printed

abbrev pub parenthesized : List ℕ → List ℕ
parenthesized bytes = codes "(" ++ (bytes ++ codes ")")

abbrev pub in_parens : Env → Item → List ℕ
in_parens env x = parenthesized (whole (x.printed (enclosed env)))

-- an operand of a precedence needs no parentheses. The flag says that it may be as loose as the precedence
abbrev pub is_bare : Env → Prec → Bool → Item → Bool
is_bare env prec loose x = if is_llvm env then is_tight (prec_of x.tree) prec loose else is_simple x.tree

abbrev pub operand : Env → Prec → Bool → Item → List ℕ
operand env prec loose x = if is_bare env prec loose x then whole (x.printed env) else in_parens env x

-- how an operand ends in GNU's style
abbrev pub operand_ends : Env → Item → Ending
operand_ends env x = if is_simple x.tree then (x.printed env).ends else Other

abbrev pub separator : Bool → List ℕ
separator first = if first then [] else codes ", "

-- an item after others, unless it is the first. One that prints nothing has no comma
abbrev pub item_behind : Bool → List ℕ → List ℕ
item_behind first [] = []
item_behind first (b ∷ bs) = separator first ++ (b ∷ bs)

-- the next item is still the first
abbrev pub is_still_first : Bool → List ℕ → Bool
is_still_first first [] = first
is_still_first first (b ∷ bs) = false

abbrev pub item_text : Env → Item → List ℕ
item_text env x = styled env (operand env Comma false x) (whole (x.printed env))

-- items with commas between
unfoldable pub list_from : Bool → Env → List Item → List ℕ
list_from first env [] = []
list_from first env (x ∷ xs) =
    item_behind first (item_text env x) ++ list_from (is_still_first first (item_text env x)) env xs

abbrev pub parens : Env → List Item → List ℕ
parens env xs = parenthesized (list_from true (enclosed env) xs)

-- how the last item ends
unfoldable pub last_ends : Env → List Item → Ending
last_ends env [] = Other
last_ends env (x ∷ []) = (x.printed env).ends
last_ends env (x ∷ y ∷ xs) = last_ends env (y ∷ xs)

-- a blank between two `<`, or two `>`
abbrev pub blank_if : Ending → Ending → List ℕ
blank_if Less Less = codes " "
blank_if Greater Greater = codes " "
blank_if next ends = []

-- in GNU's style, a blank between a text and what is next
abbrev pub gnu_blank : Env → Ending → Ending → List ℕ
gnu_blank env next ends = styled env [] (blank_if next ends)

abbrev pub angles : Env → List Item → List ℕ
angles env xs =
    codes "<"
    ++ (list_from true (in_angle env) xs ++ (gnu_blank env Greater (last_ends (in_angle env) xs) ++ codes ">"))

-- each without a comma
unfoldable pub sequence : Env → List Item → List ℕ
sequence env [] = []
sequence env (x ∷ xs) = whole (x.printed env) ++ sequence env xs

-- a text of each, with commas between
unfoldable pub separated : (Printed → List ℕ) → Bool → Env → List Item → List ℕ
separated f first env [] = []
separated f first env (x ∷ xs) = (separator first ++ f (x.printed env)) ++ separated f false env xs

-- the declaration of a template parameter without its name
abbrev pub head : Printed → List ℕ
head p = option_map_or (λ d. d.head) p.declaration (whole p)

abbrev pub declared_name : Printed → List ℕ
declared_name p = option_map_or (λ d. d.name) p.declaration []

abbrev pub declared : Printed → List ℕ
declared p = head p ++ (codes " " ++ declared_name p)

abbrev pub list_of : Listing → Env → List Item → List ℕ
list_of Items env xs = list_from true env xs
list_of Enclosed env xs = list_from true (enclosed env) xs
list_of Parens env xs = parens env xs
list_of Angles env xs = angles env xs
list_of Declarations env xs =
    styled env (angles env xs) (codes "<" ++ (separated declared true (in_angle env) xs ++ codes ">"))
list_of Sequence env xs = sequence (enclosed env) xs

abbrev pub list_ends : Listing → Ending
list_ends Angles = Greater
list_ends listing = Other

-- Parts of phrases.

-- a function without its return type; another tree whole
abbrev pub without_return : Printed → List ℕ
without_return p = option_map_or (λ f. f.scope) p.function (whole p)

-- as a scope
abbrev pub scope_text : Env → Printed → List ℕ
scope_text env p = styled env (whole p) (without_return p)

-- where its address is taken, if it is another text there
abbrev pub address_of : Printed → Option (List ℕ × Ending)
address_of p = option_and_then (λ f. f.address) p.function

abbrev pub sizeof_text : Bool → Env → Item → List ℕ
sizeof_text blank env x = (if blank then codes "sizeof... " else codes "sizeof...") ++ in_parens env x

-- a pattern for each of n indices from k on, with commas between
unfoldable pub repeated : ℕ → ℕ → Env → Item → List ℕ
repeated zero k env x = []
repeated (suc n) k env x =
    (separator (nat_eq k 0) ++ whole (x.printed (at env k))) ++ repeated n (k + 1) env x

-- a pattern for each element of its packs. Without a pack it stands once, with an ellipsis
abbrev pub expansion_text : Env → Option ℕ → Item → List ℕ
expansion_text env None x = operand (at env 0) Comma true x ++ codes "..."
expansion_text env (Some n) x = repeated n 0 env x

abbrev pub expansion_ends : Env → Option ℕ → Item → Ending
expansion_ends env None x = Other
expansion_ends env (Some zero) x = Other
expansion_ends env (Some (suc n)) x = (x.printed (at env n)).ends

-- as the pack of a fold expression
abbrev pub folded_text : Env → Option ℕ → Item → List ℕ
folded_text env None x = styled env (parenthesized (expansion_text env None x)) (operand env Comma true x)
folded_text env (Some n) x = parenthesized (expansion_text env (Some n) x)

-- how a part is printed
abbrev pub part_text : Manner → Env → Item → List ℕ
part_text (Whole context) env x = whole (x.printed (in_context env context))
part_text (Operand prec loose) env x = operand env prec loose x
part_text Scope env x = scope_text env (x.printed env)
part_text Callee env x =
    styled env (whole (x.printed env))
    (option_map_or (λ f. f.callee) (x.printed env).function (operand env Comma true x))
part_text (Address prec) env x =
    styled env (operand env prec false x)
    (option_map_or (λ a. a.0) (address_of (x.printed env)) (operand env prec false x))
part_text Value env x =
    if is_designator x.tree then whole (x.printed env)
    else styled env (codes " = ") (codes "=") ++ operand env Comma true x
part_text Argument env x = styled env (parenthesized (operand (enclosed env) Comma false x)) (operand env Comma true x)
part_text (Count blank) env x =
    styled env (sizeof_text blank env x) (option_map_or decimal (count_of x.tree) (sizeof_text blank env x))
part_text Folded env x = folded_text env (measure x.tree).elements x

abbrev pub address_ends : Env → Item → Ending
address_ends env x = option_map_or (λ a. a.1) (address_of (x.printed env)) (operand_ends env x)

-- how a part ends
abbrev pub part_ends : Manner → Env → Item → Ending
part_ends (Whole context) env x = (x.printed (in_context env context)).ends
part_ends (Operand prec loose) env x = operand_ends env x
part_ends (Address prec) env x = address_ends env x
part_ends Argument env x = operand_ends env x
part_ends manner env x = Other

-- parts in a row: their text, and how the last one ends, if there is one
pub record Run : Type 0 where
  pub text : List ℕ
  pub ends : Option Ending

-- a part and those after it
abbrev pub run_of : List ℕ → Ending → Run → Run
run_of bytes ends rest = record { text = bytes ++ rest.text; ends = Some (unwrap_or rest.ends ends) }

-- a phrase with these parts
abbrev pub phrased : Phrase → Env → Run → Printed
phrased p env run =
    joinable (if is_guarded env p.guard then parenthesized run.text else run.text) (is_llvm env && p.is_closed)
    (if p.is_open then unwrap_or run.ends Other else Other)

-- a name in a scope. The flag says that it is a friend's
abbrev pub in_scope : Bool → Env → Printed → Printed → Printed
in_scope true env scope name = joinable (whole scope ++ (codes "::friend " ++ whole name)) name.closed name.ends
in_scope false env scope name = joinable (scope_text env scope ++ (codes "::" ++ whole name)) name.closed name.ends

-- a name with template arguments
abbrev pub with_list : Env → Printed → List Item → Printed
with_list env name xs = plain (whole name ++ (gnu_blank env Less name.ends ++ angles env xs)) Greater

-- an expansion of a pattern
abbrev pub expanded : Env → Item → Printed
expanded env x =
    plain (expansion_text env (measure x.tree).elements x) (expansion_ends env (measure x.tree).elements x)

-- Declarations of template parameters: the left text, the right one, the head and the name.

abbrev pub declares : List ℕ → List ℕ → List ℕ → List ℕ → Printed
declares left right head name =
    record (of_text (sides left right)) { has_right = true; declaration = Some (record { head = head; name = name }) }

-- the left text of a type, before a name
abbrev pub left_of : Printed → List ℕ
left_of t = t.text.left ++ blank_unless t.has_right

abbrev pub non_type : Printed → Printed → Printed
non_type name t = declares (left_of t) (whole name ++ behind t) (whole t) (whole name)

abbrev pub template_of : Env → Printed → List Item → Run → Printed
template_of env name xs rest =
    declares (codes "template" ++ (angles env xs ++ codes " typename ")) (whole name ++ rest.text)
    (codes "template<" ++ (separated head true env xs ++ codes "> class")) (whole name)

abbrev pub pack_of : Printed → Printed
pack_of d = declares (d.text.left ++ codes "...") (behind d) (head d ++ codes "...") (declared_name d)

-- Types.

abbrev pub with_cv : Cv → Printed → Printed
with_cv cv t = record (of_text (record (t.text) { left = t.text.left ++ cv_text cv })) { has_right = t.has_right }

-- a declarator that refers to a type. What stands on the left of the name is given
abbrev pub declarator : List ℕ → Sides → Sides
declarator bytes t = sides (t.left ++ bytes) (closed t.form ++ right_behind false t)

-- a pointer with this declarator
abbrev pub pointing : List ℕ → Printed → Printed
pointing bytes t = record (of_text (declarator bytes t.text)) { has_right = t.has_right; star = true }

-- a pointer to a type, or an `id` with a protocol
abbrev pub pointed : Option (List ℕ) → Printed → Printed
pointed None t = pointing (opened t.text.form ++ codes "*") t
pointed (Some protocol) t =
    record (plain (codes "id<" ++ (protocol ++ codes ">")) Greater) { has_right = t.has_right; star = true }

-- two references in a row make an rvalue reference if both are
abbrev pub collapsed : Bool → Option Bool → Bool
collapsed lvalue None = lvalue
collapsed lvalue (Some inner) = lvalue || inner

-- a reference to what is no reference
abbrev pub refers : Bool → Sides → Sides
refers lvalue t = declarator (opened t.form ++ mark lvalue) t

abbrev pub reference_to : Bool → Printed → Printed
reference_to lvalue t =
    record (of_text (refers lvalue t.base)) { kind = Some lvalue; base = t.base; has_right = t.has_right }

-- a reference to a type, which may be a reference too
abbrev pub referred : Bool → Printed → Printed
referred lvalue t = reference_to (collapsed lvalue t.kind) t

abbrev pub member_of : Style → Printed → Printed → Printed
member_of style class t = pointing (member_opened style t.text.form ++ (whole class ++ codes "::*")) t

abbrev pub arrayed : Printed → Run → Printed
arrayed element dimension =
    record (of_text (record {
      left = element.text.left;
      right = codes "[" ++ (dimension.text ++ (codes "]" ++ element.text.right));
      bracket = true;
      form = Arrayed;
    })) { has_right = true; closed = element.closed }

-- Functions.

-- what is called, from the texts on both sides of its name
abbrev pub callable : List ℕ → List ℕ → Printed
callable left right = record (of_text (record (sides left right) { form = Callable })) { has_right = true }

-- qualifiers, and what follows them
abbrev pub qualifiers : Cv → RefQual → List ℕ → List ℕ
qualifiers cv ref behind = cv_text cv ++ (ref_text ref ++ behind)

-- after the return type of a function type
abbrev pub function_blank : Env → Printed → List ℕ
function_blank env ret = styled env (codes " ") (blank_unless (ret.star && ret.has_right))

-- a function type
abbrev pub called : Env → Printed → List Item → Cv → RefQual → Run → Printed
called env ret params cv ref exception =
    callable (ret.text.left ++ function_blank env ret)
    (parens env params
    ++ (if is_llvm env then behind ret ++ qualifiers cv ref exception.text
    else exception.text ++ qualifiers cv ref (behind ret)))

-- a text of the return type, if there is one
abbrev pub of_return : (Printed → List ℕ) → Env → List Item → List ℕ
of_return f env [] = []
of_return f env (r ∷ rs) = f (r.printed env)

-- after the name of a function. The right text of the return type is given
abbrev pub signature_right : Env → List ℕ → List Item → Cv → RefQual → Run → List ℕ
signature_right env ret params cv ref rest =
    parens env params
    ++ (if is_llvm env then ret ++ qualifiers cv ref rest.text else qualifiers cv ref (ret ++ rest.text))

abbrev pub named_function : Env → Item → List Item → Cv → RefQual → Run → FunctionTexts
named_function env name params cv ref rest = record {
  scope = whole (name.printed env) ++ signature_right env [] params cv ref rest;
  callee = operand env Comma true name;
  address =
      if is_named_address name.tree cv ref then Some (whole (name.printed env), (name.printed env).ends) else None;
}

-- a function with a name
abbrev pub signature : Env → List Item → Item → List Item → Cv → RefQual → Run → Printed
signature env ret name params cv ref rest =
    record (callable (of_return left_of env ret ++ whole (name.printed env))
    (signature_right env (of_return behind env ret) params cv ref rest)) {
      function = Some (named_function env name params cv ref rest);
    }

-- the element of a pack, which isn't asked for its head
abbrev pub element_of : Printed → Printed
element_of p = record p { function = None; declaration = None }

-- what a pack prints past its last element
abbrev pub nothing : Printed
nothing = plain [] Other

abbrev pub printed_at : List Item → ℕ → Env → Printed
printed_at [] k env = nothing
printed_at (x ∷ xs) zero env = x.printed env
printed_at (x ∷ xs) (suc k) env = printed_at xs k env

unfoldable mutual
  -- what a tree prints in an environment
  pub print : Tree → Env → Printed
  print (named w) env = plain w (ending w)
  print (leaf simple a b) env = plain (styled env a b) Other
  print (std_name k expanded) env = plain (std_text env.style k expanded) (ending (std_text env.style k expanded))
  print (phrase attributes ps) env = phrased attributes env (print_parts ps (within env attributes.guard))
  print (scoped friend scope name) env = in_scope friend env (print scope env) (print name env)
  print (with_args name args) env = with_list env (print name env) (items_of args)
  print (abi_tag name tag) env =
      joinable ((print name env).text.left ++ (codes "[abi:" ++ (tag ++ codes "]"))) (is_llvm env) Other
  print (in_module name owner) env =
      plain (whole (print name env) ++ (codes "@" ++ whole (print owner env))) (print owner env).ends
  print (data_name name) env = joinable (whole (print name env)) (print name env).closed (print name env).ends
  print (objc_protocol t w) env = plain (whole (print t env) ++ (codes "<" ++ (w ++ codes ">"))) Greater
  print (listed ts) env = plain (list_from true env (items_of ts)) (last_ends env (items_of ts))
  print (expansion t) env = expanded env (record { tree = t; printed = print t })
  print (param level index) env = nothing
  print (type_param constraint name) env =
      declares (whole (print constraint env) ++ codes " ") (whole (print name env)) (whole (print constraint env))
      (whole (print name env))
  print (non_type_param name t) env = non_type (print name env) (print t env)
  print (template_param name declarations rest) env =
      template_of env (print name env) (items_of declarations) (print_parts rest env)
  print (pack_param d) env = pack_of (print d env)
  print (qualified t cv) env = with_cv cv (print t env)
  print (pointer t) env = pointed (protocol_of t) (print t env)
  print (reference t lvalue) env = referred lvalue (print t env)
  print (member_pointer class t) env = member_of env.style (print class env) (print t env)
  print (array element dimension) env = arrayed (print element env) (print_parts dimension env)
  print (function ret params cv ref exception) env =
      called env (print ret env) (items_of params) cv ref (print_parts exception env)
  print (encoding ret name params cv ref rest) env =
      signature env (items_of ret) (record { tree = name; printed = print name }) (items_of params) cv ref
      (print_parts rest env)
  print (pack ts) env = element_of (printed_at (items_of ts) env.pack env)

  pub items_of : Trees → List Item
  items_of no_trees = []
  items_of (more_trees t ts) = record { tree = t; printed = print t } ∷ items_of ts

  -- what parts print in a row
  pub print_parts : Parts → Env → Run
  print_parts no_parts env = record { text = []; ends = None }
  print_parts (text a b ps) env = run_of (styled env a b) (ending b) (print_parts ps env)
  print_parts (tree manner t ps) env =
      run_of (part_text manner env (record { tree = t; printed = print t }))
      (part_ends manner env (record { tree = t; printed = print t })) (print_parts ps env)
  print_parts (trees listing ts ps) env =
      run_of (list_of listing env (items_of ts)) (list_ends listing) (print_parts ps env)
