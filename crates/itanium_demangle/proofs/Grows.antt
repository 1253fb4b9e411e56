-- A text grows as it is built: what is put onto a text, and what is read after it, makes it no shorter.
use Rattle.std.proofs.Common.{◌≡◌, ◌≤◌, ℕ, ◌+◌, Bool, true, false, List, [], ◌∷◌, ◌++◌, length, ap, arith, codes, decimal, if◌then◌else◌, nat_eq}
use Rattle.std.proofs.lemmas.List.{length-append, take-append-drop}
use Rattle.std.specs.List.{ends_with}
use Rattle.demangle_text.specs.Shape.{Shape, Form, Plain, Declared, text, text_len, form_text, form_with, grouped, appended, flattened, own_shape}
use Rattle.demangle_text.specs.declared.pieces.Place.TheVariants.{End}
use Rattle.demangle_quals.specs.declared.quals.Quals.{Quals}
use Rattle.demangle_quals.specs.Quals.{quals_text, words_text, reference_text, has_quals}
use Rattle.demangle_edit.specs.Built.{arguments_closed}
use Rattle.demangle_edit.specs.Built.{default_arg_opened}
use Rattle.demangle_edit.specs.Names.{qualified, default_arg_shape, qualified_ctor, angle_gap, attached, tagged, with_name_qualifiers}
use Rattle.demangle_edit.specs.Built.{separator, listed_more, listed_each, params_closed, lambda_closed, function_closed}

-- a form with bytes at its end
form_longer : (bytes : List ℕ) (f : Form) → length (form_text f) ≤ length (form_text (form_with End bytes f))
form_longer bytes (Plain t) = omega (arith, length-append t bytes)
form_longer bytes (Declared k before group after) =
    omega (
      arith,
      length-append before (grouped group ++ after),
      length-append (grouped group) after,
      length-append before (grouped group ++ (after ++ bytes)),
      length-append (grouped group) (after ++ bytes),
      length-append after bytes,
    )

pub appended_longer : (bytes : List ℕ) (s : Shape) → text_len s ≤ text_len (appended bytes s)
appended_longer bytes s = form_longer bytes s.form

-- lists that are built as they are read
more_len : (first : Bool) (front next : Shape) → text_len (listed_more first front next) ≡ text_len front + length (separator first) + text_len next
more_len first front next =
    omega (arith, length-append (text front ++ separator first) (text next), length-append (text front) (separator first))

pub listed_more_front : (first : Bool) (front next : Shape) → text_len front ≤ text_len (listed_more first front next)
listed_more_front first front next = omega (arith, more_len first front next)

pub listed_more_item : (first : Bool) (front next : Shape) → text_len next ≤ text_len (listed_more first front next)
listed_more_item first front next = omega (arith, more_len first front next)

pub listed_longer : (first : Bool) (front : Shape) (items : List Shape) → text_len front ≤ text_len (listed_each first front items)
listed_longer first front [] = omega arith
listed_longer first front (next ∷ rest) =
    let here = listed_more_front first front next in
    let more = listed_longer false (listed_more first front next) rest in
    omega arith

pub closed_longer : (list : Shape) → text_len list ≤ text_len (arguments_closed list)
closed_longer list = appended_longer (if ends_with nat_eq (text list) (codes ">") then codes " >" else codes ">") list

pub lambda_longer : (number : ℕ) (list : Shape) → text_len list ≤ text_len (lambda_closed number list)
lambda_longer number list = appended_longer (codes ")#" ++ (decimal number ++ codes "}")) list

pub params_longer : (quals : Quals) (list : Shape) → text_len list ≤ text_len (params_closed quals list)
params_longer quals list = appended_longer (codes ")" ++ quals_text quals) list

-- names
pub tagged_longer : (name : Shape) (tag : List ℕ) → text_len name ≤ text_len (tagged name tag)
tagged_longer name tag = appended_longer (codes "[abi:" ++ (tag ++ codes "]")) (flattened name)

pub attached_longer : (name list : Shape) → text_len name ≤ text_len (attached name list)
attached_longer name list = appended_longer (angle_gap (text name) ++ text list) (flattened name)

pub quals_longer : (name : Shape) (quals : Quals) (shown : Bool) → text_len name ≤ text_len (with_name_qualifiers name quals shown)
quals_longer name quals shown = go (has_quals quals)
  where
    words : List ℕ
    words = (if shown then words_text quals else []) ++ reference_text quals.reference

    go : (b : Bool) → text_len name ≤ text_len (if b then appended words (flattened name) else name)
    go true = appended_longer words (flattened name)
    go false = omega arith

qualified_len : (parent leaf : Shape) → text_len (qualified parent leaf) ≡ text_len parent + 2 + text_len leaf
qualified_len parent leaf = omega (arith, length-append (text parent ++ codes "::") (text leaf), length-append (text parent) (codes "::"))

pub parent_longer : (parent leaf : Shape) → text_len parent ≤ text_len (qualified parent leaf)
parent_longer parent leaf = omega (arith, qualified_len parent leaf)

pub leaf_longer : (parent leaf : Shape) → text_len leaf ≤ text_len (qualified parent leaf)
leaf_longer parent leaf = omega (arith, qualified_len parent leaf)

pub ctor_longer : (parent : Shape) (destructor : Bool) → text_len parent ≤ text_len (qualified_ctor parent destructor)
ctor_longer parent destructor =
    let name = (if destructor then codes "~" else []) ++ text (own_shape parent) in
    omega (arith, length-append (text parent ++ codes "::") name, length-append (text parent) (codes "::"))

default_len : (parent entity : Shape) (number : ℕ) → text_len (default_arg_shape parent number entity) ≡ text_len (default_arg_opened parent number) + text_len entity
default_len parent entity number = length-append (text (default_arg_opened parent number)) (text entity)

pub default_parent_longer : (parent entity : Shape) (number : ℕ) → text_len parent ≤ text_len (default_arg_shape parent number entity)
default_parent_longer parent entity number =
    let opened = appended_longer (codes "::{default arg#" ++ (decimal number ++ codes "}::")) (flattened parent) in
    omega (arith, default_len parent entity number)

pub default_entity_longer : (parent entity : Shape) (number : ℕ) → text_len entity ≤ text_len (default_arg_shape parent number entity)
default_entity_longer parent entity number = omega (arith, default_len parent entity number)

-- a function's parameters
pub function_longer : (front : ℕ) (quals : Quals) (list : Shape) → text_len list ≤ text_len (function_closed front quals list)
function_longer front quals list =
    let back = codes ")" ++ quals_text quals in
    let all = text list ++ back in
    let whole = ap length (take-append-drop (front + 1) all) in
    omega (arith, whole, length-append (text list) back)
