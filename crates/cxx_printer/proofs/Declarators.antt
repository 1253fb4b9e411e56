-- What declarators around a tree with one side print.
use Rattle.std.proofs.Common.{ℕ, ◌≡◌, Bool, true, false, List, [], ◌++◌, codes, refl, sym, ap, ◌∙◌, append_assoc, Option, None, if◌then◌else◌}
use Rattle.std.proofs.lemmas.List.{append-nil}
use Rattle.cxx_tree.specs.declared.kinds.Cv.{Cv}
use Rattle.cxx_tree.specs.declared.kinds.RefQual.{RefQual}
use Rattle.cxx_tree.specs.declared.node.Plain.{Plain}
use Rattle.cxx_tree.specs.declared.node.Plain.TheVariants as plain
use Rattle.cxx_tree.specs.declared.node.NodeText as stored
use Rattle.cxx_tree.specs.Tree.{Tree, qualified, pointer, reference}
use Rattle.cxx_tree.specs.Stored.{Held, plain_tree}
use Rattle.cxx_printer.specs.Asked.{IsLeft, OneSided}
use Rattle.cxx_printer.specs.declared.env.Env.{Env}
use Rattle.cxx_printer.specs.declared.words.Form.{Form}
use Rattle.cxx_printer.specs.Heads.{protocol_of}
use Rattle.cxx_printer.specs.Print.{Printed, Sides, Item, Run, parens, qualifiers, signature_right, print, whole, right_behind, with_cv, pointed, refers, reference_to, collapsed}
use Rattle.cxx_printer.specs.Words.{is_llvm, cv_text, mark, opened, closed}
use Rattle.cxx_printer.proofs.Packs.{closed_nothing, one-side, plain-joinable, plain-one_sided, qualified-one_sided}

-- a tree with one side
pub whole-left : (t : Tree) (env : Env) → OneSided t → whole (print t env) ≡ (print t env).text.left
unfolding OneSided
whole-left t env h = one-side (print t env).text (print t env).closed (h env).0

declared-left : (x : Sides) (k : List ℕ) → IsLeft x → (x.left ++ (opened x.form ++ k)) ++ (closed x.form ++ right_behind false x) ≡ x.left ++ k
unfolding opened
declared-left x k h =
    ap (λ (r : List ℕ). (x.left ++ (opened x.form ++ k)) ++ r) (closed_nothing x h) ∙ append-nil (x.left ++ (opened x.form ++ k))
    ∙ ap (λ (f : Form). x.left ++ (opened f ++ k)) h.2

-- a qualified tree
pub whole-qualified : (t u : Tree) (cv : Cv) (env : Env) → t ≡ qualified u cv → OneSided u → whole (print u env) ++ cv_text cv ≡ whole (print t env)
unfolding OneSided print
whole-qualified t u cv env e os =
    let p = print u env in
    let h = (os env).0 in
    ap (λ (l : List ℕ). l ++ cv_text cv) (one-side p.text p.closed h)
    ∙ sym (one-side ((with_cv cv p).text) false (h.0, h.1, h.2)) ∙ sym (ap (λ (v : Tree). whole (print v env)) e)

-- a pointer
whole-pointer : (t u : Tree) (env : Env) → t ≡ pointer u → protocol_of u ≡ None → OneSided u → whole (print u env) ++ codes "*" ≡ whole (print t env)
unfolding OneSided print
whole-pointer t u env e none os =
    let p = print u env in
    let h = (os env).0 in
    ap (λ (l : List ℕ). l ++ codes "*") (one-side p.text p.closed h)
    ∙ sym (declared-left p.text (codes "*") h) ∙ sym (ap (λ (o : Option (List ℕ)). whole (pointed o p)) none)
    ∙ sym (ap (λ (v : Tree). whole (print v env)) e)

pub whole-cv-pointer : (t u w : Tree) (cv : Cv) (env : Env) → t ≡ pointer u → u ≡ qualified w cv → OneSided w → whole (print w env) ++ (cv_text cv ++ codes "*") ≡ whole (print t env)
unfolding protocol_of
whole-cv-pointer t u w cv env e f os =
    sym (append_assoc (whole (print w env)) (cv_text cv) (codes "*")) ∙ ap (λ (l : List ℕ). l ++ codes "*") (whole-qualified u w cv env f os)
    ∙ whole-pointer t u env e (ap protocol_of f) (qualified-one_sided w cv u f os)

-- a reference
whole-reference : (t u : Tree) (l : Bool) (env : Env) → t ≡ reference u l → (print u env).kind ≡ None → (print u env).base ≡ (print u env).text → OneSided u → whole (print u env) ++ mark l ≡ whole (print t env)
unfolding OneSided print
whole-reference t u l env e kind base os =
    let p = print u env in
    let h = (os env).0 in
    ap (λ (x : List ℕ). x ++ mark l) (one-side p.text p.closed h) ∙ sym (declared-left p.text (mark l) h)
    ∙ sym (ap (λ (b : Sides). (refers l b).left ++ (refers l b).right) base)
    ∙ sym (ap (λ (k : Option Bool). whole (reference_to (collapsed l k) p)) kind) ∙ sym (ap (λ (v : Tree). whole (print v env)) e)

pub whole-cv-reference : (t u w : Tree) (l : Bool) (cv : Cv) (env : Env) → t ≡ reference u l → u ≡ qualified w cv → OneSided w → whole (print w env) ++ (cv_text cv ++ mark l) ≡ whole (print t env)
unfolding print
whole-cv-reference t u w l cv env e f os =
    sym (append_assoc (whole (print w env)) (cv_text cv) (mark l)) ∙ ap (λ (x : List ℕ). x ++ mark l) (whole-qualified u w cv env f os)
    ∙ whole-reference t u l env e (ap (λ (v : Tree). (print v env).kind) f)
    (ap (λ (v : Tree). (print v env).base) f ∙ sym (ap (λ (v : Tree). (print v env).text) f)) (qualified-one_sided w cv u f os)

-- a node with one side
pub whole-plain-reference : (h : Held) (ts : List Tree) (p : Plain) (t u : Tree) (l : Bool) (env : Env) → t ≡ reference u l → u ≡ plain_tree h ts p → whole (print u env) ++ mark l ≡ whole (print t env)
whole-plain-reference h ts p t u l env e f =
    let q = ap (λ (v : Tree). print v env) f ∙ plain-joinable h ts p env in
    whole-reference t u l env e (ap (λ (x : Printed). x.kind) q) (ap (λ (x : Printed). x.base) q ∙ sym (ap (λ (x : Printed). x.text) q))
    (plain-one_sided h ts p u f)

plain-no_protocol : (h : Held) (ts : List Tree) (p : Plain) → ((t : ℕ) (w : stored.NodeText) → p ≡ plain.ObjcProtocol t w → ⊥) → protocol_of (plain_tree h ts p) ≡ None
unfolding protocol_of plain_tree
plain-no_protocol h ts (plain.Name x) other = refl
plain-no_protocol h ts (plain.Leaf a x y) other = refl
plain-no_protocol h ts (plain.StdName k x) other = refl
plain-no_protocol h ts (plain.Phrase a x) other = refl
plain-no_protocol h ts (plain.Scoped friend q n) other = refl
plain-no_protocol h ts (plain.ScopedName q x) other = refl
plain-no_protocol h ts (plain.WithArgs n x) other = refl
plain-no_protocol h ts (plain.AbiTag n x) other = refl
plain-no_protocol h ts (plain.InModule n m) other = refl
plain-no_protocol h ts (plain.Data n) other = refl
plain-no_protocol h ts (plain.ObjcProtocol t w) other = absurd (other t w refl)
plain-no_protocol h ts (plain.Several x) other = refl
plain-no_protocol h ts (plain.Expansion t) other = refl
plain-no_protocol h ts (plain.Param l i) other = refl

pub whole-plain-pointer : (h : Held) (ts : List Tree) (p : Plain) (t u : Tree) (env : Env) → t ≡ pointer u → u ≡ plain_tree h ts p → ((x : ℕ) (w : stored.NodeText) → p ≡ plain.ObjcProtocol x w → ⊥)
    → whole (print u env) ++ codes "*" ≡ whole (print t env)
whole-plain-pointer h ts p t u env e f other =
    whole-pointer t u env e (ap protocol_of f ∙ plain-no_protocol h ts p other) (plain-one_sided h ts p u f)

-- a function without its return type
pub same-sides : (b : Bool) (l : List ℕ) → (if b then l else l) ≡ l
same-sides true l = refl
same-sides false l = refl

pub signature-alone : (env : Env) (params : List Item) (cv : Cv) (ref : RefQual) (rest : Run) → signature_right env [] params cv ref rest ≡ parens env params ++ qualifiers cv ref rest.text
signature-alone env params cv ref rest = ap (λ (l : List ℕ). parens env params ++ l) (same-sides (is_llvm env) (qualifiers cv ref rest.text))

pub ruleset one_sided = (whole-left, whole-qualified)
