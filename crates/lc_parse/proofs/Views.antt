-- The trees of expressions, by what they are made of.
--   tree_of-Number, -Name, -Call, -List      the tree of an expression by its node
--   trees_of-push                            one more expression at the end
use Rattle.std.proofs.Common.{◌≡◌, ℕ, List, [], ◌∷◌, ◌++◌, String, Vec, Global, string_bytes, refl, ap, rules}
use Rattle.lc_grammar.specs.Tree as tree
use Rattle.lc_grammar.proofs.Course.{after_all}
use Rattle.lc_parse.specs.Views.{tree_of, trees_of}
use Rattle.lc_parse.specs.declared.tree.Expr.{Expr}
use Rattle.lc_parse.specs.declared.tree.Node.{Node, Number, Name, Call, List as ListNode, the_lemmas}

abbrev at_offset : ℕ → Node → Expr
at_offset offset node = record { offset = offset; node = node }

pub tree_of-Number : (offset n : ℕ) → tree_of (at_offset offset (Number n)) ≡ tree.number offset n
tree_of-Number offset n = search (rules, the_lemmas)

pub tree_of-Name : (offset : ℕ) (x : String Global) → tree_of (at_offset offset (Name x)) ≡ tree.name offset (string_bytes x)
tree_of-Name offset x = search (rules, the_lemmas)

pub tree_of-Call : (offset : ℕ) (x : String Global) (es : Vec Expr Global) → tree_of (at_offset offset (Call x es)) ≡ tree.call offset (string_bytes x) (trees_of es.items)
tree_of-Call offset x es = search (rules, the_lemmas)

pub tree_of-List : (offset : ℕ) (es : Vec Expr Global) → tree_of (at_offset offset (ListNode es)) ≡ tree.list offset (trees_of es.items)
tree_of-List offset es = search (rules, the_lemmas)

pub trees_of-push : (es : List Expr) (e : Expr) → trees_of (es ++ e ∷ []) ≡ after_all (trees_of es) (tree_of e)
trees_of-push [] e = refl
trees_of-push (first ∷ es) e = ap (tree.more (tree_of first)) (trees_of-push es e)
