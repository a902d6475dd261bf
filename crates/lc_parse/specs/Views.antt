-- The tree of `lc_grammar` that an expression, a statement and a script stand for.
--   all_of es          the expressions of a list, one after another
--   tree_of e          the tree of an expression
--   statement_of s     the statement of the grammar
--   script_of s        the statements of a script
use Rattle.std.specs.Prelude.{ℕ, List, [], ◌∷◌, map, option_map, string_bytes}
use Rattle.lc_grammar.specs.Tree as tree
use Rattle.lc_parse.specs.declared.tree.Expr.{Expr, fold-Expr, Expr-F}
use Rattle.lc_parse.specs.declared.tree.Node.TheOpen.{Node-F}
use Rattle.lc_parse.specs.declared.tree.Statement.{Statement}
use Rattle.lc_parse.specs.declared.tree.Script.{Script}

abbrev pub all_of : List tree.Expr → tree.Exprs
all_of [] = tree.none
all_of (e ∷ es) = tree.more e (all_of es)

-- what stands at an offset, with each expression inside already seen as its tree
abbrev pub node_step : Node-F (ℕ → tree.Expr) tree.Expr → ℕ → tree.Expr
node_step (Node-F.Number n) offset = tree.number offset n
node_step (Node-F.Name x) offset = tree.name offset (string_bytes x)
node_step (Node-F.Call x es) offset = tree.call offset (string_bytes x) (all_of es.items)
node_step (Node-F.List es) offset = tree.list offset (all_of es.items)

abbrev pub expr_step : Expr-F (ℕ → tree.Expr) tree.Expr → tree.Expr
expr_step e = e.node e.offset

abbrev pub tree_of : Expr → tree.Expr
tree_of = fold-Expr (ℕ → tree.Expr) tree.Expr node_step expr_step

abbrev pub trees_of : List Expr → tree.Exprs
trees_of es = all_of (map tree_of es)

abbrev pub statement_of : Statement → tree.Statement
statement_of s = record { target = option_map string_bytes s.target; expr = tree_of s.expr }

abbrev pub script_of : Script → List tree.Statement
script_of s = map statement_of s.statements.items
