-- The tree of a script, with the offset of each expression in the bytes.
--   Expr           a number, a name, a call of a name with arguments, or a list; each with the offset of its first byte
--   Exprs          the arguments of a call, or the elements of a list
--   Statement      an expression, and the name that it is assigned to, if there is one
--   offset_of e    the offset of an expression
--   count_of es    how many expressions there are
--   nesting e      how deep parentheses and brackets nest in an expression
use Rattle.std.specs.Prelude.{ℕ, suc, max, List, Option}

mutual
  pub data Expr : Type 0 where
    number : ℕ → ℕ → Expr
    name : ℕ → List ℕ → Expr
    call : ℕ → List ℕ → Exprs → Expr
    list : ℕ → Exprs → Expr

  pub data Exprs : Type 0 where
    none : Exprs
    more : Expr → Exprs → Exprs

pub record Statement : Type 0 where
  pub target : Option (List ℕ)
  pub expr : Expr

unfoldable pub offset_of : Expr → ℕ
offset_of (number offset _) = offset
offset_of (name offset _) = offset
offset_of (call offset _ _) = offset
offset_of (list offset _) = offset

unfoldable pub count_of : Exprs → ℕ
count_of none = 0
count_of (more e es) = suc (count_of es)

unfoldable mutual
  pub nesting : Expr → ℕ
  nesting (number _ _) = 0
  nesting (name _ _) = 0
  nesting (call _ _ arguments) = suc (nesting_all arguments)
  nesting (list _ elements) = suc (nesting_all elements)

  pub nesting_all : Exprs → ℕ
  nesting_all none = 0
  nesting_all (more e es) = max (nesting e) (nesting_all es)
