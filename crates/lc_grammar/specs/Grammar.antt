-- Which script some bytes are, and where bytes that are none go wrong.
--
--   script    = { statement }
--   statement = [ name ":=" ] expr ";"
--   expr      = number | name | name "(" [ expr { "," expr } ] ")" | "[" [ expr { "," expr } ] "]"
--
--   IsToken kind token             the token is of this kind
--   IsExpr bytes ts e              the tokens ts are those of the expression e
--   IsList bytes ts es             the tokens ts are those of the expressions es with a comma between each two
--   IsStatement bytes ts s         .. of the statement
--   IsScript bytes ts ss           .. of the statements, one after another
--   deepest                        32: how deep parentheses and brackets may nest
--   Reads bytes ss                 the bytes are the script ss
--   MayGoOn bytes ts               some further tokens make the tokens ts a script
--   opens kind, closes kind        whether tokens of a kind open, and whether they close
--   is_opening t, open_signs ts    whether a token opens; how many signs are open after the tokens
--   IsTooDeep ts i                 token i opens where 32 signs are open
--   GoesOn bytes ts i              the first i tokens may go on, and none of them opens too deep
--   Fault                          a fault's number and offset
--   IsFaultAtToken                 the fault of a token: too deep (42), or with it nothing can make the tokens a script (41)
--   EndsIn                         the fault of the ending: a byte that begins no token (40), a number too wide (43), or the
--                                  script's end if it is none (41)
--   IsFault bytes fault            bytes that are no script, and the first offset at which they can't go on
--   TokenFault ending fault        the fault of the tokens alone: 40 or 43
use Rattle.std.specs.Prelude.{◌≡◌, ℕ, suc, ◌-◌, ◌<◌, ◌≤◌, ◌⊎◌, Bool, true, false, IsTrue, List, [], ◌∷◌, ◌++◌, length, take, count_by, slice_get, Option, Some, None, All}
use Rattle.lc_grammar.specs.declared.TokenKind.{TokenKind}
use Rattle.lc_grammar.specs.declared.TokenKind.TheVariants.{Name, Number, Assign, Open, Close, OpenList, CloseList, Comma, End}
use Rattle.lc_grammar.specs.declared.Token.{Token}
use Rattle.lc_grammar.specs.Token.{scan, text_of, number_of, Ending, script_end, bad_token, too_wide}
use Rattle.lc_grammar.specs.Tree.{Expr, Exprs, number, name, call, list, none, more, Statement, nesting}

abbrev pub IsToken : TokenKind → Token → Type 0
IsToken kind t = t.kind ≡ kind

-- a name with its offset and its text
pub record IsNamed (bytes : List ℕ) (t : Token) (offset : ℕ) (x : List ℕ) : Type 0 where
  pub kind : IsToken Name t
  pub stands : t.start ≡ offset
  pub text : text_of bytes t ≡ x

-- a number with its offset and its value
pub record IsNumbered (bytes : List ℕ) (t : Token) (offset n : ℕ) : Type 0 where
  pub kind : IsToken Number t
  pub stands : t.start ≡ offset
  pub value : number_of (text_of bytes t) ≡ n

-- an opening sign at this offset, some tokens, and the closing sign
pub record IsBetween (opening closing : TokenKind) (ts : List Token) (first : Token) (inner : List Token) (last : Token) : Type 0 where
  pub all : ts ≡ first ∷ (inner ++ last ∷ [])
  pub opens : IsToken opening first
  pub closes : IsToken closing last

abbrev mutual
  pub IsExpr : List ℕ → List Token → Expr → Type 0
  IsExpr bytes ts (number offset n) = (t : Token) × (ts ≡ t ∷ []) × IsNumbered bytes t offset n
  IsExpr bytes ts (name offset x) = (t : Token) × (ts ≡ t ∷ []) × IsNamed bytes t offset x
  IsExpr bytes ts (call offset x es) =
      (t : Token) × ((rest : List Token) × (ts ≡ t ∷ rest) × IsNamed bytes t offset x
      × ((first : Token) × ((inner : List Token) × ((last : Token) × IsBetween Open Close rest first inner last × IsList bytes inner es))))
  IsExpr bytes ts (list offset es) =
      (first : Token) × ((inner : List Token) × ((last : Token) × IsBetween OpenList CloseList ts first inner last × (first.start ≡ offset) × IsList bytes inner es))

  pub IsList : List ℕ → List Token → Exprs → Type 0
  IsList bytes ts none = ts ≡ []
  IsList bytes ts (more e none) = IsExpr bytes ts e
  IsList bytes ts (more e (more next es)) =
      (us : List Token) × ((comma : Token) × ((vs : List Token) × (ts ≡ us ++ comma ∷ vs) × IsToken Comma comma × IsExpr bytes us e × IsList bytes vs (more next es)))

-- the tokens before the expression of a statement: none, or a name and `:=`
abbrev pub IsTarget : List ℕ → List Token → Option (List ℕ) → Type 0
IsTarget bytes ts None = ts ≡ []
IsTarget bytes ts (Some x) = (t : Token) × ((assign : Token) × (ts ≡ t ∷ assign ∷ []) × IsToken Name t × IsToken Assign assign × (text_of bytes t ≡ x))

abbrev pub IsStatement : List ℕ → List Token → Statement → Type 0
IsStatement bytes ts s =
    (front : List Token) × ((middle : List Token) × ((last : Token) × (ts ≡ front ++ (middle ++ last ∷ [])) × IsTarget bytes front s.target × IsExpr bytes middle s.expr × IsToken End last))

abbrev pub IsScript : List ℕ → List Token → List Statement → Type 0
IsScript bytes ts [] = ts ≡ []
IsScript bytes ts (s ∷ ss) = (us : List Token) × ((vs : List Token) × (ts ≡ us ++ vs) × IsStatement bytes us s × IsScript bytes vs ss)

abbrev pub deepest : ℕ
deepest = 32

pub record Reads (bytes : List ℕ) (ss : List Statement) : Type 0 where
  pub whole : (scan bytes).ending ≡ script_end (length bytes)
  pub script : IsScript bytes (scan bytes).tokens ss
  pub shallow : All (λ s. nesting s.expr ≤ deepest) ss

abbrev pub MayGoOn : List ℕ → List Token → Type 0
MayGoOn bytes ts = (rest : List Token) × ((ss : List Statement) × IsScript bytes (ts ++ rest) ss)

abbrev pub opens : TokenKind → Bool
opens Open = true
opens OpenList = true
opens _ = false

abbrev pub closes : TokenKind → Bool
closes Close = true
closes CloseList = true
closes _ = false

abbrev pub is_opening : Token → Bool
is_opening t = opens t.kind

abbrev pub is_closing : Token → Bool
is_closing t = closes t.kind

unfoldable pub open_signs : List Token → ℕ
open_signs ts = count_by is_opening ts - count_by is_closing ts

abbrev pub IsTooDeep : List Token → ℕ → Type 0
IsTooDeep ts i = (t : Token) × (slice_get ts i ≡ Some t) × IsTrue (is_opening t) × (deepest ≤ open_signs (take i ts))

-- the first i tokens go on, none of them too deep
pub record GoesOn (bytes : List ℕ) (ts : List Token) (i : ℕ) : Type 0 where
  pub may : MayGoOn bytes (take i ts)
  pub shallow : (j : ℕ) → j < i → ¬ IsTooDeep ts j

pub record Fault : Type 0 where
  pub number : ℕ
  pub offset : ℕ

-- if several faults stand at one offset, 42 comes before 41
pub record IsFaultAtToken (bytes : List ℕ) (ts : List Token) (fault : Fault) (i : ℕ) (t : Token) : Type 0 where
  pub token : slice_get ts i ≡ Some t
  pub stands : fault.offset ≡ t.start
  pub before : GoesOn bytes ts i
  pub refused : (IsTooDeep ts i × (fault.number ≡ 42)) ⊎ (¬ IsTooDeep ts i × ¬ MayGoOn bytes (take (suc i) ts) × (fault.number ≡ 41))

abbrev pub EndsIn : List ℕ → List Token → Ending → Fault → Type 0
EndsIn bytes ts (bad_token offset) fault = (fault.offset ≡ offset) × (fault.number ≡ 40)
EndsIn bytes ts (too_wide offset) fault = (fault.offset ≡ offset) × (fault.number ≡ 43)
EndsIn bytes ts (script_end offset) fault = (fault.offset ≡ offset) × (fault.number ≡ 41) × ((ss : List Statement) → ¬ IsScript bytes ts ss)

abbrev pub IsFault : List ℕ → Fault → Type 0
IsFault bytes fault =
    ((i : ℕ) × ((t : Token) × IsFaultAtToken bytes (scan bytes).tokens fault i t))
    ⊎ (GoesOn bytes (scan bytes).tokens (length (scan bytes).tokens) × EndsIn bytes (scan bytes).tokens (scan bytes).ending fault)

abbrev pub TokenFault : Ending → Fault → Type 0
TokenFault (bad_token offset) fault = (fault.offset ≡ offset) × (fault.number ≡ 40)
TokenFault (too_wide offset) fault = (fault.offset ≡ offset) × (fault.number ≡ 43)
TokenFault (script_end offset) fault = ⊥
