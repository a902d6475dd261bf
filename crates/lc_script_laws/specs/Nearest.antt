-- What a script prints for its queries for nearest words, and when that is true.
--   StatesNearest C x text          the line states a word of the code and its distance from x, and no word of the code is nearer
--   StatesNear C x budget text      the line states two numbers, the blocks of the budget, and a word of the code that is at the greater
--                                   number from x: no word of the code is nearer than the smaller one
--   IsTrueNear C x budget text      one of the two
use Rattle.std.specs.Prelude.{◌≡◌, ℕ, ◌≤◌, ◌⊎◌, List, ◌++◌, codes, decimal}
use Rattle.lc_algebra.specs.Word.{distance}
use Rattle.lc_algebra.specs.Span.{InSpan}
use Rattle.lc_algebra.specs.Matrix.{Matrix}
use Rattle.lc_formats.specs.Text.{line, numbers_text}

pub record StatesNearest (C : Matrix) (x text : List ℕ) : Type 0 where
  pub word : List ℕ
  pub away : ℕ
  pub blocks : ℕ
  pub line_is : text ≡ line (codes "nearest " ++ numbers_text word ++ codes " at " ++ decimal away ++ codes " blocks " ++ decimal blocks)
  pub inside : InSpan C.field C.columns C.rows word
  pub distance_is : distance C.field x word ≡ away
  pub least : (v : List ℕ) → InSpan C.field C.columns C.rows v → away ≤ distance C.field x v

pub record StatesNear (C : Matrix) (x : List ℕ) (budget : ℕ) (text : List ℕ) : Type 0 where
  pub low : ℕ
  pub high : ℕ
  pub word : List ℕ
  pub line_is : text
      ≡ line (codes "nearest between " ++ decimal low ++ codes " and " ++ decimal high ++ codes " word " ++ numbers_text word ++ codes " blocks " ++ decimal budget)
  pub inside : InSpan C.field C.columns C.rows word
  pub distance_is : distance C.field x word ≡ high
  pub at_least : (v : List ℕ) → InSpan C.field C.columns C.rows v → low ≤ distance C.field x v

abbrev pub IsTrueNear : Matrix → List ℕ → ℕ → List ℕ → Type 0
IsTrueNear C x budget text = StatesNearest C x text ⊎ StatesNear C x budget text
