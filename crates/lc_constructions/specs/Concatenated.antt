-- Concatenation of an outer code over q^s elements with an inner code of dimension s over q elements (MacWilliams and Sloane,
-- chapter 10).
--   IsExpansion small large a cs      a is the sum of c_i γ^i in the large field, each c_i an element of the small one; γ is the
--                                     large field's primitive element
--   IsReplaced C D a v                the symbol a of the outer code is replaced by v: the sum of c_i times row i of D
--   IsReplacedWord C D u w            each symbol of u so replaced, one after another
--   InConcatenated C D w              some word of C with each symbol replaced
use Rattle.std.specs.Prelude.{◌≡◌, ℕ, List, [], ◌∷◌, ◌++◌, length, map}
use Rattle.lc_algebra.specs.declared.FieldName.{FieldName}
use Rattle.lc_algebra.specs.Field.{shape_of}
use Rattle.lc_algebra.specs.Polynomial.{value_at}
use Rattle.lc_algebra.specs.Embedding.{embed}
use Rattle.lc_algebra.specs.Word.{IsWord}
use Rattle.lc_algebra.specs.Span.{combine}
use Rattle.lc_algebra.specs.Matrix.{Matrix}
use Rattle.lc_constructions.specs.Code.{InCode}

abbrev pub IsExpansion : FieldName → FieldName → ℕ → List ℕ → Type 0
IsExpansion small large a cs = a ≡ value_at large (map (embed small large) cs) (shape_of large).primitive

abbrev pub IsReplaced : Matrix → Matrix → ℕ → List ℕ → Type 0
IsReplaced C D a v = (cs : List ℕ) × IsWord D.field (length D.rows) cs × IsExpansion D.field C.field a cs × (v ≡ combine D.field D.columns cs D.rows)

abbrev pub IsReplacedWord : Matrix → Matrix → List ℕ → List ℕ → Type 0
IsReplacedWord C D [] w = w ≡ []
IsReplacedWord C D (a ∷ u) w = (v : List ℕ) × ((rest : List ℕ) × IsReplaced C D a v × IsReplacedWord C D u rest × (w ≡ v ++ rest))

abbrev pub InConcatenated : Matrix → Matrix → List ℕ → Type 0
InConcatenated C D w = (u : List ℕ) × InCode C u × IsReplacedWord C D u w
