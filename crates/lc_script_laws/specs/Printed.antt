-- What a script prints of its searches, of the words that it counts and for nearest words, and when that is true.
--   Piece, piece_text budget p       a piece of a text: a plain one, what a query on a code prints under the budget, the weight
--                                    distribution of a code, or what a query for a nearest word prints under the budget
--   pieces_text budget pieces        the text of some pieces, one after another
--   codes_in pieces, counted_in pieces      the codes of the queries among them; those of the distributions
--   nears_in pieces                  the codes and words of the queries for nearest words
--   StatesDistance C text            the line states the minimum distance of the code and a word of the code that has this weight
--   StatesBracket C budget text      the line states two numbers between which the minimum distance lies, and a word of the code that has
--                                    the greater weight
--   SaysBetween C text               the line says that there is no certificate, and two numbers between which the minimum distance lies
--   SaysDear text                    the line says that there is none, since it costs a checker more than 2^32 words or is longer than
--                                    2^20 bytes, and how much
--   StatesDistribution C text        the line states for each weight from 0 to the length how many words of the code have it: these
--                                    numbers are q^k together
--   IsTrueLine kind C budget text    the line of a query is true: a distance or a bracket; or a certificate that is accepted for the
--                                    code, a bracket, or a cost or a length
--   IsTruePiece budget p             so is a piece that is the line of a query, a distribution or a nearest word
use Rattle.std.specs.Prelude.{◌≡◌, ℕ, ◌+◌, ◌^◌, ◌<◌, ◌≤◌, ◌⊎◌, List, [], ◌∷◌, ◌++◌, length, slice_index, sum, codes, decimal, ⊤}
use Rattle.lc_algebra.specs.Field.{size}
use Rattle.lc_algebra.specs.Word.{weight}
use Rattle.lc_algebra.specs.Span.{InSpan, IsDistance}
use Rattle.lc_algebra.specs.Matrix.{Matrix}
use Rattle.lc_formats.specs.Text.{line, numbers_text}
use Rattle.lc_language.specs.Print.{distance_line, bracket_line}
use Rattle.lc_language.specs.Query.{QueryKind, distance, by_levels, by_scan, no_certificate_line, query_line, distribution_line, near_line}
use Rattle.lc_session_rules.specs.Nears.{NearQuery}
use Rattle.lc_certify.specs.Accepted.{IsAcceptedFor}
use Rattle.lc_script_laws.specs.Counted.{HasWordsOfWeight}
use Rattle.lc_script_laws.specs.Nearest.{IsTrueNear}

pub data Piece : Type 0 where
  plain : List ℕ → Piece
  asked : QueryKind → Matrix → Piece
  counted : Matrix → Piece
  nearest : Matrix → List ℕ → Piece

abbrev pub piece_text : ℕ → Piece → List ℕ
piece_text budget (plain text) = text
piece_text budget (asked kind C) = query_line kind C budget
piece_text budget (counted C) = distribution_line C
piece_text budget (nearest C x) = near_line C x budget

abbrev pub pieces_text : ℕ → List Piece → List ℕ
pieces_text budget [] = []
pieces_text budget (p ∷ pieces) = piece_text budget p ++ pieces_text budget pieces

abbrev pub codes_in : List Piece → List Matrix
codes_in [] = []
codes_in (plain text ∷ pieces) = codes_in pieces
codes_in (asked kind C ∷ pieces) = C ∷ codes_in pieces
codes_in (counted C ∷ pieces) = codes_in pieces
codes_in (nearest C x ∷ pieces) = codes_in pieces

abbrev pub counted_in : List Piece → List Matrix
counted_in [] = []
counted_in (plain text ∷ pieces) = counted_in pieces
counted_in (asked kind C ∷ pieces) = counted_in pieces
counted_in (counted C ∷ pieces) = C ∷ counted_in pieces
counted_in (nearest C x ∷ pieces) = counted_in pieces

abbrev pub nears_in : List Piece → List NearQuery
nears_in [] = []
nears_in (plain text ∷ pieces) = nears_in pieces
nears_in (asked kind C ∷ pieces) = nears_in pieces
nears_in (counted C ∷ pieces) = nears_in pieces
nears_in (nearest C x ∷ pieces) = record { code = C; word = x } ∷ nears_in pieces

pub record StatesDistance (C : Matrix) (text : List ℕ) : Type 0 where
  pub distance : ℕ
  pub word : List ℕ
  pub blocks : ℕ
  pub line_is : text ≡ distance_line distance word blocks
  pub least : IsDistance C.field C.columns C.rows distance
  pub inside : InSpan C.field C.columns C.rows word
  pub weighs : weight word ≡ distance

pub record StatesBracket (C : Matrix) (budget : ℕ) (text : List ℕ) : Type 0 where
  pub low : ℕ
  pub high : ℕ
  pub word : List ℕ
  pub line_is : text ≡ bracket_line low high word budget
  pub between : (d : ℕ) → IsDistance C.field C.columns C.rows d → (low ≤ d) × (d ≤ high)
  pub inside : InSpan C.field C.columns C.rows word
  pub nonzero : 0 < high
  pub weighs : weight word ≡ high

pub record SaysBetween (C : Matrix) (text : List ℕ) : Type 0 where
  pub low : ℕ
  pub high : ℕ
  pub line_is : text ≡ line (codes "certificate none between " ++ decimal low ++ codes " and " ++ decimal high)
  pub between : (d : ℕ) → IsDistance C.field C.columns C.rows d → (low ≤ d) × (d ≤ high)

pub record SaysDear (text : List ℕ) : Type 0 where
  pub why : List ℕ
  pub number : ℕ
  pub why_is : ((why ≡ codes "cost") × (2 ^ 32 < number)) ⊎ ((why ≡ codes "length") × (2 ^ 20 < number))
  pub line_is : text ≡ no_certificate_line why number

pub record StatesDistribution (C : Matrix) (text : List ℕ) : Type 0 where
  pub numbers : List ℕ
  pub line_is : text ≡ line (numbers_text numbers)
  pub long : length numbers ≡ C.columns + 1
  pub each : (j : ℕ) → j ≤ C.columns → HasWordsOfWeight C j (slice_index numbers j)
  pub whole : sum numbers ≡ size C.field ^ length C.rows

abbrev pub IsTrueLine : QueryKind → Matrix → ℕ → List ℕ → Type 0
IsTrueLine distance C budget text = StatesDistance C text ⊎ StatesBracket C budget text
IsTrueLine by_levels C budget text = IsAcceptedFor C text ⊎ (SaysBetween C text ⊎ SaysDear text)
IsTrueLine by_scan C budget text = IsAcceptedFor C text ⊎ (SaysBetween C text ⊎ SaysDear text)

abbrev pub IsTruePiece : ℕ → Piece → Type 0
IsTruePiece budget (plain text) = ⊤
IsTruePiece budget (asked kind C) = IsTrueLine kind C budget (query_line kind C budget)
IsTruePiece budget (counted C) = StatesDistribution C (distribution_line C)
IsTruePiece budget (nearest C x) = IsTrueNear C x budget (near_line C x budget)
