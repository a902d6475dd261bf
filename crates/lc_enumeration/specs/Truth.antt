-- When an answer of a search is true, and which words are seen after some blocks.
--   IsAtPlace C m place w            w is the word at the place
--   IsFoundBetween C m first count x      x is the weight and the place of a word in the blocks from first on, so many of them
--   IsLeastOf founds x               x is one of them, and none of them beats it
--   HasWord C found                  there is a word at the place; it is a nonzero word of the code and has the weight
--   AnswerHolds C a                  no word: the code has no rows; exact: the weight is the minimum distance; a bracket: the
--                                    minimum distance lies between the lower end and the weight. In both the word is there
--   IsSeenBelow C l w                a nonzero multiple of w is at place 0 or at a place of a block below l
--   answer_blocks a                  the blocks that an answer states
--   IsSettled d C budget s           the search is finished in this state, with its answer
--   AreSettled divisor budget needs states      so it is for each need and its state, and there are as many needs as states
--   IsUnderway d C budget s          the state's word is the best after its blocks, which are no more than the answer's
--   IsUnderwayNext divisor budget needs current      so it is for the first of some needs, if there is a state
--   IsTrueStart divisor needs budget start      the settled needs are settled, and the search of the next need is under way or
--                                    isn't begun
--   start_after step                 where a session starts that goes on after a step
--   IsTrueStep divisor needs budget step        besides, at least one block of it is done, and the record is that of the state
use Rattle.std.specs.Prelude.{◌≡◌, ℕ, ◌+◌, ◌*◌, ◌<◌, ◌≤◌, ◌⊎◌, false, List, [], ◌∷◌, ◌++◌, length, Option, Some, None, Contains, ⊤}
use Rattle.lc_algebra.specs.Field.{size}
use Rattle.lc_algebra.specs.Word.{weight, scale}
use Rattle.lc_algebra.specs.Span.{InSpan, IsDistance}
use Rattle.lc_algebra.specs.Matrix.{Matrix}
use Rattle.lc_enumeration.specs.Search.{Found, Answer, no_word, exact, bracket, set_count, word_at, beats, answer, finished}
use Rattle.lc_enumeration.specs.Records.{Progress, Start, SessionStep, found_of, note_of, IsBestAt}

abbrev pub IsAtPlace : Matrix → ℕ → ℕ → List ℕ → Type 0
IsAtPlace C m place w = word_at C m place ≡ Some w

pub record IsFoundBetween (C : Matrix) (m first count : ℕ) (x : Found) : Type 0 where
  pub from : first * 4096 ≤ x.place
  pub before : x.place < (first + count) * 4096
  pub word : (w : List ℕ) × IsAtPlace C m x.place w × (weight w ≡ x.weight)

pub record IsLeastOf (founds : List Found) (x : Found) : Type 0 where
  pub one : Contains founds x
  pub unbeaten : (y : Found) → Contains founds y → beats y x ≡ false

pub record HasWord (C : Matrix) (found : Found) : Type 0 where
  pub nonzero : 0 < found.weight
  pub word : (w : List ℕ) × IsAtPlace C (set_count C) found.place w × InSpan C.field C.columns C.rows w × (weight w ≡ found.weight)

abbrev pub AnswerHolds : Matrix → Answer → Type 0
AnswerHolds C no_word = C.rows ≡ []
AnswerHolds C (exact found l) = IsDistance C.field C.columns C.rows found.weight × HasWord C found
AnswerHolds C (bracket low found l) = ((d : ℕ) → IsDistance C.field C.columns C.rows d → (low ≤ d) × (d ≤ found.weight)) × HasWord C found

pub record IsSeenBelow (C : Matrix) (l : ℕ) (w : List ℕ) : Type 0 where
  pub multiple : (c place : ℕ) × (0 < c) × (c < size C.field) × ((place ≡ 0) ⊎ (place < l * 4096)) × IsAtPlace C (set_count C) place (scale C.field c w)

unfoldable pub answer_blocks : Answer → ℕ
answer_blocks no_word = 0
answer_blocks (exact found l) = l
answer_blocks (bracket low found l) = l

abbrev pub IsSettled : ℕ → Matrix → ℕ → Progress → Type 0
IsSettled d C budget s = finished d C budget s.blocks (found_of s) ≡ Some (answer d C budget)

abbrev pub AreSettled : (Matrix → ℕ) → ℕ → List Matrix → List Progress → Type 0
AreSettled divisor budget [] [] = ⊤
AreSettled divisor budget (C ∷ needs) (s ∷ states) = IsSettled (divisor C) C budget s × AreSettled divisor budget needs states
AreSettled divisor budget _ _ = ⊥

pub record IsUnderway (d : ℕ) (C : Matrix) (budget : ℕ) (s : Progress) : Type 0 where
  pub best : IsBestAt C s
  pub few : s.blocks ≤ answer_blocks (answer d C budget)

-- no search is under way, or that of the first of these needs is
abbrev pub IsUnderwayNext : (Matrix → ℕ) → ℕ → List Matrix → Option Progress → Type 0
IsUnderwayNext divisor budget needs None = ⊤
IsUnderwayNext divisor budget [] (Some s) = ⊥
IsUnderwayNext divisor budget (C ∷ needs) (Some s) = IsUnderway (divisor C) C budget s

pub record IsTrueStart (divisor : Matrix → ℕ) (needs : List Matrix) (budget : ℕ) (start : Start) : Type 0 where
  pub before : List Matrix
  pub after : List Matrix
  pub split : needs ≡ before ++ after
  pub settled : AreSettled divisor budget before start.settled
  pub current : IsUnderwayNext divisor budget after start.current

unfoldable pub start_after : SessionStep → Start
start_after step = record { settled = step.settled; current = Some step.state }

pub record IsTrueStep (divisor : Matrix → ℕ) (needs : List Matrix) (budget : ℕ) (step : SessionStep) : Type 0 where
  pub before : List Matrix
  pub code : Matrix
  pub after : List Matrix
  pub split : needs ≡ before ++ code ∷ after
  pub settled : AreSettled divisor budget before step.settled
  pub underway : IsUnderway (divisor code) code budget step.state
  pub some : 0 < step.state.blocks
  pub note_is : step.note ≡ note_of (divisor code) code (length before) step.state
