-- The answers of needs, one more at the end.
--   settled_more, words_more      one more need is settled, and its answer has its word
--   answer_word          the answer of a search that fits its code has its word
use Rattle.std.proofs.Common.{◌≡◌, ℕ, Bool, true, false, ◌==◌, ◌&&◌, nat_le, if◌then◌else◌, List, [], ◌∷◌, ◌++◌, Some, None, refl, sym, ap, subst}
use Rattle.lc_algebra.specs.Matrix.{Matrix}
use Rattle.lc_algebra.specs.Divisor.{divisor_of}
use Rattle.lc_enumeration.specs.Search.{Found, Answer, exact, bracket, bound, may_end, finished}
use Rattle.lc_enumeration.specs.Records.{Progress, found_of}
use Rattle.lc_enumeration.specs.Truth.{HasWord}
use Rattle.lc_session_rules.specs.Answers.{Settle, AnswerHasWord, HasWords}

pub settled_more : (budget : ℕ) (needs : List Matrix) (states : List Progress) (answers : List Answer) (C : Matrix) (s : Progress) (a : Answer) → Settle budget needs states answers → finished (divisor_of C) C budget s.blocks (found_of s) ≡ Some a → Settle budget (needs ++ C ∷ []) (states ++ s ∷ []) (answers ++ a ∷ [])
settled_more budget [] [] answers C s a h e = (a, ([], ap (λ (l : List Answer). l ++ a ∷ []) h, e, refl))
settled_more budget [] (t ∷ states) answers C s a h e = absurd h
settled_more budget (D ∷ needs) [] answers C s a h e = absurd h
settled_more budget (D ∷ needs) (t ∷ states) answers C s a (b, (left, split, f, rest)) e =
    (b, (left ++ a ∷ [], ap (λ (l : List Answer). l ++ a ∷ []) split, f, settled_more budget needs states left C s a rest e))

pub words_more : (needs : List Matrix) (answers : List Answer) (C : Matrix) (a : Answer) → HasWords needs answers → AnswerHasWord C a → HasWords (needs ++ C ∷ []) (answers ++ a ∷ [])
words_more [] answers C a h w = subst (λ (l : List Answer). HasWords (C ∷ []) (l ++ a ∷ [])) (sym h) (w, refl)
words_more (D ∷ needs) [] C a h w = absurd h
words_more (D ∷ needs) (b ∷ answers) C a h w = (h.0, words_more needs answers C a h.1 w)

-- what is answered in a state has the state's word
pub answer_word : (d : ℕ) (C : Matrix) (budget l : ℕ) (found : Found) (a : Answer) → finished d C budget l found ≡ Some a → HasWord C found → AnswerHasWord C a
unfolding finished
answer_word d C budget l found a e h = by (may_end C l && nat_le found.weight (bound d C l found.weight)) (l == budget) e
  where
    by : (t u : Bool) → (if t then Some (exact found l) else (if u then Some (bracket (bound d C l found.weight) found l) else None)) ≡ Some a → AnswerHasWord C a
    by true u k = (let same : exact found l ≡ a = (let f = k in cc) in subst (AnswerHasWord C) same h)
    by false true k = (let same : bracket (bound d C l found.weight) found l ≡ a = (let f = k in cc) in subst (AnswerHasWord C) same h)
    by false false k = absurd (let f = k in cc)
