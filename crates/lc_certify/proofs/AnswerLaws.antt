-- The word of an answer.
--   there, fits, weighs           there is a word at its place, a word of the code's length over its field, and not zero
--   line_by                       the line of the certificate with this word is that of the answer
use Rattle.std.proofs.Common.{◌≡◌, ℕ, ◌≤◌, true, List, [], Option, Some, is_some, unwrap_or, sym, ap, subst, ◌∙◌, arith}
use Rattle.lc_algebra.specs.Word.{IsWord}
use Rattle.lc_algebra.specs.Matrix.{Matrix, AreRows}
use Rattle.lc_algebra.proofs.SpanLaws.{span_word}
use Rattle.lc_enumeration.specs.Search.{Found, exact, set_count, word_at}
use Rattle.lc_enumeration.specs.Truth.{HasWord}
use Rattle.lc_formats.specs.Certificate.{Certificate}
use Rattle.lc_language.specs.Query.{QueryKind, word_at_place, certificate_of, certificate_line, certificate_answer_line}

pub there : (C : Matrix) (x : Found) → HasWord C x → is_some (word_at C (set_count C) x.place) ≡ true
there C x h = ap is_some h.word.1

from_some : (o : Option (List ℕ)) (w : List ℕ) → o ≡ Some w → unwrap_or o [] ≡ w
from_some o w e = ap (λ p. unwrap_or p []) e

pub fits : (C : Matrix) (x : Found) (w : List ℕ) → AreRows C.field C.columns C.rows → HasWord C x → word_at C (set_count C) x.place ≡ Some w → IsWord C.field C.columns w
fits C x w rows h e =
    let at : h.word.0 ≡ w = sym (from_some (word_at C (set_count C) x.place) h.word.0 h.word.1) ∙ from_some (word_at C (set_count C) x.place) w e in
    subst (IsWord C.field C.columns) at (span_word C.field C.columns C.rows h.word.0 rows h.word.2)

pub weighs : (C : Matrix) (x : Found) → HasWord C x → 1 ≤ x.weight
weighs C x h = omega (arith, h.nonzero)

pub line_by : (kind : QueryKind) (C : Matrix) (x : Found) (l : ℕ) (w line : List ℕ) (c : Certificate) → word_at C (set_count C) x.place ≡ Some w → c ≡ certificate_of kind C w x.weight l → line ≡ certificate_line c → line ≡ certificate_answer_line kind C (exact x l)
unfolding certificate_answer_line word_at_place
line_by kind C x l w line c e is shown =
    shown ∙ ap certificate_line (is ∙ ap (λ u. certificate_of kind C u x.weight l) (sym (from_some (word_at C (set_count C) x.place) w e)))
