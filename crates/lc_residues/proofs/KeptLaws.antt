-- The code of a period: it is cyclic, it has the word of ones, and residues keep it; other numbers exchange it with the other code.
--   words_of               its words are those of the rows
--   kept_by                a linear map that takes the rows to words of a code takes its words there
--   residue_cyclic, residue_kept, residue_ones, residue_has_word      what it is
--   residue_exchanged      the other code has its words multiplied by a number that is no residue
use Rattle.std.proofs.Common.{◌≡◌, ◌≢◌, ℕ, ◌%◌, ◌<◌, ◌≤◌, ◌↔◌, true, false, List, replicate, All, sym, subst, IsTrue}
use Rattle.lc_algebra.specs.declared.FieldName.{FieldName}
use Rattle.lc_algebra.specs.Matrix.{Matrix}
use Rattle.lc_algebra.specs.Span.{InSpan}
use Rattle.lc_algebra.proofs.SpanLaws.{span_word}
use Rattle.lc_constructions.specs.Code.{InCode, IsCode}
use Rattle.lc_relations.proofs.StructureLaws.{shift_linear}
use Rattle.lc_language.specs.Relations.{IsCyclic, shifted}
use Rattle.lc_language.specs.QuadraticResidues.{is_odd_prime, is_residue, residue_word, residue_rows, InResidueCode, multiplied}
use Rattle.lc_linear_laws.proofs.LinearLaws.{IsLinear}
use Rattle.lc_residues.specs.Periods.{other_period}
use Rattle.lc_residues.proofs.CodeLaws.{residue_words}
use Rattle.lc_residues.proofs.PickLaws.{multiplied_linear, span_kept}
use Rattle.lc_residues.proofs.ShiftLaws.{ones_in, rows_shifted, word_in}
use Rattle.lc_residues.proofs.MultiplierLaws.{rows_kept, rows_exchanged}

pub words_of : (f : FieldName) (n t : ℕ) (C : Matrix) (w : List ℕ) → IsCode f n (InResidueCode f n t) C → InCode C w ↔ InSpan f n (residue_rows f n t) w
words_of f n t C w c = (
  (λ i. ((c.generator.members w).0 (subst (λ m. InSpan f m C.rows w) c.length_is (subst (λ g. InSpan g C.columns C.rows w) c.over i))).1),
  (λ m. subst (λ g. InSpan g C.columns C.rows w) (sym c.over) (subst (λ k. InSpan f k C.rows w) (sym c.length_is) ((c.generator.members w).1 (span_word f n (residue_rows f n t) w (residue_words f n t) m, m)))),
)

pub kept_by : (f : FieldName) (n t u : ℕ) (C D : Matrix) (h : List ℕ → List ℕ) (w : List ℕ) → IsCode f n (InResidueCode f n t) C → IsCode f n (InResidueCode f n u) D → IsLinear f n n h → All (λ row. InSpan f n (residue_rows f n u) (h row)) (residue_rows f n t) → InCode C w → InCode D (h w)
kept_by f n t u C D h w c d a k i =
    (words_of f n u D (h w) d).1 (span_kept f n h (residue_rows f n t) (residue_rows f n u) w a (residue_words f n t) (residue_words f n u) k ((words_of f n t C w c).0 i))

pub residue_cyclic : (f : FieldName) (n t : ℕ) (C : Matrix) → IsCode f n (InResidueCode f n t) C → IsCyclic C
residue_cyclic f n t C c w i = kept_by f n t t C C shifted w c c (shift_linear f n) (rows_shifted f n t) i

pub residue_kept : (f : FieldName) (n t r : ℕ) (C : Matrix) (w : List ℕ) → n ≤ 255 → is_odd_prime n ≡ true → IsTrue (is_residue n r) → IsCode f n (InResidueCode f n t) C → InCode C w → InCode C (multiplied n r w)
residue_kept f n t r C w b h q c i = kept_by f n t t C C (multiplied n r) w c c (multiplied_linear f n r) (rows_kept f n t r b h q) i

pub residue_ones : (f : FieldName) (n t : ℕ) (C : Matrix) → IsCode f n (InResidueCode f n t) C → InCode C (replicate n 1)
residue_ones f n t C c = (words_of f n t C (replicate n 1) c).1 (ones_in f n t)

pub residue_has_word : (f : FieldName) (n t : ℕ) (C : Matrix) → 0 < n → IsCode f n (InResidueCode f n t) C → InCode C (residue_word f n t)
residue_has_word f n t C p c = (words_of f n t C (residue_word f n t) c).1 (word_in f n t p)

pub residue_exchanged : (f : FieldName) (n t r : ℕ) (C D : Matrix) (w : List ℕ) → n ≤ 255 → is_odd_prime n ≡ true → r % n ≢ 0 → is_residue n r ≡ false → IsCode f n (InResidueCode f n t) C → IsCode f n (InResidueCode f n (other_period f t)) D → InCode C w → InCode D (multiplied n r w)
residue_exchanged f n t r C D w b h x q c d i = kept_by f n t (other_period f t) C D (multiplied n r) w c d (multiplied_linear f n r) (rows_exchanged f n t r b h x q) i
