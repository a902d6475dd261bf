-- The dimensions of repetition codes, of the whole space and of null codes.
--   reduced_ones                   the row of ones alone is a reduced matrix
--   constant_generator             and that of a repetition code
--   zero_generator                 no rows are the reduced matrix of a null code
--   repetition_dimension, null_dimension      so these have dimension 1 and 0
--   whole_dimension                and the whole space, the kernel of no rows, has dimension n
use Rattle.std.proofs.Common.{◌≡◌, ℕ, zero, ◌≤◌, [], ◌∷◌, length, slice_index, refl, sym, ap, subst, arith}
use Rattle.lc_algebra.specs.declared.FieldName.{FieldName}
use Rattle.lc_algebra.specs.Word.{IsWord}
use Rattle.lc_algebra.specs.Matrix.{Matrix, entry, AreRows, IsReduced, IsEchelon, IsReducedGenerator, IsOrthogonal}
use Rattle.lc_algebra.proofs.WordLaws.{IsWord_zero, ones_word}
use Rattle.lc_algebra.proofs.SpanLaws.{span_word, same_span_reflexive}
use Rattle.lc_algebra.proofs.ReducedLaws.{generator_unique}
use Rattle.lc_algebra.proofs.CommonLaws.{zero_at}
use Rattle.lc_constructions.specs.Code.{IsCode}
use Rattle.lc_constructions.specs.Basic.{IsConstant, IsAny, IsZero}
use Rattle.lc_matrix.proofs.RankLaws.{rank_of_kernel}
use Rattle.lc_basic.proofs.FamilyLaws.{ones, index_ones, one_row, no_rows, ones_constant, zero_is}

reduced_ones : (n : ℕ) → 1 ≤ n → IsReduced n (ones n ∷ [])
reduced_ones n a = record {
  pivots = (
    0 ∷ [],
    record {
      count = refl;
      inside = λ i l. omega (arith, zero_at i, a);
      rises = λ i j l m. absurd (omega (arith, l, m));
      before = λ i c l m. absurd (omega (arith, zero_at i, m));
      leads = λ i l. let e : 0 ≡ i = omega (arith, l) in subst (λ k. entry (ones n ∷ []) k (slice_index (0 ∷ []) k) ≡ 1) e (index_ones n 0 a);
      clears = λ i j l m d. absurd (d (omega (arith, l, m)));
    },
  );
}

constant_generator : (f : FieldName) (n : ℕ) → 1 ≤ n → IsReducedGenerator f n IsConstant (ones n ∷ [])
constant_generator f n a =
    let r : AreRows f n (ones n ∷ []) = one_row f n (ones n) (ones_word f n) in
    record {
      members = λ w. (
        (λ s. let h : IsWord f n w = span_word f n (ones n ∷ []) w r s in (h, (ones_constant f n w a h).0 s)),
        (λ m. (ones_constant f n w a m.0).1 m.1),
      );
      reduced = reduced_ones n a;
      words = r;
    }

zero_generator : (f : FieldName) (n : ℕ) → IsReducedGenerator f n IsZero []
zero_generator f n = record {
  members = λ w. (
    (λ e. let h : IsWord f n w = subst (IsWord f n) (sym e) (IsWord_zero f n) in (h, (zero_is n w h.long).0 e)),
    (λ m. (zero_is n w m.0.long).1 m.1),
  );
  reduced = record {
    pivots = (
      [],
      record {
        count = refl;
        inside = λ i l. absurd (omega (arith, l));
        rises = λ i j l m. absurd (omega (arith, m));
        before = λ i c l m. absurd (omega (arith, l));
        leads = λ i l. absurd (omega (arith, l));
        clears = λ i j l m d. absurd (omega (arith, l));
      },
    );
  };
  words = no_rows f n [] refl;
}

pub repetition_dimension : (f : FieldName) (n : ℕ) (C : Matrix) → 1 ≤ n → IsCode f n IsConstant C → length C.rows ≡ 1
repetition_dimension f n C a c = ap length (generator_unique f n IsConstant C.rows (ones n ∷ []) c.generator (constant_generator f n a))

pub null_dimension : (f : FieldName) (n : ℕ) (C : Matrix) → IsCode f n IsZero C → length C.rows ≡ 0
null_dimension f n C c = ap length (generator_unique f n IsZero C.rows [] c.generator (zero_generator f n))

pub whole_dimension : (f : FieldName) (n : ℕ) (C : Matrix) → IsCode f n IsAny C → length C.rows ≡ n
whole_dimension f n C c =
    let g = c.generator in
    let zero = zero_generator f n in
    let none : IsEchelon f n [] [] = record { same = same_span_reflexive f n []; reduced = zero.reduced; words = zero.words } in
    let kernel : IsReducedGenerator f n (IsOrthogonal f []) C.rows = record {
      members = λ w. ((λ t. (((g.members w).0 t).0, (λ k d l. absurd (omega (arith, l))))), (λ t. (g.members w).1 (t.0, tt)));
      reduced = g.reduced;
      words = g.words;
    } in
    omega (arith, rank_of_kernel f n [] [] C.rows zero.words none kernel)

pub ruleset dimensions_of_trivial_codes_laws = (repetition_dimension, whole_dimension, null_dimension)
