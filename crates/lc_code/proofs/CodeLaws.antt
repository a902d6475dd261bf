-- From the matrices of rows to codes.
--   same_generator, same_code      conditions that agree on the words of a length give the same codes
--   orthogonal_dual                dot 0 with each row is dot 0 with each word
--   kept_code                      what is true of the matrix of a code
--   generated_code, generated_kept      the reduced matrix of some rows
--   checked_code, checked_kept          the reduced matrix of the words that have dot 0 with some rows
--   dual_code, dual_kept                that of the words that have dot 0 with the rows of a code
--   rows_at_most                   a code has at most as many rows as symbols
--   rows_kept                      the same rows again
use Rattle.std.proofs.Common.{◌≡◌, ℕ, ◌≤◌, ◌↔◌, IsTrue, List, length, sym, ap, ◌∙◌, subst}
use Rattle.lc_algebra.specs.declared.FieldName.{FieldName}
use Rattle.lc_algebra.specs.Field.{is_symbol}
use Rattle.lc_algebra.specs.Word.{IsWord}
use Rattle.lc_algebra.specs.Matrix.{Matrix, AreRows, IsReduced, IsEchelon, IsReducedGenerator, IsOrthogonal}
use Rattle.lc_algebra.proofs.SpanLaws.{span_word, span_row, dot_span}
use Rattle.lc_algebra.proofs.ReducedLaws.{reduced_at_most}
use Rattle.lc_constructions.specs.Code.{IsCode, CheckedBy}
use Rattle.lc_constructions.specs.Basic.{GeneratedBy}
use Rattle.lc_constructions.specs.Combined.{InDual}
use Rattle.lc_code.specs.Kept.{IsKept}

pub same_generator : (f : FieldName) (n : ℕ) (P Q : List ℕ → Type 0) (e : List (List ℕ)) → ((w : List ℕ) → IsWord f n w → P w ↔ Q w) → IsReducedGenerator f n P e → IsReducedGenerator f n Q e
same_generator f n P Q e h g = record {
  members = λ w. (
    (λ s. let m = (g.members w).0 s in (m.0, (h w m.0).0 m.1)),
    (λ m. (g.members w).1 (m.0, (h w m.0).1 m.1)),
  );
  reduced = g.reduced;
  words = g.words;
}

pub same_code : (f : FieldName) (n : ℕ) (P Q : List ℕ → Type 0) (C : Matrix) → ((w : List ℕ) → IsWord f n w → P w ↔ Q w) → IsCode f n P C → IsCode f n Q C
same_code f n P Q C h c = record { over = c.over; length_is = c.length_is; generator = same_generator f n P Q C.rows h c.generator }

pub orthogonal_dual : (C : Matrix) (w : List ℕ) → AreRows C.field C.columns C.rows → IsOrthogonal C.field C.rows w ↔ InDual C w
orthogonal_dual C w r = (
  (λ o v s. dot_span C.field C.columns C.rows w v r o s),
  (λ h k d l. h _ (span_row C.field C.columns C.rows r k d l)),
)

pub kept_code : (f : FieldName) (n : ℕ) (P : List ℕ → Type 0) (C : Matrix) → IsTrue (is_symbol f) → 1 ≤ n → n ≤ 255 → IsCode f n P C → IsKept C
kept_code f n P C s l m c = record {
  symbol = subst (λ g. IsTrue (is_symbol g)) (sym c.over) s;
  least = subst (λ k. 1 ≤ k) (sym c.length_is) l;
  most = subst (λ k. k ≤ 255) (sym c.length_is) m;
  reduced = subst (λ k. IsReduced k C.rows) (sym c.length_is) c.generator.reduced;
  words = subst (λ g. AreRows g C.columns C.rows) (sym c.over) (subst (λ k. AreRows f k C.rows) (sym c.length_is) c.generator.words);
}

generated : (f : FieldName) (n : ℕ) (rows e : List (List ℕ)) → IsEchelon f n rows e → IsReducedGenerator f n (GeneratedBy f n rows) e
generated f n rows e h = record {
  members = λ w. (
    (λ s. (span_word f n e w h.words s, (h.same w).1 s)),
    (λ m. (h.same w).0 m.1),
  );
  reduced = h.reduced;
  words = h.words;
}

pub generated_code : (f : FieldName) (n : ℕ) (rows : List (List ℕ)) (m e : Matrix) → m.field ≡ f → m.columns ≡ n → m.rows ≡ rows → e.field ≡ m.field → e.columns ≡ m.columns → IsEchelon m.field m.columns m.rows e.rows → IsCode f n (GeneratedBy f n rows) e
generated_code f n rows m e a b c x y h = record {
  over = x ∙ a;
  length_is = y ∙ b;
  generator = generated f n rows e.rows (subst (λ r. IsEchelon f n r e.rows) c (subst (λ k. IsEchelon f k m.rows e.rows) b (subst (λ g. IsEchelon g m.columns m.rows e.rows) a h)));
}

pub generated_kept : (f : FieldName) (n : ℕ) (rows : List (List ℕ)) (m e : Matrix) → IsTrue (is_symbol f) → 1 ≤ n → n ≤ 255 → m.field ≡ f → m.columns ≡ n → m.rows ≡ rows → e.field ≡ m.field → e.columns ≡ m.columns → IsEchelon m.field m.columns m.rows e.rows → IsKept e
generated_kept f n rows m e s l k a b c x y h = kept_code f n (GeneratedBy f n rows) e s l k (generated_code f n rows m e a b c x y h)

pub checked_code : (f : FieldName) (n : ℕ) (rows : List (List ℕ)) (m e : Matrix) → m.field ≡ f → m.columns ≡ n → m.rows ≡ rows → e.field ≡ m.field → e.columns ≡ m.columns → IsReducedGenerator m.field m.columns (IsOrthogonal m.field m.rows) e.rows → IsCode f n (CheckedBy f rows) e
checked_code f n rows m e a b c x y h = record {
  over = x ∙ a;
  length_is = y ∙ b;
  generator = subst (λ r. IsReducedGenerator f n (IsOrthogonal f r) e.rows) c (subst (λ k. IsReducedGenerator f k (IsOrthogonal f m.rows) e.rows) b (subst (λ g. IsReducedGenerator g m.columns (IsOrthogonal g m.rows) e.rows) a h));
}

pub checked_kept : (f : FieldName) (n : ℕ) (rows : List (List ℕ)) (m e : Matrix) → IsTrue (is_symbol f) → 1 ≤ n → n ≤ 255 → m.field ≡ f → m.columns ≡ n → m.rows ≡ rows → e.field ≡ m.field → e.columns ≡ m.columns → IsReducedGenerator m.field m.columns (IsOrthogonal m.field m.rows) e.rows → IsKept e
checked_kept f n rows m e s l k a b c x y h = kept_code f n (CheckedBy f rows) e s l k (checked_code f n rows m e a b c x y h)

pub dual_code : (C e : Matrix) → IsKept C → e.field ≡ C.field → e.columns ≡ C.columns → IsReducedGenerator C.field C.columns (IsOrthogonal C.field C.rows) e.rows → IsCode C.field C.columns (InDual C) e
dual_code C e k x y h = record {
  over = x;
  length_is = y;
  generator = same_generator C.field C.columns (IsOrthogonal C.field C.rows) (InDual C) e.rows (λ w _. orthogonal_dual C w k.words) h;
}

pub dual_kept : (C e : Matrix) → IsKept C → e.field ≡ C.field → e.columns ≡ C.columns → IsReducedGenerator C.field C.columns (IsOrthogonal C.field C.rows) e.rows → IsKept e
dual_kept C e k x y h = kept_code C.field C.columns (InDual C) e k.symbol k.least k.most (dual_code C e k x y h)

pub rows_at_most : (C : Matrix) → IsKept C → length C.rows ≤ C.columns
rows_at_most C k = reduced_at_most C.columns C.rows k.reduced

matrix_of : FieldName → ℕ → List (List ℕ) → Matrix
matrix_of f n rows = record { field = f; columns = n; rows = rows }

pub same_matrix : (C e : Matrix) → e.field ≡ C.field → e.columns ≡ C.columns → e.rows ≡ C.rows → e ≡ C
unfolding matrix_of
same_matrix C e a b c =
    ap (λ f. matrix_of f e.columns e.rows) a ∙ ap (λ n. matrix_of C.field n e.rows) b ∙ ap (λ r. matrix_of C.field C.columns r) c

pub rows_kept : (C e : Matrix) → IsKept C → e.field ≡ C.field → e.columns ≡ C.columns → e.rows ≡ C.rows → IsKept e
rows_kept C e k a b c = subst IsKept (sym (same_matrix C e a b c)) k

pub ruleset from_rows_laws = (generated_kept, generated_code)

pub ruleset from_checks_laws = (checked_kept, checked_code)
