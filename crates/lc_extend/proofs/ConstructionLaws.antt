-- The codes of construction X.
--   tails_count            there is a row of the tails for each row of the complement
--   extended D B E         the rows of the subcode, followed by zeros, and those of the complement, each followed by a row of the tails
--   joined_sum             a word of the first rows and one of the others
--   extended_words, extended_members, extended_code      the code that these rows generate
use Rattle.std.proofs.Common.{◌≡◌, ℕ, ◌+◌, ◌-◌, ◌↔◌, List, ◌++◌, length, sym, ap, ap₂, subst, ◌∙◌, arith}
use Rattle.lc_algebra.specs.declared.FieldName.{FieldName}
use Rattle.lc_algebra.specs.Word.{IsWord, zero_word, word_sum}
use Rattle.lc_algebra.specs.Span.{combine, InSpan}
use Rattle.lc_algebra.specs.Matrix.{Matrix, AreRows, IsReduced}
use Rattle.lc_algebra.proofs.WordLaws.{zero_sum}
use Rattle.lc_algebra.proofs.SpanLaws.{span_word, combination_of_word, word_of_combination, combine_is_word}
use Rattle.lc_algebra.proofs.ReducedLaws.{generator_unique}
use Rattle.lc_constructions.specs.Code.{IsCode}
use Rattle.lc_constructions.specs.Basic.{GeneratedBy}
use Rattle.lc_constructions.proofs.ClosedLaws.{sum_parts, span_of_both}
use Rattle.lc_language.specs.Relations.{IsSubcode}
use Rattle.lc_language.specs.ConstructionX.{InComplement, InConstructionX}
use Rattle.lc_linear_laws.proofs.LinearLaws.{image_rows, image_span, span_image}
use Rattle.lc_linear_laws.proofs.PartLaws.{span_parted, rows_append, left_linear}
use Rattle.lc_code.specs.Rows.{left_rows}
use Rattle.lc_code.proofs.GeneratedLaws.{generated_by, shaped}
use Rattle.lc_relations.proofs.UnionLaws.{shared, shared_rows}
use Rattle.lc_extend.specs.Rows.{side_rows}
use Rattle.lc_extend.proofs.RowLaws.{side_words, length_side, combine_side}
use Rattle.lc_extend.proofs.ComplementLaws.{complement_dimension}

pub tails_count : (C D E B : Matrix) → C.field ≡ D.field → C.columns ≡ D.columns → AreRows C.field C.columns C.rows → IsReduced C.columns C.rows → AreRows D.field D.columns D.rows → IsReduced D.columns D.rows → IsSubcode D C → length E.rows ≡ length C.rows - length D.rows → IsCode C.field C.columns (InComplement C D) B → length B.rows ≡ length E.rows
tails_count C D E B x y r p s q sub k b = omega (arith, k, complement_dimension C D B x y r p s q sub b)

abbrev pub extended : Matrix → Matrix → Matrix → List (List ℕ)
extended D B E = left_rows E.columns D.rows ++ side_rows B.rows E.rows

over : (f g : FieldName) (n : ℕ) (rows : List (List ℕ)) → f ≡ g → AreRows g n rows → AreRows f n rows
over f g n rows e r = subst (λ x. AreRows x n rows) (sym e) r

extended_rows : (C D E B : Matrix) → C.field ≡ D.field → C.columns ≡ D.columns → C.field ≡ E.field → AreRows D.field D.columns D.rows → AreRows E.field E.columns E.rows → IsCode C.field C.columns (InComplement C D) B → AreRows C.field (C.columns + E.columns) (extended D B E)
extended_rows C D E B x y z s t b =
    let f = C.field in
    let n = C.columns in
    let m = E.columns in
    rows_append f (n + m) (left_rows m D.rows) (side_rows B.rows E.rows) (image_rows f n (n + m) (λ u. u ++ zero_word m) D.rows (left_linear f n m) (shared_rows C D x y s)) (side_words f n m B.rows E.rows b.generator.words (over f E.field m E.rows z t))

pub extended_words : (C D E B : Matrix) (g : FieldName) (k : ℕ) (rows : List (List ℕ)) → C.field ≡ D.field → C.columns ≡ D.columns → C.field ≡ E.field → AreRows D.field D.columns D.rows → AreRows E.field E.columns E.rows → IsCode C.field C.columns (InComplement C D) B → g ≡ C.field → k ≡ C.columns + E.columns → rows ≡ left_rows E.columns D.rows ++ side_rows B.rows E.rows → AreRows g k rows
extended_words C D E B g k rows x y z s t b a l e = shaped C.field g (C.columns + E.columns) k (extended D B E) rows a l e (extended_rows C D E B x y z s t b)

-- a word of the subcode followed by zeros, and a combination of the others
pub joined_sum : (f : FieldName) (n m : ℕ) (d u v : List ℕ) → IsWord f n d → IsWord f n u → IsWord f m v → word_sum f (d ++ zero_word m) (u ++ v) ≡ word_sum f d u ++ v
joined_sum f n m d u v a b c = sum_parts f d u (zero_word m) v (a.long ∙ sym b.long) ∙ ap (λ x. word_sum f d u ++ x) (zero_sum f m v c)

pub extended_members : (C D E B : Matrix) (w : List ℕ) → C.field ≡ D.field → C.columns ≡ D.columns → C.field ≡ E.field → AreRows D.field D.columns D.rows → AreRows E.field E.columns E.rows → IsCode C.field C.columns (InComplement C D) B → length B.rows ≡ length E.rows → InSpan C.field (C.columns + E.columns) (extended D B E) w ↔ InConstructionX C D E w
extended_members C D E B w x y z s t b k =
    let f = C.field in
    let n = C.columns in
    let m = E.columns in
    let left : List ℕ → List ℕ = λ u. u ++ zero_word m in
    let part : AreRows f n D.rows = shared_rows C D x y s in
    let tails : AreRows f m E.rows = over f E.field m E.rows z t in
    let sides : AreRows f (n + m) (side_rows B.rows E.rows) = side_words f n m B.rows E.rows b.generator.words tails in
    let tail_of : (cs : List ℕ) → combine E.field m cs E.rows ≡ combine f m cs E.rows = λ cs. ap (λ g. combine g m cs E.rows) (sym z) in (
      (λ i.
          let (v, (u, a, c, e)) = span_parted f (n + m) (left_rows m D.rows) (side_rows B.rows E.rows) w sides i in
          let (d, in_d, ed) = span_image f n (n + m) left D.rows v (left_linear f n m) part a in
          let (cs, word, ec) = combination_of_word f (n + m) (side_rows B.rows E.rows) u c in
          let message : IsWord E.field (length E.rows) cs = subst (λ g. IsWord g (length E.rows) cs) z (subst (λ j. IsWord f j cs) (length_side B.rows E.rows k) word) in
          let bs = combine f n cs B.rows in
          let es = combine f m cs E.rows in
          let is : w ≡ word_sum f d bs ++ es = e ∙ ap₂ (word_sum f) ed (ec ∙ combine_side f n m cs B.rows E.rows b.generator.words tails k) ∙ joined_sum f n m d bs es (span_word f n D.rows d part in_d) (combine_is_word f n cs B.rows b.generator.words) (combine_is_word f m cs E.rows tails) in
          (B, b, (d, (cs, (shared C D d x y).1 in_d, message, is ∙ ap (λ v. word_sum f d bs ++ v) (sym (tail_of cs)))))),
      (λ (A, a, (d, (cs, in_d, message, e))).
          let same : A.rows ≡ B.rows = generator_unique f n (InComplement C D) A.rows B.rows a.generator b.generator in
          let word : IsWord f (length (side_rows B.rows E.rows)) cs = subst (λ j. IsWord f j cs) (sym (length_side B.rows E.rows k)) (subst (λ g. IsWord g (length E.rows) cs) (sym z) message) in
          let bs = combine f n cs B.rows in
          let es = combine f m cs E.rows in
          let d_in : InSpan f n D.rows d = (shared C D d x y).0 in_d in
          let u = combine f (n + m) cs (side_rows B.rows E.rows) in
          let is : w ≡ word_sum f (left d) u = e ∙ ap₂ (λ (r : List (List ℕ)) (v : List ℕ). word_sum f d (combine f n cs r) ++ v) same (tail_of cs) ∙ sym (joined_sum f n m d bs es (span_word f n D.rows d part d_in) (combine_is_word f n cs B.rows b.generator.words) (combine_is_word f m cs E.rows tails)) ∙ ap (word_sum f (left d)) (sym (combine_side f n m cs B.rows E.rows b.generator.words tails k)) in
          subst (InSpan f (n + m) (extended D B E)) (sym is)
          (span_of_both f (n + m) (left_rows m D.rows) (side_rows B.rows E.rows) (left d) u (image_span f n (n + m) left D.rows d (left_linear f n m) part d_in) (word_of_combination f (n + m) (side_rows B.rows E.rows) cs word) (combine_is_word f (n + m) cs (side_rows B.rows E.rows) sides))),
    )

pub extended_code : (C D E B X : Matrix) (g : FieldName) (k : ℕ) (rows : List (List ℕ)) → C.field ≡ D.field → C.columns ≡ D.columns → C.field ≡ E.field → AreRows D.field D.columns D.rows → AreRows E.field E.columns E.rows → IsCode C.field C.columns (InComplement C D) B → length B.rows ≡ length E.rows → g ≡ C.field → k ≡ C.columns + E.columns → rows ≡ left_rows E.columns D.rows ++ side_rows B.rows E.rows → IsCode g k (GeneratedBy g k rows) X → IsCode C.field (C.columns + E.columns) (InConstructionX C D E) X
extended_code C D E B X g k rows x y z s t b c a l e h =
    generated_by C.field g (C.columns + E.columns) k (extended D B E) rows (InConstructionX C D E) X a l e (λ w _. extended_members C D E B w x y z s t b c) h
