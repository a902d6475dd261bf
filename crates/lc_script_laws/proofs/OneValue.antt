-- Codes, words and answers that are determined by what is said of them.
--   code_one, made_one       a reduced generator matrix by its words, and so a code's value
--   extended_golay_one, bch_one, reed_solomon_one      so are the values of these codes
--   least_one                the first nonzero word of some rows
--   prints_least_one         what is printed of it
--   prints_filling_one       what is printed of a word with erasures
--   asks_one, nears_one      what a query does that a search answers
--   decoded_by_form          what a decoder answers
--   same_truth, truth_one    the truth value of a fact
--   message_one              the message of a codeword
use Rattle.std.proofs.Common.{◌≡◌, ℕ, ◌+◌, ◌%◌, ◌↔◌, Bool, true, false, List, None, Some, Option, refl, sym, ap, ap₂, subst, ◌∙◌, ⊎_elim, inl, inr, arith}
use Rattle.std.specs.Prelude.{IsTrue}
use Rattle.lc_algebra.specs.declared.FieldName.{FieldName}
use Rattle.lc_algebra.specs.Word.{weight}
use Rattle.lc_algebra.specs.Span.{InSpan, IsLeast}
use Rattle.lc_algebra.specs.Matrix.{Matrix}
use Rattle.lc_algebra.proofs.EmbeddingTests.{told_by_size}
use Rattle.lc_algebra.proofs.WordLaws.{no_later_antisymmetric}
use Rattle.lc_algebra.proofs.ReducedLaws.{generator_unique}
use Rattle.lc_algebra.proofs.SpanLaws.{span_lengths}
use Rattle.lc_constructions.specs.Code.{IsCode}
use Rattle.lc_constructions.specs.Cyclic.{IsMultipleOf, locator_field, IsBchWord, IsReedSolomonWord}
use Rattle.lc_constructions.specs.Alternant.{AlternantForm, bch_form}
use Rattle.lc_constructions.specs.Combined.{InExtended}
use Rattle.lc_language.specs.Value.{code, truth}
use Rattle.lc_language.specs.Relations.{IsMessageOf}
use Rattle.lc_constructions.specs.Refusals.{columns_of}
use Rattle.lc_language.specs.Meaning.{IsCodeValue, Made, MadeWith, IsExtendedGolay, IsBch, IsReedSolomon, decoded}
use Rattle.lc_language.specs.Print.{value_line, least_line, least_none_line, filling_line}
use Rattle.lc_language.specs.Erasures.{Filling, filled, unfilled, ambiguous, IsFilling}
use Rattle.lc_constructions.specs.Nearest.{IsDecoded}
use Rattle.lc_constructions.proofs.NearestLaws.{decoded_once}
use Rattle.lc_language.specs.Query.{QueryKind}
use Rattle.lc_language.specs.Evaluation.{Step, prints, PrintsLeast, AsksOf, NearsOf, Queries}
use Rattle.lc_script_laws.proofs.AtMostOne.{One, one_value, one_some}
use Rattle.lc_language.specs.Calls.{algebraic_decode, fill_erasures}
use Rattle.lc_session_rules.proofs.ScriptTruth.{some_same}

-- ---- codes

abbrev matrix : FieldName → ℕ → List (List ℕ) → Matrix
matrix f n rows = record { field = f; columns = n; rows = rows }

pub code_one : (f : FieldName) (n : ℕ) (P : List ℕ → Type 0) → One (IsCode f n P)
code_one f n P = λ C D p q.
    let over : C.field ≡ D.field = p.over ∙ sym q.over in
    let long : C.columns ≡ D.columns = p.length_is ∙ sym q.length_is in
    let rows : C.rows ≡ D.rows = generator_unique f n P C.rows D.rows p.generator q.generator in
    ap (λ (g : FieldName). matrix g C.columns C.rows) over ∙ ap₂ (λ (m : ℕ) (e : List (List ℕ)). matrix D.field m e) long rows

pub made_one : (f : FieldName) (n : ℕ) (P : List ℕ → Type 0) (form : Option AlternantForm) → One (IsCodeValue f n P form)
made_one f n P form = λ v w a b. one_some (IsCode f n P) (λ C u. u ≡ code C form) (code_one f n P) (λ C. one_value (code C form)) v w a.code_is b.code_is

-- ---- the first nonzero word

pub least_one : (f : FieldName) (n : ℕ) (rows : List (List ℕ)) → One (IsLeast f n rows)
least_one f n rows = λ u v p q. no_later_antisymmetric u v (span_lengths f n rows u v p.inside q.inside) (p.first v q.inside q.nonzero) (q.first u p.inside p.nonzero)

pub prints_least_one : (rows : List (List ℕ)) (f : FieldName) → One (PrintsLeast rows f)
prints_least_one rows f = λ s t h k.
    let n = columns_of rows in
    let Found : Step → Type 0 = λ x. (w : List ℕ) × IsLeast f n rows w × (x ≡ prints (least_line (weight w) w)) in
    let Missed : Step → Type 0 = λ x. ((w : List ℕ) → InSpan f n rows w → weight w ≡ 0) × (x ≡ prints least_none_line) in
    ⊎_elim
    (λ (a : Found s). ⊎_elim
    (λ (b : Found t). one_some (IsLeast f n rows) (λ w x. x ≡ prints (least_line (weight w) w)) (least_one f n rows) (λ w. one_value (prints (least_line (weight w) w))) s t a b)
    (λ (b : Missed t). absurd (omega (arith, a.1.nonzero, b.0 a.0 a.1.inside)))
    k)
    (λ (a : Missed s). ⊎_elim
    (λ (b : Found t). absurd (omega (arith, b.1.nonzero, a.0 b.0 b.1.inside)))
    (λ (b : Missed t). a.1 ∙ sym b.1)
    k)
    h

-- ---- values of calls

pub same_truth : (a b : Bool) (P : Type 0) → IsTrue a ↔ P → IsTrue b ↔ P → a ≡ b
same_truth true true P h k = refl
same_truth true false P h k = sym (k.1 (h.0 refl))
same_truth false true P h k = h.1 (k.0 refl)
same_truth false false P h k = refl

pub truth_one : (P : Type 0) → One (λ v. (b : Bool) × (v ≡ truth b) × (IsTrue b ↔ P))
truth_one P = λ v w a b. a.1 ∙ ap (λ (t : Bool). truth t) (same_truth a.0 b.0 P a.2 b.2) ∙ sym b.1

pub message_one : (C : Matrix) (x : List ℕ) → One (IsMessageOf C x)
message_one C x = λ u v p q. sym (p.only v q.word q.encoded)

pub extended_golay_one : (f : FieldName) (n : ℕ) (g : List ℕ) → One (IsExtendedGolay f n g)
extended_golay_one f n g = one_some (IsCode f n (IsMultipleOf f n g)) (λ C v. Made f (n + 1) (InExtended C) v) (code_one f n (IsMultipleOf f n g)) (λ C. made_one f (n + 1) (InExtended C) None)

pub bch_one : (n b d : ℕ) (f : FieldName) → One (IsBch f n b d)
bch_one n b d f = one_some (λ K. locator_field f n ≡ Some K) (λ K v. MadeWith f n (IsBchWord f K n (b % n) d) (bch_form K n (b % n) d) v) (λ K L h k. some_same (sym h ∙ k)) (λ K. made_one f n (IsBchWord f K n (b % n) d) (Some (bch_form K n (b % n) d)))

pub reed_solomon_one : (n d : ℕ) → One (IsReedSolomon n d)
reed_solomon_one n d = λ v w a b.
    let same : a.0 ≡ b.0 = told_by_size a.0 b.0 (a.1 ∙ sym b.1) in
    made_one b.0 n (IsReedSolomonWord b.0 d) (Some (bch_form b.0 n 1 d)) v w (subst (λ f. MadeWith f n (IsReedSolomonWord f d) (bch_form f n 1 d) v) same a.3) b.3

-- ---- answers of queries

pub asks_one : (kind : QueryKind) (C : Matrix) → One (AsksOf kind C)
asks_one kind C s t (inl a) (inl b) = a.1 ∙ sym b.1
asks_one kind C s t (inl a) (inr b) = absurd (omega (arith, a.0, b.0))
asks_one kind C s t (inr a) (inl b) = absurd (omega (arith, a.0, b.0))
asks_one kind C s t (inr a) (inr b) = a.1 ∙ sym b.1

pub nears_one : (C : Matrix) (x : List ℕ) → One (NearsOf C x)
nears_one C x s t (inl a) (inl b) = a.1 ∙ sym b.1
nears_one C x s t (inl a) (inr b) = absurd (omega (arith, a.0, b.0))
nears_one C x s t (inr a) (inl b) = absurd (omega (arith, a.0, b.0))
nears_one C x s t (inr a) (inr b) = a.1 ∙ sym b.1

pub decoded_by_form : (C : Matrix) (x : List ℕ) (form : Option AlternantForm) → One (Queries (algebraic_decode C form x))
decoded_by_form C x None = λ s t h k. absurd h
decoded_by_form C x (Some form) = one_some (IsDecoded C form x) (λ o s. s ≡ prints (value_line (decoded o))) (decoded_once C form x) (λ o. one_value (prints (value_line (decoded o))))

filling_one : (C : Matrix) (x erased : List ℕ) → One (IsFilling C x erased)
filling_one C x erased (filled v) (filled w) p q = ap (λ (u : List ℕ). filled u) (q.1 v p.0)
filling_one C x erased (filled v) unfilled p q = absurd (q v p.0)
filling_one C x erased (filled v) ambiguous p (a, (b, f, g, n)) = absurd (n (p.1 a f ∙ sym (p.1 b g)))
filling_one C x erased unfilled (filled w) p q = absurd (p w q.0)
filling_one C x erased unfilled unfilled p q = refl
filling_one C x erased unfilled ambiguous p (a, (b, f, g, n)) = absurd (p a f)
filling_one C x erased ambiguous (filled w) (a, (b, f, g, n)) q = absurd (n (q.1 a f ∙ sym (q.1 b g)))
filling_one C x erased ambiguous unfilled (a, (b, f, g, n)) q = absurd (q a f)
filling_one C x erased ambiguous ambiguous p q = refl

pub prints_filling_one : (C : Matrix) (x erased : List ℕ) → One (Queries (fill_erasures C x erased))
prints_filling_one C x erased = one_some (IsFilling C x erased) (λ a s. s ≡ prints (filling_line a)) (filling_one C x erased) (λ a. one_value (prints (filling_line a)))
