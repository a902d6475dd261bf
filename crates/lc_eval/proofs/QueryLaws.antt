-- What the query for a least word answers is what the definitions say.
--   first_stays, first_behind     of lc_language
--   fails_so                     a fault of a call is that of the statement
--   words_next, words_many, words_few      whether there are too many words
--   least_refused                a matrix that is refused
--   least_many                   too many words
--   least_told                   the line
--   distance_none, levels_none, scan_none      what is printed of a code of dimension 0
--   asks_distance, asks_levels, asks_scan      these queries are never refused
--   distribution_refused, distribution_asked   a weight distribution that isn't computed, and one that is
use Rattle.std.proofs.Common.{◌≡◌, ℕ, ◌+◌, ◌*◌, ◌^◌, ◌<◌, ◌≤◌, ◌↔◌, inl, inr, Bool, true, false, nat_lt, List, [], ◌∷◌, ◌++◌, length, map, Vec, Global, Option, Some, None, is_some, Ok, Err, MatchOption, option_map, codes, Result, refl, sym, ap, subst, ◌∙◌, true≢false, arith}
use Rattle.std.proofs.Math.Nat.{pow-le-pow_right}
use Rattle.std.proofs.lemmas.List.{length-map}
use Rattle.std.proofs.lemmas.Bool.Decides.{nat_tests, Decides-ltb}
use Rattle.std.proofs.lemmas.Grind.{pow_more}
use Rattle.lc_algebra.specs.declared.FieldName.{FieldName}
use Rattle.lc_algebra.specs.Field.{size}
use Rattle.lc_algebra.specs.Span.{InSpan}
use Rattle.lc_algebra.specs.Matrix.{Matrix, AreRows}
use Rattle.lc_algebra.proofs.SpanLaws.{span_word}
use Rattle.lc_enumeration.specs.Search.{answer}
use Rattle.lc_enumeration.specs.Distribution.{NoDistribution, distribution_refusal}
use Rattle.lc_constructions.specs.Code.{IsCode}
use Rattle.lc_constructions.specs.Basic.{GeneratedBy}
use Rattle.lc_constructions.specs.declared.refusal.CodeRefusal.{CodeRefusal}
use Rattle.lc_constructions.specs.Refusal.{first_refusal, IsRefusedAs}
use Rattle.lc_constructions.specs.Refusals.{columns_of, matrix_refusals}
use Rattle.lc_language.specs.Calls.{least_word, minimum_distance, certificate, scan_certificate, weight_distribution, query_refusals_of, query_refusal_of}
use Rattle.lc_language.specs.Refusal.{Refusal, refuse, when, first_of, refusal_from, from_codes, no_distribution}
use Rattle.lc_language.specs.Print.{distance_none_line}
use Rattle.lc_algebra.specs.Divisor.{divisor_of}
use Rattle.lc_formats.specs.Text.{line}
use Rattle.lc_language.specs.Query.{QueryKind, distance, by_levels, by_scan, query_line, distance_answer_line, certificate_answer_line}
use Rattle.lc_language.specs.Evaluation.{refused, refuse_at, refuse_call, Step, prints, counts, fails, fail_with, PrintsLeast, AsksOf, QueriesTo}
use Rattle.lc_macwilliams.specs.Refused.{refused_sizes}
use Rattle.lc_macwilliams.specs.declared.refusals.DistributionRefusal.{DistributionRefusal}
use Rattle.lc_eval.specs.declared.statement.Effect.{Effect}
use Rattle.lc_calls.specs.declared.refusals.Refused.{Refused}
use Rattle.lc_calls.specs.declared.refusals.Stop.{Stop}
use Rattle.lc_calls.specs.declared.refusals.Stop.TheVariants as stop
use Rattle.lc_calls.specs.Value.{rows_of, refused_of}
use Rattle.lc_eval.specs.Evaluated.{AffectsOrFails}
use Rattle.lc_calls.specs.Made.{IsMade}
use Rattle.lc_eval.specs.Rows.{clamped, clamped_rows}
use Rattle.lc_eval.specs.Least.{IsLeastLine}
pub use Rattle.lc_language.proofs.RefusalLaws.{first_stays, first_behind}
use Rattle.lc_language.proofs.RefusalLaws.{first_from_codes}
use Rattle.lc_eval.proofs.RowLaws.{clamped_each, columns_same, clamped_refusals, fine_same, fine_rows}

-- ---- how many words

pub words_next : (q i words new : ℕ) → words ≡ q ^ i → new ≡ words * q → new ≡ q ^ (i + 1)
words_next q i words new e n = n ∙ ap (λ m. m * q) e ∙ sym (pow_more q i)

pub words_many : (s q i k words : ℕ) → q ≡ s → 1 < q → i < k → words ≡ s ^ i → 65536 < words * q → true ≡ nat_lt (2 ^ 16) (s ^ k)
words_many s q i k words p l h e m =
    let n : s ^ (i + 1) ≤ s ^ k = pow-le-pow_right (omega (arith, p, l)) (omega (arith, h)) in
    let o : words * q ≡ s ^ (i + 1) = words_next s i words (words * q) e (ap (λ x. words * x) p) in
    let t : 65536 < s ^ k = omega (arith, m, o, n) in
    sym ((Decides-ltb 65536 (s ^ k)).1 t)

pub words_few : (q i k words : ℕ) → i ≡ k → words ≡ q ^ i → words ≤ 65536 → false ≡ nat_lt (2 ^ 16) (q ^ k)
words_few q i k words h e m =
    let n : q ^ k ≤ 65536 = subst (λ j. q ^ j ≤ 65536) h (omega (arith, e, m)) in
    grind (arith, nat_tests, n)

-- ---- the refusals

matrix_first : (rows : List (List ℕ)) (f : FieldName) (r : Refusal) → first_of (from_codes (matrix_refusals f rows)) ≡ Some r → query_refusal_of (least_word rows f) ≡ Some r
unfolding query_refusal_of query_refusals_of
matrix_first rows f r h = first_stays (from_codes (matrix_refusals f rows)) _ r h

when_passes : (b : Bool) (r : Refusal) → b ≡ true → first_of (when b r ∷ []) ≡ Some r
unfolding first_of when
when_passes b r e = rw e refl

when_fails : (b : Bool) (r : Refusal) → b ≡ false → first_of (when b r ∷ []) ≡ None
unfolding first_of when
when_fails b r e = rw e refl

matrix_many : (rows : List (List ℕ)) (f : FieldName) → first_of (from_codes (matrix_refusals f rows)) ≡ None → nat_lt (2 ^ 16) (size f ^ length rows) ≡ true → query_refusal_of (least_word rows f) ≡ Some (refuse 16 [])
unfolding query_refusal_of query_refusals_of
matrix_many rows f h t = first_behind (from_codes (matrix_refusals f rows)) _ h ∙ when_passes (nat_lt (2 ^ 16) (size f ^ length rows)) (refuse 16 []) t

matrix_few : (rows : List (List ℕ)) (f : FieldName) → first_of (from_codes (matrix_refusals f rows)) ≡ None → nat_lt (2 ^ 16) (size f ^ length rows) ≡ false → query_refusal_of (least_word rows f) ≡ None
unfolding query_refusal_of query_refusals_of
matrix_few rows f h t = first_behind (from_codes (matrix_refusals f rows)) _ h ∙ when_fails (nat_lt (2 ^ 16) (size f ^ length rows)) (refuse 16 []) t

-- ---- the statement

abbrev Querying : ℕ → List (List ℕ) → FieldName → Option Refusal → Step → Type 0
Querying offset rows f r step = MatchOption r (PrintsLeast rows f step) (λ r. step ≡ fail_with (refuse_call offset r))

querying : (offset : ℕ) (rows : List (List ℕ)) (f : FieldName) (r : Option Refusal) (step : Step) → query_refusal_of (least_word rows f) ≡ r → Querying offset rows f r step → QueriesTo offset (least_word rows f) step
querying offset rows f r step e h = subst (λ t. Querying offset rows f t step) (sym e) h

pub fails_so : (offset : ℕ) (r : Refused) (refusal : Refusal) → refused (refused_of r) ≡ refuse_call offset refusal → fails (refused_of r) ≡ fail_with (refuse_call offset refusal)
unfolding fail_with
fails_so offset r refusal h = ap fail_with h

pub least_refused : (offset : ℕ) (rows : List (Vec ℕ Global)) (f : FieldName) (words : List (List ℕ)) (e : CodeRefusal) (s : Stop)
    → words ≡ map (λ row. clamped row.items) rows
    → IsRefusedAs {T = Matrix} (Err e) (first_refusal (matrix_refusals f words)) → IsMade (Err e) offset (Err s) → AffectsOrFails (Err s) (QueriesTo offset (least_word (rows_of rows) f))
least_refused offset rows f words e (stop.Refused r) w h m =
    let given : List (List ℕ) = rows_of rows in
    let c : words ≡ clamped_rows given = w ∙ clamped_each rows in
    let o : first_refusal (matrix_refusals f (clamped_rows given)) ≡ Some e = subst (λ u. first_refusal (matrix_refusals f u) ≡ Some e) c (h m.0) in
    let first : query_refusal_of (least_word given f) ≡ Some (refusal_from e) = matrix_first given f (refusal_from e) (first_from_codes (matrix_refusals f given) ∙ ap (option_map refusal_from) (sym (clamped_refusals f given) ∙ o)) in
    (querying offset given f (Some (refusal_from e)) (fails (refused_of r)) first (fails_so offset r (refusal_from e) m.1))
least_refused offset rows f words e stop.NoMemory w h m = tt

unrefused : (f : FieldName) (given words : List (List ℕ)) → words ≡ clamped_rows given → first_refusal (matrix_refusals f words) ≡ None → (first_refusal (matrix_refusals f (clamped_rows given)) ≡ None) × (first_of (from_codes (matrix_refusals f given)) ≡ None)
unrefused f given words c h =
    let k : first_refusal (matrix_refusals f (clamped_rows given)) ≡ None = subst (λ u. first_refusal (matrix_refusals f u) ≡ None) c h in
    (k, first_from_codes (matrix_refusals f given) ∙ ap (option_map refusal_from) (sym (clamped_refusals f given) ∙ k))

pub least_many : (offset : ℕ) (rows : List (Vec ℕ Global)) (f : FieldName) (words : List (List ℕ)) (C : Matrix) (b : Bool) (r : Refused)
    → words ≡ map (λ row. clamped row.items) rows
    → IsRefusedAs (Ok C) (first_refusal (matrix_refusals f words)) → b ≡ nat_lt (2 ^ 16) (size f ^ length rows) → b ≡ true → refused (refused_of r) ≡ refuse_at 16 offset
    → QueriesTo offset (least_word (rows_of rows) f) (fails (refused_of r))
unfolding fail_with refuse_call refuse refuse_at
least_many offset rows f words C b r w h t e z =
    let given : List (List ℕ) = rows_of rows in
    let c : words ≡ clamped_rows given = w ∙ clamped_each rows in
    let n = unrefused f given words c h in
    let many : nat_lt (2 ^ 16) (size f ^ length given) ≡ true = ap (λ m. nat_lt (2 ^ 16) (size f ^ m)) (length-map rows (λ row. row.items)) ∙ sym t ∙ e in
    querying offset given f (Some (refuse 16 [])) (fails (refused_of r)) (matrix_many given f n.1 many) (ap fail_with z)

-- ---- the line

span_moved : (f : FieldName) (n : ℕ) (words : List (List ℕ)) (C : Matrix) → AreRows f n words → IsCode f n (GeneratedBy f n words) C → (w : List ℕ) → InSpan f n C.rows w ↔ InSpan f n words w
span_moved f n words C a h w = ((λ s. ((h.generator.members w).0 s).1), (λ s. (h.generator.members w).1 (span_word f n words w a s, s)))

line_moved : (f : FieldName) (n : ℕ) (rows words : List (List ℕ)) (text : List ℕ) → ((w : List ℕ) → InSpan f n rows w ↔ InSpan f n words w) → IsLeastLine f n rows text → IsLeastLine f n words text
line_moved f n rows words text m (inl t) =
    let h = t.1 in
    inl (t.0, record { inside = (m t.0).0 h.inside; nonzero = h.nonzero; first = λ v s q. h.first v ((m v).1 s) q }, t.2)
line_moved f n rows words text m (inr t) = inr ((λ w s. t.0 w ((m w).1 s)), t.1)

printed : (rows : List (List ℕ)) (f : FieldName) (text : List ℕ) → IsLeastLine f (columns_of rows) rows text → PrintsLeast rows f (prints text)
printed rows f text (inl t) = inl (t.0, t.1, ap (λ (x : List ℕ). prints x) t.2)
printed rows f text (inr t) = inr (t.0, ap (λ (x : List ℕ). prints x) t.1)

pub least_told : (offset : ℕ) (rows : List (Vec ℕ Global)) (f : FieldName) (words : List (List ℕ)) (C : Matrix) (b : Bool) (text : List ℕ)
    → words ≡ map (λ row. clamped row.items) rows
    → IsRefusedAs (Ok C) (first_refusal (matrix_refusals f words)) → IsCode f (columns_of words) (GeneratedBy f (columns_of words) words) C
    → b ≡ nat_lt (2 ^ 16) (size f ^ length rows) → b ≡ false
    → IsLeastLine C.field C.columns C.rows text → QueriesTo offset (least_word (rows_of rows) f) (prints text)
least_told offset rows f words C b text w h i t e l =
    let given : List (List ℕ) = rows_of rows in
    let c : words ≡ clamped_rows given = w ∙ clamped_each rows in
    let n = unrefused f given words c h in
    let few : nat_lt (2 ^ 16) (size f ^ length given) ≡ false = ap (λ m. nat_lt (2 ^ 16) (size f ^ m)) (length-map rows (λ row. row.items)) ∙ sym t ∙ e in
    let same : words ≡ given = c ∙ fine_same f given n.0 in
    let long : columns_of words ≡ columns_of given = ap columns_of c ∙ columns_same given in
    let fit : AreRows f (columns_of words) words = fine_rows f words h in
    let over : IsLeastLine f C.columns C.rows text = subst (λ g. IsLeastLine g C.columns C.rows text) i.over l in
    let at : IsLeastLine f (columns_of words) C.rows text = subst (λ m. IsLeastLine f m C.rows text) i.length_is over in
    let moved : IsLeastLine f (columns_of words) words text = line_moved f (columns_of words) C.rows words text (span_moved f (columns_of words) words C fit i) at in
    let here : IsLeastLine f (columns_of given) words text = subst (λ m. IsLeastLine f m words text) long moved in
    let line : IsLeastLine f (columns_of given) given text = subst (λ u. IsLeastLine f (columns_of given) u text) same here in
    (querying offset given f None (prints text) (matrix_few given f n.1 few) (printed given f text line))

-- ---- queries that a search answers

pub distance_none : (C : Matrix) (text : List ℕ) → length C.rows ≡ 0 → text ≡ distance_none_line → text ≡ query_line distance C 0
unfolding query_line distance_answer_line answer
distance_none C text e t = t ∙ sym line
  where
    line : query_line distance C 0 ≡ distance_none_line
    line = rw e refl

certificate_of_none : (kind : QueryKind) (C : Matrix) → length C.rows ≡ 0 → certificate_answer_line kind C (answer (divisor_of C) C 0) ≡ line (codes "certificate none")
unfolding certificate_answer_line answer
certificate_of_none kind C e = rw e refl

pub levels_none : (C : Matrix) (text : List ℕ) → length C.rows ≡ 0 → text ≡ line (codes "certificate none") → text ≡ query_line by_levels C 0
unfolding query_line
levels_none C text e t = t ∙ sym (certificate_of_none by_levels C e)

pub scan_none : (C : Matrix) (text : List ℕ) → length C.rows ≡ 0 → text ≡ line (codes "certificate none") → text ≡ query_line by_scan C 0
unfolding query_line
scan_none C text e t = t ∙ sym (certificate_of_none by_scan C e)

pub asks_distance : (offset : ℕ) (C : Matrix) (r : Result Effect Stop) → AffectsOrFails r (AsksOf distance C) → AffectsOrFails r (QueriesTo offset (minimum_distance C))
unfolding query_refusal_of query_refusals_of first_of
asks_distance offset C r h = h

pub asks_levels : (offset : ℕ) (C : Matrix) (r : Result Effect Stop) → AffectsOrFails r (AsksOf by_levels C) → AffectsOrFails r (QueriesTo offset (certificate C))
unfolding query_refusal_of query_refusals_of first_of
asks_levels offset C r h = h

pub asks_scan : (offset : ℕ) (C : Matrix) (r : Result Effect Stop) → AffectsOrFails r (AsksOf by_scan C) → AffectsOrFails r (QueriesTo offset (scan_certificate C))
unfolding query_refusal_of query_refusals_of first_of
asks_scan offset C r h = h

pub ruleset answer_laws = (asks_distance, asks_levels, asks_scan)

pub ruleset nothing_line_laws = (distance_none, levels_none, scan_none)

-- ---- weight distributions

distribution_first : (C : Matrix) (o : Option NoDistribution) → distribution_refusal (size C.field) C.columns (length C.rows) ≡ o → query_refusal_of (weight_distribution C) ≡ option_map (λ (r : NoDistribution). refuse 47 (r.dimension ∷ r.codimension ∷ [])) o
unfolding query_refusal_of query_refusals_of no_distribution first_of
distribution_first C None e = ap (λ (o : Option NoDistribution). first_of (option_map (λ (r : NoDistribution). refuse 47 (r.dimension ∷ r.codimension ∷ [])) o ∷ [])) e
distribution_first C (Some r) e = ap (λ (o : Option NoDistribution). first_of (option_map (λ (r : NoDistribution). refuse 47 (r.dimension ∷ r.codimension ∷ [])) o ∷ [])) e

abbrev Counting : ℕ → Matrix → Option Refusal → Step → Type 0
Counting offset C r step = MatchOption r (step ≡ counts C) (λ r. step ≡ fail_with (refuse_call offset r))

pub distribution_refused : (offset : ℕ) (C : Matrix) (r : Refused) (sizes : DistributionRefusal) (o : Option DistributionRefusal) → o ≡ Some sizes → option_map refused_sizes o ≡ distribution_refusal (size C.field) C.columns (length C.rows)
    → refused (refused_of r) ≡ refuse_call offset (refuse 47 (sizes.dimension ∷ sizes.codimension ∷ [])) → QueriesTo offset (weight_distribution C) (fails (refused_of r))
distribution_refused offset C r sizes o is told m =
    let first = distribution_first C (Some (refused_sizes sizes)) (sym told ∙ ap (option_map refused_sizes) is) in
    subst (λ t. Counting offset C t (fails (refused_of r))) (sym first) (fails_so offset r (refuse 47 (sizes.dimension ∷ sizes.codimension ∷ [])) m)

pub distribution_asked : (offset : ℕ) (C D : Matrix) (o : Option DistributionRefusal) → o ≡ None → option_map refused_sizes o ≡ distribution_refusal (size C.field) C.columns (length C.rows) → D ≡ C → QueriesTo offset (weight_distribution C) (counts D)
distribution_asked offset C D o is told same =
    let first = distribution_first C None (sym told ∙ ap (option_map refused_sizes) is) in
    subst (λ t. Counting offset C t (counts D)) (sym first) (ap counts same)
