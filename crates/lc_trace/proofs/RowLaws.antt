-- The loops that make tables of traces and the rows of trace codes.
--   rows_none, rows_more, rows_whole      the traces of the multiples of the rows, row by row
--   multiples_none, multiples_more        of one row, power by power
--   table_none, table_more, table_over    the table of traces, element by element, and to a field that is the same
--   sum_none, sum_more                    the sum of the powers that the trace stands for
--   power_first, power_next               these powers
--   degrees_same                          both definitions of the degree of a field over another
use Rattle.std.proofs.Common.{◌≡◌, ℕ, suc, ◌+◌, ◌^◌, ◌<◌, ◌≤◌, List, [], ◌∷◌, ◌++◌, length, map, take, slice_index, slice_index_or, refl, sym, ap, ap₂, subst, ◌∙◌, ⊎_elim, arith}
use Rattle.std.proofs.lemmas.List.{take_more, take_all, map-append, append_assoc, append-nil, length-append, get_or_append_left}
use Rattle.std.proofs.lemmas.Grind.{flat_map-append, pow_more}
use Rattle.std.proofs.Math.Nat.{pow-zero}
use Rattle.std.proofs.lemmas.Bool.{cases_lt}
use Rattle.std.proofs.Math.Seq.{get_or-append_seam}
use Rattle.lc_algebra.specs.declared.FieldName.{FieldName}
use Rattle.lc_algebra.specs.Field.{shape_of, size, add, pow}
use Rattle.lc_algebra.specs.Word.{scale}
use Rattle.lc_algebra.specs.Span.{below}
use Rattle.lc_algebra.proofs.PowerLaws.{pow_one, pow_mul}
use Rattle.lc_code.specs.Coordinates.{relative_degree}
use Rattle.lc_language.specs.Trace.{extension_degree, trace_sum, IsTrace}
use Rattle.lc_linear_laws.specs.Powers.{power_multiples, outer_rows}
use Rattle.lc_linear_laws.proofs.PowerSpan.{power_none}
use Rattle.lc_trace.specs.Traces.{AreTracesBelow, AreTraces, traced, traced_multiples, traced_rows}

pub rows_none : (K : FieldName) (s : ℕ) (ts : List ℕ) (us rows : List (List ℕ)) → rows ≡ [] → rows ≡ traced_rows K s ts (take 0 us)
rows_none K s ts us rows e = e

pub rows_more : (K : FieldName) (s i : ℕ) (ts : List ℕ) (us rows new : List (List ℕ)) → i < length us → rows ≡ traced_rows K s ts (take i us) → new ≡ rows ++ traced_multiples K s ts (slice_index_or us i []) → new ≡ traced_rows K s ts (take (i + 1) us)
rows_more K s i ts us rows new l e h =
    let g = slice_index_or us i [] in
    h ∙ ap (λ r. r ++ traced_multiples K s ts g) e
    ∙ sym (
    ap (λ vs. traced_rows K s ts vs) (take_more us i [] l)
    ∙ ap (map (traced ts)) (flat_map-append (power_multiples K s) (take i us) (g ∷ []) ∙ ap (λ vs. outer_rows K s (take i us) ++ vs) (append-nil (power_multiples K s g)))
    ∙ map-append (traced ts) (outer_rows K s (take i us)) (power_multiples K s g))

pub rows_whole : (K : FieldName) (s i : ℕ) (ts : List ℕ) (us rows : List (List ℕ)) → length us ≤ i → rows ≡ traced_rows K s ts (take i us) → rows ≡ traced_rows K s ts us
rows_whole K s i ts us rows l e = e ∙ ap (λ vs. traced_rows K s ts vs) (take_all i us l)

pub ruleset rows_laws = (rows_none, rows_more, rows_whole)

pub multiples_none : (K : FieldName) (ts u : List ℕ) (rows : List (List ℕ)) → rows ≡ rows ++ traced_multiples K 0 ts u
unfolding below
multiples_none K ts u rows = sym (append-nil rows)

pub multiples_more : (K : FieldName) (t : ℕ) (ts u v w : List ℕ) (old rows new : List (List ℕ)) → rows ≡ old ++ traced_multiples K t ts u → v ≡ scale K (pow K (shape_of K).primitive t) u → w ≡ traced ts v → new ≡ rows ++ w ∷ [] → new ≡ old ++ traced_multiples K (t + 1) ts u
unfolding below
multiples_more K t ts u v w old rows new e p q h =
    let h' : ℕ → List ℕ = λ j. scale K (pow K (shape_of K).primitive j) u in
    let last : traced_multiples K (suc t) ts u ≡ traced_multiples K t ts u ++ w ∷ [] =
    ap (map (traced ts)) (map-append h' (below t) (t ∷ [])) ∙ map-append (traced ts) (map h' (below t)) (h' t ∷ []) ∙ ap (λ x. traced_multiples K t ts u ++ x ∷ []) (ap (traced ts) (sym p) ∙ sym q) in
    let next : t + 1 ≡ suc t = omega arith in
    h ∙ ap (λ r. r ++ w ∷ []) e ∙ append_assoc old (traced_multiples K t ts u) (w ∷ []) ∙ ap (λ r. old ++ r) (sym last) ∙ ap (λ n. old ++ traced_multiples K n ts u) (sym next)

pub ruleset multiples_laws = (multiples_none, power_none)

pub table_none : (F K : FieldName) (ts : List ℕ) → ts ≡ [] → AreTracesBelow F K 0 ts
table_none F K ts e = record { long = ap length e; traces = λ a l. absurd (omega (arith, l)) }

pub table_more : (F K : FieldName) (n b : ℕ) (ts new : List ℕ) → AreTracesBelow F K n ts → IsTrace F K n b → new ≡ ts ++ b ∷ [] → AreTracesBelow F K (n + 1) new
table_more F K n b ts new h t e = record {
  long = ap length e ∙ omega (arith, length-append ts (b ∷ []), h.long);
  traces = λ a l. ⊎_elim
      (λ (k : a < n). subst (IsTrace F K a) (sym (ap (λ xs. slice_index xs a) e ∙ get_or_append_left ts (b ∷ []) 0 a (omega (arith, k, h.long)))) (h.traces a k))
      (λ (k : n ≤ a).
      let same : a ≡ n = omega (arith, k, l) in
      let seam : slice_index new n ≡ b = ap (λ xs. slice_index xs n) e ∙ ap (slice_index (ts ++ b ∷ [])) (sym h.long) ∙ get_or-append_seam ts b [] 0 in
      subst (λ x. IsTrace F K x (slice_index new x)) (sym same) (subst (IsTrace F K n) (sym seam) t))
      (cases_lt a n);
}

pub table_over : (F G K : FieldName) (ts us : List ℕ) → G ≡ K → us ≡ ts → AreTraces F G ts → AreTraces F K us
table_over F G K ts us e h t = rw h (subst (λ g. AreTraces F g ts) e t)

pub ruleset traces_laws = (table_none, table_more)

pub sum_none : (K : FieldName) (q a : ℕ) → 0 ≡ trace_sum K q 0 a
unfolding trace_sum
sum_none K q a = refl

pub sum_more : (K : FieldName) (q i a power sum new : ℕ) → power ≡ pow K a (q ^ i) → sum ≡ trace_sum K q i a → new ≡ add K power sum → new ≡ trace_sum K q (i + 1) a
unfolding trace_sum
sum_more K q i a power sum new p s n =
    let next : i + 1 ≡ suc i = omega arith in
    n ∙ ap₂ (add K) p s ∙ ap (λ k. trace_sum K q k a) (sym next)

pub power_next : (K : FieldName) (q i a power new : ℕ) → power ≡ pow K a (q ^ i) → new ≡ pow K power q → new ≡ pow K a (q ^ (i + 1))
power_next K q i a power new p n = n ∙ ap (λ x. pow K x q) p ∙ sym (pow_mul K a (q ^ i) q) ∙ ap (pow K a) (sym (pow_more q i))

pub power_first : (K : FieldName) (q a : ℕ) → a < size K → a ≡ pow K a (q ^ 0)
power_first K q a l = sym (ap (pow K a) (pow-zero q) ∙ pow_one K a l)

pub ruleset sum_laws = (sum_none, sum_more, power_next, power_first)

pub degrees_same : (F K : FieldName) → relative_degree F K ≡ extension_degree F K
unfolding relative_degree extension_degree
degrees_same F K = refl
