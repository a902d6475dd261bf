-- The certificate of an exact answer is valid.
--   dimension_free            independent rows are as many as the dimension
--   through_inside, seen_inside      the seen words are words of the code
--   valid_from                a certificate whose distance bounds the weights is valid, if its word and its sets are right
--   claims_each, claims_apart the sets of a search: what holds of each of them, and no column is fresh in two
--   ranks_kept, levels_kept   their fresh columns and their levels are those of the search
--   level_or_sum, whole_level a search that is done has a level that is the dimension, or a sum that reaches the weight
--   sets_hold                 so the sets hold
--   valid_at, valid_as        the certificate is valid
--   exact_is, exact_at        an exact answer is that of a search that is done
use Rattle.std.proofs.Common.{◌≡◌, ℕ, ◌^◌, ◌<◌, ◌≤◌, ◌⊎◌, max, true, false, ◌==◌, if◌then◌else◌, List, [], ◌∷◌, map, find, filter, nat_le, length, unwrap_or, All, AllPairs, Any, Contains, Option, Some, None, inl, inr, ⊎_elim, refl, sym, ap, ap₂, subst, ◌∙◌, arith}
use Rattle.std.proofs.lemmas.Bool.{cases_Bool, leb-true, ne_eqb}
use Rattle.std.proofs.lemmas.List.Elements.{All-head, All-tail, All-contains}
use Rattle.lc_algebra.specs.declared.FieldName.{FieldName}
use Rattle.lc_algebra.specs.Field.{size}
use Rattle.lc_algebra.specs.Word.{IsWord, weight}
use Rattle.lc_algebra.specs.Span.{below, combine, InSpan, SameSpan, AreIndependent, IsWeightBound, IsDistance}
use Rattle.lc_algebra.specs.Matrix.{Matrix, AreRows, AreIndependentColumns}
use Rattle.lc_algebra.specs.Divisor.{weight_divisor, divisor_of, rounded}
use Rattle.lc_algebra.proofs.SpanLaws.{contains_map, map_contains, contains_flat_map, contains_below, length_below, word_of_combination, span_word, index_below}
use Rattle.lc_algebra.proofs.ColumnLaws.{systematic_columns}
use Rattle.lc_algebra.proofs.DimensionLaws.{dimension_unique}
use Rattle.lc_algebra.proofs.DivisorLaws.{divisor_is, divisor_positive}
use Rattle.lc_enumeration.specs.Message.{messages, vector_of, numbers_from}
use Rattle.lc_enumeration.specs.InformationSet.{InformationSet, dimension, systematic, echelon_rows, is_member}
use Rattle.lc_enumeration.specs.Search.{Found, no_word, exact, sets_of, set_count, ranks_of, generator_at, level_below, levels_below, best, bound, bound_of, bound_sum, is_done, answer_at, answer, ends_of, word_at}
use Rattle.lc_enumeration.specs.Truth.{HasWord}
use Rattle.lc_enumeration.proofs.MemberLaws.{true_member}
use Rattle.lc_enumeration.proofs.SearchLaws.{numbers_within}
use Rattle.lc_infoset.specs.Bound.{set_at}
use Rattle.lc_infoset.proofs.SetLaws.{count_is, levels_are}
use Rattle.lc_infoset.proofs.SearchBound.{message_word}
use Rattle.lc_infoset.proofs.SearchTruth.{search_generator, search_dimension, sets_apart, done_is_distance, best_is_word}
use Rattle.lc_infoset.proofs.BestLaws.{find_passes}
use Rattle.lc_search.proofs.LevelLaws.{levels_few}
use Rattle.lc_formats.specs.Certificate.{Certificate, SetClaim, Proof, scan, levels, code_length, code_dimension, level_in, cost, words_through, seen_by, seen_words, span_divisor, claimed_sum, SetsHold, IsValid}
use Rattle.lc_formats.proofs.CertificateBack.{mapped_all}
use Rattle.lc_enumeration.proofs.DependentLaws.{independent_rows}
use Rattle.lc_enumeration.proofs.GreedyLaws.{each_contained}
use Rattle.lc_validity.proofs.DependentLaws.{set_systematic, echelon_systematic}
use Rattle.lc_validity.proofs.ValidityLaws.{mapped_pairs}
use Rattle.lc_language.specs.Query.{QueryKind, distance, by_levels, by_scan, claims_at, proof_of, certificate_of, word_at_place}
use Rattle.lc_certify.specs.Claims.{claim_at}
use Rattle.lc_certify.specs.Accepted.{IsSearchable, IsExactAt}
use Rattle.lc_certify.proofs.ClaimLaws.{levels_long, claims_are}

pub dimension_free : (f : FieldName) (n : ℕ) (rows : List (List ℕ)) → AreRows f n rows → AreIndependent f n rows → dimension f n rows ≡ length rows
dimension_free f n rows r free =
    let t = independent_rows f n rows r in
    sym t.many ∙ sym (dimension_unique f n rows t.others r t.words free t.free t.same)

-- ---- the seen words

pub through_inside : (f : FieldName) (n k l : ℕ) (rows e : List (List ℕ)) (w : List ℕ) → SameSpan f n rows e → length e ≡ k → Contains (words_through f n e k l) w → InSpan f n rows w
unfolding words_through
through_inside f n k l rows e w same long c =
    let t = contains_flat_map (λ level. map (λ m. combine f n (vector_of k m) e) (messages k (size f) level)) (numbers_from 1 l) w c in
    let some = (numbers_within 1 l t.0 t.1).0 in
    let s = contains_map (λ m. combine f n (vector_of k m) e) (messages k (size f) t.0) w t.2 in
    let word : IsWord f (length e) (vector_of k s.0) = subst (λ m. IsWord f m (vector_of k s.0)) (sym long) (message_word f k t.0 s.0 (omega (arith, some)) s.1) in
    (same w).1 (subst (InSpan f n e) (sym s.2) (word_of_combination f n e (vector_of k s.0) word))

pub seen_inside : (c : Certificate) (p : Proof) (w : List ℕ) → AreRows c.field (code_length c) c.rows → SetsHold c p → Contains (seen_by c p) w → InSpan c.field (code_length c) c.rows w
unfolding seen_by code_dimension
seen_inside c scan w r holds s =
    let t = echelon_systematic c.field (code_length c) c.rows r in
    let k = dimension c.field (code_length c) c.rows in
    through_inside c.field (code_length c) k k c.rows (echelon_rows c.field (code_length c) c.rows) w t.systematic_on.same (t.systematic_on.count ∙ t.many) s
seen_inside c (levels claims) w r holds s =
    let n = code_length c in
    let t = contains_flat_map (λ claim. words_through c.field n (systematic c.field n c.rows claim.basis) (code_dimension c) (level_in c claim)) claims w s in
    let is = All-contains (λ claim. (length claim.basis ≡ code_dimension c) × AreIndependentColumns c.field c.rows claim.basis) claims t.0 holds.0 t.1 in
    let e = set_systematic c.field n c.rows t.0.basis r is.0 is.1 in
    through_inside c.field n (code_dimension c) (level_in c t.0) c.rows (systematic c.field n c.rows t.0.basis) w e.same (e.count ∙ is.0) t.2

pub valid_from : (c : Certificate) → cost c ≤ 2 ^ 32 → AreRows c.field (code_length c) c.rows → InSpan c.field (code_length c) c.rows c.word → weight c.word ≡ c.distance → IsWeightBound c.field (code_length c) c.rows c.distance → SetsHold c c.proof → IsValid c
unfolding seen_words
valid_from c few r inside weighs least holds = record {
  affordable = few;
  inside = inside;
  attains = weighs;
  seen = each_contained (λ w. 0 < weight w → c.distance ≤ weight w) (seen_words c) (λ w m. least w (seen_inside c c.proof w r holds m));
  sets = holds;
}

-- ---- the sets

pub claims_each : (C : Matrix) (l : ℕ) (P : SetClaim → Type 0) → ((j : ℕ) → j < set_count C → P (claim_at C l j)) → All P (claims_at (sets_of C) (levels_below C l))
claims_each C l P h =
    subst (All P) (claims_are C l) (mapped_all (claim_at C l) P (below (set_count C)) (each_contained (λ j. P (claim_at C l j)) (below (set_count C)) (λ j c. h j (contains_below (set_count C) j c))))

pub claims_apart : (C : Matrix) (l : ℕ) → AllPairs (λ one other. (place : ℕ) → Contains one.fresh place → ¬ Contains other.fresh place) (claims_at (sets_of C) (levels_below C l))
claims_apart C l =
    let apart = λ (one other : SetClaim). (place : ℕ) → Contains one.fresh place → ¬ Contains other.fresh place in
    let m = set_count C in
    subst (AllPairs apart) (claims_are C l) (mapped_pairs (claim_at C l) apart (below m) (λ i j d a b place x y.
    let inside : j < m = omega (arith, b, length_below m) in
    sets_apart C i j place a inside
    (subst (λ t. Contains (set_at C t).fresh place) (index_below m i d (omega (arith, a, inside))) x)
    (subst (λ t. Contains (set_at C t).fresh place) (index_below m j d inside) y)))

pub ranks_kept : (sets : List InformationSet) (ws : List ℕ) → length sets ≡ length ws → map (λ claim. length claim.fresh) (claims_at sets ws) ≡ map (λ s. length s.fresh) sets
unfolding claims_at
ranks_kept [] ws e = refl
ranks_kept (s ∷ sets) [] e = absurd (omega (arith, e))
ranks_kept (s ∷ sets) (w ∷ ws) e = ap (λ xs. length s.fresh ∷ xs) (ranks_kept sets ws (omega (arith, e)))

pub levels_kept : (c : Certificate) (sets : List InformationSet) (ws : List ℕ) → length sets ≡ length ws → All (λ w. w ≤ code_dimension c) ws → map (level_in c) (claims_at sets ws) ≡ ws
unfolding claims_at level_in
levels_kept c [] [] e few = refl
levels_kept c [] (w ∷ ws) e few = absurd (omega (arith, e))
levels_kept c (s ∷ sets) [] e few = absurd (omega (arith, e))
levels_kept c (s ∷ sets) (w ∷ ws) e few =
    ap₂ (λ x xs. x ∷ xs) (omega (arith, All-head (λ w. w ≤ code_dimension c) w ws few)) (levels_kept c sets ws (omega (arith, e)) (All-tail (λ w. w ≤ code_dimension c) w ws few))

pub level_or_sum : (C : Matrix) (l : ℕ) → is_done (divisor_of C) C l ≡ true → Contains (levels_below C l) (length C.rows) ⊎ ((best C (set_count C) l).weight ≤ rounded (divisor_of C) (max 1 (bound_sum (length C.rows) (ranks_of C) (levels_below C l))))
unfolding is_done bound bound_of
level_or_sum C l done =
    let w = (best C (set_count C) l).weight in
    let sum = rounded (divisor_of C) (max 1 (bound_sum (length C.rows) (ranks_of C) (levels_below C l))) in
    let reached = leb-true w (bound (divisor_of C) C l w) done in
    ⊎_elim
    (λ t. inl (true_member (levels_below C l) (length C.rows) t))
    (λ t. inr (subst (λ b. w ≤ (if b then w else sum)) t reached))
    (cases_Bool (is_member (levels_below C l) (length C.rows)))

pub whole_level : (C : Matrix) (l k : ℕ) → Contains (levels_below C l) k → Any (λ claim. k ≤ claim.level) (claims_at (sets_of C) (levels_below C l))
whole_level C l k c =
    let t = contains_map (level_below C l) (below (set_count C)) k (subst (λ ws. Contains ws k) (levels_are C l) c) in
    let s = subst (λ xs. Contains xs (claim_at C l t.0)) (claims_are C l) (map_contains (claim_at C l) (below (set_count C)) t.0 t.1) in
    (s.0, claim_at C l t.0, s.1, s.2, omega (arith, t.2))

many_levels : (C : Matrix) (l : ℕ) → length (sets_of C) ≡ length (levels_below C l)
many_levels C l = sym (count_is C) ∙ sym (levels_long C l)

-- the dimension and the divisor that a certificate of the code has
record IsOfCode (c : Certificate) (C : Matrix) : Type 0 where
  pub field : c.field ≡ C.field
  pub rows : c.rows ≡ C.rows
  pub dimension : code_dimension c ≡ length C.rows
  pub divisor : span_divisor c ≡ divisor_of C

set_good : (c : Certificate) (C : Matrix) (j : ℕ) → IsOfCode c C → IsSearchable C → j < set_count C → (length (set_at C j).basis ≡ code_dimension c) × AreIndependentColumns c.field c.rows (set_at C j).basis
set_good c C j of h inside = (
  search_dimension C j h.words h.independent inside ∙ sym of.dimension,
  rw (of.field, of.rows) (systematic_columns C.field C.columns C.rows (set_at C j).basis (generator_at C j) h.words (search_generator C j h.words h.independent inside)),
)

sum_is : (c : Certificate) (C : Matrix) (l : ℕ) → IsOfCode c C → claimed_sum c (claims_at (sets_of C) (levels_below C l)) ≡ rounded (divisor_of C) (max 1 (bound_sum (length C.rows) (ranks_of C) (levels_below C l)))
unfolding claimed_sum ranks_of
sum_is c C l of =
    let k = length C.rows in
    let few : All (λ w. w ≤ code_dimension c) (levels_below C l) = rw of.dimension (levels_few C l) in
    ap₂ rounded of.divisor (ap (max 1) (
    ap (λ m. bound_sum m (map (λ claim. length claim.fresh) (claims_at (sets_of C) (levels_below C l))) (map (level_in c) (claims_at (sets_of C) (levels_below C l)))) of.dimension
    ∙ ap₂ (bound_sum k) (ranks_kept (sets_of C) (levels_below C l) (many_levels C l)) (levels_kept c (sets_of C) (levels_below C l) (many_levels C l) few)))

sets_hold : (kind : QueryKind) (c : Certificate) (C : Matrix) (l : ℕ) → IsOfCode c C → IsSearchable C → is_done (divisor_of C) C l ≡ true → c.distance ≡ (best C (set_count C) l).weight → SetsHold c (proof_of kind C l)
unfolding proof_of
sets_hold distance c C l of h done d = tt
sets_hold by_scan c C l of h done d = tt
sets_hold by_levels c C l of h done d =
    let claims = claims_at (sets_of C) (levels_below C l) in (
      claims_each C l (λ claim. (length claim.basis ≡ code_dimension c) × AreIndependentColumns c.field c.rows claim.basis) (λ j inside. set_good c C j of h inside),
      claims_apart C l,
      ⊎_elim
          (λ t. inl (rw of.dimension (whole_level C l (length C.rows) t)))
          (λ t. inr (omega (arith, d, t, sum_is c C l of)))
          (level_or_sum C l done),
    )

of_code : (kind : QueryKind) (C : Matrix) (w : List ℕ) (d l : ℕ) → IsSearchable C → length w ≡ C.columns → IsOfCode (certificate_of kind C w d l) C
unfolding certificate_of code_dimension code_length span_divisor divisor_of
of_code kind C w d l h long = record {
  field = refl;
  rows = refl;
  dimension = ap (λ n. dimension C.field n C.rows) long ∙ dimension_free C.field C.columns C.rows h.words h.independent;
  divisor = ap (λ n. weight_divisor C.field n C.rows) long;
}

pub code_distance : (C : Matrix) (w : List ℕ) (d l : ℕ) → IsSearchable C → IsExactAt C w d l → IsDistance C.field C.columns C.rows d
unfolding divisor_of
code_distance C w d l h x =
    let g = weight_divisor C.field C.columns C.rows in
    subst (IsDistance C.field C.columns C.rows) (sym x.best)
    (done_is_distance g C l h.words h.independent (omega (arith, divisor_positive C.field C.columns C.rows)) (divisor_is C.field C.columns C.rows).divides (omega (arith, h.some_rows)) x.done)

pub valid_at : (kind : QueryKind) (C : Matrix) (w : List ℕ) (d l : ℕ) → IsSearchable C → IsWord C.field C.columns w → IsExactAt C w d l → cost (certificate_of kind C w d l) ≤ 2 ^ 32 → IsValid (certificate_of kind C w d l)
unfolding certificate_of code_length
valid_at kind C w d l h word x few =
    let e : C.columns ≡ length w = sym word.long in
    let bound : IsWeightBound C.field C.columns C.rows d = (code_distance C w d l h x).least in
    valid_from (certificate_of kind C w d l) few
    (subst (λ n. AreRows C.field n C.rows) e h.words)
    (subst (λ n. InSpan C.field n C.rows w) e x.inside)
    x.weighs
    (subst (λ n. IsWeightBound C.field n C.rows d) e bound)
    (sets_hold kind (certificate_of kind C w d l) C l (of_code kind C w d l h word.long) h x.done x.best)

pub valid_as : (c : Certificate) (kind : QueryKind) (C : Matrix) (w : List ℕ) (d l : ℕ) → c ≡ certificate_of kind C w d l → IsSearchable C → IsWord C.field C.columns w → IsExactAt C w d l → cost c ≤ 2 ^ 32 → IsValid c
valid_as c kind C w d l is h word x few = subst IsValid (sym is) (valid_at kind C w d l h word x (subst (λ b. cost b ≤ 2 ^ 32) is few))

-- ---- exact answers

answered : (d : ℕ) (C : Matrix) (budget l : ℕ) (x : Found) (ends : List ℕ) (o : Option ℕ) → find (is_done d C) ends ≡ o → answer_at d C budget o ≡ exact x l → (is_done d C l ≡ true) × (x ≡ best C (set_count C) l)
unfolding answer_at
answered d C budget l x ends None f e = absurd cc
answered d C budget l x ends (Some m) f e =
    let p : m ≡ l = cc e in
    let q : best C (set_count C) m ≡ x = cc e in
    (subst (λ n. is_done d C n ≡ true) p (find_passes (is_done d C) ends m f).passes, sym q ∙ ap (best C (set_count C)) p)

pub exact_is : (d : ℕ) (C : Matrix) (budget l : ℕ) (x : Found) → 1 ≤ length C.rows → answer d C budget ≡ exact x l → (is_done d C l ≡ true) × (x ≡ best C (set_count C) l)
unfolding answer
exact_is d C budget l x some e =
    let ends = 0 ∷ filter (λ end. nat_le end budget) (ends_of C) in
    let none : (length C.rows == 0) ≡ false = ne_eqb (length C.rows) 0 (λ z. omega (arith, z, some)) in
    answered d C budget l x ends (find (is_done d C) ends) refl (ap (λ b. if b then no_word else answer_at d C budget (find (is_done d C) ends)) (sym none) ∙ e)

-- what an exact answer says of the word at its place
pub exact_at : (C : Matrix) (budget l : ℕ) (x : Found) → IsSearchable C → answer (divisor_of C) C budget ≡ exact x l → IsExactAt C (word_at_place C x.place) x.weight l × IsWord C.field C.columns (word_at_place C x.place)
unfolding word_at_place
exact_at C budget l x h e =
    let t = exact_is (divisor_of C) C budget l x h.some_rows e in
    let has : HasWord C x = subst (HasWord C) (sym t.1) (best_is_word C l h.words h.independent (omega (arith, h.some_rows))) in
    let at : unwrap_or (word_at C (set_count C) x.place) [] ≡ has.word.0 = ap (λ o. unwrap_or o []) has.word.1 in
    let inside = subst (InSpan C.field C.columns C.rows) (sym at) has.word.2 in (
      record { done = t.0; best = ap (λ y. y.weight) t.1; inside = inside; weighs = ap weight at ∙ has.word.3 },
      span_word C.field C.columns C.rows (unwrap_or (word_at C (set_count C) x.place) []) h.words inside,
    )
