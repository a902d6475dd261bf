-- A valid certificate of the right shape proves its distance.
--   set_of c claim             the level set of a claim
--   pairs_head, mapped_pairs      pairs and elements of a list that was mapped
--   seen_contains              the words of messages of the levels 1 to l are seen words
--   unseen_lighter             a word of the code that is lighter than all seen words is no multiple of one
--   claim_is_set, claims_are_sets      the claims of a valid certificate are level sets
--   levels_bound, scan_bound   no nonzero word of the code is lighter than the distance
--   certificates_are_sound
use Rattle.std.proofs.Common.{◌≡◌, ◌≢◌, ℕ, zero, suc, ◌+◌, ◌*◌, ◌<◌, ◌≤◌, ◌⊎◌, min, max, List, [], ◌∷◌, map, flat_map, length, slice_index_or, All, AllPairs, Any, Contains, inl, inr, ⊎_elim, refl, sym, ap, ap₂, subst, ◌∙◌, arith}
use Rattle.std.proofs.lemmas.Bool.{cases_lt}
use Rattle.std.proofs.lemmas.List.{length-map}
use Rattle.std.proofs.lemmas.List.Elements.{All-cons, All-contains, Contains-get_or}
use Rattle.std.proofs.lemmas.List.Kept.{AllPairs-cons, AllPairs-from_increasing}
use Rattle.std.proofs.lemmas.Simd.{map-map}
use Rattle.lc_algebra.specs.declared.FieldName.{FieldName}
use Rattle.lc_algebra.specs.Field.{size}
use Rattle.lc_algebra.specs.Word.{IsWord, weight, scale}
use Rattle.lc_algebra.specs.Span.{combine, InSpan, IsDistance, IsWeightBound, below}
use Rattle.lc_algebra.specs.Matrix.{AreRows, IsSystematic, AreIndependentColumns}
use Rattle.lc_algebra.specs.Divisor.{weight_divisor, rounded}
use Rattle.lc_algebra.proofs.WordLaws.{weight_scale}
use Rattle.lc_algebra.proofs.SpanLaws.{weight_bound_attained, flat_map_contains, map_contains, contains_head, contains_cases, combine_is_word}
use Rattle.lc_algebra.proofs.DivisorLaws.{divisor_is, divisor_positive, rounded_within}
use Rattle.lc_enumeration.specs.Message.{Message, messages, vector_of, numbers_from}
use Rattle.lc_enumeration.specs.InformationSet.{systematic, echelon_rows, first_basis, dimension}
use Rattle.lc_enumeration.specs.Search.{bound_sum}
use Rattle.lc_enumeration.proofs.SearchLaws.{within_numbers}
use Rattle.lc_infoset.specs.Bound.{LevelSet, IsLevelSet, AreLevelSets, IsUnseen, IsNoMultiple, set_bound}
use Rattle.lc_infoset.proofs.BoundLaws.{unseen_weight, unseen_whole, pairs_tail}
use Rattle.lc_infoset.proofs.MultipleLaws.{unseen_from_messages}
use Rattle.lc_formats.specs.Certificate.{Certificate, SetClaim, Proof, scan, levels, code_length, code_dimension, level_in, words_through, seen_by, seen_words, span_divisor, claimed_sum, SetsHold, IsValid}
use Rattle.lc_formats.specs.Shape.{IsShapedSet, AreShapedSets, IsShaped, Sound}
use Rattle.lc_formats.proofs.CertificateBack.{mapped_all}
use Rattle.lc_validity.proofs.DependentLaws.{set_systematic, echelon_systematic}

abbrev pub set_of : Certificate → SetClaim → LevelSet
set_of c claim = record { basis = claim.basis; fresh = claim.fresh; matrix = systematic c.field (code_length c) c.rows claim.basis; level = level_in c claim }

pub pairs_head : {X : Type 0} (R : X → X → Type 0) (x : X) (xs : List X) → AllPairs R (x ∷ xs) → All (R x) xs
pairs_head R x xs h k d l = h 0 (suc k) d (omega arith) (omega (arith, l))

pub mapped_pairs : {X Y : Type 0} (h : X → Y) (R : Y → Y → Type 0) (xs : List X) → AllPairs (λ a b. R (h a) (h b)) xs → AllPairs R (map h xs)
mapped_pairs h R [] a = λ i j d l m. absurd (omega (arith, m))
mapped_pairs h R (x ∷ xs) a = AllPairs-cons R (h x) (map h xs) (mapped_all h (R (h x)) xs (pairs_head (λ s t. R (h s) (h t)) x xs a)) (mapped_pairs h R xs (pairs_tail (λ s t. R (h s) (h t)) x xs a))

pub seen_contains : (f : FieldName) (n : ℕ) (rows : List (List ℕ)) (k l w : ℕ) (m : Message) → 0 < w → w ≤ l → Contains (messages k (size f) w) m → Contains (words_through f n rows k l) (combine f n (vector_of k m) rows)
unfolding words_through
seen_contains f n rows k l w m some most c =
    flat_map_contains (λ level. map (λ m. combine f n (vector_of k m) rows) (messages k (size f) level)) (numbers_from 1 l) w (combine f n (vector_of k m) rows)
    (within_numbers 1 l w (omega (arith, some)) (omega (arith, most)))
    (map_contains (λ m. combine f n (vector_of k m) rows) (messages k (size f) w) m c)

-- a word of the code that is lighter than d is not seen in a set whose seen words all have weight d at least
pub unseen_lighter : (f : FieldName) (n d : ℕ) (c : List ℕ) (s : LevelSet) → AreRows f n s.matrix → 0 < weight c → weight c < d → ((w : ℕ) (m : Message) → 0 < w → w ≤ s.level → Contains (messages (length s.matrix) (size f) w) m → 0 < weight (combine f n (vector_of (length s.matrix) m) s.matrix) → d ≤ weight (combine f n (vector_of (length s.matrix) m) s.matrix)) → IsUnseen f n c s
unseen_lighter f n d c s r some light heavy = unseen_from_messages f n c s (λ w a m low most small positive listed same.
    let u = combine f n (vector_of (length s.matrix) m) s.matrix in
    let equal : weight c ≡ weight u = ap weight same ∙ weight_scale f a u small positive (combine_is_word f n (vector_of (length s.matrix) m) s.matrix r).fits in
    omega (arith, light, equal, heavy w m low most listed (omega (arith, some, equal))))

-- the seen words of one claim are seen words
claim_seen : (c : Certificate) (claims : List SetClaim) (claim : SetClaim) (w : List ℕ) → Contains claims claim → Contains (words_through c.field (code_length c) (systematic c.field (code_length c) c.rows claim.basis) (code_dimension c) (level_in c claim)) w → Contains (seen_by c (levels claims)) w
unfolding seen_by
claim_seen c claims claim w inside seen = flat_map_contains (λ claim. words_through c.field (code_length c) (systematic c.field (code_length c) c.rows claim.basis) (code_dimension c) (level_in c claim)) claims claim w inside seen

abbrev AreHeavy : Certificate → Proof → Type 0
AreHeavy c p = All (λ w. 0 < weight w → c.distance ≤ weight w) (seen_by c p)

abbrev IsSet : Certificate → SetClaim → Type 0
IsSet c claim = (length claim.basis ≡ code_dimension c) × AreIndependentColumns c.field c.rows claim.basis

claim_systematic : (c : Certificate) (claim : SetClaim) → IsShaped c → IsSet c claim → IsSystematic c.field (code_length c) c.rows claim.basis (systematic c.field (code_length c) c.rows claim.basis)
unfolding code_dimension
claim_systematic c claim h s = set_systematic c.field (code_length c) c.rows claim.basis h.rows_fit s.0 s.1

pub claim_is_set : (c : Certificate) (claim : SetClaim) → IsShaped c → IsShapedSet (code_length c) claim → IsSet c claim → IsLevelSet c.field (code_length c) (code_dimension c) c.rows (set_of c claim)
claim_is_set c claim h shaped s = record {
  many = s.0;
  systematic = claim_systematic c claim h s;
  part = shaped.part;
  once = λ i j d l m e. omega (arith, e, AllPairs-from_increasing claim.fresh shaped.fresh_rises i j d l m);
}

pub claims_are_sets : (c : Certificate) (claims : List SetClaim) → IsShaped c → All (IsShapedSet (code_length c)) claims → All (IsSet c) claims → AllPairs (λ one other. (place : ℕ) → Contains one.fresh place → ¬ Contains other.fresh place) claims → AreLevelSets c.field (code_length c) (code_dimension c) c.rows (map (set_of c) claims)
claims_are_sets c claims h shaped sets apart = record {
  each = mapped_all (set_of c) (IsLevelSet c.field (code_length c) (code_dimension c) c.rows) claims (λ k d l. claim_is_set c _ h (shaped k d l) (sets k d l));
  apart = mapped_pairs (set_of c) (λ one other. (place : ℕ) → Contains one.fresh place → ¬ Contains other.fresh place) claims apart;
}

claim_unseen : (c : Certificate) (claims : List SetClaim) (claim : SetClaim) (w : List ℕ) → IsShaped c → IsSet c claim → Contains claims claim → AreHeavy c (levels claims) → 0 < weight w → weight w < c.distance → IsUnseen c.field (code_length c) w (set_of c claim)
claim_unseen c claims claim w h s inside heavy some light =
    let e = claim_systematic c claim h s in
    let matrix = systematic c.field (code_length c) c.rows claim.basis in
    let count : length matrix ≡ code_dimension c = e.count ∙ s.0 in
    unseen_lighter c.field (code_length c) c.distance w (set_of c claim) e.words some light (λ v m low most listed positive.
    let u = combine c.field (code_length c) (vector_of (length matrix) m) matrix in
    let seen : Contains (words_through c.field (code_length c) matrix (length matrix) (level_in c claim)) u = seen_contains c.field (code_length c) matrix (length matrix) (level_in c claim) v m low most listed in
    All-contains (λ x. 0 < weight x → c.distance ≤ weight x) (seen_by c (levels claims)) u heavy
    (claim_seen c claims claim u inside (subst (λ k. Contains (words_through c.field (code_length c) matrix k (level_in c claim)) u) count seen)) positive)

sum_of_sets : (c : Certificate) (claims : List SetClaim) → set_bound (code_dimension c) (map (set_of c) claims) ≡ bound_sum (code_dimension c) (map (λ claim. length claim.fresh) claims) (map (level_in c) claims)
sum_of_sets c claims = ap₂ (bound_sum (code_dimension c)) (map-map (λ s. length s.fresh) (set_of c) claims) (map-map (λ s. s.level) (set_of c) claims)

whole_set : (c : Certificate) (claims : List SetClaim) (sets : List LevelSet) → sets ≡ map (set_of c) claims → Any (λ claim. code_dimension c ≤ claim.level) claims → (s : LevelSet) × Contains sets s × (code_dimension c ≤ s.level)
unfolding level_in
whole_set c claims sets e (k, claim, l, at, whole) = (set_of c claim, subst (λ xs. Contains xs (set_of c claim)) (sym e) (map_contains (set_of c) claims claim (k, l, at)), omega (arith, whole))

pub levels_bound : (c : Certificate) (claims : List SetClaim) (w : List ℕ) → IsShaped c → AreShapedSets (code_length c) (levels claims) → AreHeavy c (levels claims) → SetsHold c (levels claims) → InSpan c.field (code_length c) c.rows w → 0 < weight w → c.distance ≤ weight w
unfolding claimed_sum span_divisor
levels_bound c claims w h shaped heavy holds inside some =
    ⊎_elim
    (λ light.
    let sets = map (set_of c) claims in
    let are = claims_are_sets c claims h shaped.2 holds.0 holds.1 in
    let unseen : All (IsUnseen c.field (code_length c) w) sets = mapped_all (set_of c) (IsUnseen c.field (code_length c) w) claims (λ k d l. claim_unseen c claims _ w h (holds.0 k d l) (Contains-get_or claims k d l) heavy some light) in
    ⊎_elim
    (λ whole. let t = whole_set c claims sets refl whole in absurd (unseen_whole c.field (code_length c) (code_dimension c) c.rows sets w are inside some unseen t.0 t.1 t.2))
    (λ reach.
    let bound = unseen_weight c.field (code_length c) (code_dimension c) c.rows sets w h.rows_fit are inside some unseen in
    let g = weight_divisor c.field (code_length c) c.rows in
    let sum = bound_sum (code_dimension c) (map (λ claim. length claim.fresh) claims) (map (level_in c) claims) in
    omega (arith, reach, rounded_within g (max 1 sum) (weight w) (divisor_positive c.field (code_length c) c.rows) ((divisor_is c.field (code_length c) c.rows).divides w inside) (omega (arith, some, bound, sum_of_sets c claims))))
    holds.2)
    (λ e. omega (arith, e))
    (cases_lt (weight w) c.distance)

-- the scan as one set: the echelon rows, of which all combinations are seen
abbrev scan_set : Certificate → LevelSet
scan_set c = record { basis = first_basis c.field (code_length c) c.rows (below (code_length c)); fresh = []; matrix = echelon_rows c.field (code_length c) c.rows; level = code_dimension c }

one_apart : (s : LevelSet) → AllPairs (λ one other. (place : ℕ) → Contains one.fresh place → ¬ Contains other.fresh place) (s ∷ [])
one_apart s i j d l m = absurd (omega (arith, l, m))

pub scan_bound : (c : Certificate) (w : List ℕ) → IsShaped c → AreHeavy c scan → InSpan c.field (code_length c) c.rows w → 0 < weight w → c.distance ≤ weight w
unfolding seen_by code_dimension
scan_bound c w h heavy inside some =
    ⊎_elim
    (λ light.
    let f = c.field in
    let n = code_length c in
    let t = echelon_systematic f n c.rows h.rows_fit in
    let s = scan_set c in
    let count : length s.matrix ≡ dimension f n c.rows = t.systematic_on.count ∙ t.many in
    let is : IsLevelSet f n (dimension f n c.rows) c.rows s = record { many = t.many; systematic = t.systematic_on; part = λ k d l. absurd (omega (arith, l)); once = λ i j d l m. absurd (omega (arith, m)) } in
    let are : AreLevelSets f n (dimension f n c.rows) c.rows (s ∷ []) = record { each = All-cons (IsLevelSet f n (dimension f n c.rows) c.rows) s [] is (λ k d l. absurd (omega (arith, l))); apart = one_apart s } in
    let unseen : IsUnseen f n w s = unseen_lighter f n c.distance w s t.systematic_on.words some light (λ v m low most listed positive.
    let u = combine f n (vector_of (length s.matrix) m) s.matrix in
    let seen : Contains (words_through f n s.matrix (length s.matrix) (dimension f n c.rows)) u = seen_contains f n s.matrix (length s.matrix) (dimension f n c.rows) v m low most listed in
    All-contains (λ x. 0 < weight x → c.distance ≤ weight x) (seen_by c scan) u heavy (subst (λ k. Contains (words_through f n s.matrix k (dimension f n c.rows)) u) count seen) positive) in
    absurd (unseen_whole f n (dimension f n c.rows) c.rows (s ∷ []) w are inside some (All-cons (IsUnseen f n w) s [] unseen (λ k d l. absurd (omega (arith, l)))) s (contains_head s []) (omega arith)))
    (λ e. omega (arith, e))
    (cases_lt (weight w) c.distance)

proof_bound : (c : Certificate) (p : Proof) (w : List ℕ) → IsShaped c → AreShapedSets (code_length c) p → AreHeavy c p → SetsHold c p → InSpan c.field (code_length c) c.rows w → 0 < weight w → c.distance ≤ weight w
proof_bound c scan w h shaped heavy holds inside some = scan_bound c w h heavy inside some
proof_bound c (levels claims) w h shaped heavy holds inside some = levels_bound c claims w h shaped heavy holds inside some

pub certificates_are_sound : Sound
unfolding seen_words
certificates_are_sound c h v =
    weight_bound_attained c.field (code_length c) c.rows c.distance c.word
    (λ w inside some. proof_bound c c.proof w h h.sets_fit v.seen v.sets inside some)
    v.inside (omega (arith, v.attains, h.positive)) v.attains
