-- The verdict, reason by reason in the checker's order.
--   word_costly, span_told, word_outside, word_heavy, word_right      the cost and the word
--   sets_dependent, sets_overlap, sets_rest      the sets
--   bound_whole, bound_reached, bound_less       what the levels give
--   sets_are                   if nothing speaks against the sets, their bases are information sets
--   set_seen, scan_seen        the seen words of a set, and of a scan
--   sets_found, sets_passed, sets_end      the first lighter one of several sets
--   LevelsShaped, levels_shaped, scan_cost, levels_cost, scan_reasons, levels_reasons, claims_at      by the way of the proof
--   verdict_word, verdict_set, verdict_seen, verdict_clear      the verdict
--   accepted_exactly           a certificate is accepted exactly if it is valid
use Rattle.std.proofs.Common.{◌≡◌, ℕ, suc, ◌+◌, ◌^◌, ◌<◌, ◌≤◌, ◌↔◌, min, max, Bool, true, false, not, List, [], ◌∷◌, ◌++◌, map, sum, find, length, drop, slice_index_or, All, Option, Some, None, IfSome, IsSome, is_some, IsTrue, refl, sym, ap, ap₂, subst, ◌∙◌, arith}
use Rattle.std.specs.Option.{option_or}
use Rattle.std.proofs.Math.Seq.{drop-cons}
use Rattle.std.proofs.lemmas.Bool.{lt-ltb, le-ltb, eq-eqb, ne_eqb, le-leb, lt-leb, false≢true}
use Rattle.std.proofs.lemmas.List.{length-map, get_or-map}
use Rattle.std.proofs.lemmas.List.Concat.{flat_map-cons}
use Rattle.std.proofs.lemmas.List.Folds.{find-append}
use Rattle.lc_algebra.specs.Field.{size}
use Rattle.lc_algebra.specs.Word.{weight}
use Rattle.lc_algebra.specs.Span.{InSpan}
use Rattle.lc_algebra.specs.Matrix.{Matrix, IsSystematic, AreIndependentColumns}
use Rattle.lc_algebra.specs.Divisor.{divisor_of, rounded}
use Rattle.lc_algebra.proofs.SpanLaws.{same_span_transitive}
use Rattle.lc_algebra.proofs.ColumnLaws.{independent_columns_shared}
use Rattle.lc_algebra.proofs.ReducedLaws.{reduced_at_most}
use Rattle.lc_algebra.proofs.CommonLaws.{same_test, drop_whole}
use Rattle.lc_enumeration.specs.InformationSet.{in_span, is_member, systematic, echelon_rows}
use Rattle.lc_enumeration.specs.Search.{bound_sum}
use Rattle.lc_enumeration.proofs.MemberLaws.{in_span_true, true_in_span}
use Rattle.lc_formats.specs.Certificate.{Certificate, SetClaim, scan, levels, Reason, Verdict, accepted, rejected, too_costly, word_not_in_code, word_weight, set_not_information, fresh_overlap, bound_short, seen_lighter, code_length, code_dimension, level_in, messages_through, cost, cost_of, cost_reason, words_through, seen_by, seen_words, is_lighter, first_lighter, span_divisor, claimed_sum, first_dependent, least_overlap, reaches, or_else, when, carrying, set_reasons, verdict, IsValid}
use Rattle.lc_formats.specs.Shape.{IsShaped, IsShapedSet, AreShapedSets}
use Rattle.lc_formats.proofs.VerdictLaws.{else_accepted, sets_hold, accepted_is_valid, valid_is_accepted, carrying_none}
use Rattle.lc_checker.specs.Cost.{capped}
use Rattle.lc_checker.specs.Walk.{words_from}
use Rattle.lc_checker.specs.Sets.{IsMatrixOf, IsCodeOf, IsSetOf, word_reasons}
use Rattle.lc_checker.proofs.CodeLaws.{dimension_is, systematic_is, echelon_is}
use Rattle.lc_checker.proofs.MessageLaws.{through_is}
use Rattle.lc_checker.proofs.HeavyLaws.{next}

pub code_dimension_is : (c : Certificate) (C : Matrix) → IsCodeOf c C → code_dimension c ≡ length C.rows
unfolding code_dimension
code_dimension_is c C h = dimension_is c.field (code_length c) c.rows C.rows h.rows h.echelon

pub dimension_few : (c : Certificate) (C : Matrix) → IsShaped c → IsCodeOf c C → length C.rows ≤ 255
dimension_few c C s h = omega (arith, reduced_at_most (code_length c) C.rows h.echelon.reduced, s.few_columns)

-- ---- the cost and the word

cost_high : (n m : ℕ) → m ≡ capped n → 2 ^ 32 < m → cost_reason n ≡ Some (too_costly m)
unfolding cost_reason when
cost_high n m e l = rw (lt-ltb (2 ^ 32) n (omega (arith, e, l)), e) refl

cost_low : (n m : ℕ) → m ≡ capped n → m ≤ 2 ^ 32 → cost_reason n ≡ None
unfolding cost_reason when
cost_low n m e l = rw (le-ltb (2 ^ 32) n (omega (arith, e, l))) refl

pub word_costly : (c : Certificate) (m : ℕ) → m ≡ capped (cost c) → 2 ^ 32 < m → (later : Verdict) → word_reasons c later ≡ or_else (Some (too_costly m)) later
unfolding word_reasons or_else
word_costly c m e l later = rw (cost_high (cost c) m e l) refl

pub span_told : (c : Certificate) (M : Matrix) (b : Bool) → IsMatrixOf c M → IsTrue b ↔ InSpan M.field M.columns M.rows c.word → b ≡ in_span c.field (code_length c) c.rows c.word
span_told c M b h t =
    same_test b (in_span c.field (code_length c) c.rows c.word)
    (λ e. true_in_span c.field (code_length c) c.rows c.word (rw (h.field, h.columns, h.rows) at (t.0 e)))
    (λ e. t.1 (rw (h.field, h.columns, h.rows) (in_span_true c.field (code_length c) c.rows c.word e)))

pub word_outside : (c : Certificate) (m : ℕ) (b : Bool) → m ≡ capped (cost c) → m ≤ 2 ^ 32 → b ≡ in_span c.field (code_length c) c.rows c.word → b ≡ false → (later : Verdict) → word_reasons c later ≡ or_else (Some word_not_in_code) later
unfolding word_reasons or_else when
word_outside c m b e l t f later = rw (cost_low (cost c) m e l, sym t ∙ f) refl

pub word_heavy : (c : Certificate) (m w : ℕ) (b : Bool) → m ≡ capped (cost c) → m ≤ 2 ^ 32 → b ≡ in_span c.field (code_length c) c.rows c.word → b ≡ true → w ≡ weight c.word → (w ≡ c.distance → ⊥) → (later : Verdict) → word_reasons c later ≡ or_else (Some (word_weight w)) later
unfolding word_reasons or_else when
word_heavy c m w b e l t f q o later = rw (cost_low (cost c) m e l, sym t ∙ f, ne_eqb (weight c.word) c.distance (λ s. o (q ∙ s)), q) refl

pub word_right : (c : Certificate) (m w : ℕ) (b : Bool) → m ≡ capped (cost c) → m ≤ 2 ^ 32 → b ≡ in_span c.field (code_length c) c.rows c.word → b ≡ true → w ≡ weight c.word → w ≡ c.distance → (later : Verdict) → word_reasons c later ≡ or_else None later
unfolding word_reasons or_else when
word_right c m w b e l t f q s later = rw (cost_low (cost c) m e l, sym t ∙ f, eq-eqb (weight c.word) c.distance (sym q ∙ s)) refl

-- ---- the sets

pub sets_dependent : (c : Certificate) (claims : List SetClaim) (j : ℕ) → Some j ≡ first_dependent c 1 claims → (later : Verdict) → set_reasons c (levels claims) later ≡ or_else (Some (set_not_information j)) later
unfolding set_reasons or_else carrying
sets_dependent c claims j e later = rw (sym e) refl

pub sets_overlap : (c : Certificate) (claims : List SetClaim) (p : ℕ) → None ≡ first_dependent c 1 claims → Some p ≡ least_overlap c claims → (later : Verdict) → set_reasons c (levels claims) later ≡ or_else (Some (fresh_overlap p)) later
unfolding set_reasons or_else carrying
sets_overlap c claims p d e later = rw (sym d, sym e) refl

pub sets_rest : (c : Certificate) (claims : List SetClaim) (o : Option Reason) → None ≡ first_dependent c 1 claims → None ≡ least_overlap c claims → o ≡ when (not (reaches c claims)) (bound_short (claimed_sum c claims)) → (later : Verdict) → set_reasons c (levels claims) later ≡ or_else o later
unfolding set_reasons or_else carrying
sets_rest c claims o d e q later = rw (sym d, sym e) (ap (λ x. or_else x later) (sym q))

levels_are : (c : Certificate) (k : ℕ) (claims : List SetClaim) → code_dimension c ≡ k → map (λ claim. min claim.level k) claims ≡ map (level_in c) claims
unfolding level_in
levels_are c k claims e = rw (sym e) refl

pub bound_whole : (c : Certificate) (k : ℕ) (claims : List SetClaim) (r : Reason) (b : Bool) → code_dimension c ≡ k → b ≡ is_member (map (λ claim. min claim.level k) claims) k → b ≡ true → None ≡ when (not (reaches c claims)) r
unfolding reaches when
bound_whole c k claims r b e q t = rw (e, sym (levels_are c k claims e), sym q ∙ t) refl

sum_is : (c : Certificate) (M : Matrix) (k s : ℕ) (claims : List SetClaim) → IsMatrixOf c M → code_dimension c ≡ k → s ≡ rounded (divisor_of M) (max 1 (bound_sum k (map (λ claim. length claim.fresh) claims) (map (λ claim. min claim.level k) claims))) → s ≡ claimed_sum c claims
unfolding claimed_sum span_divisor divisor_of
sum_is c M k s claims h e q =
    q ∙ ap₂ (λ d t. rounded d (max 1 t)) (rw (h.field, h.columns, h.rows) refl) (ap₂ (λ m xs. bound_sum m (map (λ claim. length claim.fresh) claims) xs) (sym e) (levels_are c k claims e))

pub bound_reached : (c : Certificate) (M : Matrix) (k s : ℕ) (claims : List SetClaim) (r : Reason) (b : Bool) → IsMatrixOf c M → code_dimension c ≡ k → b ≡ is_member (map (λ claim. min claim.level k) claims) k → b ≡ false → s ≡ rounded (divisor_of M) (max 1 (bound_sum k (map (λ claim. length claim.fresh) claims) (map (λ claim. min claim.level k) claims))) → c.distance ≤ s → None ≡ when (not (reaches c claims)) r
unfolding reaches when
bound_reached c M k s claims r b h e q t z l = rw (e, sym (levels_are c k claims e), sym q ∙ t, le-leb c.distance (claimed_sum c claims) (omega (arith, l, sum_is c M k s claims h e z))) refl

pub bound_less : (c : Certificate) (M : Matrix) (k s : ℕ) (claims : List SetClaim) (b : Bool) → IsMatrixOf c M → code_dimension c ≡ k → b ≡ is_member (map (λ claim. min claim.level k) claims) k → b ≡ false → s ≡ rounded (divisor_of M) (max 1 (bound_sum k (map (λ claim. length claim.fresh) claims) (map (λ claim. min claim.level k) claims))) → s < c.distance → Some (bound_short s) ≡ when (not (reaches c claims)) (bound_short (claimed_sum c claims))
unfolding reaches when
bound_less c M k s claims b h e q t z l =
    let same = sum_is c M k s claims h e z in
    rw (e, sym (levels_are c k claims e), sym q ∙ t, lt-leb c.distance (claimed_sum c claims) (omega (arith, l, same))) (ap (λ x. Some (bound_short x)) same)

pub sets_are : (c : Certificate) (C : Matrix) (claims : List SetClaim) → IsCodeOf c C → ((later : Verdict) → set_reasons c (levels claims) later ≡ later) → All (IsSetOf C) claims
unfolding set_reasons
sets_are c C claims h e =
    let one = else_accepted (carrying set_not_information (first_dependent c 1 claims)) _ (e accepted) in
    let holds = sets_hold c 1 claims h.rows (carrying_none set_not_information (first_dependent c 1 claims) one.0) in
    λ k d l.
    let t = holds k d l in
    record {
      many = t.0 ∙ code_dimension_is c C h;
      free = subst (λ f. AreIndependentColumns f C.rows (slice_index_or claims k d).basis) (sym h.field) (independent_columns_shared c.field (code_length c) c.rows C.rows (slice_index_or claims k d).basis h.rows h.echelon.words h.echelon.same t.1);
    }

-- ---- the seen words

pub set_seen : (c : Certificate) (C G : Matrix) (basis : List ℕ) (claim : SetClaim) (d k level : ℕ) → IsCodeOf c C → length claim.basis ≡ length C.rows → k ≡ length C.rows → level ≡ min claim.level k → basis ≡ claim.basis → G.field ≡ C.field → G.columns ≡ C.columns → IsSystematic C.field C.columns C.rows basis G.rows → find (is_lighter d) (words_from G.field G.columns G.rows 1 level) ≡ find (is_lighter d) (words_through c.field (code_length c) (systematic c.field (code_length c) c.rows claim.basis) (code_dimension c) (level_in c claim))
unfolding level_in
set_seen c C G basis claim d k level h many e q b ff nn s =
    let f = c.field in
    let n = code_length c in
    let on : IsSystematic f n C.rows claim.basis G.rows = rw (h.field, h.columns, b) at s in
    let whole : IsSystematic f n c.rows claim.basis G.rows = record { same = same_span_transitive f n c.rows C.rows G.rows h.echelon.same on.same; words = on.words; count = on.count; identity = on.identity } in
    let same = systematic_is f n c.rows G.rows claim.basis whole in
    let dim = code_dimension_is c C h in
    let count : code_dimension c ≡ length G.rows = dim ∙ sym many ∙ sym on.count in
    let lev : level ≡ min claim.level (code_dimension c) = q ∙ ap (min claim.level) (e ∙ sym dim) in
    ap₂ (λ x y. find (is_lighter d) (words_from x y G.rows 1 level)) (ff ∙ h.field) (nn ∙ h.columns)
    ∙ ap (λ m. find (is_lighter d) (words_from f n G.rows 1 m)) lev
    ∙ ap (find (is_lighter d)) (sym (through_is f n (code_dimension c) G.rows (min claim.level (code_dimension c)) on.words count))
    ∙ ap (λ rows. find (is_lighter d) (words_through f n rows (code_dimension c) (min claim.level (code_dimension c)))) (sym same)

scan_is : (c : Certificate) → find (is_lighter c.distance) (words_through c.field (code_length c) (echelon_rows c.field (code_length c) c.rows) (code_dimension c) (code_dimension c)) ≡ find (is_lighter c.distance) (seen_by c scan)
unfolding seen_by
scan_is c = refl

pub scan_seen : (c : Certificate) (C : Matrix) (k : ℕ) → IsCodeOf c C → k ≡ length C.rows → c.proof ≡ scan → find (is_lighter c.distance) (words_from C.field C.columns C.rows 1 k) ≡ first_lighter c
unfolding first_lighter seen_words
scan_seen c C k h e p =
    let f = c.field in
    let n = code_length c in
    let dim = code_dimension_is c C h in
    ap₂ (λ x y. find (is_lighter c.distance) (words_from x y C.rows 1 k)) h.field h.columns
    ∙ ap (λ m. find (is_lighter c.distance) (words_from f n C.rows 1 m)) (e ∙ sym dim)
    ∙ ap (find (is_lighter c.distance)) (sym (through_is f n (code_dimension c) C.rows (code_dimension c) h.echelon.words dim))
    ∙ ap (λ rows. find (is_lighter c.distance) (words_through f n rows (code_dimension c) (code_dimension c))) (sym (echelon_is f n c.rows C.rows h.rows h.echelon))
    ∙ scan_is c
    ∙ ap (λ x. find (is_lighter c.distance) (seen_by c x)) (sym p)

pub levels_seen : (c : Certificate) (claims : List SetClaim) → c.proof ≡ levels claims → find (is_lighter c.distance) (seen_by c (levels claims)) ≡ first_lighter c
unfolding first_lighter seen_words
levels_seen c claims e = ap (λ p. find (is_lighter c.distance) (seen_by c p)) (sym e)

abbrev pub words_of_set : Certificate → SetClaim → List (List ℕ)
words_of_set c claim = words_through c.field (code_length c) (systematic c.field (code_length c) c.rows claim.basis) (code_dimension c) (level_in c claim)

seen_cons : (c : Certificate) (claim : SetClaim) (claims : List SetClaim) → seen_by c (levels (claim ∷ claims)) ≡ words_of_set c claim ++ seen_by c (levels claims)
unfolding seen_by
seen_cons c claim claims = flat_map-cons (words_of_set c) claim claims

seen_nil : (c : Certificate) → seen_by c (levels []) ≡ []
unfolding seen_by
seen_nil c = refl

seen_more : {X : Type 0} (c : Certificate) (g : X → SetClaim) (xs : List X) (i : ℕ) (d : X) → i < length xs → seen_by c (levels (drop i (map g xs))) ≡ words_of_set c (g (slice_index_or xs i d)) ++ seen_by c (levels (drop (i + 1) (map g xs)))
seen_more c g xs i d l =
    let inside : i < length (map g xs) = omega (arith, l, length-map xs g) in
    ap (λ cs. seen_by c (levels cs)) (drop-cons (map g xs) i (g d) inside)
    ∙ seen_cons c (slice_index_or (map g xs) i (g d)) (drop (suc i) (map g xs))
    ∙ ap₂ (λ s m. words_of_set c s ++ seen_by c (levels (drop m (map g xs)))) (get_or-map g xs i d (g d) l) (next i)

pub sets_found : {X : Type 0} (c : Certificate) (g : X → SetClaim) (xs : List X) (i t : ℕ) (d : X) (w : List ℕ) (o : Option (List ℕ)) → i < length xs → o ≡ find (is_lighter t) (seen_by c (levels (drop i (map g xs)))) → Some w ≡ find (is_lighter t) (words_of_set c (g (slice_index_or xs i d))) → Some w ≡ o
sets_found c g xs i t d w o l h e =
    let later = find (is_lighter t) (seen_by c (levels (drop (i + 1) (map g xs)))) in
    sym (h ∙ ap (find (is_lighter t)) (seen_more c g xs i d l) ∙ find-append (is_lighter t) (words_of_set c (g (slice_index_or xs i d))) (seen_by c (levels (drop (i + 1) (map g xs)))) ∙ ap (λ a. option_or a later) (sym e))

pub sets_passed : {X : Type 0} (c : Certificate) (g : X → SetClaim) (xs : List X) (i t : ℕ) (d : X) (o : Option (List ℕ)) → i < length xs → o ≡ find (is_lighter t) (seen_by c (levels (drop i (map g xs)))) → None ≡ find (is_lighter t) (words_of_set c (g (slice_index_or xs i d))) → o ≡ find (is_lighter t) (seen_by c (levels (drop (i + 1) (map g xs))))
sets_passed c g xs i t d o l h e =
    let later = find (is_lighter t) (seen_by c (levels (drop (i + 1) (map g xs)))) in
    h ∙ ap (find (is_lighter t)) (seen_more c g xs i d l) ∙ find-append (is_lighter t) (words_of_set c (g (slice_index_or xs i d))) (seen_by c (levels (drop (i + 1) (map g xs)))) ∙ ap (λ a. option_or a later) (sym e)

pub sets_end : (c : Certificate) (claims : List SetClaim) (i t : ℕ) (o : Option (List ℕ)) → length claims ≤ i → o ≡ find (is_lighter t) (seen_by c (levels (drop i claims))) → None ≡ o
sets_end c claims i t o l h = sym (h ∙ ap (λ cs. find (is_lighter t) (seen_by c (levels cs))) (drop_whole claims i l) ∙ ap (find (is_lighter t)) (seen_nil c))

-- ---- the verdict

verdict_parts : (c : Certificate) → verdict c ≡ word_reasons c (set_reasons c c.proof (or_else (carrying seen_lighter (first_lighter c)) accepted))
unfolding verdict word_reasons
verdict_parts c = refl

pub verdict_word : (c : Certificate) (r : Reason) → ((later : Verdict) → word_reasons c later ≡ or_else (Some r) later) → rejected r ≡ verdict c
unfolding or_else
verdict_word c r h = sym (verdict_parts c ∙ h (set_reasons c c.proof (or_else (carrying seen_lighter (first_lighter c)) accepted)))

pub verdict_set : (c : Certificate) (r : Reason) → ((later : Verdict) → word_reasons c later ≡ later) → ((later : Verdict) → set_reasons c c.proof later ≡ or_else (Some r) later) → rejected r ≡ verdict c
unfolding or_else
verdict_set c r h k = sym (verdict_parts c ∙ h _ ∙ k (or_else (carrying seen_lighter (first_lighter c)) accepted))

pub verdict_seen : (c : Certificate) (w : List ℕ) → ((later : Verdict) → word_reasons c later ≡ later) → ((later : Verdict) → set_reasons c c.proof later ≡ later) → Some w ≡ first_lighter c → rejected (seen_lighter w) ≡ verdict c
unfolding or_else carrying
verdict_seen c w h k e = sym (verdict_parts c ∙ h _ ∙ k (or_else (carrying seen_lighter (first_lighter c)) accepted) ∙ ap (λ o. or_else (carrying seen_lighter o) accepted) (sym e))

pub verdict_clear : (c : Certificate) → ((later : Verdict) → word_reasons c later ≡ later) → ((later : Verdict) → set_reasons c c.proof later ≡ later) → None ≡ first_lighter c → accepted ≡ verdict c
unfolding or_else carrying
verdict_clear c h k e = sym (verdict_parts c ∙ h _ ∙ k (or_else (carrying seen_lighter (first_lighter c)) accepted) ∙ ap (λ o. or_else (carrying seen_lighter o) accepted) (sym e))

pub accepted_exactly : (c : Certificate) (v : Verdict) → IsShaped c → v ≡ verdict c → (v ≡ accepted) ↔ IsValid c
accepted_exactly c v h e = ((λ a. accepted_is_valid c h (sym e ∙ a)), (λ a. e ∙ valid_is_accepted c h a))

-- ---- shapes and costs of certificates

pub record LevelsShaped (c : Certificate) (claims : List SetClaim) : Type 0 where
  pub few : length claims ≤ 255
  pub each : All (IsShapedSet (code_length c)) claims

pub levels_shaped : (c : Certificate) (claims : List SetClaim) → IsShaped c → c.proof ≡ levels claims → LevelsShaped c claims
levels_shaped c claims h e =
    let t : AreShapedSets (code_length c) (levels claims) = subst (AreShapedSets (code_length c)) e h.sets_fit in
    record { few = t.1; each = t.2 }

pub scan_cost : (c : Certificate) (k q n : ℕ) → c.proof ≡ scan → k ≡ code_dimension c → q ≡ size c.field → n ≡ capped (q ^ k) → n ≡ capped (cost c)
unfolding cost cost_of
scan_cost c k q n e d s h = h ∙ ap₂ (λ a b. capped (a ^ b)) s d ∙ ap (λ p. capped (cost_of c p)) (sym e)

pub levels_cost : (c : Certificate) (claims : List SetClaim) (k q n : ℕ) → c.proof ≡ levels claims → k ≡ code_dimension c → q ≡ size c.field → n ≡ capped (sum (map (λ claim. messages_through k q (min claim.level k)) claims)) → n ≡ capped (cost c)
unfolding cost cost_of level_in
levels_cost c claims k q n e d s h = h ∙ ap₂ (λ a b. capped (sum (map (λ claim. messages_through a b (min claim.level a)) claims))) d s ∙ ap (λ p. capped (cost_of c p)) (sym e)

pub scan_reasons : (c : Certificate) → c.proof ≡ scan → (later : Verdict) → set_reasons c c.proof later ≡ or_else None later
unfolding set_reasons or_else
scan_reasons c e later = rw e refl

pub levels_reasons : (c : Certificate) (claims : List SetClaim) (o : Option Reason) → c.proof ≡ levels claims → ((later : Verdict) → set_reasons c (levels claims) later ≡ or_else o later) → (later : Verdict) → set_reasons c c.proof later ≡ or_else o later
levels_reasons c claims o e h later = ap (λ p. set_reasons c p later) e ∙ h later

pub some_told : {X : Type 0} (P : X → Type 0) (o : Option X) (x : X) → o ≡ Some x → IfSome o P → P x
some_told P o x e h = subst (λ q. IfSome q P) e h

pub not_none : {X : Type 0} (o : Option X) → o ≡ None → IsSome o → ⊥
not_none o e h = absurd (false≢true (sym (ap is_some e) ∙ h))

pub claims_at : {X : Type 0} (P : SetClaim → Type 0) (g : X → SetClaim) (xs : List X) (i : ℕ) (d : X) → i < length xs → All P (map g xs) → P (g (slice_index_or xs i d))
claims_at P g xs i d l a = subst P (get_or-map g xs i d (g d) l) (a i (g d) (omega (arith, l, length-map xs g)))
