-- The bound of a search: a word that isn't seen below l is at least as heavy as the bound at l.
--   message_is_leading, message_word      the vector of a message
--   level_word                 the word of a message over a systematic matrix is a word of the code
--   unseen_set, unseen_sets    a word that isn't seen below l is unseen by the sets of the search
--   unseen_none                there is none if some level is k
--   unseen_bound               it has at least the weight of the bound
use Rattle.std.proofs.Common.{◌≡◌, ℕ, ◌<◌, ◌≤◌, max, Bool, if◌then◌else◌, List, length, All, Contains, sym, ap, subst, ◌∙◌, inr, ⊎_elim, arith}
use Rattle.std.proofs.lemmas.Bool.{cases_Bool}
use Rattle.lc_algebra.specs.declared.FieldName.{FieldName}
use Rattle.lc_algebra.specs.Field.{size}
use Rattle.lc_algebra.specs.Word.{IsWord, weight, scale}
use Rattle.lc_algebra.specs.Span.{combine, below, InSpan}
use Rattle.lc_algebra.specs.Matrix.{Matrix, AreRows}
use Rattle.lc_algebra.specs.Divisor.{IsDivisible, rounded}
use Rattle.lc_algebra.proofs.FieldLaws.{one_inside, inverse_of, inverse_nonzero, mul_comm}
use Rattle.lc_algebra.proofs.SpanLaws.{contains_map, map_contains, contains_below, span_word, word_of_combination}
use Rattle.lc_algebra.proofs.DivisorLaws.{rounded_within}
use Rattle.lc_enumeration.specs.Message.{Message, messages, vector_of}
use Rattle.lc_enumeration.specs.InformationSet.{is_member}
use Rattle.lc_enumeration.specs.Search.{set_count, generator_at, level_below, levels_below, ranks_of, bound_sum, bound_of, bound}
use Rattle.lc_enumeration.specs.Truth.{IsAtPlace, IsSeenBelow}
use Rattle.lc_enumeration.proofs.MemberLaws.{true_member}
use Rattle.lc_enumeration.proofs.GreedyLaws.{each_contained}
use Rattle.lc_place.specs.Order.{IsLeadingVector}
use Rattle.lc_place.proofs.Vectors.{leading_vectors}
use Rattle.lc_infoset.specs.Bound.{IsUnseen, AreGenerators}
use Rattle.lc_infoset.proofs.BoundLaws.{unseen_weight, unseen_whole}
use Rattle.lc_infoset.proofs.MultipleLaws.{inverse_multiple, unseen_from_messages}
use Rattle.lc_infoset.proofs.SeenLaws.{seen_place}
use Rattle.lc_infoset.proofs.SetLaws.{level_set, search_sets, search_sets_are, search_bound, levels_are}

pub message_is_leading : (f : FieldName) (k w : ℕ) (m : Message) → 0 < w → Contains (messages k (size f) w) m → IsLeadingVector k (size f) w (vector_of k m)
message_is_leading f k w m p l = (leading_vectors k (size f) w (vector_of k m) (one_inside f) p).0 (map_contains (vector_of k) (messages k (size f) w) m l)

pub message_word : (f : FieldName) (k w : ℕ) (m : Message) → 0 < w → Contains (messages k (size f) w) m → IsWord f k (vector_of k m)
message_word f k w m p l =
    let v = message_is_leading f k w m p l in
    record { long = v.many; fits = λ i inside. v.entries i (omega (arith, inside, v.many)) }

pub level_word : (C : Matrix) (j w : ℕ) (m : Message) → AreGenerators C → j < set_count C → 0 < w → Contains (messages (length C.rows) (size C.field) w) m → InSpan C.field C.columns C.rows (combine C.field C.columns (vector_of (length C.rows) m) (generator_at C j))
level_word C j w m g inside p l =
    let s = (g j inside).1 in
    let rows : length C.rows ≡ length (generator_at C j) = sym (s.count ∙ (g j inside).0) in
    (s.same (combine C.field C.columns (vector_of (length C.rows) m) (generator_at C j))).1 (word_of_combination C.field C.columns (generator_at C j) (vector_of (length C.rows) m) (subst (λ k. IsWord C.field k (vector_of (length C.rows) m)) rows (message_word C.field (length C.rows) w m p l)))

pub unseen_set : (C : Matrix) (l j : ℕ) (c : List ℕ) → AreRows C.field C.columns C.rows → AreGenerators C → (IsSeenBelow C l c → ⊥) → j < set_count C → IsUnseen C.field C.columns c (level_set C l j)
unseen_set C l j c r g unseen inside =
    let rows : length (generator_at C j) ≡ length C.rows = (g j inside).1.count ∙ (g j inside).0 in
    unseen_from_messages C.field C.columns c (level_set C l j) (λ w a m p few small some listed same.
    let here : Contains (messages (length C.rows) (size C.field) w) m = subst (λ k. Contains (messages k (size C.field) w) m) rows listed in
    let word = combine C.field C.columns (vector_of (length C.rows) m) (generator_at C j) in
    let fits = (span_word C.field C.columns C.rows word r (level_word C j w m g inside p here)).fits in
    let s = seen_place C l j w m inside p few here in
    let i = inverse_of C.field a small some in
    let same_here : c ≡ scale C.field a word = same ∙ ap (λ k. scale C.field a (combine C.field C.columns (vector_of k m) (generator_at C j))) rows in
    let back : scale C.field i.0 c ≡ word = ap (scale C.field i.0) same_here ∙ inverse_multiple C.field i.0 a word fits (mul_comm C.field i.0 a ∙ i.1.one) in
    unseen (record { multiple = (i.0, s.place, inverse_nonzero C.field a i.0 i.1, i.1.inside, inr s.before, subst (IsAtPlace C (set_count C) s.place) (sym back) s.there) }))

pub unseen_sets : (C : Matrix) (l : ℕ) (c : List ℕ) → AreRows C.field C.columns C.rows → AreGenerators C → (IsSeenBelow C l c → ⊥) → All (IsUnseen C.field C.columns c) (search_sets C l)
unseen_sets C l c r g unseen = each_contained (IsUnseen C.field C.columns c) (search_sets C l) (λ s m.
    let t = contains_map (level_set C l) (below (set_count C)) s m in
    subst (IsUnseen C.field C.columns c) (sym t.2) (unseen_set C l t.0 c r g unseen (contains_below (set_count C) t.0 t.1)))

pub unseen_none : (C : Matrix) (l : ℕ) (c : List ℕ) → AreRows C.field C.columns C.rows → AreGenerators C → InSpan C.field C.columns C.rows c → 0 < weight c → (IsSeenBelow C l c → ⊥) → Contains (levels_below C l) (length C.rows) → ⊥
unseen_none C l c r g i p unseen whole =
    let t = contains_map (level_below C l) (below (set_count C)) (length C.rows) (subst (λ ls. Contains ls (length C.rows)) (levels_are C l) whole) in
    unseen_whole C.field C.columns (length C.rows) C.rows (search_sets C l) c (search_sets_are C l g) i p (unseen_sets C l c r g unseen) (level_set C l t.0) (map_contains (level_set C l) (below (set_count C)) t.0 t.1) (omega (arith, t.2))

pub unseen_bound : (d : ℕ) (C : Matrix) (l x : ℕ) (c : List ℕ) → AreRows C.field C.columns C.rows → AreGenerators C → 0 < d → IsDivisible C.field C.columns C.rows d → InSpan C.field C.columns C.rows c → 0 < weight c → (IsSeenBelow C l c → ⊥) → bound d C l x ≤ weight c
unfolding bound bound_of
unseen_bound d C l x c r g some divides i p unseen =
    let k = length C.rows in
    let sum = bound_sum k (ranks_of C) (levels_below C l) in
    let goal = λ (b : Bool). (if b then x else rounded d (max 1 sum)) ≤ weight c in
    ⊎_elim
    (λ t. absurd (unseen_none C l c r g i p unseen (true_member (levels_below C l) k t)))
    (λ t. subst goal (sym t) (
    let heavy = unseen_weight C.field C.columns k C.rows (search_sets C l) c r (search_sets_are C l g) i p (unseen_sets C l c r g unseen) in
    rounded_within d (max 1 sum) (weight c) some (divides c i) (omega (arith, heavy, search_bound C l, p))))
    (cases_Bool (is_member (levels_below C l) k))
