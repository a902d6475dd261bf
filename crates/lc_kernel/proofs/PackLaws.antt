-- The weight of a message's word off its set, and the bits of words over 2 elements there.
--   count_split                  what is counted in a list, by what passes a test
--   weight_split                 the weight of a word, by its symbols in a set and outside it
--   symbols_of                   a word has its message on the basis of its set
--   weight_of_word               the weight of a message's word: its level, and its symbols outside the basis
--   outside_inside, others_few      the columns outside a set are columns
--   pack_none, pack_step, pack_room      the bits of a word, from its last column on
--   bits_none, bits_more         the bits of the word of an entry more
use Rattle.std.proofs.Common.{◌≡◌, ℕ, suc, ◌+◌, ◌-◌, ◌*◌, ◌^◌, ◌<◌, ◌≤◌, Bool, not, if◌then◌else◌, List, [], ◌∷◌, length, drop, filter, bit_xor, count_ones, count_by, slice_index, slice_index_or, Contains, refl, sym, ap, ◌∙◌, ⊎_elim, arith}
use Rattle.std.proofs.Math.Nat.{pow-le-pow_right}
use Rattle.std.proofs.lemmas.Bool.{cases_Bool, eq-eqb, ne_eqb}
use Rattle.std.proofs.lemmas.List.{get_or_default, ext_get_or, drop_all, length-drop, get_or-drop}
use Rattle.std.proofs.lemmas.List.Sums.{length-filter, count_by-le-length}
use Rattle.lc_algebra.specs.declared.FieldName.{FieldName}
use Rattle.lc_algebra.specs.declared.FieldName.TheVariants.{Gf2}
use Rattle.lc_algebra.specs.Field.{size}
use Rattle.lc_algebra.specs.Word.{IsWord, Fits, word_sum, scale, weight}
use Rattle.lc_algebra.specs.Span.{below, combine, AreIndependent}
use Rattle.lc_algebra.specs.Matrix.{Matrix, AreRows, IsIdentityOn, entry}
use Rattle.lc_algebra.specs.SpanLaws.{restrict}
use Rattle.lc_algebra.proofs.EmbeddingTests.{size_two}
use Rattle.lc_algebra.proofs.WordLaws.{fits_symbol, one_scale}
use Rattle.lc_algebra.proofs.SpanLaws.{contains_below, below_contains, length_below}
use Rattle.lc_algebra.proofs.ColumnLaws.{index_restrict, length_restrict, restrict_sum, restrict_zero}
use Rattle.lc_algebra.proofs.ReducedLaws.{symbol_of_combination}
use Rattle.lc_algebra.proofs.DimensionLaws.{AreDistinct, distinct_below, distinct_from_pairs}
use Rattle.lc_enumeration.specs.Message.{messages, vector_of}
use Rattle.lc_enumeration.specs.InformationSet.{is_member}
use Rattle.lc_enumeration.specs.Search.{set_count, generator_at, front_of}
use Rattle.lc_enumeration.proofs.MemberLaws.{member_true, true_member}
use Rattle.lc_infoset.specs.Bound.{set_at}
use Rattle.lc_infoset.proofs.AnswerLaws.{filter_keeps}
use Rattle.lc_infoset.proofs.BoundLaws.{count_cons, counts_part, weight_by_places, weight_restrict, place_inside, has_symbol}
use Rattle.lc_infoset.proofs.SetLaws.{filter_passes, distinct_filter}
use Rattle.lc_infoset.proofs.GreedyLaws.{generators_are}
use Rattle.lc_place.specs.Order.{IsLeadingVector}
use Rattle.lc_place.specs.Place.{SpotState, spot_message}
use Rattle.lc_place.proofs.Messages.{message_shape, from_contains}
use Rattle.lc_place.proofs.Vectors.{vector_is_leading}
use Rattle.lc_algebra.proofs.FieldLaws.{one_inside}
use Rattle.lc_algebra.proofs.SpanLaws.{length_combine}
use Rattle.std.proofs.lemmas.List.Elements.{All-get_or, Contains-get_or}
use Rattle.lc_kernel.specs.Sums.{front_word}
use Rattle.lc_kernel.proofs.FrontLaws.{entries_are, generates, front_first, front_next, front_whole, front_word_fits}
use Rattle.lc_vec.specs.Packed.{packed}
use Rattle.lc_vec.proofs.PackLaws.{packed_sum, packed_ones, packed_small, packed_nil, packed_drop, zero_packed}
use Rattle.lc_kernel.specs.Packed.{outside, others, bits_at, AreRowBits}
use Rattle.lc_planes.proofs.ApartLaws.{restrict_fits}

count_split : {X : Type 0} (h p : X → Bool) (xs : List X) → count_by h xs ≡ count_by h (filter p xs) + count_by h (filter (λ x. not (p x)) xs)
count_split h p [] = refl
count_split h p (x ∷ xs) =
    let t = count_split h p xs in
    let c = count_cons h x xs in
    ⊎_elim
    (λ e. rw e (omega (arith, t, c, count_cons h x (filter p xs))))
    (λ e. rw e (omega (arith, t, c, count_cons h x (filter (λ x. not (p x)) xs))))
    (cases_Bool (p x))

-- equal counts of two lists that have the same elements, each once
count_same : {X : Type 0} (h : X → Bool) (xs ys : List X) → AreDistinct xs → AreDistinct ys → ((x : X) → Contains xs x → Contains ys x) → ((x : X) → Contains ys x → Contains xs x) → count_by h xs ≡ count_by h ys
count_same h xs ys a b f g = let s = (counts_part h xs ys a f).few in let t = (counts_part h ys xs b g).few in omega (arith, s, t)

identity_distinct : (n : ℕ) (set : List ℕ) (rows : List (List ℕ)) → length rows ≡ length set → IsIdentityOn set rows → AreDistinct set
identity_distinct n set rows e h = distinct_from_pairs set (λ i j d l m same.
    let one : entry rows i (slice_index set i) ≡ 1 = h i i (omega (arith, l, m, e)) (omega (arith, l, m)) ∙ ap (λ b. if b then 1 else 0) (eq-eqb i i refl) in
    let none : entry rows i (slice_index set j) ≡ 0 = h i j (omega (arith, l, m, e)) m ∙ ap (λ b. if b then 1 else 0) (ne_eqb i j (λ q. omega (arith, l, q))) in
    let at : slice_index set i ≡ slice_index set j = get_or_default set i 0 d (omega (arith, l, m)) ∙ same ∙ get_or_default set j d 0 m in
    omega (arith, one, none, ap (entry rows i) at))

pub weight_split : (f : FieldName) (n : ℕ) (set : List ℕ) (rows : List (List ℕ)) (w : List ℕ) → AreRows f n rows → length rows ≡ length set → IsIdentityOn set rows → length w ≡ n → weight w ≡ weight (restrict set w) + weight (restrict (outside n set) w)
weight_split f n set rows w r e h long =
    let inside = filter (is_member set) (below n) in
    let all = count_split (has_symbol w) (is_member set) (below n) in
    let same : count_by (has_symbol w) inside ≡ count_by (has_symbol w) set = count_same (has_symbol w) inside set (distinct_filter (is_member set) (below n) (distinct_below n)) (identity_distinct n set rows e h)
    (λ c l. true_member set c (filter_passes (is_member set) (below n) c l).passes)
    (λ c l. filter_keeps (is_member set) (below n) c (below_contains n c (place_inside f n set rows c r e h l)) (member_true set c l)) in
    weight_by_places n w long ∙ all ∙ omega (arith, same, weight_restrict set w, weight_restrict (filter (λ c. not (is_member set c)) (below n)) w)

symbols_of : (f : FieldName) (n : ℕ) (set : List ℕ) (rows : List (List ℕ)) (cs : List ℕ) → AreRows f n rows → length rows ≡ length set → IsIdentityOn set rows → IsWord f (length rows) cs → restrict set (combine f n cs rows) ≡ cs
symbols_of f n set rows cs r e h w =
    ext_get_or 0 (restrict set (combine f n cs rows)) cs (length_restrict set (combine f n cs rows) ∙ sym e ∙ sym w.long) (λ i l.
    let m : i < length set = omega (arith, l, length_restrict set (combine f n cs rows)) in
    index_restrict set (combine f n cs rows) i m ∙ symbol_of_combination f n set rows cs i r e h w m)

pub weight_of_word : (C : Matrix) (s : SpotState) → AreRows C.field C.columns C.rows → AreIndependent C.field C.columns C.rows → s.set < set_count C → Contains (messages (length C.rows) (size C.field) (length s.support)) (spot_message s) → 0 < length s.support → weight (front_word C s (length s.support)) ≡ length s.support + weight (restrict (others C s.set) (front_word C s (length s.support)))
unfolding front_word
weight_of_word C s rows free l message some =
    let k = length C.rows in
    let g = generators_are C rows free s.set l in
    let n = from_contains _ _ message in
    let shape = message_shape k (size C.field) (length s.support) n.0 (spot_message s) n.1 in
    let v = vector_of k (spot_message s) in
    let lead : IsLeadingVector k (size C.field) (length s.support) v = vector_is_leading k (size C.field) (length s.support) (spot_message s) (one_inside C.field) some shape in
    let count : length (generator_at C s.set) ≡ length (set_at C s.set).basis = g.1.count in
    let many : length (generator_at C s.set) ≡ k = count ∙ g.0 in
    let word : IsWord C.field (length (generator_at C s.set)) v = record { long = lead.many ∙ sym many; fits = λ i m. lead.entries i (omega (arith, m, lead.many)) } in
    let w = combine C.field C.columns v (generator_at C s.set) in
    let whole : front_of (spot_message s) (length s.support) ≡ spot_message s = front_whole (spot_message s) (length s.support) refl (sym (entries_are C s message).many) in
    let split = weight_split C.field C.columns (set_at C s.set).basis (generator_at C s.set) w g.1.words count g.1.identity (length_combine C.field C.columns v (generator_at C s.set) g.1.words) in
    let basis : weight (restrict (set_at C s.set).basis w) ≡ length s.support = ap weight (symbols_of C.field C.columns (set_at C s.set).basis (generator_at C s.set) v g.1.words count g.1.identity word) ∙ lead.weighs in
    rw whole (split ∙ ap (λ x. x + weight (restrict (others C s.set) w)) basis)

-- over 2 elements

sum_of_bits : (f : FieldName) (u v : List ℕ) → f ≡ Gf2 → length u ≡ length v → Fits f u → Fits f v → packed (word_sum f u v) ≡ bit_xor (packed u) (packed v)
sum_of_bits f u v e = rw e (packed_sum u v)

ones_of_bits : (f : FieldName) (u : List ℕ) → f ≡ Gf2 → Fits f u → count_ones (packed u) ≡ weight u
ones_of_bits f u e = rw e (packed_ones u)

tail_sum : (C : Matrix) (cols u v : List ℕ) → C.field ≡ Gf2 → IsWord C.field C.columns u → IsWord C.field C.columns v → bits_at cols (word_sum C.field u v) ≡ bit_xor (bits_at cols u) (bits_at cols v)
unfolding bits_at
tail_sum C cols u v e h i =
    ap packed (restrict_sum C.field cols u v (h.long ∙ sym i.long)) ∙ sum_of_bits C.field (restrict cols u) (restrict cols v) e (length_restrict cols u ∙ sym (length_restrict cols v)) (restrict_fits C.field C.columns cols u h) (restrict_fits C.field C.columns cols v i)

pub tail_ones : (C : Matrix) (cols u : List ℕ) → C.field ≡ Gf2 → IsWord C.field C.columns u → count_ones (bits_at cols u) ≡ weight (restrict cols u)
unfolding bits_at
tail_ones C cols u e h = ones_of_bits C.field (restrict cols u) e (restrict_fits C.field C.columns cols u h)

pub bits_none : (C : Matrix) (cols : List ℕ) (s : SpotState) → AreRows C.field C.columns C.rows → AreIndependent C.field C.columns C.rows → s.set < set_count C → bits_at cols (front_word C s 0) ≡ 0
unfolding bits_at
bits_none C cols s rows free l = ap (λ w. packed (restrict cols w)) (front_first C s (generates C s.set rows free l)) ∙ ap packed (restrict_zero cols C.columns) ∙ zero_packed (length cols)

pub bits_more : (C : Matrix) (cols : List ℕ) (s : SpotState) (bits : List ℕ) (i : ℕ) → C.field ≡ Gf2 → AreRows C.field C.columns C.rows → AreIndependent C.field C.columns C.rows → s.set < set_count C → Contains (messages (length C.rows) (size C.field) (length s.support)) (spot_message s) → AreRowBits C s.set cols bits → i < length s.support → bits_at cols (front_word C s (suc i)) ≡ bit_xor (bits_at cols (front_word C s i)) (slice_index bits (slice_index s.support i))
bits_more C cols s bits i e rows free l message b m =
    let g = generates C s.set rows free l in
    let t = entries_are C s message in
    let r = slice_index s.support i in
    let row = slice_index_or (generator_at C s.set) r [] in
    let word : IsWord C.field C.columns row = All-get_or (IsWord C.field C.columns) (generator_at C s.set) r [] (omega (arith, t.row i m, g.count)) g.rows in
    let low : 1 ≤ slice_index s.coefficients i = t.fitting.some i (omega (arith, m, t.many)) in
    let size_is : size C.field ≡ 2 = ap size e ∙ size_two in
    let one : slice_index s.coefficients i ≡ 1 = omega (arith, low, t.element i m, size_is) in
    let next : front_word C s (suc i) ≡ word_sum C.field (front_word C s i) row = front_next C s i g t m ∙ ap (word_sum C.field (front_word C s i)) (ap (λ c. scale C.field c row) one ∙ one_scale C.field row word.fits) in
    ap (bits_at cols) next ∙ tail_sum C cols (front_word C s i) row e (front_word_fits C s i g) word ∙ ap (bit_xor (bits_at cols (front_word C s i))) (sym (b.bits r (t.row i m)))

pub others_few : (C : Matrix) (j : ℕ) → length (others C j) ≤ C.columns
others_few C j =
    let fresh = λ (c : ℕ). not (is_member (set_at C j).basis c) in
    omega (arith, length-filter fresh (below C.columns), count_by-le-length fresh (below C.columns), length_below C.columns)

pub outside_inside : (n t : ℕ) (set : List ℕ) → t < length (outside n set) → slice_index (outside n set) t < n
outside_inside n t set l = contains_below n (slice_index (outside n set) t) (filter_passes (λ c. not (is_member set c)) (below n) (slice_index (outside n set) t) (Contains-get_or (outside n set) t 0 l)).member

pub pack_none : (cols word : List ℕ) → 0 ≡ packed (drop (length cols) (restrict cols word))
pack_none cols word = sym (ap packed (drop_all (length cols) (restrict cols word) (omega (arith, length_restrict cols word))) ∙ packed_nil)

pub pack_step : (cols word : List ℕ) (t : ℕ) → t < length cols → packed (drop t (restrict cols word)) ≡ packed (drop (suc t) (restrict cols word)) * 2 + slice_index word (slice_index cols t)
pack_step cols word t l =
    packed_drop (restrict cols word) t (omega (arith, l, length_restrict cols word)) ∙ ap (λ x. packed (drop (suc t) (restrict cols word)) * 2 + x) (index_restrict cols word t l)

pub pack_room : (cols word : List ℕ) (t : ℕ) → Fits Gf2 word → length cols ≤ 64 → t < length cols → packed (drop (suc t) (restrict cols word)) < 2 ^ 63
pack_room cols word t h few l =
    let R = restrict cols word in
    let long : length (drop (suc t) R) ≡ length cols - suc t = length-drop (suc t) R ∙ ap (λ n. n - suc t) (length_restrict cols word) in
    let fits : Fits Gf2 (drop (suc t) R) = λ i m. rw (get_or-drop (suc t) R i 0) (rw (index_restrict cols word (suc t + i) (omega (arith, m, long, l))) (fits_symbol Gf2 word h (slice_index cols (suc t + i)))) in
    let small = packed_small (drop (suc t) R) fits in
    let short : length (drop (suc t) R) ≤ 63 = omega (arith, long, few, l) in
    let power = pow-le-pow_right {n = 2} (omega arith) short in
    omega (arith, small, power)
