-- The words of a run: of messages over 2 elements that share all but their last t entries.
--   support_parts              a support is its head and its last pair
--   all_ones                   all coefficients are 1
--   bits_rest                  the bits of a word: those of a front, and the rows of its other entries
--   run_word                   the bits of a word of a run: those of its head and of its tail
--   run_ones                   how many nonzero symbols a word of a run has in a part of the columns
--   run_at, part_counted, counted_few      the counts of a run after one more part, and their bound
--   block_weight           the weight of a word of a block
--   last_message, last_long, next_offset      the last message of a head, how long it is, and the one after it
--   spot_next                  the spot after a step
--   index_of_pair, index_of_triple      the index of a spot's last two places, and of its last three
--   tail_found                 the index of the tail of a spot
use Rattle.std.proofs.Common.{◌≡◌, ℕ, zero, suc, ◌+◌, ◌-◌, ◌*◌, ◌<◌, ◌≤◌, Bool, if◌then◌else◌, List, [], ◌∷◌, ◌++◌, length, take, drop, replicate, get_or, bit_xor, count_ones, slice_get, slice_index, slice_index_or, Some, None, Contains, refl, sym, ap, subst, ◌∙◌, arith, length-append}
use Rattle.std.specs.Int.Bits.{xor_assoc, xor_zero_r}
use Rattle.std.proofs.Math.Seq.{get_or-append_seam, take-append_seam, drop-append_seam, drop-cons}
use Rattle.std.proofs.lemmas.Nat.{xor_comm}
use Rattle.std.proofs.lemmas.List.{take-append-drop, drop_all, get_or_default, get_or-take, length-take-le, length-replicate, get_or-drop, get_or-append-add}
use Rattle.std.proofs.lemmas.Option.{slice_get_within, slice_get-get_or, get_or_from_slice_get}
use Rattle.lc_algebra.specs.declared.FieldName.TheVariants.{Gf2}
use Rattle.lc_algebra.specs.Field.{size}
use Rattle.lc_algebra.specs.Word.{weight}
use Rattle.lc_algebra.specs.SpanLaws.{restrict}
use Rattle.lc_algebra.proofs.EmbeddingTests.{size_two}
use Rattle.lc_algebra.proofs.WordLaws.{weight_at_most_length}
use Rattle.lc_algebra.proofs.ColumnLaws.{length_restrict}
use Rattle.lc_algebra.specs.Span.{AreIndependent}
use Rattle.lc_algebra.specs.Matrix.{Matrix, AreRows}
use Rattle.lc_enumeration.specs.Message.{Message, messages, supports_from, numbers_from}
use Rattle.lc_enumeration.specs.Plan.{phase_level, phase_set, blocks_before, block_length, IsInPhase}
use Rattle.lc_enumeration.specs.Search.{set_count, word_of, block_words}
use Rattle.lc_place.specs.Place.{PlanSize, SpotState, spot_message}
use Rattle.lc_place.proofs.Coefficients.{length-numbers_from}
use Rattle.lc_place.proofs.Supports.{support_shape}
use Rattle.lc_place.proofs.Messages.{message_of, message_shape, to_contains, from_contains, length-messages}
use Rattle.lc_place.proofs.Runs.{support_of, message_of_support, message_along}
use Rattle.lc_kernel.specs.Kernel.{IsPlanOf}
use Rattle.lc_kernel.specs.Sums.{front_word}
use Rattle.lc_kernel.specs.Values.{IsMessageOf, IsSpotAt}
use Rattle.lc_kernel.specs.Packed.{others, bits_at, row_sum, head_of, tail_of, pair_of, AreStarts, AreRowBits, IsPart}
use Rattle.lc_planes.specs.Planes.{part_at}
use Rattle.lc_distances.specs.Least.{AreCounted}
use Rattle.lc_kernel.proofs.FrontLaws.{entries_are, generates, front_word_is, front_word_fits, front_whole, front_same}
use Rattle.lc_kernel.proofs.PackLaws.{weight_of_word, tail_ones, bits_more}
use Rattle.lc_planes.proofs.ApartLaws.{part_more}
use Rattle.lc_enumeration.proofs.SearchLaws.{few_in_block}
use Rattle.lc_kernel.proofs.SupportLaws.{tail_pair, pair_at, tail_at, starts_rise, last_tail}
use Rattle.lc_kernel.proofs.ScanLaws.{block_word, block_long, next_is}

pub support_parts : (s : List ℕ) → 2 ≤ length s → s ≡ take (length s - 2) s ++ slice_index s (length s - 2) ∷ slice_index s (length s - 1) ∷ []
support_parts s l = sym (take-append-drop (length s - 2) s) ∙ ap (λ x. take (length s - 2) s ++ x) (tail_pair s l)

two_elements : (C : Matrix) → C.field ≡ Gf2 → size C.field ≡ 2
two_elements C e = ap size e ∙ size_two

binary : (C : Matrix) (n w : ℕ) (m : Message) → C.field ≡ Gf2 → slice_get (messages (length C.rows) (size C.field) w) n ≡ Some m → slice_get (messages (length C.rows) 2 w) n ≡ Some m
binary C n w m e h = subst (λ q. slice_get (messages (length C.rows) q w) n ≡ Some m) (two_elements C e) h

unbinary : (C : Matrix) (n w : ℕ) (m : Message) → C.field ≡ Gf2 → slice_get (messages (length C.rows) 2 w) n ≡ Some m → slice_get (messages (length C.rows) (size C.field) w) n ≡ Some m
unbinary C n w m e h = subst (λ q. slice_get (messages (length C.rows) q w) n ≡ Some m) (sym (two_elements C e)) h

same_coefficients : (a b : Message) → Some a ≡ Some b → a.coefficients ≡ b.coefficients
same_coefficients a b e = let t : a ≡ b = cc (e) in ap (λ (m : Message). m.coefficients) t

pub all_ones : (k w n : ℕ) (m : Message) → slice_get (messages k 2 w) n ≡ Some m → m.coefficients ≡ replicate w 1
all_ones k w n m e = same_coefficients m (message_of m.support (replicate w 1)) (sym e ∙ message_of_support k w n m.support (support_of k w n m e))

-- the spot of another tail with the same head
abbrev with_tail : SpotState → ℕ → List ℕ → SpotState
with_tail s t u = record { set = s.set; support = head_of t s ++ u; coefficients = replicate (length s.support) 1; room = 0 }

head_long : (t : ℕ) (s : SpotState) → length (head_of t s) ≡ length s.support - t
head_long t s = length-take-le (length s.support - t) s.support (omega arith)

long_tail : (t : ℕ) (s : SpotState) (u : List ℕ) → t ≤ length s.support → length u ≡ t → length (head_of t s ++ u) ≡ length s.support
long_tail t s u l e = length-append (head_of t s) u ∙ omega (arith, head_long t s, l, e)

pub first_of_pair : (h : List ℕ) (a b : ℕ) → slice_index (h ++ a ∷ b ∷ []) (length h) ≡ a
first_of_pair h a b = get_or-append_seam h a (b ∷ []) 0

pub second_of_pair : (h : List ℕ) (a b : ℕ) → slice_index (h ++ a ∷ b ∷ []) (suc (length h)) ≡ b
second_of_pair h a b = let e : length h + 1 ≡ suc (length h) = omega arith in ap (slice_index (h ++ a ∷ b ∷ [])) (sym e) ∙ get_or-append-add h (a ∷ b ∷ []) 1 0

-- what a run needs: a spot at a message of its level, over 2 elements, and a part of the table of its set
pub record IsRunAt (C : Matrix) (cols : List ℕ) (t : ℕ) (s : SpotState) (rows sums : List ℕ) (prefix r : ℕ) : Type 0 where
  pub rows_are : AreRows C.field C.columns C.rows
  pub free : AreIndependent C.field C.columns C.rows
  pub set : s.set < set_count C
  pub message : Contains (messages (length C.rows) (size C.field) (length s.support)) (spot_message s)
  pub some : 0 < t
  pub level : t ≤ length s.support
  pub part : IsPart C s.set t cols rows sums
  pub prefix_is : prefix ≡ bits_at cols (front_word C s (length s.support - t))
  pub tail_is : slice_get (supports_from 0 (length C.rows) t) r ≡ Some (tail_of t s)

ones_of : (C : Matrix) (s : SpotState) → C.field ≡ Gf2 → Contains (messages (length C.rows) (size C.field) (length s.support)) (spot_message s) → s.coefficients ≡ replicate (length s.support) 1
ones_of C s e h = let n = from_contains _ _ h in all_ones (length C.rows) (length s.support) n.0 (spot_message s) (binary C n.0 (length s.support) (spot_message s) e n.1)

along : (C : Matrix) (t : ℕ) (s : SpotState) (n r j : ℕ) (u : List ℕ) → C.field ≡ Gf2 → 0 < t → slice_get (messages (length C.rows) (size C.field) (length s.support)) n ≡ Some (spot_message s) → slice_get (supports_from 0 (length C.rows) t) r ≡ Some (tail_of t s) → slice_get (supports_from 0 (length C.rows) t) (r + j) ≡ Some u → slice_get (messages (length C.rows) (size C.field) (length s.support)) (n + j) ≡ Some (message_of (head_of t s ++ u) (replicate (length s.support) 1))
along C t s n r j u e some at a b =
    unbinary C (n + j) (length s.support) (message_of (head_of t s ++ u) (replicate (length s.support) 1)) e (message_along (length C.rows) (length s.support) t n r j (head_of t s) (tail_of t s) u (spot_message s) some (binary C n (length s.support) (spot_message s) e at) (sym (take-append-drop (length s.support - t) s.support)) a b)

pub bits_rest : (C : Matrix) (cols : List ℕ) (s : SpotState) (rows : List ℕ) (n i : ℕ) → C.field ≡ Gf2 → AreRows C.field C.columns C.rows → AreIndependent C.field C.columns C.rows → s.set < set_count C → Contains (messages (length C.rows) (size C.field) (length s.support)) (spot_message s) → AreRowBits C s.set cols rows → i + n ≡ length s.support → bits_at cols (front_word C s (length s.support)) ≡ bit_xor (bits_at cols (front_word C s i)) (row_sum rows (drop i s.support))
unfolding row_sum
bits_rest C cols s rows zero i e a f l message b at =
    let all : length s.support ≡ i = omega (arith, at) in
    let none : drop i s.support ≡ [] = drop_all i s.support (omega (arith, all)) in
    let front = bits_at cols (front_word C s i) in
    ap (λ z. bits_at cols (front_word C s z)) all ∙ sym (xor_zero_r front) ∙ ap (λ z. bit_xor front (row_sum rows z)) (sym none)
bits_rest C cols s rows (suc n) i e a f l message b at =
    let inside : i < length s.support = omega (arith, at) in
    let row = slice_index rows (slice_index s.support i) in
    let front = bits_at cols (front_word C s i) in
    let later = row_sum rows (drop (suc i) s.support) in
    let next : bits_at cols (front_word C s (suc i)) ≡ bit_xor front row = bits_more C cols s rows i e a f l message b inside in
    let rest : bits_at cols (front_word C s (length s.support)) ≡ bit_xor (bits_at cols (front_word C s (suc i))) later = bits_rest C cols s rows n (suc i) e a f l message b (omega (arith, at)) in
    rest ∙ ap (λ z. bit_xor z later) next ∙ xor_assoc front row later ∙ ap (λ z. bit_xor front (row_sum rows z)) (sym (drop-cons s.support i 0 inside))

pub run_word : (C : Matrix) (cols : List ℕ) (t : ℕ) (s : SpotState) (rows sums : List ℕ) (prefix r n j : ℕ) (u : List ℕ) → IsRunAt C cols t s rows sums prefix r → slice_get (messages (length C.rows) (size C.field) (length s.support)) n ≡ Some (spot_message s) → slice_get (supports_from 0 (length C.rows) t) (r + j) ≡ Some u → bits_at cols (front_word C (with_tail s t u) (length s.support)) ≡ bit_xor (slice_index sums (r + j)) prefix
run_word C cols t s rows sums prefix r n j u h at there =
    let e = h.part.field in
    let v = with_tail s t u in
    let w = length s.support in
    let many : length u ≡ t = (support_shape 0 (length C.rows) t (r + j) u there).many in
    let w_is : length v.support ≡ w = long_tail t s u h.level many in
    let message : Contains (messages (length C.rows) (size C.field) (length v.support)) (spot_message v) = rw w_is (to_contains (messages (length C.rows) (size C.field) w) (spot_message v) (n + j) (along C t s n r j u e h.some at h.tail_is there)) in
    let i = length (head_of t s) in
    let whole : bits_at cols (front_word C v (length v.support)) ≡ bit_xor (bits_at cols (front_word C v i)) (row_sum rows (drop i v.support)) = bits_rest C cols v rows t i e h.rows_are h.free h.set message h.part.bits (omega (arith, w_is, head_long t s, h.level)) in
    let front : front_word C v i ≡ front_word C s i = front_same C s v i i (omega arith) refl (take-append_seam (head_of t s) u ∙ ap (λ z. take z s.support) (sym (head_long t s))) (ap (take i) (sym (ones_of C s e h.message))) in
    let prefix_here : bits_at cols (front_word C v i) ≡ prefix = ap (bits_at cols) (front ∙ ap (front_word C s) (head_long t s)) ∙ sym h.prefix_is in
    let rest : drop i v.support ≡ u = drop-append_seam (head_of t s) u in
    ap (λ z. bits_at cols (front_word C v z)) (sym w_is) ∙ whole ∙ ap (λ z. bit_xor z (row_sum rows (drop i v.support))) prefix_here ∙ ap (λ z. bit_xor prefix (row_sum rows z)) rest ∙ xor_comm prefix (row_sum rows u) ∙ ap (λ z. bit_xor z prefix) (sym (h.part.tails.sum (r + j) u there))

-- the nonzero symbols of a word of a run in a part of the columns
pub run_ones : (C : Matrix) (cols : List ℕ) (t m p b n r j : ℕ) (s : SpotState) (rows sums : List ℕ) (prefix : ℕ) → IsInPhase (length C.rows) (size C.field) m p b → IsMessageOf C m b n s p → IsRunAt C cols t s rows sums prefix r → r + j < length (supports_from 0 (length C.rows) t) → n + j < 4096 → weight (restrict cols (slice_index_or (block_words C m b) (n + j) [])) ≡ count_ones (bit_xor (slice_index sums (r + j)) prefix)
run_ones C cols t m p b n r j s rows sums prefix phase here h inside few =
    let k = length C.rows in
    let w = length s.support in
    let tails = supports_from 0 k t in
    let from = 4096 * (b - blocks_before k (size C.field) m p) in
    let u = get_or tails (r + j) [] in
    let there : slice_get tails (r + j) ≡ Some u = slice_get-get_or tails (r + j) [] inside in
    let shape = support_shape 0 k t (r + j) u there in
    let v = with_tail s t u in
    let at : slice_get (messages k (size C.field) w) (from + n) ≡ Some (spot_message s) = rw here.level here.message in
    let bits = run_word C cols t s rows sums prefix r (from + n) j u h at there in
    let next : slice_get (messages k (size C.field) w) (from + n + j) ≡ Some (spot_message v) = along C t s (from + n) r j u h.part.field h.some at h.tail_is there in
    let place : from + n + j ≡ from + (n + j) = omega arith in
    let next_here : slice_get (messages k (size C.field) (phase_level m p)) (from + (n + j)) ≡ Some (spot_message v) = subst (λ z. slice_get (messages k (size C.field) z) (from + (n + j)) ≡ Some (spot_message v)) here.level (subst (λ z. slice_get (messages k (size C.field) w) z ≡ Some (spot_message v)) place next) in
    let word = block_word C m p b (n + j) (spot_message v) phase few next_here in
    let long : w ≡ length v.support = sym (long_tail t s u h.level shape.many) in
    let whole = front_whole (spot_message v) w long (sym (length-replicate w 1)) in
    let word_is : word_of C m p (spot_message v) ≡ front_word C v w = ap (word_of C m p) (sym whole) ∙ front_word_is C m p v w here.set in
    let read : slice_index_or (block_words C m b) (n + j) [] ≡ front_word C v w = get_or_from_slice_get (block_words C m b) (n + j) (word_of C m p (spot_message v)) [] word ∙ word_is in
    ap (λ z. weight (restrict cols z)) read ∙ sym (tail_ones C cols (front_word C v w) h.part.field (front_word_fits C v w (generates C s.set h.rows_are h.free h.set))) ∙ ap count_ones bits

-- a place of a spot and the next one
places_rise : (C : Matrix) (s : SpotState) (i j : ℕ) → Contains (messages (length C.rows) (size C.field) (length s.support)) (spot_message s) → suc i ≡ j → j < length s.support → (slice_index s.support i < slice_index s.support j) × (slice_index s.support j < length C.rows)
places_rise C s i j message next l =
    let t = entries_are C s message in
    (subst (λ z. slice_index s.support i < slice_index s.support z) next (t.fitting.rises i (omega (arith, next, l))), t.row j l)

-- the last two places of a spot, as the code reads them
pub record PairRead (C : Matrix) (s : SpotState) (starts : List ℕ) : Type 0 where
  pub rises : slice_index s.support (length s.support - 2) < slice_index s.support (length s.support - 1)
  pub inside : slice_index s.support (length s.support - 1) < length C.rows
  pub started : slice_index s.support (length s.support - 2) < length starts

pub pair_read : (C : Matrix) (s : SpotState) (starts : List ℕ) → AreStarts (length C.rows) 2 starts → Contains (messages (length C.rows) (size C.field) (length s.support)) (spot_message s) → 2 ≤ length s.support → PairRead C s starts
pair_read C s starts h message l =
    let (rises, inside) = places_rise C s (length s.support - 2) (length s.support - 1) message (omega (arith, l)) (omega (arith, l)) in
    record { rises = rises; inside = inside; started = omega (arith, rises, inside, h.firsts) }

pub index_of_pair : (C : Matrix) (s : SpotState) (starts : List ℕ) → AreStarts (length C.rows) 2 starts → Contains (messages (length C.rows) (size C.field) (length s.support)) (spot_message s) → 2 ≤ length s.support → slice_get (supports_from 0 (length C.rows) 2) (slice_index starts (slice_index s.support (length s.support - 2)) + (slice_index s.support (length s.support - 1) - slice_index s.support (length s.support - 2) - 1)) ≡ Some (pair_of s)
index_of_pair C s starts h message l =
    let p = pair_read C s starts h message l in
    let a = slice_index s.support (length s.support - 2) in
    let b = slice_index s.support (length s.support - 1) in
    let d = b - a - 1 in
    let at = pair_at (length C.rows) a (slice_index starts a) d (h.first a (omega (arith, p.rises, p.inside))) (omega (arith, p.rises, p.inside)) in
    let e : a + 1 + d ≡ b = omega (arith, p.rises) in
    at ∙ ap (λ z. Some (a ∷ z ∷ [])) e

-- the last three places of a spot, as the code reads them
pub record TripleRead (C : Matrix) (s : SpotState) (pairs : List ℕ) (r : ℕ) : Type 0 where
  pub inside : slice_index s.support (length s.support - 3) + 1 < length C.rows
  pub after : slice_index pairs (slice_index s.support (length s.support - 3) + 1) ≤ r

pub triple_read : (C : Matrix) (s : SpotState) (pairs : List ℕ) (r : ℕ) → AreStarts (length C.rows) 2 pairs → Contains (messages (length C.rows) (size C.field) (length s.support)) (spot_message s) → 3 ≤ length s.support → slice_index pairs (slice_index s.support (length s.support - 2)) ≤ r → TripleRead C s pairs r
triple_read C s pairs r h message l from =
    let a = slice_index s.support (length s.support - 3) in
    let b = slice_index s.support (length s.support - 2) in
    let (rises, inside) = places_rise C s (length s.support - 3) (length s.support - 2) message (omega (arith, l)) (omega (arith, l)) in
    let first = starts_rise (length C.rows) 2 (a + 1) b (slice_index pairs (a + 1)) (slice_index pairs b) (h.first (a + 1) (omega (arith, rises, inside))) (h.first b (omega (arith, inside))) (omega (arith, rises)) in
    record { inside = omega (arith, rises, inside); after = omega (arith, first, from) }

pub index_of_triple : (C : Matrix) (s : SpotState) (pairs starts : List ℕ) (r : ℕ) → AreStarts (length C.rows) 2 pairs → AreStarts (length C.rows) 3 starts → 3 ≤ length s.support → TripleRead C s pairs r → slice_get (supports_from 0 (length C.rows) 2) r ≡ Some (pair_of s) → slice_get (supports_from 0 (length C.rows) 3) (slice_index starts (slice_index s.support (length s.support - 3)) + (r - slice_index pairs (slice_index s.support (length s.support - 3) + 1))) ≡ Some (tail_of 3 s)
index_of_triple C s pairs starts r h i l read at =
    let k = length C.rows in
    let n = length s.support - 3 in
    let a = slice_index s.support n in
    let f = slice_index pairs (a + 1) in
    let place : f + (r - f) ≡ r = omega (arith, read.after) in
    let found = tail_at k 2 a (slice_index starts a) f (r - f) (pair_of s) (omega (arith, read.inside)) (i.first a (omega (arith, read.inside))) (h.first (a + 1) (omega (arith, read.inside))) (ap (slice_get (supports_from 0 k 2)) place ∙ at) in
    let next : suc n ≡ length s.support - 2 = omega (arith, l) in
    let tail : tail_of 3 s ≡ a ∷ pair_of s = drop-cons s.support n 0 (omega (arith, l)) ∙ ap (λ z. a ∷ drop z s.support) next ∙ ap (λ x. a ∷ x) (tail_pair s.support (omega (arith, l))) in
    found ∙ ap Some (sym tail)

-- the index of the tail of a spot, as the code finds it
pub record IsTailAt (C : Matrix) (s : SpotState) (t r x y : ℕ) : Type 0 where
  pub after : y ≤ r
  pub is : slice_get (supports_from 0 (length C.rows) t) (x + (r - y)) ≡ Some (tail_of t s)

pub tail_found : (C : Matrix) (s : SpotState) (pairs starts u : List ℕ) (t r x y : ℕ) → AreStarts (length C.rows) 2 pairs → AreStarts (length C.rows) t starts → t ≡ 3 → TripleRead C s pairs r → t ≤ length s.support → u ≡ s.support → slice_get (supports_from 0 (length C.rows) 2) r ≡ Some (pair_of s)
    → x ≡ slice_index_or starts (slice_index u (length u - 3)) x
    → y ≡ slice_index_or pairs (slice_index u (length u - 3) + 1) y
    → IsTailAt C s t r x y
tail_found C s pairs starts u t r x y h i three read l e at first second =
    let room : 3 ≤ length s.support = omega (arith, three, l) in
    let a = slice_index s.support (length s.support - 3) in
    let place : slice_index u (length u - 3) ≡ a = ap (λ z. slice_index z (length z - 3)) e in
    let x_is : x ≡ slice_index starts a = first ∙ ap (λ z. slice_index_or starts z x) place ∙ get_or_default starts a x 0 (omega (arith, read.inside, i.firsts)) in
    let y_is : y ≡ slice_index pairs (a + 1) = second ∙ ap (λ z. slice_index_or pairs (z + 1) y) place ∙ get_or_default pairs (a + 1) y 0 (omega (arith, read.inside, h.firsts)) in
    let found = index_of_triple C s pairs starts r h (subst (λ z. AreStarts (length C.rows) z starts) three i) room read at in
    let index : x + (r - y) ≡ slice_index starts a + (r - slice_index pairs (a + 1)) = omega (arith, x_is, y_is) in
    record {
      after = omega (arith, y_is, read.after);
      is = ap (slice_get (supports_from 0 (length C.rows) t)) index ∙ subst (λ z. slice_get (supports_from 0 (length C.rows) z) (slice_index starts a + (r - slice_index pairs (a + 1))) ≡ Some (tail_of z s)) (sym three) found;
    }

pub last_message : (C : Matrix) (t : ℕ) (s last : SpotState) (starts : List ℕ) (n r j : ℕ) → C.field ≡ Gf2 → 0 < t → t ≤ length s.support → AreStarts (length C.rows) t starts → Contains (messages (length C.rows) (size C.field) (length s.support)) (spot_message s) → slice_get (messages (length C.rows) (size C.field) (length s.support)) n ≡ Some (spot_message s) → slice_get (supports_from 0 (length C.rows) t) r ≡ Some (tail_of t s) → r + j ≡ length (supports_from 0 (length C.rows) t) - 1
    → last.support ≡ head_of t s ++ numbers_from (length C.rows - t) t → last.coefficients ≡ s.coefficients
    → slice_get (messages (length C.rows) (size C.field) (length s.support)) (n + j) ≡ Some (spot_message last)
last_message C t s last starts n r j e some l h message at tail end support coefficients =
    let k = length C.rows in
    let few = (entries_are C s message).few in
    let there = last_tail k t (slice_index starts (k - t)) (h.first (k - t) (omega arith)) (omega (arith, l, few)) in
    along C t s n r j (numbers_from (k - t) t) e some at tail (ap (slice_get (supports_from 0 k t)) end ∙ there) ∙ ap Some (cc (support, coefficients, ones_of C s e message))

pub last_long : (C : Matrix) (t : ℕ) (s last : SpotState) → t ≤ length s.support → last.support ≡ head_of t s ++ numbers_from (length C.rows - t) t → length last.support ≡ length s.support
last_long C t s last l support = ap length support ∙ long_tail t s (numbers_from (length C.rows - t) t) l (length-numbers_from (length C.rows - t) t)

pub last_is_message : (C : Matrix) (plan : PlanSize) (t : ℕ) (s last : SpotState) (starts : List ℕ) (r : ℕ) → IsPlanOf plan C → C.field ≡ Gf2 → 0 < t → t ≤ length s.support → AreStarts (length C.rows) t starts → Contains (messages (length C.rows) (size C.field) (length s.support)) (spot_message s) → slice_get (supports_from 0 (length C.rows) t) r ≡ Some (tail_of t s) → last.support ≡ head_of t s ++ numbers_from (length C.rows - t) t → last.coefficients ≡ s.coefficients → Contains (messages plan.k plan.q (length last.support)) (spot_message last)
last_is_message C plan t s last starts r p e some l h message tail support coefficients =
    let n = from_contains _ _ message in
    let tails = supports_from 0 (length C.rows) t in
    let j = length tails - 1 - r in
    let end : r + j ≡ length tails - 1 = omega (arith, slice_get_within tails r (tail_of t s) tail) in
    let at = last_message C t s last starts n.0 r j e some l h message n.1 tail end support coefficients in
    let long : length last.support ≡ length s.support = last_long C t s last l support in
    rw (p.dimension, p.field, long) (to_contains (messages (length C.rows) (size C.field) (length s.support)) (spot_message last) (n.0 + j) at)

pub inside_level : (C : Matrix) (m p b n : ℕ) → IsInPhase (length C.rows) (size C.field) m p b → n < length (block_words C m b) → 4096 * (b - blocks_before (length C.rows) (size C.field) m p) + n < length (messages (length C.rows) (size C.field) (phase_level m p))
unfolding block_length
inside_level C m p b n h l = omega (arith, l, block_long C m p b h, length-messages (length C.rows) (size C.field) (phase_level m p))

pub next_offset : (C : Matrix) (plan : PlanSize) (t b from done : ℕ) (s last new : SpotState) (starts : List ℕ) (o : Bool) → IsPlanOf plan C → C.field ≡ Gf2 → 0 < t → t ≤ length s.support → AreStarts (length C.rows) t starts → IsSpotAt C plan.m b from s
    → ((r : ℕ) × (slice_get (supports_from 0 (length C.rows) t) r ≡ Some (tail_of t s)) × (r + (done - from) ≡ length (supports_from 0 (length C.rows) t)))
    → from < done
    → done < length (block_words C plan.m b)
    → last.support ≡ head_of t s ++ numbers_from (length C.rows - t) t
    → last.coefficients ≡ s.coefficients
    → last.set ≡ s.set
    → ((n : ℕ) → slice_get (messages plan.k plan.q (length last.support)) n ≡ Some (spot_message last) → slice_get (messages plan.k plan.q (length last.support)) (n + 1) ≡ (if o then Some (spot_message new) else None))
    → Contains (messages plan.k plan.q (length new.support)) (spot_message new)
    → length new.support ≡ length last.support
    → new.set ≡ last.set
    → IsSpotAt C plan.m b done new
next_offset C plan t b from done s last new starts o p e some l h at end later inside support coefficients same_set next message level set_is =
    let long : length last.support ≡ length s.support = last_long C t s last l support in
    let next_here : (n : ℕ) → slice_get (messages (length C.rows) (size C.field) (length last.support)) n ≡ Some (spot_message last) → slice_get (messages (length C.rows) (size C.field) (length last.support)) (n + 1) ≡ (if o then Some (spot_message new) else None) = rw (← p.dimension, ← p.field) next in
    let r = end.0 in
    let tail = end.1 in
    let tails = supports_from 0 (length C.rows) t in
    let j = done - from - 1 in
    let last_index : r + j ≡ length tails - 1 = omega (arith, end.2, later) in
    record {
      set = omega (arith, set_is, same_set, at.set);
      level = omega (arith, level, long, l, some);
      message = rw (← p.dimension, ← p.field) message;
      of_block = λ phase i.
          let now = at.of_block phase i in
          let start = 4096 * (b - blocks_before (length C.rows) (size C.field) plan.m phase) in
          let w = length s.support in
          let here : slice_get (messages (length C.rows) (size C.field) w) (start + from) ≡ Some (spot_message s) = rw now.level now.message in
          let before : slice_get (messages (length C.rows) (size C.field) w) (start + from + j) ≡ Some (spot_message last) = last_message C t s last starts (start + from) r j e some l h at.message here tail last_index support coefficients in
          let step : slice_get (messages (length C.rows) (size C.field) (length last.support)) (start + from + j + 1) ≡ (if o then Some (spot_message new) else None) = next_here (start + from + j) (rw long before) in
          let place : start + from + j + 1 ≡ start + done = omega (arith, later) in
          let all = messages (length C.rows) (size C.field) (phase_level plan.m phase) in
          let there : slice_get all (start + done) ≡ (if o then Some (spot_message new) else None) = subst (λ z. slice_get (messages (length C.rows) (size C.field) z) (start + done) ≡ (if o then Some (spot_message new) else None)) (long ∙ now.level) (subst (λ z. slice_get (messages (length C.rows) (size C.field) (length last.support)) z ≡ (if o then Some (spot_message new) else None)) place step) in
          record {
            message = next_is o all (start + done) (spot_message new) (inside_level C plan.m phase b done i inside) there;
            level = level ∙ long ∙ now.level;
            set = set_is ∙ same_set ∙ now.set;
          };
    }

pub run_at : (C : Matrix) (cols : List ℕ) (t m b n : ℕ) (s : SpotState) (rows sums : List ℕ) (prefix r : ℕ) → AreRows C.field C.columns C.rows → AreIndependent C.field C.columns C.rows → s.set < set_count C → IsSpotAt C m b n s → 0 < t → t ≤ length s.support → IsPart C s.set t cols rows sums → prefix ≡ bits_at cols (front_word C s (length s.support - t)) → slice_get (supports_from 0 (length C.rows) t) r ≡ Some (tail_of t s) → IsRunAt C cols t s rows sums prefix r
run_at C cols t m b n s rows sums prefix r a f l at some level part prefix_is tail_is = record {
  rows_are = a;
  free = f;
  set = l;
  message = at.message;
  some = some;
  level = level;
  part = part;
  prefix_is = prefix_is;
  tail_is = tail_is;
}

-- the counts of a run after one more part of the columns
pub part_counted : (C : Matrix) (cols : List ℕ) (t m p b done r part many : ℕ) (s : SpotState) (rows sums old new piece : List ℕ) (prefix : ℕ) → IsInPhase (length C.rows) (size C.field) m p b → IsSpotAt C m b done s → IsRunAt C (part_at cols part) t s rows sums prefix r → r + many ≤ length (supports_from 0 (length C.rows) t) → done + many ≤ length (block_words C m b) → piece ≡ take many (drop r sums)
    → ((i : ℕ) → i < many → slice_index new i ≡ slice_index old i + count_ones (bit_xor (slice_index piece i) prefix))
    → AreCounted (take (64 * part) cols) (block_words C m b) done many old
    → AreCounted (take (64 * (part + 1)) cols) (block_words C m b) done many new
part_counted C cols t m p b done r part many s rows sums old new piece prefix phase at h pairs words piece_is is counted i l =
    let few = few_in_block C m b in
    let w = slice_index_or (block_words C m b) (done + i) [] in
    let read : slice_index piece i ≡ slice_index sums (r + i) = ap (λ z. slice_index z i) piece_is ∙ get_or-take many (drop r sums) i 0 l ∙ get_or-drop r sums i 0 in
    let ones : weight (restrict (part_at cols part) w) ≡ count_ones (bit_xor (slice_index sums (r + i)) prefix) = run_ones C (part_at cols part) t m p b done r i s rows sums prefix phase (at.of_block p phase) h (omega (arith, pairs, l)) (omega (arith, words, few, l)) in
    let here : slice_index new i ≡ slice_index old i + count_ones (bit_xor (slice_index sums (r + i)) prefix) = is i l ∙ ap (λ z. slice_index old i + count_ones (bit_xor z prefix)) read in
    omega (arith, here, ones, counted i l, part_more cols w part)

-- counts are at most the number of columns
pub counted_few : (C : Matrix) (m b from n : ℕ) (cols counts : List ℕ) → length cols ≤ 255 → AreCounted cols (block_words C m b) from n counts → (i : ℕ) → i < n → slice_index counts i ≤ 255
counted_few C m b from n cols counts few h i l =
    let w = restrict cols (slice_index_or (block_words C m b) (from + i) []) in
    omega (arith, h i l, weight_at_most_length w, length_restrict cols (slice_index_or (block_words C m b) (from + i) []), few)

-- a word of a block as the word of a message
record IsFrontAt (C : Matrix) (m b n p : ℕ) (t : SpotState) : Type 0 where
  set : t.set ≡ phase_set m p
  level : length t.support ≡ phase_level m p
  message : Contains (messages (length C.rows) (size C.field) (length t.support)) (spot_message t)
  read : slice_index_or (block_words C m b) n [] ≡ front_word C t (length t.support)

block_front : (C : Matrix) (m p b n : ℕ) → IsInPhase (length C.rows) (size C.field) m p b → n < length (block_words C m b) → (t : SpotState) × IsFrontAt C m b n p t
block_front C m p b n phase l =
    let k = length C.rows in
    let from = 4096 * (b - blocks_before k (size C.field) m p) in
    let all = messages k (size C.field) (phase_level m p) in
    let u = slice_index_or all (from + n) (message_of [] []) in
    let at : slice_get all (from + n) ≡ Some u = slice_get-get_or all (from + n) (message_of [] []) (inside_level C m p b n phase l) in
    let t : SpotState = record { set = phase_set m p; support = u.support; coefficients = u.coefficients; room = 0 } in
    let shape = message_shape k (size C.field) (phase_level m p) (from + n) u at in
    let w = length t.support in
    let few = few_in_block C m b in
    let word = block_word C m p b n u phase (omega (arith, l, few)) at in
    let whole = front_whole (spot_message t) w refl (shape.support.many ∙ sym shape.many) in
    let word_is : word_of C m p u ≡ front_word C t w = ap (word_of C m p) (sym whole) ∙ front_word_is C m p t w refl in (
      t,
      record {
        set = refl;
        level = shape.support.many;
        message = rw shape.support.many (to_contains all (spot_message t) (from + n) at);
        read = get_or_from_slice_get (block_words C m b) n (word_of C m p u) [] word ∙ word_is;
      },
    )

-- the weight of a word of a block: its level, and its symbols outside the basis
pub block_weight : (C : Matrix) (plan : PlanSize) (p b n : ℕ) (s : SpotState) → IsPlanOf plan C → AreRows C.field C.columns C.rows → AreIndependent C.field C.columns C.rows → s.set < set_count C → IsInPhase (length C.rows) (size C.field) plan.m p b → IsSpotAt C plan.m b 0 s → n < length (block_words C plan.m b) → weight (slice_index_or (block_words C plan.m b) n []) ≡ length s.support + weight (restrict (others C s.set) (slice_index_or (block_words C plan.m b) n []))
block_weight C plan p b n s h rows free set_is phase spot l =
    let here = spot.of_block p phase in
    let found = block_front C plan.m p b n phase l in
    let t = found.0 in
    let at = found.1 in
    let w = length t.support in
    let same : t.set ≡ s.set = at.set ∙ sym here.set in
    let level : w ≡ length s.support = at.level ∙ sym here.level in
    let weighs : weight (front_word C t w) ≡ w + weight (restrict (others C t.set) (front_word C t w)) = weight_of_word C t rows free (omega (arith, same, set_is)) at.message (omega (arith, level, spot.level)) in
    ap weight at.read ∙ weighs ∙ ap (λ z. z + weight (restrict (others C t.set) (front_word C t w))) level ∙ ap (λ z. length s.support + weight (restrict (others C z) (front_word C t w))) same ∙ ap (λ z. length s.support + weight (restrict (others C s.set) z)) (sym at.read)

-- the spot after a step
pub spot_next : (C : Matrix) (plan : PlanSize) (b n : ℕ) (s t : SpotState) (o : Bool) → IsPlanOf plan C → IsSpotAt C plan.m b n s → n + 1 < length (block_words C plan.m b) → ((i : ℕ) → slice_get (messages plan.k plan.q (length s.support)) i ≡ Some (spot_message s) → slice_get (messages plan.k plan.q (length s.support)) (i + 1) ≡ (if o then Some (spot_message t) else None)) → Contains (messages plan.k plan.q (length t.support)) (spot_message t) → length t.support ≡ length s.support → t.set ≡ s.set → IsSpotAt C plan.m b (n + 1) t
spot_next C plan b n s t o p at inside next message level set_is =
    let next_here : (i : ℕ) → slice_get (messages (length C.rows) (size C.field) (length s.support)) i ≡ Some (spot_message s) → slice_get (messages (length C.rows) (size C.field) (length s.support)) (i + 1) ≡ (if o then Some (spot_message t) else None) = rw (← p.dimension, ← p.field) next in
    record {
      set = omega (arith, set_is, at.set);
      level = omega (arith, level, at.level);
      message = rw (← p.dimension, ← p.field) message;
      of_block = λ phase i.
          let now = at.of_block phase i in
          let start = 4096 * (b - blocks_before (length C.rows) (size C.field) plan.m phase) in
          let here : slice_get (messages (length C.rows) (size C.field) (length s.support)) (start + n) ≡ Some (spot_message s) = rw now.level now.message in
          let step : slice_get (messages (length C.rows) (size C.field) (length s.support)) (start + n + 1) ≡ (if o then Some (spot_message t) else None) = next_here (start + n) here in
          let place : start + n + 1 ≡ start + (n + 1) = omega arith in
          let all = messages (length C.rows) (size C.field) (phase_level plan.m phase) in
          let there : slice_get all (start + (n + 1)) ≡ (if o then Some (spot_message t) else None) = subst (λ z. slice_get (messages (length C.rows) (size C.field) z) (start + (n + 1)) ≡ (if o then Some (spot_message t) else None)) now.level (subst (λ z. slice_get (messages (length C.rows) (size C.field) (length s.support)) z ≡ (if o then Some (spot_message t) else None)) place step) in
          record {
            message = next_is o all (start + (n + 1)) (spot_message t) (inside_level C plan.m phase b (n + 1) i inside) there;
            level = level ∙ now.level;
            set = set_is ∙ now.set;
          };
    }
