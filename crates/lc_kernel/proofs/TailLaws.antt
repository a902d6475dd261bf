-- Runs of messages that share all but their last two coefficients: their counts, and the last message.
--   bits_of_run     what a word of a run differs from its head's negative in
--   tails_counted   the counts of a run after one more part of the columns
--   last_tail       the last pair of nonzero elements
--   last_along      the last message of a run
--   last_of_run     the spot at it
--   run_passed      the spot after a step from it
--   last_fronts     its fronts are those of the run
--   outside_few     a word has at most 255 nonzero symbols outside a basis
--   least_of_block  the least value of a block, from the first of its words that is least outside the basis
use Rattle.std.proofs.Common.{◌≡◌, ℕ, suc, ◌+◌, ◌-◌, ◌*◌, ◌/◌, ◌%◌, ◌^◌, ◌<◌, ◌≤◌, zero, Bool, if◌then◌else◌, List, [], ◌∷◌, ◌++◌, length, take, Some, None, option_map, Contains, slice_get, slice_index, slice_index_or, bit_or, bit_xor, count_ones, refl, sym, ap, subst, ◌∙◌, ⊎_elim, arith}
use Rattle.std.proofs.Math.Seq.{take-append_seam}
use Rattle.std.proofs.lemmas.Bool.{cases_lt}
use Rattle.std.proofs.lemmas.List.{length-take-le}
use Rattle.std.proofs.lemmas.Nat.{div-mul-add, mod-mul-add}
use Rattle.lc_algebra.specs.Field.{size}
use Rattle.lc_algebra.specs.Word.{weight}
use Rattle.lc_algebra.specs.Span.{AreIndependent}
use Rattle.lc_algebra.specs.Matrix.{Matrix, AreRows}
use Rattle.lc_algebra.proofs.FieldLaws.{one_inside}
use Rattle.lc_algebra.specs.SpanLaws.{restrict}
use Rattle.lc_algebra.proofs.WordLaws.{weight_at_most_length}
use Rattle.lc_algebra.proofs.ColumnLaws.{length_restrict}
use Rattle.lc_enumeration.specs.Message.{messages, supports_from}
use Rattle.lc_enumeration.specs.Plan.{blocks_before, place_of, IsInPhase}
use Rattle.lc_enumeration.specs.Search.{set_count, block_words, block_least, board_value}
use Rattle.lc_enumeration.proofs.SearchLaws.{few_in_block}
use Rattle.lc_place.specs.Place.{PlanSize, SpotState, spot_message}
use Rattle.lc_place.proofs.Messages.{message_of, from_contains, to_contains}
use Rattle.lc_kernel.specs.Kernel.{IsPlanOf}
use Rattle.lc_kernel.specs.Values.{IsSpotAt, IsLeastValue}
use Rattle.lc_kernel.specs.Packed.{others}
use Rattle.lc_planes.specs.Planes.{part_at, plane_at, apart, negative}
use Rattle.lc_distances.specs.Planes.{bits_apart}
use Rattle.lc_distances.specs.Least.{IsFirstLeast, AreCounted}
use Rattle.lc_kernel.specs.Sums.{front_word}
use Rattle.lc_kernel.specs.Grid.{tail_pair, tail_count, tail_index, tail_word, tails_in, AreTailPlanes}
use Rattle.lc_kernel.proofs.FrontLaws.{entries_are, front_same}
use Rattle.lc_kernel.proofs.GridLaws.{IsTailRun, tails_along, last_two, tail_run_ones, tail_run_room}
use Rattle.lc_kernel.proofs.PackLaws.{others_few}
use Rattle.lc_planes.proofs.ApartLaws.{part_more}
use Rattle.lc_kernel.proofs.RunLaws.{support_parts, block_weight, spot_next}
use Rattle.lc_kernel.proofs.ScanLaws.{block_value_of_words}

square : (e : ℕ) → e * suc e + e ≡ suc e * suc e - 1
square e = omega arith

last_tail : (q : ℕ) → 1 < q → tail_pair q ((q - 1) * (q - 1) - 1) ≡ (q - 1) ∷ (q - 1) ∷ []
last_tail q l =
    let d = q - 1 in
    let e = q - 2 in
    let next : suc e ≡ d = omega (arith, l) in
    let place : e * d + e ≡ d * d - 1 = subst (λ z. e * z + e ≡ z * z - 1) next (square e) in
    let row : (d * d - 1) / d + 1 ≡ d = ap (λ z. z / d + 1) (sym place) ∙ ap (λ z. z + 1) (div-mul-add e d e (omega (arith, next))) ∙ omega (arith, next) in
    let column : (d * d - 1) % d + 1 ≡ d = ap (λ z. z % d + 1) (sym place) ∙ ap (λ z. z + 1) (mod-mul-add e d e (omega (arith, next))) ∙ omega (arith, next) in
    cc (row, column)

parts_of : (u : List ℕ) (w : ℕ) → length u ≡ w → 2 ≤ length u → u ≡ take (w - 2) u ++ slice_index u (w - 2) ∷ slice_index u (w - 1) ∷ []
parts_of u w e l = subst (λ x. u ≡ take (x - 2) u ++ slice_index u (x - 2) ∷ slice_index u (x - 1) ∷ []) e (support_parts u l)

-- a spot, and the same with the greatest elements as its last two coefficients
pub record EndsRun (C : Matrix) (s last : SpotState) (count : ℕ) : Type 0 where
  pub message : Contains (messages (length C.rows) (size C.field) (length s.support)) (spot_message s)
  pub level : 3 ≤ length s.support
  pub some : 0 < count
  pub end : tail_index C s + count ≡ tail_count C
  pub support : last.support ≡ s.support
  pub coefficients : last.coefficients ≡ take (length s.coefficients - 2) s.coefficients ++ (size C.field - 1) ∷ (size C.field - 1) ∷ []
  pub set : last.set ≡ s.set

pub last_along : (C : Matrix) (s last : SpotState) (n count : ℕ) → EndsRun C s last count → slice_get (messages (length C.rows) (size C.field) (length s.support)) n ≡ Some (spot_message s) → slice_get (messages (length C.rows) (size C.field) (length s.support)) (n + (count - 1)) ≡ Some (spot_message last)
last_along C s last n count h at =
    let k = length C.rows in
    let q = size C.field in
    let w = length s.support in
    let u = s.coefficients in
    let e = entries_are C s h.message in
    let front = take (w - 2) u in
    let t = tail_index C s in
    let low : (x : ℕ) → x < w → 1 ≤ slice_index u x = λ x o. e.fitting.some x (omega (arith, o, e.many)) in
    let parts : u ≡ front ++ slice_index u (w - 2) ∷ slice_index u (w - 1) ∷ [] = parts_of u w e.many (omega (arith, h.level, e.many)) in
    let pair : slice_index u (w - 2) ∷ slice_index u (w - 1) ∷ [] ≡ tail_pair q t = last_two q u (w - 2) (w - 1) (low (w - 2) (omega (arith, h.level))) (low (w - 1) (omega (arith, h.level))) (e.element (w - 1) (omega (arith, h.level))) in
    let whole : u ≡ front ++ tail_pair q t = parts ∙ ap (λ x. front ++ x) pair in
    let long : length front ≡ w - 2 = length-take-le (w - 2) u (omega (arith, e.many)) in
    let here : slice_get (messages k q w) n ≡ Some (message_of s.support (front ++ tail_pair q t)) = at ∙ ap (λ z. Some (message_of s.support z)) whole in
    let next : slice_get (messages k q w) (n + (count - 1)) ≡ Some (message_of s.support (front ++ tail_pair q (t + (count - 1)))) = tails_along k q w n t (count - 1) s.support front (one_inside C.field) (omega (arith, long, h.level)) (omega (arith, h.some, h.end)) here in
    let index : t + (count - 1) ≡ (q - 1) * (q - 1) - 1 = omega (arith, h.some, h.end) in
    let tail : tail_pair q (t + (count - 1)) ≡ (q - 1) ∷ (q - 1) ∷ [] = ap (tail_pair q) index ∙ last_tail q (one_inside C.field) in
    let coefficients : last.coefficients ≡ front ++ (q - 1) ∷ (q - 1) ∷ [] = h.coefficients ∙ ap (λ z. take (z - 2) u ++ (q - 1) ∷ (q - 1) ∷ []) e.many in
    next ∙ ap (λ z. Some (message_of s.support (front ++ z))) tail ∙ ap (λ z. Some (message_of s.support z)) (sym coefficients) ∙ ap (λ z. Some (message_of z last.coefficients)) (sym h.support)

pub last_of_run : (C : Matrix) (m b done count : ℕ) (s last : SpotState) → IsSpotAt C m b done s → EndsRun C s last count → IsSpotAt C m b (done + (count - 1)) last
last_of_run C m b done count s last at h =
    let k = length C.rows in
    let q = size C.field in
    let w = length s.support in
    let n = from_contains _ _ h.message in
    let long : length last.support ≡ w = ap length h.support in
    record {
      set = omega (arith, h.set, at.set);
      level = omega (arith, long, h.level);
      message = rw long (to_contains (messages k q w) (spot_message last) (n.0 + (count - 1)) (last_along C s last n.0 count h n.1));
      of_block = λ p phase.
          let here = at.of_block p phase in
          let from = 4096 * (b - blocks_before k q m p) in
          let start : slice_get (messages k q w) (from + done) ≡ Some (spot_message s) = rw here.level here.message in
          let next : slice_get (messages k q w) (from + done + (count - 1)) ≡ Some (spot_message last) = last_along C s last (from + done) count h start in
          let place : from + done + (count - 1) ≡ from + (done + (count - 1)) = omega arith in
          record {
            message = subst (λ z. slice_get (messages k q z) (from + (done + (count - 1))) ≡ Some (spot_message last)) here.level (subst (λ z. slice_get (messages k q w) z ≡ Some (spot_message last)) place next);
            level = long ∙ here.level;
            set = h.set ∙ here.set;
          };
    }

pub run_passed : (C : Matrix) (plan : PlanSize) (b done count : ℕ) (s last next : SpotState) (o : Bool) → IsPlanOf plan C → IsSpotAt C plan.m b done s → EndsRun C s last count → done + count < length (block_words C plan.m b) → ((i : ℕ) → slice_get (messages plan.k plan.q (length last.support)) i ≡ Some (spot_message last) → slice_get (messages plan.k plan.q (length last.support)) (i + 1) ≡ (if o then Some (spot_message next) else None)) → Contains (messages plan.k plan.q (length next.support)) (spot_message next) → length next.support ≡ length last.support → next.set ≡ last.set → IsSpotAt C plan.m b (done + count) next
run_passed C plan b done count s last next o p at h inside after message level set_is =
    let place : done + (count - 1) + 1 ≡ done + count = omega (arith, h.some) in
    subst (λ z. IsSpotAt C plan.m b z next) place (spot_next C plan b (done + (count - 1)) last next o p (last_of_run C plan.m b done count s last at h) (omega (arith, inside, h.some)) after message level set_is)

pub last_fronts : (C : Matrix) (s last : SpotState) (count i : ℕ) → EndsRun C s last count → i ≤ length s.support - 2 → front_word C last i ≡ front_word C s i
last_fronts C s last count i h l =
    let w = length s.support in
    let u = s.coefficients in
    let e = entries_are C s h.message in
    let front = take (length u - 2) u in
    let long : length front ≡ w - 2 = length-take-le (length u - 2) u (omega arith) ∙ ap (λ z. z - 2) e.many in
    let same : take (w - 2) last.coefficients ≡ take (w - 2) u = ap (take (w - 2)) h.coefficients ∙ ap (λ z. take z (front ++ (size C.field - 1) ∷ (size C.field - 1) ∷ [])) (sym long) ∙ take-append_seam front ((size C.field - 1) ∷ (size C.field - 1) ∷ []) ∙ ap (λ z. take (z - 2) u) e.many in
    front_same C s last (w - 2) i l h.set (ap (take (w - 2)) h.support) same

-- a head's planes, and those of a tail's negative
pub bits_of_run : (C : Matrix) (j planes : ℕ) (cols head u bits : List ℕ) (tails e a c : ℕ) → tails ≡ tails_in C → AreTailPlanes C j cols planes bits → ((p : ℕ) → p < planes → slice_index u p ≡ plane_at p cols head) → e < tails_in C → slice_get (supports_from 0 (length C.rows) 2) (e / tail_count C) ≡ Some (a ∷ c ∷ []) → (n : ℕ) → n ≤ planes → bits_apart n u bits tails e ≡ apart n (restrict cols head) (restrict cols (negative C.field (tail_word C j a c (e % tail_count C))))
bits_of_run C j planes cols head u bits tails e a c is t h inside at zero l = refl
bits_of_run C j planes cols head u bits tails e a c is t h inside at (suc n) l =
    let rest = bits_of_run C j planes cols head u bits tails e a c is t h inside at n (omega (arith, l)) in
    let first : slice_index u n ≡ plane_at n cols head = h n (omega (arith, l)) in
    let tail = negative C.field (tail_word C j a c (e % tail_count C)) in
    let second : slice_index bits (n * tails + e) ≡ plane_at n cols tail = ap (λ z. slice_index bits (n * z + e)) is ∙ t.is n e a c (omega (arith, l)) inside at in
    ap (λ z. bit_or (bit_xor z (slice_index bits (n * tails + e))) (bits_apart n u bits tails e)) first
    ∙ ap (λ z. bit_or (bit_xor (plane_at n cols head) z) (bits_apart n u bits tails e)) second
    ∙ ap (bit_or (bit_xor (plane_at n cols head) (plane_at n cols tail))) rest

pub tails_counted : (C : Matrix) (m b n start count planes part tails : ℕ) (s : SpotState) (head cols old new u bits : List ℕ) → IsTailRun C m b s head n start count → size C.field ≤ 2 ^ planes → tails ≡ tails_in C → AreTailPlanes C s.set (part_at cols part) planes bits
    → ((p : ℕ) → p < planes → slice_index u p ≡ plane_at p (part_at cols part) head)
    → ((i : ℕ) → i < count → slice_index new i ≡ slice_index old i + count_ones (bits_apart planes u bits tails (start + i)))
    → AreCounted (take (64 * part) cols) (block_words C m b) n count old
    → AreCounted (take (64 * (part + 1)) cols) (block_words C m b) n count new
tails_counted C m b n start count planes part tails s head cols old new u bits h size_is many t packed added counted i l =
    let room : start + i < tails_in C = omega (arith, l, tail_run_room C m b n start count s head h) in
    let ones = tail_run_ones C m b n start count i planes (bits_apart planes u bits tails (start + i)) s head (part_at cols part) h size_is l (λ a c at. bits_of_run C s.set planes (part_at cols part) head u bits tails (start + i) a c many t packed room at planes (omega arith)) in
    let more = part_more cols (slice_index_or (block_words C m b) (n + i) []) part in
    omega (arith, added i l, counted i l, ones, more)

pub outside_few : (C : Matrix) (j : ℕ) (w : List ℕ) → C.columns ≤ 255 → weight (restrict (others C j) w) ≤ 255
outside_few C j w l = omega (arith, weight_at_most_length (restrict (others C j) w), length_restrict (others C j) w, others_few C j, l)

-- the least value of words, from the first of them that is least
least_value : (first : ℕ) (ws : List (List ℕ)) (g : ℕ → ℕ) (level n least at : ℕ) → n ≤ 2 ^ 52 → ((i : ℕ) → i < n → weight (slice_index_or ws i []) ≡ level + g i) → IsFirstLeast n g least at → IsLeastValue first ws n ((level + least) * 2 ^ 52 + (first + at))
least_value first ws g level n least at few h l = record {
  low = λ i m. ⊎_elim
      (λ a. omega (arith, l.first i a, h i m, l.inside, few))
      (λ a. omega (arith, l.low i m, h i m, a))
      (cases_lt i at);
  attained = (at, l.inside, ap (λ x. (level + x) * 2 ^ 52 + (first + at)) (sym l.is) ∙ ap (λ x. x * 2 ^ 52 + (first + at)) (sym (h at l.inside)));
}

-- the least value of a block, from the first of its words that is least outside the basis
pub least_of_block : (C : Matrix) (plan : PlanSize) (p b level n least at : ℕ) (s : SpotState) → IsPlanOf plan C → AreRows C.field C.columns C.rows → AreIndependent C.field C.columns C.rows → s.set < set_count C → IsInPhase (length C.rows) (size C.field) plan.m p b → b < 2 ^ 40 → IsSpotAt C plan.m b 0 s → level ≡ length s.support → n ≡ length (block_words C plan.m b) → IsFirstLeast n (λ i. weight (restrict (others C s.set) (slice_index_or (block_words C plan.m b) i []))) least at → option_map board_value (block_least C plan.m b) ≡ Some ((level + least) * 2 ^ 52 + (b * 4096 + at))
unfolding place_of
least_of_block C plan p b level n least at s h rows free set_is phase small spot e long first =
    let ws = block_words C plan.m b in
    let few = few_in_block C plan.m b in
    let weights : (i : ℕ) → i < n → weight (slice_index_or ws i []) ≡ level + weight (restrict (others C s.set) (slice_index_or ws i [])) = λ i l. omega (arith, block_weight C plan p b i s h rows free set_is phase spot (omega (arith, l, long)), e) in
    let value = least_value (b * 4096 + 0) ws (λ i. weight (restrict (others C s.set) (slice_index_or ws i []))) level n least at (omega (arith, few, long)) weights first in
    let place : (level + least) * 2 ^ 52 + (b * 4096 + 0 + at) ≡ (level + least) * 2 ^ 52 + (b * 4096 + at) = omega arith in
    block_value_of_words C plan.m p b ((level + least) * 2 ^ 52 + (b * 4096 + 0 + at)) phase small (subst (λ z. IsLeastValue (b * 4096 + 0) ws z ((level + least) * 2 ^ 52 + (b * 4096 + 0 + at))) long value) ∙ ap Some place
