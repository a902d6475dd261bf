-- The words of messages over more than 2 elements that end with the same two rows.
--   next_tail                    the pair of elements after a pair
--   tails_along                  the messages after a message, from pair to pair
--   last_two                     the last two of a list by their index
--   IsTailRun C m b s head n start count      a run of words from a spot at offset n of a block, whose tails begin at an index
--   tail_run_word, tail_run_pair, tail_run_ones      a word of a run, its tail, and its nonzero symbols
--   tails_more, grid_parts_pushed      tails and parts with one more
--   tail_planes                  the planes of all tails
--   cut_in_words                 some columns are inside the tails
--   tail_run_room                the tails of a run are tails of the set
use Rattle.std.proofs.Common.{◌≡◌, ℕ, zero, suc, ◌+◌, ◌-◌, ◌*◌, ◌/◌, ◌%◌, ◌^◌, ◌<◌, ◌≤◌, List, [], ◌∷◌, ◌++◌, min, length, take, drop, Some, None, count_ones, slice_get, slice_index, slice_index_or, Contains, refl, sym, ap, subst, ◌∙◌, ⊎_elim, arith, mod-lt, length-append}
use Rattle.std.specs.Option.{option_map}
use Rattle.std.proofs.lemmas.Bool.{cases_lt}
use Rattle.std.proofs.lemmas.Bool.Decides.{nat_tests}
use Rattle.std.proofs.Math.Nat.{mul-le-mul_right}
use Rattle.std.proofs.lemmas.List.{length-take-le}
use Rattle.std.proofs.lemmas.List.Elements.{All-get_or}
use Rattle.std.proofs.lemmas.Nat.{div-mul-add, mod-mul-add, div_below, div-add-mod'}
use Rattle.std.proofs.lemmas.Option.{get_or_from_slice_get, slice_get_within}
use Rattle.std.proofs.Math.ListN.{get_or-append}
use Rattle.std.proofs.Math.Seq.{take-append_seam, get_or-append_seam}
use Rattle.lc_algebra.specs.Field.{size}
use Rattle.lc_algebra.specs.Word.{IsWord, word_sum, scale, weight}
use Rattle.lc_algebra.specs.Span.{AreIndependent}
use Rattle.lc_algebra.specs.Matrix.{Matrix, AreRows}
use Rattle.lc_algebra.specs.SpanLaws.{restrict}
use Rattle.lc_algebra.proofs.WordLaws.{sum_assoc, IsWord_sum, IsWord_scale}
use Rattle.lc_algebra.proofs.FieldLaws.{one_inside}
use Rattle.lc_enumeration.specs.Message.{messages, supports_from}
use Rattle.lc_enumeration.specs.Plan.{phase_level, blocks_before, IsInPhase}
use Rattle.lc_enumeration.specs.Search.{set_count, word_of, generator_at, block_words}
use Rattle.lc_enumeration.proofs.SearchLaws.{few_in_block}
use Rattle.lc_place.specs.Place.{SpotState, spot_message}
use Rattle.lc_place.proofs.Coefficients.{next_numbers, carried}
use Rattle.lc_place.proofs.Supports.{next_support}
use Rattle.lc_place.proofs.Messages.{message_of, next_leading, turned, message_next, to_contains}
use Rattle.lc_kernel.specs.Values.{IsSpotAt}
use Rattle.lc_kernel.specs.Packed.{others, pair_of}
use Rattle.lc_planes.specs.Planes.{part_at, apart, plane_at, negative}
use Rattle.lc_kernel.specs.Sums.{front_word}
use Rattle.lc_kernel.specs.declared.grid.GridPart.{GridPart}
use Rattle.lc_kernel.specs.Grid.{tail_pair, tail_count, tail_index, tail_word, tails_in, AreTails, ArePlanesOf, AreTailPlanes}
use Rattle.lc_kernel.specs.Grids.{AreGridParts, IsGridPart}
use Rattle.lc_kernel.proofs.SupportLaws.{same_pair}
use Rattle.lc_kernel.proofs.TableLaws.{all_pushed, part_cut}
use Rattle.lc_kernel.proofs.FrontLaws.{entries_are, generates, front_next, front_same, front_word_is, front_word_fits, front_whole}
use Rattle.lc_planes.proofs.ApartLaws.{tail_ones}
use Rattle.lc_kernel.proofs.RunLaws.{support_parts, first_of_pair, second_of_pair}
use Rattle.lc_kernel.proofs.ScanLaws.{block_word}

-- the list after a list that ends with two numbers

raise_last : (top b : ℕ) → b < top → next_numbers top (b ∷ []) ≡ Some (suc b ∷ [])
raise_last top b l = grind (arith, nat_tests, l)

full_last : (top b : ℕ) → top ≤ b → next_numbers top (b ∷ []) ≡ None
full_last top b l = grind (arith, nat_tests, l)

raise_first : (top a b : ℕ) → a < top → top ≤ b → next_numbers top (a ∷ b ∷ []) ≡ Some (suc a ∷ 1 ∷ [])
raise_first top a b l m = ap (carried top a (b ∷ [])) (full_last top b m) ∙ grind (arith, nat_tests, l)

raise_second : (top a b : ℕ) → b < top → next_numbers top (a ∷ b ∷ []) ≡ Some (a ∷ suc b ∷ [])
raise_second top a b l = ap (carried top a (b ∷ [])) (raise_last top b l)

-- a pair of numbers from 1 to d by its index
next_tail : (q t : ℕ) → 1 < q → t + 1 < (q - 1) * (q - 1) → next_numbers (q - 1) (tail_pair q t) ≡ Some (tail_pair q (t + 1))
next_tail q t s l =
    let d = q - 1 in
    let x = t / d in
    let y = t % d in
    let small : y < d = mod-lt t (omega (arith, s)) in
    let is : x * d + y ≡ t = div-add-mod' t d in
    ⊎_elim
    (λ m.
    let next : x * d + (y + 1) ≡ t + 1 = omega (arith, is) in
    let row : (t + 1) / d ≡ x = ap (λ n. n / d) (sym next) ∙ div-mul-add x d (y + 1) m in
    let column : (t + 1) % d ≡ y + 1 = ap (λ n. n % d) (sym next) ∙ mod-mul-add x d (y + 1) m in
    let e : suc (y + 1) ≡ y + 1 + 1 = omega arith in
    raise_second d (x + 1) (y + 1) m ∙ ap (λ n. Some ((x + 1) ∷ n ∷ [])) e ∙ ap (λ n. Some ((n + 1) ∷ (y + 1 + 1) ∷ [])) (sym row) ∙ ap (λ n. Some (((t + 1) / d + 1) ∷ (n + 1) ∷ [])) (sym column))
    (λ m.
    let last : y + 1 ≡ d = omega (arith, m, small) in
    let carry : (x + 1) * d ≡ x * d + d = suc_times x d in
    let next : (x + 1) * d + 0 ≡ t + 1 = omega (arith, is, last, carry) in
    let row : (t + 1) / d ≡ x + 1 = ap (λ n. n / d) (sym next) ∙ div-mul-add (x + 1) d 0 (omega (arith, s)) in
    let column : (t + 1) % d ≡ 0 = ap (λ n. n % d) (sym next) ∙ mod-mul-add (x + 1) d 0 (omega (arith, s)) in
    let room : x + 1 < d = ap_less x d (t + 1) row (div_below (t + 1) d d (omega (arith, s)) l) in
    let e : suc (x + 1) ≡ x + 1 + 1 = omega arith in
    raise_first d (x + 1) (y + 1) room m ∙ ap (λ n. Some (n ∷ 1 ∷ [])) e ∙ ap (λ n. Some ((n + 1) ∷ 1 ∷ [])) (sym row) ∙ ap (λ n. Some (((t + 1) / d + 1) ∷ (n + 1) ∷ [])) (sym column))
    (cases_lt (y + 1) d)
  where
    suc_times : (x d : ℕ) → (x + 1) * d ≡ x * d + d
    suc_times x d = omega arith

    ap_less : (x d n : ℕ) → n / d ≡ x + 1 → n / d < d → x + 1 < d
    ap_less x d n e l = omega (arith, e, l)

next_with_head : (top : ℕ) (h t v : List ℕ) → next_numbers top t ≡ Some v → next_numbers top (h ++ t) ≡ Some (h ++ v)
next_with_head top [] t v e = e
next_with_head top (c ∷ h) t v e = ap (carried top c (h ++ t)) (next_with_head top h t v e)

leading_with_head : (q : ℕ) (h t v : List ℕ) → 0 < length h → next_numbers (q - 1) t ≡ Some v → next_leading q (h ++ t) ≡ Some (h ++ v)
leading_with_head q [] t v l e = absurd (omega (arith, l))
leading_with_head q (c ∷ h) t v l e = ap (option_map (λ (w : List ℕ). c ∷ w)) (next_with_head (q - 1) h t v e)

-- the message after one whose coefficients end with a pair that isn't the last
message_step : (k q w n t : ℕ) (s h : List ℕ) → 1 < q → 0 < length h → t + 1 < (q - 1) * (q - 1) → slice_get (messages k q w) n ≡ Some (message_of s (h ++ tail_pair q t)) → slice_get (messages k q w) (suc n) ≡ Some (message_of s (h ++ tail_pair q (t + 1)))
message_step k q w n t s h l some inside at =
    message_next k q w n l (message_of s (h ++ tail_pair q t)) at
    ∙ ap (λ o. turned (message_of s (h ++ tail_pair q t)) o (next_support 0 k s)) (leading_with_head q h (tail_pair q t) (tail_pair q (t + 1)) some (next_tail q t l inside))

pub tails_along : (k q w n t j : ℕ) (s h : List ℕ) → 1 < q → 0 < length h → t + j < (q - 1) * (q - 1) → slice_get (messages k q w) n ≡ Some (message_of s (h ++ tail_pair q t)) → slice_get (messages k q w) (n + j) ≡ Some (message_of s (h ++ tail_pair q (t + j)))
tails_along k q w n t zero s h l some inside at =
    let a : n + 0 ≡ n = omega arith in
    let b : t + 0 ≡ t = omega arith in
    rw (a, b) at
tails_along k q w n t (suc j) s h l some inside at =
    let before = tails_along k q w n t j s h l some (omega (arith, inside)) at in
    let a : n + suc j ≡ suc (n + j) = omega arith in
    let b : t + suc j ≡ t + j + 1 = omega arith in
    rw (a, b) (message_step k q w (n + j) (t + j) s h l some (omega (arith, inside)) before)

-- the last two of a list by their index
pub last_two : (q : ℕ) (u : List ℕ) (i j : ℕ) → 1 ≤ slice_index u i → 1 ≤ slice_index u j → slice_index u j < q → slice_index u i ∷ slice_index u j ∷ [] ≡ tail_pair q ((slice_index u i - 1) * (q - 1) + (slice_index u j - 1))
last_two q u i j a b l =
    let d = q - 1 in
    let x = slice_index u i - 1 in
    let y = slice_index u j - 1 in
    let small : y < d = omega (arith, b, l) in
    let first : (x * d + y) / d + 1 ≡ slice_index u i = ap (λ z. z + 1) (div-mul-add x d y small) ∙ omega (arith, a) in
    let second : (x * d + y) % d + 1 ≡ slice_index u j = ap (λ z. z + 1) (mod-mul-add x d y small) ∙ omega (arith, b) in
    cc (sym first, sym second)

abbrev with_tail : Matrix → SpotState → ℕ → SpotState
with_tail C s t = record { set = s.set; support = s.support; coefficients = take (length s.support - 2) s.coefficients ++ tail_pair (size C.field) t; room = 0 }

-- what a run needs: a spot at an offset of a block, the word of all its entries but the last two, and tails of its pair of rows
pub record IsTailRun (C : Matrix) (m b : ℕ) (s : SpotState) (head : List ℕ) (n start count : ℕ) : Type 0 where
  pub phase : (p : ℕ) × IsInPhase (length C.rows) (size C.field) m p b
  pub rows_are : AreRows C.field C.columns C.rows
  pub free : AreIndependent C.field C.columns C.rows
  pub set : s.set < set_count C
  pub at : IsSpotAt C m b n s
  pub level : 3 ≤ length s.support
  pub head_is : head ≡ front_word C s (length s.support - 2)
  pub pair : (r : ℕ) × (slice_get (supports_from 0 (length C.rows) 2) r ≡ Some (pair_of s)) × (start ≡ r * tail_count C + tail_index C s)
  pub inside : tail_index C s + count ≤ tail_count C
  pub words : n + count ≤ length (block_words C m b)

-- a word of a run: its head and its tail
pub tail_run_word : (C : Matrix) (m p b n start count i : ℕ) (s : SpotState) (head : List ℕ) → IsTailRun C m b s head n start count → IsInPhase (length C.rows) (size C.field) m p b → i < count → slice_index_or (block_words C m b) (n + i) [] ≡ word_sum C.field head (tail_word C s.set (slice_index s.support (length s.support - 2)) (slice_index s.support (length s.support - 1)) (tail_index C s + i))
tail_run_word C m p b n start count i s head h phase l =
    let k = length C.rows in
    let q = size C.field in
    let w = length s.support in
    let d = q - 1 in
    let e = entries_are C s h.at.message in
    let here = h.at.of_block p phase in
    let from = 4096 * (b - blocks_before k q m p) in
    let u = s.coefficients in
    let front = take (w - 2) u in
    let t = tail_index C s in
    let low : (x : ℕ) → x < w → 1 ≤ slice_index u x = λ x o. e.fitting.some x (omega (arith, o, e.many)) in
    let two_more : 2 ≤ length u = omega (arith, h.level, e.many) in
    let parts : u ≡ front ++ slice_index u (w - 2) ∷ slice_index u (w - 1) ∷ [] = support_parts_of u w e.many two_more in
    let pair : slice_index u (w - 2) ∷ slice_index u (w - 1) ∷ [] ≡ tail_pair q t = last_two q u (w - 2) (w - 1) (low (w - 2) (omega (arith, h.level))) (low (w - 1) (omega (arith, h.level))) (e.element (w - 1) (omega (arith, h.level))) in
    let whole_u : u ≡ front ++ tail_pair q t = parts ∙ ap (λ x. front ++ x) pair in
    let long : length front ≡ w - 2 = length-take-le (w - 2) u (omega (arith, e.many)) in
    let at : slice_get (messages k q w) (from + n) ≡ Some (message_of s.support (front ++ tail_pair q t)) = rw (sym whole_u) (rw here.level here.message) in
    let next : slice_get (messages k q w) (from + n + i) ≡ Some (message_of s.support (front ++ tail_pair q (t + i))) = tails_along k q w (from + n) t i s.support front (one_inside C.field) (omega (arith, long, h.level)) (omega (arith, l, h.inside)) at in
    let r : SpotState = with_tail C s (t + i) in
    let message : Contains (messages k q w) (spot_message r) = to_contains (messages k q w) (spot_message r) (from + n + i) next in
    let f = entries_are C r message in
    let g = generates C s.set h.rows_are h.free h.set in
    let few = few_in_block C m b in
    let place : from + n + i ≡ from + (n + i) = omega arith in
    let next_here : slice_get (messages k q (phase_level m p)) (from + (n + i)) ≡ Some (spot_message r) = subst (λ z. slice_get (messages k q z) (from + (n + i)) ≡ Some (spot_message r)) here.level (subst (λ z. slice_get (messages k q w) z ≡ Some (spot_message r)) place next) in
    let word = block_word C m p b (n + i) (spot_message r) phase (omega (arith, l, h.words, few)) next_here in
    let whole = front_whole (spot_message r) w refl (sym f.many) in
    let word_is : word_of C m p (spot_message r) ≡ front_word C r w = ap (word_of C m p) (sym whole) ∙ front_word_is C m p r w here.set in
    let read : slice_index_or (block_words C m b) (n + i) [] ≡ front_word C r w = get_or_from_slice_get (block_words C m b) (n + i) (word_of C m p (spot_message r)) [] word ∙ word_is in
    let same : front_word C r (w - 2) ≡ head = front_same C s r (w - 2) (w - 2) (omega arith) refl refl (ap (λ z. take z (front ++ tail_pair q (t + i))) (sym long) ∙ take-append_seam front (tail_pair q (t + i))) ∙ sym h.head_is in
    let one = front_next C r (w - 2) g f (omega (arith, h.level)) in
    let other = front_next C r (suc (w - 2)) g f (omega (arith, h.level)) in
    let all : suc (suc (w - 2)) ≡ w = omega (arith, h.level) in
    let last : suc (w - 2) ≡ w - 1 = omega (arith, h.level) in
    let first : slice_index r.coefficients (w - 2) ≡ (t + i) / d + 1 = ap (slice_index r.coefficients) (sym long) ∙ first_of_pair front ((t + i) / d + 1) ((t + i) % d + 1) in
    let second : slice_index r.coefficients (suc (w - 2)) ≡ (t + i) % d + 1 = ap (λ z. slice_index r.coefficients (suc z)) (sym long) ∙ second_of_pair front ((t + i) / d + 1) ((t + i) % d + 1) in
    let a = slice_index_or (generator_at C s.set) (slice_index s.support (w - 2)) [] in
    let c = slice_index_or (generator_at C s.set) (slice_index s.support (w - 1)) [] in
    read ∙ ap (front_word C r) (sym all) ∙ other
    ∙ ap (λ z. word_sum C.field z (scale C.field (slice_index r.coefficients (suc (w - 2))) (slice_index_or (generator_at C s.set) (slice_index s.support (suc (w - 2))) []))) (one ∙ ap (λ z. word_sum C.field z (scale C.field (slice_index r.coefficients (w - 2)) a)) same)
    ∙ ap (λ z. word_sum C.field (word_sum C.field head (scale C.field (slice_index r.coefficients (w - 2)) a)) (scale C.field (slice_index r.coefficients (suc (w - 2))) (slice_index_or (generator_at C s.set) (slice_index s.support z) []))) last
    ∙ ap (λ z. word_sum C.field (word_sum C.field head (scale C.field z a)) (scale C.field (slice_index r.coefficients (suc (w - 2))) c)) first
    ∙ ap (λ z. word_sum C.field (word_sum C.field head (scale C.field ((t + i) / d + 1) a)) (scale C.field z c)) second
    ∙ sum_assoc C.field head (scale C.field ((t + i) / d + 1) a) (scale C.field ((t + i) % d + 1) c)
  where
    support_parts_of : (u : List ℕ) (w : ℕ) → length u ≡ w → 2 ≤ length u → u ≡ take (w - 2) u ++ slice_index u (w - 2) ∷ slice_index u (w - 1) ∷ []
    support_parts_of u w e l = subst (λ x. u ≡ take (x - 2) u ++ slice_index u (x - 2) ∷ slice_index u (x - 1) ∷ []) e (support_parts u l)

-- the pair and the element of a tail of a run
pub tail_run_pair : (C : Matrix) (m b n start count i : ℕ) (s : SpotState) (head : List ℕ) → IsTailRun C m b s head n start count → i < count → (slice_get (supports_from 0 (length C.rows) 2) ((start + i) / tail_count C) ≡ Some (pair_of s)) × ((start + i) % tail_count C ≡ tail_index C s + i)
tail_run_pair C m b n start count i s head h l =
    let r = h.pair.0 in
    let place : r * tail_count C + (tail_index C s + i) ≡ start + i = omega (arith, h.pair.2) in
    let small : tail_index C s + i < tail_count C = omega (arith, l, h.inside) in
    let row : (start + i) / tail_count C ≡ r = ap (λ z. z / tail_count C) (sym place) ∙ div-mul-add r (tail_count C) (tail_index C s + i) small in
    let column : (start + i) % tail_count C ≡ tail_index C s + i = ap (λ z. z % tail_count C) (sym place) ∙ mod-mul-add r (tail_count C) (tail_index C s + i) small in
    (ap (slice_get (supports_from 0 (length C.rows) 2)) row ∙ h.pair.1, column)

-- the nonzero symbols of a word of a run at some columns, by the planes of its head and its tail
pub tail_run_ones : (C : Matrix) (m b n start count i planes x : ℕ) (s : SpotState) (head cols : List ℕ) → IsTailRun C m b s head n start count → size C.field ≤ 2 ^ planes → i < count
    → ((a c : ℕ) → slice_get (supports_from 0 (length C.rows) 2) ((start + i) / tail_count C) ≡ Some (a ∷ c ∷ []) → x ≡ apart planes (restrict cols head) (restrict cols (negative C.field (tail_word C s.set a c ((start + i) % tail_count C)))))
    → weight (restrict cols (slice_index_or (block_words C m b) (n + i) [])) ≡ count_ones x
tail_run_ones C m b n start count i planes x s head cols h size_is l marked =
    let w = length s.support in
    let a = slice_index s.support (w - 2) in
    let c = slice_index s.support (w - 1) in
    let t = tail_run_pair C m b n start count i s head h l in
    let is = marked a c t.0 in
    let g = generates C s.set h.rows_are h.free h.set in
    let head_word : IsWord C.field C.columns head = rw h.head_is (front_word_fits C s (w - 2) g) in
    let e = entries_are C s h.at.message in
    let row_word : (z : ℕ) → z < w → IsWord C.field C.columns (slice_index_or (generator_at C s.set) (slice_index s.support z) []) = λ z o. All-get_or (IsWord C.field C.columns) (generator_at C s.set) (slice_index s.support z) [] (omega (arith, e.row z o, g.count)) g.rows in
    let tail = tail_word C s.set a c (tail_index C s + i) in
    let tail_is : IsWord C.field C.columns tail = IsWord_sum C.field C.columns _ _ (IsWord_scale C.field C.columns _ _ (row_word (w - 2) (omega (arith, h.level))).long).long (IsWord_scale C.field C.columns _ _ (row_word (w - 1) (omega (arith, h.level))).long).long in
    ap (λ z. weight (restrict cols z)) (tail_run_word C m h.phase.0 b n start count i s head h h.phase.1 l)
    ∙ tail_ones C.field C.columns planes cols head tail size_is head_word tail_is
    ∙ ap (λ z. count_ones (apart planes (restrict cols head) (restrict cols (negative C.field (tail_word C s.set a c z))))) (sym t.1) ∙ ap count_ones (sym is)

-- the tails with one more
pub tails_more : (C : Matrix) (j pair t a b : ℕ) (ws more : List (List ℕ)) (w : List ℕ) → AreTails C j (pair * tail_count C + t) ws → t < tail_count C → slice_get (supports_from 0 (length C.rows) 2) pair ≡ Some (a ∷ b ∷ []) → w ≡ negative C.field (tail_word C j a b t) → IsWord C.field C.columns w → more ≡ ws ++ w ∷ [] → AreTails C j (pair * tail_count C + (t + 1)) more
tails_more C j pair t a b ws more w h l at is word made =
    let T = tail_count C in
    let n = pair * T + t in
    let one_more : n + 1 ≡ pair * T + (t + 1) = omega arith in
    let before : (e : ℕ) → e < n → slice_index_or more e [] ≡ slice_index_or ws e [] = λ e m. ap (λ z. slice_index_or z e []) made ∙ get_or-append ws (w ∷ []) [] e (omega (arith, m, h.long)) in
    let last : (e : ℕ) → e ≡ n → slice_index_or more e [] ≡ w = λ e m. ap (λ z. slice_index_or z e []) made ∙ ap (λ z. slice_index_or (ws ++ w ∷ []) z []) (m ∙ sym h.long) ∙ get_or-append_seam ws w [] [] in
    record {
      long = ap length made ∙ length-append ws (w ∷ []) ∙ ap (λ z. z + 1) h.long ∙ one_more;
      is = λ e x y m there. ⊎_elim
          (λ i. before e i ∙ h.is e x y i there)
          (λ i.
          let at_end : e ≡ n = omega (arith, i, m, one_more) in
          let row : e / T ≡ pair = ap (λ z. z / T) at_end ∙ div-mul-add pair T t l in
          let column : e % T ≡ t = ap (λ z. z % T) at_end ∙ mod-mul-add pair T t l in
          let same = same_pair a b x y (sym at ∙ ap (slice_get (supports_from 0 (length C.rows) 2)) (sym row) ∙ there) in
          last e at_end ∙ is ∙ ap (λ z. negative C.field (tail_word C j z b t)) same.0 ∙ ap (λ z. negative C.field (tail_word C j x z t)) same.1 ∙ ap (λ z. negative C.field (tail_word C j x y z)) (sym column))
          (cases_lt e n);
      words = λ e m. ⊎_elim
          (λ i. rw (before e i) (h.words e i))
          (λ i. let at_end : e ≡ n = omega (arith, i, m, one_more) in rw (last e at_end) word)
          (cases_lt e n);
    }

next_product : (p L : ℕ) → (p + 1) * L ≡ p * L + L
next_product p L = omega arith

pub tail_planes : (C : Matrix) (j n : ℕ) (cols : List ℕ) (ws : List (List ℕ)) (bits : List ℕ) → AreTails C j (tails_in C) ws → ArePlanesOf cols n ws bits → AreTailPlanes C j cols n bits
tail_planes C j n cols ws bits t h = record {
  long = h.long ∙ ap (λ z. n * z) t.long;
  is = λ p e a b l m at. ap (λ z. slice_index bits (p * z + e)) (sym t.long) ∙ h.is p e l (rw t.long m) ∙ ap (plane_at p cols) (t.is e a b m at);
}

pub grid_parts_pushed : (C : Matrix) (j n start end : ℕ) (cols : List ℕ) (ps more : List GridPart) (p : GridPart) → cols ≡ others C j → start ≡ 64 * length ps → start ≤ length cols → end ≡ min (length cols) (start + 64) → AreGridParts C j n ps → IsGridPart C j (take (end - start) (drop start cols)) n p.rows.items p.bits.items → more ≡ ps ++ p ∷ [] → AreGridParts C j n more
grid_parts_pushed C j n start end cols ps more p e s l which h is made =
    let cut = take (end - start) (drop start cols) in
    let part : cut ≡ part_at (others C j) (length ps) = part_cut cols (length ps) start end s l which ∙ ap (λ z. part_at z (length ps)) e in
    all_pushed (λ b (x : GridPart). IsGridPart C j (part_at (others C j) b) n x.rows.items x.bits.items) ps more p h
    (subst (λ z. IsGridPart C j z n p.rows.items p.bits.items) part is) made

pub cut_in_words : (C : Matrix) (j : ℕ) (cols : List ℕ) (ws : List (List ℕ)) → ((t : ℕ) → t < length cols → slice_index cols t < C.columns) → AreTails C j (tails_in C) ws → (i t : ℕ) → i < length ws → t < length cols → slice_index cols t < length (slice_index_or ws i [])
cut_in_words C j cols ws inside h i t l m = omega (arith, inside t m, (h.words i (rw h.long at l)).long)

-- the tails of a run are tails of the set
pub tail_run_room : (C : Matrix) (m b n start count : ℕ) (s : SpotState) (head : List ℕ) → IsTailRun C m b s head n start count → start + count ≤ tails_in C
tail_run_room C m b n start count s head h =
    let T = tail_count C in
    let r = h.pair.0 in
    let pairs = supports_from 0 (length C.rows) 2 in
    let inside : r < length pairs = slice_get_within pairs r (pair_of s) h.pair.1 in
    let rows : (r + 1) * T ≤ length pairs * T = mul-le-mul_right T (omega (arith, inside)) in
    omega (arith, rows, next_product r T, h.pair.2, h.inside)
