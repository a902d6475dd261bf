-- Sweeps over the messages with one support.
--   listed_start, listed_step, listed_turned      the spots with a support, from list to list, and with the next support
--   heads_first, heads_grown, heads_kept      the heads of a support, from place to place
--   listed_run                a word of a support as a run of one word
--   sweep_ones                the nonzero symbols of a word with one support, at a part of the columns
--   sweep_below               the first least word with one support
--   sweep_counted             the counts of the words with one support after one more part
--   list_first, list_more, list_small, lists_few      the index of a list of coefficients
--   take_same, support_is     supports
--   listed_last               no message comes after the last one
--   grown_kept, grown_here, grown_next      heads of one place more, from the last one down
--   pair_of_heads, heads_less       how many these are
--   first_listed, pair_there, lists_there      a message with a support, its pair, and how many lists of coefficients it has
--   listed_inside             lists of coefficients are among the heads and tails
--   turned_at, turned_none    from a list of a support past the last one
use Rattle.std.proofs.Common.{◌≡◌, ℕ, zero, suc, ◌+◌, ◌-◌, ◌*◌, ◌/◌, ◌%◌, ◌^◌, ◌<◌, ◌≤◌, List, [], ◌∷◌, ◌++◌, length, replicate, take, Some, None, slice_get, slice_index, slice_index_or, set, count_ones, Contains, refl, sym, ap, subst, ◌∙◌, ⊎_elim, arith}
use Rattle.std.proofs.Math.Nat.{pow-suc, pow-zero, mod-lt, pow-le-pow_right, one-le-pow, mul-le-mul_right, le-mul_of_pos_right}
use Rattle.std.proofs.Math.Seq.{take-append_seam, get_or-append_seam, take-suc}
use Rattle.std.proofs.lemmas.Bool.{cases_lt}
use Rattle.std.proofs.lemmas.List.{append_assoc, get_or-set_same, get_or-set_other, get_or_default}
use Rattle.std.proofs.lemmas.List.Elements.{All-get_or}
use Rattle.std.proofs.lemmas.Nat.{div-add-mod', div_below, div-mul-add, mod-mul-add}
use Rattle.std.proofs.lemmas.Option.{get_or_from_slice_get, slice_get_within, slice_get_past, slice_get-get_or, none-some}
use Rattle.lc_algebra.specs.declared.FieldName.{FieldName}
use Rattle.lc_algebra.specs.Field.{size}
use Rattle.lc_algebra.specs.Word.{IsWord, weight, scale, word_sum}
use Rattle.lc_algebra.specs.Span.{AreIndependent}
use Rattle.lc_algebra.specs.Matrix.{Matrix, AreRows}
use Rattle.lc_algebra.specs.SpanLaws.{restrict}
use Rattle.lc_algebra.proofs.FieldLaws.{one_inside}
use Rattle.lc_algebra.proofs.WordLaws.{zero_sum, IsWord_scale}
use Rattle.lc_enumeration.specs.Message.{Message, messages, supports_from, nonzero_lists, leading_lists}
use Rattle.lc_enumeration.specs.Plan.{phase_level, blocks_before, IsInPhase}
use Rattle.lc_enumeration.specs.Search.{set_count, generator_at, block_words}
use Rattle.lc_place.specs.Place.{SpotState, spot_message}
use Rattle.lc_place.proofs.Coefficients.{nonzero_first, length-leading_lists}
use Rattle.lc_place.proofs.Supports.{next_support, support_next, support_shape, IsSupport}
use Rattle.lc_place.proofs.Messages.{message_of, message_part, message_next, next_leading, turned, leading_next, leading_shape, supports_are, from_contains, to_contains}
use Rattle.lc_kernel.specs.Values.{IsSpotAt}
use Rattle.lc_kernel.specs.Packed.{others, pair_of, AreStarts}
use Rattle.lc_planes.specs.Planes.{part_at, plane_at}
use Rattle.lc_distances.specs.Planes.{bits_apart, IsPlaneSum}
use Rattle.lc_distances.specs.Least.{IsFirstBelow, AreCounted}
use Rattle.lc_distances.specs.declared.halves.Halves.{Halves}
use Rattle.lc_distances.specs.Halves.{tail_apart, symbols_apart}
use Rattle.lc_kernel.specs.Sums.{front_word}
use Rattle.lc_kernel.specs.Grid.{tail_pair, tail_count, tail_index, tails_in}
use Rattle.lc_kernel.specs.Fronts.{ArePlanes, IsKept}
use Rattle.lc_kernel.specs.Sweeps.{list_count, listed_spot, IsListedAt, head_word, AreHeads, AreHalvesOf, IsGrown}
use Rattle.lc_kernel.proofs.FrontLaws.{entries_are, generates, front_same, front_next, front_first}
use Rattle.lc_kernel.proofs.FrontPlanes.{front_planes_next}
use Rattle.lc_kernel.proofs.GridLaws.{IsTailRun, tail_run_ones, tail_run_room}
use Rattle.lc_kernel.proofs.TailLaws.{bits_of_run}
use Rattle.lc_distances.proofs.LeastLaws.{below_same}
use Rattle.lc_planes.proofs.ApartLaws.{part_more, part_none, part_all}
use Rattle.lc_kernel.proofs.RunLaws.{first_of_pair, second_of_pair, inside_level, pair_read, index_of_pair}
use Rattle.lc_kernel.proofs.ListLaws.{one_list, leading_split, leading_pair, leading_there, listed_message, listed_along, listed_turn}

-- spots with one support

at_level : (k q m p n w : ℕ) (x : Message) → w ≡ phase_level m p → slice_get (messages k q (phase_level m p)) n ≡ Some x → slice_get (messages k q w) n ≡ Some x
at_level k q m p n w x e at = subst (λ z. slice_get (messages k q z) n ≡ Some x) (sym e) at

listed_spot_at : (C : Matrix) (m b n y : ℕ) (s : SpotState) → IsSpotAt C m b n s → 3 ≤ length s.support → slice_get (leading_lists (size C.field) (length s.support)) y ≡ Some s.coefficients → IsListedAt C m b n s.set s.support y
listed_spot_at C m b n y s at level here =
    let k = length C.rows in
    let q = size C.field in
    let w = length s.support in
    let same : slice_index_or (leading_lists q w) y [] ≡ s.coefficients = get_or_from_slice_get (leading_lists q w) y s.coefficients [] here in
    let message : spot_message s ≡ spot_message (listed_spot C s.set s.support y) = ap (message_of s.support) (sym same) in
    let place = from_contains (messages k q w) (spot_message s) at.message in
    let part = message_part k q w place.0 (spot_message s) place.1 in
    let support : s.support ≡ part.left = ap (λ (x : Message). x.support) part.is in
    record {
      at = record {
        set = at.set;
        level = at.level;
        message = subst (Contains (messages k q w)) message at.message;
        of_block = λ p phase.
            let before = at.of_block p phase in
            record { message = before.message ∙ ap Some message; level = before.level; set = before.set };
      };
      rises = to_contains (supports_from 0 k w) s.support part.row (ap (λ l. slice_get l part.row) (sym (supports_are k w)) ∙ part.left_at ∙ ap Some (sym support));
      inside = omega (arith, slice_get_within (leading_lists q w) y s.coefficients here, length-leading_lists q w);
      level = level;
    }

pub listed_start : (C : Matrix) (m b n j y : ℕ) (u : List ℕ) (s : SpotState) → j ≡ s.set → u ≡ s.support → IsSpotAt C m b n s → 3 ≤ length s.support → slice_get (leading_lists (size C.field) (length s.support)) y ≡ Some s.coefficients → IsListedAt C m b n j u y
listed_start C m b n j y u s set_is support_is at level here = rw (set_is, support_is) (listed_spot_at C m b n y s at level here)

pub listed_step : (C : Matrix) (m b n i j y : ℕ) (u : List ℕ) → IsListedAt C m b n j u y → y + i < list_count C (length u) → IsListedAt C m b (n + i) j u (y + i)
listed_step C m b n i j y u h l =
    let k = length C.rows in
    let q = size C.field in
    let w = length u in
    record {
      at = record {
        set = h.at.set;
        level = h.at.level;
        message = listed_message k q w (y + i) u _ h.rises (leading_there q w (y + i) l);
        of_block = λ p phase.
            let here = h.at.of_block p phase in
            let from = 4096 * (b - blocks_before k q m p) in
            let start = at_level k q m p (from + n) w (message_of u (slice_index_or (leading_lists q w) y [])) here.level here.message in
            let along = listed_along k q w (from + n) y i u (one_inside C.field) l start in
            let place : from + n + i ≡ from + (n + i) = omega arith in
            record {
              message = subst (λ z. slice_get (messages k q z) (from + (n + i)) ≡ Some (spot_message (listed_spot C j u (y + i)))) here.level (subst (λ z. slice_get (messages k q w) z ≡ Some (spot_message (listed_spot C j u (y + i)))) place along);
              level = here.level;
              set = here.set;
            };
      };
      rises = h.rises;
      inside = l;
      level = h.level;
    }

pub listed_turned : (C : Matrix) (m b n j y : ℕ) (u v : List ℕ) → IsListedAt C m b n j u y → y + 1 ≡ list_count C (length u) → next_support 0 (length C.rows) u ≡ Some v → length v ≡ length u → IsListedAt C m b (n + 1) j v 0
listed_turned C m b n j y u v h last next long =
    let k = length C.rows in
    let q = size C.field in
    let w = length u in
    let after : suc y ≡ (q - 1) ^ (w - 1) = omega (arith, last) in
    let place = from_contains (supports_from 0 k w) u h.rises in
    let rises : Contains (supports_from 0 k w) v = to_contains (supports_from 0 k w) v (suc place.0) (support_next 0 k w place.0 u place.1 ∙ next) in
    let some : 0 < list_count C w = omega (arith, last) in
    let coefficients : slice_index_or (leading_lists q w) 0 [] ≡ slice_index_or (leading_lists q (length v)) 0 [] = ap (λ z. slice_index_or (leading_lists q z) 0 []) (sym long) in
    let message : message_of v (slice_index_or (leading_lists q w) 0 []) ≡ spot_message (listed_spot C j v 0) = ap (message_of v) coefficients in
    let here : Contains (messages k q w) (spot_message (listed_spot C j v 0)) = subst (Contains (messages k q w)) message (listed_message k q w 0 v _ rises (leading_there q w 0 some)) in
    record {
      at = record {
        set = h.at.set;
        level = omega (arith, long, h.at.level);
        message = subst (λ z. Contains (messages k q z) (spot_message (listed_spot C j v 0))) (sym long) here;
        of_block = λ p phase.
            let now = h.at.of_block p phase in
            let from = 4096 * (b - blocks_before k q m p) in
            let start = at_level k q m p (from + n) w (message_of u (slice_index_or (leading_lists q w) y [])) now.level now.message in
            let turned : slice_get (messages k q w) (suc (from + n)) ≡ Some (spot_message (listed_spot C j v 0)) = listed_turn k q w (from + n) y u v (one_inside C.field) after start next ∙ ap Some message in
            let there : suc (from + n) ≡ from + (n + 1) = omega arith in
            record {
              message = subst (λ z. slice_get (messages k q z) (from + (n + 1)) ≡ Some (spot_message (listed_spot C j v 0))) now.level (subst (λ z. slice_get (messages k q w) z ≡ Some (spot_message (listed_spot C j v 0))) there turned);
              level = long ∙ now.level;
              set = now.set;
            };
      };
      rises = subst (λ z. Contains (supports_from 0 k z) v) (sym long) rises;
      inside = subst (λ z. 0 < list_count C z) (sym long) some;
      level = omega (arith, long, h.level);
    }

-- heads

pub long_list : (q n x : ℕ) → x < (q - 1) ^ (n - 1) → length (slice_index_or (leading_lists q n) x []) ≡ n
long_list q n x l = (leading_shape q n x _ (leading_there q n x l)).many

same_some : (a b : List ℕ) → Some a ≡ Some b → a ≡ b
same_some a b e = cc

take_whole : (a b : List ℕ) (n : ℕ) → length a ≡ n → take n (a ++ b) ≡ take n a
take_whole a b n e = rw (sym e) (take-append_seam a b ∙ sym (ap (take (length a)) (sym (nothing a)) ∙ take-append_seam a []))
  where
    nothing : (a : List ℕ) → a ++ [] ≡ a
    nothing [] = refl
    nothing (x ∷ a) = cc (nothing a)

pub list_grown : (q i e : ℕ) → 1 < q → 1 ≤ i → e < (q - 1) ^ (i + 1 - 1) → slice_index_or (leading_lists q (i + 1)) e [] ≡ slice_index_or (leading_lists q i) (e / (q - 1)) [] ++ (e % (q - 1) + 1) ∷ []
list_grown q i e l some inside =
    let d = q - 1 in
    let one : d ^ 1 ≡ d = pow-suc d 0 ∙ ap (λ z. z * d) (pow-zero d) ∙ omega arith in
    let before : i + 1 - 1 ≡ suc (i - 1) = omega (arith, some) in
    let product : d ^ (i + 1 - 1) ≡ d ^ (i - 1) * d = ap (λ z. d ^ z) before ∙ pow-suc d (i - 1) in
    let front = leading_there q i (e / d) (div_below e d (d ^ (i - 1)) (omega (arith, l)) (omega (arith, inside, product))) in
    let at = leading_split q i 1 (e / d) (e % d) _ _ some front (one_list q (e % d) (mod-lt e (omega (arith, l)))) in
    let place : e / d * d ^ 1 + e % d ≡ e = ap (λ z. e / d * z + e % d) one ∙ div-add-mod' e d in
    same_some _ _ (sym (leading_there q (i + 1) e inside) ∙ ap (slice_get (leading_lists q (i + 1))) (sym place) ∙ at)

-- a message of the level that begins with a list
abbrev longer : Matrix → ℕ → List ℕ → ℕ → ℕ → SpotState
longer C j u i e = record { set = j; support = u; coefficients = slice_index_or (leading_lists (size C.field) i) e [] ++ replicate (length u - i) 1; room = 0 }

longer_message : (C : Matrix) (j i e : ℕ) (u : List ℕ) → 1 ≤ i → i ≤ length u → e < list_count C i → Contains (supports_from 0 (length C.rows) (length u)) u → Contains (messages (length C.rows) (size C.field) (length u)) (spot_message (longer C j u i e))
longer_message C j i e u some inside l h =
    let k = length C.rows in
    let q = size C.field in
    let rest = length u - i in
    let at = leading_split q i rest e 0 _ _ some (leading_there q i e l) (nonzero_first q rest (one_inside C.field)) in
    let whole : i + rest ≡ length u = omega (arith, inside) in
    listed_message k q (length u) (e * (q - 1) ^ rest + 0) u _ h (rw whole at at)

pub heads_grown : (C : Matrix) (j b n i : ℕ) (u : List ℕ) (rows heads new : List (List ℕ)) → AreRows C.field C.columns C.rows → AreIndependent C.field C.columns C.rows → j < set_count C → Contains (supports_from 0 (length C.rows) (length u)) u → IsKept C j b n rows → 1 ≤ i → i < length u → AreHeads C j u b n i heads
    → ((e : ℕ) → e < list_count C (i + 1) → IsGrown C.field (size C.field - 1) (slice_index u i) rows heads new e)
    → AreHeads C j u b n (i + 1) new
heads_grown C j b n i u rows heads new words free set_is rises kept some inside h grown_is e p l m =
    let q = size C.field in
    let d = q - 1 in
    let cols = part_at (others C j) b in
    let least : 1 < q = one_inside C.field in
    let product : d ^ (i + 1 - 1) ≡ d ^ (i - 1) * d = ap (λ z. d ^ z) (less i some) ∙ pow-suc d (i - 1) in
    let small : e / d < d ^ (i - 1) = div_below e d (d ^ (i - 1)) (omega (arith, least)) (omega (arith, l, product)) in
    let a = slice_index_or (leading_lists q i) (e / d) [] in
    let long : length a ≡ i = long_list q i (e / d) small in
    let t = longer C j u (i + 1) e in
    let ones = replicate (length u - (i + 1)) 1 in
    let grown : slice_index_or (leading_lists q (i + 1)) e [] ≡ a ++ (e % d + 1) ∷ [] = list_grown q i e least some l in
    let whole : t.coefficients ≡ a ++ ((e % d + 1) ∷ ones) = ap (λ z. z ++ ones) grown ∙ append_assoc a ((e % d + 1) ∷ []) ones in
    let message = longer_message C j (i + 1) e u (omega arith) (omega (arith, inside)) l rises in
    let head : SpotState = record { set = j; support = u; coefficients = a; room = 0 } in
    let before : front_word C t i ≡ head_word C j u i (e / d) = front_same C head t i i (omega arith) refl refl (ap (take i) whole ∙ take_whole a ((e % d + 1) ∷ ones) i long) in
    let front : ArePlanes cols n (front_word C t i) (slice_index_or heads (e / d) []) = λ z o. h (e / d) z small o ∙ ap (plane_at z cols) (sym before) in
    let entry : slice_index t.coefficients i ≡ e % d + 1 = ap (λ z. slice_index z i) whole ∙ ap (slice_index (a ++ ((e % d + 1) ∷ ones))) (sym long) ∙ get_or-append_seam a (e % d + 1) ones 0 in
    let row : slice_index u i * d + e % d ≡ slice_index u i * d + (slice_index t.coefficients i - 1) = omega (arith, entry) in
    let next = front_planes_next C t b n i rows (slice_index_or heads (e / d) []) (slice_index_or rows (slice_index u i * d + e % d) []) (slice_index_or new e []) words free set_is message kept inside front (ap (λ z. slice_index_or rows z []) row) (grown_is e l) in
    let list = slice_index_or (leading_lists q (i + 1)) e [] in
    let last : SpotState = record { set = j; support = u; coefficients = list; room = 0 } in
    let after : front_word C t (i + 1) ≡ head_word C j u (i + 1) e = front_same C last t (i + 1) (i + 1) (omega arith) refl refl (take_whole list ones (i + 1) (long_list q (i + 1) e l)) in
    next p m ∙ ap (plane_at p cols) after
  where
    less : (i : ℕ) → 1 ≤ i → i + 1 - 1 ≡ suc (i - 1)
    less i l = omega (arith, l)

-- the first row
pub first_list : (q : ℕ) → 1 < q → slice_index_or (leading_lists q 1) 0 [] ≡ 1 ∷ []
unfolding leading_lists nonzero_lists
first_list q l = refl

one_one : (d x : ℕ) → x < d ^ (1 - 1) → x ≡ 0
one_one d x l = omega (arith, l, pow-zero d)

pub heads_first : (C : Matrix) (j b n : ℕ) (u : List ℕ) (rows new : List (List ℕ)) → AreRows C.field C.columns C.rows → AreIndependent C.field C.columns C.rows → j < set_count C → Contains (supports_from 0 (length C.rows) (length u)) u → IsKept C j b n rows → 1 ≤ length u → slice_index_or new 0 [] ≡ slice_index_or rows (slice_index u 0 * (size C.field - 1)) [] → AreHeads C j u b n 1 new
heads_first C j b n u rows new words free set_is rises kept some is x p l m =
    let q = size C.field in
    let d = q - 1 in
    let cols = part_at (others C j) b in
    let least : 1 < q = one_inside C.field in
    let none : x ≡ 0 = one_one d x l in
    let one : 0 < list_count C 1 = omega (arith, l) in
    let t = longer C j u 1 0 in
    let message = longer_message C j 1 0 u (omega arith) some one rises in
    let e = entries_are C t message in
    let g = generates C j words free set_is in
    let list = slice_index_or (leading_lists q 1) 0 [] in
    let last : SpotState = record { set = j; support = u; coefficients = list; room = 0 } in
    let after : front_word C t 1 ≡ head_word C j u 1 0 = front_same C last t 1 1 (omega arith) refl refl (take_whole list (replicate (length u - 1) 1) 1 (long_list q 1 0 one)) in
    let row = slice_index_or (generator_at C j) (slice_index u 0) [] in
    let row_word : IsWord C.field C.columns row = All-get_or (IsWord C.field C.columns) (generator_at C j) (slice_index u 0) [] (omega (arith, e.row 0 some, g.count)) g.rows in
    let entry : slice_index t.coefficients 0 ≡ 1 = ap (λ z. slice_index (z ++ replicate (length u - 1) 1) 0) (first_list q least) in
    let sum : front_word C t 1 ≡ scale C.field 1 row = front_next C t 0 g e some ∙ ap (λ z. word_sum C.field z (scale C.field (slice_index t.coefficients 0) row)) (front_first C t g) ∙ zero_sum C.field C.columns (scale C.field (slice_index t.coefficients 0) row) (IsWord_scale C.field C.columns (slice_index t.coefficients 0) row row_word.long) ∙ ap (λ z. scale C.field z row) entry in
    let index = slice_index u 0 * d in
    let place : index / d ≡ slice_index u 0 = ap (λ z. z / d) (plain index) ∙ div-mul-add (slice_index u 0) d 0 (omega (arith, least)) in
    let column : index % d ≡ 0 = ap (λ z. z % d) (plain index) ∙ mod-mul-add (slice_index u 0) d 0 (omega (arith, least)) in
    let inside : index < length C.rows * d = below_rows (slice_index u 0) (length C.rows) d (e.row 0 some) (omega (arith, least)) in
    ap (λ z. slice_index (slice_index_or new z []) p) none ∙ ap (λ z. slice_index z p) is ∙ kept.multiples.are index p inside m
    ∙ ap (λ z. plane_at p cols (scale C.field (z + 1) (slice_index_or (generator_at C j) (index / d) []))) column
    ∙ ap (λ z. plane_at p cols (scale C.field (0 + 1) (slice_index_or (generator_at C j) z []))) place
    ∙ ap (plane_at p cols) (sym (sum) ∙ after) ∙ ap (λ z. plane_at p cols (head_word C j u 1 z)) (sym none)
  where
    plain : (n : ℕ) → n ≡ n + 0
    plain n = omega arith

    below_rows : (a k d : ℕ) → a < k → 0 < d → a * d < k * d
    below_rows a zero d l s = absurd (omega (arith, l))
    below_rows zero (suc k) d l s = omega (arith, s)
    below_rows (suc a) (suc k) d l s = omega (arith, below_rows a k d (omega (arith, l)) s)

pub heads_kept : (C : Matrix) (j b n i place : ℕ) (u v : List ℕ) (heads : List (List ℕ)) → i ≤ place → take place v ≡ take place u → AreHeads C j u b n i heads → AreHeads C j v b n i heads
heads_kept C j b n i place u v heads within e h x p l m =
    let a = slice_index_or (leading_lists (size C.field) i) x [] in
    let s : SpotState = record { set = j; support = u; coefficients = a; room = 0 } in
    let t : SpotState = record { set = j; support = v; coefficients = a; room = 0 } in
    h x p l m ∙ ap (plane_at p (part_at (others C j) b)) (sym (front_same C s t place i within refl e refl))

-- a word of a support

abbrev listed_tail : Matrix → ℕ → ℕ
listed_tail C y = y % tail_count C

pub square : (d w : ℕ) → 3 ≤ w → d ^ (w - 1) ≡ d ^ (w - 2 - 1) * (d * d)
square d w l =
    let e : w - 1 ≡ suc (suc (w - 2 - 1)) = omega (arith, l) in
    ap (λ z. d ^ z) e ∙ pow-suc d (suc (w - 2 - 1)) ∙ ap (λ z. z * d) (pow-suc d (w - 2 - 1)) ∙ omega arith

pub listed_parts : (q w y : ℕ) → 1 < q → 3 ≤ w → y < (q - 1) ^ (w - 1) → (y / ((q - 1) * (q - 1)) < (q - 1) ^ (w - 2 - 1)) × (slice_index_or (leading_lists q w) y [] ≡ slice_index_or (leading_lists q (w - 2)) (y / ((q - 1) * (q - 1))) [] ++ tail_pair q (y % ((q - 1) * (q - 1))))
listed_parts q w y l level inside =
    let d = q - 1 in
    let T = d * d in
    let some : 0 < T = positive d (omega (arith, l)) in
    let small : y / T < d ^ (w - 2 - 1) = div_below y T (d ^ (w - 2 - 1)) some (omega (arith, inside, square d w level)) in
    let at = leading_pair q (w - 2) (y / T) (y % T) _ (omega (arith, level)) (mod-lt y some) (leading_there q (w - 2) (y / T) small) in
    let all : w - 2 + 2 ≡ w = omega (arith, level) in
    let place : y / T * T + y % T ≡ y = div-add-mod' y T in (
      small,
      same_some _ _ (sym (leading_there q w y inside) ∙ ap (λ z. slice_get (leading_lists q z) y) (sym all) ∙ ap (slice_get (leading_lists q (w - 2 + 2))) (sym place) ∙ at),
    )
  where
    positive : (d : ℕ) → 0 < d → 0 < d * d
    positive zero l = absurd (omega (arith, l))
    positive (suc d) l = omega arith

pub listed_run : (C : Matrix) (m p b n j y r : ℕ) (u : List ℕ) → AreRows C.field C.columns C.rows → AreIndependent C.field C.columns C.rows → j < set_count C → IsInPhase (length C.rows) (size C.field) m p b → IsListedAt C m b n j u y → slice_get (supports_from 0 (length C.rows) 2) r ≡ Some (pair_of (listed_spot C j u y)) → n < length (block_words C m b) → IsTailRun C m b (listed_spot C j u y) (head_word C j u (length u - 2) (y / tail_count C)) n (r * tail_count C + y % tail_count C) 1
listed_run C m p b n j y r u words free set_is phase h pair inside =
    let q = size C.field in
    let d = q - 1 in
    let w = length u in
    let T = tail_count C in
    let t = y % T in
    let least : 1 < q = one_inside C.field in
    let parts = listed_parts q w y least h.level h.inside in
    let a = slice_index_or (leading_lists q (w - 2)) (y / T) [] in
    let long : length a ≡ w - 2 = long_list q (w - 2) (y / T) parts.0 in
    let s = listed_spot C j u y in
    let head : SpotState = record { set = j; support = u; coefficients = a; room = 0 } in
    let same : front_word C s (w - 2) ≡ head_word C j u (w - 2) (y / T) = front_same C head s (w - 2) (w - 2) (omega arith) refl refl (ap (take (w - 2)) parts.1 ∙ take_whole a (tail_pair q t) (w - 2) long) in
    let first : slice_index s.coefficients (w - 2) ≡ t / d + 1 = ap (λ z. slice_index z (w - 2)) parts.1 ∙ ap (slice_index (a ++ tail_pair q t)) (sym long) ∙ first_of_pair a (t / d + 1) (t % d + 1) in
    let next : w - 1 ≡ suc (w - 2) = omega (arith, h.level) in
    let second : slice_index s.coefficients (w - 1) ≡ t % d + 1 = ap (λ z. slice_index z (w - 1)) parts.1 ∙ ap (slice_index (a ++ tail_pair q t)) (next ∙ ap suc (sym long)) ∙ second_of_pair a (t / d + 1) (t % d + 1) in
    let index : tail_index C s ≡ t = ap (λ z. (z - 1) * d + (slice_index s.coefficients (w - 1) - 1)) first ∙ ap (λ z. (t / d + 1 - 1) * d + (z - 1)) second ∙ less (t / d) (t % d) d ∙ div-add-mod' t d in
    let below : t < T = mod-lt y (positive d (omega (arith, least))) in
    record {
      phase = (p, phase);
      rows_are = words;
      free = free;
      set = set_is;
      at = h.at;
      level = h.level;
      head_is = sym same;
      pair = (r, pair, ap (λ z. r * T + z) (sym index));
      inside = omega (arith, index, below);
      words = omega (arith, inside);
    }
  where
    plain : (a : ℕ) → a + 1 - 1 ≡ a
    plain a = omega arith

    less : (a b d : ℕ) → (a + 1 - 1) * d + (b + 1 - 1) ≡ a * d + b
    less a b d = ap (λ z. z * d + (b + 1 - 1)) (plain a) ∙ ap (λ z. a * d + z) (plain b)

    positive : (d : ℕ) → 0 < d → 0 < d * d
    positive zero l = absurd (omega (arith, l))
    positive (suc d) l = omega arith

-- what the counts of a support need, at a part of the columns
pub record IsSweep (C : Matrix) (m b n j y part count : ℕ) (u : List ℕ) (a : Halves) : Type 0 where
  pub rows_are : AreRows C.field C.columns C.rows
  pub free : AreIndependent C.field C.columns C.rows
  pub set : j < set_count C
  pub phase : (p : ℕ) × IsInPhase (length C.rows) (size C.field) m p b
  pub at : IsListedAt C m b n j u y
  pub inside : y + count ≤ list_count C (length u)
  pub words : n + count ≤ length (block_words C m b)
  pub halves : AreHalvesOf C j u part a

pub sweep_ones : (C : Matrix) (m b n j y part count i : ℕ) (u : List ℕ) (a : Halves) → IsSweep C m b n j y part count u a → i < count
    → weight (restrict (part_at (others C j) part) (slice_index_or (block_words C m b) (n + i) [])) ≡ symbols_apart a (y + i)
sweep_ones C m b n j y part count i u a h l =
    let q = size C.field in
    let T = tail_count C in
    let cols = part_at (others C j) part in
    let o = h.halves in
    let r = o.pair.0 in
    let x = (y + i) / T in
    let e = r * T + (y + i) % T in
    let s = listed_spot C j u (y + i) in
    let head = head_word C j u (length u - 2) x in
    let top = slice_index_or a.heads.now x [] in
    let at = listed_step C m b n i j y u h.at (omega (arith, l, h.inside)) in
    let run = listed_run C m h.phase.0 b (n + i) j (y + i) r u h.rows_are h.free h.set h.phase.1 at o.pair.1 (omega (arith, l, h.words)) in
    let parts = listed_parts q (length u) (y + i) (one_inside C.field) h.at.level (omega (arith, l, h.inside)) in
    let room : e < tails_in C = omega (arith, tail_run_room C m b (n + i) e 1 s head run) in
    let zero_more : e + 0 ≡ e = omega arith in
    let ones : weight (restrict cols (slice_index_or (block_words C m b) (n + i + 0) [])) ≡ count_ones (bits_apart a.planes top a.bits.now a.words e) = tail_run_ones C m b (n + i) e 1 0 a.planes (bits_apart a.planes top a.bits.now a.words e) s head cols run o.fits (omega arith)
    (λ c d there. ap (bits_apart a.planes top a.bits.now a.words) (sym zero_more) ∙ bits_of_run C j a.planes cols head top a.bits.now a.words (e + 0) c d o.many o.packed (λ p k. o.heads x p parts.0 k) (rw zero_more room) there a.planes (omega arith)) in
    let here : n + i + 0 ≡ n + i = omega arith in
    let tail : e ≡ a.start + (y + i) % a.tails = ap (λ z. z + (y + i) % T) (sym o.pair.2) ∙ ap (λ z. a.start + (y + i) % z) (sym o.tails) in
    ap (λ z. weight (restrict cols (slice_index_or (block_words C m b) z []))) (sym here) ∙ ones
    ∙ ap (λ z. count_ones (bits_apart a.planes top a.bits.now a.words z)) tail
    ∙ ap (λ z. tail_apart a (slice_index_or a.heads.now ((y + i) / z) []) ((y + i) % a.tails)) (sym o.tails)

-- the first least word, if all columns are in one part
pub sweep_below : (C : Matrix) (m b n j y count bound v x : ℕ) (u : List ℕ) (a : Halves) → IsSweep C m b n j y 0 count u a → length (others C j) ≤ 64
    → IsFirstBelow count (λ i. symbols_apart a (y + i)) bound v x
    → IsFirstBelow count (λ i. weight (restrict (others C j) (slice_index_or (block_words C m b) (n + i) []))) bound v x
sweep_below C m b n j y count bound v x u a h wide f = below_same count _ _ bound v x (λ i l. sym (ones i l)) f
  where
    ones : (i : ℕ) → i < count → weight (restrict (others C j) (slice_index_or (block_words C m b) (n + i) [])) ≡ symbols_apart a (y + i)
    ones i l =
        let cols = others C j in
        let w = slice_index_or (block_words C m b) (n + i) [] in
        omega (arith, sweep_ones C m b n j y 0 count i u a h l, part_more cols w 0, part_none cols w, part_all cols w (0 + 1) (omega (arith, wide)))

-- the counts after one more part
pub sweep_counted : (C : Matrix) (m b n j y part count : ℕ) (u old new : List ℕ) (a : Halves) → IsSweep C m b n j y part count u a
    → AreCounted (take (64 * part) (others C j)) (block_words C m b) n count old
    → ((i : ℕ) → i < count → slice_index new i ≡ slice_index old i + symbols_apart a (y + i))
    → AreCounted (take (64 * (part + 1)) (others C j)) (block_words C m b) n count new
sweep_counted C m b n j y part count u old new a h counted added i l =
    omega (arith, added i l, counted i l, sweep_ones C m b n j y part count i u a h l, part_more (others C j) (slice_index_or (block_words C m b) (n + i) []) part)

-- lists of coefficients, entry by entry

pub list_first : (q : ℕ) (u : List ℕ) → 1 < q → 1 ≤ length u → slice_index u 0 ≡ 1 → slice_get (leading_lists q 1) 0 ≡ Some (take 1 u)
list_first q [] l m e = absurd (omega (arith, m))
list_first q (c ∷ u) l m e =
    let one : 0 < (q - 1) ^ (1 - 1) = omega (arith, pow-zero (q - 1)) in
    let same : 1 ∷ [] ≡ take 1 (c ∷ u) = cc (e) in
    leading_there q 1 0 one ∙ ap Some (first_list q l ∙ same)

pub list_more : (q i list : ℕ) (u : List ℕ) → 1 ≤ i → i < length u → 1 ≤ slice_index u i → slice_index u i < q → slice_get (leading_lists q i) list ≡ Some (take i u) → slice_get (leading_lists q (i + 1)) (list * (q - 1) + (slice_index u i - 1)) ≡ Some (take (i + 1) u)
list_more q i list u some inside low high at =
    let d = q - 1 in
    let c = slice_index u i - 1 in
    let one : d ^ 1 ≡ d = pow-suc d 0 ∙ ap (λ z. z * d) (pow-zero d) ∙ omega arith in
    let next = leading_split q i 1 list c (take i u) ((c + 1) ∷ []) some at (one_list q c (omega (arith, low, high))) in
    let entry : c + 1 ≡ slice_index u i = omega (arith, low) in
    let place : list * d ^ 1 + c ≡ list * d + c = ap (λ z. list * z + c) one in
    let more : suc i ≡ i + 1 = omega arith in
    ap (slice_get (leading_lists q (i + 1))) (sym place) ∙ next ∙ ap (λ z. Some (take i u ++ z ∷ [])) entry ∙ ap Some (sym (take-suc u i 0 inside)) ∙ ap (λ z. Some (take z u)) more

pub list_small : (q i w list : ℕ) (u : List ℕ) → 1 < q → i ≤ w → (q - 1) ^ (w - 1) ≤ 2 ^ 18 → slice_get (leading_lists q i) list ≡ Some u → list < 2 ^ 18
list_small q i w list u l m few at =
    let below : list < length (leading_lists q i) = slice_get_within (leading_lists q i) list u at in
    let rises : (q - 1) ^ (i - 1) ≤ (q - 1) ^ (w - 1) = pow-le-pow_right (omega (arith, l)) (omega (arith, m)) in
    omega (arith, below, length-leading_lists q i, rises, few)

pub lists_few : (d w : ℕ) → 3 ≤ w → 0 < d → d ≤ 15 → d ^ (w - 2 - 1) ≤ 1024 → d ^ (w - 1) ≤ 2 ^ 18
lists_few d w l some few heads =
    let square_few : d * d ≤ 15 * 15 = omega (arith, mul-le-mul_right d few, few) in
    let rows : d ^ (w - 2 - 1) * (d * d) ≤ 1024 * (d * d) = mul-le-mul_right (d * d) heads in
    omega (arith, rows, square_few, square d w l)

-- supports

pub take_same : (u v : List ℕ) (n : ℕ) → length u ≡ length v → ((i : ℕ) → i < n → slice_index u i ≡ slice_index v i) → take n u ≡ take n v
take_same u v zero e h = refl
take_same [] [] (suc n) e h = refl
take_same [] (b ∷ v) (suc n) e h = absurd (omega (arith, e))
take_same (a ∷ u) [] (suc n) e h = absurd (omega (arith, e))
take_same (a ∷ u) (b ∷ v) (suc n) e h =
    let first : a ≡ b = h 0 (omega arith) in
    let rest = take_same u v n (omega (arith, e)) (λ i l. h (suc i) (omega (arith, l))) in
    cc (first, rest)

pub support_is : (k : ℕ) (u : List ℕ) → Contains (supports_from 0 k (length u)) u → IsSupport 0 k (length u) u
support_is k u h = let n = from_contains (supports_from 0 k (length u)) u h in support_shape 0 k (length u) n.0 u n.1

-- the last message of a level has none after it
pub listed_last : (C : Matrix) (m p b n j y : ℕ) (u : List ℕ) → IsInPhase (length C.rows) (size C.field) m p b → IsListedAt C m b n j u y → y + 1 ≡ list_count C (length u) → next_support 0 (length C.rows) u ≡ None → n + 1 < length (block_words C m b) → ⊥
listed_last C m p b n j y u phase h last none inside =
    let k = length C.rows in
    let q = size C.field in
    let w = length u in
    let now = h.at.of_block p phase in
    let from = 4096 * (b - blocks_before k q m p) in
    let c = slice_index_or (leading_lists q w) y [] in
    let start = at_level k q m p (from + n) w (message_of u c) now.level now.message in
    let stop : next_leading q c ≡ None = sym (leading_next q w y c (leading_there q w y h.inside)) ∙ slice_get_past (leading_lists q w) (suc y) (omega (arith, last, length-leading_lists q w)) in
    let next : slice_get (messages k q w) (suc (from + n)) ≡ None = message_next k q w (from + n) (one_inside C.field) (message_of u c) start ∙ ap (λ o. turned (message_of u c) o (next_support 0 k u)) stop ∙ ap (turned (message_of u c) None) none in
    let room : from + (n + 1) < length (messages k q w) = subst (λ z. from + (n + 1) < length (messages k q z)) (sym now.level) (inside_level C m p b (n + 1) phase inside) in
    let there : suc (from + n) ≡ from + (n + 1) = omega arith in
    none-some _ (sym next ∙ ap (slice_get (messages k q w)) there ∙ slice_get-get_or (messages k q w) (from + (n + 1)) (message_of [] []) room)

-- one place of a growing list of heads
pub grown_kept : (f : FieldName) (d a x : ℕ) (rows heads old new : List (List ℕ)) → slice_index_or new x [] ≡ slice_index_or old x [] → IsGrown f d a rows heads old x → IsGrown f d a rows heads new x
grown_kept f d a x rows heads old new same h = subst (IsPlaneSum f (slice_index_or heads (x / d) []) (slice_index_or rows (a * d + x % d) [])) (sym same) h

pub grown_here : (f : FieldName) (d a n : ℕ) (rows initial old : List (List ℕ)) (y z : List ℕ) → 0 < d → n < length old → ((x : ℕ) → x < n + 1 → slice_index_or old x [] ≡ slice_index_or initial x []) → y ≡ slice_index_or rows (a * d + n % d) []
    → IsPlaneSum f (slice_index_or old (n / d) []) y z
    → IsGrown f d a rows initial (set old n z) n
grown_here f d a n rows initial old y z some inside left row sum =
    let put : slice_index_or (set old n z) n [] ≡ z = get_or-set_same old n z [] inside in
    let below : n / d < n + 1 = div_below n d (n + 1) some (omega (arith, le-mul_of_pos_right (n + 1) some)) in
    let head : slice_index_or old (n / d) [] ≡ slice_index_or initial (n / d) [] = left (n / d) below in
    let first : IsPlaneSum f (slice_index_or initial (n / d) []) y z = subst (λ v. IsPlaneSum f v y z) head sum in
    let second : IsPlaneSum f (slice_index_or initial (n / d) []) (slice_index_or rows (a * d + n % d) []) z = subst (λ v. IsPlaneSum f (slice_index_or initial (n / d) []) v z) row first in
    subst (IsPlaneSum f (slice_index_or initial (n / d) []) (slice_index_or rows (a * d + n % d) [])) (sym put) second

-- the heads from place n on, and those before
pub record AreGrown (f : FieldName) (d a : ℕ) (rows initial new : List (List ℕ)) (n many : ℕ) : Type 0 where
  pub done : (x : ℕ) → n ≤ x → x < many → IsGrown f d a rows initial new x
  pub left : (x : ℕ) → x < n → slice_index_or new x [] ≡ slice_index_or initial x []

pub grown_next : (f : FieldName) (d a n many : ℕ) (rows initial old : List (List ℕ)) (z : List ℕ) → AreGrown f d a rows initial old (n + 1) many → IsGrown f d a rows initial (set old n z) n → AreGrown f d a rows initial (set old n z) n many
grown_next f d a n many rows initial old z h here = record {
  done = λ x l m. ⊎_elim
      (λ o. subst (IsGrown f d a rows initial (set old n z)) (same x n o l) here)
      (λ o. grown_kept f d a x rows initial old (set old n z) (get_or-set_other old n x z [] (λ e. omega (arith, e, o))) (h.done x o m))
      (cases_lt x (n + 1));
  left = λ x l. get_or-set_other old n x z [] (λ e. omega (arith, e, l)) ∙ h.left x (omega (arith, l));
}
  where
    same : (x n : ℕ) → x < n + 1 → n ≤ x → n ≡ x
    same x n o l = omega (arith, o, l)

pub pair_of_heads : (d : ℕ) (i : ℕ) → 1 ≤ i → d ^ (i - 1) * d ≡ d ^ (i + 1 - 1)
pair_of_heads d i l =
    let e : i + 1 - 1 ≡ suc (i - 1) = omega (arith, l) in
    sym (ap (λ z. d ^ z) e ∙ pow-suc d (i - 1))

pub heads_less : (d i w : ℕ) → 0 < d → i ≤ w → d ^ (i - 1) ≤ d ^ (w - 1)
heads_less d i w l m = pow-le-pow_right l (omega (arith, m))

-- the pair of a support, and how many lists of coefficients it has

-- some message with a support
pub first_listed : (C : Matrix) (j : ℕ) (u : List ℕ) → Contains (supports_from 0 (length C.rows) (length u)) u → Contains (messages (length C.rows) (size C.field) (length u)) (spot_message (listed_spot C j u 0))
first_listed C j u h =
    let q = size C.field in
    let some : 0 < list_count C (length u) = one-le-pow (length u - 1) (q - 1) (omega (arith, one_inside C.field)) in
    listed_message (length C.rows) q (length u) 0 u _ h (leading_there q (length u) 0 some)

pub pair_there : (C : Matrix) (j y : ℕ) (u starts : List ℕ) (first : ℕ) → AreStarts (length C.rows) 2 starts → Contains (messages (length C.rows) (size C.field) (length u)) (spot_message (listed_spot C j u y)) → 3 ≤ length u → first ≡ slice_index_or starts (slice_index u (length u - 2)) first → slice_get (supports_from 0 (length C.rows) 2) (first + (slice_index u (length u - 1) - slice_index u (length u - 2) - 1)) ≡ Some (pair_of (listed_spot C j u y))
pair_there C j y u starts first h message level is =
    let s = listed_spot C j u y in
    let two : 2 ≤ length u = omega (arith, level) in
    let p = pair_read C s starts h message two in
    let read : first ≡ slice_index starts (slice_index u (length u - 2)) = is ∙ get_or_default starts (slice_index u (length u - 2)) first 0 p.started in
    ap (λ z. slice_get (supports_from 0 (length C.rows) 2) (z + (slice_index u (length u - 1) - slice_index u (length u - 2) - 1))) read ∙ index_of_pair C s starts h message two

pub lists_there : (C : Matrix) (w heads e : ℕ) → 3 ≤ w → heads ≡ list_count C (w - 2) → e ≡ size C.field - 1 → list_count C w ≡ heads * (e * e)
lists_there C w heads e level is elements = square (size C.field - 1) w level ∙ ap (λ z. z * ((size C.field - 1) * (size C.field - 1))) (sym is) ∙ ap (λ z. heads * (z * z)) (sym elements)

-- lists of coefficients as heads and tails
pub listed_inside : (C : Matrix) (j part y count : ℕ) (u : List ℕ) (a : Halves) → 3 ≤ length u → AreHalvesOf C j u part a → y + count ≤ list_count C (length u) → y + count ≤ length a.heads.now * a.tails
listed_inside C j part y count u a level h inside =
    let all : list_count C (length u) ≡ length a.heads.now * a.tails = lists_there C (length u) (length a.heads.now) (size C.field - 1) level h.all refl ∙ ap (λ z. length a.heads.now * z) (sym h.tails) in
    omega (arith, all, inside)

-- from a list of a support past the last one

abbrev SupportAfter : ℕ → List ℕ → List ℕ → Type 0
SupportAfter k u v = (n : ℕ) → slice_get (supports_from 0 k (length u)) n ≡ Some u → slice_get (supports_from 0 k (length u)) (n + 1) ≡ Some v

abbrev NoneAfter : ℕ → List ℕ → Type 0
NoneAfter k u = (n : ℕ) → slice_get (supports_from 0 k (length u)) n ≡ Some u → slice_get (supports_from 0 k (length u)) (n + 1) ≡ None

pub turned_at : (C : Matrix) (m b n count j y : ℕ) (u v : List ℕ) → IsListedAt C m b n j u y → 0 < count → y + count ≡ list_count C (length u) → SupportAfter (length C.rows) u v → length v ≡ length u → IsListedAt C m b (n + count) j v 0
turned_at C m b n count j y u v h some end after long =
    let k = length C.rows in
    let place = from_contains (supports_from 0 k (length u)) u h.rises in
    let plus : suc place.0 ≡ place.0 + 1 = omega arith in
    let next : next_support 0 k u ≡ Some v = sym (support_next 0 k (length u) place.0 u place.1) ∙ ap (slice_get (supports_from 0 k (length u))) plus ∙ after place.0 place.1 in
    let last = listed_step C m b n (count - 1) j y u h (omega (arith, some, end)) in
    let turned = listed_turned C m b (n + (count - 1)) j (y + (count - 1)) u v last (omega (arith, some, end)) next long in
    let there : n + (count - 1) + 1 ≡ n + count = omega (arith, some) in
    subst (λ z. IsListedAt C m b z j v 0) there turned

pub turned_none : (C : Matrix) (m p b n count j y : ℕ) (u : List ℕ) → IsInPhase (length C.rows) (size C.field) m p b → IsListedAt C m b n j u y → 0 < count → y + count ≡ list_count C (length u) → NoneAfter (length C.rows) u → n + count < length (block_words C m b) → ⊥
turned_none C m p b n count j y u phase h some end after inside =
    let k = length C.rows in
    let place = from_contains (supports_from 0 k (length u)) u h.rises in
    let plus : suc place.0 ≡ place.0 + 1 = omega arith in
    let none : next_support 0 k u ≡ None = sym (support_next 0 k (length u) place.0 u place.1) ∙ ap (slice_get (supports_from 0 k (length u))) plus ∙ after place.0 place.1 in
    let last = listed_step C m b n (count - 1) j y u h (omega (arith, some, end)) in
    listed_last C m p b (n + (count - 1)) j (y + (count - 1)) u phase last (omega (arith, some, end)) none (omega (arith, some, inside))
