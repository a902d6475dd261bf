-- The least value on the board of some words.
--   value_at place ws i            the value of word i of a list that begins at a place: its weight times 2^52 plus its place
--   IsLeastValue place ws n v      v is the least value of the first n of these words
--   one_value, more_values, all_values      the least of one value, of a value more, and of all
use Rattle.std.proofs.Common.{◌≡◌, ℕ, suc, ◌+◌, ◌*◌, ◌^◌, ◌<◌, ◌≤◌, min, false, nat_lt, List, [], ◌∷◌, length, slice_get, slice_index_or, Some, option_map, refl, sym, ap, ◌∙◌, ⊎_elim, arith}
use Rattle.std.proofs.lemmas.Bool.{cases_lt}
use Rattle.std.proofs.lemmas.Bool.Decides.{nat_tests}
use Rattle.std.proofs.lemmas.Option.{slice_get-get_or, get_or_from_slice_get}
use Rattle.lc_algebra.specs.Word.{weight}
use Rattle.lc_enumeration.specs.Search.{Found, found_along, least_of, least_in, beats, board_value}
use Rattle.lc_enumeration.specs.Truth.{IsLeastOf}
use Rattle.lc_enumeration.proofs.SearchLaws.{along_holds, along_has, least_is, beats_is_less}

abbrev pub value_at : ℕ → List (List ℕ) → ℕ → ℕ
value_at place ws i = weight (slice_index_or ws i []) * 2 ^ 52 + (place + i)

pub record IsLeastValue (place : ℕ) (ws : List (List ℕ)) (n v : ℕ) : Type 0 where
  pub low : (i : ℕ) → i < n → v ≤ value_at place ws i
  pub attained : (i : ℕ) × (i < n) × (v ≡ value_at place ws i)

pub one_value : (place : ℕ) (ws : List (List ℕ)) (v : ℕ) → v ≡ value_at place ws 0 → IsLeastValue place ws 1 v
one_value place ws v e = record {
  low = λ i l. let z : i ≡ 0 = omega (arith, l) in rw (z, e) (omega arith);
  attained = (0, omega arith, e);
}

pub more_values : (place : ℕ) (ws : List (List ℕ)) (n v x : ℕ) → IsLeastValue place ws n v → x ≡ value_at place ws n → IsLeastValue place ws (n + 1) (min v x)
more_values place ws n v x h e =
    let least : min v x ≤ x = omega arith in
    record {
      low = λ i l. ⊎_elim (λ a. omega (arith, h.low i a)) (λ a. let z : i ≡ n = omega (arith, a, l) in rw z (omega (arith, least, e))) (cases_lt i n);
      attained = ⊎_elim
          (λ a. let t = h.attained in let is : min v x ≡ v = omega (arith, a) in (t.0, omega (arith, t.1), is ∙ t.2))
          (λ a. let is : min v x ≡ x = omega (arith, a) in (n, omega arith, is ∙ e))
          (cases_lt v x);
    }

value_is : (w p : ℕ) → board_value (record { weight = w; place = p }) ≡ w * 2 ^ 52 + p
unfolding board_value
value_is w p = refl

not_less : (a b : ℕ) → nat_lt a b ≡ false → b ≤ a
not_less a b e = grind (arith, nat_tests, e)

least_value : (place : ℕ) (ws : List (List ℕ)) (v : ℕ) (y : Found) → place + length ws ≤ 2 ^ 52 → IsLeastValue place ws (length ws) v → IsLeastOf (found_along place ws) y → board_value y ≡ v
least_value place ws v y few h l =
    let one = along_holds place ws y l.one in
    let t = h.attained in
    let word_i : slice_index_or ws one.0 [] ≡ one.1 = get_or_from_slice_get ws one.0 one.1 [] one.2 in
    let value_i : board_value y ≡ value_at place ws one.0 = ap board_value one.4 ∙ value_is (weight one.1) (place + one.0) ∙ ap (λ w. weight w * 2 ^ 52 + (place + one.0)) (sym word_i) in
    let at_j : slice_get ws t.0 ≡ Some (slice_index_or ws t.0 []) = slice_get-get_or ws t.0 [] t.1 in
    let x : Found = record { weight = weight (slice_index_or ws t.0 []); place = place + t.0 } in
    let beaten : beats x y ≡ false = l.unbeaten x (along_has place ws t.0 (slice_index_or ws t.0 []) at_j) in
    let y_place : y.place ≡ place + one.0 = ap (λ (z : Found). z.place) one.4 in
    let less : beats x y ≡ nat_lt (board_value x) (board_value y) = beats_is_less x y (omega (arith, few, t.1)) (omega (arith, few, one.3, y_place)) in
    let high : board_value y ≤ board_value x = not_less (board_value x) (board_value y) (sym less ∙ beaten) in
    let value_j : board_value x ≡ v = value_is (weight (slice_index_or ws t.0 [])) (place + t.0) ∙ sym t.2 in
    let low : v ≤ board_value y = rw value_i (h.low one.0 one.3) in
    omega (arith, low, high, value_j)

pub all_values : (place : ℕ) (ws : List (List ℕ)) (v : ℕ) → place + length ws ≤ 2 ^ 52 → IsLeastValue place ws (length ws) v → option_map board_value (least_in (found_along place ws)) ≡ Some v
unfolding found_along least_in
all_values place [] v few h = absurd (omega (arith, h.attained.1))
all_values place (w ∷ ws) v few h =
    ap Some (least_value place (w ∷ ws) v (least_of (record { weight = weight w; place = place }) (found_along (suc place) ws)) few h (least_is (record { weight = weight w; place = place }) (found_along (suc place) ws)))
