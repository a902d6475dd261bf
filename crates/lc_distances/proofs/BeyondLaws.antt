-- Words of whole heads, all of which differ from their tails at a bound or more.
--   part_apart                 a word of some heads, by its head's index among these
--   beyond_all                 if the least number is no less than the bound, then all are
--   beyond_found               if all are, then the least number is
use Rattle.std.proofs.Common.{◌≡◌, ℕ, ◌+◌, ◌-◌, ◌*◌, ◌/◌, ◌%◌, ◌<◌, ◌≤◌, List, [], length, take, drop, slice_index_or, sym, ap, ◌∙◌, ⊎_elim, arith}
use Rattle.std.proofs.Math.Nat.{mod-lt, mul-le-mul_right}
use Rattle.std.proofs.lemmas.Bool.{cases_lt}
use Rattle.std.proofs.lemmas.List.{get_or-take, get_or-drop}
use Rattle.std.proofs.lemmas.Nat.{div-add-mod', div_below}
use Rattle.lc_distances.specs.declared.halves.Halves.{Halves}
use Rattle.lc_distances.specs.Halves.{tail_apart, symbols_apart}
use Rattle.lc_distances.specs.Least.{IsLeastPairOr}
use Rattle.lc_distances.proofs.RowLaws.{row_of_place}
use Rattle.lc_distances.proofs.LeastLaws.{piece_long}

-- some heads of all, which have tails
pub record IsPartOf (a : Halves) (head heads : ℕ) : Type 0 where
  pub some : 0 < a.tails
  pub within : head + heads ≤ length a.heads.now

abbrev pub heads_part : Halves → ℕ → ℕ → List (List ℕ)
heads_part a head heads = take (head + heads - head) (drop head a.heads.now)

part_rows : (a : Halves) (head heads : ℕ) → IsPartOf a head heads → length (heads_part a head heads) ≡ heads
part_rows a head heads h = piece_long head (head + heads) a.heads.now h.within ∙ omega arith

pub part_apart : (a : Halves) (head heads i : ℕ) → IsPartOf a head heads → i < heads * a.tails → (i / a.tails < length (heads_part a head heads)) × (tail_apart a (slice_index_or (heads_part a head heads) (i / a.tails) []) (i % a.tails) ≡ symbols_apart a (head * a.tails + i))
part_apart a head heads i h l =
    let T = a.tails in
    let all = a.heads.now in
    let whole : (head + i / T) * T + i % T ≡ head * T + i = omega (arith, div-add-mod' i T) in
    let place = row_of_place (head + i / T) (i % T) (head * T + i) T (mod-lt i h.some) whole in
    let below : i / T < heads = div_below i T heads h.some l in
    let row : i / T < head + heads - head = omega (arith, below) in
    let read : slice_index_or (heads_part a head heads) (i / T) [] ≡ slice_index_or all ((head * T + i) / T) [] = get_or-take (head + heads - head) (drop head all) (i / T) [] row ∙ get_or-drop head all (i / T) [] ∙ ap (λ z. slice_index_or all z []) (sym place.0) in (
      omega (arith, below, part_rows a head heads h),
      ap (λ z. tail_apart a z (i % T)) read ∙ ap (tail_apart a (slice_index_or all ((head * T + i) / T) [])) (sym place.1),
    )

pub beyond_all : (a : Halves) (head heads bound least : ℕ) → IsPartOf a head heads → IsLeastPairOr (length (heads_part a head heads)) a.tails (λ h t. tail_apart a (slice_index_or (heads_part a head heads) h []) t) bound least → bound ≤ least → (i : ℕ) → i < heads * a.tails → bound ≤ symbols_apart a (head * a.tails + i)
beyond_all a head heads bound least h is high i l =
    let at = part_apart a head heads i h l in
    omega (arith, is.low (i / a.tails) (i % a.tails) at.0 (mod-lt i h.some), at.1, high)

pub beyond_found : (a : Halves) (head heads bound least : ℕ) → IsPartOf a head heads → IsLeastPairOr (length (heads_part a head heads)) a.tails (λ h t. tail_apart a (slice_index_or (heads_part a head heads) h []) t) bound least → ((i : ℕ) → i < heads * a.tails → bound ≤ symbols_apart a (head * a.tails + i)) → bound ≤ least
beyond_found a head heads bound least h is all = ⊎_elim
    (λ (low : least < bound).
    let T = a.tails in
    let t = is.attained low in
    let place = row_of_place t.0 t.1 (t.0 * T + t.1) T t.3 (omega arith) in
    let rows : (t.0 + 1) * T ≤ heads * T = mul-le-mul_right T (omega (arith, t.2, part_rows a head heads h)) in
    let inside : t.0 * T + t.1 < heads * T = omega (arith, rows, t.3) in
    let at = (part_apart a head heads (t.0 * T + t.1) h inside).1 in
    let same : tail_apart a (slice_index_or (heads_part a head heads) ((t.0 * T + t.1) / T) []) ((t.0 * T + t.1) % T) ≡ tail_apart a (slice_index_or (heads_part a head heads) t.0 []) t.1 = ap (λ z. tail_apart a (slice_index_or (heads_part a head heads) z []) ((t.0 * T + t.1) % T)) place.0 ∙ ap (tail_apart a (slice_index_or (heads_part a head heads) t.0 [])) place.1 in
    absurd (omega (arith, all (t.0 * T + t.1) inside, at, same, t.4, low)))
    (λ high. high)
    (cases_lt least bound)
