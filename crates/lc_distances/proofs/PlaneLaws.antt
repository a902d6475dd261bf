-- Words over any field as bits.
--   added_next                   counts with one more of them added to
--   apart_two, apart_three, apart_four      where a word differs from one of some words, by two, three or four planes
--   by_planes                    the number of symbols at which they differ, by all planes
use Rattle.std.proofs.Common.{◌≡◌, ℕ, ◌+◌, ◌-◌, ◌*◌, ◌<◌, ◌≤◌, List, length, take, drop, set, slice_index, bit_or, bit_xor, count_ones, sym, ap, ◌∙◌, ⊎_elim, arith}
use Rattle.std.proofs.lemmas.Bool.{cases_lt}
use Rattle.std.specs.Int.Bits.{or_zero_r}
use Rattle.std.proofs.lemmas.List.{get_or-take, get_or-drop, get_or-set_same, get_or-set_other}
use lib.Count.{ones}
use mir.Val.{bits}
use Rattle.lc_distances.specs.Planes.{bits_apart}
use Rattle.lc_planes.specs.Planes.{apart}

-- a word and words by their planes, one list of bits after another
read_cut : (bits : List ℕ) (first n i : ℕ) → i < n → slice_index (take (first + n - first) (drop first bits)) i ≡ slice_index bits (first + i)
read_cut bits first n i l = get_or-take (first + n - first) (drop first bits) i 0 (omega (arith, l)) ∙ get_or-drop first bits i 0

-- the number at an index of a part of the bits, and where a word differs there from another
abbrev cut : List ℕ → ℕ → ℕ → ℕ → ℕ
cut bits first n i = slice_index (take (first + n - first) (drop first bits)) i

abbrev cut_two : List ℕ → List ℕ → ℕ → ℕ → ℕ → ℕ → ℕ
cut_two head bits words start n i = bit_or (bit_xor (slice_index head 1) (cut bits (words + start) n i)) (bit_xor (slice_index head 0) (cut bits start n i))

abbrev cut_three : List ℕ → List ℕ → ℕ → ℕ → ℕ → ℕ → ℕ
cut_three head bits words start n i = bit_or (bit_xor (slice_index head 2) (cut bits (words + (words + start)) n i)) (cut_two head bits words start n i)

abbrev cut_four : List ℕ → List ℕ → ℕ → ℕ → ℕ → ℕ → ℕ
cut_four head bits words start n i = bit_or (bit_xor (slice_index head 3) (cut bits (words + (words + (words + start))) n i)) (cut_three head bits words start n i)

pub apart_two : (head bits : List ℕ) (words start n i : ℕ) → i < n → cut_two head bits words start n i ≡ bits_apart 2 head bits words (start + i)
apart_two head bits words start n i l =
    let first : cut bits start n i ≡ slice_index bits (0 * words + (start + i)) = read_cut bits start n i l ∙ ap (slice_index bits) (omega arith) in
    let second : cut bits (words + start) n i ≡ slice_index bits (1 * words + (start + i)) = read_cut bits (words + start) n i l ∙ ap (slice_index bits) (omega arith) in
    ap (λ z. bit_or (bit_xor (slice_index head 1) z) (bit_xor (slice_index head 0) (cut bits start n i))) second
    ∙ ap (λ z. bit_or (bit_xor (slice_index head 1) (slice_index bits (1 * words + (start + i)))) (bit_xor (slice_index head 0) z)) first
    ∙ ap (bit_or (bit_xor (slice_index head 1) (slice_index bits (1 * words + (start + i))))) (sym (or_zero_r (bit_xor (slice_index head 0) (slice_index bits (0 * words + (start + i))))))

pub apart_three : (head bits : List ℕ) (words start n i : ℕ) → i < n → cut_three head bits words start n i ≡ bits_apart 3 head bits words (start + i)
apart_three head bits words start n i l =
    let third : cut bits (words + (words + start)) n i ≡ slice_index bits (2 * words + (start + i)) = read_cut bits (words + (words + start)) n i l ∙ ap (slice_index bits) (omega arith) in
    ap (λ z. bit_or (bit_xor (slice_index head 2) z) (cut_two head bits words start n i)) third ∙ ap (bit_or (bit_xor (slice_index head 2) (slice_index bits (2 * words + (start + i))))) (apart_two head bits words start n i l)

pub apart_four : (head bits : List ℕ) (words start n i : ℕ) → i < n → cut_four head bits words start n i ≡ bits_apart 4 head bits words (start + i)
apart_four head bits words start n i l =
    let fourth : cut bits (words + (words + (words + start))) n i ≡ slice_index bits (3 * words + (start + i)) = read_cut bits (words + (words + (words + start))) n i l ∙ ap (slice_index bits) (omega arith) in
    ap (λ z. bit_or (bit_xor (slice_index head 3) z) (cut_three head bits words start n i)) fourth ∙ ap (bit_or (bit_xor (slice_index head 3) (slice_index bits (3 * words + (start + i))))) (apart_three head bits words start n i l)

pub by_planes : (planes n apart words e : ℕ) (head bits : List ℕ) → planes ≡ n → apart ≡ bits_apart n head bits words e → count_ones apart ≡ count_ones (bits_apart planes head bits words e)
by_planes planes n apart words e head bits all same = ap count_ones (same ∙ ap (λ z. bits_apart z head bits words e) (sym all))

-- counts with one more of them added to
pub record AreAdded (f : ℕ → ℕ) (first counts : List ℕ) (i : ℕ) : Type 0 where
  pub done : (t : ℕ) → t < i → slice_index counts t ≡ slice_index first t + f t
  pub left : (t : ℕ) → i ≤ t → slice_index counts t ≡ slice_index first t

pub added_next : (f : ℕ → ℕ) (first old : List ℕ) (i : ℕ) → i < length old → AreAdded f first old i → AreAdded f first (set old i (slice_index old i + f i)) (i + 1)
added_next f first old i l h = record {
  done = λ t m. ⊎_elim
      (λ a. get_or-set_other old i t (slice_index old i + f i) 0 (λ e. omega (arith, e, a)) ∙ h.done t a)
      (λ a.
      let same : t ≡ i = omega (arith, a, m) in
      ap (slice_index (set old i (slice_index old i + f i))) same ∙ get_or-set_same old i (slice_index old i + f i) 0 l ∙ ap (λ z. z + f i) (h.left i (omega arith)) ∙ ap (λ z. slice_index first z + f z) (sym same))
      (cases_lt t i);
  left = λ t m. get_or-set_other old i t (slice_index old i + f i) 0 (λ e. omega (arith, e, m)) ∙ h.left t (omega (arith, m));
}
