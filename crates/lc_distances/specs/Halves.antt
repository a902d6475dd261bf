-- Words as pairs of a head and a tail.
--   AreHalves a             the bits are 2 to 4 planes of some words, with at least one tail among these, and there are at most 1,024 heads
--   tail_apart a u t        the number of symbols at which a head, whose planes are u, differs from tail t
--   symbols_apart a n       the same for the head and the tail of word n
--   group_heads t           how many heads are looked at together, of t tails each: 8 if t is at most 16, 2 if it is below 100, else one
use Rattle.std.specs.Prelude.{◌≡◌, ℕ, ◌+◌, ◌*◌, ◌/◌, ◌%◌, ◌^◌, ◌<◌, ◌≤◌, nat_le, nat_lt, if◌then◌else◌, List, [], length, slice_index_or, count_ones}
use Rattle.lc_distances.specs.declared.halves.Halves.{Halves}
use Rattle.lc_distances.specs.Planes.{bits_apart}

pub record AreHalves (a : Halves) : Type 0 where
  pub least : 2 ≤ a.planes
  pub most : a.planes ≤ 4
  pub long : length a.bits.now ≡ a.planes * a.words
  pub some : 0 < a.tails
  pub room : a.start + a.tails ≤ a.words
  pub small : a.words ≤ 2 ^ 18
  pub few : length a.heads.now ≤ 1024

abbrev pub tail_apart : Halves → List ℕ → ℕ → ℕ
tail_apart a u t = count_ones (bits_apart a.planes u a.bits.now a.words (a.start + t))

abbrev pub symbols_apart : Halves → ℕ → ℕ
symbols_apart a n = tail_apart a (slice_index_or a.heads.now (n / a.tails) []) (n % a.tails)

abbrev pub group_heads : ℕ → ℕ
group_heads t = if nat_le t 16 then 8 else (if nat_lt t 100 then 2 else 1)
