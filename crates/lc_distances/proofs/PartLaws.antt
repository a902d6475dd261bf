-- Counts of words, one more part of the columns at a time.
--   part_start, part_end      no count with the part, and all of them
--   part_piece                the counts of a piece before the part is added
--   part_joined               the counts after the part is added to a piece
--   parts_none, parts_all     no part, and all parts
--   added_piece               counts to which a piece more is added
--   word_at, halves_at        the head and the tail of a word of a run
--   next_row, next_heads      one row more, or so many that the words that are looked at end with a row
use Rattle.std.proofs.Common.{◌≡◌, ℕ, ◌+◌, ◌-◌, ◌*◌, ◌%◌, ◌<◌, ◌≤◌, List, min, max, [], ◌++◌, length, replicate, take, drop, slice_index, slice_index_or, count_ones, sym, ap, ◌∙◌, ⊎_elim, arith}
use Rattle.std.proofs.lemmas.Bool.{cases_lt}
use Rattle.std.proofs.lemmas.List.{length-take-le, get_or-take, get_or-drop, get_or-append_right}
use Rattle.std.proofs.Math.ListN.{get_or-append}
use Rattle.lc_algebra.specs.Word.{weight}
use Rattle.lc_algebra.specs.SpanLaws.{restrict}
use Rattle.lc_algebra.proofs.RemainderLaws.{index-zeros}
use Rattle.lc_distances.specs.Least.{AreCounted, ArePartCounted}
use Rattle.lc_distances.specs.declared.halves.Halves.{Halves}
use Rattle.lc_distances.specs.Planes.{bits_apart}
use Rattle.lc_distances.specs.Halves.{tail_apart, symbols_apart}
use Rattle.lc_distances.proofs.LeastLaws.{piece_long}
use Rattle.lc_distances.proofs.PlaneLaws.{AreAdded}
use Rattle.lc_distances.proofs.RowLaws.{row_of_place}
use Rattle.lc_planes.proofs.ApartLaws.{part_none, part_all}

from_none : (i : ℕ) → 0 + i ≡ i
from_none i = omega arith

pub part_start : (cols : List ℕ) (b m : ℕ) (ws : List (List ℕ)) (counts : List ℕ) → AreCounted (take (64 * b) cols) ws 0 m counts → ArePartCounted cols b ws 0 m counts
part_start cols b m ws counts h = record { done = λ i l. absurd (omega (arith, l)); left = λ i _ l. h i l ∙ ap (λ z. weight (restrict (take (64 * b) cols) (slice_index_or ws z []))) (from_none i) }

pub part_end : (cols : List ℕ) (b n m : ℕ) (ws : List (List ℕ)) (counts : List ℕ) → m ≤ n → ArePartCounted cols b ws n m counts → AreCounted (take (64 * (b + 1)) cols) ws 0 m counts
part_end cols b n m ws counts all h i l = h.done i (omega (arith, l, all)) ∙ ap (λ z. weight (restrict (take (64 * (b + 1)) cols) (slice_index_or ws z []))) (sym (from_none i))

pub part_piece : (cols : List ℕ) (b done end m : ℕ) (ws : List (List ℕ)) (old : List ℕ) → ArePartCounted cols b ws done m old → length old ≡ m → end ≤ m → AreCounted (take (64 * b) cols) ws done (length (take (end - done) (drop done old))) (take (end - done) (drop done old))
part_piece cols b done end m ws old h long within i l =
    let n = end - done in
    let inside : i < n = omega (arith, l, piece_long done end old (omega (arith, within, long))) in
    get_or-take n (drop done old) i 0 inside ∙ get_or-drop done old i 0 ∙ h.left (done + i) (omega arith) (omega (arith, inside, within))

-- a list of which a piece has been replaced
record IsSpliced (n end : ℕ) (old new whole : List ℕ) : Type 0 where
  before : (i : ℕ) → i < n → slice_index whole i ≡ slice_index old i
  inside : (i : ℕ) → n ≤ i → i < end → slice_index whole i ≡ slice_index new (i - n)
  after : (i : ℕ) → end ≤ i → slice_index whole i ≡ slice_index old i

spliced : (n end : ℕ) (old new : List ℕ) → n ≤ end → end ≤ length old → length new ≡ length (take (end - n) (drop n old)) → IsSpliced n end old new (take n old ++ (new ++ drop (end - n) (drop n old)))
spliced n end old new order within e =
    let rest = drop (end - n) (drop n old) in
    let front = take n old in
    let front_long : length front ≡ n = length-take-le n old (omega (arith, order, within)) in
    let new_long : length new ≡ end - n = e ∙ piece_long n end old within in
    let later : (i : ℕ) → n ≤ i → slice_index (front ++ (new ++ rest)) i ≡ slice_index (new ++ rest) (i - n) = λ i l. get_or-append_right front (new ++ rest) n i 0 front_long l in
    record {
      before = λ i l. get_or-append front (new ++ rest) 0 i (omega (arith, l, front_long)) ∙ get_or-take n old i 0 l;
      inside = λ i l m. later i l ∙ get_or-append new rest 0 (i - n) (omega (arith, l, m, new_long));
      after = λ i l.
          let k = i - n - (end - n) in
          let place : n + (end - n + k) ≡ i = omega (arith, l, order) in
          later i (omega (arith, l, order)) ∙ get_or-append_right new rest (end - n) (i - n) 0 new_long (omega (arith, l, order)) ∙ get_or-drop (end - n) (drop n old) k 0 ∙ get_or-drop n old (end - n + k) 0 ∙ ap (slice_index old) place;
    }

pub part_joined : (cols : List ℕ) (b done end m : ℕ) (ws : List (List ℕ)) (old new : List ℕ) → ArePartCounted cols b ws done m old → length old ≡ m → done ≤ end → end ≤ m
    → AreCounted (take (64 * (b + 1)) cols) ws done (length (take (end - done) (drop done old))) new → length new ≡ length (take (end - done) (drop done old))
    → ArePartCounted cols b ws end m (take done old ++ (new ++ drop (end - done) (drop done old)))
part_joined cols b done end m ws old new h long order within g e =
    let s = spliced done end old new order (omega (arith, within, long)) e in
    let piece : length (take (end - done) (drop done old)) ≡ end - done = piece_long done end old (omega (arith, within, long)) in
    record {
      done = λ i l. ⊎_elim
          (λ a. s.before i a ∙ h.done i a)
          (λ a.
          let place : done + (i - done) ≡ i = omega (arith, a) in
          s.inside i a l ∙ g (i - done) (omega (arith, a, l, piece)) ∙ ap (λ z. weight (restrict (take (64 * (b + 1)) cols) (slice_index_or ws z []))) place)
          (cases_lt i done);
      left = λ i l o. s.after i l ∙ h.left i (omega (arith, l, order)) o;
    }

pub parts_none : (cols : List ℕ) (m n : ℕ) (ws : List (List ℕ)) (counts : List ℕ) → counts ≡ replicate n 0 → AreCounted (take (64 * 0) cols) ws 0 m counts
parts_none cols m n ws counts e i l = ap (λ z. slice_index z i) e ∙ index-zeros n i ∙ sym (part_none cols (slice_index_or ws (0 + i) []))

pub parts_all : (cols : List ℕ) (b m : ℕ) (ws : List (List ℕ)) (counts : List ℕ) → length cols ≤ 64 * b → AreCounted (take (64 * b) cols) ws 0 m counts → AreCounted cols ws 0 m counts
parts_all cols b m ws counts wide h i l = h i l ∙ part_all cols (slice_index_or ws (0 + i) []) b wide

pub added_piece : (f : ℕ → ℕ) (first old new : List ℕ) (n end : ℕ) → AreAdded f first old n → n ≤ end → end ≤ length old
    → ((i : ℕ) → i < length (take (end - n) (drop n old)) → slice_index new i ≡ slice_index (take (end - n) (drop n old)) i + f (n + i)) → length new ≡ length (take (end - n) (drop n old))
    → AreAdded f first (take n old ++ (new ++ drop (end - n) (drop n old))) end
added_piece f first old new n end h order within g e =
    let s = spliced n end old new order within e in
    let piece : length (take (end - n) (drop n old)) ≡ end - n = piece_long n end old within in
    record {
      done = λ i l. ⊎_elim
          (λ a. s.before i a ∙ h.done i a)
          (λ a.
          let k = i - n in
          let inside : k < end - n = omega (arith, a, l) in
          let place : n + k ≡ i = omega (arith, a) in
          s.inside i a l ∙ g k (omega (arith, inside, piece))
          ∙ ap (λ z. z + f (n + k)) (get_or-take (end - n) (drop n old) k 0 inside ∙ get_or-drop n old k 0 ∙ h.left (n + k) (omega arith)) ∙ ap (λ z. slice_index first z + f z) place)
          (cases_lt i n);
      left = λ i l. s.after i l ∙ h.left i (omega (arith, l, order));
    }

pub word_at : (a : Halves) (first done head tail i : ℕ) → head * a.tails + tail ≡ first + done → tail + i < a.tails → tail_apart a (slice_index_or a.heads.now head []) (tail + i) ≡ symbols_apart a (first + (done + i))
word_at a first done head tail i e l =
    let n = first + (done + i) in
    let place : head * a.tails + (tail + i) ≡ n = omega (arith, e) in
    let parts = row_of_place head (tail + i) n a.tails l place in
    ap (tail_apart a (slice_index_or a.heads.now head [])) (sym parts.1) ∙ ap (λ z. tail_apart a (slice_index_or a.heads.now z []) (n % a.tails)) (sym parts.0)

pub halves_at : (a : Halves) (first done head tail i : ℕ) → head * a.tails + tail ≡ first + done → tail + i < a.tails → count_ones (bits_apart a.planes (slice_index_or a.heads.now head []) a.bits.now a.words (a.start + tail + i)) ≡ symbols_apart a (first + (done + i))
halves_at a first done head tail i e l =
    let here : a.start + tail + i ≡ a.start + (tail + i) = omega arith in
    ap (λ z. count_ones (bits_apart a.planes (slice_index_or a.heads.now head []) a.bits.now a.words z)) here ∙ word_at a first done head tail i e l

pub next_row : (a T : ℕ) → (a + 1) * T ≡ a * T + T
next_row a T = omega arith

pub next_heads : (head tail heads many left next T : ℕ) → (0 < heads → (tail ≡ 0) × (many ≡ heads * T)) → (heads ≡ 0 → many ≡ min (T - tail) left) → next ≡ max heads 1 → tail < T → many < left → (head + next) * T ≡ head * T + tail + many
next_heads head tail heads many left next T whole part e low short = ⊎_elim
    (λ (some : 0 < heads).
    let is = whole some in
    let same : next ≡ heads = omega (arith, e, some) in
    rw same (omega (arith, is.0, is.1)))
    (λ (none : heads ≤ 0).
    let is = part (omega (arith, none)) in
    let same : next ≡ 1 = omega (arith, e, none) in
    rw same (omega (arith, is, low, short, next_row head T)))
    (cases_lt 0 heads)
