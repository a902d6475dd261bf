-- True parts have the best word of the blocks that they have.
--   least_word               the word that is found, and that none found beats, is the best
--   best_seen                the best word after some blocks is found in them, or is that at place 0
--   seen_more                what is found in some blocks is found in more
--   part_seen                what is found in a true part
--   covered_best             parts that have all blocks below a number have the best word of these
--   joined_best              a part that goes on from a state makes a best word of a best word
--   part_begun, part_longer  a part without a block, and one with more blocks
use Rattle.std.proofs.Common.{◌≡◌, ℕ, ◌+◌, ◌*◌, ◌/◌, ◌%◌, ◌<◌, ◌≤◌, ◌⊎◌, false, List, [], ◌∷◌, map, All, Contains, refl, sym, ap, subst, ◌∙◌, inl, inr, ⊎_elim, arith}
use Rattle.std.proofs.lemmas.Bool.{cases_lt}
use Rattle.std.proofs.lemmas.List.Elements.{All-contains}
use Rattle.std.proofs.Math.Nat.{mod-add-div', mod-lt}
use Rattle.lc_algebra.specs.Matrix.{Matrix}
use Rattle.lc_algebra.proofs.SpanLaws.{contains_head, contains_tail, contains_cases, contains_map, map_contains}
use Rattle.lc_algebra.proofs.DivisorLaws.{no_member}
use Rattle.lc_enumeration.specs.Message.{numbers_from}
use Rattle.lc_enumeration.specs.Search.{Found, set_count, beats, found_from, least_of, found_first, found_below, best}
use Rattle.lc_enumeration.specs.Records.{Progress, found_of, progress_of, IsBestAt}
use Rattle.lc_enumeration.specs.Truth.{IsFoundBetween, IsLeastOf}
use Rattle.lc_enumeration.proofs.RecordsLaws.{least_append, found_append}
use Rattle.lc_enumeration.proofs.SearchLaws.{found_is, found_has, beats_through, least_is, least_one}
use Rattle.lc_parts.specs.Part.{Part, part_from, part_end, found_in, IsTruePart}
use Rattle.lc_parts.specs.Along.{after_part}
use Rattle.lc_parts.specs.Cover.{Covers}

-- x is the word at place 0, or is found in the blocks below l
abbrev IsSeen : Matrix → ℕ → Found → Type 0
IsSeen C l x = (found_first C (set_count C) ≡ x) ⊎ IsFoundBetween C (set_count C) 0 l x

-- no word that is found there beats it
record IsUnbeaten (C : Matrix) (l : ℕ) (x : Found) : Type 0 where
  pub first : beats (found_first C (set_count C)) x ≡ false
  pub others : (y : Found) → IsFoundBetween C (set_count C) 0 l y → beats y x ≡ false

in_below : (C : Matrix) (l : ℕ) (x : Found) → IsSeen C l x → Contains (found_first C (set_count C) ∷ found_below C (set_count C) l) x
unfolding found_below
in_below C l x h =
    let m = set_count C in
    let all = found_from C m 0 l in
    ⊎_elim (λ e. subst (Contains (found_first C m ∷ found_first C m ∷ all)) e (contains_head (found_first C m) (found_first C m ∷ all)))
    (λ f. contains_tail (found_first C m) x (found_first C m ∷ all) (contains_tail (found_first C m) x all (found_has C m 0 l x f))) h

of_below : (C : Matrix) (l : ℕ) (x : Found) → Contains (found_first C (set_count C) ∷ found_below C (set_count C) l) x → IsSeen C l x
unfolding found_below
of_below C l x h =
    let m = set_count C in
    let all = found_from C m 0 l in
    ⊎_elim (λ e. inl e) (λ k. ⊎_elim (λ e. inl e) (λ f. inr (found_is C m 0 l x f)) (contains_cases (found_first C m) x all k)) (contains_cases (found_first C m) x (found_first C m ∷ all) h)

least_word : (C : Matrix) (l : ℕ) (x : Found) → IsSeen C l x → IsUnbeaten C l x → x ≡ best C (set_count C) l
unfolding best
least_word C l x seen unbeaten =
    let m = set_count C in
    least_one (found_first C m ∷ found_below C m l) x (least_of (found_first C m) (found_below C m l))
    (record {
      one = in_below C l x seen;
      unbeaten = λ y h. ⊎_elim (λ e. subst (λ (z : Found). beats z x ≡ false) e unbeaten.first) (λ f. unbeaten.others y f) (of_below C l y h);
    })
    (least_is (found_first C m) (found_below C m l))

best_seen : (C : Matrix) (l : ℕ) → IsSeen C l (best C (set_count C) l)
unfolding best
best_seen C l = let m = set_count C in of_below C l (least_of (found_first C m) (found_below C m l)) (least_is (found_first C m) (found_below C m l)).one

best_unbeaten : (C : Matrix) (l : ℕ) → IsUnbeaten C l (best C (set_count C) l)
unfolding best
best_unbeaten C l =
    let m = set_count C in
    let least = least_is (found_first C m) (found_below C m l) in
    record {
      first = least.unbeaten (found_first C m) (in_below C l (found_first C m) (inl refl));
      others = λ y f. least.unbeaten y (in_below C l y (inr f));
    }

-- what is found in some blocks is found in others that have them
between : (C : Matrix) (first count from many : ℕ) (x : Found) → from * 4096 ≤ x.place → x.place < (from + many) * 4096 → IsFoundBetween C (set_count C) first count x → IsFoundBetween C (set_count C) from many x
between C first count from many x low high f = record { from = low; before = high; word = f.word }

seen_more : (C : Matrix) (l more : ℕ) (x : Found) → l ≤ more → IsSeen C l x → IsSeen C more x
seen_more C l more x few h = ⊎_elim (λ e. inl e) (λ f. inr (between C 0 l 0 more x (omega arith) (omega (arith, few, f.before)) f)) h

-- the word of a true part is found in its blocks, or is that at place 0; and nothing found there beats it
record PartHas (C : Matrix) (p : Part) : Type 0 where
  pub seen : (found_first C (set_count C) ≡ found_in p) ⊎ IsFoundBetween C (set_count C) p.start p.count (found_in p)
  pub first : beats (found_first C (set_count C)) (found_in p) ≡ false
  pub others : (y : Found) → IsFoundBetween C (set_count C) p.start p.count y → beats y (found_in p) ≡ false

part_has : (C : Matrix) (p : Part) → IsTruePart C p → PartHas C p
part_has C p holds =
    let m = set_count C in
    let a = found_first C m in
    let all = found_from C m p.start p.count in
    let least : IsLeastOf (a ∷ all) (found_in p) = subst (IsLeastOf (a ∷ all)) (sym holds) (least_is a all) in
    record {
      seen = ⊎_elim (λ e. inl e) (λ h. inr (found_is C m p.start p.count (found_in p) h)) (contains_cases a (found_in p) all least.one);
      first = least.unbeaten a (contains_head a all);
      others = λ y f. least.unbeaten y (contains_tail a y all (found_has C m p.start p.count y f));
    }

part_seen : (C : Matrix) (p : Part) (l : ℕ) → IsTruePart C p → part_end p ≤ l → IsSeen C l (found_in p)
unfolding part_end
part_seen C p l holds few = ⊎_elim (λ e. inl e) (λ f. inr (between C p.start p.count 0 l (found_in p) (omega arith) (omega (arith, few, f.before)) f)) (part_has C p holds).seen

-- the block of a place
block_of : (C : Matrix) (p : Part) (y : Found) (first count : ℕ) → p.start * 4096 ≤ y.place → y.place < part_end p * 4096 → IsFoundBetween C (set_count C) first count y → IsFoundBetween C (set_count C) p.start p.count y
unfolding part_end
block_of C p y first count low high f = between C first count p.start p.count y low high f

pub joined_best : (C : Matrix) (s : Progress) (p : Part) → IsBestAt C s → IsTruePart C p → p.start ≤ s.blocks → s.blocks ≤ part_end p → IsBestAt C (after_part s p)
unfolding after_part found_of progress_of least_of
joined_best C s p is_best holds low high =
    let x = least_of (found_of s) (found_in p ∷ []) in
    let two = least_is (found_of s) (found_in p ∷ []) in
    let has = part_has C p holds in
    let old : IsUnbeaten C s.blocks (found_of s) = subst (IsUnbeaten C s.blocks) (sym is_best) (best_unbeaten C s.blocks) in
    let seen : IsSeen C s.blocks (found_of s) = subst (IsSeen C s.blocks) (sym is_best) (best_seen C s.blocks) in
    let over : beats (found_of s) x ≡ false = two.unbeaten (found_of s) (contains_head (found_of s) (found_in p ∷ [])) in
    let over_part : beats (found_in p) x ≡ false = two.unbeaten (found_in p) (contains_tail (found_of s) (found_in p) (found_in p ∷ []) (contains_head (found_in p) [])) in
    least_word C (part_end p) x
    (⊎_elim (λ e. subst (IsSeen C (part_end p)) e (seen_more C s.blocks (part_end p) (found_of s) high seen))
    (λ r. ⊎_elim (λ e. subst (IsSeen C (part_end p)) e (part_seen C p (part_end p) holds (omega arith))) (λ n. absurd (no_member x n)) (contains_cases (found_in p) x [] r))
    (contains_cases (found_of s) x (found_in p ∷ []) two.one))
    (record {
      first = beats_through x (found_in p) (found_first C (set_count C)) over_part has.first;
      others = λ y f. ⊎_elim
          (λ l. beats_through x (found_of s) y over (old.others y (between C 0 (part_end p) 0 s.blocks y (omega arith) (omega (arith, l)) f)))
          (λ g. beats_through x (found_in p) y over_part (has.others y (block_of C p y 0 (part_end p) (omega (arith, g, low)) (omega (arith, f.before)) f)))
          (cases_lt y.place (s.blocks * 4096));
    })

pub covered_best : (C : Matrix) (parts : List Part) (l : ℕ) → All (IsTruePart C) parts → Covers parts l → least_of (found_first C (set_count C)) (map found_in parts) ≡ best C (set_count C) l
unfolding part_end
covered_best C parts l all covers =
    let m = set_count C in
    let a = found_first C m in
    let founds = map found_in parts in
    let x = least_of a founds in
    let least = least_is a founds in
    least_word C l x
    (⊎_elim (λ e. inl e) (λ r. let t = contains_map found_in parts x r in
    subst (IsSeen C l) (sym t.2) (part_seen C t.0 l (All-contains (IsTruePart C) parts t.0 all t.1) (All-contains (λ p. part_end p ≤ l) parts t.0 covers.within t.1)))
    (contains_cases a x founds least.one))
    (record {
      first = least.unbeaten a (contains_head a founds);
      others = λ y f.
          let whole = mod-add-div' y.place 4096 in
          let few : y.place % 4096 < 4096 = mod-lt y.place (omega arith) in
          let t = covers.each (y.place / 4096) (omega (arith, whole, few, f.before)) in
          let has = part_has C t.0 (All-contains (IsTruePart C) parts t.0 all t.1) in
          beats_through x (found_in t.0) y (least.unbeaten (found_in t.0) (contains_tail a (found_in t.0) founds (map_contains found_in parts t.0 t.1)))
          (has.others y (block_of C t.0 y 0 l (omega (arith, whole, few, t.2)) (omega (arith, whole, few, t.3)) f));
    })

pub part_begun : (C : Matrix) (start : ℕ) → IsTruePart C (part_from start 0 (found_first C (set_count C)))
unfolding part_from found_in found_from numbers_from least_of
part_begun C start = refl

pub part_longer : (C : Matrix) (p : Part) (count : ℕ) → IsTruePart C p → IsTruePart C (part_from p.start (p.count + count) (least_of (found_in p) (found_from C (set_count C) (part_end p) count)))
unfolding part_from found_in part_end
part_longer C p count holds =
    let m = set_count C in
    let a = found_first C m in
    let more = found_from C m (p.start + p.count) count in
    ap (λ (x : Found). least_of x more) holds ∙ sym (least_append (found_from C m p.start p.count) a more)
    ∙ ap (least_of a) (sym (found_append C m p.start p.count count))
