-- The best word of a search, from before its blocks to after some of them.
--   PlaceParts, place_parts    the block and the index of a place of a phase
--   word_put                   the word at a place, as it is made
--   moved_there                if the best place changed, it is one of the new blocks
--   best_first                 the best word before all blocks
--   best_taken                 the best word after some blocks
use Rattle.std.proofs.Common.{◌≡◌, ℕ, suc, ◌+◌, ◌-◌, ◌*◌, ◌/◌, ◌%◌, ◌^◌, ◌<◌, ◌≤◌, List, [], ◌∷◌, Contains, length, slice_get, slice_index_or, Some, sym, ap, subst, ◌∙◌, ⊎_elim, arith}
use Rattle.std.proofs.Math.Nat.{mod-add-div', mod-lt}
use Rattle.std.proofs.lemmas.Option.{slice_get_within}
use Rattle.lc_algebra.specs.Field.{size, neg}
use Rattle.lc_algebra.specs.Word.{IsWord, word_sum, scale, difference, weight}
use Rattle.lc_algebra.specs.Matrix.{Matrix, AreRows}
use Rattle.lc_algebra.specs.Span.{AreIndependent}
use Rattle.lc_algebra.proofs.SpanLaws.{span_word, contains_cases}
use Rattle.lc_algebra.proofs.WordLaws.{weight_at_most_length}
use Rattle.lc_enumeration.specs.Search.{Found, board_value}
use Rattle.lc_enumeration.specs.NearWord.{patterns, pattern_count, coset_word, coset_words, coset_word_at, near_first, near_from, near_best}
use Rattle.lc_enumeration.proofs.SearchLaws.{least_is}
use Rattle.lc_infoset.proofs.AnswerLaws.{some_set}
use Rattle.lc_infoset.proofs.GreedyLaws.{generators_are}
use Rattle.lc_place.specs.Place.{spot_message}
use Rattle.lc_coset_laws.proofs.PatternLaws.{zero_pattern}
use Rattle.lc_coset_laws.proofs.PlaceLaws.{coset_word_inside, near_is}
use Rattle.lc_coset_laws.proofs.SeenLaws.{less_rest}
use Rattle.lc_coset_laws.proofs.NearBest.{near_after, near_first_is, first_word_at}
use Rattle.lc_coset_laws.proofs.NearLaws.{near_best_is}
use Rattle.lc_coset_laws.proofs.ErrorLaws.{left_is}
use Rattle.lc_coset.specs.declared.frame.Frame.{Frame}
use Rattle.lc_coset.specs.declared.blocks.CosetPhase.{CosetPhase}
use Rattle.lc_coset.specs.declared.best.Best.{Best}
use Rattle.lc_coset.specs.declared.walk.Room.{Room}
use Rattle.lc_coset.specs.Near.{near_left, IsAtRank}
use Rattle.lc_coset.specs.Phase.{IsFrame, IsPhaseOf, IsPlaceOf, IsBestAt}
use Rattle.lc_coset.proofs.WalkLaws.{WalkRows}
use Rattle.lc_coset.proofs.BlockLaws.{pattern_at, top_is, set_of, block_word, block_size}
use Rattle.lc_coset.proofs.RoundLaws.{board_parts, best_light}

-- x less what a word of the code leaves of it is that word
rest_back : (C : Matrix) (x v rest word : List ℕ) → IsWord C.field C.columns x → IsWord C.field C.columns v → rest ≡ difference C.field x v → word ≡ word_sum C.field x (scale C.field (neg C.field 1) rest) → word ≡ v
unfolding difference
rest_back C x v rest word i j e made = made ∙ ap (λ r. word_sum C.field x (scale C.field (neg C.field 1) r)) e ∙ less_rest C.field C.columns x v i j

pub record PlaceParts (fr : Frame) (ph : CosetPhase) (place : ℕ) : Type 0 where
  pub block : ℕ
  pub index : ℕ
  pub is : place - ph.first * 4096 ≡ block * 4096 + index
  pub inside : block < ph.blocks
  pub few : index < 4096
  pub word : (w : List ℕ) × (slice_get (coset_words fr.sets fr.word (ph.first + block)) index ≡ Some w) × (coset_word_at fr.sets fr.word place ≡ Some w)
  pub counted : place - ph.first * 4096 < pattern_count (length fr.sets.rows) (size fr.sets.field) ph.level
  pub small : place - ph.first * 4096 < 2 ^ 52

pub place_parts : (fr : Frame) (ph : CosetPhase) (place : ℕ) → IsPhaseOf fr ph → IsPlaceOf fr ph place → PlaceParts fr ph place
unfolding coset_word_at
place_parts fr ph place h t =
    let b = place / 4096 - ph.first in
    let i = place % 4096 in
    let whole : i + place / 4096 * 4096 ≡ place = mod-add-div' place 4096 in
    let few : i < 4096 = mod-lt place (omega arith) in
    let block : ph.first + b ≡ place / 4096 = omega (arith, whole, few, t.from) in
    let inside : b < ph.blocks = omega (arith, block, whole, t.before) in
    let w = t.word.0 in
    let at : slice_get (coset_words fr.sets fr.word (ph.first + b)) i ≡ Some w = ap (λ c. slice_get (coset_words fr.sets fr.word c) i) block ∙ t.word.1 in
    let within = slice_get_within (coset_words fr.sets fr.word (ph.first + b)) i w at in
    record {
      block = b;
      index = i;
      is = omega (arith, whole, block);
      inside = inside;
      few = few;
      word = (w, at, t.word.1);
      counted = omega (arith, whole, block, within, block_size fr ph b h inside);
      small = omega (arith, whole, block, inside, few, h.uncut);
    }

pub word_put : (fr : Frame) (ph : CosetPhase) (place : ℕ) (left rest word : List ℕ) (r : Room) → IsFrame fr → IsPhaseOf fr ph → IsPlaceOf fr ph place → left ≡ near_left fr.sets fr.word ph.set → WalkRows fr.sets left ph.set
    → IsAtRank fr.sets left ph.set ph.level (place - ph.first * 4096) r → rest ≡ slice_index_or r.sums.items (suc ph.level) [] → word ≡ word_sum fr.sets.field fr.word (scale fr.sets.field (neg fr.sets.field 1) rest) → coset_word_at fr.sets fr.word place ≡ Some word
word_put fr ph place left rest word r t h here e rows at top made =
    let C = fr.sets in
    let x = fr.word in
    let p = place_parts fr ph place h here in
    let q = pattern_at (length C.rows) (size C.field) ph.level (place - ph.first * 4096) (spot_message r.spot) p.counted at.message in
    let v = coset_word C x ph.set q.pattern in
    let item : slice_get (coset_words C x (ph.first + p.block)) p.index ≡ Some v = block_word fr ph p.block p.index q.pattern h p.inside p.few (ap (λ n. slice_get (patterns (length C.rows) (size C.field) ph.level) n) (sym p.is) ∙ q.listed) in
    let is_word : IsWord C.field C.columns v = span_word C.field C.columns C.rows v t.rows (coset_word_inside C x ph.set q.pattern t.rows) in
    let left_of : rest ≡ difference C.field x v = top ∙ top_is C x left ph.set ph.level (place - ph.first * 4096) r q (generators_are C t.rows t.independent) t.given (set_of fr ph h).set e rows at in
    let same : word ≡ v = rest_back C x v rest word t.given is_word left_of made in
    p.word.2 ∙ sym p.word.1 ∙ item ∙ ap Some (sym same)

pub moved_there : (fr : Frame) (ph : CosetPhase) (s n : ℕ) → IsPhaseOf fr ph → s + n ≤ ph.blocks → ((near_best fr.sets fr.word (ph.first + s + n)).place ≡ (near_best fr.sets fr.word (ph.first + s)).place → ⊥) → IsPlaceOf fr ph (near_best fr.sets fr.word (ph.first + s + n)).place
moved_there fr ph s n h l apart =
    let C = fr.sets in
    let x = fr.word in
    let a = near_best C x (ph.first + s) in
    let others = near_from C x (ph.first + s) n in
    let y = near_best C x (ph.first + s + n) in
    let is : Contains (a ∷ others) y = subst (Contains (a ∷ others)) (sym (near_after C x (ph.first + s) n)) (least_is a others).one in
    ⊎_elim
    (λ e. absurd (apart (ap (λ (z : Found). z.place) (sym e))))
    (λ m. let f = near_is C x (ph.first + s) n y m in record { from = omega (arith, f.from); before = omega (arith, f.before, l); word = (f.word.0, f.word.1) })
    (contains_cases a y others is)

none_first : (C : Matrix) (x : List ℕ) → near_best C x 0 ≡ near_first C x
none_first C x = ⊎_elim (λ e. sym e) (λ m. ⊎_elim (λ e. sym e) (λ k. absurd (nothing k)) (contains_cases (near_first C x) (near_best C x 0) (near_from C x 0 0) m)) (contains_cases (near_first C x) (near_best C x 0) (near_first C x ∷ near_from C x 0 0) (near_best_is C x 0).one)
  where
    nothing : Contains (near_from C x 0 0) (near_best C x 0) → ⊥
    nothing k = let f = near_is C x 0 0 (near_best C x 0) k in omega (arith, f.before, f.from)

pub best_first : (C : Matrix) (x left word : List ℕ) (b : Best) → AreRows C.field C.columns C.rows → AreIndependent C.field C.columns C.rows → C.columns ≤ 255 → IsWord C.field C.columns x → left ≡ near_left C x 0 → word ≡ word_sum C.field x (scale C.field (neg C.field 1) left)
    → b.weight ≡ weight left → b.place ≡ 0 → b.word ≡ word → IsBestAt C x 0 b
best_first C x left word b r free short is e made weighs at keeps =
    let v = coset_word C x 0 zero_pattern in
    let is_word : IsWord C.field C.columns v = span_word C.field C.columns C.rows v r (coset_word_inside C x 0 zero_pattern r) in
    let same : word ≡ v = rest_back C x v left word is is_word e made in
    let first = near_first_is C x in
    let none = none_first C x in
    let left_long : length left ≡ C.columns = ap length e ∙ (left_is C x 0 (generators_are C r free) is (some_set C)).long in
    record {
      distance = weighs ∙ ap weight e ∙ sym first.0 ∙ ap (λ (z : Found). z.weight) (sym none);
      place_is = at ∙ sym first.1 ∙ ap (λ (z : Found). z.place) (sym none);
      there = subst (λ p. coset_word_at C x p ≡ Some b.word) (sym at) (first_word_at C x ∙ ap Some (sym (keeps ∙ same)));
      light = omega (arith, weighs, weight_at_most_length left, left_long, short);
      near = omega (arith, at);
      long = ap length (keeps ∙ same) ∙ is_word.long;
    }

pub best_taken : (fr : Frame) (l value : ℕ) (b : Best) → IsFrame fr → value ≡ board_value (near_best fr.sets fr.word l) → (near_best fr.sets fr.word l).place < 2 ^ 52 → b.weight ≡ value / 2 ^ 52 → b.place ≡ value % 2 ^ 52
    → coset_word_at fr.sets fr.word b.place ≡ Some b.word → length b.word ≡ fr.sets.columns → IsBestAt fr.sets fr.word l b
best_taken fr l value b t e near weighs at there long =
    let y = near_best fr.sets fr.word l in
    let parts = board_parts y in
    let w : b.weight ≡ y.weight = omega (arith, weighs, e, parts, near) in
    let p : b.place ≡ y.place = omega (arith, at, e, parts, near) in
    record {
      distance = w;
      place_is = p;
      there = there;
      light = omega (arith, w, best_light fr l t);
      near = omega (arith, p, near);
      long = long;
    }
