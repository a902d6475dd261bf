-- Each word of the levels that lie wholly below some blocks is at a place of these blocks.
--   LastThat, last_that_is       the last number that passes a test
--   phase_of_level, set_of_level      the level and the set of a phase
--   block_inside                 the block of an index below a count
--   MessagePlace, message_place  the place of the word of a message, in a phase that isn't cut
--   LevelPhase, level_phase      the phase of a level that lies wholly below some blocks
--   SeenPlace, seen_place        the place of a word of such a level
use Rattle.std.proofs.Common.{◌≡◌, ℕ, zero, suc, ◌+◌, ◌-◌, ◌*◌, ◌/◌, ◌%◌, ◌<◌, ◌≤◌, Bool, true, cond, nat_le, nat_lt, List, length, slice_get, Some, Contains, refl, sym, ap, subst, ◌∙◌, ⊎_elim, arith, option_map}
use Rattle.std.proofs.lemmas.Bool.{cases_Bool, and_parts, leb-true, ltb-true}
use Rattle.std.proofs.lemmas.Nat.{div-mul-add, mod-mul-add, div_below, mul-add-lt}
use Rattle.std.proofs.lemmas.Option.{slice_get-map, slice_get_within}
use Rattle.std.proofs.Math.Nat.{mod-add-div', mod-lt, mul-le-mul_right, lt-div-mul-add}
use Rattle.lc_algebra.specs.Field.{size}
use Rattle.lc_algebra.specs.Span.{combine}
use Rattle.lc_algebra.specs.Matrix.{Matrix}
use Rattle.lc_enumeration.specs.Message.{Message, messages, message_count, vector_of}
use Rattle.lc_enumeration.specs.Plan.{cut, phase_level, phase_set, blocks_before, block_messages, IsInPhase}
use Rattle.lc_enumeration.specs.Search.{set_count, generator_at, word_of, block_words, last_that, is_whole_below, level_below}
use Rattle.lc_enumeration.specs.Truth.{IsAtPlace}
use Rattle.lc_enumeration.proofs.SearchLaws.{at_place, words_in_phase}
use Rattle.lc_enumeration.proofs.PlanLaws.{blocks_least, start_is, end_is}
use Rattle.lc_place.proofs.Listing.{block_message}
use Rattle.lc_place.proofs.Messages.{from_contains, length-messages}
use Rattle.lc_place.proofs.Phases.{blocks_next, blocks_of}

pub record LastThat (test : ℕ → Bool) (n r : ℕ) : Type 0 where
  pub inside : r ≤ n
  pub passes : 0 < r → test r ≡ true

pub last_that_is : (test : ℕ → Bool) (n : ℕ) → LastThat test n (last_that test n)
unfolding last_that
last_that_is test zero = record { inside = omega arith; passes = λ l. absurd (omega (arith, l)) }
last_that_is test (suc n) =
    let goal = λ (b : Bool). LastThat test (suc n) (cond b (suc n) (last_that test n)) in
    ⊎_elim
    (λ t. subst goal (sym t) (record { inside = omega arith; passes = λ l. t }))
    (λ t. let r = last_that_is test n in subst goal (sym t) (record { inside = omega (arith, r.inside); passes = r.passes }))
    (cases_Bool (test (suc n)))

pub phase_of_level : (m e j : ℕ) → j < m → phase_level m (e * m + j) ≡ suc e
unfolding phase_level
phase_of_level m e j l = let d = div-mul-add e m j l in omega (arith, d)

pub set_of_level : (m e j : ℕ) → j < m → phase_set m (e * m + j) ≡ j
unfolding phase_set
set_of_level m e j l = mod-mul-add e m j l

-- an index below the count is in one of the blocks
pub block_inside : (i count : ℕ) → i < count → i / 4096 < (count + 4095) / 4096
block_inside i count l =
    let above : count + 4095 < (count + 4095) / 4096 * 4096 + 4096 = lt-div-mul-add (omega arith) in
    div_below i 4096 ((count + 4095) / 4096) (omega arith) (omega (arith, above, l))

pub record MessagePlace (C : Matrix) (m p : ℕ) (message : Message) : Type 0 where
  pub place : ℕ
  pub before : place < blocks_before (length C.rows) (size C.field) m (suc p) * 4096
  pub word : IsAtPlace C m place (word_of C m p message)

pub message_place : (C : Matrix) (m p : ℕ) (message : Message) → p < length C.rows * m → blocks_before (length C.rows) (size C.field) m (suc p) < cut → Contains (messages (length C.rows) (size C.field) (phase_level m p)) message → MessagePlace C m p message
message_place C m p message inside uncut listed =
    let k = length C.rows in
    let q = size C.field in
    let at = from_contains (messages k q (phase_level m p)) message listed in
    let i : ℕ = at.0 in
    let few : i < message_count k q (phase_level m p) = subst (λ n. i < n) (length-messages k q (phase_level m p)) (slice_get_within (messages k q (phase_level m p)) i message at.1) in
    let before = blocks_before k q m p in
    let next = blocks_next k q m p ∙ ap (λ n. before + n) (blocks_of k q (phase_level m p)) in
    let block = before + i / 4096 in
    let in_block = block_inside i (message_count k q (phase_level m p)) few in
    let offset : i % 4096 < 4096 = mod-lt i (omega arith) in
    let start = start_is k q m p in
    let end = end_is k q m p in
    let phase : IsInPhase k q m p block = record { phase = inside; after = omega (arith, start); before = omega (arith, end, next, in_block, uncut) } in
    let whole : i % 4096 + i / 4096 * 4096 ≡ i = mod-add-div' i 4096 in
    let index : 4096 * (block - before) + i % 4096 ≡ i = omega (arith, whole) in
    let found : slice_get (block_messages k q m p block) (i % 4096) ≡ Some message = block_message k q m p block (i % 4096) offset ∙ ap (slice_get (messages k q (phase_level m p))) index ∙ at.1 in
    let word : slice_get (block_words C m block) (i % 4096) ≡ Some (word_of C m p message) = ap (λ ws. slice_get ws (i % 4096)) (words_in_phase C m p block phase) ∙ slice_get-map (word_of C m p) (block_messages k q m p block) (i % 4096) ∙ ap (option_map (word_of C m p)) found in
    record {
      place = block * 4096 + i % 4096;
      before = omega (arith, next, in_block, offset);
      word = at_place C m block (i % 4096) (word_of C m p message) offset word;
    }

pub record LevelPhase (C : Matrix) (l j w : ℕ) : Type 0 where
  pub phase : ℕ
  pub inside : phase < length C.rows * set_count C
  pub level : phase_level (set_count C) phase ≡ w
  pub set : phase_set (set_count C) phase ≡ j
  pub whole : blocks_before (length C.rows) (size C.field) (set_count C) (suc phase) ≤ l
  pub uncut : blocks_before (length C.rows) (size C.field) (set_count C) (suc phase) < cut

whole_parts : (k q m l j w : ℕ) → is_whole_below k q m l j w ≡ true → (blocks_before k q m ((w - 1) * m + suc j) ≤ l) × (blocks_before k q m ((w - 1) * m + suc j) < cut)
unfolding is_whole_below
whole_parts k q m l j w h =
    let s = and_parts (nat_le (blocks_before k q m ((w - 1) * m + suc j)) l) (nat_lt (blocks_before k q m ((w - 1) * m + suc j)) cut) h in
    (leb-true (blocks_before k q m ((w - 1) * m + suc j)) l s.0, ltb-true (blocks_before k q m ((w - 1) * m + suc j)) cut s.1)

level_is : (C : Matrix) (l j : ℕ) → LastThat (is_whole_below (length C.rows) (size C.field) (set_count C) l j) (length C.rows) (level_below C l j)
unfolding level_below
level_is C l j = last_that_is (is_whole_below (length C.rows) (size C.field) (set_count C) l j) (length C.rows)

pub level_phase : (C : Matrix) (l j w : ℕ) → j < set_count C → 0 < w → w ≤ level_below C l j → LevelPhase C l j w
level_phase C l j w inside some few =
    let k = length C.rows in
    let q = size C.field in
    let m = set_count C in
    let last = level_is C l j in
    let top = level_below C l j in
    let parts = whole_parts k q m l j top (last.passes (omega (arith, some, few))) in
    let p = (w - 1) * m + j in
    let rows : (w - 1) * m ≤ (top - 1) * m = mul-le-mul_right m (omega (arith, few)) in
    let less : blocks_before k q m (suc p) ≤ blocks_before k q m ((top - 1) * m + suc j) = blocks_least k q m (suc p) ((top - 1) * m + suc j) (omega (arith, rows)) in
    let small = mul-add-lt (w - 1) m j k (omega (arith, some, few, last.inside)) inside in
    let product : m * k ≡ k * m = omega arith in
    let same : suc (w - 1) ≡ w = omega (arith, some) in
    record {
      phase = p;
      inside = subst (λ n. p < n) product small;
      level = phase_of_level m (w - 1) j inside ∙ same;
      set = set_of_level m (w - 1) j inside;
      whole = omega (arith, less, parts.0);
      uncut = omega (arith, less, parts.1);
    }

pub record SeenPlace (C : Matrix) (l : ℕ) (word : List ℕ) : Type 0 where
  pub place : ℕ
  pub before : place < l * 4096
  pub there : IsAtPlace C (set_count C) place word

word_is : (C : Matrix) (m p : ℕ) (message : Message) → word_of C m p message ≡ combine C.field C.columns (vector_of (length C.rows) message) (generator_at C (phase_set m p))
unfolding word_of
word_is C m p message = refl

pub seen_place : (C : Matrix) (l j w : ℕ) (message : Message) → j < set_count C → 0 < w → w ≤ level_below C l j → Contains (messages (length C.rows) (size C.field) w) message → SeenPlace C l (combine C.field C.columns (vector_of (length C.rows) message) (generator_at C j))
seen_place C l j w message inside some few listed =
    let t = level_phase C l j w inside some few in
    let p = message_place C (set_count C) t.phase message t.inside t.uncut (subst (λ e. Contains (messages (length C.rows) (size C.field) e) message) (sym t.level) listed) in
    let more : blocks_before (length C.rows) (size C.field) (set_count C) (suc t.phase) * 4096 ≤ l * 4096 = mul-le-mul_right 4096 t.whole in
    record {
      place = p.place;
      before = omega (arith, p.before, more);
      there = subst (IsAtPlace C (set_count C) p.place) (word_is C (set_count C) t.phase message ∙ ap (λ s. combine C.field C.columns (vector_of (length C.rows) message) (generator_at C s)) t.set) p.word;
    }
