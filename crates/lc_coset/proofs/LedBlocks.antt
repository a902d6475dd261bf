-- A whole block of a phase, by the larger code.
--   led_many                   how many rows the larger code has
--   led_at_block fr ph b       the number of a block of a phase, in the larger code's plan
--   LedItem, led_item          a word of the larger code's block: ones, and then what the pattern's word leaves of the given word
--   values_least               the least value of the words of a list
--   start_at                   the first block of the phase, as it is looked up
--   led_small                  the block's number is below 2^40
--   LedValue, led_value        the least value of the block is that of the larger code's block, less the ones, and by its own places
use Rattle.std.proofs.Common.{◌≡◌, ℕ, zero, suc, ◌+◌, ◌-◌, ◌*◌, ◌^◌, ◌<◌, ◌≤◌, min, List, [], ◌∷◌, ◌++◌, length, replicate, get_or, slice_get, slice_index, slice_index_or, Some, option_map, unwrap_or, refl, sym, ap, ap₂, subst, ◌∙◌, arith}
use Rattle.std.proofs.lemmas.List.{length-map, get_or_default}
use Rattle.std.proofs.lemmas.Option.{slice_get-get_or, slice_get-map, slice_get_within, get_or_from_slice_get}
use Rattle.lc_algebra.specs.Field.{size}
use Rattle.lc_algebra.specs.Word.{IsWord, difference, weight}
use Rattle.lc_algebra.specs.Span.{combine}
use Rattle.lc_algebra.specs.Matrix.{Matrix}
use Rattle.lc_enumeration.specs.Message.{Message, messages, vector_of}
use Rattle.lc_enumeration.specs.Plan.{phase_level, phase_set, blocks_before, place_of, IsInPhase}
use Rattle.lc_enumeration.specs.Search.{set_count, generator_at, word_of, block_words, block_least, found_in_block, found_along, least_in, board_value}
use Rattle.lc_enumeration.proofs.PlanLaws.{cut_is}
use Rattle.lc_enumeration.proofs.SearchLaws.{few_in_block}
use Rattle.lc_enumeration.specs.NearWord.{patterns, pattern_count, coset_word, near_in_block}
use Rattle.lc_infoset.specs.Bound.{AreGenerators}
use Rattle.lc_infoset.proofs.GreedyLaws.{generators_are}
use Rattle.lc_place.specs.Place.{PlanSize}
use Rattle.lc_kernel.proofs.ScanLaws.{block_word as led_block_word}
use Rattle.lc_coset_laws.proofs.PatternLaws.{zero_pattern, length-patterns, pattern_word}
use Rattle.lc_coset_laws.proofs.LedLaws.{led, led_at, led_vector}
use Rattle.lc_coset_laws.proofs.ErrorLaws.{error_led}
use Rattle.lc_coset.specs.declared.frame.Frame.{Frame}
use Rattle.lc_coset.specs.declared.blocks.CosetPhase.{CosetPhase}
use Rattle.lc_coset.specs.declared.led.Led.{Led}
use Rattle.lc_coset.specs.Near.{near_left}
use Rattle.lc_coset.specs.Phase.{IsFrame, IsPhaseOf}
use Rattle.lc_coset.specs.Led.{led_rows, led_code, AreLedSets, HasBlock, IsLed}
use Rattle.lc_coset.proofs.ValueLaws.{value_at, IsLeastValue, one_value, more_values, all_values}
use Rattle.lc_coset.proofs.BlockLaws.{set_of, rests, block_word, block_least as near_least}
use Rattle.lc_coset.proofs.LedWords.{led_word, led_weight}
use Rattle.lc_coset.proofs.LedStarts.{level_up, set_same, total_is, led_phase}

pub led_many : (C : Matrix) (x : List ℕ) → length (led_code C x).rows ≡ suc (length C.rows)
led_many C x = ap suc (length-map C.rows _)

-- the word of a led pattern
led_word_of : (C : Matrix) (x : List ℕ) (D : Matrix) (p j : ℕ) (pattern : Message) → D ≡ led_code C x → AreLedSets C x D → AreGenerators C → IsWord C.field C.columns x → j ≡ phase_set (set_count C) p → j < set_count C → IsWord C.field (length C.rows) (vector_of (length C.rows) pattern)
    → word_of D (set_count C) p (led pattern) ≡ replicate (set_count C) 1 ++ difference C.field x (coset_word C x j pattern)
unfolding word_of
led_word_of C x D p j pattern e sets g is at inside vector =
    let f = C.field in
    let n = C.columns in
    let k = length C.rows in
    let m = set_count C in
    let rows = generator_at C j in
    let left = near_left C x j in
    let v = vector_of k pattern in
    let here : generator_at D (phase_set m p) ≡ led_rows m left rows = ap (generator_at D) (sym at) ∙ sets j inside in
    let many : length D.rows ≡ suc k = ap (λ (M : Matrix). length M.rows) e ∙ led_many C x in
    ap (λ (M : Matrix). combine M.field M.columns (vector_of (length D.rows) (led pattern)) (generator_at D (phase_set m p))) e
    ∙ ap₂ (λ a b. combine f (m + n) a b) (ap (λ a. vector_of a (led pattern)) many ∙ led_vector k pattern) here
    ∙ led_word f m n v left rows
    ∙ ap (λ w. replicate m 1 ++ w) (ap (λ a. combine f n a (left ∷ rows)) (sym (led_vector k pattern)) ∙ sym (error_led C x j pattern g is inside vector))

abbrev pub led_at_block : Frame → CosetPhase → ℕ → ℕ
led_at_block fr ph b = blocks_before (suc (length fr.sets.rows)) (size fr.sets.field) (set_count fr.sets) ph.number + b

pub record LedItem (fr : Frame) (ph : CosetPhase) (b i : ℕ) (l : Led) : Type 0 where
  pub word : List ℕ
  pub near : slice_get (rests fr ph b) i ≡ Some word
  pub larger : slice_get (block_words l.sets (set_count fr.sets) (led_at_block fr ph b)) i ≡ Some (replicate (set_count fr.sets) 1 ++ word)

-- the phase of the larger code, for the code that it is
phase_there : (C : Matrix) (x : List ℕ) (D : Matrix) (p b : ℕ) → D ≡ led_code C x → IsInPhase (suc (length C.rows)) (size C.field) (set_count C) p b → IsInPhase (length D.rows) (size D.field) (set_count C) p b
phase_there C x D p b e h =
    let many : length D.rows ≡ suc (length C.rows) = ap (λ (M : Matrix). length M.rows) e ∙ led_many C x in
    let field : D.field ≡ C.field = ap (λ (M : Matrix). M.field) e in
    rw (many, field) h

pub led_item : (fr : Frame) (ph : CosetPhase) (b i : ℕ) (l : Led) → IsFrame fr → IsPhaseOf fr ph → b < ph.blocks → IsLed fr.sets fr.word l → HasBlock l ph b → i < 4096 → LedItem fr ph b i l
led_item fr ph b i l t h less g whole few =
    let C = fr.sets in
    let x = fr.word in
    let D = l.sets in
    let k = length C.rows in
    let q = size C.field in
    let m = set_count C in
    let w = ph.level in
    let p = ph.number in
    let rank = b * 4096 + i in
    let inside : rank < pattern_count k q w = omega (arith, few, whole.whole, h.counted) in
    let pattern = get_or (patterns k q w) rank zero_pattern in
    let listed : slice_get (patterns k q w) rank ≡ Some pattern = slice_get-get_or (patterns k q w) rank zero_pattern (omega (arith, inside, length-patterns k q w)) in
    let away = difference C.field x in
    let word = away (coset_word C x ph.set pattern) in
    let phase = led_phase fr ph b l h g whole in
    let many : length D.rows ≡ suc k = ap (λ (M : Matrix). length M.rows) g.code ∙ led_many C x in
    let field : size D.field ≡ q = ap (λ (M : Matrix). size M.field) g.code in
    let level : phase_level m p ≡ suc w = level_up m p ∙ ap suc (sym h.of_level) in
    let place : 4096 * (led_at_block fr ph b - blocks_before (length D.rows) (size D.field) m p) + i ≡ rank = rw (many, field) (omega arith) in
    let there : slice_get (messages (length D.rows) (size D.field) (phase_level m p)) (4096 * (led_at_block fr ph b - blocks_before (length D.rows) (size D.field) m p) + i) ≡ Some (led pattern) =
    ap (slice_get (messages (length D.rows) (size D.field) (phase_level m p))) place
    ∙ ap₂ (λ a c. slice_get (messages a c (phase_level m p)) rank) many field
    ∙ ap (λ v. slice_get (messages (suc k) q v) rank) level
    ∙ led_at k q w rank inside ∙ ap (option_map led) listed in
    let set : ph.set ≡ phase_set m p = h.on_set ∙ sym (set_same m p) in
    let s = (set_of fr ph h).set in
    record {
      word = word;
      near = slice_get-map away _ i ∙ ap (option_map away) (block_word fr ph b i pattern h less few listed);
      larger = led_block_word D m p (led_at_block fr ph b) i (led pattern) (phase_there C x D p (led_at_block fr ph b) g.code phase) few there
          ∙ ap Some (led_word_of C x D p ph.set pattern g.code g.generators (generators_are C t.rows t.independent) t.given set s (pattern_word C.field k w rank pattern listed).0);
    }

values_some : (place n : ℕ) (ws : List (List ℕ)) → 0 < n → (v : ℕ) × IsLeastValue place ws n v
values_some place zero ws l = absurd (omega (arith, l))
values_some place (suc zero) ws l = (value_at place ws 0, one_value place ws (value_at place ws 0) refl)
values_some place (suc (suc n)) ws l =
    let h = values_some place (suc n) ws (omega arith) in
    let x = value_at place ws (suc n) in
    let next : suc n + 1 ≡ suc (suc n) = omega arith in
    (min h.0 x, subst (λ a. IsLeastValue place ws a (min h.0 x)) next (more_values place ws (suc n) h.0 x h.1 refl))

value_of : (a b : ℕ) → Some a ≡ Some b → a ≡ b
value_of a b e = ap (λ o. unwrap_or o 0) e

pub values_least : (place : ℕ) (ws : List (List ℕ)) (v : ℕ) → 0 < length ws → place + length ws ≤ 2 ^ 52 → option_map board_value (least_in (found_along place ws)) ≡ Some v → IsLeastValue place ws (length ws) v
values_least place ws v some few e =
    let h = values_some place (length ws) ws some in
    let same : h.0 ≡ v = value_of h.0 v (sym (all_values place ws h.0 few h.1) ∙ e) in
    subst (IsLeastValue place ws (length ws)) same h.1

pub record LedValue (fr : Frame) (ph : CosetPhase) (b at v : ℕ) : Type 0 where
  pub low : set_count fr.sets * 2 ^ 52 + at * 4096 ≤ v
  pub is : option_map board_value (least_in (near_in_block fr.sets fr.word (ph.first + b))) ≡ Some (v - set_count fr.sets * 2 ^ 52 - at * 4096 + (ph.first + b) * 4096)

-- the values of the words of two lists that differ by ones before them
led_values : (m at place v : ℕ) (ws es : List (List ℕ)) → length ws ≡ 4096 → ((i : ℕ) → i < 4096 → weight (slice_index_or ws i []) ≡ m + weight (slice_index_or es i [])) → IsLeastValue (place_of at 0) ws (length ws) v
    → (m * 2 ^ 52 + at * 4096 ≤ v) × IsLeastValue (place_of place 0) es 4096 (v - m * 2 ^ 52 - at * 4096 + place * 4096)
unfolding place_of
led_values m at place v ws es many same h =
    let t = h.attained in
    let inside : t.0 < 4096 = omega (arith, t.1, many) in
    let low : m * 2 ^ 52 + at * 4096 ≤ v = omega (arith, t.2, same t.0 inside) in (
      low,
      record {
        low = λ i l. omega (arith, h.low i (omega (arith, l, many)), same i l, low);
        attained = (t.0, inside, omega (arith, t.2, same t.0 inside));
      },
    )

least_along : (D : Matrix) (m at : ℕ) → block_least D m at ≡ least_in (found_along (place_of at 0) (block_words D m at))
unfolding block_least found_in_block
least_along D m at = refl

place_at : (at : ℕ) → place_of at 0 ≡ at * 4096
unfolding place_of
place_at at = omega arith

led_found : (fr : Frame) (ph : CosetPhase) (b v : ℕ) (l : Led) → IsFrame fr → IsPhaseOf fr ph → b < ph.blocks → IsLed fr.sets fr.word l → HasBlock l ph b → led_at_block fr ph b < 2 ^ 40 → option_map board_value (block_least l.sets (set_count fr.sets) (led_at_block fr ph b)) ≡ Some v → LedValue fr ph b (led_at_block fr ph b) v
led_found fr ph b v l t h less g whole small e =
    let C = fr.sets in
    let m = set_count C in
    let at = led_at_block fr ph b in
    let ws = block_words l.sets m at in
    let es = rests fr ph b in
    let last = led_item fr ph b 4095 l t h less g whole (omega arith) in
    let more = slice_get_within ws 4095 (replicate m 1 ++ last.word) last.larger in
    let many : length ws ≡ 4096 = omega (arith, more, few_in_block l.sets m at) in
    let same : (i : ℕ) → i < 4096 → weight (slice_index_or ws i []) ≡ m + weight (slice_index_or es i []) = λ i few.
    let item = led_item fr ph b i l t h less g whole few in
    ap weight (get_or_from_slice_get ws i (replicate m 1 ++ item.word) [] item.larger) ∙ led_weight m item.word ∙ ap (λ w. m + weight w) (sym (get_or_from_slice_get es i item.word [] item.near)) in
    let least = values_least (place_of at 0) ws v (omega (arith, many)) (omega (arith, place_at at, small, many)) (ap (option_map board_value) (sym (least_along l.sets m at)) ∙ e) in
    let both = led_values m at (ph.first + b) v ws es many same least in
    record { low = both.0; is = near_least fr ph b 4096 (v - m * 2 ^ 52 - at * 4096 + (ph.first + b) * 4096) h less (omega (arith, whole.whole, h.counted)) both.1 }

pub start_at : (l : Led) (ph : CosetPhase) (b d : ℕ) → HasBlock l ph b → d ≡ slice_index_or l.starts.items ph.number d → d ≡ slice_index l.starts.items ph.number
start_at l ph b d t e = e ∙ get_or_default l.starts.items ph.number d 0 t.started

pub led_small : (l : Led) (ph : CosetPhase) (b : ℕ) → HasBlock l ph b → slice_index l.starts.items ph.number + b < 2 ^ 40
led_small l ph b t = omega (arith, t.inside, total_is l.plan.k l.plan.q l.plan.m, cut_is)

pub led_value : (fr : Frame) (ph : CosetPhase) (b at v : ℕ) (l : Led) → IsFrame fr → IsPhaseOf fr ph → b < ph.blocks → IsLed fr.sets fr.word l → HasBlock l ph b → at ≡ slice_index l.starts.items ph.number + b → option_map board_value (block_least l.sets l.plan.m at) ≡ Some v → LedValue fr ph b at v
led_value fr ph b at v l t h less g whole e is =
    let C = fr.sets in
    let start : slice_index l.starts.items ph.number ≡ blocks_before (suc (length C.rows)) (size C.field) (set_count C) ph.number = g.firsts ph.number whole.started ∙ ap (λ (s : PlanSize). blocks_before s.k s.q s.m ph.number) g.steps in
    let here : at ≡ led_at_block fr ph b = e ∙ ap (λ n. n + b) start in
    let small : led_at_block fr ph b < 2 ^ 40 = omega (arith, led_small l ph b whole, start) in
    let sets : l.plan.m ≡ set_count C = ap (λ (s : PlanSize). s.m) g.steps in
    subst (λ a. LedValue fr ph b a v) (sym here) (led_found fr ph b v l t h less g whole small (ap₂ (λ c a. option_map board_value (block_least l.sets c a)) (sym sets) (sym here) ∙ is))
