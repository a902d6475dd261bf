-- The words of a block of a phase, and its least value.
--   PatternAt, pattern_at      the pattern that leads a message
--   top_is                     the last sum of a walk is what the pattern's word leaves of the given word
--   SetOf, set_of              the set of a phase, and its level
--   LeftOf, left_of_phase      what the first word of its set leaves
--   block_word                 the word of a block at an index
--   block_size                 how many words a block has
--   block_item                 what the word leaves, at the pattern that a room is at
--   item_value                 its value on the board
--   block_least                the least value of all words is that of the block
--   near_value_is              as it is reported
use Rattle.std.proofs.Common.{◌≡◌, ℕ, suc, ◌+◌, ◌-◌, ◌*◌, ◌^◌, ◌<◌, ◌≤◌, min, List, [], ◌∷◌, length, map, take, drop, get_or, slice_get, slice_index_or, Option, Some, option_map, unwrap_or, sym, ap, ap₂, ◌∙◌, arith}
use Rattle.std.proofs.lemmas.List.{length-map, length-take, length-drop, take_all, get_or_default}
use Rattle.std.proofs.lemmas.Option.{slice_get-get_or, slice_get-map, get_or_from_slice_get}
use Rattle.lc_algebra.specs.Field.{size}
use Rattle.lc_algebra.specs.Word.{IsWord, difference, weight}
use Rattle.lc_algebra.specs.Span.{combine}
use Rattle.lc_algebra.specs.Matrix.{Matrix}
use Rattle.lc_enumeration.specs.Message.{Message, messages, vector_from, vector_of}
use Rattle.lc_enumeration.specs.Plan.{place_of}
use Rattle.lc_enumeration.specs.Search.{set_count, generator_at, least_in, board_value}
use Rattle.lc_enumeration.specs.NearWord.{patterns, pattern_count, coset_word, coset_patterns, coset_words, near_in_block}
use Rattle.lc_enumeration.proofs.PlanLaws.{cut_is}
use Rattle.lc_infoset.specs.Bound.{AreGenerators}
use Rattle.lc_infoset.proofs.AnswerLaws.{some_set}
use Rattle.lc_infoset.proofs.GreedyLaws.{generators_are}
use Rattle.lc_place.specs.Place.{spot_message}
use Rattle.lc_place.proofs.Vectors.{vector_is}
use Rattle.lc_coset_laws.proofs.PatternLaws.{zero_pattern, length-patterns, pattern_word}
use Rattle.lc_coset_laws.proofs.PhaseLaws.{coset_phase_is, set_inside}
use Rattle.lc_coset_laws.proofs.PlaceLaws.{before_of, patterns_of, word_of_pattern, block_patterns, block_pattern, words_in_phase}
use Rattle.lc_coset_laws.proofs.LoopLaws.{level_inside}
use Rattle.lc_coset_laws.proofs.LedLaws.{led, led_at}
use Rattle.lc_coset_laws.proofs.ErrorLaws.{error_led}
use Rattle.lc_coset.specs.declared.frame.Frame.{Frame}
use Rattle.lc_coset.specs.declared.blocks.CosetPhase.{CosetPhase}
use Rattle.lc_coset.specs.declared.walk.Room.{Room}
use Rattle.lc_coset.specs.Near.{near_left, walk_matrix, front_sum, IsAtRank, near_value}
use Rattle.lc_coset.specs.Phase.{IsFrame, IsPhaseOf}
use Rattle.lc_coset.proofs.ValueLaws.{value_at, IsLeastValue, all_values}
use Rattle.lc_coset.proofs.WalkLaws.{WalkRows, walk_rows, walk_entries, at_rank_message}
use Rattle.lc_coset.proofs.FrameLaws.{left_at, left_word}

pub record PatternAt (k q w rank : ℕ) (m : Message) : Type 0 where
  pub pattern : Message
  pub listed : slice_get (patterns k q w) rank ≡ Some pattern
  pub leads : m ≡ led pattern

pub pattern_at : (k q w rank : ℕ) (m : Message) → rank < pattern_count k q w → slice_get (messages (suc k) q (suc w)) rank ≡ Some m → PatternAt k q w rank m
pattern_at k q w rank m l e =
    let ps = patterns k q w in
    let p = get_or ps rank zero_pattern in
    let at : slice_get ps rank ≡ Some p = slice_get-get_or ps rank zero_pattern (omega (arith, l, length-patterns k q w)) in
    record { pattern = p; listed = at; leads = ap (λ (o : Option Message). unwrap_or o m) (sym e ∙ led_at k q w rank l ∙ ap (option_map led) at) }

pub top_is : (C : Matrix) (x left : List ℕ) (j w rank : ℕ) (r : Room) (p : PatternAt (length C.rows) (size C.field) w rank (spot_message r.spot)) → AreGenerators C → IsWord C.field C.columns x → j < set_count C → left ≡ near_left C x j → WalkRows C left j → IsAtRank C left j w rank r
    → slice_index_or r.sums.items (suc w) [] ≡ difference C.field x (coset_word C x j p.pattern)
top_is C x left j w rank r p g is inside e rows h =
    let f = C.field in
    let n = C.columns in
    let k = length C.rows in
    let M = walk_matrix C left j in
    let s = r.spot in
    let entries = walk_entries C left j s rows (at_rank_message C left j w rank r h) in
    let whole : front_sum M s (suc w) ≡ combine f n (vector_from 0 (length M.rows) s.support s.coefficients) M.rows =
    ap₂ (λ a b. combine f n (vector_from 0 (length M.rows) a b) M.rows) (take_all (suc w) s.support (omega (arith, h.level))) (take_all (suc w) s.coefficients (omega (arith, h.level, entries.many))) in
    let vector : vector_from 0 (length M.rows) s.support s.coefficients ≡ vector_of (suc k) (led p.pattern) =
    ap (λ m. vector_from 0 m s.support s.coefficients) rows.count ∙ sym (vector_is (suc k) (spot_message s)) ∙ ap (vector_of (suc k)) p.leads in
    h.walk.fronts (suc w) (omega arith) ∙ whole
    ∙ ap₂ (λ v l. combine f n v (l ∷ generator_at C j)) vector e
    ∙ sym (error_led C x j p.pattern g is inside (pattern_word f k w rank p.pattern p.listed).0)

pub record SetOf (fr : Frame) (ph : CosetPhase) : Type 0 where
  pub set : ph.set < set_count fr.sets
  pub level : ph.level ≤ length fr.sets.rows

pub set_of : (fr : Frame) (ph : CosetPhase) → IsPhaseOf fr ph → SetOf fr ph
set_of fr ph h =
    let C = fr.sets in
    let s = set_inside (set_count C) ph.number (some_set C) in
    let l = level_inside (length C.rows) (set_count C) ph.number (some_set C) h.one in
    record { set = omega (arith, s, h.on_set); level = omega (arith, l, h.of_level) }

pub record LeftOf (fr : Frame) (ph : CosetPhase) (left : List ℕ) : Type 0 where
  pub inside : ph.set < length fr.lefts.items
  pub is : left ≡ near_left fr.sets fr.word ph.set
  pub word : IsWord fr.sets.field fr.sets.columns left
  pub rows : WalkRows fr.sets left ph.set

pub left_of_phase : (fr : Frame) (ph : CosetPhase) (left d : List ℕ) → IsFrame fr → IsPhaseOf fr ph → left ≡ slice_index_or fr.lefts.items ph.set d → LeftOf fr ph left
left_of_phase fr ph left d t h e =
    let s = set_of fr ph h in
    let is = e ∙ left_at fr.sets fr.word fr.lefts.items ph.set d t.firsts s.set in
    let word = left_word fr.sets fr.word ph.set left t.rows t.independent t.given s.set is in
    record { inside = omega (arith, s.set, t.firsts.many); is = is; word = word; rows = walk_rows fr.sets left ph.set t.rows t.independent s.set word }

-- a block of a phase
block_in : (fr : Frame) (ph : CosetPhase) (b : ℕ) → IsPhaseOf fr ph → b < ph.blocks → coset_words fr.sets fr.word (ph.first + b) ≡ map (word_of_pattern fr.sets fr.word ph.number) (block_patterns fr.sets ph.number (ph.first + b))
block_in fr ph b h l =
    let C = fr.sets in
    words_in_phase C fr.word ph.number (ph.first + b) (coset_phase_is (length C.rows) (size C.field) (set_count C) ph.number (ph.first + b) h.one (omega (arith, h.begins)) (omega (arith, h.inside, l)) (omega (arith, h.uncut, l, cut_is)))

pub block_word : (fr : Frame) (ph : CosetPhase) (b i : ℕ) (pattern : Message) → IsPhaseOf fr ph → b < ph.blocks → i < 4096 → slice_get (patterns (length fr.sets.rows) (size fr.sets.field) ph.level) (b * 4096 + i) ≡ Some pattern → slice_get (coset_words fr.sets fr.word (ph.first + b)) i ≡ Some (coset_word fr.sets fr.word ph.set pattern)
block_word fr ph b i pattern h l few listed =
    let C = fr.sets in
    let k = length C.rows in
    let q = size C.field in
    let m = set_count C in
    let p = ph.number in
    let index : 4096 * (ph.first + b - before_of C p) + i ≡ b * 4096 + i = omega (arith, h.begins) in
    let at : slice_get (patterns_of C p) (4096 * (ph.first + b - before_of C p) + i) ≡ Some pattern = ap (slice_get (patterns_of C p)) index ∙ ap (λ w. slice_get (patterns k q w) (b * 4096 + i)) (sym h.of_level) ∙ listed in
    ap (λ ws. slice_get ws i) (block_in fr ph b h l)
    ∙ slice_get-map (word_of_pattern C fr.word p) (block_patterns C p (ph.first + b)) i
    ∙ ap (option_map (word_of_pattern C fr.word p)) (block_pattern C p (ph.first + b) i few ∙ at)
    ∙ ap (λ j. Some (coset_word C fr.word j pattern)) (sym h.on_set)

pub block_size : (fr : Frame) (ph : CosetPhase) (b : ℕ) → IsPhaseOf fr ph → b < ph.blocks → length (coset_words fr.sets fr.word (ph.first + b)) ≡ min 4096 (pattern_count (length fr.sets.rows) (size fr.sets.field) ph.level - 4096 * b)
unfolding coset_patterns
block_size fr ph b h l =
    let C = fr.sets in
    let k = length C.rows in
    let q = size C.field in
    let p = ph.number in
    let left = drop (4096 * (ph.first + b - before_of C p)) (patterns_of C p) in
    let from : ph.first + b - before_of C p ≡ b = omega (arith, h.begins) in
    ap length (block_in fr ph b h l) ∙ length-map (take 4096 left) (word_of_pattern C fr.word p) ∙ length-take 4096 left
    ∙ ap (min 4096) (length-drop (4096 * (ph.first + b - before_of C p)) (patterns_of C p) ∙ ap₂ (λ c t. c - 4096 * t) (ap (λ w. length (patterns k q w)) (sym h.of_level) ∙ length-patterns k q ph.level) from)

pub block_item : (fr : Frame) (ph : CosetPhase) (b i : ℕ) (left : List ℕ) (r : Room) → IsFrame fr → IsPhaseOf fr ph → b < ph.blocks → i < 4096 → b * 4096 + i < pattern_count (length fr.sets.rows) (size fr.sets.field) ph.level
    → left ≡ near_left fr.sets fr.word ph.set → WalkRows fr.sets left ph.set → IsAtRank fr.sets left ph.set ph.level (b * 4096 + i) r
    → slice_get (map (difference fr.sets.field fr.word) (coset_words fr.sets fr.word (ph.first + b))) i ≡ Some (slice_index_or r.sums.items (suc ph.level) [])
block_item fr ph b i left r t h l few inside e rows at =
    let C = fr.sets in
    let away = difference C.field fr.word in
    let p = pattern_at (length C.rows) (size C.field) ph.level (b * 4096 + i) (spot_message r.spot) inside at.message in
    slice_get-map away (coset_words C fr.word (ph.first + b)) i
    ∙ ap (option_map away) (block_word fr ph b i p.pattern h l few p.listed)
    ∙ ap Some (sym (top_is C fr.word left ph.set ph.level (b * 4096 + i) r p (generators_are C t.rows t.independent) t.given (set_of fr ph h).set e rows at))

abbrev pub rests : Frame → CosetPhase → ℕ → List (List ℕ)
rests fr ph b = map (difference fr.sets.field fr.word) (coset_words fr.sets fr.word (ph.first + b))

pub item_value : (fr : Frame) (ph : CosetPhase) (b i : ℕ) (left : List ℕ) (r : Room) (v place : ℕ) → IsFrame fr → IsPhaseOf fr ph → b < ph.blocks → i < 4096 → b * 4096 + i < pattern_count (length fr.sets.rows) (size fr.sets.field) ph.level
    → left ≡ near_left fr.sets fr.word ph.set → WalkRows fr.sets left ph.set → IsAtRank fr.sets left ph.set ph.level (b * 4096 + i) r
    → v ≡ weight (slice_index_or r.sums.items (ph.level + 1) []) * 2 ^ 52 + place → place ≡ (ph.first + b) * 4096 + i → v ≡ value_at (place_of (ph.first + b) 0) (rests fr ph b) i
unfolding place_of
item_value fr ph b i left r v place t h l few inside e rows at value here =
    let up : ph.level + 1 ≡ suc ph.level = omega arith in
    let word : slice_index_or (rests fr ph b) i [] ≡ slice_index_or r.sums.items (suc ph.level) [] = get_or_from_slice_get (rests fr ph b) i (slice_index_or r.sums.items (suc ph.level) []) [] (block_item fr ph b i left r t h l few inside e rows at) in
    let same : weight (slice_index_or r.sums.items (ph.level + 1) []) ≡ weight (slice_index_or (rests fr ph b) i []) = ap (λ n. weight (slice_index_or r.sums.items n [])) up ∙ ap weight (sym word) in
    omega (arith, value, here, same)

pub default_left : (ls : List (List ℕ)) (j : ℕ) (d : List ℕ) → j < length ls → d ≡ slice_index_or ls j d → slice_index_or ls j [] ≡ d
default_left ls j d l e = sym (e ∙ get_or_default ls j d [] l)

pub block_least : (fr : Frame) (ph : CosetPhase) (b n v : ℕ) → IsPhaseOf fr ph → b < ph.blocks → n ≡ min 4096 (pattern_count (length fr.sets.rows) (size fr.sets.field) ph.level - 4096 * b) → IsLeastValue (place_of (ph.first + b) 0) (rests fr ph b) n v → option_map board_value (least_in (near_in_block fr.sets fr.word (ph.first + b))) ≡ Some v
unfolding near_in_block place_of
block_least fr ph b n v h l e least =
    let long : length (rests fr ph b) ≡ n = length-map (coset_words fr.sets fr.word (ph.first + b)) (difference fr.sets.field fr.word) ∙ block_size fr ph b h l ∙ sym e in
    all_values (place_of (ph.first + b) 0) (rests fr ph b) v (omega (arith, long, e, h.uncut, l)) (rw long least)

pub near_value_is : (fr : Frame) (b v : ℕ) → option_map board_value (least_in (near_in_block fr.sets fr.word b)) ≡ Some v → v ≡ near_value fr.sets fr.word b
unfolding near_value
near_value_is fr b v e = ap (λ o. unwrap_or o 0) (sym e)
