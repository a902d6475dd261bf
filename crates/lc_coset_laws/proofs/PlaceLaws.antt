-- The places of the patterns of a search for a nearest word, and what is found in its blocks.
--   before_of C p, patterns_of C p      the blocks before a phase of a code, and the patterns of its level
--   word_of_pattern C x p pattern       the word of a pattern in a phase
--   IsNearAt C x place w       w is the word at the place
--   words_are, words_in_phase  the words of a block, in its phase
--   block_patterns C p b, block_pattern      the patterns of a block, and the one at an index
--   near_at_place              the word at a place, from the words of its block
--   PatternPlace, pattern_place      the place of a pattern, in a phase that isn't cut
--   few_in_block               a block has at most 4,096 words
--   NearFound, near_is, near_has      what is found in some blocks is what the words at their places are
--   is_item                    whether a word of the code equals x less a pattern on a basis
--   coset_word_is              the word of a pattern is found among all words of the code
--   coset_word_inside          so it is in the code
--   near_at_inside             and so is the word at a place
use Rattle.std.proofs.Common.{◌≡◌, ℕ, zero, suc, ◌+◌, ◌-◌, ◌*◌, ◌/◌, ◌%◌, ◌<◌, ◌≤◌, find, Bool, List, [], ◌∷◌, length, map, take, drop, slice_get, Option, Some, None, unwrap_or, is_some, option_map, Contains, refl, sym, ap, subst, ◌∙◌, arith}
use Rattle.std.proofs.lemmas.Bool.{false≢true}
use Rattle.std.proofs.lemmas.Nat.{div-mul-add, mod-mul-add}
use Rattle.std.proofs.lemmas.List.{length-map, length-take}
use Rattle.std.proofs.lemmas.Option.{slice_get-map, slice_get_within}
use Rattle.std.proofs.Math.Nat.{mod-add-div', mod-lt}
use Rattle.lc_algebra.specs.Field.{size}
use Rattle.lc_algebra.specs.Word.{weight, zero_word, difference, distance}
use Rattle.lc_algebra.specs.Span.{InSpan, words}
use Rattle.lc_algebra.specs.Matrix.{Matrix, AreRows}
use Rattle.lc_algebra.specs.SpanLaws.{restrict}
use Rattle.lc_algebra.proofs.SpanLaws.{span_zero, word_of_member, flat_map_contains, contains_flat_map}
use Rattle.lc_enumeration.specs.Message.{Message, numbers_from, vector_of}
use Rattle.lc_enumeration.specs.Plan.{cut, place_of}
use Rattle.lc_enumeration.specs.InformationSet.{same_word}
use Rattle.lc_enumeration.specs.Search.{Found, set_count}
use Rattle.lc_enumeration.specs.NearWord.{patterns, pattern_count, coset_level, coset_set, coset_blocks_before, coset_phases, coset_phase, basis_of, coset_word, coset_patterns, coset_words, coset_word_at, near_in_block, near_from}
use Rattle.lc_enumeration.proofs.SearchLaws.{numbers_within, within_numbers, along_holds, along_has}
use Rattle.lc_place.proofs.Products.{map_part}
use Rattle.lc_infoset.specs.Bound.{set_at}
use Rattle.lc_infoset.proofs.SeenLaws.{block_inside}
use Rattle.lc_infoset.proofs.BestLaws.{find_passes}
use Rattle.lc_coset_laws.proofs.PatternLaws.{length-patterns}
use Rattle.lc_coset_laws.proofs.PhaseLaws.{blocks_next, level_blocks_are, coset_phase_is}

abbrev pub before_of : Matrix → ℕ → ℕ
before_of C p = coset_blocks_before (length C.rows) (size C.field) (set_count C) p

abbrev pub patterns_of : Matrix → ℕ → List Message
patterns_of C p = patterns (length C.rows) (size C.field) (coset_level (set_count C) p)

abbrev pub word_of_pattern : Matrix → List ℕ → ℕ → Message → List ℕ
word_of_pattern C x p pattern = coset_word C x (coset_set (set_count C) p) pattern

abbrev pub IsNearAt : Matrix → List ℕ → ℕ → List ℕ → Type 0
IsNearAt C x place w = coset_word_at C x place ≡ Some w

abbrev pub block_patterns : Matrix → ℕ → ℕ → List Message
block_patterns C p b = coset_patterns (length C.rows) (size C.field) (set_count C) p b

abbrev phase_words : Matrix → List ℕ → ℕ → Option ℕ → List (List ℕ)
phase_words C x b o = unwrap_or (option_map (λ p. map (word_of_pattern C x p) (block_patterns C p b)) o) []

pub words_are : (C : Matrix) (x : List ℕ) (b : ℕ) → coset_words C x b ≡ unwrap_or (option_map (λ p. map (word_of_pattern C x p) (coset_patterns (length C.rows) (size C.field) (set_count C) p b)) (coset_phase (length C.rows) (size C.field) (set_count C) b)) []
unfolding coset_words
words_are C x b = refl

pub words_in_phase : (C : Matrix) (x : List ℕ) (p b : ℕ) → coset_phase (length C.rows) (size C.field) (set_count C) b ≡ Some p → coset_words C x b ≡ map (word_of_pattern C x p) (coset_patterns (length C.rows) (size C.field) (set_count C) p b)
words_in_phase C x p b e = words_are C x b ∙ ap (phase_words C x b) e

pub near_at_place : (C : Matrix) (x : List ℕ) (b i : ℕ) (w : List ℕ) → i < 4096 → slice_get (coset_words C x b) i ≡ Some w → IsNearAt C x (b * 4096 + i) w
unfolding coset_word_at
near_at_place C x b i w l e = rw (div-mul-add b 4096 i l, mod-mul-add b 4096 i l) e

get-drop : {X : Type 0} (xs : List X) (n t : ℕ) → slice_get (drop n xs) t ≡ slice_get xs (n + t)
get-drop xs zero t = let e : 0 + t ≡ t = omega arith in ap (slice_get xs) (sym e)
get-drop [] (suc n) t = refl
get-drop (x ∷ xs) (suc n) t = let e : suc n + t ≡ suc (n + t) = omega arith in rw e (get-drop xs n t)

get-take : {X : Type 0} (xs : List X) (n t : ℕ) → t < n → slice_get (take n xs) t ≡ slice_get xs t
get-take xs zero t l = absurd (omega (arith, l))
get-take [] (suc n) t l = refl
get-take (x ∷ xs) (suc n) zero l = refl
get-take (x ∷ xs) (suc n) (suc t) l = get-take xs n t (omega (arith, l))

pub block_pattern : (C : Matrix) (p b t : ℕ) → t < 4096 → slice_get (block_patterns C p b) t ≡ slice_get (patterns_of C p) (4096 * (b - before_of C p) + t)
unfolding coset_patterns
block_pattern C p b t l = get-take (drop (4096 * (b - before_of C p)) (patterns_of C p)) 4096 t l ∙ get-drop (patterns_of C p) (4096 * (b - before_of C p)) t

pub record PatternPlace (C : Matrix) (x : List ℕ) (p i : ℕ) (w : List ℕ) : Type 0 where
  pub place : ℕ
  pub is : place ≡ before_of C p * 4096 + i
  pub before : place < before_of C (suc p) * 4096
  pub word : IsNearAt C x place w

pub pattern_place : (C : Matrix) (x : List ℕ) (p i : ℕ) (pattern : Message) → p < coset_phases (length C.rows) (set_count C) → before_of C (suc p) < cut → slice_get (patterns_of C p) i ≡ Some pattern → PatternPlace C x p i (word_of_pattern C x p pattern)
pattern_place C x p i pattern inside uncut listed =
    let k = length C.rows in
    let q = size C.field in
    let m = set_count C in
    let w = coset_level m p in
    let few : i < pattern_count k q w = subst (λ n. i < n) (length-patterns k q w) (slice_get_within (patterns_of C p) i pattern listed) in
    let before = before_of C p in
    let next : before_of C (suc p) ≡ before + (pattern_count k q w + 4095) / 4096 = blocks_next k q m p ∙ ap (λ n. before + n) (level_blocks_are k q w) in
    let block = before + i / 4096 in
    let in_block = block_inside i (pattern_count k q w) few in
    let offset : i % 4096 < 4096 = mod-lt i (omega arith) in
    let phase : coset_phase k q m block ≡ Some p = coset_phase_is k q m p block inside (omega arith) (omega (arith, next, in_block)) (omega (arith, next, in_block, uncut)) in
    let whole : i % 4096 + i / 4096 * 4096 ≡ i = mod-add-div' i 4096 in
    let index : 4096 * (block - before) + i % 4096 ≡ i = omega (arith, whole) in
    let found : slice_get (block_patterns C p block) (i % 4096) ≡ Some pattern = block_pattern C p block (i % 4096) offset ∙ ap (slice_get (patterns_of C p)) index ∙ listed in
    let word : slice_get (coset_words C x block) (i % 4096) ≡ Some (word_of_pattern C x p pattern) = ap (λ ws. slice_get ws (i % 4096)) (words_in_phase C x p block phase) ∙ slice_get-map (word_of_pattern C x p) (block_patterns C p block) (i % 4096) ∙ ap (option_map (word_of_pattern C x p)) found in
    record {
      place = block * 4096 + i % 4096;
      is = omega (arith, whole);
      before = omega (arith, next, in_block, offset);
      word = near_at_place C x block (i % 4096) (word_of_pattern C x p pattern) offset word;
    }

patterns_few : (C : Matrix) (x : List ℕ) (b p : ℕ) → length (map (word_of_pattern C x p) (block_patterns C p b)) ≤ 4096
unfolding coset_patterns
patterns_few C x b p =
    let left = drop (4096 * (b - before_of C p)) (patterns_of C p) in
    omega (arith, length-map (take 4096 left) (word_of_pattern C x p), length-take 4096 left)

pub few_in_block : (C : Matrix) (x : List ℕ) (b : ℕ) → length (coset_words C x b) ≤ 4096
few_in_block C x b = subst (λ ws. length ws ≤ 4096) (sym (words_are C x b)) (few (coset_phase (length C.rows) (size C.field) (set_count C) b))
  where
    few : (o : Option ℕ) → length (phase_words C x b o) ≤ 4096
    few None = omega arith
    few (Some p) = patterns_few C x b p

pub record NearFound (C : Matrix) (x : List ℕ) (first count : ℕ) (y : Found) : Type 0 where
  pub from : first * 4096 ≤ y.place
  pub before : y.place < (first + count) * 4096
  pub word : (w : List ℕ) × IsNearAt C x y.place w × (distance C.field x w ≡ y.weight)

pub near_is : (C : Matrix) (x : List ℕ) (first count : ℕ) (y : Found) → Contains (near_from C x first count) y → NearFound C x first count y
unfolding near_from near_in_block place_of
near_is C x first count y l =
    let t = contains_flat_map (near_in_block C x) (numbers_from first count) y l in
    let b : ℕ = t.0 in
    let n = numbers_within first count b t.1 in
    let away = difference C.field x in
    let a = along_holds (b * 4096 + 0) (map away (coset_words C x b)) y t.2 in
    let i : ℕ = a.0 in
    let few : i < 4096 = omega (arith, a.3, length-map (coset_words C x b) away, few_in_block C x b) in
    let place : y.place ≡ b * 4096 + i = ap (λ (z : Found). z.place) a.4 ∙ omega arith in
    let w = map_part away (coset_words C x b) i a.1 a.2 in
    record {
      from = omega (arith, place, n.0);
      before = omega (arith, place, n.1, few);
      word = (w.0, subst (λ p. IsNearAt C x p w.0) (sym place) (near_at_place C x b i w.0 few w.1), ap weight (sym w.2) ∙ sym (ap (λ (z : Found). z.weight) a.4));
    }

pub near_has : (C : Matrix) (x : List ℕ) (first count place : ℕ) (c : List ℕ) → first * 4096 ≤ place → place < (first + count) * 4096 → IsNearAt C x place c → Contains (near_from C x first count) (record { weight = distance C.field x c; place = place })
unfolding near_from near_in_block place_of coset_word_at
near_has C x first count place c from before word =
    let b = place / 4096 in
    let i = place % 4096 in
    let whole : i + b * 4096 ≡ place = mod-add-div' place 4096 in
    let few : i < 4096 = mod-lt place (omega arith) in
    let away = difference C.field x in
    let at : slice_get (map away (coset_words C x b)) i ≡ Some (away c) = slice_get-map away (coset_words C x b) i ∙ ap (option_map away) word in
    let inside = along_has (b * 4096 + 0) (map away (coset_words C x b)) i (away c) at in
    let y : Found = record { weight = distance C.field x c; place = place } in
    let same : Path Found (record { weight = distance C.field x c; place = b * 4096 + 0 + i }) y = ap (λ p. record { weight = distance C.field x c; place = p }) (omega (arith, whole)) in
    flat_map_contains (near_in_block C x) (numbers_from first count) b y
    (within_numbers first count b (omega (arith, whole, few, from)) (omega (arith, whole, few, before)))
    (subst (λ (z : Found). Contains (near_in_block C x b) z) same inside)

-- whether a word of the code equals x less the pattern on a basis
abbrev pub is_item : Matrix → List ℕ → List ℕ → Message → List ℕ → Bool
is_item C basis x pattern c = same_word (restrict basis c) (difference C.field (restrict basis x) (vector_of (length C.rows) pattern))

pub coset_word_is : (C : Matrix) (x : List ℕ) (j : ℕ) (pattern : Message) → coset_word C x j pattern ≡ unwrap_or (find (is_item C (set_at C j).basis x pattern) (words C.field C.columns C.rows)) (zero_word C.columns)
unfolding coset_word basis_of
coset_word_is C x j pattern = refl

pub coset_word_inside : (C : Matrix) (x : List ℕ) (j : ℕ) (pattern : Message) → AreRows C.field C.columns C.rows → InSpan C.field C.columns C.rows (coset_word C x j pattern)
coset_word_inside C x j pattern r =
    let test = is_item C (set_at C j).basis x pattern in
    subst (InSpan C.field C.columns C.rows) (sym (coset_word_is C x j pattern)) (found (find test (words C.field C.columns C.rows)) refl)
  where
    found : (o : Option (List ℕ)) → find (is_item C (set_at C j).basis x pattern) (words C.field C.columns C.rows) ≡ o → InSpan C.field C.columns C.rows (unwrap_or o (zero_word C.columns))
    found None e = span_zero C.field C.columns C.rows r
    found (Some w) e = word_of_member C.field C.columns C.rows w (find_passes (is_item C (set_at C j).basis x pattern) (words C.field C.columns C.rows) w e).member

pub near_at_inside : (C : Matrix) (x : List ℕ) (place : ℕ) (w : List ℕ) → AreRows C.field C.columns C.rows → IsNearAt C x place w → InSpan C.field C.columns C.rows w
unfolding coset_word_at
near_at_inside C x place w r h =
    inside (coset_phase (length C.rows) (size C.field) (set_count C) (place / 4096)) (ap (λ ws. slice_get ws (place % 4096)) (sym (words_are C x (place / 4096))) ∙ h)
  where
    inside : (o : Option ℕ) → slice_get (phase_words C x (place / 4096) o) (place % 4096) ≡ Some w → InSpan C.field C.columns C.rows w
    inside None e = absurd (false≢true (ap is_some e))
    inside (Some p) e =
        let t = map_part (word_of_pattern C x p) (block_patterns C p (place / 4096)) (place % 4096) w e in
        subst (InSpan C.field C.columns C.rows) (sym t.2) (coset_word_inside C x (coset_set (set_count C) p) t.0 r)
