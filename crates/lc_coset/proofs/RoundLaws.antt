-- What a round finds, on the board and as pairs of a distance and a place.
--   board_parts                a value on the board, by its weight and its place
--   block_after                the least of a pair and of what is found in a block, by their values
--   blocks_after               the same for some blocks of a phase, one after the other
--   round_value                what the board shows after a round
--   first_value                the value of the best word before it
--   place_of_value             the place of a value
--   best_light                 the best distance is small
--   fresh_desks, desks_kept    what the workers of a search have fits the blocks of its phases, and counts nothing
use Rattle.std.proofs.Common.{◌≡◌, ℕ, zero, suc, ◌+◌, ◌*◌, ◌%◌, ◌^◌, ◌<◌, ◌≤◌, min, cond, Bool, true, false, List, [], ◌∷◌, ◌++◌, length, map, option_map, unwrap_or, refl, sym, ap, subst, ◌∙◌, arith}
use Rattle.std.specs.Prelude.{All, Option, IfSome}
use Rattle.std.proofs.lemmas.Bool.Decides.{nat_tests}
use Rattle.std.proofs.lemmas.List.{length-map}
use Rattle.std.proofs.lemmas.List.Elements.{All-head, All-tail, All-weaker}
use Rattle.lc_algebra.specs.Word.{difference}
use Rattle.lc_algebra.specs.Matrix.{Matrix}
use Rattle.lc_algebra.proofs.WordLaws.{weight_at_most_length, length_difference}
use Rattle.lc_algebra.proofs.SpanLaws.{span_word}
use Rattle.lc_algebra.specs.Field.{size}
use Rattle.lc_enumeration.specs.Message.{numbers_from}
use Rattle.lc_enumeration.specs.Plan.{place_of}
use Rattle.lc_enumeration.specs.Search.{Found, set_count, found_along, beats, least_of, least_in, board_value}
use Rattle.lc_enumeration.specs.NearWord.{coset_words, coset_level_blocks, near_in_block, near_from, near_best}
use Rattle.lc_enumeration.proofs.RecordsLaws.{least_append}
use Rattle.lc_enumeration.proofs.GreedyLaws.{each_contained}
use Rattle.lc_enumeration.proofs.SearchLaws.{along_holds}
use Rattle.lc_board.specs.Counting.{least}
use Rattle.lc_crew.specs.Crew.{IsFresh, least_over}
use Rattle.lc_coset_laws.proofs.PhaseLaws.{blocks_next, level_blocks_are}
use Rattle.lc_coset_laws.proofs.NearBest.{near_after, near_best_word}
use Rattle.lc_coset.specs.declared.frame.Frame.{Frame}
use Rattle.lc_coset.specs.declared.blocks.CosetPhase.{CosetPhase}
use Rattle.lc_coset.specs.declared.blocks.Desk.{Desk}
use Rattle.lc_coset.specs.declared.led.Led.{Led}
use Rattle.lc_coset.specs.Near.{near_value}
use Rattle.lc_coset.specs.Led.{IsLed, IsDeskOf}
use Rattle.lc_coset.specs.declared.best.Best.{Best}
use Rattle.lc_coset.specs.Phase.{IsFrame, IsPhaseOf, IsFitting, IsBestAt}
use Rattle.lc_coset.proofs.BlockLaws.{block_size}

pub board_parts : (x : Found) → board_value x ≡ x.weight * 2 ^ 52 + x.place
unfolding board_value
board_parts x = refl

abbrev AreSmall : List Found → Type 0
AreSmall fs = All (λ (x : Found). x.place < 2 ^ 52) fs

-- the value of the one of two that isn't beaten
lesser : (a b : Found) → a.place < 2 ^ 52 → b.place < 2 ^ 52 → board_value (cond (beats b a) b a) ≡ min (board_value a) (board_value b)
unfolding beats board_value
lesser a b p q = grind (arith, nat_tests)

either : (P : Found → Type 0) (t : Bool) (a b : Found) → P a → P b → P (cond t b a)
either P true a b p q = q
either P false a b p q = p

value_of_least : (a : Found) (bs : List Found) → a.place < 2 ^ 52 → AreSmall bs → board_value (least_of a bs) ≡ least (board_value a) (map board_value bs)
unfolding least_of
value_of_least a [] p all = refl
value_of_least a (b ∷ bs) p all =
    let q = All-head (λ (x : Found). x.place < 2 ^ 52) b bs all in
    value_of_least (cond (beats b a) b a) bs (either (λ x. x.place < 2 ^ 52) (beats b a) a b p q) (All-tail (λ (x : Found). x.place < 2 ^ 52) b bs all)
    ∙ ap (λ v. least v (map board_value bs)) (lesser a b p q)

least_small : (a : Found) (bs : List Found) → a.place < 2 ^ 52 → AreSmall bs → (least_of a bs).place < 2 ^ 52
unfolding least_of
least_small a [] p all = p
least_small a (b ∷ bs) p all =
    least_small (cond (beats b a) b a) bs (either (λ x. x.place < 2 ^ 52) (beats b a) a b p (All-head (λ (x : Found). x.place < 2 ^ 52) b bs all)) (All-tail (λ (x : Found). x.place < 2 ^ 52) b bs all)

min_least : (n first : ℕ) (vs : List ℕ) → min n (least first vs) ≡ least (min n first) vs
min_least n first [] = refl
min_least n first (v ∷ vs) = let e : min n (min first v) ≡ min (min n first) v = omega arith in min_least n (min first v) vs ∙ ap (λ x. least x vs) e

abbrev worth : List Found → ℕ
worth founds = unwrap_or (option_map board_value (least_in founds)) 0

block_after : (a : Found) (fs : List Found) → a.place < 2 ^ 52 → AreSmall fs → 0 < length fs → min (board_value a) (worth fs) ≡ board_value (least_of a fs)
unfolding least_in
block_after a [] p all some = absurd (omega (arith, some))
block_after a (f ∷ fs) p all some =
    ap (min (board_value a)) (value_of_least f fs (All-head (λ (x : Found). x.place < 2 ^ 52) f fs all) (All-tail (λ (x : Found). x.place < 2 ^ 52) f fs all))
    ∙ min_least (board_value a) (board_value f) (map board_value fs)
    ∙ sym (value_of_least a (f ∷ fs) p all)

as_many : (place : ℕ) (ws : List (List ℕ)) → length (found_along place ws) ≡ length ws
unfolding found_along
as_many place [] = refl
as_many place (w ∷ ws) = ap suc (as_many (suc place) ws)

some_found : (fr : Frame) (ph : CosetPhase) (b : ℕ) → IsPhaseOf fr ph → b < ph.blocks → 0 < length (near_in_block fr.sets fr.word (ph.first + b))
unfolding near_in_block
some_found fr ph b h l =
    let C = fr.sets in
    let away = difference C.field fr.word in
    let words = coset_words C fr.word (ph.first + b) in
    let next = blocks_next (length C.rows) (size C.field) (set_count C) ph.number in
    omega (arith, as_many (place_of (ph.first + b) 0) (map away words), length-map words away, block_size fr ph b h l, next, level_blocks_are (length C.rows) (size C.field) ph.level, h.begins, h.inside, l, ap (level_size C) h.of_level)
  where
    level_size : Matrix → ℕ → ℕ
    level_size C w = coset_level_blocks (length C.rows) (size C.field) w

small_places : (fr : Frame) (ph : CosetPhase) (b : ℕ) → IsPhaseOf fr ph → b < ph.blocks → AreSmall (near_in_block fr.sets fr.word (ph.first + b))
unfolding near_in_block place_of
small_places fr ph b h l =
    let C = fr.sets in
    let away = difference C.field fr.word in
    let words = coset_words C fr.word (ph.first + b) in
    each_contained (λ (x : Found). x.place < 2 ^ 52) (near_in_block C fr.word (ph.first + b)) (λ y m.
    let a = along_holds ((ph.first + b) * 4096 + 0) (map away words) y m in
    let place : y.place ≡ (ph.first + b) * 4096 + 0 + a.0 = ap (λ (z : Found). z.place) a.4 in
    omega (arith, place, a.3, length-map words away, block_size fr ph b h l, h.uncut, l))

near_cons : (C : Matrix) (x : List ℕ) (b n : ℕ) → near_from C x b (suc n) ≡ near_in_block C x b ++ near_from C x (suc b) n
unfolding near_from numbers_from
near_cons C x b n = refl

near_nothing : (C : Matrix) (x : List ℕ) (b : ℕ) → near_from C x b 0 ≡ []
unfolding near_from numbers_from
near_nothing C x b = refl

worth_is : (C : Matrix) (x : List ℕ) (b : ℕ) → near_value C x b ≡ worth (near_in_block C x b)
unfolding near_value
worth_is C x b = refl

least_none : (a : Found) → least_of a [] ≡ a
unfolding least_of
least_none a = refl

abbrev phase_value : Frame → CosetPhase → ℕ → ℕ
phase_value fr ph b = near_value fr.sets fr.word (ph.first + b)

values_cons : (f : ℕ → ℕ) (v s n : ℕ) → least v (map f (numbers_from s (suc n))) ≡ least (min v (f s)) (map f (numbers_from (suc s) n))
unfolding numbers_from
values_cons f v s n = refl

values_none : (f : ℕ → ℕ) (v s : ℕ) → least v (map f (numbers_from s 0)) ≡ v
unfolding numbers_from
values_none f v s = refl

pub blocks_after : (fr : Frame) (ph : CosetPhase) (s n : ℕ) (a : Found) → IsPhaseOf fr ph → s + n ≤ ph.blocks → a.place < 2 ^ 52
    → (least (board_value a) (map (phase_value fr ph) (numbers_from s n)) ≡ board_value (least_of a (near_from fr.sets fr.word (ph.first + s) n))) × ((least_of a (near_from fr.sets fr.word (ph.first + s) n)).place < 2 ^ 52)
blocks_after fr ph s zero a h l p =
    let none : least_of a (near_from fr.sets fr.word (ph.first + s) 0) ≡ a = ap (least_of a) (near_nothing fr.sets fr.word (ph.first + s)) ∙ least_none a in
    (values_none (phase_value fr ph) (board_value a) s ∙ ap board_value (sym none), subst (λ (x : Found). x.place < 2 ^ 52) (sym none) p)
blocks_after fr ph s (suc n) a h l p =
    let C = fr.sets in
    let x = fr.word in
    let b = ph.first + s in
    let fs = near_in_block C x b in
    let here : s < ph.blocks = omega (arith, l) in
    let small = small_places fr ph s h here in
    let next : ph.first + suc s ≡ suc b = omega arith in
    let rest = blocks_after fr ph (suc s) n (least_of a fs) h (omega (arith, l)) (least_small a fs p small) in
    let value : min (board_value a) (phase_value fr ph s) ≡ board_value (least_of a fs) = ap (min (board_value a)) (worth_is C x b) ∙ block_after a fs p small (some_found fr ph s h here) in
    let both : least_of a (near_from C x b (suc n)) ≡ least_of (least_of a fs) (near_from C x (ph.first + suc s) n) =
    ap (least_of a) (near_cons C x b n) ∙ least_append fs a (near_from C x (suc b) n) ∙ ap (λ c. least_of (least_of a fs) (near_from C x c n)) (sym next) in (
      values_cons (phase_value fr ph) (board_value a) s n ∙ ap (λ v. least v (map (phase_value fr ph) (numbers_from (suc s) n))) value ∙ rest.0 ∙ ap board_value (sym both),
      subst (λ (y : Found). y.place < 2 ^ 52) (sym both) rest.1,
    )

pub round_value : (fr : Frame) (ph : CosetPhase) (s n first : ℕ) → IsPhaseOf fr ph → s + n ≤ ph.blocks → (near_best fr.sets fr.word (ph.first + s)).place < 2 ^ 52 → first ≡ board_value (near_best fr.sets fr.word (ph.first + s))
    → (least_over (phase_value fr ph) first s n ≡ board_value (near_best fr.sets fr.word (ph.first + s + n))) × ((near_best fr.sets fr.word (ph.first + s + n)).place < 2 ^ 52)
round_value fr ph s n first h l p e =
    let C = fr.sets in
    let x = fr.word in
    let t = blocks_after fr ph s n (near_best C x (ph.first + s)) h l p in
    let after = near_after C x (ph.first + s) n in (
      ap (λ v. least v (map (phase_value fr ph) (numbers_from s n))) e ∙ t.0 ∙ ap board_value (sym after),
      subst (λ (y : Found). y.place < 2 ^ 52) (sym after) t.1,
    )

pub best_light : (fr : Frame) (l : ℕ) → IsFrame fr → (near_best fr.sets fr.word l).weight ≤ 255
best_light fr l t =
    let C = fr.sets in
    let b = near_best_word C fr.word l t.rows in
    let e = difference C.field fr.word b.0 in
    let long : length e ≡ C.columns = length_difference C.field fr.word b.0 (t.given.long ∙ sym (span_word C.field C.columns C.rows b.0 t.rows b.2).long) ∙ t.given.long in
    omega (arith, b.3, weight_at_most_length e, long, t.short)

pub fresh_desks : (fr : Frame) (ph : CosetPhase) (o : Option Led) (desks : List Desk) → IsFrame fr → IsPhaseOf fr ph → IfSome o (IsLed fr.sets fr.word) → All (IsDeskOf fr.sets o) desks → All (IsFresh (IsFitting fr ph o) (λ d j. 0)) desks
fresh_desks fr ph o desks t h g all = All-weaker (IsDeskOf fr.sets o) (IsFresh (IsFitting fr ph o) (λ d j. 0)) (λ d e. (record { search = t; phase = h; larger = g; desk = e }, λ j. refl)) desks all

pub desks_kept : (fr : Frame) (ph : CosetPhase) (o : Option Led) (desks : List Desk) → All (IsFitting fr ph o) desks → All (IsDeskOf fr.sets o) desks
desks_kept fr ph o desks all = All-weaker (IsFitting fr ph o) (IsDeskOf fr.sets o) (λ d h. h.desk) desks all

pub first_value : (C : Matrix) (x : List ℕ) (l v : ℕ) (b : Best) → IsBestAt C x l b → v ≡ b.weight * 2 ^ 52 + b.place → (v ≡ board_value (near_best C x l)) × ((near_best C x l).place < 2 ^ 52)
first_value C x l v b h e = (omega (arith, e, h.distance, h.place_is, board_parts (near_best C x l)), omega (arith, h.near, h.place_is))

pub place_of_value : (y : Found) (v : ℕ) → v ≡ board_value y → y.place < 2 ^ 52 → v % 2 ^ 52 ≡ y.place
place_of_value y v e l = omega (arith, e, l, board_parts y)
