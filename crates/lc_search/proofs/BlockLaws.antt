-- The least word of some blocks, and the value of a board.
--   crossing            among rising numbers, those between which one lies
--   phase_there         a block below the total is in a phase
--   some_words          such a block has a word
--   small_places        the places of its words are below 2^52
--   value_of_least      the value of the best is the least value
--   block_after         the value of the least word of a block
--   PairOf best x a     the value is that of x and gives its weight and its place, and x is no heavier than a
--   blocks_after        the values of blocks, and the best of what is found in them
use Rattle.std.proofs.Common.{◌≡◌, ℕ, zero, suc, ◌+◌, ◌-◌, ◌*◌, ◌/◌, ◌%◌, ◌^◌, ◌<◌, ◌≤◌, min, Bool, true, false, cond, List, [], ◌∷◌, map, length, drop, option_map, flat_map, refl, sym, ap, ◌∙◌, subst, ⊎_elim, arith}
use Rattle.std.specs.Prelude.{All, Contains, unwrap_or}
use Rattle.std.proofs.lemmas.Bool.{cases_lt}
use Rattle.std.proofs.lemmas.Bool.Decides.{nat_tests}
use Rattle.std.proofs.lemmas.List.{length-take, length-drop, length-map}
use Rattle.std.proofs.lemmas.List.Elements.{All-head, All-tail, Contains-append_left}
use Rattle.lc_algebra.specs.Field.{size}
use Rattle.lc_algebra.specs.Matrix.{Matrix}
use Rattle.lc_enumeration.specs.Message.{messages, numbers_from}
use Rattle.lc_enumeration.specs.Plan.{total, phase_level, blocks_before, block_messages, place_of, IsInPhase}
use Rattle.lc_enumeration.specs.Search.{Found, word_of, block_words, beats, found_along, found_in_block, found_from, least_of, least_in, block_least, board_value}
use Rattle.lc_enumeration.proofs.PlanLaws.{cut_is, start_is, end_is, within}
use Rattle.lc_enumeration.proofs.SearchLaws.{found_is, words_in_phase}
use Rattle.lc_enumeration.proofs.RecordsLaws.{least_append}
use Rattle.lc_enumeration.proofs.GreedyLaws.{each_contained}
use Rattle.lc_place.proofs.Messages.{length-messages}
use Rattle.lc_place.proofs.Phases.{blocks_next, blocks_of}
use Rattle.lc_board.specs.Counting.{least}
use Rattle.lc_infoset.proofs.BestLaws.{no_blocks}
use Rattle.lc_search.specs.Work.{block_value}
use Rattle.lc_crew.specs.Crew.{least_over}
use Rattle.lc_crew.proofs.GatherLaws.{under_least}
use Rattle.lc_search.proofs.LevelLaws.{total_is}

pub crossing : (f : ℕ → ℕ) (n x : ℕ) → f 0 ≤ x → x < f n → (p : ℕ) × (p < n) × (f p ≤ x) × (x < f (suc p))
crossing f zero x low high = absurd (omega (arith, low, high))
crossing f (suc n) x low high =
    ⊎_elim
    (λ l. let t = crossing f n x low l in (t.0, omega (arith, t.1), t.2, t.3))
    (λ l. (n, omega arith, l, high))
    (cases_lt x (f n))

pub phase_there : (k q m b : ℕ) → b < total k q m → (p : ℕ) × IsInPhase k q m p b
phase_there k q m b l =
    let whole = total_is k q m in
    let t = crossing (blocks_before k q m) (k * m) b (omega (arith, no_blocks k q m)) (omega (arith, l, whole)) in (
      t.0,
      record {
        phase = t.1;
        after = omega (arith, t.2, start_is k q m t.0);
        before = omega (arith, t.3, end_is k q m t.0, l, whole);
      },
    )

long_words : (k q m p b : ℕ) → IsInPhase k q m p b → 0 < length (block_messages k q m p b)
unfolding block_messages
long_words k q m p b h =
    let ms = messages k q (phase_level m p) in
    let j = 4096 * (b - blocks_before k q m p) in
    let w = within k q m p b h in
    let count = length-messages k q (phase_level m p) in
    let kept = length-take 4096 (drop j ms) in
    let left = length-drop j ms in
    omega (arith, w.after, w.before, blocks_next k q m p, blocks_of k q (phase_level m p), count, kept, left)

pub some_words : (C : Matrix) (m b : ℕ) → b < total (length C.rows) (size C.field) m → 0 < length (block_words C m b)
some_words C m b l =
    let t = phase_there (length C.rows) (size C.field) m b l in
    let ms = block_messages (length C.rows) (size C.field) m t.0 b in
    let long = long_words (length C.rows) (size C.field) m t.0 b t.1 in
    let same : length (block_words C m b) ≡ length ms = ap (λ (ws : List (List ℕ)). length ws) (words_in_phase C m t.0 b t.1) ∙ length-map ms (word_of C m t.0) in
    omega (arith, long, same)

as_many : (place : ℕ) (ws : List (List ℕ)) → length (found_along place ws) ≡ length ws
unfolding found_along
as_many place [] = refl
as_many place (w ∷ ws) = ap suc (as_many (suc place) ws)

pub some_found : (C : Matrix) (m b : ℕ) → b < total (length C.rows) (size C.field) m → 0 < length (found_in_block C m b)
unfolding found_in_block
some_found C m b l = let s = some_words C m b l in let e = as_many (place_of b 0) (block_words C m b) in omega (arith, s, e)

found_one : (C : Matrix) (m b : ℕ) (x : Found) → Contains (found_in_block C m b) x → Contains (found_from C m b 1) x
unfolding found_from numbers_from
found_one C m b x l = Contains-append_left (found_in_block C m b) [] x l

pub small_places : (C : Matrix) (m b : ℕ) → b < total (length C.rows) (size C.field) m → All (λ (x : Found). x.place < 2 ^ 52) (found_in_block C m b)
small_places C m b l =
    let few = total_is (length C.rows) (size C.field) m in
    each_contained (λ (x : Found). x.place < 2 ^ 52) (found_in_block C m b) (λ x h.
    let f = found_is C m b 1 x (found_one C m b x h) in
    omega (arith, f.before, l, few, cut_is))

-- the value of the one of two that isn't beaten
lesser : (a b : Found) → a.place < 2 ^ 52 → b.place < 2 ^ 52 → board_value (cond (beats b a) b a) ≡ min (board_value a) (board_value b)
unfolding beats board_value
lesser a b p q = grind (arith, nat_tests)

either : (P : Found → Type 0) (t : Bool) (a b : Found) → P a → P b → P (cond t b a)
either P true a b p q = q
either P false a b p q = p

pub value_of_least : (a : Found) (bs : List Found) → a.place < 2 ^ 52 → All (λ (x : Found). x.place < 2 ^ 52) bs → board_value (least_of a bs) ≡ least (board_value a) (map board_value bs)
unfolding least_of
value_of_least a [] p all = refl
value_of_least a (b ∷ bs) p all =
    let q = All-head (λ (x : Found). x.place < 2 ^ 52) b bs all in
    value_of_least (cond (beats b a) b a) bs (either (λ x. x.place < 2 ^ 52) (beats b a) a b p q) (All-tail (λ (x : Found). x.place < 2 ^ 52) b bs all)
    ∙ ap (λ v. least v (map board_value bs)) (lesser a b p q)

pub least_small : (a : Found) (bs : List Found) → a.place < 2 ^ 52 → All (λ (x : Found). x.place < 2 ^ 52) bs → (least_of a bs).place < 2 ^ 52
unfolding least_of
least_small a [] p all = p
least_small a (b ∷ bs) p all =
    least_small (cond (beats b a) b a) bs (either (λ x. x.place < 2 ^ 52) (beats b a) a b p (All-head (λ (x : Found). x.place < 2 ^ 52) b bs all)) (All-tail (λ (x : Found). x.place < 2 ^ 52) b bs all)

min_least : (n first : ℕ) (vs : List ℕ) → min n (least first vs) ≡ least (min n first) vs
min_least n first [] = refl
min_least n first (v ∷ vs) = let e : min n (min first v) ≡ min (min n first) v = omega arith in min_least n (min first v) vs ∙ ap (λ x. least x vs) e

abbrev worth : List Found → ℕ
worth founds = unwrap_or (option_map board_value (least_in founds)) 0

worth_is : (C : Matrix) (m b : ℕ) → block_value C m b ≡ worth (found_in_block C m b)
unfolding block_value block_least
worth_is C m b = refl

pub block_after : (a : Found) (fs : List Found) → a.place < 2 ^ 52 → All (λ (x : Found). x.place < 2 ^ 52) fs → 0 < length fs → min (board_value a) (worth fs) ≡ board_value (least_of a fs)
unfolding least_in
block_after a [] p all some = absurd (omega (arith, some))
block_after a (f ∷ fs) p all some =
    ap (min (board_value a)) (value_of_least f fs (All-head (λ (x : Found). x.place < 2 ^ 52) f fs all) (All-tail (λ (x : Found). x.place < 2 ^ 52) f fs all))
    ∙ min_least (board_value a) (board_value f) (map board_value fs)
    ∙ sym (value_of_least a (f ∷ fs) p all)

least_none : (a : Found) → least_of a [] ≡ a
unfolding least_of
least_none a = refl

-- the blocks from one on, all below the total
along : (C : Matrix) (m l n : ℕ) (a : Found) → l + n ≤ total (length C.rows) (size C.field) m → a.place < 2 ^ 52
    → (least (board_value a) (map (block_value C m) (numbers_from l n)) ≡ board_value (least_of a (flat_map (found_in_block C m) (numbers_from l n)))) × ((least_of a (flat_map (found_in_block C m) (numbers_from l n))).place < 2 ^ 52)
unfolding numbers_from
along C m l zero a inside p = (ap board_value (sym (least_none a)), subst (λ (x : Found). x.place < 2 ^ 52) (sym (least_none a)) p)
along C m l (suc n) a inside p =
    let fs = found_in_block C m l in
    let here : l < total (length C.rows) (size C.field) m = omega (arith, inside) in
    let small = small_places C m l here in
    let rest = along C m (suc l) n (least_of a fs) (omega (arith, inside)) (least_small a fs p small) in
    let others = flat_map (found_in_block C m) (numbers_from (suc l) n) in
    let value : min (board_value a) (block_value C m l) ≡ board_value (least_of a fs) = ap (min (board_value a)) (worth_is C m l) ∙ block_after a fs p small (some_found C m l here) in
    let both = least_append fs a others in (
      ap (λ v. least v (map (block_value C m) (numbers_from (suc l) n))) value ∙ rest.0 ∙ ap board_value (sym both),
      subst (λ (x : Found). x.place < 2 ^ 52) (sym both) rest.1,
    )

value_parts : (x : Found) → board_value x ≡ x.weight * 2 ^ 52 + x.place
unfolding board_value
value_parts x = refl

least_at_most : (first : ℕ) (vs : List ℕ) → least first vs ≤ first
least_at_most first vs = (under_least (least first vs) first vs (omega arith)).0

pub record PairOf (best : ℕ) (x a : Found) : Type 0 where
  pub value : best ≡ board_value x
  pub weight : x.weight ≡ best / 2 ^ 52
  pub place : x.place ≡ best % 2 ^ 52
  pub lighter : x.weight ≤ a.weight
  pub small : x.place < 2 ^ 52

pub blocks_after : (C : Matrix) (m l n best : ℕ) (a : Found) → l + n ≤ total (length C.rows) (size C.field) m → a.place < 2 ^ 52 → best ≡ least_over (block_value C m) (board_value a) l n → PairOf best (least_of a (found_from C m l n)) a
unfolding found_from
blocks_after C m l n best a inside p e =
    let t = along C m l n a inside p in
    let x = least_of a (flat_map (found_in_block C m) (numbers_from l n)) in
    let is = value_parts x in
    let was = value_parts a in
    let most = least_at_most (board_value a) (map (block_value C m) (numbers_from l n)) in
    let value : best ≡ board_value x = e ∙ t.0 in
    let small : x.place < 2 ^ 52 = t.1 in
    record {
      value = value;
      weight = omega (arith, value, is, small);
      place = omega (arith, value, is, small);
      lighter = omega (arith, value, is, was, most, e, small, p);
      small = small;
    }
