-- The round machine keeps what holds in each of its states.
--   sound_start          it holds in a starting state
--   sound_step           a possible event keeps it
--   claimed, told, restarted   the same, of the code's own terms
--   always_sound         it holds in each state that events reach
--   ends_with_the_least  what an ended round has
use Rattle.std.proofs.Common.{◌≡◌, ℕ, zero, suc, ◌+◌, ◌<◌, ◌≤◌, min, Bool, true, false, cond, eqb, ltb, List, [], ◌∷◌, ◌++◌, length, get_or, set, map, replicate, Option, Some, None, refl, sym, ap, ◌∙◌, subst, ⊎_elim, arith}
use Rattle.std.specs.Prelude.{sum_by, flat_map, All, IsSome, option_to_list}
use Rattle.std.proofs.lemmas.Bool.{cases_lt, lt-ltb, le-ltb}
use Rattle.std.proofs.lemmas.List.{map-append, get_or_default}
use Rattle.std.proofs.lemmas.List.Elements.{All-head, All-tail}
use Rattle.std.proofs.lemmas.List.Sums.{sum_by-cons, sum_by-append, sum_by-set}
use Rattle.lc_board.specs.Counting.{times, least}
use Rattle.lc_board.specs.Round.{Round, idle, actor_at, start, Possible, drew, finished, moved, Reaches, blocks_of, values_of, blocks, values, IsSound, IsAlwaysSound, EndsWithTheLeast}
use Rattle.lc_board.specs.declared.round.Mode.TheVariants.{Running}
use Rattle.lc_board.specs.declared.round.Event.{Event}
use Rattle.lc_board.specs.declared.round.Event.TheVariants.{Claim, Report, EndRound, Kill, Resume}
use Rattle.lc_board.specs.declared.round.Actor.{Actor}
use Rattle.lc_board.proofs.Counting.{sum_flat, once_more, none_if, under, least_lower, least_same}

flat_none : {A B : Type 0} (f : A → List B) (x : A) (n : ℕ) → f x ≡ [] → flat_map f (replicate n x) ≡ []
flat_none f x zero e = refl
flat_none f x (suc n) e = ap (λ l. l ++ flat_map f (replicate n x)) e ∙ flat_none f x n e

pub sound_start : (count first n : ℕ) → IsSound (start count first n)
sound_start count first n = record {
  once = λ x. ap (times x) (flat_none blocks_of idle n refl) ∙ sym (none_if (ltb x (min 0 count)) (le-ltb x (min 0 count) (omega arith)));
  best = ap (least first) (sym (flat_none values_of idle n refl));
  ended = λ e. absurd (cc);
  past = omega arith;
}

-- the state with another actor in the place i
abbrev put : Round → ℕ → Actor → List Actor
put r i a = set r.actors i a

count_put : (f : Actor → List ℕ) (g : ℕ → ℕ) (r : Round) (i : ℕ) (w : Actor) → i < length r.actors
    → sum_by g (flat_map f (put r i w)) + sum_by g (f (actor_at r i)) ≡ sum_by g (flat_map f r.actors) + sum_by g (f w)
count_put f g r i w l =
    let s = sum_by-set (λ a. sum_by g (f a)) r.actors i w idle l in
    let a = sum_flat g f (put r i w) in let b = sum_flat g f r.actors in
    omega arith

low : (count next : ℕ) (a : Actor) → next < count → drew count next a ≡ record a { held = Some next }
low count next a l = ap (λ (b : Bool). cond {A = Actor} b (record a { held = Some next }) (record a { past = true })) (lt-ltb next count l)

high : (count next : ℕ) (a : Actor) → count ≤ next → drew count next a ≡ record a { past = true }
high count next a l = ap (λ (b : Bool). cond {A = Actor} b (record a { held = Some next }) (record a { past = true })) (le-ltb next count l)

claim_low : (r : Round) (i : ℕ) → IsSound r → Possible r (Claim i) → r.next < r.count → IsSound (record r { next = r.next + 1; actors = put r i (record (actor_at r i) { held = Some r.next }) })
claim_low r i h p l =
    let a = actor_at r i in let w : Actor = record a { held = Some r.next } in let fs : List ℕ = map (λ p. p.0) a.finished in
    let few : r.next + 1 ≤ r.count = omega arith in
    record {
      once = λ x.
          let s = count_put blocks_of (λ y. cond (eqb y x) 1 0) r i w p.1 in
          let o = h.once x in
          let m : min r.next r.count ≡ r.next = omega arith in
          let m' : min (r.next + 1) r.count ≡ r.next + 1 = omega arith in
          let was : times x (blocks_of a) ≡ times x fs = ap (λ (held : Option ℕ). times x (option_to_list held ++ fs)) p.2 in
          let is : times x (blocks_of w) ≡ cond (eqb r.next x) 1 0 + times x fs = sum_by-cons (λ y. cond (eqb y x) 1 0) r.next fs in
          let o' : times x (blocks r) ≡ cond (ltb x r.next) 1 0 = subst (λ n. times x (blocks r) ≡ cond (ltb x n) 1 0) m o in
          let one = once_more r.next x in
          let goal : times x (flat_map blocks_of (put r i w)) ≡ cond (ltb x (r.next + 1)) 1 0 = omega arith in
          subst (λ n. times x (flat_map blocks_of (put r i w)) ≡ cond (ltb x n) 1 0) (sym m') goal;
      best = h.best ∙ least_same r.first (values r) (flat_map values_of (put r i w)) (λ n. let s = count_put values_of (λ v. cond (ltb v n) 1 0) r i w p.1 in omega arith);
      ended = λ e. absurd (let run = p.0 in cc);
      past = let s = sum_by-set (λ (a : Actor). cond (a.past) 1 0) r.actors i w idle p.1 in omega arith;
    }

claim_high : (r : Round) (i : ℕ) → IsSound r → Possible r (Claim i) → r.count ≤ r.next → IsSound (record r { next = r.next + 1; actors = put r i (record (actor_at r i) { past = true }) })
claim_high r i h p l =
    let a = actor_at r i in let w : Actor = record a { past = true } in
    record {
      once = λ x.
          let s = count_put blocks_of (λ y. cond (eqb y x) 1 0) r i w p.1 in
          let o = h.once x in
          let m : min r.next r.count ≡ min (r.next + 1) r.count = omega arith in
          let o' : times x (blocks r) ≡ cond (ltb x (min (r.next + 1) r.count)) 1 0 = subst (λ n. times x (blocks r) ≡ cond (ltb x n) 1 0) m o in
          omega arith;
      best = h.best ∙ least_same r.first (values r) (flat_map values_of (put r i w)) (λ n. let s = count_put values_of (λ v. cond (ltb v n) 1 0) r i w p.1 in omega arith);
      ended = λ e. absurd (let run = p.0 in cc);
      past = let s = sum_by-set (λ (a : Actor). cond (a.past) 1 0) r.actors i w idle p.1 in let z = none_if a.past p.3 in let b = h.past in omega arith;
    }

pub sound_claim : (r : Round) (i : ℕ) → IsSound r → Possible r (Claim i) → IsSound (moved r (Claim i))
sound_claim r i h p = ⊎_elim
    (λ (l : r.next < r.count). subst (λ (w : Actor). IsSound (record r { next = r.next + 1; actors = put r i w })) (sym (low r.count r.next (actor_at r i) l)) (claim_low r i h p l))
    (λ (l : r.count ≤ r.next). subst (λ (w : Actor). IsSound (record r { next = r.next + 1; actors = put r i w })) (sym (high r.count r.next (actor_at r i) l)) (claim_high r i h p l))
    (cases_lt r.next r.count)

reported_block : (v : ℕ) (o : Option ℕ) → map (λ (p : ℕ × ℕ). p.0) (map (λ (x : ℕ). (x, v)) (option_to_list o)) ≡ option_to_list o
reported_block v None = refl
reported_block v (Some x) = refl

reported_value : (v : ℕ) (o : Option ℕ) → IsSome o → map (λ (p : ℕ × ℕ). p.1) (map (λ (x : ℕ). (x, v)) (option_to_list o)) ≡ v ∷ []
reported_value v None e = absurd (cc)
reported_value v (Some x) e = refl

pub sound_report : (r : Round) (i v : ℕ) → IsSound r → Possible r (Report i v) → IsSound (moved r (Report i v))
sound_report r i v h p =
    let a = actor_at r i in let w = finished v a in
    let new : List (ℕ × ℕ) = map (λ x. (x, v)) (option_to_list a.held) in
    record {
      once = λ x.
          let s = count_put blocks_of (λ y. cond (eqb y x) 1 0) r i w p.1 in
          let o = h.once x in
          let was = sum_by-append (λ y. cond (eqb y x) 1 0) (option_to_list a.held) (map (λ p. p.0) a.finished) in
          let cut : times x (blocks_of w) ≡ times x (map (λ p. p.0) a.finished ++ option_to_list a.held) = ap (times x) (map-append (λ p. p.0) a.finished new ∙ ap (λ l. map (λ (p : ℕ × ℕ). p.0) a.finished ++ l) (reported_block v a.held)) in
          let is = sum_by-append (λ y. cond (eqb y x) 1 0) (map (λ p. p.0) a.finished) (option_to_list a.held) in
          omega arith;
      best = ap (λ n. min n v) h.best ∙ least_lower r.first v (values r) (flat_map values_of (put r i w)) (λ n.
          let s = count_put values_of (λ v. cond (ltb v n) 1 0) r i w p.1 in
          let cut : under n (values_of w) ≡ under n (values_of a ++ v ∷ []) = ap (under n) (map-append (λ p. p.1) a.finished new ∙ ap (λ l. map (λ (p : ℕ × ℕ). p.1) a.finished ++ l) (reported_value v a.held p.2)) in
          let is = sum_by-append (λ v. cond (ltb v n) 1 0) (values_of a) (v ∷ []) in
          omega arith);
      ended = λ e. absurd (let run = p.0 in cc);
      past = let s = sum_by-set (λ (a : Actor). cond (a.past) 1 0) r.actors i w idle p.1 in let b = h.past in omega arith;
    }

pub sound_step : (r : Round) (e : Event) → IsSound r → Possible r e → IsSound (moved r e)
sound_step r (Claim a) h p = sound_claim r a h p
sound_step r (Report a v) h p = sound_report r a v h p
sound_step r EndRound h p = record { once = h.once; best = h.best; ended = λ _. (p.1, p.2); past = h.past }
sound_step r Kill h p = record { once = h.once; best = h.best; ended = λ e. absurd (cc); past = h.past }
sound_step r Resume h p = sound_start r.count r.first (length r.actors)

reached : (r : Round) (es : List Event) (s : Round) → IsSound r → Reaches r es s → IsSound s
reached r [] s h e = subst IsSound (sym e) h
reached r (e ∷ es) s h p = reached (moved r e) es s (sound_step r e h p.0) p.1

same_terms : (r : Round) (e : Event) → ((moved r e).count ≡ r.count) × ((moved r e).first ≡ r.first)
same_terms r (Claim a) = (refl, refl)
same_terms r (Report a v) = (refl, refl)
same_terms r EndRound = (refl, refl)
same_terms r Kill = (refl, refl)
same_terms r Resume = (refl, refl)

kept_terms : (r : Round) (es : List Event) (s : Round) → Reaches r es s → (s.count ≡ r.count) × (s.first ≡ r.first)
kept_terms r [] s e = (ap (λ (t : Round). t.count) e, ap (λ (t : Round). t.first) e)
kept_terms r (e ∷ es) s p = let k = kept_terms (moved r e) es s p.1 in let t = same_terms r e in (k.0 ∙ t.0, k.1 ∙ t.1)

nothing_held : (xs : List Actor) → All (λ a. a.held ≡ None) xs → flat_map blocks_of xs ≡ flat_map (λ a. map (λ p. p.0) a.finished) xs
nothing_held [] h = refl
nothing_held (a ∷ xs) h =
    ap (λ (o : Option ℕ). (option_to_list o ++ map (λ (p : ℕ × ℕ). p.0) a.finished) ++ flat_map blocks_of xs) (All-head (λ (a : Actor). a.held ≡ None) a xs h)
    ∙ ap (λ l. map (λ (p : ℕ × ℕ). p.0) a.finished ++ l) (nothing_held xs (All-tail (λ (a : Actor). a.held ≡ None) a xs h))

pub always_sound : IsAlwaysSound
always_sound count first actors events r p = reached (start count first actors) events r (sound_start count first actors) p

pub ends_with_the_least : EndsWithTheLeast
ends_with_the_least count first actors events r p e =
    let h = always_sound count first actors events r p in
    let k = kept_terms (start count first actors) events r p in
    let over = h.ended e in
    let m : min r.next r.count ≡ count = (let o = over.0 in let c : r.count ≡ count = k.0 in omega arith) in (
      λ x. ap (times x) (sym (nothing_held r.actors over.1)) ∙ h.once x ∙ ap (λ n. cond (ltb x n) 1 0) m,
      subst (λ n. r.best ≡ least n (values r)) k.1 h.best,
    )

-- an element that was read at its index is the actor there
is_actor : (r : Round) (i : ℕ) (x : Actor) → i < length r.actors → x ≡ get_or r.actors i x → x ≡ actor_at r i
is_actor r i x l e = e ∙ get_or_default r.actors i x idle l

pub claimed : (r : Round) (i : ℕ) (x y w : Actor) → IsSound r → r.mode ≡ Running → i < length r.actors → x ≡ get_or r.actors i x → y ≡ get_or r.actors i y → (y.held ≡ None) × (y.past ≡ false) → w ≡ drew r.count r.next x
    → IsSound (record r { next = r.next + 1; actors = set r.actors i w })
claimed r i x y w h run l is is' free new =
    let same = is_actor r i x l is in
    let same' = is_actor r i y l is' in
    subst (λ (w : Actor). IsSound (record r { next = r.next + 1; actors = set r.actors i w })) (sym (new ∙ ap (drew r.count r.next) same))
    (sound_claim r i h (run, l, sym (ap (λ (a : Actor). a.held) same') ∙ free.0, sym (ap (λ (a : Actor). a.past) same') ∙ free.1))

pub told : (r : Round) (i v best : ℕ) (x w : Actor) → IsSound r → r.mode ≡ Running → i < length r.actors → x ≡ get_or r.actors i x → IsSome x.held → w ≡ finished v x → best ≡ min r.best v
    → IsSound (record r { best = best; actors = set r.actors i w })
told r i v best x w h run l is some_block new lower =
    let same = is_actor r i x l is in
    subst (λ (w : Actor). IsSound (record r { best = best; actors = set r.actors i w })) (sym (new ∙ ap (finished v) same))
    (subst (λ (b : ℕ). IsSound (record r { best = b; actors = set r.actors i (finished v (actor_at r i)) })) (sym lower)
    (sound_report r i v h (run, l, subst (λ (a : Actor). IsSome a.held) same some_block)))

pub restarted : (r : Round) (xs : List Actor) → xs ≡ replicate (length r.actors) idle → IsSound (record r { next = 0; best = r.first; mode = Running; actors = xs })
restarted r xs e = subst (λ (l : List Actor). IsSound (record r { next = 0; best = r.first; mode = Running; actors = l })) (sym e) (sound_start r.count r.first (length r.actors))
