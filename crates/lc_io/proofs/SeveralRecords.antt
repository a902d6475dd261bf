-- Lemmas on the watchers of a session: what one record more leaves of them.
--   outlasts-suc       advice that ended before goes no further
--   outlasts-append    advice that goes on is tested by what comes behind
--   outlasts_one       one more advice is there, and isn't Leave
--   calm-suc           advice that ended before with no Pause has none further on
--   calm-append        advice that goes on without a Pause is tested by what comes behind
--   Stays-none, Stays-more, Goes-last, Goes-more    one watcher
--   Kept-none          before the first record every watcher is there
--   Kept-paused, Kept-unpaused     what the flag says of those that are handed back
--   Kept-once          with checkpoints kept, one that is handed back has paused once at most, and then the flag says so
--   Kept-silent        without a record nobody paused
--   Kept-same          and all are as they were
--   Stays-unpaused     a watcher that is handed back and answered no Pause to the last record, nor could before, never did
use Rattle.std.proofs.Common.{◌<◌, ◌⊎◌, ⊎_elim, inl, inr, ◌≡◌, ◌+◌, ◌++◌, ℕ, suc, zero, Bool, true, false, cond, List, [], ◌∷◌, length, refl, sym, ap, subst, ◌∙◌, arith}
use Rattle.std.specs.Prelude.{Contains, count_by, Option, Some, None, option_map, IfSome, not}
use Rattle.std.specs.List.{list_any}
use Rattle.std.proofs.lemmas.List.{append_assoc, append-nil}
use Rattle.std.proofs.lemmas.List.Folds.{list_any-append}
use Rattle.std.proofs.lemmas.List.Sums.{sum_by-append}
use Rattle.std.proofs.lemmas.List.Elements.{Contains-append_right, Contains-append_cases}
use Rattle.lc_io.specs.declared.watcher.Record.{Record}
use Rattle.lc_io.specs.declared.watcher.Advice.{Advice}
use Rattle.lc_io.specs.declared.watcher.Advice.TheVariants.{Go, Pause, Leave}
use Rattle.lc_io.specs.Watchers.{Hearing, Hears, Tells, is_leave, is_pause, first_advice, AnswersFrom, HearsUnlessLeft, pauses_after}
use Rattle.lc_io.specs.Told.{outlasts, ends_paused, pauses_early, pauses_before_leaving, Gave, Stays, Goes, Kept}

pub outlasts-suc : (n : ℕ) (coming : List Advice) → outlasts n coming ≡ false → outlasts (suc n) coming ≡ false
outlasts-suc zero coming ends = absurd (let e = ends in cc)
outlasts-suc (suc n) [] ends = refl
outlasts-suc (suc n) (Go ∷ coming) ends = outlasts-suc n coming ends
outlasts-suc (suc n) (Pause ∷ coming) ends = outlasts-suc n coming ends
outlasts-suc (suc n) (Leave ∷ coming) ends = refl

suc-add : (m n : ℕ) → suc m + n ≡ suc (m + n)
suc-add m n = omega arith

pub outlasts-append : (advices rest : List Advice) (n : ℕ) → list_any is_leave advices ≡ false → outlasts (length advices + n) (advices ++ rest) ≡ outlasts n rest
outlasts-append [] rest n none = ap (λ (m : ℕ). outlasts m rest) (omega arith)
outlasts-append (Go ∷ advices) rest n none = rw (suc-add (length advices) n) (outlasts-append advices rest n none)
outlasts-append (Pause ∷ advices) rest n none = rw (suc-add (length advices) n) (outlasts-append advices rest n none)
outlasts-append (Leave ∷ advices) rest n none = absurd (let e = none in cc)

pub outlasts_one : (rest : List Advice) → outlasts 1 rest ≡ not (is_leave (first_advice rest))
outlasts_one [] = refl
outlasts_one (Go ∷ rest) = refl
outlasts_one (Pause ∷ rest) = refl
outlasts_one (Leave ∷ rest) = refl

pub calm-suc : (n : ℕ) (coming : List Advice) → outlasts n coming ≡ false → pauses_before_leaving n coming ≡ false → pauses_before_leaving (suc n) coming ≡ false
calm-suc zero coming ends calm = absurd (let e = ends in cc)
calm-suc (suc n) [] ends calm = refl
calm-suc (suc n) (Go ∷ coming) ends calm = calm-suc n coming ends calm
calm-suc (suc n) (Pause ∷ coming) ends calm = absurd (let e = calm in cc)
calm-suc (suc n) (Leave ∷ coming) ends calm = refl

pub calm-append : (advices rest : List Advice) (n : ℕ) → list_any is_leave advices ≡ false → list_any is_pause advices ≡ false → pauses_before_leaving (length advices + n) (advices ++ rest) ≡ pauses_before_leaving n rest
calm-append [] rest n none calm = ap (λ (m : ℕ). pauses_before_leaving m rest) (omega arith)
calm-append (Go ∷ advices) rest n none calm = rw (suc-add (length advices) n) (calm-append advices rest n none calm)
calm-append (Pause ∷ advices) rest n none calm = absurd (let e = calm in cc)
calm-append (Leave ∷ advices) rest n none calm = absurd (let e = none in cc)

calm-leaving : (rest : List Advice) → is_leave (first_advice rest) ≡ true → pauses_before_leaving 1 rest ≡ false
calm-leaving [] leaves = refl
calm-leaving (Go ∷ rest) leaves = absurd (let e = leaves in cc)
calm-leaving (Pause ∷ rest) leaves = absurd (let e = leaves in cc)
calm-leaving (Leave ∷ rest) leaves = refl

Gave-none : (coming : Option (List Advice)) → Gave coming [] coming
Gave-none None = refl
Gave-none (Some coming) = (coming, refl, refl)

outlasts-none : (coming : Option (List Advice)) → IfSome coming (λ c. outlasts 0 c ≡ true)
outlasts-none None = tt
outlasts-none (Some coming) = refl

heard-none : (heard : Option (List Record)) → heard ≡ option_map (λ past. past ++ []) heard
heard-none None = refl
heard-none (Some past) = ap Some (sym (append-nil past))

pub Stays-none : (keep : Bool) (w : Hearing) → Stays keep [] false w w
Stays-none keep w = record {
  advices = [];
  as_many = refl;
  none_leaves = refl;
  coming = Gave-none w.coming;
  outlasting = outlasts-none w.coming;
  heard = heard-none w.heard;
  pauses = omega arith;
  calm = λ k. refl;
  last = refl;
}

Gave-more : (before mid after : Option (List Advice)) (advices : List Advice) (advice : Advice) → Gave before advices mid → AnswersFrom mid advice after → is_leave advice ≡ false → Gave before (advices ++ advice ∷ []) after
Gave-more None mid after advices advice none answers stays = subst (λ (m : Option (List Advice)). AnswersFrom m advice after) none answers
Gave-more (Some coming) mid after advices advice ([], is, told) answers stays =
    let next : AnswersFrom (Some []) advice after = subst (λ (m : Option (List Advice)). AnswersFrom m advice after) told answers in
    absurd (let e : true ≡ false = ap is_leave (sym next.0) ∙ stays in cc)
Gave-more (Some coming) mid after advices advice (a ∷ rest, is, told) answers stays =
    let next : AnswersFrom (Some (a ∷ rest)) advice after = subst (λ (m : Option (List Advice)). AnswersFrom m advice after) told answers in
    (rest, is ∙ ap (λ (x : Advice). advices ++ x ∷ rest) (sym next.0) ∙ sym (append_assoc advices (advice ∷ []) rest), next.1)

longer : (before : Option (List Record)) (notes : List Record) (note : Record) → option_map (λ past. past ++ note ∷ []) (option_map (λ past. past ++ notes) before) ≡ option_map (λ past. past ++ (notes ++ note ∷ [])) before
longer None notes note = refl
longer (Some past) notes note = ap Some (append_assoc past notes (note ∷ []))

heard-more : (before mid after : Option (List Record)) (notes : List Record) (note : Record) (advice : Advice) → mid ≡ option_map (λ past. past ++ notes) before → HearsUnlessLeft mid note advice after → is_leave advice ≡ false → after ≡ option_map (λ past. past ++ (notes ++ note ∷ [])) before
heard-more before mid after notes note Go is hears stays = hears ∙ ap (option_map (λ past. past ++ note ∷ [])) is ∙ longer before notes note
heard-more before mid after notes note Pause is hears stays = hears ∙ ap (option_map (λ past. past ++ note ∷ [])) is ∙ longer before notes note
heard-more before mid after notes note Leave is hears stays = absurd (let e = stays in cc)

paused-once : (n : ℕ) (advice : Advice) → pauses_after n advice ≡ n + count_by is_pause (advice ∷ [])
paused-once n Go = omega arith
paused-once n Pause = refl
paused-once n Leave = omega arith

paused-more : (advices : List Advice) (advice : Advice) → count_by is_pause (advices ++ advice ∷ []) ≡ count_by is_pause advices + count_by is_pause (advice ∷ [])
paused-more advices advice = sum_by-append (λ a. cond (is_pause a) 1 0) advices (advice ∷ [])

any-one : (p : Advice → Bool) (advices : List Advice) (advice : Advice) → list_any p advices ≡ false → p advice ≡ false → list_any p (advices ++ advice ∷ []) ≡ false
any-one p advices advice none no_more = list_any-append p advices (advice ∷ []) ∙ (let e = none in let f = no_more in grind arith)

one-longer : {X : Type 0} (xs : List X) (x : X) → length (xs ++ x ∷ []) ≡ suc (length xs)
one-longer [] x = refl
one-longer (y ∷ xs) x = ap suc (one-longer xs x)

goes-on : (before mid after : Option (List Advice)) (advices : List Advice) (advice : Advice) (n : ℕ) → n ≡ length advices → list_any is_leave advices ≡ false → Gave before advices mid → AnswersFrom mid advice after
    → IfSome before (λ c. outlasts (suc n) c ≡ not (is_leave advice))
goes-on None mid after advices advice n size none gave answers = tt
goes-on (Some coming) mid after advices advice n size none (rest, is, told) answers =
    let next : AnswersFrom (Some rest) advice after = subst (λ (m : Option (List Advice)). AnswersFrom m advice after) told answers in
    let steps : suc n ≡ length advices + 1 = omega (arith, size) in
    ap (λ (m : ℕ). outlasts m coming) steps ∙ ap (outlasts (length advices + 1)) is ∙ outlasts-append advices rest 1 none ∙ outlasts_one rest ∙ ap (λ (a : Advice). not (is_leave a)) (sym next.0)

to-true : (before : Option (List Advice)) (n : ℕ) (advice : Advice) → is_leave advice ≡ false → IfSome before (λ c. outlasts n c ≡ not (is_leave advice)) → IfSome before (λ c. outlasts n c ≡ true)
to-true None n advice stays is = tt
to-true (Some coming) n advice stays is = is ∙ ap not stays

to-false : (before : Option (List Advice)) (n : ℕ) (advice : Advice) → is_leave advice ≡ true → IfSome before (λ c. outlasts n c ≡ not (is_leave advice)) → IfSome before (λ c. outlasts n c ≡ false)
to-false None n advice leaves is = tt
to-false (Some coming) n advice leaves is = is ∙ ap not leaves

ends-one : (advices : List Advice) (advice : Advice) → ends_paused (advices ++ advice ∷ []) ≡ is_pause advice
ends-one [] advice = refl
ends-one (a ∷ []) advice = refl
ends-one (a ∷ b ∷ rest) advice = ends-one (b ∷ rest) advice

early-one : (advices : List Advice) (advice : Advice) → list_any is_pause advices ≡ false → pauses_early (advices ++ advice ∷ []) ≡ false
early-one [] advice none = refl
early-one (Go ∷ []) advice none = refl
early-one (Pause ∷ []) advice none = absurd (let e = none in cc)
early-one (Leave ∷ []) advice none = refl
early-one (Go ∷ b ∷ rest) advice none = early-one (b ∷ rest) advice none
early-one (Pause ∷ b ∷ rest) advice none = absurd (let e = none in cc)
early-one (Leave ∷ b ∷ rest) advice none = early-one (b ∷ rest) advice none

-- with no Pause before the last advice, and none there, there is none
calm-whole : (advices : List Advice) → pauses_early advices ≡ false → ends_paused advices ≡ false → list_any is_pause advices ≡ false
calm-whole [] calm last = refl
calm-whole (Go ∷ []) calm last = refl
calm-whole (Pause ∷ []) calm last = absurd (let e = last in cc)
calm-whole (Leave ∷ []) calm last = refl
calm-whole (Go ∷ b ∷ rest) calm last = calm-whole (b ∷ rest) calm last
calm-whole (Pause ∷ b ∷ rest) calm last = absurd (let e = calm in cc)
calm-whole (Leave ∷ b ∷ rest) calm last = calm-whole (b ∷ rest) calm last

none-counted : (advices : List Advice) → list_any is_pause advices ≡ false → count_by is_pause advices ≡ 0
none-counted [] none = refl
none-counted (Go ∷ rest) none = sum_by-append (λ a. cond (is_pause a) 1 0) (Go ∷ []) rest ∙ (let e = none-counted rest none in omega (arith, e))
none-counted (Pause ∷ rest) none = absurd (let e = none in cc)
none-counted (Leave ∷ rest) none = sum_by-append (λ a. cond (is_pause a) 1 0) (Leave ∷ []) rest ∙ (let e = none-counted rest none in omega (arith, e))

pub Stays-more : (keep p : Bool) (notes : List Record) (note : Record) (advice : Advice) (w v u : Hearing) → (keep ≡ true → p ≡ false) → Stays keep notes p w v → Hears note v advice u → is_leave advice ≡ false
    → Stays keep (notes ++ note ∷ []) (is_pause advice) w u
Stays-more keep p notes note advice w v u goes s h stays =
    let size : length (s.advices ++ advice ∷ []) ≡ length (notes ++ note ∷ []) = one-longer s.advices advice ∙ ap suc s.as_many ∙ sym (one-longer notes note) in
    record {
      advices = s.advices ++ advice ∷ [];
      as_many = size;
      none_leaves = any-one is_leave s.advices advice s.none_leaves stays;
      coming = Gave-more w.coming v.coming u.coming s.advices advice s.coming h.coming stays;
      outlasting = to-true w.coming (length (notes ++ note ∷ [])) advice stays (subst (λ (n : ℕ). IfSome w.coming (λ c. outlasts n c ≡ not (is_leave advice))) (sym (one-longer notes note)) (goes-on w.coming v.coming u.coming s.advices advice (length notes) (sym s.as_many) s.none_leaves s.coming h.coming));
      heard = heard-more w.heard v.heard u.heard notes note advice s.heard h.heard stays;
      pauses = h.pauses ∙ ap (λ (n : ℕ). pauses_after n advice) s.pauses ∙ paused-once (w.pauses + count_by is_pause s.advices) advice ∙ (let e = paused-more s.advices advice in omega arith);
      calm = λ k. early-one s.advices advice (calm-whole s.advices (s.calm k) (sym s.last ∙ goes k));
      last = sym (ends-one s.advices advice);
    }

one-told : (notes : List Record) (note : Record) → ¬ (notes ++ note ∷ [] ≡ [])
one-told [] note none = cc
one-told (n ∷ notes) note none = cc

-- a watcher that paused at none of its records, and leaves now
calm-last : (before mid after : Option (List Advice)) (advices : List Advice) (advice : Advice) (n : ℕ) → n ≡ length advices → list_any is_leave advices ≡ false → list_any is_pause advices ≡ false → Gave before advices mid → AnswersFrom mid advice after → is_leave advice ≡ true
    → IfSome before (λ c. pauses_before_leaving (suc n) c ≡ false)
calm-last None mid after advices advice n size none calm gave answers leaves = tt
calm-last (Some coming) mid after advices advice n size none calm (rest, is, told) answers leaves =
    let next : AnswersFrom (Some rest) advice after = subst (λ (m : Option (List Advice)). AnswersFrom m advice after) told answers in
    let steps : suc n ≡ length advices + 1 = omega (arith, size) in
    ap (λ (m : ℕ). pauses_before_leaving m coming) steps ∙ ap (pauses_before_leaving (length advices + 1)) is ∙ calm-append advices rest 1 none calm ∙ calm-leaving rest (ap is_leave (sym next.0) ∙ leaves)

pub Goes-last : (keep p : Bool) (notes : List Record) (note : Record) (advice : Advice) (w v u : Hearing) → (keep ≡ true → p ≡ false) → Stays keep notes p w v → Hears note v advice u → is_leave advice ≡ true → Goes keep (notes ++ note ∷ []) w
Goes-last keep p notes note advice w v u goes s h leaves = record {
  told = one-told notes note;
  calm = λ k. subst (λ (n : ℕ). IfSome w.coming (λ c. pauses_before_leaving n c ≡ false)) (sym (one-longer notes note))
      (calm-last w.coming v.coming u.coming s.advices advice (length notes) (sym s.as_many) s.none_leaves (calm-whole s.advices (s.calm k) (sym s.last ∙ goes k)) s.coming h.coming leaves);
  leaving = to-false w.coming (length (notes ++ note ∷ [])) advice leaves (subst (λ (n : ℕ). IfSome w.coming (λ c. outlasts n c ≡ not (is_leave advice))) (sym (one-longer notes note)) (goes-on w.coming v.coming u.coming s.advices advice (length notes) (sym s.as_many) s.none_leaves s.coming h.coming));
}

ends-more : (before : Option (List Advice)) (n : ℕ) → IfSome before (λ c. outlasts n c ≡ false) → IfSome before (λ c. outlasts (suc n) c ≡ false)
ends-more None n is = tt
ends-more (Some coming) n is = outlasts-suc n coming is

calm-more : (before : Option (List Advice)) (n : ℕ) → IfSome before (λ c. outlasts n c ≡ false) → IfSome before (λ c. pauses_before_leaving n c ≡ false) → IfSome before (λ c. pauses_before_leaving (suc n) c ≡ false)
calm-more None n ends calm = tt
calm-more (Some coming) n ends calm = calm-suc n coming ends calm

pub Goes-more : (keep : Bool) (notes : List Record) (note : Record) (w : Hearing) → Goes keep notes w → Goes keep (notes ++ note ∷ []) w
Goes-more keep notes note w goes = record {
  told = one-told notes note;
  leaving = rw (one-longer notes note) (ends-more w.coming (length notes) goes.leaving);
  calm = λ k. rw (one-longer notes note) (calm-more w.coming (length notes) goes.leaving (goes.calm k));
}

both-false : (p q : Bool) → cond p true q ≡ false → (p ≡ false) × (q ≡ false)
both-false true q none = absurd (let e = none in cc)
both-false false q none = (refl, none)

pub Kept-none : (keep : Bool) (ws : List Hearing) → Kept keep [] false ws ws
Kept-none keep [] = Kept.no_more
Kept-none keep (w ∷ ws) = Kept.kept w w ws ws false false (Stays-none keep w) (Kept-none keep ws)

pub Kept-more : (keep : Bool) (notes : List Record) (note : Record) (p q : Bool) (ws vs us : List Hearing) → (keep ≡ true → p ≡ false) → Kept keep notes p ws vs → Tells note vs us q → Kept keep (notes ++ note ∷ []) q ws us
Kept-more keep notes note _ _ _ _ _ goes Kept.no_more Tells.nobody = Kept.no_more
Kept-more keep notes note _ q _ _ us goes (Kept.gone w ws vs p g past) told = Kept.gone w ws us q (Goes-more keep notes note w g) (Kept-more keep notes note p q ws vs us goes past told)
Kept-more keep notes note _ _ _ _ _ goes (Kept.kept w _ ws _ p paused s past) (Tells.stays v u advice vs us q stays h told) =
    Kept.kept w u ws us (is_pause advice) q (Stays-more keep p notes note advice w v u (λ k. (both-false p paused (goes k)).0) s h stays)
    (Kept-more keep notes note paused q ws vs us (λ k. (both-false p paused (goes k)).1) past told)
Kept-more keep notes note _ _ _ _ _ goes (Kept.kept w _ ws _ p paused s past) (Tells.leaves v u advice vs us q leaves h told) =
    Kept.gone w ws us q (Goes-last keep p notes note advice w v u (λ k. (both-false p paused (goes k)).0) s h leaves) (Kept-more keep notes note paused q ws vs us (λ k. (both-false p paused (goes k)).1) past told)

-- a session that nobody paused at its last record, and that kept its checkpoints, was never paused
pub Stays-unpaused : (notes : List Record) (w v : Hearing) → Stays true notes false w v → v.pauses ≡ w.pauses
Stays-unpaused notes w v s = s.pauses ∙ ap (λ (n : ℕ). w.pauses + n) (none-counted s.advices (calm-whole s.advices (s.calm refl) (sym s.last))) ∙ omega arith

paused-counted : (advices : List Advice) → ends_paused advices ≡ true → 0 < count_by is_pause advices
paused-counted [] last = absurd (let e = last in cc)
paused-counted (Go ∷ []) last = absurd (let e = last in cc)
paused-counted (Pause ∷ []) last = omega arith
paused-counted (Leave ∷ []) last = absurd (let e = last in cc)
paused-counted (a ∷ b ∷ rest) last =
    let Kept-more = sum_by-append (λ x. cond (is_pause x) 1 0) (a ∷ []) (b ∷ rest) in
    let later = paused-counted (b ∷ rest) last in
    omega (arith, Kept-more, later)

either-true : (p q : Bool) → cond p true q ≡ true → (p ≡ true) ⊎ (q ≡ true)
either-true true q e = inl refl
either-true false q e = inr e

contains-head : (w : Hearing) (ws : List Hearing) → Contains (w ∷ ws) w
contains-head w ws = (0, omega arith, refl)

contains-tail : (w : Hearing) (ws : List Hearing) (v : Hearing) → Contains ws v → Contains (w ∷ ws) v
contains-tail w ws v h = Contains-append_right (w ∷ []) ws v h

-- whoever paused the session at its last record is handed back, and has paused once Kept-more
pub Kept-paused : (keep : Bool) (notes : List Record) (paused : Bool) (ws vs : List Hearing) → Kept keep notes paused ws vs → paused ≡ true → (w v : Hearing) × Contains ws w × Contains vs v × (w.pauses < v.pauses)
Kept-paused keep notes _ _ _ Kept.no_more is = absurd (let e = is in cc)
Kept-paused keep notes _ _ _ (Kept.kept w v ws vs p paused s past) is =
    ⊎_elim (λ (e : p ≡ true). (let n = paused-counted s.advices (sym s.last ∙ e) in (w, v, contains-head w ws, contains-head v vs, omega (arith, n, s.pauses))))
    (λ (e : paused ≡ true). (let r = Kept-paused keep notes paused ws vs past e in (r.0, r.1, contains-tail w ws r.0 r.2, contains-tail v vs r.1 r.3, r.4)))
    (either-true p paused is)
Kept-paused keep notes _ _ _ (Kept.gone w ws vs paused g past) is = (let r = Kept-paused keep notes paused ws vs past is in (r.0, r.1, contains-tail w ws r.0 r.2, r.3, r.4))

only : (u v : Hearing) → Contains (u ∷ []) v → u ≡ v
only u v (zero, l, e) = e
only u v (suc k, l, e) = absurd (omega (arith, l))

-- if nobody did, and checkpoints are kept, nobody who is handed back has paused
pub Kept-unpaused : (notes : List Record) (paused : Bool) (ws vs : List Hearing) → Kept true notes paused ws vs → paused ≡ false → (v : Hearing) → Contains vs v → (w : Hearing) × Contains ws w × (v.pauses ≡ w.pauses)
Kept-unpaused notes _ _ _ Kept.no_more is v h = absurd (omega (arith, h.1))
Kept-unpaused notes _ _ _ (Kept.kept w u ws us p paused s past) is v h =
    let none = both-false p paused is in
    ⊎_elim (λ (e : Contains (u ∷ []) v). (w, contains-head w ws, ap (λ (x : Hearing). x.pauses) (sym (only u v e)) ∙ Stays-unpaused notes w u (subst (λ (b : Bool). Stays true notes b w u) none.0 s)))
    (λ (e : Contains us v). (let r = Kept-unpaused notes paused ws us past none.1 v e in (r.0, contains-tail w ws r.0 r.1, r.2)))
    (Contains-append_cases (u ∷ []) us v h)
Kept-unpaused notes _ _ _ (Kept.gone w ws vs paused g past) is v h = (let r = Kept-unpaused notes paused ws vs past is v h in (r.0, contains-tail w ws r.0 r.1, r.2))

once-counted : (advices : List Advice) → pauses_early advices ≡ false → ends_paused advices ≡ true → count_by is_pause advices ≡ 1
once-counted [] calm last = absurd (let e = last in cc)
once-counted (Go ∷ []) calm last = absurd (let e = last in cc)
once-counted (Pause ∷ []) calm last = refl
once-counted (Leave ∷ []) calm last = absurd (let e = last in cc)
once-counted (Go ∷ b ∷ rest) calm last = sum_by-append (λ a. cond (is_pause a) 1 0) (Go ∷ []) (b ∷ rest) ∙ (let e = once-counted (b ∷ rest) calm last in omega (arith, e))
once-counted (Pause ∷ b ∷ rest) calm last = absurd (let e = calm in cc)
once-counted (Leave ∷ b ∷ rest) calm last = sum_by-append (λ a. cond (is_pause a) 1 0) (Leave ∷ []) (b ∷ rest) ∙ (let e = once-counted (b ∷ rest) calm last in omega (arith, e))

-- a watcher that is handed back, where checkpoints are kept, has answered Pause to the last record alone
abbrev HasPaused : Bool → Hearing → Hearing → Type 0
HasPaused paused w v = (v.pauses ≡ w.pauses) ⊎ ((v.pauses ≡ w.pauses + 1) × (paused ≡ true))

Stays-once : (notes : List Record) (p : Bool) (w v : Hearing) → Stays true notes p w v → HasPaused p w v
Stays-once notes true w v s = inr (s.pauses ∙ ap (λ (n : ℕ). w.pauses + n) (once-counted s.advices (s.calm refl) (sym s.last)), refl)
Stays-once notes false w v s = inl (Stays-unpaused notes w v s)

paused-first : (p paused : Bool) (w v : Hearing) → HasPaused p w v → HasPaused (cond p true paused) w v
paused-first p paused w v (inl e) = inl e
paused-first true paused w v (inr e) = inr e
paused-first false paused w v (inr e) = absurd (let f = e.1 in cc)

paused-later : (p paused : Bool) (w v : Hearing) → HasPaused paused w v → HasPaused (cond p true paused) w v
paused-later p paused w v (inl e) = inl e
paused-later true paused w v (inr e) = inr (e.0, refl)
paused-later false paused w v (inr e) = inr e

pub Kept-once : (notes : List Record) (paused : Bool) (ws vs : List Hearing) → Kept true notes paused ws vs → (v : Hearing) → Contains vs v → (w : Hearing) × Contains ws w × ((v.pauses ≡ w.pauses) ⊎ ((v.pauses ≡ w.pauses + 1) × (paused ≡ true)))
Kept-once notes _ _ _ Kept.no_more v h = absurd (omega (arith, h.1))
Kept-once notes _ _ _ (Kept.kept w u ws us p paused s past) v h =
    ⊎_elim (λ (e : Contains (u ∷ []) v). (w, contains-head w ws, subst (λ (x : Hearing). HasPaused (cond p true paused) w x) (only u v e) (paused-first p paused w u (Stays-once notes p w u s))))
    (λ (e : Contains us v). (let r = Kept-once notes paused ws us past v e in (r.0, contains-tail w ws r.0 r.1, paused-later p paused r.0 v r.2)))
    (Contains-append_cases (u ∷ []) us v h)
Kept-once notes _ _ _ (Kept.gone w ws vs paused g past) v h = (let r = Kept-once notes paused ws vs past v h in (r.0, contains-tail w ws r.0 r.1, r.2))

no-advice : (advices : List Advice) → length advices ≡ 0 → ends_paused advices ≡ false
no-advice [] none = refl
no-advice (a ∷ advices) none = absurd (omega (arith, none))

pub Kept-silent : (keep paused : Bool) (ws vs : List Hearing) → Kept keep [] paused ws vs → paused ≡ false
Kept-silent keep _ _ _ Kept.no_more = refl
Kept-silent keep _ _ _ (Kept.kept w v ws vs p paused s past) = let mine : p ≡ false = s.last ∙ no-advice s.advices s.as_many in rw mine (Kept-silent keep paused ws vs past)
Kept-silent keep _ _ _ (Kept.gone w ws vs paused g past) = Kept-silent keep paused ws vs past

abbrev made : Option (List Record) → Option (List Advice) → ℕ → Hearing
made heard coming pauses = record { heard = heard; coming = coming; pauses = pauses }

Hearing-same : (w v : Hearing) → v.heard ≡ w.heard → v.coming ≡ w.coming → v.pauses ≡ w.pauses → v ≡ w
Hearing-same w v heard coming pauses = ap (λ (h : Option (List Record)). made h v.coming v.pauses) heard ∙ ap (λ (c : Option (List Advice)). made w.heard c v.pauses) coming ∙ ap (λ (n : ℕ). made w.heard w.coming n) pauses

-- no record, no advice
unheard : {A : Type 0} (advices : List Advice) (advice : Advice) → length (advice ∷ advices) ≡ 0 → A
unheard advices advice none = absurd (omega (arith, none))

still-coming : (before after : Option (List Advice)) → Gave before [] after → after ≡ before
still-coming None after gave = gave
still-coming (Some coming) after (rest, is, told) = told ∙ ap Some (sym is)

Stays-same : (keep p : Bool) (w v : Hearing) → Stays keep [] p w v → v ≡ w
Stays-same keep p w v s = by s.advices s.as_many s.coming s.pauses
  where
    by : (advices : List Advice) → length advices ≡ 0 → Gave w.coming advices v.coming → v.pauses ≡ w.pauses + count_by is_pause advices → v ≡ w
    by [] none gave counted = Hearing-same w v (s.heard ∙ sym (heard-none w.heard)) (still-coming w.coming v.coming gave) (counted ∙ omega arith)
    by (a ∷ advices) none gave counted = unheard advices a none

pub Kept-same : (keep paused : Bool) (ws vs : List Hearing) → Kept keep [] paused ws vs → vs ≡ ws
Kept-same keep _ _ _ Kept.no_more = refl
Kept-same keep _ _ _ (Kept.kept w v ws vs p paused s past) = ap (λ (x : Hearing). x ∷ vs) (Stays-same keep p w v s) ∙ ap (λ (l : List Hearing). w ∷ l) (Kept-same keep paused ws vs past)
Kept-same keep _ _ _ (Kept.gone w ws vs paused g past) = absurd (g.told refl)
