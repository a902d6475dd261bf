-- How the items of a list are asked one after the other.
--   Carries R s all t front back paused    however the items `back` are asked from t on, all are so from s on, after `front`
--   Halfway R s all t now next paused      so it is for the items that are there now, from the next one on
--   one_stays, one_leaves                  after one more
--   asked_all                              after the last
--   told_by                                watchers that are asked by a call that tells them a record are told it
use Rattle.std.proofs.Common.{◌≡◌, ℕ, suc, ◌+◌, ◌<◌, ◌≤◌, Bool, true, false, cond, List, [], ◌∷◌, ◌++◌, map, length, set, get_or, take, drop, refl, sym, ap, ap₂, ◌∙◌, subst, arith, append_assoc}
use Rattle.std.specs.Borrow.{Bor, MutBor}
use Rattle.std.specs.List.{remove}
use Rattle.std.proofs.Math.Seq.{take-suc-set, drop-cons}
use Rattle.std.proofs.Math.ListN.{drop_of_length-le}
use Rattle.std.proofs.lemmas.List.{append-nil, take-set, drop-set-lt, take_at, take_all, length-take-le}
use Rattle.std.proofs.Math.Seq.{drop-append_seam}
use Rattle.lc_io.specs.declared.watcher.Record.{Record}
use Rattle.lc_io.specs.declared.watcher.Advice.{Advice}
use Rattle.lc_io.specs.Watchers.{Hearing, Hears, Tells, is_leave, is_pause}
use Rattle.lc_search.specs.Telling.{AsksInTurn, IsAskedBy}

pub record Carries {S X : Type 0} (R : S → X → Advice → S → X → Type 0) (s : S) (all : List X) (t : S) (front back : List X) (paused : Bool) : Type 0 where
  pub carry : (rest : List X) (p : Bool) → AsksInTurn R t back rest p → AsksInTurn R s all (front ++ rest) (cond paused true p)

either_pause : (a b p : Bool) → cond a true (cond b true p) ≡ cond (cond a true b) true p
either_pause true b p = refl
either_pause false b p = refl

abbrev pub Halfway : {S X : Type 0} → (S → X → Advice → S → X → Type 0) → S → List X → S → List X → ℕ → Bool → Type 0
Halfway R s all t now next paused = Carries R s all t (take next now) (drop next now) paused

module _ {S X : Type 0} (R : S → X → Advice → S → X → Type 0) (s : S) (all : List X) where
  carry_one : (t u : S) (front back : List X) (paused : Bool) (x y : X) (advice : Advice) → is_leave advice ≡ false → R t x advice u y → Carries R s all t front (x ∷ back) paused
      → Carries R s all u (front ++ y ∷ []) back (cond paused true (is_pause advice))
  carry_one t u front back paused x y advice e asked h = record {
    carry = λ rest p a.
        let one = h.carry (y ∷ rest) (cond (is_pause advice) true p) (AsksInTurn.stays t u x y advice back rest p e asked a) in
        subst (λ l. AsksInTurn R s all l (cond (cond paused true (is_pause advice)) true p)) (sym (append_assoc front (y ∷ []) rest))
        (subst (AsksInTurn R s all (front ++ y ∷ rest)) (either_pause paused (is_pause advice) p) one);
  }

  carry_none : (t u : S) (front back : List X) (paused : Bool) (x y : X) (advice : Advice) → is_leave advice ≡ true → R t x advice u y → Carries R s all t front (x ∷ back) paused
      → Carries R s all u front back paused
  carry_none t u front back paused x y advice e asked h = record { carry = λ rest p a. h.carry rest p (AsksInTurn.leaves t u x y advice back rest p e asked a) }

  module _ (t u : S) (now : List X) (next : ℕ) (paused : Bool) where
    -- the next item stays, as it is after the call
    pub one_stays : (x y : X) (advice : Advice) (p : Bool) → Halfway R s all t now next paused → next < length now → x ≡ get_or now next x → is_leave advice ≡ false → R t x advice u y
        → cond paused true (is_pause advice) ≡ p → Halfway R s all u (set now next y) (next + 1) p
    one_stays x y advice p h l is e asked f =
        let parted : drop next now ≡ x ∷ drop (suc next) now = drop-cons now next x l ∙ ap (λ z. z ∷ drop (suc next) now) (sym is) in
        let k = carry_one t u (take next now) (drop (suc next) now) paused x y advice e asked (subst (λ b. Carries R s all t (take next now) b paused) parted h) in
        let front : take (suc next) (set now next y) ≡ take next now ++ y ∷ [] = take-suc-set now next y l in
        let back : drop (suc next) (set now next y) ≡ drop (suc next) now = drop-set-lt (suc next) now next y (omega arith) in
        let after : suc next ≡ next + 1 = omega arith in
        subst (λ n. Halfway R s all u (set now next y) n p) after
        (subst (Halfway R s all u (set now next y) (suc next)) f
        (subst (λ f. Carries R s all u f (drop (suc next) (set now next y)) (cond paused true (is_pause advice))) (sym front)
        (subst (λ b. Carries R s all u (take next now ++ y ∷ []) b (cond paused true (is_pause advice))) (sym back) k)))

    -- the next item leaves
    pub one_leaves : (x y : X) (advice : Advice) → Halfway R s all t now next paused → next < length now → x ≡ get_or now next x → is_leave advice ≡ true → R t x advice u y
        → Halfway R s all u (remove (set now next y) next) next paused
    one_leaves x y advice h l is e asked =
        let parted : drop next now ≡ x ∷ drop (suc next) now = drop-cons now next x l ∙ ap (λ z. z ∷ drop (suc next) now) (sym is) in
        let k = carry_none t u (take next now) (drop (suc next) now) paused x y advice e asked (subst (λ b. Carries R s all t (take next now) b paused) parted h) in
        let back : drop (suc next) (set now next y) ≡ drop (suc next) now = drop-set-lt (suc next) now next y (omega arith) in
        let front : take next (set now next y) ≡ take next now = take-set now next y in
        let few : next ≡ length (take next now) = sym (length-take-le next now (omega arith)) in
        let removed : remove (set now next y) next ≡ take next now ++ drop (suc next) now = ap₂ ◌++◌ front back in
        let first : take next (take next now ++ drop (suc next) now) ≡ take next now = take_at (take next now) (drop (suc next) now) next (sym few) in
        let last : drop next (take next now ++ drop (suc next) now) ≡ drop (suc next) now = subst (λ n. drop n (take next now ++ drop (suc next) now) ≡ drop (suc next) now) (sym few) (drop-append_seam (take next now) (drop (suc next) now)) in
        subst (λ v. Halfway R s all u v next paused) (sym removed)
        (subst (λ f. Carries R s all u f (drop next (take next now ++ drop (suc next) now)) paused) (sym first)
        (subst (λ b. Carries R s all u (take next now) b paused) (sym last) k))

  pub asked_all : (t : S) (now : List X) (next : ℕ) (paused : Bool) → Halfway R s all t now next paused → length now ≤ next → AsksInTurn R s all now paused
  asked_all t now next paused h l =
      let none : drop next now ≡ [] = drop_of_length-le now l in
      let whole : take next now ≡ now = take_all next now l in
      let a = h.carry [] false (subst (λ b. AsksInTurn R t b [] false) (sym none) (AsksInTurn.nobody t)) in
      subst (AsksInTurn R s all now) (flag paused)
      (subst (λ f. AsksInTurn R s all f (cond paused true false)) (append-nil (take next now) ∙ whole) a)
    where
      flag : (p : Bool) → cond p true false ≡ p
      flag true = refl
      flag false = refl

pub nobody_yet : {S X : Type 0} (R : S → X → Advice → S → X → Type 0) (s : S) (all : List X) → Halfway R s all s all 0 false
nobody_yet R s all = record { carry = λ rest p a. a }

pub asked_once : {F T : Type 0} (step : F → MutBor T → Bor Record → Advice → MutBor T → F → Type 0) {f f' : F} {x y : MutBor T} {note : Bor Record} {advice : Advice} → step f x note advice y f' → IsAskedBy step note.now f x.now advice f' y.now
asked_once step {f} {f'} {x} {y} {note} {advice} called = record { shown = x; shows = refl; told = note; tells = refl; returned = y; called = called; leaves = refl }

pub told_by : {S X : Type 0} (note : Record) (hear : X → Hearing) (R : S → X → Advice → S → X → Type 0) → ((s : S) (x : X) (advice : Advice) (t : S) (y : X) → R s x advice t y → Hears note (hear x) advice (hear y))
    → (s : S) (xs ys : List X) (paused : Bool) → AsksInTurn R s xs ys paused → Tells note (map hear xs) (map hear ys) paused
told_by note hear R step s xs ys paused (AsksInTurn.nobody _) = Tells.nobody
told_by note hear R step s xs ys paused (AsksInTurn.stays _ t x y advice more left p e asked a) = Tells.stays (hear x) (hear y) advice (map hear more) (map hear left) p e (step s x advice t y asked) (told_by note hear R step t more left p a)
told_by note hear R step s xs ys paused (AsksInTurn.leaves _ t x y advice more left p e asked a) = Tells.leaves (hear x) (hear y) advice (map hear more) (map hear left) p e (step s x advice t y asked) (told_by note hear R step t more left p a)

pub flag_kept : (p : Bool) → cond p true false ≡ p
flag_kept true = refl
flag_kept false = refl

pub flag_set : (p : Bool) → cond p true true ≡ true
flag_set true = refl
flag_set false = refl
