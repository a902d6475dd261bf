-- Cyclotomic sets: the numbers i q^j modulo n.
--   IsPower n q i x            x is one of them
--   IsMarked                   the marks that are set so far, and the number that comes next
--   marks_none, marks_step, marks_whole      none, one more, and all
--   missing, missing_set       how many are not marked: one fewer
--   IsCollected, collected_step, collected_over      the marked numbers, rising
--   members_told               the marked numbers are the cyclotomic set
use Rattle.std.proofs.Common.{◌≡◌, ℕ, zero, suc, ◌+◌, ◌*◌, ◌%◌, ◌^◌, ◌<◌, ◌↔◌, ◌⊎◌, inl, inr, ⊎_elim, Bool, true, false, true≢false, List, [], ◌∷◌, ◌++◌, length, get_or, set, replicate, Contains, refl, sym, ap, ◌∙◌, arith, mod-lt}
use Rattle.std.specs.List.Sorted.{IsStrictlyIncreasing}
use Rattle.std.proofs.Math.Nat.{pow-suc, pow-zero, mod-eq_of_lt}
use Rattle.std.proofs.lemmas.Bool.{cases_lt, cases_eq}
use Rattle.std.proofs.lemmas.Nat.{mul-mod_first}
use Rattle.std.proofs.lemmas.List.{get_or-set_same, get_or-set_other, get_or_push, get_or_append_left, length-set, length-append}
use Rattle.std.proofs.lemmas.List.Elements.{Contains-get_or, Contains-push, Contains-push_cases, Contains-append_left}
use Rattle.lc_algebra.specs.Embedding.{IsCyclotomicSet}

abbrev pub IsPower : ℕ → ℕ → ℕ → ℕ → Type 0
IsPower n q i x = (j : ℕ) × (x ≡ (i * q ^ j) % n)

pub record IsMarked (n q i : ℕ) (seen : List Bool) (x : ℕ) : Type 0 where
  pub long : length seen ≡ n
  pub inside : x < n
  pub powers : (y : ℕ) → get_or seen y false ≡ true → IsPower n q i y
  pub here : IsPower n q i x
  pub begins : (get_or seen i false ≡ true) ⊎ (x ≡ i)
  pub closed : (y : ℕ) → get_or seen y false ≡ true → (get_or seen (y * q % n) false ≡ true) ⊎ (x ≡ y * q % n)

unmarked : (n y : ℕ) → get_or (replicate n false) y false ≡ false
unmarked zero y = refl
unmarked (suc n) zero = refl
unmarked (suc n) (suc y) = unmarked n y

first_power : (n q i : ℕ) → i < n → IsPower n q i i
first_power n q i l =
    let e : i * q ^ 0 ≡ i = rw (pow-zero q) (omega arith) in
    (0, sym (ap (λ x. x % n) e ∙ mod-eq_of_lt l))

next_power : (n q i x : ℕ) → IsPower n q i x → IsPower n q i (x * q % n)
next_power n q i x (j, e) =
    let d : i * q ^ j * q ≡ i * q ^ suc j = rw (pow-suc q j) (omega arith) in
    (suc j, ap (λ y. y * q % n) e ∙ mul-mod_first (i * q ^ j) q n ∙ ap (λ y. y % n) d)

pub marks_none : (n q i : ℕ) (seen : List Bool) → length seen ≡ n → seen ≡ replicate n false → i < n → IsMarked n q i seen i
marks_none n q i seen l e k = record {
  long = l;
  inside = k;
  powers = λ y h. absurd (true≢false (sym h ∙ ap (λ s. get_or s y false) e ∙ unmarked n y));
  here = first_power n q i k;
  begins = inr refl;
  closed = λ y h. absurd (true≢false (sym h ∙ ap (λ s. get_or s y false) e ∙ unmarked n y));
}

pub marks_step : (n q i : ℕ) (seen : List Bool) (x : ℕ) → IsMarked n q i seen x → IsMarked n q i (set seen x true) (x * q % n)
marks_step n q i seen x h =
    let here : get_or (set seen x true) x false ≡ true = get_or-set_same seen x true false (omega (arith, h.long, h.inside)) in
    let keep : (y : ℕ) → get_or seen y false ≡ true → get_or (set seen x true) y false ≡ true = λ y t. ⊎_elim (λ e. ap (λ z. get_or (set seen x true) z false) e ∙ here) (λ d. get_or-set_other seen x y true false d ∙ t) (cases_eq y x) in
    record {
      long = length-set seen x true ∙ h.long;
      inside = mod-lt (x * q) (omega (arith, h.inside));
      powers = λ y t. ⊎_elim (λ e. rw e h.here) (λ d. h.powers y (sym (get_or-set_other seen x y true false d) ∙ t)) (cases_eq y x);
      here = next_power n q i x h.here;
      begins = inl (⊎_elim (λ t. keep i t) (λ e. ap (λ z. get_or (set seen x true) z false) (sym e) ∙ here) h.begins);
      closed = λ y t.
          ⊎_elim
          (λ e. inr (ap (λ z. z * q % n) (sym e)))
          (λ d. ⊎_elim (λ k. inl (keep (y * q % n) k)) (λ e. inl (ap (λ z. get_or (set seen x true) z false) (sym e) ∙ here)) (h.closed y (sym (get_or-set_other seen x y true false d) ∙ t)))
          (cases_eq y x);
    }

marked_power : (n q i : ℕ) (seen : List Bool) (x : ℕ) → IsMarked n q i seen x → i < n → get_or seen x false ≡ true → (j : ℕ) → get_or seen ((i * q ^ j) % n) false ≡ true
unfolding first_power next_power
marked_power n q i seen x h l t zero =
    let e : (i * q ^ 0) % n ≡ i = sym (first_power n q i l).1 in
    ap (λ z. get_or seen z false) e ∙ ⊎_elim (λ s. s) (λ s. ap (λ z. get_or seen z false) (sym s) ∙ t) h.begins
marked_power n q i seen x h l t (suc j) =
    let p = (i * q ^ j) % n in
    let e : (i * q ^ suc j) % n ≡ p * q % n = sym (next_power n q i p (j, refl)).1 in
    ap (λ z. get_or seen z false) e ∙ ⊎_elim (λ s. s) (λ s. ap (λ z. get_or seen z false) (sym s) ∙ t) (h.closed p (marked_power n q i seen x h l t j))

pub marks_whole : (n q i : ℕ) (seen : List Bool) (x : ℕ) → IsMarked n q i seen x → i < n → get_or seen x false ≡ true → (y : ℕ) → (get_or seen y false ≡ true) ↔ IsPower n q i y
marks_whole n q i seen x h l t y = (h.powers y, λ p. ap (λ z. get_or seen z false) p.1 ∙ marked_power n q i seen x h l t p.0)

unfoldable pub missing : List Bool → ℕ
missing [] = 0
missing (true ∷ s) = missing s
missing (false ∷ s) = suc (missing s)

pub missing_set : (s : List Bool) (x : ℕ) → x < length s → get_or s x false ≡ false → missing (set s x true) < missing s
unfolding missing
missing_set [] x l e = absurd (omega (arith, l))
missing_set (true ∷ s) zero l e = absurd (true≢false e)
missing_set (false ∷ s) zero l e = omega arith
missing_set (true ∷ s) (suc x) l e = missing_set s x (omega (arith, l)) e
missing_set (false ∷ s) (suc x) l e = let h : missing (set s x true) < missing s = missing_set s x (omega (arith, l)) e in omega (arith, h)

pub record IsCollected (seen : List Bool) (n : ℕ) (xs : List ℕ) : Type 0 where
  pub rises : IsStrictlyIncreasing xs
  pub below : (x : ℕ) → Contains xs x → x < n
  pub marked : (x : ℕ) → Contains xs x → get_or seen x false ≡ true
  pub all : (x : ℕ) → x < n → get_or seen x false ≡ true → Contains xs x

pub collected_step : (seen : List Bool) (n : ℕ) (xs ys : List ℕ) (y : ℕ) → IsCollected seen n xs → y ≡ n → get_or seen n false ≡ true → ys ≡ xs ++ y ∷ [] → IsCollected seen (n + 1) ys
collected_step seen n xs ys y h ey t e = rw (e, ey) record {
  rises = λ k l.
      let m : length (xs ++ n ∷ []) ≡ length xs + 1 = length-append xs (n ∷ []) in
      ⊎_elim
      (λ b. rw (get_or_append_left xs (n ∷ []) 0 k (omega (arith, b)), get_or_append_left xs (n ∷ []) 0 (k + 1) b) (h.rises k b))
      (λ b. let r : get_or (xs ++ n ∷ []) (k + 1) 0 ≡ n = get_or_push xs n 0 (k + 1) (omega (arith, b, l, m)) in rw (r, get_or_append_left xs (n ∷ []) 0 k (omega (arith, b, l, m))) (h.below (get_or xs k 0) (Contains-get_or xs k 0 (omega (arith, b, l, m)))))
      (cases_lt (k + 1) (length xs));
  below = λ x c. ⊎_elim (λ d. omega (arith, h.below x d)) (λ d. omega (arith, d)) (Contains-push_cases xs n x c);
  marked = λ x c. ⊎_elim (λ d. h.marked x d) (λ d. ap (λ z. get_or seen z false) (sym d) ∙ t) (Contains-push_cases xs n x c);
  all = λ x l s. ⊎_elim (λ d. rw d (Contains-push xs n)) (λ d. Contains-append_left xs (n ∷ []) x (h.all x (omega (arith, l, d)) s)) (cases_eq x n);
}

pub collected_over : (seen : List Bool) (n : ℕ) (xs : List ℕ) → IsCollected seen n xs → get_or seen n false ≡ false → IsCollected seen (n + 1) xs
collected_over seen n xs h t = record {
  rises = h.rises;
  below = λ x c. omega (arith, h.below x c);
  marked = h.marked;
  all = λ x l s. ⊎_elim (λ d. absurd (true≢false (sym s ∙ ap (λ z. get_or seen z false) d ∙ t))) (λ d. h.all x (omega (arith, l, d)) s) (cases_eq x n);
}

pub members_told : (n q i : ℕ) (seen : List Bool) (xs : List ℕ) → ((x : ℕ) → (get_or seen x false ≡ true) ↔ IsPower n q i x) → IsStrictlyIncreasing xs → ((x : ℕ) → Contains xs x ↔ (get_or seen x false ≡ true)) → IsCyclotomicSet n q i xs
members_told n q i seen xs h r m = record {
  rises = r;
  members = λ x. ((λ c. (h x).0 ((m x).0 c)), (λ p. (m x).1 ((h x).1 p)));
}
