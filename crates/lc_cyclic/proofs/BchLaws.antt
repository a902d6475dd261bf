-- BCH and Reed-Solomon codes by their forms.
--   powers_none, powers_more      powers, one after another
--   first_powers           the points are powers by the numbers below n
--   form_told              the form with these powers is that of the BCH code
--   locator_told           the field with the size that was found is the locator field
--   locator_there          and there is one
--   root_in_locator        n divides the number of its nonzero elements
--   bch_code               the code of the form is the BCH code
--   turned_power, zeros_modulo, whole_code      zeros at the powers from b on are those from b modulo n on
--   same_locator, kept_locator, kept_form      the locator field of the form that is kept
--   bch_refused_large, bch_refused_length, bch_refused_root, bch_refused_delta, bch_accepted      the first refusal
use Rattle.std.proofs.Common.{◌≡◌, ◌≢◌, ◌↔◌, ℕ, suc, ◌+◌, ◌-◌, ◌*◌, ◌/◌, ◌%◌, ◌≤◌, true, false, nat_lt, ◌||◌, List, [], ◌∷◌, ◌++◌, map, length, Option, Some, None, is_some, option_map, refl, sym, ap, ap₂, subst, ◌∙◌, arith}
use Rattle.std.proofs.Math.Nat.{mod-add-div}
use Rattle.std.proofs.lemmas.List.{map-append, length-map}
use Rattle.std.proofs.lemmas.Option.{same_Some, none-some}
use Rattle.lc_algebra.specs.declared.FieldName.{FieldName}
use Rattle.lc_algebra.specs.Field.{size, is_symbol, mul, pow}
use Rattle.lc_algebra.specs.Span.{below}
use Rattle.lc_algebra.specs.Matrix.{Matrix}
use Rattle.lc_algebra.proofs.EmbeddingLaws.{told_by_size}
use Rattle.lc_algebra.proofs.OrderLaws.{order_of_element, primitive_power}
use Rattle.lc_algebra.proofs.FieldLaws.{one_mul, pow_add, pow_inside}
use Rattle.lc_algebra.proofs.PowerLaws.{one_pow, pow_mul}
use Rattle.lc_algebra.proofs.SpanLaws.{length_below}
use Rattle.lc_constructions.specs.declared.refusal.CodeRefusal.TheVariants.{BadLength, NoRoot, BadDelta, FieldTooLarge}
use Rattle.lc_constructions.specs.Code.{is_length, IsCode}
use Rattle.lc_constructions.specs.Cyclic.{IsLocatorField, locator_field, root_of_unity, value_in, IsBchWord}
use Rattle.lc_constructions.specs.Alternant.{AlternantForm, syndrome_at, IsAlternantWord, bch_form}
use Rattle.lc_constructions.specs.Refusal.{refuse_if, first_refusal}
use Rattle.lc_constructions.specs.Refusals.{too_large, bad_length, bch_refusals}
use Rattle.lc_constructions.proofs.LocatorLaws.{locator_is}
use Rattle.lc_constructions.proofs.FormLaws.{bch_syndrome, bch_is_alternant}
use Rattle.lc_code.proofs.CodeLaws.{same_code}
use Rattle.lc_cyclic.specs.Powers.{powers}

pub powers_none : (K : FieldName) (x s : ℕ) → [] ≡ powers K x s 0
unfolding powers below
powers_none K x s = refl

one_more : (f : ℕ → ℕ) (i : ℕ) → map f (below i) ++ f i ∷ [] ≡ map f (below (suc i))
unfolding below
one_more f i = sym (map-append f (below i) (i ∷ []))

pub powers_more : (K : FieldName) (x s i v : ℕ) (old new : List ℕ) → v ≡ pow K x (i * s) → old ≡ powers K x s i → new ≡ old ++ v ∷ [] → new ≡ powers K x s (i + 1)
unfolding powers
powers_more K x s i v old new e o n =
    let d : suc i ≡ i + 1 = omega arith in
    let f : ℕ → ℕ = λ i. pow K x (i * s) in
    n ∙ ap₂ (λ u a. u ++ a ∷ []) o e ∙ one_more f i ∙ ap (λ k. map f (below k)) d

first_powers : (K : FieldName) (x : ℕ) (is : List ℕ) → map (λ i. pow K x (i * 1)) is ≡ map (pow K x) is
first_powers K x [] = refl
first_powers K x (i ∷ is) = let e : i * 1 ≡ i = omega arith in ap₂ (λ a t. pow K x a ∷ t) e (first_powers K x is)

form_from : FieldName → List ℕ → List ℕ → ℕ → AlternantForm
form_from K xs ys r = record { locator = K; points = xs; multipliers = ys; r = r }

pub form_told : (K : FieldName) (n b d x : ℕ) (form : AlternantForm) → form.locator ≡ K → x ≡ root_of_unity K n → form.points ≡ powers K x 1 n → form.multipliers ≡ powers K x b n → form.r ≡ d - 1 → form ≡ bch_form K n b d
unfolding bch_form powers form_from
form_told K n b d x form e q p m r =
    let p2 : form.points ≡ map (pow K (root_of_unity K n)) (below n) = p ∙ first_powers K x (below n) ∙ ap (λ y. map (pow K y) (below n)) q in
    let m2 : form.multipliers ≡ map (λ i. pow K (root_of_unity K n) (i * b)) (below n) = m ∙ ap (λ y. map (λ i. pow K y (i * b)) (below n)) q in
    ap (λ k. form_from k form.points form.multipliers form.r) e ∙ ap (λ u. form_from K u form.multipliers form.r) p2 ∙ ap (λ u. form_from K (map (pow K (root_of_unity K n)) (below n)) u form.r) m2
    ∙ ap (form_from K (map (pow K (root_of_unity K n)) (below n)) (map (λ i. pow K (root_of_unity K n) (i * b)) (below n))) r

sized : (o : Option FieldName) (q : ℕ) (K : FieldName) → option_map size o ≡ Some q → size K ≡ q → o ≡ Some K
sized None q K h e = absurd (none-some q h)
sized (Some L) q K h e = ap Some (told_by_size L K (same_Some (size L) q h ∙ sym e))

pub locator_told : (f K : FieldName) (n q : ℕ) → 1 ≤ n → option_map size (locator_field f n) ≡ Some q → size K ≡ q → IsLocatorField f n K
locator_told f K n q l h e = (locator_is f n K l).0 (sized (locator_field f n) q K h e)

there : (o : Option FieldName) (q : ℕ) → option_map size o ≡ Some q → ((K : FieldName) → size K ≡ q → ⊥) → ⊥
there None q h k = none-some q h
there (Some L) q h k = k L (same_Some (size L) q h)

pub locator_there : (f : FieldName) (n q : ℕ) → option_map size (locator_field f n) ≡ Some q → ((K : FieldName) → size K ≢ q) → ⊥
locator_there f n q h k = there (locator_field f n) q h k

pub root_in_locator : (f K : FieldName) (n : ℕ) → IsLocatorField f n K → (size K - 1) % n ≡ 0
root_in_locator f K n h = let (b, o) = h.order in order_of_element K b n o

bch_parts : (K : FieldName) (n b d : ℕ) → ((bch_form K n b d).locator ≡ K) × (length (bch_form K n b d).points ≡ n)
unfolding bch_form
bch_parts K n b d = (refl, length-map (below n) (pow K (root_of_unity K n)) ∙ length_below n)

pub same_locator : (K : FieldName) (n b d : ℕ) (form kept : AlternantForm) → form ≡ bch_form K n b d → kept ≡ form → K ≡ kept.locator
same_locator K n b d form kept e k = sym (ap (λ (v : AlternantForm). v.locator) (k ∙ e) ∙ (bch_parts K n b d).0)

pub bch_code : (f K : FieldName) (n b d : ℕ) (form : AlternantForm) (C : Matrix) → form ≡ bch_form K n b d → IsCode f (length form.points) (IsAlternantWord f form) C → IsCode f n (IsBchWord f K n b d) C
bch_code f K n b d form C e c =
    let m : length form.points ≡ n = ap (λ (v : AlternantForm). length v.points) e ∙ (bch_parts K n b d).1 in
    same_code f n (IsAlternantWord f form) (IsBchWord f K n b d) C
    (λ w k. let t = bch_is_alternant f K n b d w k.long in ((λ a. t.1 (subst (λ v. IsAlternantWord f v w) e a)), (λ z. subst (λ v. IsAlternantWord f v w) (sym e) (t.0 z))))
    (subst (λ k. IsCode f k (IsAlternantWord f form) C) m c)

-- ---- refusals

pub bch_refused_large : (f : FieldName) (n d : ℕ) → is_symbol f ≡ false → first_refusal (bch_refusals f n d) ≡ Some FieldTooLarge
unfolding first_refusal refuse_if too_large bch_refusals
bch_refused_large f n d a = rw a refl

pub bch_refused_length : (f : FieldName) (n d : ℕ) → is_symbol f ≡ true → is_length n ≡ false → first_refusal (bch_refusals f n d) ≡ Some BadLength
unfolding first_refusal refuse_if too_large bad_length bch_refusals
bch_refused_length f n d a b = rw (a, b) refl

not_found : (o : Option FieldName) → None ≡ option_map size o → is_some o ≡ false
not_found None h = refl
not_found (Some K) h = absurd (none-some (size K) h)

found : (o : Option FieldName) (q : ℕ) → Some q ≡ option_map size o → is_some o ≡ true
found None q h = absurd (none-some q (sym h))
found (Some K) q h = refl

pub bch_refused_root : (f : FieldName) (n d : ℕ) → is_symbol f ≡ true → is_length n ≡ true → None ≡ option_map size (locator_field f n) → first_refusal (bch_refusals f n d) ≡ Some NoRoot
unfolding first_refusal refuse_if too_large bad_length bch_refusals
bch_refused_root f n d a b h = let t : is_some (locator_field f n) ≡ false = not_found (locator_field f n) h in rw (a, b, t) refl

pub bch_refused_delta : (f : FieldName) (n d q : ℕ) → is_symbol f ≡ true → is_length n ≡ true → Some q ≡ option_map size (locator_field f n) → (nat_lt n d || nat_lt d 2) ≡ true → first_refusal (bch_refusals f n d) ≡ Some BadDelta
unfolding first_refusal refuse_if too_large bad_length bch_refusals
bch_refused_delta f n d q a b h e = let t : is_some (locator_field f n) ≡ true = found (locator_field f n) q h in rw (a, b, t, e) refl

pub bch_accepted : (f : FieldName) (n d q : ℕ) → is_symbol f ≡ true → is_length n ≡ true → Some q ≡ option_map size (locator_field f n) → (nat_lt n d || nat_lt d 2) ≡ false → first_refusal (bch_refusals f n d) ≡ None
unfolding first_refusal refuse_if too_large bad_length bch_refusals
bch_accepted f n d q a b h e = let t : is_some (locator_field f n) ≡ true = found (locator_field f n) q h in rw (a, b, t, e) refl

pub kept_locator : (f K : FieldName) (n b d : ℕ) (form kept : AlternantForm) → form ≡ bch_form K n b d → kept ≡ form → IsLocatorField f n K → IsLocatorField f n kept.locator
kept_locator f K n b d form kept e k h = subst (IsLocatorField f n) (same_locator K n b d form kept e k) h

pub kept_form : (K : FieldName) (n b d : ℕ) (form kept : AlternantForm) → form ≡ bch_form K n b d → kept ≡ form → kept ≡ bch_form kept.locator n b d
kept_form K n b d form kept e k = k ∙ e ∙ ap (λ L. bch_form L n b d) (same_locator K n b d form kept e k)

turned_power : (K : FieldName) (x n b j : ℕ) → pow K x n ≡ 1 → pow K x (b + j) ≡ pow K x (b % n + j)
turned_power K x n b j h =
    let e : b + j ≡ n * (b / n) + (b % n + j) = omega (arith, mod-add-div b n) in
    ap (pow K x) e ∙ pow_add K x (n * (b / n)) (b % n + j)
    ∙ ap (λ y. mul K y (pow K x (b % n + j))) (pow_mul K x n (b / n) ∙ ap (λ y. pow K y (b / n)) h ∙ one_pow K (b / n))
    ∙ one_mul K (pow K x (b % n + j)) (pow_inside K x (b % n + j))

pub root_power : (K : FieldName) (n : ℕ) → 1 ≤ n → (size K - 1) % n ≡ 0 → pow K (root_of_unity K n) n ≡ 1
unfolding root_of_unity
root_power K n l e = (primitive_power K n l e).one

same_syndrome : (f K : FieldName) (n b d : ℕ) (w : List ℕ) (j : ℕ) → 1 ≤ n → (size K - 1) % n ≡ 0 → length w ≡ n → syndrome_at f (bch_form K n b d) w j ≡ syndrome_at f (bch_form K n (b % n) d) w j
same_syndrome f K n b d w j l e m =
    bch_syndrome f K n b d w j m ∙ ap (value_in f K w) (turned_power K (root_of_unity K n) n b j (root_power K n l e)) ∙ sym (bch_syndrome f K n (b % n) d w j m)

same_words : (f K : FieldName) (n b d : ℕ) (w : List ℕ) → 1 ≤ n → (size K - 1) % n ≡ 0 → length w ≡ n → IsAlternantWord f (bch_form K n (b % n) d) w ↔ IsAlternantWord f (bch_form K n b d) w
unfolding bch_form
same_words f K n b d w l e m =
    ((λ h j k. same_syndrome f K n b d w j l e m ∙ h j k), (λ h j k. sym (same_syndrome f K n b d w j l e m) ∙ h j k))

pub zeros_modulo : (f K : FieldName) (n b d : ℕ) (w : List ℕ) → 1 ≤ n → (size K - 1) % n ≡ 0 → length w ≡ n → IsBchWord f K n (b % n) d w ↔ IsBchWord f K n b d w
zeros_modulo f K n b d w l e m =
    let p = bch_is_alternant f K n (b % n) d w m in
    let q = bch_is_alternant f K n b d w m in
    let r = same_words f K n b d w l e m in
    ((λ h. q.1 (r.0 (p.0 h))), (λ h. p.1 (r.1 (q.0 h))))

pub whole_code : (f K : FieldName) (n b d : ℕ) (C : Matrix) → 1 ≤ n → IsLocatorField f n K → IsCode f n (IsBchWord f K n (b % n) d) C → IsCode f n (IsBchWord f K n b d) C
whole_code f K n b d C l h c =
    same_code f n (IsBchWord f K n (b % n) d) (IsBchWord f K n b d) C (λ w k. zeros_modulo f K n b d w l (root_in_locator f K n h) k.long) c

pub ruleset check_bch_laws = (bch_refused_large, bch_refused_length, bch_refused_root, bch_refused_delta, bch_accepted)
