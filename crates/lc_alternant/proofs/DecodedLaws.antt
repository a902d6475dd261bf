-- What a candidate says about decoding.
--   reach_half           twice the number of errors that are corrected is at most the number of checks
--   reach_few            and that number is at most 255
--   reach_whole, reach_within      a word of the code is within half of the checks if and only if it is within the reach
--   few_zeros, few_told  the values of a key polynomial are 0 at few points
--   near_found, near_told      the errors of a word within the reach
--   found_back           and that word, back from them
--   decoded_some, decoded_far, decoded_none      what decoding answers
--   difference_is        a word less another is its sum with a multiple of the other
use Rattle.std.proofs.Common.{◌≡◌, ℕ, ◌*◌, ◌/◌, ◌≤◌, Option, Some, None, List, length, map, take, refl, sym, ap, ap₂, subst, ◌∙◌, arith}
use Rattle.std.proofs.Math.Nat.{mul-div-le}
use Rattle.std.proofs.lemmas.List.{length-take}
use Rattle.lc_algebra.specs.declared.FieldName.{FieldName}
use Rattle.lc_algebra.specs.Field.{neg}
use Rattle.lc_algebra.specs.Embedding.{embed}
use Rattle.lc_algebra.specs.Word.{IsWord, word_sum, scale, difference}
use Rattle.lc_algebra.specs.Matrix.{Matrix}
use Rattle.lc_algebra.proofs.FieldLaws.{one_inside}
use Rattle.lc_algebra.proofs.WordLaws.{IsWord_difference, weight_at_most_length}
use Rattle.lc_algebra.proofs.DimensionLaws.{distinct_from_pairs}
use Rattle.lc_constructions.specs.Alternant.{AlternantForm, IsForm, IsFormOf}
use Rattle.lc_constructions.specs.Nearest.{IsWithin, IsDecoded}
use Rattle.lc_constructions.proofs.AlternantLaws.{embedded_length, embedded_fits}
use Rattle.lc_code.proofs.CoordinateSteps.{form_length}
use Rattle.lc_alternant.specs.Checks.{AreSyndromes, IsReach}
use Rattle.lc_alternant.specs.Key.{AreKeyValues}
use Rattle.lc_alternant.specs.Chosen.{chosen, HasSums, IsZeroBut}
use Rattle.lc_alternant.proofs.KeyPolynomials.{few_chosen}
use Rattle.lc_alternant.proofs.ErrorLaws.{errors, near_zero, near_sums}

pub reach_half : (form : AlternantForm) (t : ℕ) → IsReach form t → 2 * t ≤ form.r
reach_half form t e = omega (arith, e, mul-div-le form.r 2)

pub reach_few : (f : FieldName) (form : AlternantForm) (t : ℕ) → IsForm f form → IsReach form t → t ≤ 255
reach_few f form t h e = omega (arith, e, (form_length f form h).1)

reach_whole : (C : Matrix) (form : AlternantForm) (x u : List ℕ) (t : ℕ) → IsFormOf C form → IsWord C.field C.columns x → IsReach form t → IsWithin C x (form.r / 2) u → IsWithin C x t u
reach_whole C form x u t h a e w =
    let d : IsWord C.field C.columns (difference C.field x u) = IsWord_difference C.field C.columns x u a.long ((h.words u).0 w.0).0.long in
    (w.0, omega (arith, w.1, e, weight_at_most_length (difference C.field x u), d.long, h.length_is))

reach_within : (C : Matrix) (form : AlternantForm) (x u : List ℕ) (t : ℕ) → IsReach form t → IsWithin C x t u → IsWithin C x (form.r / 2) u
reach_within C form x u t e w = (w.0, omega (arith, w.1, e))

pub few_zeros : (f : FieldName) (form : AlternantForm) (t : ℕ) (s vs : List ℕ) → IsForm f form → AreKeyValues form.locator t s form.points vs → length s ≡ 2 * t → length (chosen vs form.points) ≤ length (take t s)
few_zeros f form t s vs h k e = omega (arith, few_chosen form.locator t s form.points vs h.points (distinct_from_pairs form.points h.distinct) k, length-take t s, e)

pub near_found : (C : Matrix) (form : AlternantForm) (x u s vs : List ℕ) (t : ℕ) (o : Option (List ℕ)) → IsFormOf C form → IsWord C.field C.columns x → IsReach form t → AreSyndromes C.field form x (2 * t) s → AreKeyValues form.locator t s form.points vs
    → ((z : List ℕ) → IsWord form.locator (length form.points) z → IsZeroBut vs z → HasSums form.locator form.points form.multipliers z (take t s) → o ≡ Some z)
    → IsWithin C x t u → o ≡ Some (map (embed C.field form.locator) (difference C.field x u))
near_found C form x u s vs t o h a e y k q w =
    let d : IsWord C.field C.columns (difference C.field x u) = IsWord_difference C.field C.columns x u a.long ((h.words u).0 w.0).0.long in
    let z = errors C.field form.locator x u in
    let half = reach_half form t e in
    q z
    (record { long = embedded_length C.field form.locator (difference C.field x u) ∙ d.long ∙ sym h.length_is; fits = embedded_fits C.field form.locator (difference C.field x u) })
    (near_zero C form x u s vs t h a w half y k)
    (near_sums C form x u s t h a w.0 half y)

pub near_told : (C : Matrix) (form : AlternantForm) (x u s vs ps xs ys ws : List ℕ) (t : ℕ) (o : Option (List ℕ)) → IsFormOf C form → IsWord C.field C.columns x → IsReach form t → AreSyndromes C.field form x (2 * t) s → AreKeyValues form.locator t s ps vs → ps ≡ form.points → xs ≡ form.points → ys ≡ form.multipliers → ws ≡ vs
    → ((z : List ℕ) → IsWord form.locator (length xs) z → IsZeroBut ws z → HasSums form.locator xs ys z (take t s) → o ≡ Some z)
    → IsWithin C x t u → o ≡ Some (map (embed C.field form.locator) (difference C.field x u))
near_told C form x u s vs ps xs ys ws t o h a e y k d1 d2 d3 d4 q w =
    let K = form.locator in
    near_found C form x u s vs t o h a e y (subst (λ v. AreKeyValues K t s v vs) d1 k)
    (λ z b i p.
    q z (subst (λ v. IsWord K (length v) z) (sym d2) b) (subst (λ v. IsZeroBut v z) (sym d4) i)
    (subst (λ v. HasSums K v ys z (take t s)) (sym d2) (subst (λ v. HasSums K form.points v z (take t s)) (sym d3) p)))
    w

pub few_told : (f : FieldName) (form : AlternantForm) (t : ℕ) (s vs ps xs ws : List ℕ) → IsForm f form → AreKeyValues form.locator t s ps vs → length s ≡ 2 * t → ps ≡ form.points → xs ≡ form.points → ws ≡ vs → length (chosen ws xs) ≤ length (take t s)
few_told f form t s vs ps xs ws h k e d1 d2 d3 =
    omega (arith, few_zeros f form t s vs h (subst (λ v. AreKeyValues form.locator t s v vs) d1 k) e, ap length (ap₂ chosen d3 d2))

pub found_back : (C : Matrix) (form : AlternantForm) (x u errors symbols : List ℕ) (t : ℕ) (o near : Option (List ℕ)) (f : FieldName) → IsFormOf C form → IsWord C.field C.columns x → o ≡ Some errors → o ≡ Some (map (embed C.field form.locator) (difference C.field x u)) → symbols ≡ errors → f ≡ C.field
    → ((v : List ℕ) → IsWord f (length x) v → symbols ≡ map (embed f form.locator) (difference f x v) → near ≡ Some v) → IsWithin C x t u → near ≡ Some u
found_back C form x u errors symbols t o near f h a n d e g q w =
    let E = map (embed C.field form.locator) (difference C.field x u) in
    let k : errors ≡ E = cc (n, d) in
    let word : IsWord C.field (length x) u = subst (λ m. IsWord C.field m u) (sym a.long) ((h.words u).0 w.0).0 in
    q u (subst (λ i. IsWord i (length x) u) (sym g) word) (subst (λ i. symbols ≡ map (embed i form.locator) (difference i x u)) (sym g) (e ∙ k))

pub decoded_some : (C : Matrix) (form : AlternantForm) (x w : List ℕ) (t : ℕ) → IsFormOf C form → IsWord C.field C.columns x → IsReach form t → ((u : List ℕ) → IsWithin C x t u → Some w ≡ Some u) → IsWithin C x t w → IsDecoded C form x (Some w)
decoded_some C form x w t h a e q i = (reach_within C form x w t e i, λ v k. let s : Some w ≡ Some v = q v (reach_whole C form x v t h a e k) in cc s)

pub decoded_far : (C : Matrix) (form : AlternantForm) (x w : List ℕ) (t : ℕ) → IsFormOf C form → IsWord C.field C.columns x → IsReach form t → ((u : List ℕ) → IsWithin C x t u → Some w ≡ Some u) → (IsWithin C x t w → ⊥) → IsDecoded C form x None
decoded_far C form x w t h a e q n = λ v k.
    let i : IsWithin C x t v = reach_whole C form x v t h a e k in
    let s : Some w ≡ Some v = q v i in
    let r : v ≡ w = cc s in
    n (subst (IsWithin C x t) r i)

pub decoded_none : (C : Matrix) (form : AlternantForm) (x : List ℕ) (t : ℕ) (o : Option (List ℕ)) → o ≡ None → IsFormOf C form → IsWord C.field C.columns x → IsReach form t → ((u : List ℕ) → IsWithin C x t u → o ≡ Some u) → IsDecoded C form x None
decoded_none C form x t o n h a e q = λ v k.
    let s : o ≡ Some v = q v (reach_whole C form x v t h a e k) in
    absurd (cc (n, s))

pub difference_is : (f : FieldName) (u v : List ℕ) → difference f u v ≡ word_sum f u (scale f (neg f 1) v)
unfolding difference
difference_is f u v = refl

pub ruleset distance_laws = (one_inside, difference_is)
