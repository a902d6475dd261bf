-- Goppa polynomials, points where they are 0, and the code of a Goppa form.
--   value_trimmed          they have the same values
--   root_told, root_none   the first point where a polynomial is 0
--   inverted_value         the inverse of a value is the multiplier
--   multipliers_none, multipliers_more, multipliers_whole      the multipliers, one after another
--   nonzero_values         a polynomial that is 0 at no index is 0 at no point
--   goppa_fine             what isn't refused has a form
--   goppa_form_told        the form of given multipliers is that of the Goppa code
--   goppa_code             the code of a Goppa form is the Goppa code
use Rattle.std.proofs.Common.{◌≡◌, ◌≢◌, ℕ, zero, suc, ◌+◌, ◌-◌, ◌<◌, Bool, true, ◌==◌, List, [], ◌∷◌, ◌++◌, length, map, take, find, slice_index, Contains, AllPairs, Some, None, option_map, refl, sym, ap, ap₂, subst, ◌∙◌, arith}
use Rattle.std.specs.Prelude.{IsTrue}
use Rattle.std.proofs.Math.Seq.{take-suc}
use Rattle.std.proofs.lemmas.Bool.{eq-eqb}
use Rattle.std.proofs.lemmas.List.{map-append, take_all, get_or_default}
use Rattle.lc_algebra.specs.declared.FieldName.{FieldName}
use Rattle.lc_algebra.specs.Field.{size, is_symbol, add, mul, IsInverse}
use Rattle.lc_algebra.specs.Embedding.{IsSubfield}
use Rattle.lc_algebra.specs.Polynomial.{value_at, put_on, trimmed}
use Rattle.lc_algebra.specs.Word.{Fits}
use Rattle.lc_algebra.specs.Span.{below}
use Rattle.lc_algebra.specs.Matrix.{Matrix}
use Rattle.lc_algebra.proofs.FieldLaws.{zero_inside, mul_zero, zero_add, inverse_unique}
use Rattle.lc_algebra.proofs.PolynomialLaws.{value_inside}
use Rattle.lc_algebra.proofs.CommonLaws.{positive_not_zero}
use Rattle.lc_constructions.specs.declared.refusal.CodeRefusal.TheVariants.{RootAt}
use Rattle.lc_constructions.specs.Code.{is_length, IsCode}
use Rattle.lc_constructions.specs.Alternant.{AlternantForm, IsForm, inverse, IsAlternantWord, goppa_multipliers, goppa_form, IsGoppaWord}
use Rattle.lc_constructions.specs.Refusals.{root_at}
use Rattle.lc_constructions.proofs.InverseLaws.{inverse_is}
use Rattle.lc_constructions.proofs.FormLaws.{goppa_is_form}
use Rattle.lc_constructions.proofs.NearestLaws.{goppa_form_is_the_code}
use Rattle.lc_code.proofs.CodeLaws.{same_code}
use Rattle.lc_goppa.specs.Form.{alternant_form}
use Rattle.lc_goppa.proofs.PointLaws.{find_none, find_told}
use Rattle.lc_constructions.proofs.RefusalLaws.{refused_or_not}

value_put_on : (K : FieldName) (a : ℕ) (v : List ℕ) (x : ℕ) → value_at K (put_on a v) x ≡ value_at K (a ∷ v) x
unfolding put_on value_at
value_put_on K zero [] x = sym (cc (mul_zero K x, zero_add K 0 (zero_inside K)))
value_put_on K (suc a) [] x = refl
value_put_on K zero (b ∷ v) x = refl
value_put_on K (suc a) (b ∷ v) x = refl

value_more : (K : FieldName) (a : ℕ) (u v : List ℕ) (x : ℕ) → value_at K u x ≡ value_at K v x → value_at K (a ∷ u) x ≡ value_at K (a ∷ v) x
unfolding value_at
value_more K a u v x e = ap (λ t. add K a (mul K x t)) e

pub value_trimmed : (K : FieldName) (u : List ℕ) (x : ℕ) → value_at K (trimmed u) x ≡ value_at K u x
unfolding trimmed
value_trimmed K [] x = refl
value_trimmed K (a ∷ u) x = value_put_on K a (trimmed u) x ∙ value_more K a (trimmed u) u x (value_trimmed K u x)

abbrev is_root : FieldName → List ℕ → List ℕ → ℕ → Bool
is_root K g xs i = value_at K g (slice_index xs i) == 0

pub root_told : (K : FieldName) (g xs : List ℕ) (i v : ℕ) → i < length xs → v ≡ value_at K g (slice_index xs i) → v ≡ 0 → ((k : ℕ) → k < i → 0 < value_at K g (slice_index xs k)) → Some (RootAt i) ≡ root_at K g xs
unfolding root_at
root_told K g xs i v l e z h =
    let t : find (is_root K g xs) (below (length xs)) ≡ Some i = find_told (is_root K g xs) (length xs) i l (eq-eqb (value_at K g (slice_index xs i)) 0 (sym e ∙ z)) (λ k q. positive_not_zero (value_at K g (slice_index xs k)) (h k q)) in
    sym (ap (λ o. option_map (λ i. RootAt i) o) t)

pub root_none : (K : FieldName) (g xs : List ℕ) → ((k : ℕ) → k < length xs → 0 < value_at K g (slice_index xs k)) → None ≡ root_at K g xs
unfolding root_at
root_none K g xs h =
    let t : find (is_root K g xs) (below (length xs)) ≡ None = find_none (is_root K g xs) (length xs) (λ k q. positive_not_zero (value_at K g (slice_index xs k)) (h k q)) in
    sym (ap (λ o. option_map (λ i. RootAt i) o) t)

inverted_value : (K : FieldName) (g : List ℕ) (x v b : ℕ) → v ≡ value_at K g x → 0 < v → IsInverse K v b → b ≡ inverse K (value_at K (trimmed g) x)
inverted_value K g x v b e p h =
    let q : v ≡ value_at K (trimmed g) x = e ∙ sym (value_trimmed K g x) in
    inverse_unique K v b (inverse K v) h (inverse_is K v (subst (λ a. a < size K) (sym e) (value_inside K g x)) p) ∙ ap (inverse K) q

pub multipliers_none : (K : FieldName) (g xs : List ℕ) → [] ≡ goppa_multipliers K g (take 0 xs)
unfolding goppa_multipliers
multipliers_none K g xs = refl

pub multipliers_more : (K : FieldName) (g xs : List ℕ) (i v b : ℕ) (old new : List ℕ) → i < length xs → v ≡ value_at K g (slice_index xs i) → 0 < v → IsInverse K v b → old ≡ goppa_multipliers K (trimmed g) (take i xs) → new ≡ old ++ b ∷ [] → new ≡ goppa_multipliers K (trimmed g) (take (i + 1) xs)
unfolding goppa_multipliers
multipliers_more K g xs i v b old new l e p h o n =
    let d : suc i ≡ i + 1 = omega arith in
    let f : ℕ → ℕ = λ a. inverse K (value_at K (trimmed g) a) in
    n ∙ ap₂ (λ u c. u ++ c ∷ []) o (inverted_value K g (slice_index xs i) v b e p h)
    ∙ sym (ap (map f) (take-suc xs i 0 l) ∙ map-append f (take i xs) (slice_index xs i ∷ []))
    ∙ ap (λ k. map f (take k xs)) d

pub multipliers_whole : (K : FieldName) (g xs : List ℕ) (i : ℕ) → i ≡ length xs → goppa_multipliers K g (take i xs) ≡ goppa_multipliers K g xs
multipliers_whole K g xs i e = ap (goppa_multipliers K g) (take_all i xs (omega (arith, e)))

nonzero_values : (K : FieldName) (g xs : List ℕ) → ((i : ℕ) → i < length xs → 0 < value_at K g (slice_index xs i)) → (a : ℕ) → Contains xs a → 0 < value_at K (trimmed g) a
nonzero_values K g xs h a (i, l, e) =
    subst (λ x. 0 < x) (sym (value_trimmed K g a)) (subst (λ x. 0 < value_at K g x) (get_or_default xs i 0 a l ∙ e) (h i l))

pub goppa_fine : (f K : FieldName) (g xs : List ℕ) → IsTrue (is_symbol f) → IsSubfield f K → is_length (length xs) ≡ true → Fits K xs → AllPairs (λ a b. a ≢ b) xs → ((i : ℕ) → i < length xs → 0 < value_at K g (slice_index xs i)) → IsForm f (goppa_form K (trimmed g) xs)
goppa_fine f K g xs s t l p d h = goppa_is_form f K (trimmed g) xs s t l p d (nonzero_values K g xs h)

goppa_points : (K : FieldName) (g xs : List ℕ) → (goppa_form K g xs).points ≡ xs
unfolding goppa_form
goppa_points K g xs = refl

pub goppa_code : (f K : FieldName) (g xs : List ℕ) (form : AlternantForm) (C : Matrix) → form ≡ goppa_form K g xs → IsCode f (length form.points) (IsAlternantWord f form) C → IsCode f (length xs) (IsGoppaWord f K g xs) C
goppa_code f K g xs form C e c =
    let n : length form.points ≡ length xs = ap (λ (v : AlternantForm). length v.points) e ∙ ap length (goppa_points K g xs) in
    same_code f (length xs) (IsAlternantWord f form) (IsGoppaWord f K g xs) C
    (λ w k. let t = goppa_form_is_the_code f K g xs w in ((λ a. t.1 (subst (λ v. IsAlternantWord f v w) e a)), (λ b. subst (λ v. IsAlternantWord f v w) (sym e) (t.0 b))))
    (subst (λ m. IsCode f m (IsAlternantWord f form) C) n c)

pub goppa_form_told : (K : FieldName) (g xs ys zs : List ℕ) (r n : ℕ) (form : AlternantForm) → form ≡ alternant_form K xs zs r → zs ≡ ys → ys ≡ goppa_multipliers K g xs → n ≡ length g → r ≡ n - 1 → form ≡ goppa_form K g xs
unfolding goppa_form
goppa_form_told K g xs ys zs r n form e z h k d =
    e ∙ ap (λ u. alternant_form K xs u r) (z ∙ h) ∙ ap (λ m. alternant_form K xs (goppa_multipliers K g xs) m) (d ∙ ap (λ m. m - 1) k)

pub ruleset goppa_laws = (goppa_code, refused_or_not)

pub ruleset multipliers_of_laws = (multipliers_none, multipliers_more, multipliers_whole)
