-- The nearest word: a scan of all words finds it, and it is the only one. The one word within half of the checks.
--   is_before u v                  u comes before v in lexicographic order
--   is_better u v                  u comes before v by weight and then lexicographically
--   nearest_among C x w ws         the word among w and ws whose error comes first, w where several are equal
--   nearest C x                    the nearest word, by going through the errors of all words of the code
--   words_within C x t             the list of the words within t, by going through all words of the code
--   before_true, before_false      the test of the lexicographic order
--   better_true, better_false      and of that by weight first
--   IsScanned ..              what a look through some words from a first one keeps
--   nearest_is_nearest             the word that is found is the nearest one
--   nearest_exists, nearest_once   so each received word has a nearest word, and it has one
--   decoded_once                   at most one answer is what is decoded
--   goppa_form_is_the_code         a Goppa code and its alternant form have the same words
use Rattle.std.proofs.Common.{◌≡◌, ℕ, ◌⊎◌, ◌↔◌, Bool, true, false, ◌&&◌, ◌||◌, ◌==◌, nat_lt, nat_le, if◌then◌else◌, Option, Some, None, List, [], ◌∷◌, length, filter, Contains, refl, sym, ap, subst, ◌∙◌, inl, inr, ⊎_elim, arith, true≢false}
use Rattle.std.proofs.lemmas.Bool.{cases_lt, and_parts, or_cases, or_parts, eqb-true, ltb-true, lt-ltb, eq-eqb}
use Rattle.lc_algebra.specs.declared.FieldName.{FieldName}
use Rattle.lc_algebra.specs.Field.{neg}
use Rattle.lc_algebra.specs.Word.{IsWord, word_sum, scale, difference, distance, weight, zero_word, AtMost, ComesNoLater}
use Rattle.lc_algebra.specs.Span.{words}
use Rattle.lc_algebra.specs.Matrix.{Matrix, AreRows}
use Rattle.lc_algebra.proofs.WordLaws.{length_difference, length_zero_word, sum_comm, sum_assoc, sum_negative, zero_sum, difference_back, no_later_reflexive, no_later_transitive, no_later_antisymmetric}
use Rattle.lc_algebra.proofs.SpanLaws.{span_word, contains_head, contains_tail, contains_cases, word_of_member, member_of_word, span_zero}
use Rattle.lc_constructions.specs.Code.{InCode}
use Rattle.lc_constructions.specs.Alternant.{AlternantForm, IsAlternantWord, IsGoppaWord, goppa_sum, goppa_form, syndrome_at}
use Rattle.lc_constructions.specs.Nearest.{IsNearest, IsDecoded}

unfoldable pub is_before : List ℕ → List ℕ → Bool
is_before [] [] = false
is_before (a ∷ u) (b ∷ v) = nat_lt a b || ((a == b) && is_before u v)
is_before _ _ = false

unfoldable pub is_better : List ℕ → List ℕ → Bool
is_better u v = nat_lt (weight u) (weight v) || ((weight u == weight v) && is_before u v)

unfoldable pub nearest_among : Matrix → List ℕ → List ℕ → List (List ℕ) → List ℕ
nearest_among C x w [] = w
nearest_among C x w (v ∷ others) = nearest_among C x (if is_better (difference C.field x v) (difference C.field x w) then v else w) others

unfoldable pub nearest : Matrix → List ℕ → List ℕ
nearest C x = nearest_among C x (zero_word C.columns) (words C.field C.columns C.rows)

unfoldable pub words_within : Matrix → List ℕ → ℕ → List (List ℕ)
words_within C x t = filter (λ w. nat_le (distance C.field x w) t) (words C.field C.columns C.rows)

before_true : (u v : List ℕ) → is_before u v ≡ true → AtMost u v
unfolding is_before
before_true [] [] h = tt
before_true [] (b ∷ v) h = tt
before_true (a ∷ u) [] h = absurd (true≢false (sym h))
before_true (a ∷ u) (b ∷ v) h =
    ⊎_elim
    (λ l. inl (ltb-true a b l))
    (λ t. let s = and_parts (a == b) (is_before u v) t in inr (eqb-true a b s.0, before_true u v s.1))
    (or_cases (nat_lt a b) ((a == b) && is_before u v) h)

not_before : (x y : Bool) → x ≡ true → (x && y) ≡ false → y ≡ false
not_before true y e h = h
not_before false y e h = absurd (true≢false (sym e))

before_false : (u v : List ℕ) → length u ≡ length v → is_before u v ≡ false → AtMost v u
unfolding is_before
before_false [] [] e h = tt
before_false [] (b ∷ v) e h = absurd (omega (arith, e))
before_false (a ∷ u) [] e h = tt
before_false (a ∷ u) (b ∷ v) e h =
    let s = or_parts (nat_lt a b) ((a == b) && is_before u v) h in
    ⊎_elim
    (λ l. absurd (true≢false (sym (lt-ltb a b l) ∙ s.0)))
    (λ m. ⊎_elim
    (λ k. inl k)
    (λ k. let q : a ≡ b = omega (arith, m, k) in inr (sym q, before_false u v (omega (arith, e)) (not_before (a == b) (is_before u v) (eq-eqb a b q) s.1)))
    (cases_lt b a))
    (cases_lt a b)

better_true : (u v : List ℕ) → is_better u v ≡ true → ComesNoLater u v
unfolding is_better
better_true u v h =
    ⊎_elim
    (λ l. inl (ltb-true (weight u) (weight v) l))
    (λ t. let s = and_parts (weight u == weight v) (is_before u v) t in inr (eqb-true (weight u) (weight v) s.0, before_true u v s.1))
    (or_cases (nat_lt (weight u) (weight v)) ((weight u == weight v) && is_before u v) h)

better_false : (u v : List ℕ) → length u ≡ length v → is_better u v ≡ false → ComesNoLater v u
unfolding is_better
better_false u v e h =
    let s = or_parts (nat_lt (weight u) (weight v)) ((weight u == weight v) && is_before u v) h in
    ⊎_elim
    (λ l. absurd (true≢false (sym (lt-ltb (weight u) (weight v) l) ∙ s.0)))
    (λ m. ⊎_elim
    (λ k. inl k)
    (λ k. let q : weight u ≡ weight v = omega (arith, m, k) in inr (sym q, before_false u v e (not_before (weight u == weight v) (is_before u v) (eq-eqb (weight u) (weight v) q) s.1)))
    (cases_lt (weight v) (weight u)))
    (cases_lt (weight u) (weight v))

abbrev error : Matrix → List ℕ → List ℕ → List ℕ
error C x w = difference C.field x w

-- r is the first word or one of the others, and no error of these comes before its error
record IsScanned (C : Matrix) (x w : List ℕ) (others : List (List ℕ)) (r : List ℕ) : Type 0 where
  among : (w ≡ r) ⊎ Contains others r
  first : ComesNoLater (error C x r) (error C x w)
  least : (v : List ℕ) → Contains others v → ComesNoLater (error C x r) (error C x v)

abbrev AreLong : Matrix → List ℕ → ℕ → List (List ℕ) → Type 0
AreLong C x n ws = (v : List ℕ) → Contains ws v → length (error C x v) ≡ n

scan_step : (C : Matrix) (x w v : List ℕ) (others : List (List ℕ)) (b : Bool) → is_better (error C x v) (error C x w) ≡ b → length (error C x v) ≡ length (error C x w) →
    ((u : List ℕ) → (u ≡ v) ⊎ (u ≡ w) → IsScanned C x u others (nearest_among C x u others)) → IsScanned C x w (v ∷ others) (nearest_among C x (if b then v else w) others)
scan_step C x w v others true t e h =
    let s = h v (inl refl) in
    let r = nearest_among C x v others in
    record {
      among = inr (⊎_elim (λ q. subst (Contains (v ∷ others)) q (contains_head v others)) (λ c. contains_tail v r others c) s.among);
      first = no_later_transitive (error C x r) (error C x v) (error C x w) s.first (better_true (error C x v) (error C x w) t);
      least = λ u c. ⊎_elim (λ q. subst (λ u. ComesNoLater (error C x r) (error C x u)) q s.first) (λ k. s.least u k) (contains_cases v u others c);
    }
scan_step C x w v others false t e h =
    let s = h w (inr refl) in
    let r = nearest_among C x w others in
    record {
      among = ⊎_elim inl (λ c. inr (contains_tail v r others c)) s.among;
      first = s.first;
      least = λ u c. ⊎_elim
          (λ q. subst (λ u. ComesNoLater (error C x r) (error C x u)) q (no_later_transitive (error C x r) (error C x w) (error C x v) s.first (better_false (error C x v) (error C x w) e t)))
          (λ k. s.least u k) (contains_cases v u others c);
    }

scan : (C : Matrix) (x w : List ℕ) (n : ℕ) (others : List (List ℕ)) → length (error C x w) ≡ n → AreLong C x n others → IsScanned C x w others (nearest_among C x w others)
unfolding nearest_among
scan C x w n [] e l = record { among = inl refl; first = no_later_reflexive (error C x w); least = λ v c. absurd (omega (arith, c.1)) }
scan C x w n (v ∷ others) e l =
    let k : length (error C x v) ≡ n = l v (contains_head v others) in
    let rest : AreLong C x n others = λ u c. l u (contains_tail v u others c) in
    scan_step C x w v others (is_better (error C x v) (error C x w)) refl (k ∙ sym e)
    (λ u q. scan C x u n others (⊎_elim (λ p. ap (λ u. length (error C x u)) p ∙ k) (λ p. ap (λ u. length (error C x u)) p ∙ e) q) rest)

long_error : (C : Matrix) (x v : List ℕ) → length x ≡ C.columns → length v ≡ C.columns → length (error C x v) ≡ C.columns
long_error C x v l m = length_difference C.field x v (l ∙ sym m) ∙ l

pub nearest_is_nearest : (C : Matrix) (x : List ℕ) → AreRows C.field C.columns C.rows → length x ≡ C.columns → IsNearest C x (nearest C x)
unfolding nearest
nearest_is_nearest C x r l =
    let n = C.columns in
    let ws = words C.field n C.rows in
    let z = zero_word n in
    let s : IsScanned C x z ws (nearest_among C x z ws) = scan C x z n ws (long_error C x z l (length_zero_word n))
    (λ v c. long_error C x v l (span_word C.field n C.rows v r (word_of_member C.field n C.rows v c)).long) in
    record {
      inside = ⊎_elim (λ q. subst (InCode C) q (span_zero C.field n C.rows r)) (λ c. word_of_member C.field n C.rows (nearest_among C x z ws) c) s.among;
      first = λ v h. s.least v (member_of_word C.field n C.rows v h);
    }

pub nearest_exists : (C : Matrix) (x : List ℕ) → AreRows C.field C.columns C.rows → length x ≡ C.columns → (w : List ℕ) × IsNearest C x w
nearest_exists C x r l = (nearest C x, nearest_is_nearest C x r l)

word_cancels : (f : FieldName) (n : ℕ) (x u v : List ℕ) → IsWord f n x → IsWord f n u → IsWord f n v → word_sum f x u ≡ word_sum f x v → u ≡ v
word_cancels f n x u v a b c e =
    let m = scale f (neg f 1) x in
    let back : (w : List ℕ) → IsWord f n w → word_sum f m (word_sum f x w) ≡ w =
    λ w k. sym (sum_assoc f m x w) ∙ ap (λ t. word_sum f t w) (sum_comm f m x ∙ sum_negative f n x a.long) ∙ zero_sum f n w k in
    sym (back u b) ∙ ap (λ t. word_sum f m t) e ∙ back v c

pub same_error : (f : FieldName) (n : ℕ) (x u v : List ℕ) → IsWord f n x → IsWord f n u → IsWord f n v → difference f x u ≡ difference f x v → u ≡ v
same_error f n x u v a b c e =
    let p : word_sum f (difference f x u) (word_sum f u v) ≡ word_sum f x v = sym (sum_assoc f (difference f x u) u v) ∙ ap (λ t. word_sum f t v) (difference_back f n x u a b.long) in
    let q : word_sum f (difference f x v) (word_sum f u v) ≡ word_sum f x u = ap (λ t. word_sum f (difference f x v) t) (sum_comm f u v) ∙ sym (sum_assoc f (difference f x v) v u) ∙ ap (λ t. word_sum f t u) (difference_back f n x v a c.long) in
    let s : word_sum f x v ≡ word_sum f x u = sym p ∙ ap (λ t. word_sum f t (word_sum f u v)) e ∙ q in
    word_cancels f n x u v a b c (sym s)

pub nearest_once : (C : Matrix) (x u v : List ℕ) → AreRows C.field C.columns C.rows → IsWord C.field C.columns x → IsNearest C x u → IsNearest C x v → u ≡ v
nearest_once C x u v r a p q =
    let n = C.columns in
    let wu = span_word C.field n C.rows u r p.inside in
    let wv = span_word C.field n C.rows v r q.inside in
    same_error C.field n x u v a wu wv
    (no_later_antisymmetric (error C x u) (error C x v) (long_error C x u a.long wu.long ∙ sym (long_error C x v a.long wv.long)) (p.first v q.inside) (q.first u p.inside))

pub decoded_once : (C : Matrix) (form : AlternantForm) (x : List ℕ) (o p : Option (List ℕ)) → IsDecoded C form x o → IsDecoded C form x p → o ≡ p
decoded_once C form x None None h k = refl
decoded_once C form x None (Some v) h k = absurd (h v k.0)
decoded_once C form x (Some u) None h k = absurd (k u h.0)
decoded_once C form x (Some u) (Some v) h k = ap (λ (w : List ℕ). Some w) (k.1 u h.0)

pub goppa_form_is_the_code : (f K : FieldName) (g points w : List ℕ) → IsGoppaWord f K g points w ↔ IsAlternantWord f (goppa_form K g points) w
unfolding goppa_sum goppa_form syndrome_at
goppa_form_is_the_code f K g points w = ((λ h. h), (λ h. h))

pub ruleset decoding_has_one_answer_laws = (nearest_exists, nearest_once, decoded_once)
