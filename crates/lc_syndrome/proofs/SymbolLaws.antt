-- Words of which one symbol is changed.
--   long_changed, word_changed      the changed word has the same length, and is a word
--   changed                  adding d at coordinate i is adding the word that has d there and zeros elsewhere
--   put                      where the symbol was 0, it becomes d
--   taken                    and it becomes 0 where its negative is added
--   weight_put               a zero made nonzero adds 1 to the weight
--   weight_kept              a nonzero symbol that is changed adds nothing
--   weight_taken             a nonzero symbol made 0 takes 1 from it
--   at_most_put              the lexicographic order of two words is that before one symbol was put into both, where they had 0
use Rattle.std.proofs.Common.{◌≡◌, ◌≢◌, ℕ, zero, suc, ◌<◌, ◌≤◌, inl, inr, ⊎_elim, List, [], ◌∷◌, length, set, slice_index, sym, ap, ap₂, subst, ◌∙◌, arith, zero-lt-suc}
use Rattle.std.proofs.lemmas.List.{length-set, get_or-set_same, get_or-set_other, set-set, set-get_or}
use Rattle.std.proofs.lemmas.Bool.{cases_eq}
use Rattle.lc_algebra.specs.declared.FieldName.{FieldName}
use Rattle.lc_algebra.specs.Field.{size, add, neg}
use Rattle.lc_algebra.specs.Word.{IsWord, word_sum, weight, AtMost}
use Rattle.lc_algebra.proofs.FieldLaws.{add_zero, zero_add, add_neg}
use Rattle.lc_algebra.proofs.WordLaws.{word_symbol, word_head, word_tail, sum_zero, weight_zero_head, weight_other_head, weight_cons_at_most}
use Rattle.lc_syndrome.specs.Syndrome.{unit}

pub long_changed : (f : FieldName) (n i d : ℕ) (x : List ℕ) → IsWord f n x → length (set x i d) ≡ n
long_changed f n i d x w = length-set x i d ∙ w.long

pub word_changed : (f : FieldName) (n i d : ℕ) (x : List ℕ) → IsWord f n x → d < size f → IsWord f n (set x i d)
word_changed f n i d x w b =
    record {
      long = long_changed f n i d x w;
      fits = λ k l. ⊎_elim
          (λ (e : k ≡ i). subst (λ a. a < size f) (sym (ap (slice_index (set x i d)) e ∙ get_or-set_same x i d 0 (omega (arith, l, e, length-set x i d)))) b)
          (λ (e : k ≢ i). subst (λ a. a < size f) (sym (get_or-set_other x i k d 0 e)) (word_symbol f n x w k))
          (cases_eq k i);
    }

pub changed : (f : FieldName) (n i d : ℕ) (x : List ℕ) → IsWord f n x → i < n → set x i (add f (slice_index x i) d) ≡ word_sum f x (unit n i d)
unfolding word_sum
changed f zero i d x w l = absurd (omega (arith, l))
changed f (suc n) i d [] w l = absurd (omega (arith, w.long))
changed f (suc n) zero d (a ∷ x) w l = ap (λ u. add f a d ∷ u) (sym (sum_zero f n x (word_tail f n a x w)))
changed f (suc n) (suc i) d (a ∷ x) w l = ap₂ (λ b u. b ∷ u) (sym (add_zero f a (word_head f (suc n) a x w))) (changed f n i d x (word_tail f n a x w) (omega (arith, l)))

pub put : (f : FieldName) (n i d : ℕ) (x : List ℕ) → IsWord f n x → i < n → d < size f → slice_index x i ≡ 0 → set x i d ≡ word_sum f x (unit n i d)
put f n i d x w l b e = ap (set x i) (sym (ap (λ a. add f a d) e ∙ zero_add f d b)) ∙ changed f n i d x w l

pub taken : (f : FieldName) (n i c : ℕ) (x : List ℕ) → IsWord f n x → i < n → slice_index x i ≡ c → set x i 0 ≡ word_sum f x (unit n i (neg f c))
taken f n i c x w l e = ap (set x i) (sym (ap (λ a. add f a (neg f c)) e ∙ add_neg f c)) ∙ changed f n i (neg f c) x w l

pub weight_put : (i d : ℕ) (x : List ℕ) → i < length x → 0 < d → slice_index x i ≡ 0 → weight (set x i d) ≡ suc (weight x)
weight_put i d [] l p e = absurd (omega (arith, l))
weight_put zero d (a ∷ x) l p e = weight_other_head d x p ∙ ap suc (sym (weight_zero_head x) ∙ ap (λ b. weight (b ∷ x)) (sym e))
weight_put (suc i) d (zero ∷ x) l p e = weight_zero_head (set x i d) ∙ weight_put i d x (omega (arith, l)) p e ∙ ap suc (sym (weight_zero_head x))
weight_put (suc i) d (suc a ∷ x) l p e = weight_other_head (suc a) (set x i d) (zero-lt-suc a) ∙ ap suc (weight_put i d x (omega (arith, l)) p e ∙ sym (weight_other_head (suc a) x (zero-lt-suc a)))

pub weight_kept : (i d : ℕ) (x : List ℕ) → 0 < slice_index x i → weight (set x i d) ≤ weight x
weight_kept i d [] p = absurd (omega (arith, p))
weight_kept zero d (a ∷ x) p = omega (arith, weight_other_head a x p, weight_cons_at_most d x)
weight_kept (suc i) d (zero ∷ x) p = omega (arith, weight_zero_head (set x i d), weight_kept i d x p, weight_zero_head x)
weight_kept (suc i) d (suc a ∷ x) p = omega (arith, weight_other_head (suc a) (set x i d) (zero-lt-suc a), weight_kept i d x p, weight_other_head (suc a) x (zero-lt-suc a))

pub symbol_inside : (i : ℕ) (x : List ℕ) → 0 < slice_index x i → i < length x
symbol_inside i [] p = absurd (omega (arith, p))
symbol_inside zero (a ∷ x) p = zero-lt-suc (length x)
symbol_inside (suc i) (a ∷ x) p = omega (arith, symbol_inside i x p)

pub weight_taken : (i : ℕ) (x : List ℕ) → 0 < slice_index x i → suc (weight (set x i 0)) ≡ weight x
weight_taken i x p =
    let l : i < length x = symbol_inside i x p in
    let m : i < length (set x i 0) = omega (arith, l, length-set x i 0) in
    sym (weight_put i (slice_index x i) (set x i 0) m p (get_or-set_same x i 0 0 l)) ∙ ap weight (set-set x i 0 (slice_index x i) ∙ set-get_or x i 0)

pub at_most_put : (i c : ℕ) (u v : List ℕ) → length u ≡ length v → slice_index u i ≡ 0 → slice_index v i ≡ 0 → AtMost (set u i c) (set v i c) → AtMost u v
at_most_put i c [] v e p q h = tt
at_most_put i c (a ∷ u) [] e p q h = absurd (omega (arith, e))
at_most_put zero c (a ∷ u) (b ∷ v) e p q (inl h) = absurd (omega (arith, h))
at_most_put zero c (a ∷ u) (b ∷ v) e p q (inr h) = inr (p ∙ sym q, h.1)
at_most_put (suc i) c (a ∷ u) (b ∷ v) e p q (inl h) = inl h
at_most_put (suc i) c (a ∷ u) (b ∷ v) e p q (inr h) = inr (h.0, at_most_put i c u v (omega (arith, e)) p q h.1)
