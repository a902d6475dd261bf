-- What a walk finds in the words of the messages of a level.
--   flat_map_same              two maps that agree list the same
--   found_first, passed_first  what is found in the first of two lists, or else in the second
--   along_whole, along_first, along_found, along_passed, along_end      the words along a support, multiple by multiple
--   over_whole, over_found, over_passed, over_end      the words of the supports with a front, place by place
--   front_longer, front_kept, front_inside      a front with one more place
--   level_found, level_passed, level_end   the words of some levels, level by level
--   sums_zero, Put, sums_put   the buffer of a walk
use Rattle.std.proofs.Common.{◌≡◌, ℕ, zero, suc, ◌+◌, ◌-◌, ◌<◌, ◌≤◌, Bool, true, false, List, [], ◌∷◌, ◌++◌, set, map, find, flat_map, length, slice_index, slice_index_or, take, drop, Option, Some, None, refl, sym, ap, ap₂, subst, ◌∙◌, ⊎_elim, arith, append_assoc, append-nil}
use Rattle.std.specs.Option.{option_or}
use Rattle.std.proofs.Math.Seq.{drop-cons}
use Rattle.std.proofs.lemmas.Bool.{cases_lt, cases_eq}
use Rattle.std.proofs.lemmas.List.{get_or-set_same, get_or-set_other, get_or-take, length-set, length-drop}
use Rattle.std.proofs.lemmas.List.Concat.{flat_map-cons}
use Rattle.std.proofs.lemmas.List.Folds.{find-append, flat_map-map}
use Rattle.std.proofs.lemmas.Grind.{flat_map-append}
use Rattle.lc_algebra.specs.declared.FieldName.{FieldName}
use Rattle.lc_algebra.specs.Field.{size}
use Rattle.lc_algebra.specs.Word.{IsWord, zero_word, word_sum, scale}
use Rattle.lc_algebra.specs.Matrix.{Matrix}
use Rattle.lc_algebra.proofs.WordLaws.{IsWord_zero, IsWord_sum, length_scale}
use Rattle.lc_enumeration.specs.Message.{supports_from, numbers_from}
use Rattle.lc_enumeration.proofs.ChooseLaws.{choose_none}
use Rattle.lc_place.proofs.Supports.{length-supports}
use Rattle.lc_formats.specs.Certificate.{is_lighter}
use Rattle.lc_checker.specs.Walk.{row_of, words_along, multiples_from, support_words, words_over, level_words, words_from, found, AreSums}
use Rattle.lc_checker.proofs.HeavyLaws.{next}

pub flat_map_same : {X Y : Type 0} (g h : X → List Y) (xs : List X) → ((x : X) → g x ≡ h x) → flat_map g xs ≡ flat_map h xs
flat_map_same g h [] e = refl
flat_map_same g h (x ∷ xs) e = flat_map-cons g x xs ∙ ap₂ (λ a b. a ++ b) (e x) (flat_map_same g h xs e) ∙ sym (flat_map-cons h x xs)

-- ---- what is found

found_some : (b : Bool) (w : List ℕ) → b ≡ true → found b w ≡ Some w
unfolding found
found_some b w e = rw e refl

found_none : (b : Bool) (w : List ℕ) → b ≡ false → found b w ≡ None
unfolding found
found_none b w e = rw e refl

pub found_first : (test : List ℕ → Bool) (xs ys : List (List ℕ)) (b : Bool) (w : List ℕ) → b ≡ true → found b w ≡ find test xs → found b w ≡ find test (xs ++ ys)
found_first test xs ys b w t e = found_some b w t ∙ sym (find-append test xs ys ∙ ap (λ o. option_or o (find test ys)) (sym e ∙ found_some b w t))

pub passed_first : (test : List ℕ → Bool) (xs ys : List (List ℕ)) (b : Bool) (w : List ℕ) → b ≡ false → found b w ≡ find test xs → find test (xs ++ ys) ≡ find test ys
passed_first test xs ys b w t e = find-append test xs ys ∙ ap (λ o. option_or o (find test ys)) (sym e ∙ found_none b w t)

-- ---- along a support

found_one : (test : List ℕ → Bool) (w : List ℕ) → found (test w) w ≡ find test (w ∷ [])
unfolding found
found_one test w = refl

pub words_none : (f : FieldName) (rows : List (List ℕ)) (a : List ℕ) → words_along f rows a [] ≡ a ∷ []
unfolding words_along
words_none f rows a = refl

drop_all : {X : Type 0} (s : List X) (d : ℕ) → d ≡ length s → drop d s ≡ []
drop_all s d e = nil (drop d s) (omega (arith, length-drop d s, e))
  where
    nil : {X : Type 0} (s : List X) → length s ≡ 0 → s ≡ []
    nil [] l = refl
    nil (x ∷ s) l = absurd (omega (arith, l))

pub along_whole : (f : FieldName) (rows : List (List ℕ)) (d depth : ℕ) (a s : List ℕ) (b : Bool) → depth ≡ length s → b ≡ is_lighter d a → found b a ≡ find (is_lighter d) (words_along f rows a (drop depth s))
along_whole f rows d depth a s b e t = ap (λ c. found c a) t ∙ found_one (is_lighter d) a ∙ ap (find (is_lighter d)) (sym (ap (words_along f rows a) (drop_all s depth e) ∙ words_none f rows a))

words_start : (f : FieldName) (rows : List (List ℕ)) (a s : List ℕ) (p : ℕ) → words_along f rows a (p ∷ s) ≡ multiples_from f rows a p s 1
unfolding words_along multiples_from
words_start f rows a s p = refl

pub along_first : (f : FieldName) (rows : List (List ℕ)) (d depth : ℕ) (a s : List ℕ) → depth < length s → find (is_lighter d) (words_along f rows a (drop depth s)) ≡ find (is_lighter d) (multiples_from f rows a (slice_index s depth) (drop (depth + 1) s) 1)
along_first f rows d depth a s l = ap (find (is_lighter d)) (ap (words_along f rows a) (drop-cons s depth 0 l) ∙ words_start f rows a (drop (suc depth) s) (slice_index s depth) ∙ ap (λ m. multiples_from f rows a (slice_index s depth) (drop m s) 1) (next depth))

pub numbers_more : (c m k : ℕ) → m ≡ suc k → numbers_from c m ≡ c ∷ numbers_from (c + 1) k
unfolding numbers_from
numbers_more c m k e = rw e (ap (λ d. c ∷ numbers_from d k) (next c))

multiples_more : (f : FieldName) (rows : List (List ℕ)) (a s : List ℕ) (p c : ℕ) → c < size f → multiples_from f rows a p s c ≡ words_along f rows (word_sum f a (scale f c (row_of rows p))) s ++ multiples_from f rows a p s (c + 1)
unfolding multiples_from
multiples_more f rows a s p c l =
    let g = λ (c : ℕ). words_along f rows (word_sum f a (scale f c (row_of rows p))) s in
    ap (flat_map g) (numbers_more c (size f - c) (size f - (c + 1)) (omega (arith, l))) ∙ flat_map-cons g c (numbers_from (c + 1) (size f - (c + 1)))

pub along_found : (f : FieldName) (rows : List (List ℕ)) (d p c : ℕ) (a s x w : List ℕ) (b : Bool) (o : Option (List ℕ)) → c < size f → x ≡ word_sum f a (scale f c (row_of rows p)) → o ≡ find (is_lighter d) (multiples_from f rows a p s c) → found b w ≡ find (is_lighter d) (words_along f rows x s) → b ≡ true → found true w ≡ o
along_found f rows d p c a s x w b o l e h i t =
    ap (λ z. found z w) (sym t)
    ∙ found_first (is_lighter d) (words_along f rows (word_sum f a (scale f c (row_of rows p))) s) (multiples_from f rows a p s (c + 1)) b w t (i ∙ ap (λ y. find (is_lighter d) (words_along f rows y s)) e)
    ∙ ap (find (is_lighter d)) (sym (multiples_more f rows a s p c l)) ∙ sym h

pub along_passed : (f : FieldName) (rows : List (List ℕ)) (d p c : ℕ) (a s x w : List ℕ) (b : Bool) (o : Option (List ℕ)) → c < size f → x ≡ word_sum f a (scale f c (row_of rows p)) → o ≡ find (is_lighter d) (multiples_from f rows a p s c) → found b w ≡ find (is_lighter d) (words_along f rows x s) → b ≡ false → o ≡ find (is_lighter d) (multiples_from f rows a p s (c + 1))
along_passed f rows d p c a s x w b o l e h i t =
    h ∙ ap (find (is_lighter d)) (multiples_more f rows a s p c l)
    ∙ passed_first (is_lighter d) (words_along f rows (word_sum f a (scale f c (row_of rows p))) s) (multiples_from f rows a p s (c + 1)) b w t (i ∙ ap (λ y. find (is_lighter d) (words_along f rows y s)) e)

pub along_end : (f : FieldName) (rows : List (List ℕ)) (d p c : ℕ) (a s w : List ℕ) (o : Option (List ℕ)) → size f ≤ c → o ≡ find (is_lighter d) (multiples_from f rows a p s c) → found false w ≡ o
unfolding multiples_from found numbers_from
along_end f rows d p c a s w o l h =
    let g = λ (c : ℕ). words_along f rows (word_sum f a (scale f c (row_of rows p))) s in
    let none : size f - c ≡ 0 = omega (arith, l) in
    sym (h ∙ ap (λ m. find (is_lighter d) (flat_map g (numbers_from c m))) none)

pub on_support : (f : FieldName) (n : ℕ) (rows : List (List ℕ)) (d : ℕ) (s x : List ℕ) → 0 < length s → x ≡ word_sum f (zero_word n) (scale f 1 (row_of rows (slice_index s 0))) → find (is_lighter d) (words_along f rows x (drop 1 s)) ≡ find (is_lighter d) (support_words f n rows s)
unfolding support_words
on_support f n rows d [] x l e = absurd (omega (arith, l))
on_support f n rows d (p ∷ s) x l e = ap (λ y. find (is_lighter d) (words_along f rows y s)) e

-- ---- over the supports with a front

over_nothing : (f : FieldName) (n : ℕ) (rows : List (List ℕ)) (front : List ℕ) (i k : ℕ) → words_over f n rows front i k 0 ≡ support_words f n rows front
unfolding words_over supports_from
over_nothing f n rows front i k = append-nil (support_words f n rows (front ++ [])) ∙ ap (support_words f n rows) (append-nil front)

pub over_whole : (f : FieldName) (n : ℕ) (rows : List (List ℕ)) (d i k m : ℕ) (front : List ℕ) (o : Option (List ℕ)) → m ≡ 0 → o ≡ find (is_lighter d) (support_words f n rows front) → o ≡ find (is_lighter d) (words_over f n rows front i k m)
over_whole f n rows d i k m front o e h = h ∙ ap (find (is_lighter d)) (sym (ap (words_over f n rows front i k) e ∙ over_nothing f n rows front i k))

over_more : (f : FieldName) (n : ℕ) (rows : List (List ℕ)) (front : List ℕ) (i k w : ℕ) → words_over f n rows front i (suc k) (suc w) ≡ words_over f n rows (front ++ i ∷ []) (suc i) k w ++ words_over f n rows front (suc i) k (suc w)
unfolding words_over supports_from
over_more f n rows front i k w =
    let g = λ (s : List ℕ). support_words f n rows (front ++ s) in
    flat_map-append g (map (λ s. i ∷ s) (supports_from (suc i) k w)) (supports_from (suc i) k (suc w))
    ∙ ap (λ xs. xs ++ flat_map g (supports_from (suc i) k (suc w))) (flat_map-map g (λ (s : List ℕ). i ∷ s) (supports_from (suc i) k w)
    ∙ flat_map_same (λ (s : List ℕ). g (i ∷ s)) (λ (s : List ℕ). support_words f n rows ((front ++ i ∷ []) ++ s)) (supports_from (suc i) k w) (λ s. ap (support_words f n rows) (sym (append_assoc front (i ∷ []) s))))

over_next : (f : FieldName) (n : ℕ) (rows : List (List ℕ)) (front : List ℕ) (i k m w : ℕ) → i < k → 0 < m → m ≡ w + 1 → words_over f n rows front i (k - i) m ≡ words_over f n rows (front ++ i ∷ []) (i + 1) (k - (i + 1)) w ++ words_over f n rows front (i + 1) (k - (i + 1)) m
over_next f n rows front i k m w l z e =
    let a : k - i ≡ suc (k - (i + 1)) = omega (arith, l) in
    let b : m ≡ suc w = omega (arith, e) in
    ap₂ (words_over f n rows front i) a b ∙ over_more f n rows front i (k - (i + 1)) w
    ∙ ap₂ (λ j t. words_over f n rows (front ++ i ∷ []) j (k - (i + 1)) w ++ words_over f n rows front j (k - (i + 1)) t) (next i) (sym b)

pub over_found : (f : FieldName) (n : ℕ) (rows : List (List ℕ)) (d i k m w : ℕ) (front longer x : List ℕ) (b : Bool) (o : Option (List ℕ)) → i < k → m ≡ w + 1 → longer ≡ front ++ i ∷ [] → o ≡ find (is_lighter d) (words_over f n rows front i (k - i) m) → found b x ≡ find (is_lighter d) (words_over f n rows longer (i + 1) (k - (i + 1)) w) → b ≡ true → found true x ≡ o
over_found f n rows d i k m w front longer x b o l e q h r t =
    ap (λ z. found z x) (sym t)
    ∙ found_first (is_lighter d) (words_over f n rows (front ++ i ∷ []) (i + 1) (k - (i + 1)) w) (words_over f n rows front (i + 1) (k - (i + 1)) m) b x t (r ∙ ap (λ y. find (is_lighter d) (words_over f n rows y (i + 1) (k - (i + 1)) w)) q)
    ∙ ap (find (is_lighter d)) (sym (over_next f n rows front i k m w l (omega (arith, e)) e)) ∙ sym h

pub over_passed : (f : FieldName) (n : ℕ) (rows : List (List ℕ)) (d i k m w : ℕ) (front longer x : List ℕ) (b : Bool) (o : Option (List ℕ)) → i < k → m ≡ w + 1 → longer ≡ front ++ i ∷ [] → o ≡ find (is_lighter d) (words_over f n rows front i (k - i) m) → found b x ≡ find (is_lighter d) (words_over f n rows longer (i + 1) (k - (i + 1)) w) → b ≡ false → o ≡ find (is_lighter d) (words_over f n rows front (i + 1) (k - (i + 1)) m)
over_passed f n rows d i k m w front longer x b o l e q h r t =
    h ∙ ap (find (is_lighter d)) (over_next f n rows front i k m w l (omega (arith, e)) e)
    ∙ passed_first (is_lighter d) (words_over f n rows (front ++ i ∷ []) (i + 1) (k - (i + 1)) w) (words_over f n rows front (i + 1) (k - (i + 1)) m) b x t (r ∙ ap (λ y. find (is_lighter d) (words_over f n rows y (i + 1) (k - (i + 1)) w)) q)

no_supports : (i k w : ℕ) → k < w → supports_from i k w ≡ []
no_supports i k w l = nil (supports_from i k w) (length-supports i k w ∙ choose_none k w l)
  where
    nil : (s : List (List ℕ)) → length s ≡ 0 → s ≡ []
    nil [] e = refl
    nil (x ∷ s) e = absurd (omega (arith, e))

pub over_end : (f : FieldName) (n : ℕ) (rows : List (List ℕ)) (d i k m : ℕ) (front x : List ℕ) (o : Option (List ℕ)) → k < m → o ≡ find (is_lighter d) (words_over f n rows front i k m) → found false x ≡ o
unfolding words_over found
over_end f n rows d i k m front x o l h =
    sym (h ∙ ap (λ ss. find (is_lighter d) (flat_map (λ s. support_words f n rows (front ++ s)) ss)) (no_supports i k m l))

take_put : (s : List ℕ) (d p : ℕ) → d < length s → take (suc d) (set s d p) ≡ take d s ++ p ∷ []
take_put [] d p l = absurd (omega (arith, l))
take_put (x ∷ s) zero p l = refl
take_put (x ∷ s) (suc d) p l = ap (λ t. x ∷ t) (take_put s d p (omega (arith, l)))

take_before : (s : List ℕ) (d p : ℕ) → take d (set s d p) ≡ take d s
take_before [] d p = refl
take_before (x ∷ s) zero p = refl
take_before (x ∷ s) (suc d) p = ap (λ t. x ∷ t) (take_before s d p)

take_twice : (s : List ℕ) (d : ℕ) → take d (take (suc d) s) ≡ take d s
take_twice [] zero = refl
take_twice [] (suc d) = refl
take_twice (x ∷ s) zero = refl
take_twice (x ∷ s) (suc d) = ap (λ t. x ∷ t) (take_twice s d)

pub front_longer : (s t : List ℕ) (d p : ℕ) → d < length s → take d s ≡ take d t → take (d + 1) (set s d p) ≡ take d t ++ p ∷ []
front_longer s t d p l e = ap (λ m. take m (set s d p)) (sym (next d)) ∙ take_put s d p l ∙ ap (λ y. y ++ p ∷ []) e

pub front_kept : (s t u : List ℕ) (d p : ℕ) → take (d + 1) u ≡ take (d + 1) (set s d p) → take d s ≡ take d t → take d u ≡ take d t
front_kept s t u d p e q =
    let e' : take (suc d) u ≡ take (suc d) (set s d p) = ap (λ m. take m u) (next d) ∙ e ∙ ap (λ m. take m (set s d p)) (sym (next d)) in
    sym (take_twice u d) ∙ ap (take d) e' ∙ take_twice (set s d p) d ∙ take_before s d p ∙ q

pub front_inside : (s t : List ℕ) (d p k : ℕ) → d < length s → p < k → take d s ≡ take d t → ((i : ℕ) → i < d → slice_index t i < k) → (i : ℕ) → i < d + 1 → slice_index (set s d p) i < k
front_inside s t d p k l m e h i n =
    ⊎_elim
    (λ a. subst (λ y. y < k) (sym (get_or-set_other s d i p 0 (λ q. omega (arith, q, a)) ∙ sym (get_or-take d s i 0 a) ∙ ap (λ y. slice_index y i) e ∙ get_or-take d t i 0 a)) (h i a))
    (λ a. let q : i ≡ d = omega (arith, a, n) in subst (λ y. y < k) (sym (ap (slice_index (set s d p)) q ∙ get_or-set_same s d p 0 l)) m)
    (cases_lt i d)

-- ---- level by level

from_next : (f : FieldName) (n : ℕ) (rows : List (List ℕ)) (w m k : ℕ) → m ≡ suc k → words_from f n rows w m ≡ words_over f n rows [] 0 (length rows) w ++ words_from f n rows (w + 1) k
unfolding words_from level_words
from_next f n rows w m k e = ap (flat_map (level_words f n rows)) (numbers_more w m k e) ∙ flat_map-cons (level_words f n rows) w (numbers_from (w + 1) k)

pub level_found : (f : FieldName) (n : ℕ) (rows : List (List ℕ)) (d w m k r v : ℕ) (x front : List ℕ) (b : Bool) (o : Option (List ℕ)) → m ≡ k + 1 → front ≡ [] → r ≡ length rows → v ≡ w → o ≡ find (is_lighter d) (words_from f n rows w m) → found b x ≡ find (is_lighter d) (words_over f n rows front 0 r v) → b ≡ true → Some x ≡ o
level_found f n rows d w m k r v x front b o e q s z h i t =
    sym (found_some b x t)
    ∙ found_first (is_lighter d) (words_over f n rows [] 0 (length rows) w) (words_from f n rows (w + 1) k) b x t (i ∙ ap₂ (λ y u. find (is_lighter d) (words_over f n rows y 0 u v)) q s ∙ ap (λ u. find (is_lighter d) (words_over f n rows [] 0 (length rows) u)) z)
    ∙ ap (find (is_lighter d)) (sym (from_next f n rows w m k (omega (arith, e)))) ∙ sym h

pub level_passed : (f : FieldName) (n : ℕ) (rows : List (List ℕ)) (d w m k r v : ℕ) (x front : List ℕ) (b : Bool) (o : Option (List ℕ)) → m ≡ k + 1 → front ≡ [] → r ≡ length rows → v ≡ w → o ≡ find (is_lighter d) (words_from f n rows w m) → found b x ≡ find (is_lighter d) (words_over f n rows front 0 r v) → b ≡ false → o ≡ find (is_lighter d) (words_from f n rows (w + 1) k)
level_passed f n rows d w m k r v x front b o e q s z h i t =
    h ∙ ap (find (is_lighter d)) (from_next f n rows w m k (omega (arith, e)))
    ∙ passed_first (is_lighter d) (words_over f n rows [] 0 (length rows) w) (words_from f n rows (w + 1) k) b x t (i ∙ ap₂ (λ y u. find (is_lighter d) (words_over f n rows y 0 u v)) q s ∙ ap (λ u. find (is_lighter d) (words_over f n rows [] 0 (length rows) u)) z)

pub level_end : (f : FieldName) (n : ℕ) (rows : List (List ℕ)) (d w m : ℕ) (o : Option (List ℕ)) → m ≡ 0 → o ≡ find (is_lighter d) (words_from f n rows w m) → None ≡ o
unfolding words_from numbers_from
level_end f n rows d w m o e h = sym (h ∙ ap (λ m. find (is_lighter d) (flat_map (level_words f n rows) (numbers_from w m))) e)

-- ---- the buffer

pub sums_zero : (C : Matrix) (w : ℕ) (sums : List (List ℕ)) → length sums ≡ w + 1 → ((i : ℕ) → i < w + 1 → slice_index_or sums i [] ≡ zero_word C.columns) → AreSums C sums
sums_zero C w sums l z = record {
  some = omega (arith, l);
  zero = z 0 (omega arith);
  words = λ t m. subst (IsWord C.field C.columns) (sym (z t (omega (arith, m, l)))) (IsWord_zero C.field C.columns);
}

pub record Put (C : Matrix) (before others : List (List ℕ)) (d : ℕ) (v : List ℕ) : Type 0 where
  pub is : slice_index_or others (d + 1) [] ≡ v
  pub sums : AreSums C others
  pub kept : (t : ℕ) → t ≤ d → slice_index_or others t [] ≡ slice_index_or before t []

pub sums_put : (C : Matrix) (d c : ℕ) (g : List ℕ) (sums others : List (List ℕ)) → AreSums C sums → IsWord C.field C.columns g → d + 1 < length sums → others ≡ set sums (d + 1) (word_sum C.field (slice_index_or sums d []) (scale C.field c g)) → Put C sums others d (word_sum C.field (slice_index_or sums d []) (scale C.field c g))
sums_put C d c g sums others h is l e =
    let f = C.field in
    let n = C.columns in
    let v = word_sum f (slice_index_or sums d []) (scale f c g) in
    let here : IsWord f n v = IsWord_sum f n (slice_index_or sums d []) (scale f c g) (h.words d (omega (arith, l))).long (length_scale f c g ∙ is.long) in
    rw e (record {
      is = get_or-set_same sums (d + 1) v [] l;
      sums = record {
        some = omega (arith, h.some, length-set sums (d + 1) v);
        zero = get_or-set_other sums (d + 1) 0 v [] (λ q. omega (arith, q)) ∙ h.zero;
        words = λ t m. ⊎_elim
            (λ q. subst (IsWord f n) (sym (ap (λ j. slice_index_or (set sums (d + 1) v) j []) q ∙ get_or-set_same sums (d + 1) v [] l)) here)
            (λ q. subst (IsWord f n) (sym (get_or-set_other sums (d + 1) t v [] q)) (h.words t (omega (arith, m, length-set sums (d + 1) v))))
            (cases_eq t (d + 1));
      };
      kept = λ t m. get_or-set_other sums (d + 1) t v [] (λ q. omega (arith, q, m));
    })
