-- Dots with few terms, and the places of reduced rows.
--   dot_single, dot_pair       the dot if all products but those at one place, or at two, are 0
--   past_end                   past its end a word is 0
--   dot_one, dot_two           the same, if this is known of the places of the words alone
--   index_below                the numbers below n, one by one
--   place_at, at_place         a place of the list, and a column that it holds
--   place_clears               row i is 0 at each place but its own
--   distinct_rising            no column comes twice in a rising list
--   balanced_orthogonal        a word that is 0 but at one further column and at the places has dot 0 with the rows if each place
--                              balances that column
use Rattle.std.proofs.Common.{◌≡◌, ◌≢◌, ℕ, zero, suc, ◌<◌, ◌≤◌, List, [], ◌∷◌, ◌++◌, length, slice_index, slice_index_or, Contains, refl, sym, ap, ◌∙◌, ⊎_elim, arith, zero-lt-suc}
use Rattle.std.proofs.lemmas.List.{get_or_default, get_or_append_left}
use Rattle.std.proofs.Math.Seq.{get_or-append_seam}
use Rattle.std.proofs.lemmas.List.Elements.{All-from_get_or}
use Rattle.std.proofs.lemmas.Bool.{cases_lt, cases_eq}
use Rattle.lc_algebra.specs.declared.FieldName.{FieldName}
use Rattle.lc_algebra.specs.Field.{add, mul}
use Rattle.lc_algebra.specs.Word.{IsWord, word_dot}
use Rattle.lc_algebra.specs.Span.{below}
use Rattle.lc_algebra.specs.Matrix.{entry, HasPivots, IsOrthogonal}
use Rattle.lc_algebra.proofs.FieldLaws.{zero_inside, add_inside, mul_inside, add_comm, zero_add, add_zero, one_mul, zero_mul, mul_zero}
use Rattle.lc_algebra.proofs.WordLaws.{word_symbol}
use Rattle.lc_algebra.proofs.SpanLaws.{length_below, contains_decided}
use Rattle.lc_algebra.proofs.ReducedLaws.{dot_nothing}
use Rattle.lc_algebra.proofs.DimensionLaws.{AreDistinct}

pub dot_single : (f : FieldName) (u v : List ℕ) (a : ℕ) → ((i : ℕ) → i ≢ a → mul f (slice_index u i) (slice_index v i) ≡ 0) → word_dot f u v ≡ mul f (slice_index u a) (slice_index v a)
unfolding word_dot
dot_single f [] v a h = sym (zero_mul f (slice_index v a))
dot_single f (x ∷ u) [] a h = sym (mul_zero f (slice_index (x ∷ u) a))
dot_single f (x ∷ u) (y ∷ v) zero h =
    let t : word_dot f u v ≡ 0 = dot_nothing f u v (λ i l. h (suc i) (λ s. omega (arith, s))) in
    ap (add f (mul f x y)) t ∙ add_zero f (mul f x y) (mul_inside f x y)
dot_single f (x ∷ u) (y ∷ v) (suc a) h =
    let t : word_dot f u v ≡ mul f (slice_index u a) (slice_index v a) = dot_single f u v a (λ i k. h (suc i) (λ s. k (omega (arith, s)))) in
    let z : mul f x y ≡ 0 = h 0 (λ s. omega (arith, s)) in
    cc (t, z, zero_add f (mul f (slice_index u a) (slice_index v a)) (mul_inside f (slice_index u a) (slice_index v a)))

pub dot_pair : (f : FieldName) (u v : List ℕ) (a b : ℕ) → a ≢ b → ((i : ℕ) → i ≢ a → i ≢ b → mul f (slice_index u i) (slice_index v i) ≡ 0) → word_dot f u v ≡ add f (mul f (slice_index u a) (slice_index v a)) (mul f (slice_index u b) (slice_index v b))
unfolding word_dot
dot_pair f [] v a b o h = cc (zero_mul f (slice_index v a), zero_mul f (slice_index v b), zero_add f 0 (zero_inside f))
dot_pair f (x ∷ u) [] a b o h = cc (mul_zero f (slice_index (x ∷ u) a), mul_zero f (slice_index (x ∷ u) b), zero_add f 0 (zero_inside f))
dot_pair f (x ∷ u) (y ∷ v) zero zero o h = absurd (o refl)
dot_pair f (x ∷ u) (y ∷ v) zero (suc b) o h =
    ap (add f (mul f x y)) (dot_single f u v b (λ i k. h (suc i) (λ s. omega (arith, s)) (λ s. k (omega (arith, s)))))
dot_pair f (x ∷ u) (y ∷ v) (suc a) zero o h =
    ap (add f (mul f x y)) (dot_single f u v a (λ i k. h (suc i) (λ s. k (omega (arith, s))) (λ s. omega (arith, s)))) ∙ add_comm f (mul f x y) (mul f (slice_index u a) (slice_index v a))
dot_pair f (x ∷ u) (y ∷ v) (suc a) (suc b) o h =
    let t : word_dot f u v ≡ add f (mul f (slice_index u a) (slice_index v a)) (mul f (slice_index u b) (slice_index v b)) = dot_pair f u v a b (λ s. o (ap suc s)) (λ i k m. h (suc i) (λ s. k (omega (arith, s))) (λ s. m (omega (arith, s)))) in
    let z : mul f x y ≡ 0 = h 0 (λ s. omega (arith, s)) (λ s. omega (arith, s)) in
    ap (λ q. add f q (word_dot f u v)) z ∙ ap (add f 0) t ∙ zero_add f (add f (mul f (slice_index u a) (slice_index v a)) (mul f (slice_index u b) (slice_index v b))) (add_inside f (mul f (slice_index u a) (slice_index v a)) (mul f (slice_index u b) (slice_index v b)))

pub past_end : (w : List ℕ) (c : ℕ) → length w ≤ c → slice_index w c ≡ 0
past_end [] c l = refl
past_end (a ∷ w) zero l = absurd (omega (arith, l))
past_end (a ∷ w) (suc c) l = past_end w c (omega (arith, l))

-- past the end of the second word the products are 0
product_zero : (f : FieldName) (cs us : List ℕ) (i : ℕ) → (i < length us → mul f (slice_index cs i) (slice_index us i) ≡ 0) → mul f (slice_index cs i) (slice_index us i) ≡ 0
product_zero f cs us i z =
    ⊎_elim z (λ m. ap (mul f (slice_index cs i)) (past_end us i m) ∙ mul_zero f (slice_index cs i)) (cases_lt i (length us))

pub dot_one : (f : FieldName) (cs us : List ℕ) (q : ℕ) → ((i : ℕ) → i < length us → i ≢ q → mul f (slice_index cs i) (slice_index us i) ≡ 0) → word_dot f cs us ≡ mul f (slice_index cs q) (slice_index us q)
dot_one f cs us q z = dot_single f cs us q (λ i o. product_zero f cs us i (λ m. z i m o))

pub dot_two : (f : FieldName) (cs us : List ℕ) (p q : ℕ) → p < q → ((i : ℕ) → i < length us → i ≢ p → i ≢ q → mul f (slice_index cs i) (slice_index us i) ≡ 0) → word_dot f cs us ≡ add f (mul f (slice_index cs p) (slice_index us p)) (mul f (slice_index cs q) (slice_index us q))
dot_two f cs us p q k z = dot_pair f cs us p q (λ e. omega (arith, e, k)) (λ i o r. product_zero f cs us i (λ m. z i m o r))

pub index_below : (n c : ℕ) → c < n → slice_index (below n) c ≡ c
unfolding below
index_below zero c l = absurd (omega (arith, l))
index_below (suc n) c l =
    ⊎_elim
    (λ m. get_or_append_left (below n) (n ∷ []) 0 c (omega (arith, m, length_below n)) ∙ index_below n c m)
    (λ m.
    let e : c ≡ length (below n) = omega (arith, l, m, length_below n) in
    ap (slice_index (below n ++ n ∷ [])) e ∙ get_or-append_seam (below n) n [] 0 ∙ omega (arith, l, m))
    (cases_lt c n)

pub place_at : (ps : List ℕ) (c : ℕ) → (t : Contains ps c) → slice_index ps t.0 ≡ c
place_at ps c t = get_or_default ps t.0 0 c t.1 ∙ t.2

pub at_place : (ps : List ℕ) (i c : ℕ) → i < length ps → slice_index ps i ≡ c → Contains ps c
at_place ps i c l e = (i, l, get_or_default ps i c 0 l ∙ e)

pub place_clears : (n : ℕ) (ps : List ℕ) (e : List (List ℕ)) (i c : ℕ) → HasPivots n ps e → i < length e → Contains ps c → c ≢ slice_index ps i → entry e i c ≡ 0
place_clears n ps e i c h l t o =
    ap (entry e i) (sym (place_at ps c t)) ∙ h.clears t.0 i (omega (arith, t.1, h.count)) l (λ s. o (sym (place_at ps c t) ∙ ap (slice_index ps) s))

pub distinct_rising : (ps : List ℕ) → ((i j : ℕ) → i < j → j < length ps → slice_index ps i < slice_index ps j) → AreDistinct ps
distinct_rising [] h = tt
distinct_rising (p ∷ ps) h = (
  (λ c. omega (arith, h 0 (suc c.0) (zero-lt-suc c.0) (omega (arith, c.1)), get_or_default ps c.0 0 p c.1 ∙ c.2)),
  distinct_rising ps (λ i j l k. h (suc i) (suc j) (omega (arith, l)) (omega (arith, k))),
)

pub balanced_orthogonal : (f : FieldName) (n : ℕ) (ps : List ℕ) (e : List (List ℕ)) (j : ℕ) (w : List ℕ) → HasPivots n ps e → IsWord f n w → (Contains ps j → ⊥) → ((i : ℕ) → i < length e → add f (slice_index w (slice_index ps i)) (mul f (entry e i j) (slice_index w j)) ≡ 0) → ((c : ℕ) → c ≢ j → (Contains ps c → ⊥) → slice_index w c ≡ 0) → IsOrthogonal f e w
balanced_orthogonal f n ps e j w h q o b z =
    All-from_get_or (λ row. word_dot f row w ≡ 0) e [] (λ i l.
    let p = slice_index ps i in
    let apart : p ≢ j = λ s. o (at_place ps i j (omega (arith, l, h.count)) s) in
    let rest : (c : ℕ) → c ≢ p → c ≢ j → mul f (entry e i c) (slice_index w c) ≡ 0 = λ c x y. ⊎_elim
    (λ t. ap (λ k. mul f k (slice_index w c)) (place_clears n ps e i c h l t x) ∙ zero_mul f (slice_index w c))
    (λ s. ap (mul f (entry e i c)) (z c y s) ∙ mul_zero f (entry e i c))
    (contains_decided cases_eq ps c) in
    let one : mul f (entry e i p) (slice_index w p) ≡ slice_index w p = ap (λ k. mul f k (slice_index w p)) (h.leads i l) ∙ one_mul f (slice_index w p) (word_symbol f n w q p) in
    dot_pair f (slice_index_or e i []) w p j apart rest ∙ ap (λ k. add f k (mul f (entry e i j) (slice_index w j))) one ∙ b i l)
