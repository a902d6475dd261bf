-- The kernel of some rows from rows with the same words that are reduced from the right.
--   IsReducedAt n ps rows  each of the first rows has a place, at which it is a 1 that is alone in its column; the others are 0
--   back_of                rows that are reduced in that order are reduced from the right
--   free_none, free_held, free_pushed      which columns are free
--   kernel_word_none, kernel_word_at, kernel_word_more     the word of a free column, place by place
--   kernel_orthogonal      it has dot 0 with the rows
--   kernel_places          the words of all free columns are reduced
--   kernel_identity        they are the identity on the free columns
--   kernel_whole           and each word that has dot 0 with the rows is one of theirs
--   kernel_members         so these are the words with dot 0 with the rows
--   words_none, words_more  the words of the free columns, one by one
--   kernel_of, kernel_made, back_made      the kernel, and the calls' shape of it
use Rattle.std.proofs.Common.{◌≡◌, ◌≢◌, ℕ, zero, suc, ◌+◌, ◌-◌, ◌<◌, ◌≤◌, ◌↔◌, ◌⊎◌, inl, inr, List, [], ◌∷◌, ◌++◌, length, set, slice_index, slice_index_or, refl, sym, ap, subst, ◌∙◌, ⊎_elim, arith}
use Rattle.std.proofs.lemmas.Bool.{cases_eq, cases_lt, eq-eqb, ne_eqb}
use Rattle.std.proofs.lemmas.List.{length-set, get_or-set_same, get_or-set_other, get_or_push, length_push, ext_get_or}
use Rattle.std.proofs.Math.ListN.{get_or-append}
use Rattle.std.proofs.lemmas.List.Elements.{All-from_get_or}
use Rattle.lc_algebra.specs.declared.FieldName.{FieldName}
use Rattle.lc_algebra.specs.Field.{size, add, mul, neg}
use Rattle.lc_algebra.specs.Word.{IsWord, zero_word, scale, word_dot, difference}
use Rattle.lc_algebra.specs.Span.{combine, InSpan, SameSpan}
use Rattle.lc_algebra.specs.Matrix.{AreRows, HasPivots, IsReducedGenerator, IsOrthogonal, IsIdentityOn, Matrix, entry}
use Rattle.lc_algebra.specs.SpanLaws.{restrict}
use Rattle.lc_algebra.proofs.FieldLaws.{one_inside, zero_inside, zero_add, add_neg, neg_add, mul_zero, zero_mul, mul_one, one_mul, neg_inside, neg_zero}
use Rattle.lc_algebra.proofs.WordLaws.{length_scale, length_zero_word, index_zero_word, word_symbol, index_difference, IsWord_difference, same_from_difference, dot_comm, dot_sum, dot_scale}
use Rattle.lc_algebra.proofs.SpanLaws.{span_word, dot_span, orthogonal_shared, word_of_combination, same_span_symmetric}
use Rattle.lc_algebra.proofs.ReducedLaws.{dot_nothing, symbol_of_combination}
use Rattle.lc_algebra.proofs.ColumnLaws.{length_restrict, index_restrict}
use Rattle.lc_matrix.specs.Elimination.{IsReducedTo, IsTurned}
use Rattle.lc_matrix.specs.Kernel.{IsReducedBack, IsFree, IsKernelWord, AreKernelWords}
use Rattle.lc_matrix.proofs.PlaceLaws.{dot_pair, dot_one}

-- each of the first rows has a place, at which it is a 1 that is alone in its column; the rows after these are 0
pub record IsReducedAt (n : ℕ) (ps : List ℕ) (rows : List (List ℕ)) : Type 0 where
  pub at_most : length ps ≤ length rows
  pub inside : (i : ℕ) → i < length ps → slice_index ps i < n
  pub leads : (i : ℕ) → i < length ps → entry rows i (slice_index ps i) ≡ 1
  pub clears : (i j : ℕ) → i < length ps → j < length rows → i ≢ j → entry rows j (slice_index ps i) ≡ 0
  pub below : (j c : ℕ) → length ps ≤ j → j < length rows → c < n → entry rows j c ≡ 0

at_of_back : (n : ℕ) (ps : List ℕ) (rows : List (List ℕ)) → IsReducedBack n ps rows → IsReducedAt n ps rows
at_of_back n ps rows b = record { at_most = b.at_most; inside = b.inside; leads = b.leads; clears = b.clears; below = b.below }

pub back_of : (n : ℕ) (order at ps : List ℕ) (rows : List (List ℕ)) → IsTurned n order → IsReducedTo order (length order) at rows → length ps ≡ length at → ((i : ℕ) → i < length at → slice_index ps i ≡ n - 1 - slice_index at i) → IsReducedBack n ps rows
back_of n order at ps rows o h e p =
    let below_n : (i : ℕ) → i < length at → slice_index at i < n = λ i l. omega (arith, h.inside i l, o.count) in
    let col : (s : ℕ) → s < n → slice_index order s ≡ n - 1 - s = λ s l. o.entries s l in
    let place : (i : ℕ) → i < length at → slice_index order (slice_index at i) ≡ slice_index ps i = λ i l. col (slice_index at i) (below_n i l) ∙ sym (p i l) in
    let back : (c : ℕ) → c < n → slice_index order (n - 1 - c) ≡ c = λ c l. let q : n - 1 - (n - 1 - c) ≡ c = omega (arith, l) in col (n - 1 - c) (omega (arith, l)) ∙ q in
    record {
      at_most = omega (arith, e, h.at_most);
      inside = λ i l. let m : i < length at = omega (arith, l, e) in omega (arith, p i m, below_n i m);
      after = λ i c l m k.
          let a : i < length at = omega (arith, l, e) in
          ap (entry rows i) (sym (back c k)) ∙ h.before i (n - 1 - c) a (omega (arith, m, k, p i a, below_n i a));
      leads = λ i l. let a : i < length at = omega (arith, l, e) in ap (entry rows i) (sym (place i a)) ∙ h.leads i a;
      clears = λ i j l m q. let a : i < length at = omega (arith, l, e) in ap (entry rows j) (sym (place i a)) ∙ h.clears i j a m q;
      below = λ j c l m k. ap (entry rows j) (sym (back c k)) ∙ h.below j (n - 1 - c) (omega (arith, l, e)) m (omega (arith, k, o.count));
    }

pub free_none : (ps : List ℕ) → IsFree ps 0 []
free_none ps =
    record {
      at_most = omega arith;
      inside = λ i l. absurd (omega (arith, l));
      rises = λ i k l m. absurd (omega (arith, m));
      apart = λ i k l. absurd (omega (arith, l));
      whole = λ c l. absurd (omega (arith, l));
    }

pub free_held : (ps free : List ℕ) (j k : ℕ) → IsFree ps j free → k < length ps → slice_index ps k ≡ j → IsFree ps (j + 1) free
free_held ps free j k h l e =
    record {
      at_most = omega (arith, h.at_most);
      inside = λ i m. omega (arith, h.inside i m);
      rises = h.rises;
      apart = h.apart;
      whole = λ c m. ⊎_elim
          (λ a. h.whole c a)
          (λ a. let q : j ≡ c = omega (arith, a, m) in inl (k, l, e ∙ q))
          (cases_lt c j);
    }

pub free_pushed : (ps free : List ℕ) (j : ℕ) → IsFree ps j free → ((k : ℕ) → k < length ps → slice_index ps k ≢ j) → IsFree ps (j + 1) (free ++ j ∷ [])
free_pushed ps free j h o =
    let more = free ++ j ∷ [] in
    let r = length free in
    let long : length more ≡ r + 1 = length_push free j in
    let old : (i : ℕ) → i < r → slice_index more i ≡ slice_index free i = λ i l. get_or-append free (j ∷ []) 0 i l in
    let last : slice_index more r ≡ j = get_or_push free j 0 r refl in
    let last_at : (i : ℕ) → r ≤ i → i < length more → slice_index more i ≡ j = λ i l m. let e : i ≡ r = omega (arith, l, m, long) in ap (slice_index more) e ∙ last in
    record {
      at_most = omega (arith, long, h.at_most);
      inside = λ i l. ⊎_elim (λ a. omega (arith, old i a, h.inside i a)) (λ a. omega (arith, last_at i a l)) (cases_lt i r);
      rises = λ i k l m.
          let a : i < r = omega (arith, l, m, long) in
          ⊎_elim (λ b. omega (arith, old i a, old k b, h.rises i k l b)) (λ b. omega (arith, old i a, h.inside i a, last_at k b m)) (cases_lt k r);
      apart = λ i k l m. ⊎_elim (λ a e. h.apart i k a m (e ∙ old i a)) (λ a e. o k m (e ∙ last_at i a l)) (cases_lt i r);
      whole = λ c m. ⊎_elim
          (λ a. ⊎_elim (λ x. inl x) (λ x. inr (x.0, omega (arith, x.1, long), old x.0 x.1 ∙ x.2)) (h.whole c a))
          (λ a. let q : j ≡ c = omega (arith, a, m) in inr (r, omega (arith, long), last ∙ q))
          (cases_lt c j);
    }

-- two rows have different places
one_place : (f : FieldName) (n k i : ℕ) (ps : List ℕ) (rows : List (List ℕ)) → IsReducedAt n ps rows → k < length ps → i < length ps → k ≢ i → slice_index ps k ≡ slice_index ps i → ⊥
one_place f n k i ps rows b l m o e =
    omega (arith, b.leads i m, ap (entry rows i) (sym e) ∙ b.clears k i l (omega (arith, m, b.at_most)) o)

held_not : (p c : ℕ) (ps : List ℕ) → p ≢ c → ((k : ℕ) → k < length ps → slice_index ps k ≢ c) → (k : ℕ) → k < length (p ∷ ps) → slice_index (p ∷ ps) k ≢ c
held_not p c ps o z zero l = o
held_not p c ps o z (suc k) l = z k (omega (arith, l))

-- a column is a place or it isn't
pub held : (ps : List ℕ) (c : ℕ) → ((k : ℕ) × (k < length ps) × (slice_index ps k ≡ c)) ⊎ ((k : ℕ) → k < length ps → slice_index ps k ≢ c)
held [] c = inr (λ k l. absurd (omega (arith, l)))
held (p ∷ ps) c =
    ⊎_elim
    (λ e. inl (0, omega arith, e))
    (λ o. ⊎_elim
    (λ z. inl (suc z.0, omega (arith, z.1), z.2))
    (λ z. inr (held_not p c ps o z))
    (held ps c))
    (cases_eq p c)

rises_apart : (free : List ℕ) → ((i k : ℕ) → i < k → k < length free → slice_index free i < slice_index free k) → (i j : ℕ) → i < length free → j < length free → slice_index free i ≡ slice_index free j → i ≡ j
rises_apart free r i j l m e =
    ⊎_elim
    (λ a. absurd (omega (arith, r i j a m, e)))
    (λ a. ⊎_elim (λ b. absurd (omega (arith, r j i b l, e))) (λ b. omega (arith, a, b)) (cases_lt j i))
    (cases_lt i j)

dot_difference : (f : FieldName) (g w u : List ℕ) → length w ≡ length u → word_dot f g w ≡ 0 → word_dot f g u ≡ 0 → word_dot f g (difference f w u) ≡ 0
unfolding difference
dot_difference f g w u e a b =
    dot_sum f g w (scale f (neg f 1) u) (e ∙ sym (length_scale f (neg f 1) u)) ∙ ap (λ x. add f x (word_dot f g (scale f (neg f 1) u))) a ∙ ap (add f 0) (dot_scale f (neg f 1) g u ∙ ap (mul f (neg f 1)) b ∙ mul_zero f (neg f 1)) ∙ zero_add f 0 (zero_inside f)

pub kernel_word_none : (f : FieldName) (n j : ℕ) (ps : List ℕ) (rows : List (List ℕ)) (w : List ℕ) → j < n → w ≡ set (zero_word n) j 1 → IsKernelWord f n ps rows j 0 w
kernel_word_none f n j ps rows w l e =
    let z = zero_word n in
    let long : length z ≡ n = length_zero_word n in
    subst (IsKernelWord f n ps rows j 0) (sym e) (record {
      word = record {
        long = length-set z j 1 ∙ long;
        fits = λ i m. ⊎_elim
            (λ q. subst (λ x. slice_index (set z j 1) x < size f) (sym q) (rw (get_or-set_same z j 1 0 (omega (arith, l, long))) (one_inside f)))
            (λ q. rw (get_or-set_other z j i 1 0 q) (rw (index_zero_word n i) (zero_inside f)))
            (cases_eq i j);
      };
      one = get_or-set_same z j 1 0 (omega (arith, l, long));
      places = λ k m. absurd (omega (arith, m));
      others = λ c q o. get_or-set_other z j c 1 0 q ∙ index_zero_word n c;
    })

pub kernel_word_at : (f : FieldName) (n j i a : ℕ) (ps : List ℕ) (rows : List (List ℕ)) (w new : List ℕ) → IsReducedAt n ps rows → IsKernelWord f n ps rows j i w → i < length ps → ((k : ℕ) → k < length ps → slice_index ps k ≢ j) → a ≡ neg f (entry rows i j) → new ≡ set w (slice_index ps i) a → IsKernelWord f n ps rows j (i + 1) new
kernel_word_at f n j i a ps rows w new b h l o e q =
    let p = slice_index ps i in
    let room : p < length w = omega (arith, b.inside i l, h.word.long) in
    subst (IsKernelWord f n ps rows j (i + 1)) (sym q) (record {
      word = record {
        long = length-set w p a ∙ h.word.long;
        fits = λ c m. ⊎_elim
            (λ x. subst (λ y. slice_index (set w p a) y < size f) (sym x) (rw (get_or-set_same w p a 0 room) (subst (λ y. y < size f) (sym e) (neg_inside f (entry rows i j)))))
            (λ x. rw (get_or-set_other w p c a 0 x) (word_symbol f n w h.word c))
            (cases_eq c p);
      };
      one = get_or-set_other w p j a 0 (λ x. o i l (sym x)) ∙ h.one;
      places = λ k m. ⊎_elim
          (λ x. subst (λ y. slice_index (set w p a) (slice_index ps y) ≡ neg f (entry rows y j)) (sym x) (get_or-set_same w p a 0 room ∙ e))
          (λ x.
          let below : k < i = ⊎_elim (λ y. y) (λ y. absurd (x (omega (arith, y, m)))) (cases_lt k i) in
          let other : slice_index ps k ≢ p = λ y. one_place f n k i ps rows b (omega (arith, below, l)) l x y in
          get_or-set_other w p (slice_index ps k) a 0 other ∙ h.places k below)
          (cases_eq k i);
      others = λ c x y. get_or-set_other w p c a 0 (λ z. y i l (sym z)) ∙ h.others c x y;
    })

pub kernel_word_more : (f : FieldName) (n j i a : ℕ) (ps : List ℕ) (rows : List (List ℕ)) (w new : List ℕ) → IsReducedBack n ps rows → IsKernelWord f n ps rows j i w → i < length ps → ((k : ℕ) → k < length ps → slice_index ps k ≢ j) → a ≡ neg f (entry rows i j) → new ≡ set w (slice_index ps i) a → IsKernelWord f n ps rows j (i + 1) new
kernel_word_more f n j i a ps rows w new b h l o e q = kernel_word_at f n j i a ps rows w new (at_of_back n ps rows b) h l o e q

pub kernel_orthogonal : (f : FieldName) (n j k : ℕ) (ps : List ℕ) (rows : List (List ℕ)) (w : List ℕ) → AreRows f n rows → IsReducedAt n ps rows → j < n → ((i : ℕ) → i < length ps → slice_index ps i ≢ j) → IsKernelWord f n ps rows j (length ps) w → k < length rows → word_dot f (slice_index_or rows k []) w ≡ 0
kernel_orthogonal f n j k ps rows w r b l o h m =
    let g = slice_index_or rows k [] in
    let row = r k [] m in
    let product : ℕ → ℕ = λ c. mul f (slice_index g c) (slice_index w c) in
    let at_j : product j ≡ entry rows k j = ap (mul f (slice_index g j)) h.one ∙ mul_one f (slice_index g j) (word_symbol f n g row j) in
    ⊎_elim
    (λ a.
    let p = slice_index ps k in
    let at_p : product p ≡ neg f (entry rows k j) = ap (λ x. mul f x (slice_index w p)) (b.leads k a) ∙ one_mul f (slice_index w p) (word_symbol f n w h.word p) ∙ h.places k a in
    let elsewhere : (c : ℕ) → c ≢ p → c ≢ j → product c ≡ 0 = λ c x y. ⊎_elim
    (λ z.
    let other : z.0 ≢ k = λ q. x (sym z.2 ∙ ap (slice_index ps) q) in
    ap (λ v. mul f v (slice_index w c)) (ap (entry rows k) (sym z.2) ∙ b.clears z.0 k z.1 m other) ∙ zero_mul f (slice_index w c))
    (λ z. ap (mul f (slice_index g c)) (h.others c y z) ∙ mul_zero f (slice_index g c))
    (held ps c) in
    dot_pair f g w p j (o k a) elsewhere ∙ ap (λ v. add f v (product j)) at_p ∙ ap (add f (neg f (entry rows k j))) at_j ∙ neg_add f (entry rows k j))
    (λ a. dot_nothing f g w (λ c x. ap (λ v. mul f v (slice_index w c)) (b.below k c a m (omega (arith, x, h.word.long))) ∙ zero_mul f (slice_index w c)))
    (cases_lt k (length ps))

pub words_none : (f : FieldName) (n : ℕ) (ps : List ℕ) (rows : List (List ℕ)) (free : List ℕ) (kernel : List (List ℕ)) → kernel ≡ [] → AreKernelWords f n ps rows free 0 kernel
words_none f n ps rows free kernel e =
    record { count = ap length e; words = λ i l. absurd (omega (arith, l)) }

pub words_more : (f : FieldName) (n i : ℕ) (ps : List ℕ) (rows : List (List ℕ)) (free : List ℕ) (kernel new : List (List ℕ)) (w : List ℕ) → AreKernelWords f n ps rows free i kernel → IsKernelWord f n ps rows (slice_index free i) (length ps) w → new ≡ kernel ++ w ∷ [] → AreKernelWords f n ps rows free (i + 1) new
words_more f n i ps rows free kernel new w h k e =
    subst (AreKernelWords f n ps rows free (i + 1)) (sym e) (record {
      count = length_push kernel w ∙ ap (λ x. x + 1) h.count;
      words = λ j l. ⊎_elim
          (λ a. subst (IsKernelWord f n ps rows (slice_index free j) (length ps)) (sym (get_or-append kernel (w ∷ []) [] j (omega (arith, a, h.count)))) (h.words j a))
          (λ a.
          let q : j ≡ i = omega (arith, a, l) in
          subst (λ x. IsKernelWord f n ps rows (slice_index free x) (length ps) (slice_index_or (kernel ++ w ∷ []) x [])) (sym q) (subst (IsKernelWord f n ps rows (slice_index free i) (length ps)) (sym (get_or_push kernel w [] i h.count)) k))
          (cases_lt j i);
    })

pub kernel_rows : (f : FieldName) (n : ℕ) (ps : List ℕ) (rows : List (List ℕ)) (free : List ℕ) (kernel : List (List ℕ)) → AreKernelWords f n ps rows free (length free) kernel → AreRows f n kernel
kernel_rows f n ps rows free kernel h =
    All-from_get_or (IsWord f n) kernel [] (λ i l. (h.words i (omega (arith, l, h.count))).word)

pub kernel_places : (f : FieldName) (n : ℕ) (ps : List ℕ) (rows : List (List ℕ)) (free : List ℕ) (kernel : List (List ℕ)) → IsReducedBack n ps rows → IsFree ps n free → AreKernelWords f n ps rows free (length free) kernel → HasPivots n free kernel
kernel_places f n ps rows free kernel b o h =
    record {
      count = sym h.count;
      inside = o.inside;
      rises = o.rises;
      before = λ i c l m.
          let a : i < length free = omega (arith, l, h.count) in
          let w = h.words i a in
          let j = slice_index free i in
          ⊎_elim
          (λ z. ap (slice_index (slice_index_or kernel i [])) (sym z.2) ∙ w.places z.0 z.1 ∙ ap (neg f) (b.after z.0 j z.1 (omega (arith, z.2, m)) (o.inside i a)) ∙ neg_zero f)
          (λ z. w.others c (λ q. omega (arith, q, m)) z)
          (held ps c);
      leads = λ i l. (h.words i (omega (arith, l, h.count))).one;
      clears = λ i j l m q.
          let a : i < length free = omega (arith, l, h.count) in
          let c : j < length free = omega (arith, m, h.count) in
          (h.words j c).others (slice_index free i) (λ x. q (rises_apart free o.rises i j a c x)) (λ k t. o.apart i k a t);
    }

pub kernel_identity : (f : FieldName) (n : ℕ) (ps : List ℕ) (rows : List (List ℕ)) (free : List ℕ) (kernel : List (List ℕ)) → IsFree ps n free → AreKernelWords f n ps rows free (length free) kernel → IsIdentityOn free kernel
kernel_identity f n ps rows free kernel o h i j l m =
    let a : i < length free = omega (arith, l, h.count) in
    ⊎_elim
    (λ e. rw (eq-eqb i j e) (ap (λ k. entry kernel i (slice_index free k)) (sym e) ∙ (h.words i a).one))
    (λ x. rw (ne_eqb i j x) ((h.words i a).others (slice_index free j) (λ y. x (rises_apart free o.rises i j a m (sym y))) (λ k t. o.apart j k m t)))
    (cases_eq i j)

pub kernel_whole : (f : FieldName) (n : ℕ) (ps : List ℕ) (rows : List (List ℕ)) (free : List ℕ) (kernel : List (List ℕ)) (w : List ℕ) → AreRows f n rows → IsReducedAt n ps rows → IsFree ps n free → AreKernelWords f n ps rows free (length free) kernel → IsWord f n w → IsOrthogonal f rows w → InSpan f n kernel w
kernel_whole f n ps rows free kernel w r b o h word orth =
    let k = kernel_rows f n ps rows free kernel h in
    let cs = restrict free w in
    let cs_word : IsWord f (length kernel) cs = record {
      long = length_restrict free w ∙ sym h.count;
      fits = λ i l. rw (index_restrict free w i (omega (arith, l, length_restrict free w))) (word_symbol f n w word (slice_index free i));
    } in
    let u = combine f n cs kernel in
    let inside : InSpan f n kernel u = word_of_combination f n kernel cs cs_word in
    let u_word : IsWord f n u = span_word f n kernel u k inside in
    let d = difference f w u in
    let d_word : IsWord f n d = IsWord_difference f n w u word.long u_word.long in
    let u_orth : (i : ℕ) → i < length rows → word_dot f (slice_index_or rows i []) u ≡ 0 = λ i l. dot_comm f (slice_index_or rows i []) u ∙ dot_span f n kernel (slice_index_or rows i []) u k (All-from_get_or (λ v. word_dot f v (slice_index_or rows i []) ≡ 0) kernel [] (λ j m.
    let a : j < length free = omega (arith, m, h.count) in
    dot_comm f (slice_index_or kernel j []) (slice_index_or rows i []) ∙ kernel_orthogonal f n (slice_index free j) i ps rows (slice_index_or kernel j []) r b (o.inside j a) (λ t x. o.apart j t a x) (h.words j a) l)) inside in
    let d_orth : (i : ℕ) → i < length rows → word_dot f (slice_index_or rows i []) d ≡ 0 = λ i l. dot_difference f (slice_index_or rows i []) w u (word.long ∙ sym u_word.long) (orth i [] l) (u_orth i l) in
    let d_at : (c : ℕ) → slice_index d c ≡ add f (slice_index w c) (neg f (slice_index u c)) = λ c. index_difference f w u c (word.long ∙ sym u_word.long) in
    let at_free : (i : ℕ) → i < length free → slice_index d (slice_index free i) ≡ 0 = λ i l.
    let same : slice_index u (slice_index free i) ≡ slice_index w (slice_index free i) = symbol_of_combination f n free kernel cs i k h.count (kernel_identity f n ps rows free kernel o h) cs_word l ∙ index_restrict free w i l in
    d_at (slice_index free i) ∙ ap (λ x. add f (slice_index w (slice_index free i)) (neg f x)) same ∙ add_neg f (slice_index w (slice_index free i)) in
    let at_place : (i : ℕ) → i < length ps → slice_index d (slice_index ps i) ≡ 0 = λ i l.
    let g = slice_index_or rows i [] in
    let m : i < length rows = omega (arith, l, b.at_most) in
    let p = slice_index ps i in
    let single : word_dot f g d ≡ mul f (slice_index g p) (slice_index d p) = dot_one f g d p (λ c x y. ⊎_elim
    (λ z.
    let other : z.0 ≢ i = λ q. y (sym z.2 ∙ ap (slice_index ps) q) in
    ap (λ v. mul f v (slice_index d c)) (ap (entry rows i) (sym z.2) ∙ b.clears z.0 i z.1 m other) ∙ zero_mul f (slice_index d c))
    (λ z. ap (mul f (slice_index g c)) (ap (slice_index d) (sym z.2) ∙ at_free z.0 z.1) ∙ mul_zero f (slice_index g c))
    (o.whole c (omega (arith, x, d_word.long)))) in
    sym (ap (λ v. mul f v (slice_index d p)) (b.leads i l) ∙ one_mul f (slice_index d p) (word_symbol f n d d_word p)) ∙ sym single ∙ d_orth i m in
    let nothing : d ≡ zero_word n = ext_get_or 0 d (zero_word n) (d_word.long ∙ sym (length_zero_word n)) (λ c l. ⊎_elim
    (λ z. ap (slice_index d) (sym z.2) ∙ at_place z.0 z.1)
    (λ z. ap (slice_index d) (sym z.2) ∙ at_free z.0 z.1)
    (o.whole c (omega (arith, l, d_word.long))) ∙ sym (index_zero_word n c)) in
    subst (InSpan f n kernel) (sym (same_from_difference f n w u word u_word nothing)) inside

pub kernel_members : (f : FieldName) (n : ℕ) (ps : List ℕ) (original rows : List (List ℕ)) (free : List ℕ) (kernel : List (List ℕ)) (w : List ℕ) → AreRows f n original → AreRows f n rows → SameSpan f n original rows → IsReducedAt n ps rows → IsFree ps n free → AreKernelWords f n ps rows free (length free) kernel → InSpan f n kernel w ↔ (IsWord f n w × IsOrthogonal f original w)
kernel_members f n ps original rows free kernel w q r s b o h =
    let k = kernel_rows f n ps rows free kernel h in (
      (λ x. (
        span_word f n kernel w k x,
        orthogonal_shared f n rows original w r q (same_span_symmetric f n original rows s) (All-from_get_or (λ row. word_dot f row w ≡ 0) rows [] (λ i l.
            dot_comm f (slice_index_or rows i []) w ∙ dot_span f n kernel (slice_index_or rows i []) w k (All-from_get_or (λ v. word_dot f v (slice_index_or rows i []) ≡ 0) kernel [] (λ j m.
            let a : j < length free = omega (arith, m, h.count) in
            dot_comm f (slice_index_or kernel j []) (slice_index_or rows i []) ∙ kernel_orthogonal f n (slice_index free j) i ps rows (slice_index_or kernel j []) r b (o.inside j a) (λ t y. o.apart j t a y) (h.words j a) l)) x)),
      )),
      (λ x. kernel_whole f n ps rows free kernel w r b o h x.0 (orthogonal_shared f n original rows w q r s x.1)),
    )

pub kernel_of : (f : FieldName) (n : ℕ) (ps : List ℕ) (original rows : List (List ℕ)) (free : List ℕ) (kernel : List (List ℕ)) → AreRows f n original → AreRows f n rows → SameSpan f n original rows → IsReducedBack n ps rows → IsFree ps n free → AreKernelWords f n ps rows free (length free) kernel → IsReducedGenerator f n (IsOrthogonal f original) kernel
kernel_of f n ps original rows free kernel q r s b o h = record {
  members = λ w. kernel_members f n ps original rows free kernel w q r s (at_of_back n ps rows b) o h;
  reduced = record { pivots = (free, kernel_places f n ps rows free kernel b o h) };
  words = kernel_rows f n ps rows free kernel h;
}

pub back_made : (n m : ℕ) (order read at seen ps : List ℕ) (rows : List (List ℕ)) → n ≡ m → IsTurned n order → read ≡ order → IsReducedTo read (length read) at rows → seen ≡ at → length ps ≡ length seen → ((i : ℕ) → i < length seen → slice_index ps i ≡ n - 1 - slice_index seen i) → IsReducedBack m ps rows
back_made n m order read at seen ps rows e o q h x l p =
    subst (λ y. IsReducedBack y ps rows) e (back_of n order at ps rows o (subst (λ y. IsReducedTo y (length y) at rows) q h) (l ∙ ap length x) (λ i k. p i (subst (λ y. i < length y) (sym x) k) ∙ ap (λ y. n - 1 - slice_index y i) x))

pub kernel_made : (original copy reduced result : Matrix) (ps read : List ℕ) → AreRows original.field original.columns original.rows → copy ≡ original → reduced.field ≡ copy.field → reduced.columns ≡ copy.columns → AreRows reduced.field reduced.columns reduced.rows → SameSpan copy.field copy.columns copy.rows reduced.rows → IsReducedBack reduced.columns ps reduced.rows → read ≡ ps → ((free : List ℕ) × IsFree read reduced.columns free × AreKernelWords reduced.field reduced.columns read reduced.rows free (length free) result.rows) → IsReducedGenerator original.field original.columns (IsOrthogonal original.field original.rows) result.rows
kernel_made original copy reduced result ps read r es ef ec w s b er k =
    let words : AreRows copy.field copy.columns reduced.rows = subst (λ x. AreRows x copy.columns reduced.rows) ef (subst (λ x. AreRows reduced.field x reduced.rows) ec w) in
    let own : AreRows copy.field copy.columns copy.rows = subst (λ (x : Matrix). AreRows x.field x.columns x.rows) (sym es) r in
    let back : IsReducedBack copy.columns read reduced.rows = subst (λ x. IsReducedBack copy.columns x reduced.rows) (sym er) (subst (λ x. IsReducedBack x ps reduced.rows) ec b) in
    let free_of : IsFree read copy.columns k.0 = subst (λ x. IsFree read x k.0) ec k.1 in
    let kernel : AreKernelWords copy.field copy.columns read reduced.rows k.0 (length k.0) result.rows = subst (λ x. AreKernelWords x copy.columns read reduced.rows k.0 (length k.0) result.rows) ef (subst (λ x. AreKernelWords reduced.field x read reduced.rows k.0 (length k.0) result.rows) ec k.2) in
    subst (λ (x : Matrix). IsReducedGenerator x.field x.columns (IsOrthogonal x.field x.rows) result.rows) es (kernel_of copy.field copy.columns read copy.rows reduced.rows k.0 result.rows own words s back free_of kernel)

pub ruleset push_words_laws = (words_none, words_more)

pub ruleset kernel_word_laws = (kernel_word_none, kernel_word_more)
