-- A scan of words keeps the first nonzero one.
--   at_most_told                 the order of slices is that of words
--   offered, kept, passed        a word is offered to the best one
--   first_none, first_then       nothing offered; one scan after another
--   scan_none, scan_more, scan_all, scan_leaf      the turns of a scan over the multiples of a row
--   least_found, least_none      the whole scan, from the zero word and none
--   zeros_fit, scan_whole        from where it starts
--   rows_tail, row_word, scan_empty, scan_turn, scan_back, scan_done      the same, with the equations that the code has
use Rattle.std.proofs.Common.{◌≡◌, ℕ, ◌+◌, ◌<◌, ◌≤◌, ◌⊎◌, ◌↔◌, Bool, List, [], ◌∷◌, length, refl, sym, ap, subst, ◌∙◌, arith, inl, inr, ⊎_elim}
use Rattle.std.specs.Prelude.{IsTrue, Some}
use Rattle.std.specs.Ordering.{nat_cmp, is_le, is_some_and}
use Rattle.std.specs.Cmp.Lexicographic.{slice_partial_cmp}
use Rattle.std.proofs.lemmas.Cmp.{same_from_slice_cmp_tested}
use Rattle.std.proofs.lemmas.Bool.Decides.{nat_tests}
use Rattle.std.proofs.lemmas.Bool.{cases_lt}
use Rattle.std.proofs.lemmas.List.Elements.{All-head, All-tail}
use Rattle.lc_algebra.specs.declared.FieldName.{FieldName}
use Rattle.lc_algebra.specs.Field.{size, neg}
use Rattle.lc_algebra.specs.Word.{Fits, IsWord, zero_word, word_sum, scale, weight, AtMost, ComesNoLater}
use Rattle.lc_algebra.specs.Span.{InSpan, IsLeast}
use Rattle.lc_algebra.specs.Matrix.{AreRows}
use Rattle.lc_algebra.proofs.WordLaws.{multiple_undone, no_later_reflexive, no_later_transitive, no_later_total, sum_assoc, sum_zero, zero_sum, length_zero_word, weight_zero_word, IsWord_zero}
use Rattle.lc_algebra.proofs.SpanLaws.{span_word}
use Rattle.lc_algebra.proofs.SpanSearch.{at_most_test, at_most_from_test, test_from_at_most}
use Rattle.lc_least.specs.Scan.{IsFirst, IsInCoset, IsInCosetBelow}

at_most_is : (u v : List ℕ) (r : Bool) → r ≡ is_some_and is_le (slice_partial_cmp (λ x y. Some (nat_cmp x y)) u v) → r ≡ at_most_test u v
unfolding at_most_test
at_most_is = same_from_slice_cmp_tested nat_cmp is_le at_most_test refl (λ _ _. refl) (λ _ _. refl) (λ x y xs ys o h. grind (arith, nat_tests))

pub at_most_told : (u v : List ℕ) (r : Bool) → r ≡ is_some_and is_le (slice_partial_cmp (λ x y. Some (nat_cmp x y)) u v) → IsTrue r ↔ AtMost u v
at_most_told u v r h =
    let e : r ≡ at_most_test u v = at_most_is u v r h in
    rw e (λ t. at_most_from_test u v t, λ a. test_from_at_most u v a)

-- ---- a word is offered

pub offered : (u old : List ℕ) → 0 < weight u → (weight old ≡ 0) ⊎ ComesNoLater u old → IsFirst (λ w. w ≡ u) old u
offered u old p h = record {
  origin = inr (refl, p);
  before = λ q. (p, ⊎_elim (λ z. absurd (omega (arith, q, z))) (λ k. k) h);
  first = λ w e q. (p, subst (ComesNoLater u) (sym e) (no_later_reflexive u));
}

pub kept : (u old : List ℕ) → length u ≡ length old → ((weight old ≡ 0) ⊎ ComesNoLater u old → ⊥) → IsFirst (λ w. w ≡ u) old old
kept u old l h =
    let p : 0 < weight old = ⊎_elim (λ q. q) (λ q. absurd (h (inl (omega (arith, q))))) (cases_lt 0 (weight old)) in
    let k : ComesNoLater old u = ⊎_elim (λ q. absurd (h (inr q))) (λ q. q) (no_later_total u old l) in
    record { origin = inl refl; before = λ q. (p, no_later_reflexive old); first = λ w e q. (p, subst (ComesNoLater old) (sym e) k) }

pub passed : (u old : List ℕ) → weight u ≡ 0 → IsFirst (λ w. w ≡ u) old old
passed u old z = record { origin = inl refl; before = λ q. (q, no_later_reflexive old); first = λ w e q. absurd (omega (arith, q, ap weight e, z)) }

-- ---- one after another

pub first_none : (P : List ℕ → Type 0) (old : List ℕ) → ((w : List ℕ) → P w → ⊥) → IsFirst P old old
first_none P old h = record { origin = inl refl; before = λ q. (q, no_later_reflexive old); first = λ w p q. absurd (h w p) }

pub first_then : (P Q R : List ℕ → Type 0) (a b c : List ℕ) → ((w : List ℕ) → P w → R w) → ((w : List ℕ) → Q w → R w) → ((w : List ℕ) → R w → P w ⊎ Q w) → IsFirst P a b → IsFirst Q b c → IsFirst R a c
first_then P Q R a b c left right cases h k = record {
  origin = ⊎_elim
      (λ (e : c ≡ b). ⊎_elim
      (λ (d : b ≡ a). inl (e ∙ d))
      (λ (t : P b × (0 < weight b)). inr (subst (λ w. R w × (0 < weight w)) (sym e) (left b t.0, t.1)))
      h.origin)
      (λ (t : Q c × (0 < weight c)). inr (right c t.0, t.1))
      k.origin;
  before = λ q. let x = h.before q in let y = k.before x.0 in (y.0, no_later_transitive c b a y.1 x.1);
  first = λ w r q. ⊎_elim
      (λ p. let x = h.first w p q in let y = k.before x.0 in (y.0, no_later_transitive c b w y.1 x.1))
      (λ p. k.first w p q)
      (cases w r);
}

pub first_same : (P R : List ℕ → Type 0) (a b : List ℕ) → ((w : List ℕ) → P w → R w) → ((w : List ℕ) → R w → P w) → IsFirst P a b → IsFirst R a b
first_same P R a b left right h = record {
  origin = ⊎_elim (λ e. inl e) (λ t. inr (left b t.0, t.1)) h.origin;
  before = h.before;
  first = λ w r q. h.first w (right w r) q;
}

-- ---- over the multiples of a row

pub scan_none : (f : FieldName) (n : ℕ) (g : List ℕ) (rows : List (List ℕ)) (u old : List ℕ) → IsFirst (IsInCosetBelow f n 0 g rows u) old old
scan_none f n g rows u old = first_none (IsInCosetBelow f n 0 g rows u) old (λ w p. omega (arith, p.1))

pub scan_more : (f : FieldName) (n c : ℕ) (g : List ℕ) (rows : List (List ℕ)) (u a b d : List ℕ) → IsFirst (IsInCosetBelow f n c g rows u) a b → IsFirst (IsInCoset f n rows (word_sum f u (scale f c g))) b d → IsFirst (IsInCosetBelow f n (c + 1) g rows u) a d
scan_more f n c g rows u a b d h k =
    first_then (IsInCosetBelow f n c g rows u) (IsInCoset f n rows (word_sum f u (scale f c g))) (IsInCosetBelow f n (c + 1) g rows u) a b d
    (λ w p. (p.0, omega (arith, p.1), p.2))
    (λ w p. (c, omega arith, p))
    (λ w p. ⊎_elim
    (λ (l : p.0 < c). inl (p.0, l, p.2))
    (λ (m : c ≤ p.0). let e : p.0 ≡ c = omega (arith, m, p.1) in inr (subst (λ x. IsInCoset f n rows (word_sum f u (scale f x g)) w) e p.2))
    (cases_lt p.0 c))
    h k

pub scan_all : (f : FieldName) (n : ℕ) (g : List ℕ) (rows : List (List ℕ)) (u a b : List ℕ) → IsFirst (IsInCosetBelow f n (size f) g rows u) a b → IsFirst (IsInCoset f n (g ∷ rows) u) a b
scan_all f n g rows u a b h =
    first_same (IsInCosetBelow f n (size f) g rows u) (IsInCoset f n (g ∷ rows) u) a b
    (λ w p. (word_sum f (scale f p.0 g) p.2.0, (p.0, p.1, (p.2.0, p.2.1, refl)), p.2.2 ∙ sum_assoc f u (scale f p.0 g) p.2.0))
    (λ w p. (p.1.0, p.1.1, (p.1.2.0, p.1.2.1, p.2 ∙ ap (word_sum f u) p.1.2.2 ∙ sym (sum_assoc f u (scale f p.1.0 g) p.1.2.0))))
    h

pub scan_leaf : (f : FieldName) (n : ℕ) (u a b : List ℕ) → IsWord f n u → IsFirst (λ w. w ≡ u) a b → IsFirst (IsInCoset f n [] u) a b
scan_leaf f n u a b s h =
    first_same (λ w. w ≡ u) (IsInCoset f n [] u) a b
    (λ w e. (zero_word n, refl, e ∙ sym (sum_zero f n u s)))
    (λ w p. p.2 ∙ ap (word_sum f u) p.1 ∙ sum_zero f n u s)
    h

-- ---- the whole

reached : (f : FieldName) (n : ℕ) (rows : List (List ℕ)) (v : List ℕ) → AreRows f n rows → InSpan f n rows v → IsInCoset f n rows (zero_word n) v
reached f n rows v r h = (v, h, sym (zero_sum f n v (span_word f n rows v r h)))

pub least_found : (f : FieldName) (n : ℕ) (rows : List (List ℕ)) (best : List ℕ) → AreRows f n rows → IsFirst (IsInCoset f n rows (zero_word n)) (zero_word n) best → 0 < weight best → IsLeast f n rows best
least_found f n rows best r h p = record {
  inside = ⊎_elim
      (λ (e : best ≡ zero_word n). absurd (omega (arith, p, ap weight e, weight_zero_word n)))
      (λ (t : IsInCoset f n rows (zero_word n) best × (0 < weight best)). subst (InSpan f n rows) (sym (t.0.2 ∙ zero_sum f n t.0.0 (span_word f n rows t.0.0 r t.0.1))) t.0.1)
      h.origin;
  nonzero = p;
  first = λ v s q. (h.first v (reached f n rows v r s) q).1;
}

pub least_none : (f : FieldName) (n : ℕ) (rows : List (List ℕ)) (best : List ℕ) → AreRows f n rows → IsFirst (IsInCoset f n rows (zero_word n)) (zero_word n) best → weight best ≡ 0 → (w : List ℕ) → InSpan f n rows w → weight w ≡ 0
least_none f n rows best r h z w s =
    ⊎_elim
    (λ p. absurd (omega (arith, z, (h.first w (reached f n rows w r s) p).0)))
    (λ (q : weight w ≤ 0). omega (arith, q))
    (cases_lt 0 (weight w))

-- ---- the steps of the recursion, with the equations that the code has

pub rows_tail : (f : FieldName) (n m : ℕ) (rows : List (List ℕ)) (g : List ℕ) (others : List (List ℕ)) → rows ≡ g ∷ others → m ≡ n → AreRows f n rows → AreRows f m others
rows_tail f n m rows g others e l r =
    let a : AreRows f n (g ∷ others) = rw e at r in
    rw l (All-tail (IsWord f n) g others a)

pub row_word : (f : FieldName) (n : ℕ) (rows : List (List ℕ)) (g : List ℕ) (others : List (List ℕ)) → rows ≡ g ∷ others → AreRows f n rows → IsWord f n g
row_word f n rows g others e r =
    let a : AreRows f n (g ∷ others) = rw e at r in
    All-head (IsWord f n) g others a

pub scan_empty : (f : FieldName) (n : ℕ) (rows : List (List ℕ)) (u a b : List ℕ) → length rows ≡ 0 → IsWord f n u → IsFirst (λ w. w ≡ u) a b → IsFirst (IsInCoset f n rows u) a b
scan_empty f n [] u a b e s h = scan_leaf f n u a b s h
scan_empty f n (g ∷ rows) u a b e s h = absurd (omega (arith, e))

pub scan_turn : (f : FieldName) (n m c : ℕ) (g h : List ℕ) (rows : List (List ℕ)) (u s to a b d : List ℕ) → h ≡ g → s ≡ u → to ≡ word_sum f s (scale f c h) → m ≡ n → IsFirst (IsInCosetBelow f n c g rows u) a b → IsFirst (IsInCoset f m rows to) b d → IsFirst (IsInCosetBelow f n (c + 1) g rows u) a d
scan_turn f n m c g h rows u s to a b d p q r l x y =
    let e : to ≡ word_sum f u (scale f c g) = rw (← p, ← q) r in
    let z : IsFirst (IsInCoset f n rows (word_sum f u (scale f c g))) b d = rw (← e, ← l) y in
    scan_more f n c g rows u a b d x z

pub scan_back : (f : FieldName) (n c m : ℕ) (g h k u s to back last : List ℕ) → IsWord f n u → IsWord f n g → h ≡ g → k ≡ g → s ≡ u → to ≡ word_sum f s (scale f c h) → back ≡ to → m ≡ neg f c → last ≡ word_sum f back (scale f m k) → last ≡ u
scan_back f n c m g h k u s to back last w v p q r e same minus done = cc (multiple_undone f n c u g w v.long)

pub scan_done : (f : FieldName) (n c : ℕ) (g : List ℕ) (rows others : List (List ℕ)) (u a b : List ℕ) → c ≡ size f → rows ≡ g ∷ others → IsFirst (IsInCosetBelow f n c g others u) a b → IsFirst (IsInCoset f n rows u) a b
scan_done f n c g rows others u a b p e h =
    let z : IsFirst (IsInCosetBelow f n (size f) g others u) a b = rw (← p) h in
    rw e (scan_all f n g others u a b z)

pub zeros_fit : (f : FieldName) (n : ℕ) (w : List ℕ) → w ≡ zero_word n → Fits f w
zeros_fit f n w e = rw e (IsWord_zero f n).fits

pub scan_whole : (f : FieldName) (n : ℕ) (rows : List (List ℕ)) (sum a b : List ℕ) → sum ≡ zero_word n → a ≡ zero_word n → IsFirst (IsInCoset f (length sum) rows sum) a b → IsFirst (IsInCoset f n rows (zero_word n)) (zero_word n) b
scan_whole f n rows sum a b p q h =
    let l : length sum ≡ n = ap (λ (w : List ℕ). length w) p ∙ length_zero_word n in
    let x : IsFirst (IsInCoset f n rows sum) a b = subst (λ m. IsFirst (IsInCoset f m rows sum) a b) l h in
    let y : IsFirst (IsInCoset f n rows (zero_word n)) a b = subst (λ w. IsFirst (IsInCoset f n rows w) a b) p x in
    subst (λ w. IsFirst (IsInCoset f n rows (zero_word n)) w b) q y
