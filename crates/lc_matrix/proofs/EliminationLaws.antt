-- The steps of an elimination, and what they come to.
--   keeps_reflexive, keeps_transitive, keeps_added, keeps_scaled, keeps_multiples      steps that keep the words of the rows, and each
--                          column at which all rows from row r on are 0
--   keeps_raised, raised_nonzero, keeps_lead, rows_unchanged, reduced_pushed      the same, in the shape of the calls
--   raised_symbol, unit_symbol      the symbol of a row that another is added to, that is multiplied by its inverse
--   cleared_none, cleared_more, cleared_keeps, cleared_leads, cleared_zero      a column that is cleared row by row
--   reduced_none, reduced_taken, reduced_left    one column of the order more
use Rattle.std.proofs.Common.{◌≡◌, ◌≢◌, ℕ, ◌+◌, ◌<◌, ◌≤◌, List, [], ◌∷◌, ◌++◌, length, set, slice_index, slice_index_or, refl, sym, ap, subst, ◌∙◌, ⊎_elim, arith}
use Rattle.std.proofs.lemmas.Bool.{cases_eq, cases_lt}
use Rattle.std.proofs.lemmas.List.{length-set, get_or-set_same, get_or-set_other, set-get_or, get_or_push, length_push}
use Rattle.std.proofs.Math.ListN.{get_or-append}
use Rattle.std.proofs.lemmas.List.Elements.{All-set}
use Rattle.lc_algebra.specs.declared.FieldName.{FieldName}
use Rattle.lc_algebra.specs.Field.{size, add, mul, neg, IsInverse}
use Rattle.lc_algebra.specs.Word.{IsWord, word_sum, scale}
use Rattle.lc_algebra.specs.Matrix.{AreRows, entry}
use Rattle.lc_algebra.specs.SpanLaws.{AddsMultiples}
use Rattle.lc_algebra.proofs.FieldLaws.{zero_add, add_zero, add_neg, mul_zero, mul_one, one_mul, mul_comm, neg_inside, neg_zero, one_inside}
use Rattle.lc_algebra.proofs.WordLaws.{length_scale, index_scale, index_word_sum, IsWord_scale, IsWord_sum, word_symbol, zero_scale, sum_zero}
use Rattle.lc_algebra.proofs.SpanLaws.{same_span_reflexive, same_span_transitive, span_multiple_added, span_row_scaled, span_multiples_added}
use Rattle.lc_matrix.specs.Elimination.{KeepsWords, IsClearedTo, IsReducedTo}

pub keeps_reflexive : (f : FieldName) (n r : ℕ) (rows : List (List ℕ)) → AreRows f n rows → KeepsWords f n r rows rows
keeps_reflexive f n r rows w =
    record { count = refl; words = w; same = same_span_reflexive f n rows; kept = λ d z j l. refl }

pub keeps_transitive : (f : FieldName) (n r : ℕ) (rows others more : List (List ℕ)) → KeepsWords f n r rows others → KeepsWords f n r others more → KeepsWords f n r rows more
keeps_transitive f n r rows others more h k =
    record {
      count = k.count ∙ h.count;
      words = k.words;
      same = same_span_transitive f n rows others more h.same k.same;
      kept = λ d z j l. k.kept d (λ i m o. h.kept d z i (omega (arith, o, h.count)) ∙ z i m (omega (arith, o, h.count))) j (omega (arith, l, h.count)) ∙ h.kept d z j l;
    }

entry_set : (rows : List (List ℕ)) (i d : ℕ) (v : List ℕ) → i < length rows → entry (set rows i v) i d ≡ slice_index v d
entry_set rows i d v l = ap (λ u. slice_index u d) (get_or-set_same rows i v [] l)

entry_set_other : (rows : List (List ℕ)) (i j d : ℕ) (v : List ℕ) → j ≢ i → entry (set rows i v) j d ≡ entry rows j d
entry_set_other rows i j d v o = ap (λ u. slice_index u d) (get_or-set_other rows i j v [] o)

sum_symbol : (f : FieldName) (n c d : ℕ) (u v : List ℕ) → IsWord f n u → length v ≡ n → slice_index (word_sum f u (scale f c v)) d ≡ add f (slice_index u d) (mul f c (slice_index v d))
sum_symbol f n c d u v w e =
    index_word_sum f u (scale f c v) d (w.long ∙ sym e ∙ sym (length_scale f c v)) ∙ ap (add f (slice_index u d)) (index_scale f c v d)

nothing_added : (f : FieldName) (n c d : ℕ) (u v : List ℕ) → IsWord f n u → length v ≡ n → slice_index v d ≡ 0 → slice_index (word_sum f u (scale f c v)) d ≡ slice_index u d
nothing_added f n c d u v w e z =
    sum_symbol f n c d u v w e ∙ ap (λ x. add f (slice_index u d) (mul f c x)) z ∙ ap (add f (slice_index u d)) (mul_zero f c) ∙ add_zero f (slice_index u d) (word_symbol f n u w d)

pub keeps_added : (f : FieldName) (n r i j c : ℕ) (rows : List (List ℕ)) → AreRows f n rows → r ≤ i → i < length rows → j < length rows → j ≢ i → KeepsWords f n r rows (set rows j (word_sum f (slice_index_or rows j []) (scale f c (slice_index_or rows i []))))
keeps_added f n r i j c rows w l m k o =
    let u = slice_index_or rows j [] in
    let v = slice_index_or rows i [] in
    let new = word_sum f u (scale f c v) in
    record {
      count = length-set rows j new;
      words = All-set (IsWord f n) rows j new (IsWord_sum f n u (scale f c v) (w j [] k).long (length_scale f c v ∙ (w i [] m).long)) w;
      same = span_multiple_added f n j i c rows k m o w;
      kept = λ d z t h. ⊎_elim
          (λ e. subst (λ x. entry (set rows j new) x d ≡ entry rows x d) (sym e) (entry_set rows j d new k ∙ nothing_added f n c d u v (w j [] k) (w i [] m).long (z i l m)))
          (λ e. entry_set_other rows j t d new e)
          (cases_eq t j);
    }

pub keeps_scaled : (f : FieldName) (n r j c : ℕ) (rows : List (List ℕ)) → AreRows f n rows → r ≤ j → j < length rows → c < size f → 0 < c → KeepsWords f n r rows (set rows j (scale f c (slice_index_or rows j [])))
keeps_scaled f n r j c rows w l k s p =
    let u = slice_index_or rows j [] in
    record {
      count = length-set rows j (scale f c u);
      words = All-set (IsWord f n) rows j (scale f c u) (IsWord_scale f n c u (w j [] k).long) w;
      same = span_row_scaled f n j c rows k s p w;
      kept = λ d z t h. ⊎_elim
          (λ e. subst (λ x. entry (set rows j (scale f c u)) x d ≡ entry rows x d) (sym e) (entry_set rows j d (scale f c u) k ∙ index_scale f c u d ∙ ap (mul f c) (z j l k) ∙ mul_zero f c ∙ sym (z j l k)))
          (λ e. entry_set_other rows j t d (scale f c u) e)
          (cases_eq t j);
    }

pub keeps_multiples : (f : FieldName) (n r : ℕ) (rows others : List (List ℕ)) → AreRows f n rows → r < length rows → AddsMultiples f r rows others → KeepsWords f n r rows others
keeps_multiples f n r rows others w l h =
    let t = span_multiples_added f n r rows others l w h in
    record {
      count = h.count;
      words = t.0;
      same = t.1;
      kept = λ d z i m. ⊎_elim
          (λ e. subst (λ x. entry others x d ≡ entry rows x d) (sym e) (ap (λ u. slice_index u d) h.kept))
          (λ o.
          let a = h.added i m o in
          ap (λ u. slice_index u d) a.1 ∙ nothing_added f n a.0 d (slice_index_or rows i []) (slice_index_or rows r []) (w i [] m) (w r [] l).long (z r (omega arith) l))
          (cases_eq i r);
    }

-- what a row begins with where another is added to it that it lacks
pub raised_symbol : (f : FieldName) (n i j d : ℕ) (rows : List (List ℕ)) → AreRows f n rows → i < length rows → j < length rows → entry rows j d ≡ 0 → entry (set rows j (word_sum f (slice_index_or rows j []) (scale f 1 (slice_index_or rows i [])))) j d ≡ entry rows i d
raised_symbol f n i j d rows w m k z =
    let v = slice_index_or rows i [] in
    let s : slice_index v d < size f = word_symbol f n v (w i [] m) d in
    entry_set rows j d (word_sum f (slice_index_or rows j []) (scale f 1 v)) k ∙ sum_symbol f n 1 d (slice_index_or rows j []) v (w j [] k) (w i [] m).long ∙ ap (λ x. add f x (mul f 1 (slice_index v d))) z ∙ ap (add f 0) (one_mul f (slice_index v d) s) ∙ zero_add f (slice_index v d) s

pub unit_symbol : (f : FieldName) (j d c : ℕ) (rows : List (List ℕ)) → j < length rows → IsInverse f (entry rows j d) c → entry (set rows j (scale f c (slice_index_or rows j []))) j d ≡ 1
unit_symbol f j d c rows k h =
    entry_set rows j d (scale f c (slice_index_or rows j [])) k ∙ index_scale f c (slice_index_or rows j []) d ∙ mul_comm f c (entry rows j d) ∙ h.one

pub keeps_raised : (f : FieldName) (n r i : ℕ) (rows new : List (List ℕ)) (p : List ℕ) → AreRows f n rows → r ≤ i → i < length rows → r ≢ i → p ≡ slice_index_or rows i [] → new ≡ set rows r (word_sum f (slice_index_or rows r []) (scale f 1 p)) → KeepsWords f n r rows new
keeps_raised f n r i rows new p w l m o e q =
    let same : new ≡ set rows r (word_sum f (slice_index_or rows r []) (scale f 1 (slice_index_or rows i []))) = q ∙ ap (λ u. set rows r (word_sum f (slice_index_or rows r []) (scale f 1 u))) e in
    subst (KeepsWords f n r rows) (sym same) (keeps_added f n r i r 1 rows w l m (omega (arith, l, m)) o)

pub raised_nonzero : (f : FieldName) (n r i d : ℕ) (rows new : List (List ℕ)) (p : List ℕ) → AreRows f n rows → r ≤ i → i < length rows → r ≢ i → ((j : ℕ) → r ≤ j → j < i → entry rows j d ≡ 0) → 0 < entry rows i d → p ≡ slice_index_or rows i [] → new ≡ set rows r (word_sum f (slice_index_or rows r []) (scale f 1 p)) → 0 < entry new r d
raised_nonzero f n r i d rows new p w l m o z k e q =
    let same : new ≡ set rows r (word_sum f (slice_index_or rows r []) (scale f 1 (slice_index_or rows i []))) = q ∙ ap (λ u. set rows r (word_sum f (slice_index_or rows r []) (scale f 1 u))) e in
    let below : r < i = ⊎_elim (λ a. a) (λ a. absurd (o (omega (arith, a, l)))) (cases_lt r i) in
    let is : entry new r d ≡ entry rows i d = ap (λ xs. entry xs r d) same ∙ raised_symbol f n i r d rows w m (omega (arith, l, m)) (z r (omega arith) below) in
    omega (arith, is, k)

pub keeps_lead : (f g : FieldName) (n r c : ℕ) (rows mid new : List (List ℕ)) → KeepsWords f n r rows mid → g ≡ f → r < length rows → c < size g → 0 < c → new ≡ set mid r (scale g c (slice_index_or mid r [])) → KeepsWords f n r rows new
keeps_lead f g n r c rows mid new h e l s p q =
    let same : new ≡ set mid r (scale f c (slice_index_or mid r [])) = q ∙ ap (λ x. set mid r (scale x c (slice_index_or mid r []))) e in
    let below : c < size f = subst (λ x. c < size x) e s in
    subst (KeepsWords f n r rows) (sym same) (keeps_transitive f n r rows mid (set mid r (scale f c (slice_index_or mid r []))) h (keeps_scaled f n r r c mid h.words (omega arith) (omega (arith, l, h.count)) below p))

pub cleared_none : (f : FieldName) (c r : ℕ) (p : List ℕ) (rows : List (List ℕ)) → p ≡ slice_index_or rows r [] → IsClearedTo f c r 0 p rows rows
cleared_none f c r p rows e =
    record { count = refl; row = sym e; done = λ i l. absurd (omega (arith, l)); rest = λ i l. refl }

-- a symbol that is 0 asks for no step
pub nothing_cleared : (f : FieldName) (n a : ℕ) (u p : List ℕ) → a ≡ 0 → IsWord f n u → length p ≡ n → u ≡ word_sum f u (scale f (neg f a) p)
nothing_cleared f n a u p z w l =
    sym (ap (λ x. word_sum f u (scale f (neg f x) p)) z ∙ ap (λ x. word_sum f u (scale f x p)) (neg_zero f) ∙ ap (word_sum f u) (zero_scale f n p l) ∙ sum_zero f n u w)

apart : (i j r : ℕ) → i ≤ j → i ≢ r → j ≡ r → i < j
apart i j r l o e = ⊎_elim (λ m. m) (λ m. absurd (o (omega (arith, m, l, e)))) (cases_lt i j)

below_other : (i j : ℕ) → i ≤ j → i ≢ j → i < j
below_other i j l o = ⊎_elim (λ m. m) (λ m. absurd (o (omega (arith, m, l)))) (cases_lt i j)

pub rows_unchanged : (f : FieldName) (n c j : ℕ) (rows : List (List ℕ)) (p : List ℕ) → entry rows j c ≡ 0 → IsWord f n (slice_index_or rows j []) → length p ≡ n → rows ≡ set rows j (word_sum f (slice_index_or rows j []) (scale f (neg f (entry rows j c)) p))
rows_unchanged f n c j rows p z w l =
    sym (set-get_or rows j []) ∙ ap (set rows j) (nothing_cleared f n (entry rows j c) (slice_index_or rows j []) p z w l)

pub cleared_more : (f : FieldName) (c r j : ℕ) (p : List ℕ) (rows now new : List (List ℕ)) → IsClearedTo f c r j p rows now → j < length rows → (j ≡ r → new ≡ now) → (j ≢ r → new ≡ set now j (word_sum f (slice_index_or now j []) (scale f (neg f (entry now j c)) p))) → IsClearedTo f c r (j + 1) p rows new
cleared_more f c r j p rows now new h l a b =
    ⊎_elim
    (λ e. subst (IsClearedTo f c r (j + 1) p rows) (sym (a e)) (record {
      count = h.count;
      row = h.row;
      done = λ i m k o. h.done i (apart i j r (omega (arith, m)) o e) k o;
      rest = λ i m. h.rest i (omega (arith, m));
    }))
    (λ o.
    let v = word_sum f (slice_index_or now j []) (scale f (neg f (entry now j c)) p) in
    let was : slice_index_or now j [] ≡ slice_index_or rows j [] = h.rest j (omega arith) in
    subst (IsClearedTo f c r (j + 1) p rows) (sym (b o)) (record {
      count = length-set now j v ∙ h.count;
      row = get_or-set_other now j r v [] (λ s. o (sym s)) ∙ h.row;
      done = λ i m k q. ⊎_elim
          (λ s. subst (λ x. slice_index_or (set now j v) x [] ≡ word_sum f (slice_index_or rows x []) (scale f (neg f (entry rows x c)) p)) (sym s) (get_or-set_same now j v [] (omega (arith, l, h.count)) ∙ ap (λ u. word_sum f u (scale f (neg f (slice_index u c)) p)) was))
          (λ s. get_or-set_other now j i v [] s ∙ h.done i (below_other i j (omega (arith, m)) s) k q)
          (cases_eq i j);
      rest = λ i m. get_or-set_other now j i v [] (λ s. omega (arith, m, s)) ∙ h.rest i (omega (arith, m));
    }))
    (cases_eq j r)

cleared_multiples : (f : FieldName) (c r j : ℕ) (p : List ℕ) (rows others : List (List ℕ)) → IsClearedTo f c r j p rows others → j ≡ length rows → p ≡ slice_index_or rows r [] → AddsMultiples f r rows others
cleared_multiples f c r j p rows others h e q =
    record {
      count = h.count;
      kept = h.row ∙ q;
      added = λ i l o. (neg f (entry rows i c), h.done i (omega (arith, l, e)) l o ∙ ap (λ u. word_sum f (slice_index_or rows i []) (scale f (neg f (entry rows i c)) u)) q);
    }

pub cleared_keeps : (f : FieldName) (n c r j : ℕ) (p : List ℕ) (rows others : List (List ℕ)) → IsClearedTo f c r j p rows others → j ≡ length rows → p ≡ slice_index_or rows r [] → AreRows f n rows → r < length rows → KeepsWords f n r rows others
cleared_keeps f n c r j p rows others h e q w l = keeps_multiples f n r rows others w l (cleared_multiples f c r j p rows others h e q)

pub cleared_leads : (f : FieldName) (c r j : ℕ) (p : List ℕ) (rows others : List (List ℕ)) → IsClearedTo f c r j p rows others → p ≡ slice_index_or rows r [] → entry rows r c ≡ 1 → entry others r c ≡ 1
cleared_leads f c r j p rows others h q o = ap (λ u. slice_index u c) (h.row ∙ q) ∙ o

pub cleared_zero : (f : FieldName) (n c r j : ℕ) (p : List ℕ) (rows others : List (List ℕ)) → IsClearedTo f c r j p rows others → j ≡ length rows → p ≡ slice_index_or rows r [] → AreRows f n rows → r < length rows → entry rows r c ≡ 1 → (i : ℕ) → i < length rows → r ≢ i → entry others i c ≡ 0
cleared_zero f n c r j p rows others h e q w l one i m o =
    let u = slice_index_or rows i [] in
    let a = entry rows i c in
    let long : length p ≡ n = ap length q ∙ (w r [] l).long in
    let unit : slice_index p c ≡ 1 = ap (λ v. slice_index v c) q ∙ one in
    ap (λ v. slice_index v c) (h.done i (omega (arith, m, e)) m (λ s. o (sym s))) ∙ sum_symbol f n (neg f a) c u p (w i [] m) long ∙ ap (λ x. add f a (mul f (neg f a) x)) unit ∙ ap (add f a) (mul_one f (neg f a) (neg_inside f a)) ∙ add_neg f a

pub reduced_none : (order : List ℕ) (rows : List (List ℕ)) → IsReducedTo order 0 [] rows
reduced_none order rows =
    record {
      at_most = omega arith;
      inside = λ i l. absurd (omega (arith, l));
      rises = λ i j l m. absurd (omega (arith, m));
      before = λ i s l m. absurd (omega (arith, l));
      leads = λ i l. absurd (omega (arith, l));
      clears = λ i j l. absurd (omega (arith, l));
      below = λ j s l m k. absurd (omega (arith, k));
    }

zero_below : (order at : List ℕ) (t s : ℕ) (rows : List (List ℕ)) → IsReducedTo order t at rows → s < t → (j : ℕ) → length at ≤ j → j < length rows → entry rows j (slice_index order s) ≡ 0
zero_below order at t s rows h l j m k = h.below j s m k l

pub reduced_left : (f : FieldName) (n t : ℕ) (order at : List ℕ) (rows : List (List ℕ)) → IsReducedTo order t at rows → ((j : ℕ) → length at ≤ j → j < length rows → entry rows j (slice_index order t) ≡ 0) → IsReducedTo order (t + 1) at rows
reduced_left f n t order at rows h z =
    record {
      at_most = h.at_most;
      inside = λ i l. omega (arith, h.inside i l);
      rises = h.rises;
      before = h.before;
      leads = h.leads;
      clears = h.clears;
      below = λ j s l m k. ⊎_elim
          (λ o. h.below j s l m o)
          (λ o. let e : t ≡ s = omega (arith, o, k) in subst (λ x. entry rows j (slice_index order x) ≡ 0) e (z j l m))
          (cases_lt s t);
    }

pub reduced_taken : (f : FieldName) (n t : ℕ) (order at : List ℕ) (rows others : List (List ℕ)) → IsReducedTo order t at rows → KeepsWords f n (length at) rows others → length at < length rows → entry others (length at) (slice_index order t) ≡ 1 → ((j : ℕ) → j < length rows → length at ≢ j → entry others j (slice_index order t) ≡ 0) → IsReducedTo order (t + 1) (at ++ t ∷ []) others
reduced_taken f n t order at rows others h k room one zero =
    let r = length at in
    let more = at ++ t ∷ [] in
    let long : length more ≡ r + 1 = length_push at t in
    let old : (i : ℕ) → i < r → slice_index more i ≡ slice_index at i = λ i l. get_or-append at (t ∷ []) 0 i l in
    let last : slice_index more r ≡ t = get_or_push at t 0 r refl in
    -- a column of the order that was read before stands unchanged
    let keeps : (s j : ℕ) → s < t → j < length rows → entry others j (slice_index order s) ≡ entry rows j (slice_index order s) = λ s j l m. k.kept (slice_index order s) (zero_below order at t s rows h l) j m in
    let keeps_at : (i j : ℕ) → i < r → j < length rows → entry others j (slice_index order (slice_index more i)) ≡ entry rows j (slice_index order (slice_index at i)) = λ i j l m. ap (λ x. entry others j (slice_index order x)) (old i l) ∙ keeps (slice_index at i) j (h.inside i l) m in
    record {
      at_most = omega (arith, long, room, k.count);
      inside = λ i l. ⊎_elim (λ m. omega (arith, old i m, h.inside i m)) (λ m. let e : i ≡ r = omega (arith, m, l, long) in omega (arith, ap (slice_index more) e ∙ last)) (cases_lt i r);
      rises = λ i j l m.
          let a : i < r = omega (arith, l, m, long) in
          ⊎_elim (λ b. omega (arith, old i a, old j b, h.rises i j l b)) (λ b. let e : j ≡ r = omega (arith, b, m, long) in omega (arith, old i a, h.inside i a, ap (slice_index more) e ∙ last)) (cases_lt j r);
      before = λ i s l m. ⊎_elim
          (λ a. let b : s < slice_index at i = omega (arith, m, old i a) in keeps s i (omega (arith, b, h.inside i a)) (omega (arith, a, h.at_most)) ∙ h.before i s a b)
          (λ a.
          let e : i ≡ r = omega (arith, a, l, long) in
          let b : s < t = omega (arith, m, ap (slice_index more) e ∙ last) in
          subst (λ x. entry others x (slice_index order s) ≡ 0) (sym e) (keeps s r b room ∙ h.below r s (omega arith) room b))
          (cases_lt i r);
      leads = λ i l. ⊎_elim
          (λ a. keeps_at i i a (omega (arith, a, h.at_most)) ∙ h.leads i a)
          (λ a.
          let e : i ≡ r = omega (arith, a, l, long) in
          subst (λ x. entry others x (slice_index order (slice_index more x)) ≡ 1) (sym e) (ap (λ x. entry others r (slice_index order x)) last ∙ one))
          (cases_lt i r);
      clears = λ i j l m o. ⊎_elim
          (λ a. keeps_at i j a (omega (arith, m, k.count)) ∙ h.clears i j a (omega (arith, m, k.count)) o)
          (λ a.
          let e : i ≡ r = omega (arith, a, l, long) in
          ap (λ x. entry others j (slice_index order (slice_index more x))) e ∙ ap (λ x. entry others j (slice_index order x)) last ∙ zero j (omega (arith, m, k.count)) (λ s. o (e ∙ s)))
          (cases_lt i r);
      below = λ j s l m b. ⊎_elim
          (λ a. keeps s j a (omega (arith, m, k.count)) ∙ h.below j s (omega (arith, l, long)) (omega (arith, m, k.count)) a)
          (λ a.
          let e : t ≡ s = omega (arith, a, b) in
          subst (λ x. entry others j (slice_index order x) ≡ 0) e (zero j (omega (arith, m, k.count)) (λ q. omega (arith, q, l, long))))
          (cases_lt s t);
    }

pub reduced_pushed : (f : FieldName) (n t r d : ℕ) (order at new : List ℕ) (rows others : List (List ℕ)) → r ≡ length at → d ≡ slice_index order t → IsReducedTo order t at rows → KeepsWords f n r rows others → r < length rows → entry others r d ≡ 1 → ((j : ℕ) → j < length rows → r ≢ j → entry others j d ≡ 0) → new ≡ at ++ t ∷ [] → IsReducedTo order (t + 1) new others
reduced_pushed f n t r d order at new rows others e q h k room one zero is =
    subst (λ x. IsReducedTo order (t + 1) x others) (sym is) (reduced_taken f n t order at rows others h (subst (λ x. KeepsWords f n x rows others) e k) (omega (arith, room, e)) (subst (λ x. entry others x (slice_index order t) ≡ 1) e (ap (entry others r) (sym q) ∙ one)) (λ j l o. ap (entry others j) (sym q) ∙ zero j l (λ s. o (sym e ∙ s))))

pub ruleset reduce_laws = (reduced_none, same_span_reflexive, same_span_transitive)

pub ruleset read_column_laws = (reduced_left, reduced_taken)

pub ruleset take_column_laws = (keeps_reflexive, keeps_transitive)

pub ruleset lead_laws = (keeps_transitive, keeps_scaled, unit_symbol)

pub ruleset raise_laws = (keeps_reflexive, keeps_added, raised_symbol, one_inside)

pub ruleset clear_laws = (cleared_none, cleared_more, cleared_keeps, cleared_leads, cleared_zero)
