-- The vectors of the messages of a level are those with that many nonzero entries, the first one 1.
--   places i v, nonzeros v      where v has nonzero entries, counted from i, and these entries
--   vector_here, vector_later, vector_nil, vector_none, vector_is      the vector of a message, entry by entry
--   Fitting i k q s u           a list of places from i to i + k - 1, rising, and as many elements from 1 to q - 1
--   fitting_later, fitting_rest, fitting_of      it fits from the next place on; a message's entries fit
--   vector_back                 the vector of a message gives the message back
--   vector_again                a vector is that of its places and nonzero entries
--   places_listed, nonzeros_listed      these stand in the lists of supports and of nonzero elements
--   vector_is_leading, leading_is_vector, leading_vectors      the two sides, and both
--   vectors_apart               two messages of a level have two vectors
use Rattle.std.proofs.Common.{◌≡◌, ◌≢◌, ◌↔◌, ℕ, zero, suc, ◌+◌, ◌-◌, ◌*◌, ◌<◌, ◌≤◌, true, false, not, eqb, List, [], ◌∷◌, map, length, get_or, Some, refl, ap, sym, ◌∙◌, arith, inl, inr}
use Rattle.std.specs.Prelude.{slice_get, ◌==◌}
use Rattle.std.specs.List.{Contains, filter}
use Rattle.std.specs.Option.{option_map}
use Rattle.std.proofs.lemmas.Bool.{cases_lt}
use Rattle.std.proofs.lemmas.Bool.Decides.{nat_tests}
use Rattle.std.proofs.lemmas.List.Sums.{length-filter}
use Rattle.std.proofs.lemmas.Option.{slice_get-map}
use Rattle.lc_algebra.specs.Word.{weight}
use Rattle.lc_enumeration.specs.Message.{Message, supports_from, numbers_from, nonzero_lists, leading_lists, messages, vector_from, vector_of}
use Rattle.lc_place.specs.Order.{IsLeadingVector, ListLess}
use Rattle.lc_place.proofs.Listing.{InOrder, messages_in_order}
use Rattle.lc_place.proofs.Products.{product_at, map_part}
use Rattle.lc_place.proofs.Coefficients.{numbers_at}
use Rattle.lc_place.proofs.Supports.{IsRising, support_takes, support_leaves}
use Rattle.lc_place.proofs.Messages.{message_of, IsMessage, message_shape, message_at, supports_are, from_contains, to_contains}
use Rattle.lc_place.proofs.Unranking.{supports_nothing}

abbrev pub places : ℕ → List ℕ → List ℕ
places i [] = []
places i (zero ∷ v) = places (suc i) v
places i (suc a ∷ v) = i ∷ places (suc i) v

abbrev pub nonzeros : List ℕ → List ℕ
nonzeros [] = []
nonzeros (zero ∷ v) = nonzeros v
nonzeros (suc a ∷ v) = suc a ∷ nonzeros v

nonzeros_filter : (v : List ℕ) → nonzeros v ≡ filter (λ a. not (a == 0)) v
nonzeros_filter [] = refl
nonzeros_filter (zero ∷ v) = nonzeros_filter v
nonzeros_filter (suc a ∷ v) = let t : eqb (suc a) 0 ≡ false = grind (arith, nat_tests) in rw t (ap (λ u. suc a ∷ u) (nonzeros_filter v))

pub length-nonzeros : (v : List ℕ) → length (nonzeros v) ≡ weight v
length-nonzeros v = ap length (nonzeros_filter v) ∙ length-filter (λ a. not (a == 0)) v

length-places : (i : ℕ) (v : List ℕ) → length (places i v) ≡ length (nonzeros v)
length-places i [] = refl
length-places i (zero ∷ v) = length-places (suc i) v
length-places i (suc a ∷ v) = ap suc (length-places (suc i) v)

pub vector_here : (i k p c : ℕ) (s u : List ℕ) → p ≡ i → vector_from i (suc k) (p ∷ s) (c ∷ u) ≡ c ∷ vector_from (suc i) k s u
unfolding vector_from
vector_here i k p c s u e = let t : eqb i p ≡ true = grind (arith, nat_tests) in rw t refl

pub vector_later : (i k p c : ℕ) (s u : List ℕ) → i < p → vector_from i (suc k) (p ∷ s) (c ∷ u) ≡ 0 ∷ vector_from (suc i) k (p ∷ s) (c ∷ u)
unfolding vector_from
vector_later i k p c s u l = let t : eqb i p ≡ false = grind (arith, nat_tests) in rw t refl

pub vector_nil : (i k : ℕ) → vector_from i (suc k) [] [] ≡ 0 ∷ vector_from (suc i) k [] []
unfolding vector_from
vector_nil i k = refl

pub vector_none : (i : ℕ) (s u : List ℕ) → vector_from i 0 s u ≡ []
unfolding vector_from
vector_none i s u = refl

pub record Back (i k q : ℕ) (s u v : List ℕ) : Type 0 where
  pub many : length v ≡ k
  pub places_are : places i v ≡ s
  pub nonzeros_are : nonzeros v ≡ u
  pub small : (j : ℕ) → j < k → get_or v j 0 < q

back_zero : (i k q : ℕ) (s u v : List ℕ) → 0 < q → Back (suc i) k q s u v → Back i (suc k) q s u (0 ∷ v)
back_zero i k q s u v some h = record { many = ap suc h.many; places_are = h.places_are; nonzeros_are = h.nonzeros_are; small = smalls some h.small }
  where
    smalls : 0 < q → ((j : ℕ) → j < k → get_or v j 0 < q) → (j : ℕ) → j < suc k → get_or (0 ∷ v) j 0 < q
    smalls a b zero l = a
    smalls a b (suc j) l = b j (omega (arith, l))

back_entry : (i k q c : ℕ) (s u v : List ℕ) → suc c < q → Back (suc i) k q s u v → Back i (suc k) q (i ∷ s) (suc c ∷ u) (suc c ∷ v)
back_entry i k q c s u v some h = record { many = ap suc h.many; places_are = ap (λ t. i ∷ t) h.places_are; nonzeros_are = ap (λ t. suc c ∷ t) h.nonzeros_are; small = smalls some h.small }
  where
    smalls : suc c < q → ((j : ℕ) → j < k → get_or v j 0 < q) → (j : ℕ) → j < suc k → get_or (suc c ∷ v) j 0 < q
    smalls a b zero l = a
    smalls a b (suc j) l = b j (omega (arith, l))

-- a list of places from i to i + k - 1 and as many entries
pub record Fitting (i k q : ℕ) (s u : List ℕ) : Type 0 where
  pub rises : IsRising s
  pub low : 0 < length s → i ≤ get_or s 0 0
  pub high : (j : ℕ) → j < length s → get_or s j 0 < i + k
  pub many : length u ≡ length s
  pub some : (j : ℕ) → j < length u → 1 ≤ get_or u j 0
  pub small : (j : ℕ) → j < length u → get_or u j 0 < q

pub fitting_later : (i k q : ℕ) (s u : List ℕ) → Fitting i (suc k) q s u → (0 < length s → i < get_or s 0 0) → Fitting (suc i) k q s u
fitting_later i k q s u h l = record { rises = h.rises; low = λ m. omega (arith, l m); high = λ j m. omega (arith, h.high j m); many = h.many; some = h.some; small = h.small }

pub fitting_rest : (i k q p c : ℕ) (s u : List ℕ) → p ≡ i → Fitting i (suc k) q (p ∷ s) (c ∷ u) → Fitting (suc i) k q s u
fitting_rest i k q p c s u e h = record {
  rises = λ j l. h.rises (suc j) (omega (arith, l));
  low = λ l. omega (arith, h.rises 0 (omega (arith, l)), e);
  high = λ j l. omega (arith, h.high (suc j) (omega (arith, l)));
  many = omega (arith, h.many);
  some = λ j l. h.some (suc j) (omega (arith, l));
  small = λ j l. h.small (suc j) (omega (arith, l));
}

back_here : (i k q p c : ℕ) (s u : List ℕ) → p ≡ i → 1 ≤ c → c < q → Back (suc i) k q s u (vector_from (suc i) k s u) → Back i (suc k) q (p ∷ s) (c ∷ u) (vector_from i (suc k) (p ∷ s) (c ∷ u))
back_here i k q p zero s u e l m h = absurd (omega (arith, l))
back_here i k q p (suc c) s u e l m h = rw (vector_here i k p (suc c) s u e) (rw e (back_entry i k q c s u (vector_from (suc i) k s u) m h))

pub vector_back : (i k q : ℕ) (s u : List ℕ) → 0 < q → Fitting i k q s u → Back i k q s u (vector_from i k s u)
vector_back i zero q [] [] o h = rw (vector_none i [] []) (record { many = refl; places_are = refl; nonzeros_are = refl; small = λ j l. absurd (omega (arith, l)) })
vector_back i zero q (p ∷ s) u o h = absurd (omega (arith, h.low (omega arith), h.high 0 (omega arith)))
vector_back i zero q [] (c ∷ u) o h = absurd (omega (arith, h.many))
vector_back i (suc k) q [] [] o h = rw (vector_nil i k) (back_zero i k q [] [] (vector_from (suc i) k [] []) o (vector_back (suc i) k q [] [] o (fitting_later i k q [] [] h (λ l. absurd (omega (arith, l))))))
vector_back i (suc k) q [] (c ∷ u) o h = absurd (omega (arith, h.many))
vector_back i (suc k) q (p ∷ s) [] o h = absurd (omega (arith, h.many))
vector_back i (suc k) q (p ∷ s) (c ∷ u) o h =
    elim (cases_lt i p) [
      | inl l ↦ rw (vector_later i k p c s u l) (back_zero i k q (p ∷ s) (c ∷ u) (vector_from (suc i) k (p ∷ s) (c ∷ u)) o (vector_back (suc i) k q (p ∷ s) (c ∷ u) o (fitting_later i k q (p ∷ s) (c ∷ u) h (λ _. l))))
      | inr l ↦ (
          let e : p ≡ i = omega (arith, l, h.low (omega arith)) in
          back_here i k q p c s u e (h.some 0 (omega arith)) (h.small 0 (omega arith)) (vector_back (suc i) k q s u o (fitting_rest i k q p c s u e h)))
    ]

first_of : (v : List ℕ) (i : ℕ) → get_or v i 0 ≢ 0 → ((j : ℕ) → j < i → get_or v j 0 ≡ 0) → get_or v i 0 ≡ get_or (nonzeros v) 0 0
first_of [] i n z = absurd (n refl)
first_of (zero ∷ v) zero n z = absurd (n refl)
first_of (suc a ∷ v) zero n z = refl
first_of (zero ∷ v) (suc i) n z = first_of v i n (λ j l. z (suc j) (omega (arith, l)))
first_of (suc a ∷ v) (suc i) n z = absurd (omega (arith, z 0 (omega arith)))

-- the other way
no_more : (i w : ℕ) → slice_get (supports_from i 0 0) 0 ≡ Some []
unfolding supports_from
no_more i w = refl

nothing : (s : List ℕ) → length s ≡ 0 → s ≡ []
nothing [] e = refl
nothing (a ∷ s) e = absurd (omega (arith, e))

pub places_listed : (i k w : ℕ) (v : List ℕ) → length v ≡ k → length (nonzeros v) ≡ w → (n : ℕ) × (slice_get (supports_from i k w) n ≡ Some (places i v))
places_listed i k zero v e f =
    let none : places i v ≡ [] = nothing (places i v) (length-places i v ∙ f) in
    (0, supports_nothing i k ∙ ap Some (sym none))
places_listed i zero (suc w) [] e f = absurd (omega (arith, f))
places_listed i zero (suc w) (a ∷ v) e f = absurd (omega (arith, e))
places_listed i (suc k) (suc w) [] e f = absurd (omega (arith, e))
places_listed i (suc k) (suc w) (zero ∷ v) e f =
    let p = places_listed (suc i) k (suc w) v (omega (arith, e)) f in
    (length (supports_from (suc i) k w) + p.0, support_leaves i k w p.0 ∙ p.1)
places_listed i (suc k) (suc w) (suc a ∷ v) e f =
    let p = places_listed (suc i) k w v (omega (arith, e)) (omega (arith, f)) in
    (p.0, support_takes i k w p.0 (places (suc i) v) p.1)

pub nonzeros_listed : (q n : ℕ) (u : List ℕ) → length u ≡ n → ((j : ℕ) → j < n → 1 ≤ get_or u j 0) → ((j : ℕ) → j < n → get_or u j 0 < q) → (r : ℕ) × (slice_get (nonzero_lists q n) r ≡ Some u)
unfolding nonzero_lists
nonzeros_listed q zero [] e low high = (0, refl)
nonzeros_listed q zero (c ∷ u) e low high = absurd (omega (arith, e))
nonzeros_listed q (suc n) [] e low high = absurd (omega (arith, e))
nonzeros_listed q (suc n) (c ∷ u) e low high =
    let p = nonzeros_listed q n u (omega (arith, e)) (λ j l. low (suc j) (omega (arith, l))) (λ j l. high (suc j) (omega (arith, l))) in
    let one : 1 ≤ c = low 0 (omega arith) in
    let few : c < q = high 0 (omega arith) in
    let head : slice_get (numbers_from 1 (q - 1)) (c - 1) ≡ Some c = numbers_at 1 (q - 1) (c - 1) (omega (arith, one, few)) ∙ ap Some (omega (arith, one)) in
    ((c - 1) * length (nonzero_lists q n) + p.0, product_at (λ (a : ℕ) (x : List ℕ). a ∷ x) (numbers_from 1 (q - 1)) (nonzero_lists q n) (c - 1) p.0 c u head p.1)

pub leading_listed : (q w : ℕ) (u : List ℕ) → 1 ≤ w → length u ≡ w → ((j : ℕ) → j < w → 1 ≤ get_or u j 0) → ((j : ℕ) → j < w → get_or u j 0 < q) → get_or u 0 0 ≡ 1 → (r : ℕ) × (slice_get (leading_lists q w) r ≡ Some u)
unfolding leading_lists
leading_listed q zero u l e low high first = absurd (omega (arith, l))
leading_listed q (suc w) [] l e low high first = absurd (omega (arith, e))
leading_listed q (suc w) (c ∷ u) l e low high first =
    let p = nonzeros_listed q w u (omega (arith, e)) (λ j m. low (suc j) (omega (arith, m))) (λ j m. high (suc j) (omega (arith, m))) in
    (p.0, slice_get-map (λ (x : List ℕ). 1 ∷ x) (nonzero_lists q w) p.0 ∙ ap (option_map (λ (x : List ℕ). 1 ∷ x)) p.1 ∙ ap (λ a. Some (a ∷ u)) (sym first))

again_zero : (i k : ℕ) (s u v : List ℕ) → length s ≡ length u → (0 < length s → i < get_or s 0 0) → vector_from (suc i) k s u ≡ v → vector_from i (suc k) s u ≡ 0 ∷ v
again_zero i k [] [] v m l e = vector_nil i k ∙ ap (λ x. 0 ∷ x) e
again_zero i k [] (c ∷ u) v m l e = absurd (omega (arith, m))
again_zero i k (p ∷ s) [] v m l e = absurd (omega (arith, m))
again_zero i k (p ∷ s) (c ∷ u) v m l e = vector_later i k p c s u (l (omega arith)) ∙ ap (λ x. 0 ∷ x) e

places_low : (i : ℕ) (v : List ℕ) → 0 < length (places i v) → i ≤ get_or (places i v) 0 0
places_low i [] l = absurd (omega (arith, l))
places_low i (zero ∷ v) l = omega (arith, places_low (suc i) v l)
places_low i (suc a ∷ v) l = omega arith

pub vector_again : (i k : ℕ) (v : List ℕ) → length v ≡ k → vector_from i k (places i v) (nonzeros v) ≡ v
vector_again i zero [] e = vector_none i [] []
vector_again i zero (a ∷ v) e = absurd (omega (arith, e))
vector_again i (suc k) [] e = absurd (omega (arith, e))
vector_again i (suc k) (zero ∷ v) e = again_zero i k (places (suc i) v) (nonzeros v) v (length-places (suc i) v) (λ l. omega (arith, places_low (suc i) v l)) (vector_again (suc i) k v (omega (arith, e)))
vector_again i (suc k) (suc a ∷ v) e = vector_here i k i (suc a) (places (suc i) v) (nonzeros v) refl ∙ ap (λ x. suc a ∷ x) (vector_again (suc i) k v (omega (arith, e)))

nonzeros_some : (v : List ℕ) (j : ℕ) → j < length (nonzeros v) → 1 ≤ get_or (nonzeros v) j 0
nonzeros_some [] j l = absurd (omega (arith, l))
nonzeros_some (zero ∷ v) j l = nonzeros_some v j l
nonzeros_some (suc a ∷ v) zero l = omega arith
nonzeros_some (suc a ∷ v) (suc j) l = nonzeros_some v j (omega (arith, l))

nonzeros_small : (q : ℕ) (v : List ℕ) → ((j : ℕ) → j < length v → get_or v j 0 < q) → (j : ℕ) → j < length (nonzeros v) → get_or (nonzeros v) j 0 < q
nonzeros_small q [] h j l = absurd (omega (arith, l))
nonzeros_small q (zero ∷ v) h j l = nonzeros_small q v (λ i m. h (suc i) (omega (arith, m))) j l
nonzeros_small q (suc a ∷ v) h zero l = h 0 (omega arith)
nonzeros_small q (suc a ∷ v) h (suc j) l = nonzeros_small q v (λ i m. h (suc i) (omega (arith, m))) j (omega (arith, l))

-- the first of the nonzero entries is 1
nonzeros_lead : (v : List ℕ) → ((i : ℕ) → get_or v i 0 ≢ 0 → ((j : ℕ) → j < i → get_or v j 0 ≡ 0) → get_or v i 0 ≡ 1) → 0 < length (nonzeros v) → get_or (nonzeros v) 0 0 ≡ 1
nonzeros_lead [] h l = absurd (omega (arith, l))
nonzeros_lead (zero ∷ v) h l = nonzeros_lead v (λ i n z. h (suc i) n (shift z)) l
  where
    shift : {i : ℕ} → ((j : ℕ) → j < i → get_or v j 0 ≡ 0) → (j : ℕ) → j < suc i → get_or (0 ∷ v) j 0 ≡ 0
    shift z zero m = refl
    shift z (suc j) m = z j (omega (arith, m))
nonzeros_lead (suc a ∷ v) h l = h 0 (λ e. absurd (cc e)) (λ j m. absurd (omega (arith, m)))

pub fitting_of : (k q w : ℕ) (m : Message) → 1 < q → IsMessage k q w m → Fitting 0 k q m.support m.coefficients
fitting_of k q w m size h = record {
  rises = h.support.rises;
  low = λ _. omega arith;
  high = λ j l. omega (arith, h.support.high j (omega (arith, l, h.support.many)), h.support.many, l);
  many = h.many ∙ sym h.support.many;
  some = λ j l. h.low j (omega (arith, l, h.many));
  small = λ j l. h.high size j (omega (arith, l, h.many));
}

pub vector_is : (k : ℕ) (m : Message) → vector_of k m ≡ vector_from 0 k m.support m.coefficients
unfolding vector_of
vector_is k m = refl

pub vector_is_leading : (k q w : ℕ) (m : Message) → 1 < q → 1 ≤ w → IsMessage k q w m → IsLeadingVector k q w (vector_of k m)
vector_is_leading k q w m size some h =
    let b = vector_back 0 k q m.support m.coefficients (omega (arith, size)) (fitting_of k q w m size h) in
    let v = vector_from 0 k m.support m.coefficients in
    rw (vector_is k m) (record {
      many = b.many;
      entries = b.small;
      weighs = sym (length-nonzeros v) ∙ ap length b.nonzeros_are ∙ h.many;
      leads = λ i n z. first_of v i n z ∙ ap (λ u. get_or u 0 0) b.nonzeros_are ∙ h.first (omega (arith, some));
    })

pub leading_is_vector : (k q w : ℕ) (v : List ℕ) → 1 ≤ w → IsLeadingVector k q w v → (n : ℕ) × (slice_get (messages k q w) n ≡ Some (message_of (places 0 v) (nonzeros v))) × (vector_of k (message_of (places 0 v) (nonzeros v)) ≡ v)
leading_is_vector k q w v some h =
    let many : length (nonzeros v) ≡ w = length-nonzeros v ∙ h.weighs in
    let s = places_listed 0 k w v h.many many in
    let small : (j : ℕ) → j < length v → get_or v j 0 < q = λ j l. h.entries j (omega (arith, l, h.many)) in
    let u = leading_listed q w (nonzeros v) some many (λ j l. nonzeros_some v j (omega (arith, l, many))) (λ j l. nonzeros_small q v small j (omega (arith, l, many))) (nonzeros_lead v h.leads (omega (arith, many, some))) in (
      s.0 * length (leading_lists q w) + u.0,
      message_at k q w s.0 u.0 (places 0 v) (nonzeros v) (ap (λ l. slice_get l s.0) (supports_are k w) ∙ s.1) u.1,
      vector_is k (message_of (places 0 v) (nonzeros v)) ∙ vector_again 0 k v h.many,
    )

pub leading_vectors : (k q w : ℕ) (v : List ℕ) → 1 < q → 1 ≤ w → Contains (map (vector_of k) (messages k q w)) v ↔ IsLeadingVector k q w v
leading_vectors k q w v size some = (to, from)
  where
    to : Contains (map (vector_of k) (messages k q w)) v → IsLeadingVector k q w v
    to c =
        let p = from_contains (map (vector_of k) (messages k q w)) v c in
        let m = map_part (vector_of k) (messages k q w) p.0 v p.1 in
        rw m.2 (vector_is_leading k q w m.0 size some (message_shape k q w p.0 m.0 m.1))

    from : IsLeadingVector k q w v → Contains (map (vector_of k) (messages k q w)) v
    from h =
        let p = leading_is_vector k q w v some h in
        to_contains (map (vector_of k) (messages k q w)) v p.0 (slice_get-map (vector_of k) (messages k q w) p.0 ∙ ap (option_map (vector_of k)) p.1 ∙ ap Some p.2)

-- two messages with one vector are one
same_message : (k q w : ℕ) (a b : Message) → 1 < q → IsMessage k q w a → IsMessage k q w b → vector_of k a ≡ vector_of k b → (a.support ≡ b.support) × (a.coefficients ≡ b.coefficients)
same_message k q w a b size h i e =
    let x = vector_back 0 k q a.support a.coefficients (omega (arith, size)) (fitting_of k q w a size h) in
    let y = vector_back 0 k q b.support b.coefficients (omega (arith, size)) (fitting_of k q w b size i) in
    let e' : vector_from 0 k a.support a.coefficients ≡ vector_from 0 k b.support b.coefficients = sym (vector_is k a) ∙ e ∙ vector_is k b in
    (sym x.places_are ∙ ap (places 0) e' ∙ y.places_are, sym x.nonzeros_are ∙ ap nonzeros e' ∙ y.nonzeros_are)

heads : (a b : ℕ) (u v : List ℕ) → a ∷ u ≡ b ∷ v → a ≡ b
heads a b u v e = cc

less_apart : (u v : List ℕ) → u ≡ v → ListLess u v → ⊥
less_apart [] v e l = l
less_apart (a ∷ u) [] e l = l
less_apart (a ∷ u) (b ∷ v) e (inl l) = omega (arith, heads a b u v e, l)
less_apart (a ∷ u) (b ∷ v) e (inr l) = less_apart u v (cc) l.1

pub vectors_apart : (k q w : ℕ) → 1 < q → InOrder (λ (u v : List ℕ). u ≢ v) (map (vector_of k) (messages k q w))
vectors_apart k q w size i j x y l e d same =
    let a = map_part (vector_of k) (messages k q w) i x e in
    let b = map_part (vector_of k) (messages k q w) j y d in
    let one = same_message k q w a.0 b.0 size (message_shape k q w i a.0 a.1) (message_shape k q w j b.0 b.1) (sym a.2 ∙ same ∙ b.2) in
    elim (messages_in_order k q w i j a.0 b.0 l a.1 b.1) [
      | inl s ↦ less_apart a.0.support b.0.support one.0 s
      | inr s ↦ less_apart a.0.coefficients b.0.coefficients one.1 s.1
    ]
