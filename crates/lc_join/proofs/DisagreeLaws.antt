-- The first line that disagrees with an earlier one.
--   Agreed, agreed_first, agreed_more, agreed_end      the lines so far are of the search, and agree
--   other_search, other_word     the first line that is of another search, or has another word
use Rattle.std.proofs.Common.{◌≡◌, ◌≢◌, ℕ, ◌+◌, ◌<◌, ◌≤◌, Bool, true, false, cond, nat_lt, List, [], ◌∷◌, length, map, take, get_or, All, Some, None, refl, sym, ap, ap₂, subst, ◌∙◌, ⊎_elim, arith}
use Rattle.std.specs.List.{position, position_or_len, AllPairs}
use Rattle.std.proofs.lemmas.Bool.{cases_eq, ltb-true, ltb-false, false≢true}
use Rattle.std.proofs.lemmas.List.{get_or-map, get_or-take, get_or_default, length-map, length-take-le}
use Rattle.std.proofs.lemmas.List.Sums.{fails_before_first, passes_at_first}
use Rattle.lc_parts.specs.Joined.{JoinState, differs_from}
use Rattle.lc_parts.specs.Seen.{part_of}
use Rattle.lc_part_lines.specs.Seen.{line_of}
use Rattle.lc_join.specs.Lines.{Agree, Disagree}
use Rattle.lc_join.specs.Seen.{numbered_of, IsOf}
use Rattle.lc_join.specs.declared.lines.Numbered.{Numbered}

-- whether a line has the range of this one, and another word
abbrev pub unlike : Numbered → Numbered → Bool
unlike y l = differs_from (part_of l.line.part) (part_of y.line.part)

pub record Agreed (s : JoinState) (xs : List Numbered) (i : ℕ) : Type 0 where
  pub alike : (k : ℕ) (d : Numbered) → k < i → k < length xs → IsOf s (get_or xs k d)
  pub words : (j k : ℕ) (d : Numbered) → j < k → k < i → k < length xs → unlike (get_or xs k d) (get_or xs j d) ≡ false

pub agreed_first : (s : JoinState) (xs : List Numbered) → Agreed s xs 0
agreed_first s xs = record { alike = λ k d l _. absurd (omega (arith, l)); words = λ j k d _ l _. absurd (omega (arith, l)) }

-- where no element passes, and where one does
position_none : {X : Type 0} (p : X → Bool) (xs : List X) → None ≡ position p xs → (k : ℕ) (d : X) → k < length xs → p (get_or xs k d) ≡ false
position_none {X} p xs e k d l = by (nat_lt (position_or_len p xs) (length xs)) refl e
  where
    by : (b : Bool) → nat_lt (position_or_len p xs) (length xs) ≡ b → None ≡ cond b (Some (position_or_len p xs)) None → p (get_or xs k d) ≡ false
    by true t h = absurd (let z = h in cc)
    by false t h = fails_before_first p xs k d (omega (arith, l, ltb-false (position_or_len p xs) (length xs) t))

pub record FoundAt {X : Type 0} (p : X → Bool) (xs : List X) (i : ℕ) : Type 0 where
  pub inside : i < length xs
  pub before : (k : ℕ) (d : X) → k < i → p (get_or xs k d) ≡ false
  pub here : (d : X) → p (get_or xs i d) ≡ true

position_some : {X : Type 0} (p : X → Bool) (xs : List X) (i : ℕ) → Some i ≡ position p xs → FoundAt p xs i
position_some {X} p xs i e = by (nat_lt (position_or_len p xs) (length xs)) refl e
  where
    by : (b : Bool) → nat_lt (position_or_len p xs) (length xs) ≡ b → Some i ≡ cond b (Some (position_or_len p xs)) None → FoundAt p xs i
    by true t h =
        let same : position_or_len p xs ≡ i = let z = sym h in cc in
        let l = ltb-true (position_or_len p xs) (length xs) t in
        subst (FoundAt p xs) same (record { inside = l; before = λ k d m. fails_before_first p xs k d m; here = λ d. passes_at_first p xs d l })
    by false t h = absurd (let z = h in cc)

pub agreed_more : (s : JoinState) (xs front : List Numbered) (i : ℕ) (x : Numbered) → i < length xs → IsOf s (get_or xs i x) → front ≡ take i xs → None ≡ position (unlike (get_or xs i x)) front → Agreed s xs i → Agreed s xs (i + 1)
agreed_more s xs front i x l is front_is e h =
    let none : None ≡ position (unlike (get_or xs i x)) (take i xs) = rw (sym front_is) e in
    record {
      alike = λ k d low inside. ⊎_elim
          (λ (same : k ≡ i). subst (IsOf s) (get_or_default xs i x d l ∙ ap (λ n. get_or xs n d) (sym same)) is)
          (λ (n : k ≢ i). h.alike k d (omega (arith, low, n)) inside)
          (cases_eq k i);
      words = λ j k d less low inside. ⊎_elim
          (λ (same : k ≡ i).
          let j_low : j < i = omega (arith, less, same) in
          let past = position_none (unlike (get_or xs i x)) (take i xs) none j d (omega (arith, j_low, length-take-le i xs (omega (arith, l)))) in
          let there : get_or (take i xs) j d ≡ get_or xs j d = get_or-take i xs j d j_low in
          let here : get_or xs i x ≡ get_or xs k d = get_or_default xs i x d l ∙ ap (λ n. get_or xs n d) (sym same) in
          ap₂ (λ y z. unlike y z) (sym here) (sym there) ∙ past)
          (λ (n : k ≢ i). h.words j k d less (omega (arith, low, n)) inside)
          (cases_eq k i);
    }

-- two lines of the search that have no two words of one range
agree_so : (s : JoinState) (y z : Numbered) → IsOf s y → IsOf s z → unlike z y ≡ false → Agree (numbered_of y) (numbered_of z)
unfolding numbered_of line_of
agree_so s y z h k u = ((k.0 ∙ sym h.0, k.1 ∙ sym h.1), u)

pair_agrees : (s : JoinState) (xs : List Numbered) (i j k : ℕ) (x : Numbered) → Agreed s xs i → j < k → k < i → k < length xs → Agree (numbered_of (get_or xs j x)) (numbered_of (get_or xs k x))
pair_agrees s xs i j k x h less low inside =
    agree_so s (get_or xs j x) (get_or xs k x) (h.alike j x (omega (arith, less, low)) (omega (arith, less, inside))) (h.alike k x low inside) (h.words j k x less low inside)

pub agreed_end : (s : JoinState) (xs : List Numbered) (i : ℕ) → length xs ≤ i → Agreed s xs i → AllPairs Agree (map numbered_of xs)
agreed_end s [] i l h = λ j k d less inside. absurd (omega (arith, inside))
agreed_end s (x ∷ xs) i l h = λ j k d less inside.
    let ys = x ∷ xs in
    let within : k < length ys = omega (arith, inside, length-map ys numbered_of) in
    subst (λ a. Agree a (get_or (map numbered_of ys) k d)) (sym (get_or-map numbered_of ys j x d (omega (arith, less, within))))
    (subst (λ b. Agree (numbered_of (get_or ys j x)) b) (sym (get_or-map numbered_of ys k x d within)) (pair_agrees s ys i j k x h less (omega (arith, within, l)) within))

pub agreed_all : (s : JoinState) (xs : List Numbered) (i : ℕ) → length xs ≤ i → Agreed s xs i → All (IsOf s) xs
agreed_all s xs i l h = λ k d inside. h.alike k d (omega (arith, inside, l)) inside

-- the lines before a place agree
agreed_front : (s : JoinState) (xs : List Numbered) (i : ℕ) (x : Numbered) → i < length xs → Agreed s xs i → AllPairs Agree (take i (map numbered_of xs))
agreed_front s xs i x l h = λ j k d less inside.
    let ys = map numbered_of xs in
    let few : k < i = omega (arith, inside, l, length-map xs numbered_of, length-take-le i ys (omega (arith, l, length-map xs numbered_of))) in
    let at : (n : ℕ) → n < i → get_or (take i ys) n d ≡ numbered_of (get_or xs n x) = λ n m. get_or-take i ys n d m ∙ get_or-map numbered_of xs n x d (omega (arith, m, l)) in
    subst (λ a. Agree a (get_or (take i ys) k d)) (sym (at j (omega (arith, less, few))))
    (subst (λ b. Agree (numbered_of (get_or xs j x)) b) (sym (at k few)) (pair_agrees s xs i j k x h less few (omega (arith, few, l))))

number_is : (x : Numbered) → (numbered_of x).number ≡ x.number
unfolding numbered_of
number_is x = refl

-- the line at i disagrees with that at k, and with none before
found_so : (s : JoinState) (xs : List Numbered) (i k : ℕ) (x y z : Numbered) → i < length xs → k < i → Agreed s xs i
    → ((j : ℕ) → j < k → Agree (numbered_of (get_or xs j x)) (numbered_of (get_or xs i x))) → ¬ Agree (numbered_of (get_or xs k x)) (numbered_of (get_or xs i x))
    → Disagree (map numbered_of xs) (get_or xs k y).number (get_or xs i z).number
found_so s xs i k x y z l less h before not_so =
    let ys = map numbered_of xs in
    let one = numbered_of (get_or xs k x) in
    let other = numbered_of (get_or xs i x) in
    record {
      one = one;
      other = other;
      first = k;
      second = i;
      earlier = less;
      inside = omega (arith, l, length-map xs numbered_of);
      one_is = get_or-map numbered_of xs k x one (omega (arith, less, l));
      other_is = get_or-map numbered_of xs i x other l;
      agreed = agreed_front s xs i x l h;
      least = λ j d inside.
          let low : j < k = omega (arith, inside, less, l, length-map xs numbered_of, length-take-le k ys (omega (arith, less, l, length-map xs numbered_of))) in
          subst (λ a. Agree a other) (sym (get_or-take k ys j d low ∙ get_or-map numbered_of xs j x d (omega (arith, low, less, l)))) (before j low);
      disagree = not_so;
      numbers = (number_is (get_or xs k x) ∙ ap (λ (n : Numbered). n.number) (get_or_default xs k x y (omega (arith, less, l))), number_is (get_or xs i x) ∙ ap (λ (n : Numbered). n.number) (get_or_default xs i x z l));
    }

of_one_search : (s : JoinState) (y z : Numbered) → IsOf s y → Agree (numbered_of y) (numbered_of z) → IsOf s z
unfolding numbered_of line_of
of_one_search s y z h a = (a.0.0 ∙ h.0, a.0.1 ∙ h.1)

same_word : (y z : Numbered) → Agree (numbered_of y) (numbered_of z) → unlike z y ≡ false
unfolding numbered_of line_of
same_word y z a = a.1

pub other_search : (s : JoinState) (xs : List Numbered) (i : ℕ) (x y z : Numbered) → i < length xs → ((d : Numbered) → IsOf s (get_or xs 0 d)) → ¬ IsOf s (get_or xs i x) → Agreed s xs i → Disagree (map numbered_of xs) (get_or xs 0 y).number (get_or xs i z).number
other_search s xs i x y z l first other h =
    let more : 0 < i = ⊎_elim (λ (e : i ≡ 0). absurd (other (subst (λ n. IsOf s (get_or xs n x)) (sym e) (first x)))) (λ (n : i ≢ 0). omega (arith, n)) (cases_eq i 0) in
    found_so s xs i 0 x y z l more h (λ j m. absurd (omega (arith, m))) (λ a. other (of_one_search s (get_or xs 0 x) (get_or xs i x) (first x) a))

pub other_word : (s : JoinState) (xs front : List Numbered) (i k : ℕ) (x y z : Numbered) → i < length xs → IsOf s (get_or xs i x) → front ≡ take i xs → Some k ≡ position (unlike (get_or xs i x)) front → Agreed s xs i → Disagree (map numbered_of xs) (get_or xs k y).number (get_or xs i z).number
other_word s xs front i k x y z l is front_is e h =
    let f = position_some (unlike (get_or xs i x)) (take i xs) k (rw (sym front_is) e) in
    let less : k < i = omega (arith, f.inside, l, length-take-le i xs (omega (arith, l))) in
    let there : (j : ℕ) → j < i → get_or (take i xs) j x ≡ get_or xs j x = λ j m. get_or-take i xs j x m in
    found_so s xs i k x y z l less h
    (λ j m. agree_so s (get_or xs j x) (get_or xs i x) (h.alike j x (omega (arith, m, less)) (omega (arith, m, less, l))) is (ap (unlike (get_or xs i x)) (sym (there j (omega (arith, m, less)))) ∙ f.before j x m))
    (λ a. false≢true (sym (same_word (get_or xs k x) (get_or xs i x) a) ∙ ap (unlike (get_or xs i x)) (sym (there k less)) ∙ f.here x))
