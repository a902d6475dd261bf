-- A step from a message to the next, by what the code changes.
--   all_same          a list of ones, from its first entry and the others
--   take_same         two lists that begin alike
--   StepsTo           from a message to the next one of its level
--   step_raised, step_moved, step_last      by a coefficient, by a place, or not at all
--   GoesOn            what a step owes if it goes on
--   places_below, entries_above, entries_many, entries_top, first_entry      what a spot's message is
--   goes_by_raise, goes_by_move, stays      what the code does at a spot
use Rattle.std.proofs.Common.{◌≡◌, ◌≢◌, ℕ, zero, suc, ◌+◌, ◌-◌, ◌<◌, ◌≤◌, List, [], ◌∷◌, length, get_or, take, replicate, Some, None, refl, ap, sym, ◌∙◌, arith, inl, inr}
use Rattle.std.specs.Prelude.{slice_get}
use Rattle.std.specs.List.{Contains}
use Rattle.std.specs.Option.{option_map}
use Rattle.lc_enumeration.specs.Message.{messages}
use Rattle.std.proofs.lemmas.Bool.{cases_lt}
use Rattle.lc_place.specs.Place.{PlanSize, SpotState, spot_message, IsFirstChange}
use Rattle.lc_place.proofs.Coefficients.{next_numbers, next_full, next_raised, all_ones}
use Rattle.lc_place.proofs.Supports.{next_support, support_last, support_moved}
use Rattle.lc_place.proofs.Messages.{message_of, next_leading, next_message, message_next, message_shape, IsMessage, from_contains, to_contains}

pub all_same : (u : ℕ) (xs : List ℕ) (t : ℕ) → t ≡ 1 → get_or xs 0 0 ≡ 1 → ((v : ℕ) → 0 < v → v < length xs → get_or xs v 0 ≡ t) → u < length xs → get_or xs u 0 ≡ 1
all_same zero xs t e first rest l = first
all_same (suc u) xs t e first rest l = rest (suc u) (omega arith) l ∙ e

pub take_same : (xs ys : List ℕ) (i : ℕ) → length xs ≡ length ys → ((u : ℕ) → u < i → get_or xs u 0 ≡ get_or ys u 0) → take i xs ≡ take i ys
take_same xs ys zero e h = refl
take_same [] [] (suc i) e h = refl
take_same [] (y ∷ ys) (suc i) e h = absurd (omega arith)
take_same (x ∷ xs) [] (suc i) e h = absurd (omega arith)
take_same (x ∷ xs) (y ∷ ys) (suc i) e h =
    let head : x ≡ y = h 0 (omega arith) in
    let tail : take i xs ≡ take i ys = take_same xs ys i (omega arith) (λ u l. h (suc u) (omega arith)) in
    cc

pub shape_of_spot : (k q : ℕ) (s u : List ℕ) → Contains (messages k q (length s)) (message_of s u) → IsMessage k q (length s) (message_of s u)
shape_of_spot k q s u h = let p = from_contains (messages k q (length s)) (message_of s u) h in message_shape k q (length s) p.0 (message_of s u) p.1

-- from the message of support s and coefficients u to that of t and v
pub record StepsTo (k q : ℕ) (s u t v : List ℕ) : Type 0 where
  pub next : (n : ℕ) → slice_get (messages k q (length s)) n ≡ Some (message_of s u) → slice_get (messages k q (length s)) (n + 1) ≡ Some (message_of t v)
  pub message : Contains (messages k q (length s)) (message_of t v)

steps_to : (k q : ℕ) (s u t v : List ℕ) → 2 ≤ q → Contains (messages k q (length s)) (message_of s u) → next_message k q (message_of s u) ≡ Some (message_of t v) → StepsTo k q s u t v
steps_to k q s u t v l h e =
    let p = from_contains (messages k q (length s)) (message_of s u) h in
    record {
      next = λ n d. (let one : n + 1 ≡ suc n = omega arith in rw one (message_next k q (length s) n l (message_of s u) d ∙ e));
      message = to_contains (messages k q (length s)) (message_of t v) (suc p.0) (message_next k q (length s) p.0 l (message_of s u) p.1 ∙ e);
    }

turned_raised : (k q : ℕ) (s u v : List ℕ) → next_leading q u ≡ Some v → next_message k q (message_of s u) ≡ Some (message_of s v)
turned_raised k q s u v e = rw e refl

turned_moved : (k q : ℕ) (s u t v : List ℕ) → next_leading q u ≡ None → next_support 0 k s ≡ Some t → v ≡ replicate (length u) 1 → next_message k q (message_of s u) ≡ Some (message_of t v)
turned_moved k q s u t v e d f = rw (e, d, f) refl

turned_last : (k q : ℕ) (s u : List ℕ) → next_leading q u ≡ None → next_support 0 k s ≡ None → next_message k q (message_of s u) ≡ None
turned_last k q s u e d = rw (e, d) refl

leading_raised : (q : ℕ) (u v : List ℕ) (i : ℕ) → length v ≡ length u → 0 < i → i < length u → get_or u i 0 < q - 1 → ((j : ℕ) → j < i → get_or v j 0 ≡ get_or u j 0) → get_or v i 0 ≡ get_or u i 0 + 1 → ((j : ℕ) → i < j → j < length u → q - 1 ≤ get_or u j 0) → ((j : ℕ) → i < j → j < length u → get_or v j 0 ≡ 1) → next_leading q u ≡ Some v
leading_raised q [] v i many some inside below before at full ones = absurd (omega arith)
leading_raised q (c ∷ u) [] i many some inside below before at full ones = absurd (omega arith)
leading_raised q (c ∷ u) (d ∷ v) zero many some inside below before at full ones = absurd (omega arith)
leading_raised q (c ∷ u) (d ∷ v) (suc i) many some inside below before at full ones =
    let later : next_numbers (q - 1) u ≡ Some v = next_raised (q - 1) u v i (omega arith) (omega arith) below (λ j l. before (suc j) (omega arith)) at (λ j l m. full (suc j) (omega arith) (omega arith)) (λ j l m. ones (suc j) (omega arith) (omega arith)) in
    let head : d ≡ c = before 0 (omega arith) in
    ap (option_map (λ (w : List ℕ). c ∷ w)) later ∙ cc

leading_full : (q : ℕ) (u : List ℕ) → ((j : ℕ) → 0 < j → j < length u → q - 1 ≤ get_or u j 0) → next_leading q u ≡ None
leading_full q [] full = refl
leading_full q (c ∷ u) full = ap (option_map (λ (w : List ℕ). c ∷ w)) (next_full (q - 1) u (λ j l. full (suc j) (omega arith) (omega arith)))

pub step_raised : (k q : ℕ) (s u v : List ℕ) (i : ℕ) → 2 ≤ q → Contains (messages k q (length s)) (message_of s u) → length v ≡ length u → 0 < i → i < length u → get_or u i 0 < q - 1 → ((j : ℕ) → j < i → get_or v j 0 ≡ get_or u j 0) → get_or v i 0 ≡ get_or u i 0 + 1 → ((j : ℕ) → i < j → j < length u → q - 1 ≤ get_or u j 0) → ((j : ℕ) → i < j → j < length u → get_or v j 0 ≡ 1) → StepsTo k q s u s v
step_raised k q s u v i size h many some inside below before at full ones = steps_to k q s u s v size h (turned_raised k q s u v (leading_raised q u v i many some inside below before at full ones))

pub step_moved : (k q : ℕ) (s u t v : List ℕ) (j : ℕ) → 2 ≤ q → Contains (messages k q (length s)) (message_of s u) → ((i : ℕ) → 0 < i → i < length u → q - 1 ≤ get_or u i 0) → length t ≡ length s → length v ≡ length u → j < length s → get_or s j 0 + (length s - j) < k → ((i : ℕ) → i < j → get_or t i 0 ≡ get_or s i 0) → ((i : ℕ) → j ≤ i → i < length s → get_or t i 0 ≡ get_or s j 0 + 1 + (i - j)) → ((i : ℕ) → j < i → i < length s → k ≤ get_or s i 0 + (length s - i)) → ((i : ℕ) → i < length u → get_or v i 0 ≡ 1) → StepsTo k q s u t v
step_moved k q s u t v j size h full many many' inside room before later last ones =
    let shape = shape_of_spot k q s u h in
    let moved : next_support 0 k s ≡ Some t = support_moved 0 k s t j shape.support.rises (λ _. omega arith) many inside (omega (arith, room)) before later (λ i l m. omega (arith, last i l m)) in
    steps_to k q s u t v size h (turned_moved k q s u t v (leading_full q u full) moved (all_ones v (length u) many' ones))

pub step_last : (k q : ℕ) (s u : List ℕ) → 2 ≤ q → Contains (messages k q (length s)) (message_of s u) → ((i : ℕ) → 0 < i → i < length u → q - 1 ≤ get_or u i 0) → ((i : ℕ) → i < length s → k ≤ get_or s i 0 + (length s - i)) → (n : ℕ) → slice_get (messages k q (length s)) n ≡ Some (message_of s u) → slice_get (messages k q (length s)) (n + 1) ≡ None
step_last k q s u size h full last n e =
    let shape = shape_of_spot k q s u h in
    let none : next_support 0 k s ≡ None = support_last 0 k s shape.support.rises (λ _. omega arith) (λ i l. omega (arith, last i l)) in
    let one : n + 1 ≡ suc n = omega arith in
    rw one (message_next k q (length s) n size (message_of s u) e ∙ turned_last k q s u (leading_full q u full) none)

-- what a step owes if it goes on: the next message, and the first change
pub record GoesOn (p : PlanSize) (old : SpotState) (t v : List ℕ) (i : ℕ) : Type 0 where
  pub next : (n : ℕ) → slice_get (messages p.k p.q (length old.support)) n ≡ Some (spot_message old) → slice_get (messages p.k p.q (length old.support)) (n + 1) ≡ Some (message_of t v)
  pub message : Contains (messages p.k p.q (length t)) (message_of t v)
  pub change : (set room : ℕ) → IsFirstChange old (record { set = set; support = t; coefficients = v; room = room }) i

pub places_below : (p : PlanSize) (old : SpotState) (k : ℕ) (s : List ℕ) → p.k ≡ k → s ≡ old.support → Contains (messages p.k p.q (length old.support)) (spot_message old) → (u : ℕ) → u < length s → get_or s u 0 + (length s - u) ≤ k
places_below p old k s e d h u l =
    let shape = shape_of_spot p.k p.q old.support old.coefficients h in
    let high : get_or old.support u 0 + (length old.support - u) ≤ 0 + p.k = shape.support.high u (rw d at l) in
    rw d (omega (arith, high, e))

pub entries_above : (p : PlanSize) (old : SpotState) (u : List ℕ) → u ≡ old.coefficients → Contains (messages p.k p.q (length old.support)) (spot_message old) → (i : ℕ) → i < length u → 1 ≤ get_or u i 0
entries_above p old u e h i l =
    let shape = shape_of_spot p.k p.q old.support old.coefficients h in
    rw e (shape.low i (omega (arith, shape.many, rw e at l)))

pub first_entry : (p : PlanSize) (old : SpotState) (u : List ℕ) (j : ℕ) → u ≡ old.coefficients → Contains (messages p.k p.q (length old.support)) (spot_message old) → j < length u → get_or u 0 0 ≡ 1
first_entry p old u j e h l =
    let shape = shape_of_spot p.k p.q old.support old.coefficients h in
    rw e (shape.first (omega (arith, shape.many, rw e at l)))

pub entries_many : (p : PlanSize) (old : SpotState) (s u : List ℕ) → s ≡ old.support → u ≡ old.coefficients → Contains (messages p.k p.q (length old.support)) (spot_message old) → length u ≡ length s
entries_many p old s u d e h =
    let shape = shape_of_spot p.k p.q old.support old.coefficients h in
    rw (d, e) shape.many

pub entries_top : (p : PlanSize) (old : SpotState) (q i : ℕ) (cs u : List ℕ) → p.q ≡ q → 2 ≤ q → cs ≡ old.coefficients → u ≡ old.coefficients → Contains (messages p.k p.q (length old.support)) (spot_message old) → ((j : ℕ) → i < j → j < length cs → q - 1 ≤ get_or cs j 0) → (j : ℕ) → i < j → j < length u → get_or u j 0 ≡ q - 1
entries_top p old q i cs u a b d e h full j l m =
    let shape = shape_of_spot p.k p.q old.support old.coefficients h in
    let m' : j < length old.coefficients = rw e at m in
    let high : get_or old.coefficients j 0 < p.q = shape.high (omega (arith, a, b)) j (omega (arith, shape.many, m')) in
    let low : q - 1 ≤ get_or old.coefficients j 0 = rw d at (full j l (rw d m')) in
    rw e (omega (arith, high, low, a, b))

pub goes_by_raise : (p : PlanSize) (old : SpotState) (q i : ℕ) (cs ms ns s v : List ℕ) → p.q ≡ q → 2 ≤ q → s ≡ old.support → cs ≡ old.coefficients → ms ≡ old.coefficients → v ≡ ns → length ns ≡ length ms → Contains (messages p.k p.q (length old.support)) (spot_message old) → 0 < i → i < length cs → get_or cs i 0 < q - 1 → ((j : ℕ) → i < j → j < length cs → q - 1 ≤ get_or cs j 0) → ((j : ℕ) → j < i → get_or ns j 0 ≡ get_or ms j 0) → get_or ns i 0 ≡ get_or ms i 0 + 1 → ((j : ℕ) → i < j → j < length ms → get_or ns j 0 ≡ 1) → GoesOn p old s v i
goes_by_raise p old q i cs ms ns s v a b se ce me ve many h some inside below full before at ones =
    let many' : length v ≡ length old.coefficients = ap length ve ∙ many ∙ ap length me in
    let inside' : i < length old.coefficients = rw ce at inside in
    let below' : get_or old.coefficients i 0 < p.q - 1 = rw (ce, ← a) at below in
    let full' : (j : ℕ) → i < j → j < length old.coefficients → p.q - 1 ≤ get_or old.coefficients j 0 = λ j l m. rw (ce, ← a) at (full j l (rw ce m)) in
    let before' : (j : ℕ) → j < i → get_or v j 0 ≡ get_or old.coefficients j 0 = λ j l. ap (λ x. get_or x j 0) ve ∙ before j l ∙ ap (λ x. get_or x j 0) me in
    let at' : get_or v i 0 ≡ get_or old.coefficients i 0 + 1 = ap (λ x. get_or x i 0) ve ∙ at ∙ ap (λ x. get_or x i 0 + 1) me in
    let ones' : (j : ℕ) → i < j → j < length old.coefficients → get_or v j 0 ≡ 1 = λ j l m. ap (λ x. get_or x j 0) ve ∙ ones j l (rw me m) in
    let steps : StepsTo p.k p.q old.support old.coefficients old.support v = step_raised p.k p.q old.support old.coefficients v i (omega (arith, a, b)) h many' some inside' below' before' at' full' ones' in
    rw se (record {
      next = steps.next;
      message = steps.message;
      change = λ _ _. record {
        inside = omega (arith, inside', (shape_of_spot p.k p.q old.support old.coefficients h).many);
        same_support = refl;
        same_coefficients = take_same v old.coefficients i many' before';
        changed = inr (λ e. omega (arith, e, at'));
      };
    })

same_place : (i j : ℕ) → i ≤ j → j ≤ i → (s : List ℕ) → get_or s i 0 ≡ get_or s j 0
same_place i j l m s = let e : i ≡ j = omega arith in ap (λ a. get_or s a 0) e

pub goes_by_move : (p : PlanSize) (old : SpotState) (k q i j : ℕ) (cs ss ms ns us vs t v : List ℕ) → p.k ≡ k → p.q ≡ q → 2 ≤ q → cs ≡ old.coefficients → ss ≡ old.support → ms ≡ old.support → us ≡ old.coefficients → t ≡ ns → v ≡ vs → length ns ≡ length ms → length vs ≡ length us → Contains (messages p.k p.q (length old.support)) (spot_message old) → ((a : ℕ) → 0 < a → a < length cs → q - 1 ≤ get_or cs a 0) → j < length ss → get_or ss j 0 + (length ss - j) < k → ((a : ℕ) → j < a → a < length ss → k ≤ get_or ss a 0 + (length ss - a)) → ((a : ℕ) → a < j → get_or ns a 0 ≡ get_or ms a 0) → ((a : ℕ) → j ≤ a → a < length ms → get_or ns a 0 ≡ get_or ms j 0 + 1 + (a - j)) → ((a : ℕ) → a < length us → get_or vs a 0 ≡ 1) → i ≤ j → ((a : ℕ) → a < i → get_or vs a 0 ≡ get_or us a 0) → (i < j → get_or vs i 0 ≢ get_or us i 0) → GoesOn p old t v i
goes_by_move p old k q i j cs ss ms ns us vs t v a b c ce se me ue te ve manys manyc h full inside room last before later ones early same changed =
    let many : length t ≡ length old.support = ap length te ∙ manys ∙ ap length me in
    let many' : length v ≡ length old.coefficients = ap length ve ∙ manyc ∙ ap length ue in
    let full' : (a : ℕ) → 0 < a → a < length old.coefficients → p.q - 1 ≤ get_or old.coefficients a 0 = λ a l m. rw (ce, ← b) at (full a l (rw ce m)) in
    let inside' : j < length old.support = rw se at inside in
    let room' : get_or old.support j 0 + (length old.support - j) < p.k = rw (se, ← a) at room in
    let last' : (d : ℕ) → j < d → d < length old.support → p.k ≤ get_or old.support d 0 + (length old.support - d) = λ d l m. rw (se, ← a) at (last d l (rw se m)) in
    let before' : (d : ℕ) → d < j → get_or t d 0 ≡ get_or old.support d 0 = λ d l. ap (λ x. get_or x d 0) te ∙ before d l ∙ ap (λ x. get_or x d 0) me in
    let later' : (d : ℕ) → j ≤ d → d < length old.support → get_or t d 0 ≡ get_or old.support j 0 + 1 + (d - j) = λ d l m. ap (λ x. get_or x d 0) te ∙ later d l (rw me m) ∙ ap (λ x. get_or x j 0 + 1 + (d - j)) me in
    let ones' : (d : ℕ) → d < length old.coefficients → get_or v d 0 ≡ 1 = λ d l. ap (λ x. get_or x d 0) ve ∙ ones d (rw ue l) in
    let same' : (d : ℕ) → d < i → get_or v d 0 ≡ get_or old.coefficients d 0 = λ d l. ap (λ x. get_or x d 0) ve ∙ same d l ∙ ap (λ x. get_or x d 0) ue in
    let steps : StepsTo p.k p.q old.support old.coefficients t v = step_moved p.k p.q old.support old.coefficients t v j (omega (arith, b, c)) h full' many many' inside' room' before' later' last' ones' in
    record {
      next = steps.next;
      message = rw many steps.message;
      change = λ _ _. record {
        inside = omega (arith, inside', early);
        same_support = take_same t old.support i many (λ d l. before' d (omega (arith, l, early)));
        same_coefficients = take_same v old.coefficients i many' same';
        changed = elim (cases_lt i j) [
          | inl l ↦ inr (λ e. changed l (sym (ap (λ x. get_or x i 0) ve) ∙ e ∙ ap (λ x. get_or x i 0) (sym ue)))
          | inr l ↦ inl (λ e. omega (arith, later' i l (omega (arith, inside', early)), e, early, l, same_place i j early l old.support))
        ];
      };
    }

pub stays : (p : PlanSize) (old : SpotState) (k q : ℕ) (cs ss : List ℕ) → p.k ≡ k → p.q ≡ q → 2 ≤ q → cs ≡ old.coefficients → ss ≡ old.support → Contains (messages p.k p.q (length old.support)) (spot_message old) → ((a : ℕ) → 0 < a → a < length cs → q - 1 ≤ get_or cs a 0) → ((a : ℕ) → a < length ss → k ≤ get_or ss a 0 + (length ss - a)) → (n : ℕ) → slice_get (messages p.k p.q (length old.support)) n ≡ Some (spot_message old) → slice_get (messages p.k p.q (length old.support)) (n + 1) ≡ None
stays p old k q cs ss a b c ce se h full last n e =
    let full' : (a : ℕ) → 0 < a → a < length old.coefficients → p.q - 1 ≤ get_or old.coefficients a 0 = λ a l m. rw (ce, ← b) at (full a l (rw ce m)) in
    let last' : (d : ℕ) → d < length old.support → p.k ≤ get_or old.support d 0 + (length old.support - d) = λ d m. rw (se, ← a) at (last d (rw se m)) in
    step_last p.k p.q old.support old.coefficients (omega (arith, b, c)) h full' last' n e
