-- What comes of claims, step by step.
--   has_code, has_refusal     what comes of a claim after its parts: its code, or its refusal
--   own_result                so it does if the call of its kind gives this result
--   stopped_part, made_part   a part that stops the claim, and one that gives it a code
--   code_over                 the code of a claim is over the claim's field
--   outer_is, outer_shaped, inner_shaped      the field of an outer claim is the one of its size
--   search_refused, search_made      searches
--   no_locator, form_made     alternant forms
--   pair_first, pair_second, pair_whole, concat_first, concat_second, concat_whole, subcode_first, subcode_whole, places_first,
--   places_whole, extend_first, extend_whole      claims whose first or second part stops them, and claims whose parts gave codes
use Rattle.std.proofs.Common.{◌≡◌, ◌≢◌, ℕ, suc, ◌+◌, ◌-◌, ◌*◌, min, nat_lt, Bool, true, false, ◌==◌, if◌then◌else◌, IsTrue, List, [], ◌∷◌, length, find, Option, Some, None, option_map, unwrap_or, Result, Ok, Err, refl, sym, ap, subst, ◌∙◌, ⊎_elim, true≢false, arith}
use Rattle.std.specs.Prelude.{IfOk}
use Rattle.std.proofs.lemmas.Bool.{cases_Bool, eqb-true}
use Rattle.std.proofs.lemmas.Option.{none-some}
use Rattle.lc_algebra.specs.declared.FieldName.{FieldName}
use Rattle.lc_algebra.specs.Field.{size, is_symbol}
use Rattle.lc_algebra.specs.Span.{InSpan}
use Rattle.lc_algebra.specs.Matrix.{Matrix}
use Rattle.lc_algebra.proofs.CommonLaws.{find_here, find_later}
use Rattle.lc_algebra.proofs.EmbeddingLaws.{told_by_size}
use Rattle.lc_constructions.specs.declared.refusal.CodeRefusal.{CodeRefusal}
use Rattle.lc_constructions.specs.declared.refusal.CodeRefusal.TheVariants as code_refusal
use Rattle.lc_constructions.specs.Code.{IsCode}
use Rattle.lc_constructions.specs.Alternant.{IsAlternantWord}
use Rattle.lc_constructions.specs.Combined.{InExtended}
use Rattle.lc_constructions.specs.Concatenated.{InConcatenated}
use Rattle.lc_constructions.specs.Cyclic.{all_fields}
use Rattle.lc_constructions.specs.Refusal.{refusal_number, first_refusal, IsRefusedAs}
use Rattle.lc_constructions.specs.Refusals.{concatenated_refusals, deleted_refusals, extended_refusals, form_refusals}
use Rattle.lc_formats.specs.Certificate.{Certificate, Reason, accepted, rejected, reason_number, verdict, code_length}
use Rattle.lc_formats.specs.Claim.{PairKind, PlaceKind, Claim, search, alternant, pair, concat, subcode, at_places, extend, claim_total}
use Rattle.lc_formats.specs.ClaimMeaning.{capped, Outcome, code_with, refused_at, HasOwn, Follows, refusal_of_verdict, search_refusal, first_number, field_of_size, form_refusal_in, form_refusal, form_of, subcode_refusal, pair_refusals, pair_length, InPair, pair_bound, InPlaced, place_bound, extended_bound, HasOutcome}
use Rattle.lc_formats.specs.Document.{IsShapedClaim}
use Rattle.lc_goppa.specs.Form.{alternant_form}
use Rattle.lc_trees.specs.declared.outcome.Made.{Made}
use Rattle.lc_trees.specs.declared.outcome.Stop.{Stop}
use Rattle.lc_trees.specs.declared.outcome.Stop.TheVariants.{Refused, NoMemory}
use Rattle.lc_trees.specs.Outcome.{IsOutcomeOf, stop_of, own_of, PairOutcome, NestOutcome, SpanOutcome, PlaceOutcome, ExtendOutcome}
use Rattle.lc_trees.proofs.PartLaws.{own_code, part_code, field_found, outer_field}

pub has_code : (number : ℕ) (refusal : Option ℕ) (f : FieldName) (n : ℕ) (P : List ℕ → Type 0) (b : ℕ) (C : Matrix) (c : ℕ) → refusal ≡ None → IsCode f n P C → c ≡ capped b → HasOwn number refusal f n P b (code_with C c)
has_code number None f n P b C c e k s = (C, k, ap (code_with C) s)
has_code number (Some r) f n P b C c e k s = absurd (none-some r (sym e))

pub has_refusal : (number : ℕ) (refusal : Option ℕ) (f : FieldName) (n : ℕ) (P : List ℕ → Type 0) (b k : ℕ) → refusal ≡ Some k → HasOwn number refusal f n P b (refused_at number k)
has_refusal number None f n P b k e = absurd (none-some k e)
has_refusal number (Some r) f n P b k e = let s : r ≡ k = cc e in ap (refused_at number) (sym s)

own_refused : (t : Bool) (number : ℕ) (e : CodeRefusal) (rs : List (Option CodeRefusal)) (f : FieldName) (n : ℕ) (P : List ℕ → Type 0) (b : ℕ) → (refusal_number e == 0) ≡ t → (e ≢ code_refusal.NoMemory → first_refusal rs ≡ Some e) → IsOutcomeOf (Err (if t then NoMemory else Refused number (refusal_number e))) (HasOwn number (first_number rs) f n P b)
unfolding first_number refusal_number
own_refused true number e rs f n P b t h = tt
own_refused false number e rs f n P b t h =
    has_refusal number (first_number rs) f n P b (refusal_number e) (ap (option_map refusal_number) (h (λ s. true≢false (sym (ap (λ x. refusal_number x == 0) s) ∙ t))))

own_whole : (number bound b : ℕ) (code : Result Matrix CodeRefusal) (rs : List (Option CodeRefusal)) (f : FieldName) (n : ℕ) (P : List ℕ → Type 0) → capped bound ≡ capped b → IfOk code (IsCode f n P) → IsRefusedAs code (first_refusal rs) → IsOutcomeOf (own_of number bound code) (HasOwn number (first_number rs) f n P b)
unfolding own_of stop_of capped first_number
own_whole number bound b (Ok C) rs f n P same k r = has_code number (first_number rs) f n P b C (min bound 256) (ap (option_map refusal_number) r) k same
own_whole number bound b (Err e) rs f n P same k r = own_refused (refusal_number e == 0) number e rs f n P b refl r

pub own_result : (number bound b : ℕ) (code : Result Matrix CodeRefusal) (result : Result Made Stop) (rs : List (Option CodeRefusal)) (f : FieldName) (n : ℕ) (P : List ℕ → Type 0) → capped bound ≡ capped b → IfOk code (IsCode f n P) → IsRefusedAs code (first_refusal rs) → result ≡ own_of number bound code → IsOutcomeOf result (HasOwn number (first_number rs) f n P b)
own_result number bound b code result rs f n P same k r e = subst (λ o. IsOutcomeOf o (HasOwn number (first_number rs) f n P b)) (sym e) (own_whole number bound b code rs f n P same k r)

pub stopped_part : (P : Outcome → Type 0) (next : Matrix → ℕ → Outcome → Type 0) (e : Stop) → IsOutcomeOf (Err e) P → IsOutcomeOf (Err e) (λ o. (one : Outcome) × P one × Follows one next o)
stopped_part P next (Refused number refusal) h = (refused_at number refusal, h, refl)
stopped_part P next NoMemory h = tt

pub made_part : (P : Outcome → Type 0) (next : Matrix → ℕ → Outcome → Type 0) (C : Matrix) (a : ℕ) (result : Result Made Stop) → P (code_with C a) → IsOutcomeOf result (next C a) → IsOutcomeOf result (λ o. (one : Outcome) × P one × Follows one next o)
made_part P next C a (Ok m) h k = (code_with C a, h, k)
made_part P next C a (Err (Refused number refusal)) h k = (code_with C a, h, k)
made_part P next C a (Err NoMemory) h k = tt

pub code_over : (f : FieldName) (number : ℕ) (claim : Claim) (C : Matrix) (c : ℕ) → HasOutcome f number claim (code_with C c) → C.field ≡ f
code_over f number (search s) C c h = (own_code number (search_refusal s) f (code_length s) (InSpan f (code_length s) s.rows) s.distance C c h).code.over
code_over f number (alternant locator points multipliers r) C c h = (own_code number (form_refusal f locator points multipliers r) f (length points) (IsAlternantWord f (form_of f locator points multipliers r)) (r + 1) C c h).code.over
code_over f number (pair kind left right) E c h =
    let (C, (a, e, later)) = part_code h.0 _ E c h.2 in
    let (D, (b, k, last)) = part_code later.0 _ E c later.2 in
    (own_code number _ f (pair_length kind C D) (InPair kind C D) (pair_bound kind a b) E c last).code.over
code_over f number (concat large outer inner) E c h =
    let (C, (a, e, later)) = part_code h.0 _ E c h.2 in
    let (D, (b, k, last)) = part_code later.0 _ E c later.2 in
    (own_code number _ f (C.columns * D.columns) (InConcatenated C D) (a * b) E c last).code.over
code_over f number (subcode of rows) E c h =
    let (C, (a, e, last)) = part_code h.0 _ E c h.2 in
    (own_code number _ f C.columns (InSpan f C.columns rows) a E c last).code.over
code_over f number (at_places kind of places) E c h =
    let (C, (a, e, last)) = part_code h.0 _ E c h.2 in
    (own_code number _ f (C.columns - length places) (InPlaced kind C places) (place_bound kind a (length places)) E c last).code.over
code_over f number (extend of) E c h =
    let (C, (a, e, last)) = part_code h.0 _ E c h.2 in
    (own_code number _ f (C.columns + 1) (InExtended C) (extended_bound f a) E c last).code.over

-- ---- claims without parts

pub search_refused : (f : FieldName) (number k : ℕ) (c : Certificate) (r : Reason) → rejected r ≡ verdict c → k ≡ reason_number r → HasOutcome f number (search c) (refused_at number k)
unfolding search_refusal refusal_of_verdict
search_refused f number k c r e s =
    has_refusal number (search_refusal c) f (code_length c) (InSpan f (code_length c) c.rows) c.distance k (ap refusal_of_verdict (sym e) ∙ ap Some (sym s))

pub search_made : (f : FieldName) (number bound : ℕ) (c : Certificate) (C : Matrix) (result : Result Made Stop) → accepted ≡ verdict c → IsCode f (code_length c) (InSpan f (code_length c) c.rows) C → bound ≡ c.distance → result ≡ own_of number bound (Ok C) → IsOutcomeOf result (HasOutcome f number (search c))
unfolding search_refusal refusal_of_verdict own_of capped
search_made f number bound c C result e k s o =
    subst (λ r. IsOutcomeOf r (HasOutcome f number (search c))) (sym o)
    (has_code number (search_refusal c) f (code_length c) (InSpan f (code_length c) c.rows) c.distance C (min bound 256) (ap refusal_of_verdict (sym e)) k (ap capped s))

field_at : (f : FieldName) (locator : ℕ) (points multipliers : List ℕ) (r : ℕ) (o : Option FieldName) → field_of_size locator ≡ o → form_refusal f locator points multipliers r ≡ form_refusal_in f o points multipliers r
unfolding form_refusal
field_at f locator points multipliers r o e = ap (λ x. form_refusal_in f x points multipliers r) e

sized : (q : ℕ) (xs : List FieldName) (K : FieldName) → find (λ f. size f == q) xs ≡ Some K → size K ≡ q
sized q [] K e = absurd (none-some K e)
sized q (x ∷ xs) K e =
    ⊎_elim
    (λ t. let s : x ≡ K = cc (sym (find_here (λ f. size f == q) x xs t) ∙ e) in ap size (sym s) ∙ eqb-true (size x) q t)
    (λ t. sized q xs K (sym (find_later (λ f. size f == q) x xs t) ∙ e))
    (cases_Bool (size x == q))

none_sized : (q : ℕ) → ((K : FieldName) → size K ≢ q) → field_of_size q ≡ None
unfolding field_of_size
none_sized q h = by_field (find (λ f. size f == q) all_fields) refl
  where
    by_field : (o : Option FieldName) → find (λ f. size f == q) all_fields ≡ o → o ≡ None
    by_field None e = refl
    by_field (Some K) e = absurd (h K (sized q all_fields K e))

pub no_locator : (f : FieldName) (number locator : ℕ) (points multipliers : List ℕ) (r : ℕ) → ((K : FieldName) → size K ≢ locator) → HasOutcome f number (alternant locator points multipliers r) (refused_at number 1)
unfolding form_refusal_in
no_locator f number locator points multipliers r h =
    has_refusal number (form_refusal f locator points multipliers r) f (length points) (IsAlternantWord f (form_of f locator points multipliers r)) (r + 1) 1 (field_at f locator points multipliers r None (none_sized locator h))

form_is : (f K : FieldName) (locator : ℕ) (points multipliers : List ℕ) (r : ℕ) → size K ≡ locator → alternant_form K points multipliers r ≡ form_of f locator points multipliers r
unfolding form_of
form_is f K locator points multipliers r s = ap (λ L. alternant_form L points multipliers r) (sym (outer_field f K locator s))

refusal_is : (f K : FieldName) (locator : ℕ) (points multipliers : List ℕ) (r : ℕ) → size K ≡ locator → first_number (form_refusals f K (nat_lt (length points) r) points multipliers) ≡ form_refusal f locator points multipliers r
unfolding form_refusal_in
refusal_is f K locator points multipliers r s = sym (field_at f locator points multipliers r (Some K) (ap field_of_size (sym s) ∙ field_found K))

pub form_made : (f K : FieldName) (number bound locator : ℕ) (points multipliers : List ℕ) (r : ℕ) (code : Result Matrix CodeRefusal) (result : Result Made Stop) → size K ≡ locator → bound ≡ min r 255 + 1 → IfOk code (IsCode f (length points) (IsAlternantWord f (alternant_form K points multipliers r))) → IsRefusedAs code (first_refusal (form_refusals f K (nat_lt (length points) r) points multipliers)) → result ≡ own_of number bound code → IsOutcomeOf result (HasOutcome f number (alternant locator points multipliers r))
unfolding capped
form_made f K number bound locator points multipliers r code result s b k h e =
    let n = length points in
    let refusals = form_refusals f K (nat_lt n r) points multipliers in
    let own = own_result number bound (r + 1) code result refusals f n (IsAlternantWord f (alternant_form K points multipliers r)) (omega (arith, b)) k h e in
    subst (λ refusal. IsOutcomeOf result (HasOwn number refusal f n (IsAlternantWord f (form_of f locator points multipliers r)) (r + 1))) (refusal_is f K locator points multipliers r s)
    (subst (λ form. IsOutcomeOf result (HasOwn number (first_number refusals) f n (IsAlternantWord f form) (r + 1))) (form_is f K locator points multipliers r s) own)

-- ---- claims with parts

numbered : (f : FieldName) (m k : ℕ) (claim : Claim) (result : Result Made Stop) → m ≡ k → IsOutcomeOf result (HasOutcome f m claim) → IsOutcomeOf result (HasOutcome f k claim)
numbered f m k claim result e h = subst (λ j. IsOutcomeOf result (HasOutcome f j claim)) e h

coded : (f : FieldName) (m k : ℕ) (claim : Claim) (C : Matrix) (a : ℕ) → m ≡ k → HasOutcome f m claim (code_with C a) → HasOutcome f k claim (code_with C a)
coded f m k claim C a e h = subst (λ j. HasOutcome f j claim (code_with C a)) e h

pub pair_first : (f : FieldName) (number m : ℕ) (kind : PairKind) (left right : Claim) (e : Stop) → m ≡ suc number → IsOutcomeOf (Err e) (HasOutcome f m left) → IsOutcomeOf (Err e) (HasOutcome f number (pair kind left right))
pair_first f number m kind left right e s h = stopped_part (HasOutcome f (suc number) left) _ e (numbered f m (suc number) left (Err e) s h)

pub pair_second : (f : FieldName) (number m k : ℕ) (kind : PairKind) (left right : Claim) (C : Matrix) (a : ℕ) (e : Stop) → m ≡ suc number → k ≡ suc number + claim_total left → HasOutcome f m left (code_with C a) → IsOutcomeOf (Err e) (HasOutcome f k right) → IsOutcomeOf (Err e) (HasOutcome f number (pair kind left right))
pair_second f number m k kind left right C a e s t h i =
    made_part (HasOutcome f (suc number) left) _ C a (Err e) (coded f m (suc number) left C a s h)
    (stopped_part (HasOutcome f (suc number + claim_total left) right) _ e (numbered f k (suc number + claim_total left) right (Err e) t i))

pub pair_whole : (f : FieldName) (number m k : ℕ) (kind : PairKind) (left right : Claim) (C : Matrix) (a : ℕ) (D : Matrix) (b : ℕ) (result : Result Made Stop) → m ≡ suc number → k ≡ suc number + claim_total left → HasOutcome f m left (code_with C a) → HasOutcome f k right (code_with D b) → IsOutcomeOf result (PairOutcome number kind C a D b) → IsOutcomeOf result (HasOutcome f number (pair kind left right))
pair_whole f number m k kind left right C a D b result s t h i o =
    made_part (HasOutcome f (suc number) left) _ C a result (coded f m (suc number) left C a s h)
    (made_part (HasOutcome f (suc number + claim_total left) right) _ D b result (coded f k (suc number + claim_total left) right D b t i)
    (subst (λ g. IsOutcomeOf result (HasOwn number (first_number (pair_refusals kind C D)) g (pair_length kind C D) (InPair kind C D) (pair_bound kind a b))) (code_over f m left C a h) o))

pub outer_is : (f K : FieldName) (m k large : ℕ) (claim : Claim) (result : Result Made Stop) → size K ≡ large → m ≡ k → IsOutcomeOf result (HasOutcome K m claim) → IsOutcomeOf result (HasOutcome (unwrap_or (field_of_size large) f) k claim)
outer_is f K m k large claim result s e h = subst (λ g. IsOutcomeOf result (HasOutcome g k claim)) (sym (outer_field f K large s)) (numbered K m k claim result e h)

pub outer_shaped : (f K : FieldName) (large : ℕ) (outer inner : Claim) → size K ≡ large → IsShapedClaim f (concat large outer inner) → IsTrue (is_symbol K) × IsShapedClaim K outer
outer_shaped f K large outer inner s (L, same, symbol, outside, inside) =
    let e : L ≡ K = told_by_size L K (same ∙ sym s) in
    (subst (λ g. IsTrue (is_symbol g)) e symbol, subst (λ g. IsShapedClaim g outer) e outside)

pub inner_shaped : (f : FieldName) (large : ℕ) (outer inner : Claim) → IsShapedClaim f (concat large outer inner) → IsShapedClaim f inner
inner_shaped f large outer inner (L, same, symbol, outside, inside) = inside

pub concat_first : (f K : FieldName) (number m large : ℕ) (outer inner : Claim) (e : Stop) → size K ≡ large → m ≡ suc number → IsOutcomeOf (Err e) (HasOutcome K m outer) → IsOutcomeOf (Err e) (HasOutcome f number (concat large outer inner))
concat_first f K number m large outer inner e z s h = stopped_part (HasOutcome (unwrap_or (field_of_size large) f) (suc number) outer) _ e (outer_is f K m (suc number) large outer (Err e) z s h)

pub concat_second : (f K : FieldName) (number m k large : ℕ) (outer inner : Claim) (C : Matrix) (a : ℕ) (e : Stop) → size K ≡ large → m ≡ suc number → k ≡ suc number + claim_total outer → HasOutcome K m outer (code_with C a) → IsOutcomeOf (Err e) (HasOutcome f k inner) → IsOutcomeOf (Err e) (HasOutcome f number (concat large outer inner))
concat_second f K number m k large outer inner C a e z s t h i =
    made_part (HasOutcome (unwrap_or (field_of_size large) f) (suc number) outer) _ C a (Err e)
    (subst (λ g. HasOutcome g (suc number) outer (code_with C a)) (sym (outer_field f K large z)) (coded K m (suc number) outer C a s h))
    (stopped_part (HasOutcome f (suc number + claim_total outer) inner) _ e (numbered f k (suc number + claim_total outer) inner (Err e) t i))

pub concat_whole : (f K : FieldName) (number m k large : ℕ) (outer inner : Claim) (C : Matrix) (a : ℕ) (D : Matrix) (b : ℕ) (result : Result Made Stop) → size K ≡ large → m ≡ suc number → k ≡ suc number + claim_total outer → HasOutcome K m outer (code_with C a) → HasOutcome f k inner (code_with D b) → IsOutcomeOf result (NestOutcome number C a D b) → IsOutcomeOf result (HasOutcome f number (concat large outer inner))
concat_whole f K number m k large outer inner C a D b result z s t h i o =
    made_part (HasOutcome (unwrap_or (field_of_size large) f) (suc number) outer) _ C a result
    (subst (λ g. HasOutcome g (suc number) outer (code_with C a)) (sym (outer_field f K large z)) (coded K m (suc number) outer C a s h))
    (made_part (HasOutcome f (suc number + claim_total outer) inner) _ D b result (coded f k (suc number + claim_total outer) inner D b t i)
    (subst (λ g. IsOutcomeOf result (HasOwn number (first_number (concatenated_refusals C D)) g (C.columns * D.columns) (InConcatenated C D) (a * b))) (code_over f k inner D b i) o))

pub subcode_first : (f : FieldName) (number m : ℕ) (of : Claim) (rows : List (List ℕ)) (e : Stop) → m ≡ suc number → IsOutcomeOf (Err e) (HasOutcome f m of) → IsOutcomeOf (Err e) (HasOutcome f number (subcode of rows))
subcode_first f number m of rows e s h = stopped_part (HasOutcome f (suc number) of) _ e (numbered f m (suc number) of (Err e) s h)

pub subcode_whole : (f : FieldName) (number m : ℕ) (of : Claim) (rows : List (List ℕ)) (C : Matrix) (a : ℕ) (result : Result Made Stop) → m ≡ suc number → HasOutcome f m of (code_with C a) → IsOutcomeOf result (SpanOutcome number rows C a) → IsOutcomeOf result (HasOutcome f number (subcode of rows))
subcode_whole f number m of rows C a result s h o =
    made_part (HasOutcome f (suc number) of) _ C a result (coded f m (suc number) of C a s h)
    (subst (λ g. IsOutcomeOf result (HasOwn number (subcode_refusal C rows) g C.columns (InSpan g C.columns rows) a)) (code_over f m of C a h) o)

pub places_first : (f : FieldName) (number m : ℕ) (kind : PlaceKind) (of : Claim) (places : List ℕ) (e : Stop) → m ≡ suc number → IsOutcomeOf (Err e) (HasOutcome f m of) → IsOutcomeOf (Err e) (HasOutcome f number (at_places kind of places))
places_first f number m kind of places e s h = stopped_part (HasOutcome f (suc number) of) _ e (numbered f m (suc number) of (Err e) s h)

pub places_whole : (f : FieldName) (number m : ℕ) (kind : PlaceKind) (of : Claim) (places : List ℕ) (C : Matrix) (a : ℕ) (result : Result Made Stop) → m ≡ suc number → HasOutcome f m of (code_with C a) → IsOutcomeOf result (PlaceOutcome number kind places C a) → IsOutcomeOf result (HasOutcome f number (at_places kind of places))
places_whole f number m kind of places C a result s h o =
    made_part (HasOutcome f (suc number) of) _ C a result (coded f m (suc number) of C a s h)
    (subst (λ g. IsOutcomeOf result (HasOwn number (first_number (deleted_refusals C places)) g (C.columns - length places) (InPlaced kind C places) (place_bound kind a (length places)))) (code_over f m of C a h) o)

pub extend_first : (f : FieldName) (number m : ℕ) (of : Claim) (e : Stop) → m ≡ suc number → IsOutcomeOf (Err e) (HasOutcome f m of) → IsOutcomeOf (Err e) (HasOutcome f number (extend of))
extend_first f number m of e s h = stopped_part (HasOutcome f (suc number) of) _ e (numbered f m (suc number) of (Err e) s h)

pub extend_whole : (f : FieldName) (number m : ℕ) (of : Claim) (C : Matrix) (a : ℕ) (result : Result Made Stop) → m ≡ suc number → HasOutcome f m of (code_with C a) → IsOutcomeOf result (ExtendOutcome number C a) → IsOutcomeOf result (HasOutcome f number (extend of))
extend_whole f number m of C a result s h o =
    made_part (HasOutcome f (suc number) of) _ C a result (coded f m (suc number) of C a s h)
    (subst (λ g. IsOutcomeOf result (HasOwn number (first_number (extended_refusals C)) g (C.columns + 1) (InExtended C) (extended_bound g a))) (code_over f m of C a h) o)
