-- The sets of a certificate, set by set.
--   claims_none, claims_more      those of the sets so far, in their order
--   made_claim s w                the set s with the level w
--   at_index, claims_long         the sets with their levels, at an index, and how many they are
--   levels_long, claims_many      those of a search are as many as its sets
--   claims_are, levels_are        they are the sets of the search, one after the other
--   by_scan_is, by_levels_is      how the search proves its distance
use Rattle.std.proofs.Common.{◌≡◌, ℕ, zero, suc, ◌+◌, ◌<◌, Vec, List, [], ◌∷◌, ◌++◌, length, map, slice_index_or, refl, sym, ap, ap₂, subst, ◌∙◌, arith}
use Rattle.std.specs.declared.alloc.Global.{Global}
use Rattle.std.proofs.lemmas.List.{map-append, length-map, get_or-map, ext_get_or}
use Rattle.lc_algebra.specs.Span.{below}
use Rattle.lc_algebra.specs.Matrix.{Matrix}
use Rattle.lc_algebra.proofs.SpanLaws.{length_below, index_below}
use Rattle.lc_enumeration.specs.InformationSet.{InformationSet}
use Rattle.lc_enumeration.specs.Search.{sets_of, set_count, level_below, levels_below}
use Rattle.lc_infoset.specs.Bound.{set_at}
use Rattle.lc_infoset.proofs.SetLaws.{count_is, levels_are as levels_of}
use Rattle.lc_formats.specs.Certificate.{SetClaim, levels}
use Rattle.lc_certificate.specs.declared.certificate.SetClaim as made
use Rattle.lc_certificate.specs.declared.certificate.Proof.TheVariants as proof
use Rattle.lc_certificate.specs.Seen.{claim_of, proof_of as seen_proof}
use Rattle.lc_language.specs.Query.{claims_at, proof_of}
use Rattle.lc_certify.specs.declared.way.Way.{Way}
use Rattle.lc_certify.specs.declared.way.Way.TheVariants as way
use Rattle.lc_certify.specs.Claims.{kind_of, claim_at}

pub claims_none : {X Y : Type 0} (see : X → Y) (h : ℕ → Y) (xs : List X) → xs ≡ [] → map see xs ≡ map h (below 0)
unfolding below
claims_none see h xs e = ap (map see) e

pub claims_more : {X Y : Type 0} (see : X → Y) (h : ℕ → Y) (xs ys : List X) (x : X) (j : ℕ) → map see xs ≡ map h (below j) → see x ≡ h j → ys ≡ xs ++ x ∷ [] → map see ys ≡ map h (below (j + 1))
unfolding below
claims_more see h xs ys x j so_far is pushed =
    let next : suc j ≡ j + 1 = omega arith in
    subst (λ n. map see ys ≡ map h (below n)) next
    (ap (map see) pushed ∙ map-append see xs (x ∷ []) ∙ ap₂ (λ us y. us ++ y ∷ []) so_far is ∙ sym (map-append h (below j) (j ∷ [])))

abbrev pub made_claim : InformationSet → ℕ → SetClaim
made_claim s w = record { basis = s.basis; fresh = s.fresh; level = w }

pub at_index : (sets : List InformationSet) (ws : List ℕ) (i : ℕ) (d : SetClaim) (s : InformationSet) → i < length sets → i < length ws → slice_index_or (claims_at sets ws) i d ≡ made_claim (slice_index_or sets i s) (slice_index_or ws i 0)
unfolding claims_at
at_index [] ws i d s l m = absurd (omega (arith, l))
at_index (t ∷ sets) [] i d s l m = absurd (omega (arith, m))
at_index (t ∷ sets) (w ∷ ws) zero d s l m = refl
at_index (t ∷ sets) (w ∷ ws) (suc i) d s l m = at_index sets ws i d s (omega (arith, l)) (omega (arith, m))

pub claims_long : (sets : List InformationSet) (ws : List ℕ) → length sets ≡ length ws → length (claims_at sets ws) ≡ length sets
unfolding claims_at
claims_long [] ws e = refl
claims_long (s ∷ sets) [] e = absurd (omega (arith, e))
claims_long (s ∷ sets) (w ∷ ws) e = ap suc (claims_long sets ws (omega (arith, e)))

pub levels_long : (C : Matrix) (l : ℕ) → length (levels_below C l) ≡ set_count C
levels_long C l = ap length (levels_of C l) ∙ length-map (below (set_count C)) (level_below C l) ∙ length_below (set_count C)

pub claims_many : (C : Matrix) (l : ℕ) → length (claims_at (sets_of C) (levels_below C l)) ≡ set_count C
claims_many C l = claims_long (sets_of C) (levels_below C l) (sym (count_is C) ∙ sym (levels_long C l)) ∙ sym (count_is C)

pub claims_are : (C : Matrix) (l : ℕ) → map (claim_at C l) (below (set_count C)) ≡ claims_at (sets_of C) (levels_below C l)
claims_are C l =
    let none : InformationSet = record { basis = []; fresh = [] } in
    let d : SetClaim = record { basis = []; fresh = []; level = 0 } in
    let js = below (set_count C) in
    let many = length_below (set_count C) in
    ext_get_or d (map (claim_at C l) js) (claims_at (sets_of C) (levels_below C l))
    (length-map js (claim_at C l) ∙ many ∙ sym (claims_many C l))
    (λ i inside.
    let m : i < set_count C = omega (arith, inside, length-map js (claim_at C l), many) in
    get_or-map (claim_at C l) js i 0 d (omega (arith, m, many))
    ∙ ap (claim_at C l) (index_below (set_count C) i 0 m)
    ∙ sym (
    at_index (sets_of C) (levels_below C l) i d none (omega (arith, m, count_is C)) (omega (arith, m, levels_long C l))
    ∙ ap (made_claim (set_at C i))
    (ap (λ ws. slice_index_or ws i 0) (levels_of C l) ∙ get_or-map (level_below C l) js i 0 0 (omega (arith, m, many)) ∙ ap (level_below C l) (index_below (set_count C) i 0 m))))

pub levels_are : (C : Matrix) (l : ℕ) (claims : List SetClaim) → claims ≡ map (claim_at C l) (below (set_count C)) → levels claims ≡ levels (claims_at (sets_of C) (levels_below C l))
levels_are C l claims e = ap levels (e ∙ claims_are C l)

pub by_scan_is : (w : Way) (C : Matrix) (l : ℕ) → w ≡ way.Scan → seen_proof proof.Scan ≡ proof_of (kind_of w) C l
unfolding kind_of proof_of seen_proof
by_scan_is w C l e = rw e refl

pub by_levels_is : (w : Way) (C : Matrix) (l : ℕ) (claims : Vec made.SetClaim Global) → w ≡ way.Levels → map claim_of claims.items ≡ map (claim_at C l) (below (set_count C)) → seen_proof (proof.Levels claims) ≡ proof_of (kind_of w) C l
unfolding kind_of proof_of seen_proof
by_levels_is w C l claims e h = rw e (levels_are C l (map claim_of claims.items) h)

pub ruleset proof_by_laws = (by_scan_is, by_levels_is)
