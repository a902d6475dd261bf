-- Whether the sets of searches have their keys and no other.
--   closed_at_none               claims too deep to be looked at
--   closed_by_parts              the sets of an object, and those of the claims at five keys
--   part_closed_found, part_closed_nowhere      the claim at a key
use Rattle.std.proofs.Common.{◌≡◌, ◌≢◌, ℕ, zero, suc, ◌-◌, Bool, true, ◌&&◌, codes, Option, Some, None, refl, sym, ap, ◌∙◌, arith}
use Rattle.serde_json.specs.Data.{Members}
use Rattle.lc_formats.specs.Check.{are_set_keys}
use Rattle.lc_formats.specs.Document.{object_at, part_keys, all_of, are_closed}

pub closed_at_none : (most : ℕ) (ms : Members) → most ≡ 0 → are_closed most ms ≡ true
unfolding are_closed
closed_at_none most ms e = ap (λ k. are_closed k ms) e

and_true : (b : Bool) → (b && true) ≡ b
and_true Bool.true = refl
and_true Bool.false = refl

unfoldable closed_parts : ℕ → Members → Bool
closed_parts most ms = are_set_keys ms && (all_of (are_closed most) (object_at (codes "left") ms) && (all_of (are_closed most) (object_at (codes "right") ms) && (all_of (are_closed most) (object_at (codes "outer") ms) && (all_of (are_closed most) (object_at (codes "inner") ms) && all_of (are_closed most) (object_at (codes "of") ms)))))

closed_next : (most : ℕ) (ms : Members) → are_closed (suc most) ms ≡ closed_parts most ms
unfolding are_closed part_keys closed_parts
closed_next most ms = ap (λ b. are_set_keys ms && (all_of (are_closed most) (object_at (codes "left") ms) && (all_of (are_closed most) (object_at (codes "right") ms) && (all_of (are_closed most) (object_at (codes "outer") ms) && (all_of (are_closed most) (object_at (codes "inner") ms) && b))))) (and_true (all_of (are_closed most) (object_at (codes "of") ms)))

pub closed_by_parts : (most : ℕ) (ms : Members) → most ≢ 0 → are_closed most ms ≡ (are_set_keys ms && (all_of (are_closed (most - 1)) (object_at (codes "left") ms) && (all_of (are_closed (most - 1)) (object_at (codes "right") ms) && (all_of (are_closed (most - 1)) (object_at (codes "outer") ms) && (all_of (are_closed (most - 1)) (object_at (codes "inner") ms) && all_of (are_closed (most - 1)) (object_at (codes "of") ms))))))
unfolding closed_parts
closed_by_parts zero ms e = absurd (e refl)
closed_by_parts (suc most) ms e = closed_next most ms ∙ ap (λ m. closed_parts m ms) {x = most} {y = suc most - 1} (omega arith)

pub part_closed_found : (test : Members → Bool) (o : Option Members) (ms : Members) → Some ms ≡ o → all_of test o ≡ test ms
unfolding all_of
part_closed_found test o ms h = ap (all_of test) (sym h)

pub part_closed_nowhere : (test : Members → Bool) (o : Option Members) → None ≡ o → all_of test o ≡ true
unfolding all_of
part_closed_nowhere test o h = ap (all_of test) (sym h)

pub ruleset are_closed_laws = (closed_at_none, closed_by_parts)

pub ruleset are_closed_at_laws = (part_closed_found, part_closed_nowhere)
