-- Which of two slots goes on.
--   empty_empty, empty_refused, .., holds_holds      what is found, by what slot zero and slot one hold
--   later_first, later_second                        of two checkpoints
--   slots_chosen                                     what a vault holds, by two loads
use Rattle.std.proofs.Common.{◌≡◌, ℕ, ◌<◌, ◌≤◌, Bool, true, false, ◌&&◌, List, [], nat_lt, refl, sym, ap, subst, ◌∙◌, arith}
use Rattle.std.specs.Prelude.{if◌then◌else◌, Option, Some, None, IfSome}
use Rattle.std.proofs.lemmas.Bool.Decides.{nat_tests}
use Rattle.std.proofs.lemmas.Bool.{and_right}
use Rattle.lc_formats.specs.Checkpoint.{ReadCheckpoint, CheckpointRefusal, refused, point, damaged, checkpoint_in}
use Rattle.lc_formats.specs.Checkpoint as formats
use Rattle.lc_io.specs.declared.vault.Slot.TheVariants.{Zero, One}
use Rattle.lc_io.specs.Vaults.{Slots, in_slot}
use Rattle.lc_session_rules.specs.Slots.{Choice, nothing_stored, none_decodes, takes, is_empty, later_of, chosen, choice_among, choice}
use Rattle.lc_session_rules.proofs.ChainLaws.{empty_is_none}
use Rattle.lc_checkpoint.specs.declared.checkpoint.Checkpoint.{Checkpoint}
use Rattle.lc_checkpoint.specs.Seen.{point_of}
use Rattle.lc_slots.specs.declared.choosing.Found.{Found}
use Rattle.lc_slots.specs.declared.choosing.Found.TheVariants.{Nothing, Damaged, Taken}
use Rattle.lc_slots.specs.declared.reading.Held.{Held}
use Rattle.lc_slots.specs.declared.reading.Held.TheVariants.{Empty, Refused, Holds}
use Rattle.lc_slots.specs.Found.{IsRead, IsRanged, IsChosen, choice_of}

abbrev both : List ℕ → List ℕ → Slots
both u v = record { zero_slot = u; one_slot = v }

choice_by : (u v : List ℕ) (z o : ReadCheckpoint) → (is_empty u && is_empty v) ≡ false → checkpoint_in u ≡ z → checkpoint_in v ≡ o → choice (both u v) ≡ choice_among (later_of z o)
unfolding choice chosen
choice_by u v z o e f g = rw (e, f, g) refl

first_some : (u v : List ℕ) → is_empty u ≡ false → (is_empty u && is_empty v) ≡ false
first_some u v e = rw e refl

read_none : (u : List ℕ) → u ≡ [] → checkpoint_in u ≡ refused damaged
read_none u e = ap checkpoint_in e ∙ empty_is_none

neither : (r s : CheckpointRefusal) → choice_among (later_of (refused r) (refused s)) ≡ none_decodes
unfolding later_of choice_among
neither r s = refl

second_of : (r : CheckpointRefusal) (q : formats.Checkpoint) → choice_among (later_of (refused r) (point q)) ≡ takes q
unfolding later_of choice_among
second_of r q = refl

first_of_two : (p : formats.Checkpoint) (s : CheckpointRefusal) → choice_among (later_of (point p) (refused s)) ≡ takes p
unfolding later_of choice_among
first_of_two p s = refl

later_of_two : (p q : formats.Checkpoint) (t : Bool) → nat_lt p.turn q.turn ≡ t → choice_among (later_of (point p) (point q)) ≡ takes (if t then q else p)
unfolding later_of choice_among
later_of_two p q true e = rw e refl
later_of_two p q false e = rw e refl

both_empty : (u v : List ℕ) → u ≡ [] → v ≡ [] → choice (both u v) ≡ nothing_stored
unfolding choice is_empty
both_empty u v a b = rw (a, b) refl

pub empty_empty : (zero one : Held) → zero ≡ Empty → one ≡ Empty → IsChosen zero one Nothing
empty_empty zero one e f = record {
  is = λ u v a b. both_empty u v (subst (λ h. IsRead h u) e a) (subst (λ h. IsRead h v) f b);
  ranged = λ a b. tt;
}

pub empty_refused : (zero one : Held) → zero ≡ Empty → one ≡ Refused → IsChosen zero one Damaged
empty_refused zero one e f = record {
  is = λ u v a b.
      let r : IsRead Empty u = subst (λ h. IsRead h u) e a in
      let s : IsRead Refused v = subst (λ h. IsRead h v) f b in
      choice_by u v (refused damaged) (refused s.1.0) (and_right (is_empty u) (is_empty v) s.0) (read_none u r) s.1.1 ∙ neither damaged s.1.0;
  ranged = λ a b. tt;
}

pub empty_holds : (zero one : Held) (q : Checkpoint) → zero ≡ Empty → one ≡ Holds q → IsChosen zero one (Taken q)
empty_holds zero one q e f = record {
  is = λ u v a b.
      let r : IsRead Empty u = subst (λ h. IsRead h u) e a in
      let s : IsRead (Holds q) v = subst (λ h. IsRead h v) f b in
      choice_by u v (refused damaged) (point (point_of q)) (and_right (is_empty u) (is_empty v) s.0) (read_none u r) s.1 ∙ second_of damaged (point_of q);
  ranged = λ a b. subst IsRanged f b;
}

pub refused_empty : (zero one : Held) → zero ≡ Refused → one ≡ Empty → IsChosen zero one Damaged
refused_empty zero one e f = record {
  is = λ u v a b.
      let r : IsRead Refused u = subst (λ h. IsRead h u) e a in
      let s : IsRead Empty v = subst (λ h. IsRead h v) f b in
      choice_by u v (refused r.1.0) (refused damaged) (first_some u v r.0) r.1.1 (read_none v s) ∙ neither r.1.0 damaged;
  ranged = λ a b. tt;
}

pub refused_refused : (zero one : Held) → zero ≡ Refused → one ≡ Refused → IsChosen zero one Damaged
refused_refused zero one e f = record {
  is = λ u v a b.
      let r : IsRead Refused u = subst (λ h. IsRead h u) e a in
      let s : IsRead Refused v = subst (λ h. IsRead h v) f b in
      choice_by u v (refused r.1.0) (refused s.1.0) (first_some u v r.0) r.1.1 s.1.1 ∙ neither r.1.0 s.1.0;
  ranged = λ a b. tt;
}

pub refused_holds : (zero one : Held) (q : Checkpoint) → zero ≡ Refused → one ≡ Holds q → IsChosen zero one (Taken q)
refused_holds zero one q e f = record {
  is = λ u v a b.
      let r : IsRead Refused u = subst (λ h. IsRead h u) e a in
      let s : IsRead (Holds q) v = subst (λ h. IsRead h v) f b in
      choice_by u v (refused r.1.0) (point (point_of q)) (first_some u v r.0) r.1.1 s.1 ∙ second_of r.1.0 (point_of q);
  ranged = λ a b. subst IsRanged f b;
}

pub holds_empty : (zero one : Held) (p : Checkpoint) → zero ≡ Holds p → one ≡ Empty → IsChosen zero one (Taken p)
holds_empty zero one p e f = record {
  is = λ u v a b.
      let r : IsRead (Holds p) u = subst (λ h. IsRead h u) e a in
      let s : IsRead Empty v = subst (λ h. IsRead h v) f b in
      choice_by u v (point (point_of p)) (refused damaged) (first_some u v r.0) r.1 (read_none v s) ∙ first_of_two (point_of p) damaged;
  ranged = λ a b. subst IsRanged e a;
}

pub holds_refused : (zero one : Held) (p : Checkpoint) → zero ≡ Holds p → one ≡ Refused → IsChosen zero one (Taken p)
holds_refused zero one p e f = record {
  is = λ u v a b.
      let r : IsRead (Holds p) u = subst (λ h. IsRead h u) e a in
      let s : IsRead Refused v = subst (λ h. IsRead h v) f b in
      choice_by u v (point (point_of p)) (refused s.1.0) (first_some u v r.0) r.1 s.1.1 ∙ first_of_two (point_of p) s.1.0;
  ranged = λ a b. subst IsRanged e a;
}

pub holds_holds : (zero one : Held) (p q : Checkpoint) (f : Found) → zero ≡ Holds p → one ≡ Holds q → IsChosen (Holds p) (Holds q) f → IsChosen zero one f
holds_holds zero one p q f e g c = record {
  is = λ u v a b. c.is u v (subst (λ h. IsRead h u) e a) (subst (λ h. IsRead h v) g b);
  ranged = λ a b. c.ranged (subst IsRanged e a) (subst IsRanged g b);
}

pub later_second : (p q : Checkpoint) → p.turn < q.turn → IsChosen (Holds p) (Holds q) (Taken q)
unfolding point_of
later_second p q l =
    let t : nat_lt p.turn q.turn ≡ true = grind (arith, nat_tests, l) in
    record {
      is = λ u v a b. choice_by u v (point (point_of p)) (point (point_of q)) (first_some u v a.0) a.1 b.1 ∙ later_of_two (point_of p) (point_of q) true t;
      ranged = λ a b. b;
    }

pub later_first : (p q : Checkpoint) → q.turn ≤ p.turn → IsChosen (Holds p) (Holds q) (Taken p)
unfolding point_of
later_first p q l =
    let t : nat_lt p.turn q.turn ≡ false = grind (arith, nat_tests, l) in
    record {
      is = λ u v a b. choice_by u v (point (point_of p)) (point (point_of q)) (first_some u v a.0) a.1 b.1 ∙ later_of_two (point_of p) (point_of q) false t;
      ranged = λ a b. a;
    }

-- the two loads of a vault, which the first one leaves as it was
pub slots_chosen : (told mid : Option Slots) (zero one : Held) (f : Found) → IsChosen zero one f → mid ≡ told → IfSome told (λ slots. IsRead zero (in_slot Zero slots)) → IfSome mid (λ slots. IsRead one (in_slot One slots)) → IfSome told (λ slots. choice slots ≡ choice_of f)
slots_chosen None mid zero one f c e a b = tt
slots_chosen (Some slots) mid zero one f c e a b =
    let second : IsRead one (in_slot One slots) = subst (λ (m : Option Slots). IfSome m (λ s. IsRead one (in_slot One s))) e b in
    c.is slots.zero_slot slots.one_slot a second

pub ruleset later_of_laws = (empty_empty, empty_refused, empty_holds, refused_empty, refused_refused, refused_holds, holds_empty, holds_refused, holds_holds)

pub ruleset greater_turn_laws = (later_second, later_first)
