-- Chains of sessions leave the slots as `resume` asks for them.
--   IsKept table bytes budget version slot read      what a slot is in a chain: no checkpoint, or a true one in the slot of its
--                        turn, of this version or the one before it
--   AreKept              both slots
--   kept_put             a slot that is replaced
--   kept_steps           a session that stores true checkpoints
--   kept_left            a store that failed
--   chosen_kept          the checkpoint that is taken
--   transferred          records that settle needs under one divisor settle the same needs under another that agrees with it
--   true_from            a session does true steps if its start is true, or if no need is left
--   IsUsed               which records of a checkpoint a session of a version uses
--   resumed_start        a session that resumes a true checkpoint does true steps
--   chains_kept, chains_are_true      the law
use Rattle.std.proofs.Common.{zero, option_map, ◌≡◌, ◌+◌, ◌≤◌, ◌<◌, ◌^◌, ⊎_elim, inl, inr, ℕ, suc, Bool, true, false, List, [], ◌∷◌, length, take, drop, get_or, refl, sym, ap, subst, ◌∙◌, arith}
use Rattle.std.specs.Prelude.{Option, Some, None, slice_get, nat_lt, if◌then◌else◌, ◌==◌}
use Rattle.std.proofs.lemmas.Bool.{cases_Bool, ltb-false}
use Rattle.std.proofs.lemmas.List.{get_or-take, length-take, length-take-le}
use Rattle.std.proofs.lemmas.Option.{get_or_from_slice_get, slice_get_within}
use Rattle.sha2.specs.Sha256.{sha256}
use Rattle.lc_algebra.specs.declared.FieldName.TheVariants.{Gf2}
use Rattle.lc_algebra.specs.Matrix.{Matrix}
use Rattle.lc_algebra.specs.Divisor.{divisor_of, weight_divisor}
use Rattle.lc_algebra.proofs.DivisorLaws.{divisor_positive}
use Rattle.lc_enumeration.specs.Search.{answer}
use Rattle.lc_enumeration.specs.Records.{Progress, Start, SessionStep, found_of, fresh_start, no_steps, session_from, session_rounds, IsBestAt}
use Rattle.lc_enumeration.specs.Fitting.{first_divisible, start_before, used_start}
use Rattle.lc_formats.specs.Checkpoint.{Checkpoint, CheckpointRefusal, ReadCheckpoint, point, refused, damaged, current_of, checkpoint_in}
use Rattle.lc_formats.proofs.Evaluated.{checkpoint_computes}
use Rattle.lc_enumeration.specs.Truth.{answer_blocks, IsSettled}
use Rattle.lc_formats.specs.Truth.{divisor_in, turn_allowance, IsTrueFor}
use Rattle.lc_io.specs.declared.vault.Slot.{Slot}
use Rattle.lc_io.specs.declared.vault.Slot.TheVariants.{Zero, One}
use Rattle.lc_io.specs.Vaults.{Slots, empty_slots, in_slot, put}
use Rattle.lc_language.specs.declared.Call.{Call}
use Rattle.lc_session_rules.specs.Needs.{MeetsFirst, AgreeAsFar}
use Rattle.lc_session_rules.proofs.NeedsLaws.{met_agree}
use Rattle.lc_session_rules.proofs.GroundLaws.{searches_end, early_enough}
use Rattle.lc_session_rules.specs.Slots.{slot_of, next_turn, turn_after, point_of, stored_bytes, slots_after, IsTrueCheckpoint, IsTornOr, later_of, chosen, start_in}
use Rattle.lc_session_rules.specs.Chain.{IsLeft, IsVersion, Leaves, Goes, Chain, EndsAtAnswer, IsGround, ChainsAreTrue}
use Rattle.lc_session_rules.proofs.TrueSteps.{AreSettled, settled_take, need_at, AreTrueSteps, true_front, IsTrueStart, starts_next, session_true, parts_of}

pub record IsKeptPoint (table : List Call) (bytes : List ℕ) (budget version : ℕ) (slot : Slot) (p : Checkpoint) : Type 0 where
  pub true_for : IsTrueCheckpoint table bytes budget p
  pub placed : slot_of p.turn ≡ slot
  pub known : IsVersion p.version
  pub old : p.version ≤ version

abbrev pub IsKept : List Call → List ℕ → ℕ → ℕ → Slot → ReadCheckpoint → Type 0
IsKept table bytes budget version slot (point p) = IsKeptPoint table bytes budget version slot p
IsKept table bytes budget version slot (refused r) = Unit {0}

abbrev pub AreKept : List Call → List ℕ → ℕ → ℕ → Slots → Type 0
AreKept table bytes budget version slots = (slot : Slot) → IsKept table bytes budget version slot (checkpoint_in (in_slot slot slots))

kept_put : (table : List Call) (bytes : List ℕ) (budget version : ℕ) (at : Slot) (held : List ℕ) (slots : Slots) → AreKept table bytes budget version slots → IsKept table bytes budget version at (checkpoint_in held) → AreKept table bytes budget version (put at held slots)
kept_put table bytes budget version Zero held slots all one Zero = one
kept_put table bytes budget version Zero held slots all one One = all One
kept_put table bytes budget version One held slots all one Zero = all Zero
kept_put table bytes budget version One held slots all one One = one

kept_step : (table : List Call) (bytes : List ℕ) (budget version : ℕ) (needs : List Matrix) (turn : ℕ) (s : SessionStep) → IsGround table bytes budget → IsVersion version → MeetsFirst table bytes needs → IsTrueFor needs (sha256 bytes) budget (point_of version (sha256 bytes) budget turn s)
    → IsKept table bytes budget version (slot_of turn) (checkpoint_in (stored_bytes version (sha256 bytes) budget turn s))
unfolding point_of stored_bytes
kept_step table bytes budget version needs turn s ground known met true_for =
    rw (ground.reads_back (point_of version (sha256 bytes) budget turn s) known (needs, met, true_for))
    (record { true_for = (needs, met, true_for); placed = refl; known = known; old = omega arith })

kept_steps : (table : List Call) (bytes : List ℕ) (budget version : ℕ) (needs : List Matrix) → IsGround table bytes budget → IsVersion version → MeetsFirst table bytes needs → (steps : List SessionStep) (turn : ℕ) (slots : Slots) → AreKept table bytes budget version slots
    → AreTrueSteps version needs (sha256 bytes) budget turn steps → AreKept table bytes budget version (slots_after version (sha256 bytes) budget turn steps slots)
kept_steps table bytes budget version needs ground known met [] turn slots all steps = all
kept_steps table bytes budget version needs ground known met (s ∷ rest) turn slots all steps =
    kept_steps table bytes budget version needs ground known met rest (next_turn turn) (put (slot_of turn) (stored_bytes version (sha256 bytes) budget turn s) slots)
    (kept_put table bytes budget version (slot_of turn) (stored_bytes version (sha256 bytes) budget turn s) slots all (kept_step table bytes budget version needs turn s ground known met steps.0)) steps.1

kept_left : (table : List Call) (bytes : List ℕ) (budget version : ℕ) (at : Slot) (held : List ℕ) (slots : Slots) → AreKept table bytes budget version slots → IsLeft (in_slot at slots) held → AreKept table bytes budget version (put at held slots)
kept_left table bytes budget version at held slots all left =
    kept_put table bytes budget version at held slots all
    (⊎_elim (λ (e : held ≡ in_slot at slots). subst (λ (b : List ℕ). IsKept table bytes budget version at (checkpoint_in b)) (sym e) (all at)) (λ (e : (r : CheckpointRefusal) × (checkpoint_in held ≡ refused r)). rw e.1 tt) left)

kept_leaves : (table : List Call) (bytes : List ℕ) (budget version : ℕ) (needs : List Matrix) → IsGround table bytes budget → IsVersion version → MeetsFirst table bytes needs → (told : List SessionStep) (turn : ℕ) (before after : Slots) → AreKept table bytes budget version before
    → AreTrueSteps version needs (sha256 bytes) budget turn told → Leaves version (sha256 bytes) budget turn told before after → AreKept table bytes budget version after
kept_leaves table bytes budget version needs ground known met told turn before after all steps left =
    let mid = kept_steps table bytes budget version needs ground known met told turn before all steps in
    let slots = slots_after version (sha256 bytes) budget turn told before in
    let at = slot_of (turn_after turn told) in
    ⊎_elim (λ (e : after ≡ slots). subst (AreKept table bytes budget version) (sym e) mid)
    (λ (e : (held : List ℕ) × IsLeft (in_slot at slots) held × (after ≡ put at held slots)). subst (AreKept table bytes budget version) (sym e.2) (kept_left table bytes budget version at e.0 slots mid e.1)) left

-- an older version is one as well
kept_later : (table : List Call) (bytes : List ℕ) (budget version later : ℕ) (slots : Slots) → version ≤ later → AreKept table bytes budget version slots → AreKept table bytes budget later slots
kept_later table bytes budget version later slots l all = λ slot. lift slot (checkpoint_in (in_slot slot slots)) (all slot)
  where
    lift : (slot : Slot) (read : ReadCheckpoint) → IsKept table bytes budget version slot read → IsKept table bytes budget later slot read
    lift slot (point p) h = record { true_for = h.true_for; placed = h.placed; known = h.known; old = omega (arith, l, h.old) }
    lift slot (refused r) h = tt

-- the checkpoint that is taken stands in one of the slots
taken_kept : (table : List Call) (bytes : List ℕ) (budget version : ℕ) (a b : ReadCheckpoint) (p : Checkpoint) → IsKept table bytes budget version Zero a → IsKept table bytes budget version One b → later_of a b ≡ Some p → (slot : Slot) × IsKeptPoint table bytes budget version slot p
unfolding later_of
taken_kept table bytes budget version (refused r) (refused s) p h k is = absurd (let e = is in cc)
taken_kept table bytes budget version (refused r) (point q) p h k is = (One, subst (IsKeptPoint table bytes budget version One) (let e = is in cc) k)
taken_kept table bytes budget version (point q) (refused s) p h k is = (Zero, subst (IsKeptPoint table bytes budget version Zero) (let e = is in cc) h)
taken_kept table bytes budget version (point q) (point r) p h k is = by_turn (nat_lt q.turn r.turn) is
  where
    by_turn : (b : Bool) → (if b then Some r else Some q) ≡ Some p → (slot : Slot) × IsKeptPoint table bytes budget version slot p
    by_turn true e = (One, subst (IsKeptPoint table bytes budget version One) (let f = e in cc) k)
    by_turn false e = (Zero, subst (IsKeptPoint table bytes budget version Zero) (let f = e in cc) h)

pub chosen_kept : (table : List Call) (bytes : List ℕ) (budget version : ℕ) (slots : Slots) (p : Checkpoint) → AreKept table bytes budget version slots → chosen slots ≡ Some p → (slot : Slot) × IsKeptPoint table bytes budget version slot p
unfolding chosen
chosen_kept table bytes budget version slots p all is = taken_kept table bytes budget version (checkpoint_in slots.zero_slot) (checkpoint_in slots.one_slot) p (all Zero) (all One) is

-- two divisors agree on the first n needs
abbrev AgreeOn : (Matrix → ℕ) → (Matrix → ℕ) → List Matrix → ℕ → Type 0
AgreeOn divisor other needs n = (k : ℕ) (D : Matrix) → k < n → slice_get needs k ≡ Some D → divisor D ≡ other D

settles_as : (divisor other : Matrix → ℕ) (budget : ℕ) (C D : Matrix) (s : Progress) → C ≡ D → divisor D ≡ other D → IsSettled (divisor C) C budget s → IsSettled (other D) D budget s
settles_as divisor other budget C D s is same h =
    subst (λ (n : ℕ). IsSettled n D budget s) same (subst (λ (E : Matrix). IsSettled (divisor E) E budget s) is h)

transferred : (divisor other : Matrix → ℕ) (budget : ℕ) (needs others : List Matrix) (settled : List Progress) → AreSettled divisor budget needs settled → AgreeAsFar needs others → AgreeOn divisor other others (length settled) → length settled ≤ length others → AreSettled other budget others settled
transferred divisor other budget needs others [] all one same l = tt
transferred divisor other budget [] others (s ∷ settled) all one same l = absurd all
transferred divisor other budget (C ∷ needs) [] (s ∷ settled) all one same l = absurd (omega (arith, l))
transferred divisor other budget (C ∷ needs) (D ∷ others) (s ∷ settled) all one same l = (
  settles_as divisor other budget C D s (one 0 C D refl refl) (same 0 D (omega arith) refl) all.0,
  transferred divisor other budget needs others settled all.1 (λ i E F e f. one (suc i) E F e f) (λ k E m e. same (suc k) E (omega (arith, m)) e) (omega (arith, l)),
)

one_at_least : (version : ℕ) (D : Matrix) → 1 ≤ divisor_in version D
unfolding divisor_in divisor_of
one_at_least version D = by_version (version == 1)
  where
    by_version : (b : Bool) → 1 ≤ (if b then 1 else weight_divisor D.field D.columns D.rows)
    by_version true = omega arith
    by_version false = divisor_positive D.field D.columns D.rows

-- a divisor that isn't above 1 is that of version 1
at_most_one : (version : ℕ) (D : Matrix) → nat_lt 1 (divisor_in version D) ≡ false → divisor_in 1 D ≡ divisor_in version D
unfolding divisor_in
at_most_one version D is = omega (arith, ltb-false 1 (divisor_in version D) is, one_at_least version D)

-- where no need is left the session does no round, so that nothing needs to be shown of its start
true_from : (version : ℕ) (needs : List Matrix) (digest : List ℕ) (budget longest : ℕ) → IsVersion version
    → ((i : ℕ) (C : Matrix) → slice_get needs i ≡ Some C → (slice : Option ℕ) (s : Progress) → IsBestAt C s → s.blocks ≤ answer_blocks (answer (divisor_in version C) C budget) → EndsAtAnswer (divisor_in version C) C budget longest slice s)
    → (slice : Option ℕ) (settled : List Progress) (current : Option Progress) (turn : ℕ) (left : List Matrix) → drop (length settled) needs ≡ left → ((C : Matrix) → slice_get needs (length settled) ≡ Some C → IsTrueStart version needs budget settled current turn)
    → AreTrueSteps version needs digest budget turn (session_from (divisor_in version) left budget longest slice settled current).steps
unfolding session_from no_steps
true_from version needs digest budget longest known ends slice settled current turn [] is start = tt
true_from version needs digest budget longest known ends slice settled current turn (C ∷ left) is start =
    session_true version needs digest budget longest known ends (C ∷ left) slice settled current turn is (start C (need_at needs (length settled) C left is))

-- where a session starts that uses all records of a true checkpoint, or those before a need
pub record IsUsed (p : Checkpoint) (needs : List Matrix) (version : ℕ) (o : Option ℕ) : Type 0 where
  pub all : o ≡ None → AgreeOn (divisor_in p.version) (divisor_in version) needs (suc (length p.settled)) × (turn_allowance p.version ≤ turn_allowance version)
  pub some : (i : ℕ) → o ≡ Some i → AgreeOn (divisor_in p.version) (divisor_in version) needs i × (i ≤ length p.settled) × (p.turn + 1 ≤ turn_allowance version)

pub start_all : (bytes : List ℕ) (budget version : ℕ) (needs front : List Matrix) (p : Checkpoint) → AgreeAsFar front needs → IsTrueFor front (sha256 bytes) budget p → AgreeOn (divisor_in p.version) (divisor_in version) needs (suc (length p.settled)) → turn_allowance p.version ≤ turn_allowance version
    → length p.settled ≤ length needs → IsTrueStart version needs budget p.settled (Some (current_of p)) (next_turn p.turn)
unfolding current_of found_of next_turn
start_all bytes budget version needs front p one holds agree allowed within = record {
  done = transferred (divisor_in p.version) (divisor_in version) budget front needs p.settled (parts_of front (sha256 bytes) budget p holds).settled one (λ k D m e. agree k D (omega (arith, m)) e) within;
  best = λ D is.
      let parts = parts_of front (sha256 bytes) budget p holds in
      let same : parts.current.0 ≡ D = one (length p.settled) parts.current.0 D parts.current.1 is in
      let few : p.blocks ≤ answer_blocks (answer (divisor_in p.version D) D budget) = subst (λ (E : Matrix). p.blocks ≤ answer_blocks (answer (divisor_in p.version E) E budget)) same parts.current.3 in
      (subst (λ (E : Matrix). IsBestAt E (current_of p)) same parts.current.4, subst (λ (n : ℕ). p.blocks ≤ answer_blocks (answer n D budget)) (agree (length p.settled) D (omega arith) is) few);
  early = λ D is. omega (arith, holds.turn, allowed);
}

pub start_some : (bytes : List ℕ) (budget version : ℕ) (needs front : List Matrix) (p : Checkpoint) (i : ℕ) → AgreeAsFar front needs → IsTrueFor front (sha256 bytes) budget p → AgreeOn (divisor_in p.version) (divisor_in version) needs i → i ≤ length p.settled → p.turn + 1 ≤ turn_allowance version
    → length (take i p.settled) ≤ length needs → IsTrueStart version needs budget (take i p.settled) None (next_turn p.turn)
unfolding next_turn
start_some bytes budget version needs front p i one holds agree within allowed few =
    let size : length (take i p.settled) ≡ i = length-take-le i p.settled within in
    starts_next version needs budget (take i p.settled) (next_turn p.turn)
    (transferred (divisor_in p.version) (divisor_in version) budget front needs (take i p.settled) (settled_take (divisor_in p.version) budget front p.settled i (parts_of front (sha256 bytes) budget p holds).settled) one (λ k D m e. agree k D (omega (arith, m, size)) e) few)
    (omega (arith, allowed))

-- a session that goes on from a true checkpoint does steps whose checkpoints are true
resumed_truly : (table : List Call) (bytes : List ℕ) (budget longest version : ℕ) (needs front : List Matrix) (p : Checkpoint) → 0 < longest → IsGround table bytes budget → IsVersion version → MeetsFirst table bytes needs → MeetsFirst table bytes front → IsTrueFor front (sha256 bytes) budget p
    → (slice o : Option ℕ) → IsUsed p needs version o → AreTrueSteps version needs (sha256 bytes) budget (next_turn p.turn) (session_rounds (divisor_in version) needs budget longest slice (start_before p.settled (current_of p) o)).steps
unfolding session_rounds start_before
resumed_truly table bytes budget longest version needs front p long ground known met met_front holds slice None used =
    let u = used.all refl in
    true_from version needs (sha256 bytes) budget longest known (searches_end table bytes budget longest long ground version needs met) slice p.settled (Some (current_of p)) (next_turn p.turn) (drop (length p.settled) needs) refl
    (λ C at. start_all bytes budget version needs front p (met_agree table bytes ground.script ground.step front needs met_front met) holds u.0 u.1 (let w = slice_get_within needs (length p.settled) C at in omega (arith, w)))
resumed_truly table bytes budget longest version needs front p long ground known met met_front holds slice (Some i) used =
    let u = used.some i refl in
    true_from version needs (sha256 bytes) budget longest known (searches_end table bytes budget longest long ground version needs met) slice (take i p.settled) None (next_turn p.turn) (drop (length (take i p.settled)) needs) refl
    (λ C at. start_some bytes budget version needs front p i (met_agree table bytes ground.script ground.step front needs met_front met) holds u.0 u.1 u.2 (let w = slice_get_within needs (length (take i p.settled)) C at in omega (arith, w)))

-- a version that isn't 1 is used whole
pub used_whole : (p : Checkpoint) (needs : List Matrix) (version : ℕ) → p.version ≡ version → IsUsed p needs version None
used_whole p needs version same = record {
  all = λ e. ((λ k D l is. ap (λ (v : ℕ). divisor_in v D) same), subst (λ (v : ℕ). turn_allowance p.version ≤ turn_allowance v) same (omega arith));
  some = λ i e. absurd (let f = e in cc);
}

below_first : (version : ℕ) (needs : List Matrix) (n k : ℕ) (D : Matrix) → k < n → slice_get needs k ≡ Some D → ((d : Matrix) → k < length (take n needs) → nat_lt 1 (divisor_in version (get_or (take n needs) k d)) ≡ false) → divisor_in 1 D ≡ divisor_in version D
below_first version needs n k D l is fails =
    let w = slice_get_within needs k D is in
    let at : get_or (take n needs) k D ≡ D = get_or-take n needs k D l ∙ get_or_from_slice_get needs k D D is in
    at_most_one version D (subst (λ (E : Matrix). nat_lt 1 (divisor_in version E) ≡ false) at (fails D (let t = length-take n needs in omega (arith, l, w, t))))

allowed_first : (version : ℕ) → turn_allowance 1 ≤ turn_allowance version
unfolding turn_allowance
allowed_first version = omega arith

allowed_second : turn_allowance 2 ≡ 2 ^ 57
unfolding turn_allowance
allowed_second = refl

never_above : (D : Matrix) → nat_lt 1 (divisor_in 1 D) ≡ true → ⊥
unfolding divisor_in
never_above D is = (let e = is in cc)

-- only a session of version 2 uses fewer records
late_enough : (version : ℕ) (D : Matrix) (turn : ℕ) → IsVersion version → nat_lt 1 (divisor_in version D) ≡ true → turn < 2 ^ 57 → turn + 1 ≤ turn_allowance version
late_enough version D turn known above early =
    ⊎_elim (λ (e : version ≡ 1). absurd (never_above D (subst (λ (v : ℕ). nat_lt 1 (divisor_in v D) ≡ true) e above))) (λ (e : version ≡ 2). (let a : turn_allowance version ≡ 2 ^ 57 = ap turn_allowance e ∙ allowed_second in omega (arith, a, early))) known

abbrev any_need : Matrix
any_need = record { field = Gf2; columns = 0; rows = [] }

-- what the first need with a divisor above 1 is, and that there is none
no_divisible : (divisor : Matrix → ℕ) (needs : List Matrix) → first_divisible divisor needs ≡ None → (k : ℕ) (d : Matrix) → k < length needs → nat_lt 1 (divisor (get_or needs k d)) ≡ false
unfolding first_divisible
no_divisible divisor [] is k d l = absurd (omega (arith, l))
no_divisible divisor (C ∷ needs) is k d l =
    ⊎_elim
    (λ (t : nat_lt 1 (divisor C) ≡ true). absurd (let e : Some 0 ≡ None = subst (λ (b : Bool). (if b then Some 0 else option_map suc (first_divisible divisor needs)) ≡ None) t is in cc))
    (λ (f : nat_lt 1 (divisor C) ≡ false). later k f (λ j m. no_divisible divisor needs (unless (first_divisible divisor needs) (subst (λ (b : Bool). (if b then Some 0 else option_map suc (first_divisible divisor needs)) ≡ None) f is)) j d m) l)
    (cases_Bool (nat_lt 1 (divisor C)))
  where
    unless : (o : Option ℕ) → option_map suc o ≡ None → o ≡ None
    unless None e = refl
    unless (Some i) e = absurd (let f = e in cc)

    later : (k : ℕ) → nat_lt 1 (divisor C) ≡ false → ((j : ℕ) → j < length needs → nat_lt 1 (divisor (get_or needs j d)) ≡ false) → k < suc (length needs) → nat_lt 1 (divisor (get_or (C ∷ needs) k d)) ≡ false
    later zero f rest l = f
    later (suc k) f rest l = rest k (omega (arith, l))

-- the first one, at an index: it has such a divisor, and none before it has
record IsFirstDivisible (divisor : Matrix → ℕ) (needs : List Matrix) (i : ℕ) (d : Matrix) : Type 0 where
  within : i < length needs
  is : nat_lt 1 (divisor (get_or needs i d)) ≡ true
  before : (k : ℕ) → k < i → nat_lt 1 (divisor (get_or needs k d)) ≡ false

the_divisible : (divisor : Matrix → ℕ) (needs : List Matrix) (i : ℕ) (d : Matrix) → first_divisible divisor needs ≡ Some i → IsFirstDivisible divisor needs i d
unfolding first_divisible
the_divisible divisor [] i d at = absurd (let e = at in cc)
the_divisible divisor (C ∷ needs) i d at =
    ⊎_elim
    (λ (t : nat_lt 1 (divisor C) ≡ true). here i t (subst (λ (b : Bool). (if b then Some 0 else option_map suc (first_divisible divisor needs)) ≡ Some i) t at))
    (λ (f : nat_lt 1 (divisor C) ≡ false). there i f (first_divisible divisor needs) refl (subst (λ (b : Bool). (if b then Some 0 else option_map suc (first_divisible divisor needs)) ≡ Some i) f at) (λ j e. the_divisible divisor needs j d e))
    (cases_Bool (nat_lt 1 (divisor C)))
  where
    here : (i : ℕ) → nat_lt 1 (divisor C) ≡ true → Some 0 ≡ Some i → IsFirstDivisible divisor (C ∷ needs) i d
    here zero t e = record { within = omega arith; is = t; before = λ k l. absurd (omega (arith, l)) }
    here (suc i) t e = absurd (let f = e in cc)

    first_ones : (k : ℕ) → nat_lt 1 (divisor C) ≡ false → {i : ℕ} → IsFirstDivisible divisor needs i d → k < suc i → nat_lt 1 (divisor (get_or (C ∷ needs) k d)) ≡ false
    first_ones zero f r l = f
    first_ones (suc k) f r l = r.before k (omega (arith, l))

    there : (i : ℕ) → nat_lt 1 (divisor C) ≡ false → (o : Option ℕ) → first_divisible divisor needs ≡ o → option_map suc o ≡ Some i → ((j : ℕ) → first_divisible divisor needs ≡ Some j → IsFirstDivisible divisor needs j d) → IsFirstDivisible divisor (C ∷ needs) i d
    there i f None e g rest = absurd (let h = g in cc)
    there zero f (Some j) e g rest = absurd (let h = g in cc)
    there (suc i) f (Some j) e g rest =
        let same : j ≡ i = (let h = g in cc) in
        let r = rest i (e ∙ ap (λ (n : ℕ). Some n) same) in
        record { within = omega (arith, r.within); is = r.is; before = λ k l. first_ones k f r l }

-- of version 1 the records before the first need with a divisor above 1 are used
pub used_first : (p : Checkpoint) (needs : List Matrix) (version : ℕ) → p.version ≡ 1 → IsVersion version → p.turn < 2 ^ 57 → IsUsed p needs version (first_divisible (divisor_in version) (take (suc (length p.settled)) needs))
used_first p needs version first known early = record {
  all = λ none. (
    (λ k D l is. ap (λ (v : ℕ). divisor_in v D) first ∙ below_first version needs (suc (length p.settled)) k D l is (λ d m. no_divisible (divisor_in version) (take (suc (length p.settled)) needs) none k d m)),
    rw first (allowed_first version),
  );
  some = λ i is. (
    (λ k D l e.
        let f = the_divisible (divisor_in version) (take (suc (length p.settled)) needs) i D is in
        let t = length-take (suc (length p.settled)) needs in
        ap (λ (v : ℕ). divisor_in v D) first ∙ below_first version needs (suc (length p.settled)) k D (omega (arith, l, f.within, t)) e (λ d m. (the_divisible (divisor_in version) (take (suc (length p.settled)) needs) i d is).before k l)),
    (let f = the_divisible (divisor_in version) (take (suc (length p.settled)) needs) i any_need is in let t = length-take (suc (length p.settled)) needs in omega (arith, f.within, t)),
    (let f = the_divisible (divisor_in version) (take (suc (length p.settled)) needs) i any_need is in late_enough version (get_or (take (suc (length p.settled)) needs) i any_need) p.turn known f.is early),
  );
}

-- which records are used is by the version of the checkpoint
pub resumed_start : (table : List Call) (bytes : List ℕ) (budget longest version : ℕ) (needs front : List Matrix) (p : Checkpoint) → 0 < longest → IsGround table bytes budget → IsVersion version → IsVersion p.version → p.version ≤ version → MeetsFirst table bytes needs → MeetsFirst table bytes front → IsTrueFor front (sha256 bytes) budget p
    → (slice : Option ℕ) → AreTrueSteps version needs (sha256 bytes) budget (next_turn p.turn) (session_rounds (divisor_in version) needs budget longest slice (start_in (divisor_in version) needs p)).steps
unfolding start_in used_start
resumed_start table bytes budget longest version needs front p long ground known kind l met met_front holds slice =
    by_kind kind
  where
    first-test : p.version ≡ 1 → (p.version == 1) ≡ true
    first-test e = rw e refl

    second-test : p.version ≡ 2 → (p.version == 1) ≡ false
    second-test e = rw e refl

    newest : p.version ≡ 2 → p.version ≡ version
    newest e = ⊎_elim (λ (f : version ≡ 1). absurd (omega (arith, e, f, l))) (λ (f : version ≡ 2). e ∙ sym f) known

    by_kind : IsVersion p.version → AreTrueSteps version needs (sha256 bytes) budget (next_turn p.turn) (session_rounds (divisor_in version) needs budget longest slice (start_before p.settled (current_of p) (if p.version == 1 then first_divisible (divisor_in version) (take (suc (length p.settled)) needs) else None))).steps
    by_kind (inl first) = rw (first-test first) (resumed_truly table bytes budget longest version needs front p long ground known met met_front holds slice (first_divisible (divisor_in version) (take (suc (length p.settled)) needs)) (used_first p needs version first known (early_enough table bytes budget p ground first (front, met_front, holds))))
    by_kind (inr second) = rw (second-test second) (resumed_truly table bytes budget longest version needs front p long ground known met met_front holds slice None (used_whole p needs version (newest second)))

pub empty_is_none : checkpoint_in [] ≡ refused damaged
unfolding checkpoint_computes checkpoint_in
empty_is_none = refl

kept_empty : (table : List Call) (bytes : List ℕ) (budget version : ℕ) → AreKept table bytes budget version empty_slots
kept_empty table bytes budget version Zero = rw empty_is_none tt
kept_empty table bytes budget version One = rw empty_is_none tt

goes_truly : (version : ℕ) (table : List Call) (bytes : List ℕ) (budget : ℕ) (needs : List Matrix) (start : Start) (told : List SessionStep) (turn : ℕ) (g : Goes version table bytes budget needs start told)
    → AreTrueSteps version needs (sha256 bytes) budget turn (session_rounds (divisor_in version) needs budget g.longest g.slice start).steps → AreTrueSteps version needs (sha256 bytes) budget turn told
goes_truly version table bytes budget needs start told turn g all = true_front version needs (sha256 bytes) budget turn told g.left (subst (AreTrueSteps version needs (sha256 bytes) budget turn) g.rounds all)

pub begun_truly : (table : List Call) (bytes : List ℕ) (budget longest version : ℕ) (needs : List Matrix) → 0 < longest → IsGround table bytes budget → IsVersion version → MeetsFirst table bytes needs → (slice : Option ℕ) → AreTrueSteps version needs (sha256 bytes) budget 0 (session_rounds (divisor_in version) needs budget longest slice fresh_start).steps
unfolding session_rounds fresh_start
begun_truly table bytes budget longest version needs long ground known met slice =
    true_from version needs (sha256 bytes) budget longest known (searches_end table bytes budget longest long ground version needs met) slice [] None 0 needs refl (λ C at. starts_next version needs budget [] 0 tt (omega arith))

pub chains_kept : (table : List Call) (bytes : List ℕ) (budget version : ℕ) (slots : Slots) → IsGround table bytes budget → Chain table bytes budget version slots → AreKept table bytes budget version slots
chains_kept table bytes budget _ _ ground (Chain.begun version needs told slots g left) =
    kept_leaves table bytes budget version needs ground g.version_is g.met told 0 empty_slots slots (kept_empty table bytes budget version)
    (goes_truly version table bytes budget needs fresh_start told 0 g (begun_truly table bytes budget g.longest version needs g.long ground g.version_is g.met g.slice)) left
chains_kept table bytes budget _ _ ground (Chain.resumed version later needs p told before slots chain l took g left) =
    let kept = chains_kept table bytes budget version before ground chain in
    let at = chosen_kept table bytes budget version before p kept took in
    let holds = at.1.true_for in
    kept_leaves table bytes budget later needs ground g.version_is g.met told (next_turn p.turn) before slots (kept_later table bytes budget version later before l kept)
    (goes_truly later table bytes budget needs (start_in (divisor_in later) needs p) told (next_turn p.turn) g (resumed_start table bytes budget g.longest later needs holds.0 p g.long ground g.version_is at.1.known (omega (arith, l, at.1.old)) g.met holds.1 holds.2 g.slice)) left

as_resumed : (table : List Call) (bytes : List ℕ) (budget version : ℕ) (slot : Slot) (read : ReadCheckpoint) → IsKept table bytes budget version slot read → IsTornOr slot table bytes budget read
as_resumed table bytes budget version slot (point p) h = (h.true_for, h.placed)
as_resumed table bytes budget version slot (refused r) h = tt

pub chains_are_true : (table : List Call) (bytes : List ℕ) (budget : ℕ) → ChainsAreTrue table bytes budget
chains_are_true table bytes budget ground version slots chain =
    let kept = chains_kept table bytes budget version slots ground chain in
    (as_resumed table bytes budget version Zero (checkpoint_in slots.zero_slot) (kept Zero), as_resumed table bytes budget version One (checkpoint_in slots.one_slot) (kept One))
