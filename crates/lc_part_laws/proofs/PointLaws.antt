-- The checkpoint of joined parts, and the session that resumes it.
--   state_true           the checkpoint of a state that is under way
--   joined_true          that of joined true parts
--   slots_true           slots that hold it and no other
--   text_read            slots that hold its text
--   budget_small         the budget of a session
--   joined_prints        the text of the session
use Rattle.std.proofs.Common.{◌≡◌, ℕ, ◌<◌, ◌≤◌, ◌^◌, inr, List, [], ◌∷◌, length, All, Some, refl, sym, ap, subst, ◌∙◌, arith}
use Rattle.sha2.specs.Sha256.{sha256}
use Rattle.lc_algebra.specs.Matrix.{Matrix}
use Rattle.lc_algebra.specs.Divisor.{divisor_of}
use Rattle.lc_enumeration.specs.Records.{Progress, first_progress}
use Rattle.lc_enumeration.specs.Truth.{IsUnderway}
use Rattle.lc_infoset.proofs.SessionLaws.{first_underway}
use Rattle.lc_formats.specs.Checkpoint.{CheckpointRefusal, ReadCheckpoint, refused, current_of, checkpoint_in}
use Rattle.lc_formats.specs.Truth.{divisor_in, whole_start, turn_allowance, IsTrueFor}
use Rattle.lc_io.specs.declared.vault.Slot.{Slot}
use Rattle.lc_io.specs.declared.vault.Slot.TheVariants.{Zero, One}
use Rattle.lc_io.specs.Vaults.{Slots}
use Rattle.lc_language.specs.declared.Call.{Call}
use Rattle.lc_session_rules.specs.Options.{Settings, Options, settings, usage as refuses, resume, all_options, options}
use Rattle.lc_session_rules.specs.Needs.{MeetsFirst}
use Rattle.lc_session_rules.specs.Slots.{slot_of, IsTrueCheckpoint, IsTornOr, AreTrueSlots}
use Rattle.lc_session_rules.specs.Endings.{done}
use Rattle.lc_session_rules.specs.Session.{Outside, Accepts, IsSession}
use Rattle.lc_session_rules.specs.Promises.{PrintsText}
use Rattle.lc_session_rules.specs.Chain.{IsGround}
use Rattle.lc_session_rules.proofs.AskLaws.{met_rows}
use Rattle.lc_session_rules.proofs.OptionLaws.{AreUsual, options_usual}
use Rattle.lc_session_rules.proofs.Headline.{true_prints}
use Rattle.lc_parts.specs.Part.{Part, IsTruePart}
use Rattle.lc_parts.proofs.AlongLaws.{along_underway}
use Rattle.lc_part_laws.specs.Point.{joined_state, joined_point, HoldsPoint, HoldsText}

true_for : (digest : List ℕ) (budget : ℕ) (C : Matrix) (needs : List Matrix) (s : Progress) → IsUnderway (divisor_of C) C budget s → 1 ≤ s.blocks → IsTrueFor (C ∷ needs) digest budget (joined_point digest budget s)
unfolding joined_point whole_start current_of divisor_in turn_allowance
true_for digest budget C needs s h some = record {
  known = inr refl;
  script = refl;
  budget_is = refl;
  start = record {
    before = [];
    after = C ∷ needs;
    split = refl;
    settled = tt;
    current = h;
  };
  begun = some;
  turn = omega (arith, some);
}

pub state_true : (table : List Call) (bytes : List ℕ) (budget : ℕ) (C : Matrix) (needs : List Matrix) (s : Progress) → MeetsFirst table bytes (C ∷ needs) → IsUnderway (divisor_of C) C budget s → 1 ≤ s.blocks → IsTrueCheckpoint table bytes budget (joined_point (sha256 bytes) budget s)
state_true table bytes budget C needs s met h some = (C ∷ needs, met, true_for (sha256 bytes) budget C needs s h some)

joined_underway : (C : Matrix) (budget : ℕ) (parts : List Part) → 0 < length C.rows → budget ≤ 2 ^ 40 → All (IsTruePart C) parts → IsUnderway (divisor_of C) C budget (joined_state C budget parts)
unfolding joined_state
joined_underway C budget parts rows small all = along_underway C budget (first_progress C) parts rows small (first_underway (divisor_of C) C budget) all

pub joined_true : (table : List Call) (bytes : List ℕ) (budget : ℕ) (C : Matrix) (needs : List Matrix) (parts : List Part) → MeetsFirst table bytes (C ∷ needs) → budget ≤ 2 ^ 40 → All (IsTruePart C) parts → 1 ≤ (joined_state C budget parts).blocks
    → IsTrueCheckpoint table bytes budget (joined_point (sha256 bytes) budget (joined_state C budget parts))
joined_true table bytes budget C needs parts met small all some = state_true table bytes budget C needs (joined_state C budget parts) met
    (joined_underway C budget parts (met_rows table bytes (C ∷ needs) met 0 C refl) small all) some

turn_of : (digest : List ℕ) (budget : ℕ) (s : Progress) → slot_of (joined_point digest budget s).turn ≡ Zero
unfolding joined_point
turn_of digest budget s = refl

torn_by : (slot : Slot) (table : List Call) (bytes : List ℕ) (budget : ℕ) (read : ReadCheckpoint) (r : CheckpointRefusal) → read ≡ refused r → IsTornOr slot table bytes budget read
torn_by slot table bytes budget read r e = subst (IsTornOr slot table bytes budget) (sym e) tt

pub slots_true : (table : List Call) (bytes : List ℕ) (budget : ℕ) (s : Progress) (slots : Slots) → IsTrueCheckpoint table bytes budget (joined_point (sha256 bytes) budget s) → HoldsPoint (sha256 bytes) budget s slots → AreTrueSlots table bytes budget slots
slots_true table bytes budget s slots holds h = (
  subst (IsTornOr Zero table bytes budget) (sym h.zero_is) (holds, turn_of (sha256 bytes) budget s),
  torn_by One table bytes budget (checkpoint_in slots.one_slot) h.one_is.0 h.one_is.1,
)

version_is : (digest : List ℕ) (budget : ℕ) (s : Progress) → (joined_point digest budget s).version ≡ 2
unfolding joined_point
version_is digest budget s = refl

pub text_read : (table : List Call) (bytes : List ℕ) (budget : ℕ) (s : Progress) (slots : Slots) → IsGround table bytes budget → IsTrueCheckpoint table bytes budget (joined_point (sha256 bytes) budget s) → HoldsText (sha256 bytes) budget s slots → HoldsPoint (sha256 bytes) budget s slots
text_read table bytes budget s slots ground holds h = record {
  zero_is = ap checkpoint_in h.zero_is ∙ ground.reads_back (joined_point (sha256 bytes) budget s) (inr (version_is (sha256 bytes) budget s)) holds;
  one_is = h.one_is;
}

small_by : (o : Options) (asked : Settings) (old new : Outside) (n : ℕ) → ((t : Settings) → o ≡ settings t → AreUsual t) → Accepts o asked old new (done n) → asked.budget ≤ 2 ^ 40
small_by (refuses i) asked old new n h accepts = absurd (let e = accepts.1 in cc)
small_by (settings t) asked old new n h accepts = subst (λ (s : Settings). s.budget ≤ 2 ^ 40) (sym accepts.0) (h t refl).budget_is

pub budget_small : (table : List Call) (args : List (List ℕ)) (old new : Outside) (n : ℕ) (s : IsSession table args old new (done n)) → s.asked.budget ≤ 2 ^ 40
budget_small table args old new n s = small_by (options all_options args) s.asked old new n (λ t e. options_usual all_options args t e) s.accepted

pub joined_prints : (table : List Call) (args : List (List ℕ)) (old new : Outside) (n : ℕ) (s : IsSession table args old new (done n)) (C : Matrix) (needs : List Matrix) (parts : List Part) (slots : Slots) → s.asked.command ≡ resume → old.vault ≡ Some slots
    → MeetsFirst table s.course.bytes (C ∷ needs) → All (IsTruePart C) parts → 1 ≤ (joined_state C s.asked.budget parts).blocks → HoldsPoint (sha256 s.course.bytes) s.asked.budget (joined_state C s.asked.budget parts) slots
    → PrintsText table s.asked.budget s.course.bytes old.sink new.sink n
joined_prints table args old new n s C needs parts slots resumes told met all some h =
    true_prints table args old new n s slots resumes told
    (slots_true table s.course.bytes s.asked.budget (joined_state C s.asked.budget parts) slots
    (joined_true table s.course.bytes s.asked.budget C needs parts met (budget_small table args old new n s) all some) h)
