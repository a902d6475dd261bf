-- A session on its way, one step further.
--   point_writable         the checkpoint of a session can be written
--   stored_more            the checkpoints of some steps are stored, and then one more is
--   told_more              what holds once a step was stored and told
--   goes_on, stops_paused  a session that goes on then, and one that a watcher paused
--   stops_torn             one whose store failed
--   stops_starved          one to which memory was refused
--   round_writable, goes_at, paused_at, torn_at      the same, for how far a session is as the code makes it
use Rattle.std.proofs.Common.{◌≡◌, ℕ, ◌+◌, ◌^◌, ◌<◌, ◌≤◌, ◌⊎◌, inl, inr, Bool, true, false, List, [], ◌∷◌, ◌++◌, length, map, All, refl, sym, ap, subst, ◌∙◌, arith}
use Rattle.std.specs.Prelude.{Option}
use Rattle.std.proofs.lemmas.List.{map-append, length-map, length-append}
use Rattle.hex.specs.Hex.{IsBytes}
use Rattle.lc_enumeration.specs.Records.{SessionStep, step_of}
use Rattle.lc_formats.specs.Checkpoint.{current_of, checkpoint_text, IsProgress, IsInRange, IsWritable}
use Rattle.lc_formats.proofs.CheckpointSize.{text_fits}
use Rattle.lc_io.specs.declared.watcher.Record.{Record}
use Rattle.lc_io.specs.Outside.{HasRisen}
use Rattle.lc_io.specs.Vaults.{Slots, put, WhereTold, IsTorn}
use Rattle.lc_io.specs.Watchers.{Hearing, Tells}
use Rattle.lc_io.specs.Told.{Kept}
use Rattle.lc_io.proofs.SeveralRecords.{Kept-more}
use Rattle.lc_io.proofs.SlotLaws.{WhereTold-then}
use Rattle.lc_checkpoint.specs.declared.checkpoint.Checkpoint.{Checkpoint}
use Rattle.lc_checkpoint.specs.Seen.{settled_of, point_of}
use Rattle.lc_search.specs.State.{SearchState}
use Rattle.lc_session_rules.specs.Slots.{slot_of, next_turn, turn_after, point_of as session_point, stored_bytes}
use Rattle.lc_session_rules.specs.Session.{record_of, records_of}
use Rattle.lc_session_rules.proofs.SlotsAfter.{turn_after-append, slots_after-append}
use Rattle.lc_rounds.specs.declared.pace.Pace.{Pace}
use Rattle.lc_rounds.specs.declared.keeping.Unkept.TheVariants as unkept
use Rattle.lc_rounds.specs.declared.rounds.Stop.TheVariants.{Paused, VaultFault, NoMemory}
use Rattle.lc_rounds.specs.Way.{Around, Origin, Stored, EndsAt, IsOnItsWay}
use Rattle.lc_rounds.specs.Step.{next_state, next_step, at_round, once_told, after_step, PutsIf, PutFails, StopsAt}

pub point_writable : (p : Checkpoint) → p.version ≡ 2 → length p.script ≡ 32 → IsBytes p.script → p.budget ≤ 2 ^ 40 → p.turn ≤ 2 ^ 60 → length p.settled.items < 70000 → All (IsProgress p.budget) (map settled_of p.settled.items)
    → IsProgress p.budget (record { blocks = p.blocks; weight = p.weight; place = p.place }) → IsWritable (point_of p)
unfolding point_of current_of
point_writable p version digest bytes small early few records current =
    let many = length-map p.settled.items settled_of in
    let ranged : IsInRange (point_of p) = record {
      known = inr version;
      digest = digest;
      bytes = bytes;
      small = small;
      early = early;
      few = omega (arith, many, few);
      records = records;
      current = current;
    } in
    record { in_range = ranged; newest = version; short = text_fits (point_of p) ranged (omega (arith, many, few)) }

pub stored_more : (keep : Bool) (digest : List ℕ) (budget turn : ℕ) (told : List SessionStep) (step : SessionStep) (old mid new : Option Slots) → Stored keep digest budget turn told old mid
    → PutsIf keep (slot_of (turn_after turn told)) (stored_bytes 2 digest budget (turn_after turn told) step) mid new → Stored keep digest budget turn (told ++ step ∷ []) old new
stored_more true digest budget turn told step old mid new past now =
    WhereTold-then old mid new _ _ _ (λ a b c p q. q ∙ ap (put (slot_of (turn_after turn told)) (stored_bytes 2 digest budget (turn_after turn told) step)) p ∙ sym (slots_after-append 2 digest budget turn told (step ∷ []) a)) past now
stored_more false digest budget turn told step old mid new past now = now ∙ past

-- the text of the checkpoint that the session has once the round is done
step_text : (pace : Pace) (s : SearchState) → pace.point.version ≡ 2 → checkpoint_text (point_of (at_round pace s).point) ≡ stored_bytes 2 (point_of pace.point).script pace.point.budget pace.point.turn (next_step pace s)
unfolding point_of session_point stored_bytes step_of
step_text pace s version =
    ap (λ (v : ℕ). checkpoint_text (record {
      version = v;
      script = pace.point.script;
      budget = pace.point.budget;
      turn = pace.point.turn;
      settled = map settled_of pace.point.settled.items;
      blocks = (next_state pace s).blocks;
      weight = (next_state pace s).weight;
      place = (next_state pace s).place;
    })) version

-- what holds once a step was stored and told
record IsTold (o : Origin) (told : List SessionStep) (pace : Pace) (now : Around) (paused : Bool) : Type 0 where
  count : pace.told ≡ length told
  turn : pace.point.turn ≡ turn_after o.turn told
  last : EndsAt told pace.last
  heard : Kept pace.keep (records_of told) paused o.around.watchers now.watchers
  stored : Stored pace.keep (point_of pace.point).script pace.point.budget o.turn told o.around.vault now.vault
  quiet : now.faults ≡ o.around.faults

module _ (o : Origin) (told : List SessionStep) (pace : Pace) (s : SearchState) (old new : Around) (q : Bool) where
  told_more : pace.point.version ≡ 2 → IsOnItsWay o told pace old → PutsIf pace.keep (slot_of pace.point.turn) (checkpoint_text (point_of (at_round pace s).point)) old.vault new.vault → new.faults ≡ old.faults
      → Tells (record_of (next_step pace s).note) old.watchers new.watchers q → IsTold o (told ++ next_step pace s ∷ []) (after_step pace s) new q
  unfolding point_of
  told_more version h puts quiet tells =
      let step = next_step pace s in
      record {
        count = ap (λ (n : ℕ). n + 1) h.count ∙ sym (length-append told (step ∷ []));
        turn = ap next_turn h.turn ∙ sym (turn_after-append o.turn told (step ∷ []));
        last = (told, step, refl, refl);
        heard = subst (λ (l : List Record). Kept pace.keep l q o.around.watchers new.watchers) (sym (map-append (λ (t : SessionStep). record_of t.note) told (step ∷ [])))
            (Kept-more pace.keep (records_of told) (record_of step.note) h.is_paused q o.around.watchers old.watchers new.watchers h.unpaused h.heard tells);
        stored = stored_more pace.keep (point_of pace.point).script pace.point.budget o.turn told step o.around.vault old.vault new.vault h.stored
            (subst (λ (t : ℕ). PutsIf pace.keep (slot_of t) (stored_bytes 2 (point_of pace.point).script pace.point.budget t step) old.vault new.vault) h.turn
            (subst (λ (text : List ℕ). PutsIf pace.keep (slot_of pace.point.turn) text old.vault new.vault) (step_text pace s version) puts));
        quiet = quiet ∙ h.quiet;
      }

  pub goes_on : pace.point.version ≡ 2 → IsOnItsWay o told pace old → PutsIf pace.keep (slot_of pace.point.turn) (checkpoint_text (point_of (at_round pace s).point)) old.vault new.vault → new.faults ≡ old.faults
      → Tells (record_of (next_step pace s).note) old.watchers new.watchers q → (pace.keep ≡ true → q ≡ false) → IsOnItsWay o (told ++ next_step pace s ∷ []) (after_step pace s) new
  goes_on version h puts quiet tells calm =
      let t = told_more version h puts quiet tells in
      record {
        count = t.count;
        turn = t.turn;
        last = inr t.last;
        begun = λ _. t.last;
        is_paused = q;
        unpaused = calm;
        heard = t.heard;
        stored = t.stored;
        quiet = t.quiet;
      }

  pub stops_paused : pace.point.version ≡ 2 → IsOnItsWay o told pace old → PutsIf pace.keep (slot_of pace.point.turn) (checkpoint_text (point_of (at_round pace s).point)) old.vault new.vault → new.faults ≡ old.faults
      → Tells (record_of (next_step pace s).note) old.watchers new.watchers q → pace.keep ≡ true → q ≡ true → StopsAt o told (next_step pace s) (after_step pace s) new Paused
  stops_paused version h puts quiet tells keep paused left used =
      let t = told_more version h puts quiet tells in
      record {
        count = t.count;
        is_paused = q;
        heard = t.heard;
        stops = (keep, t.last, inl paused, subst (λ (b : Bool). Stored b (point_of (after_step pace s).point).script (after_step pace s).point.budget o.turn (told ++ next_step pace s ∷ []) o.around.vault new.vault) keep t.stored, t.quiet);
      }

some_left : (step : SessionStep) (left : List SessionStep) → ¬ (step ∷ left ≡ [])
some_left step left e = cc

module _ (o : Origin) (told : List SessionStep) (pace : Pace) (s : SearchState) (old new : Around) where
  pub stops_torn : IsOnItsWay o told pace old → new.watchers ≡ old.watchers → pace.keep ≡ true → WhereTold old.vault new.vault (IsTorn (slot_of pace.point.turn)) → HasRisen old.faults new.faults
      → StopsAt o told (next_step pace s) (at_round pace s) new VaultFault
  unfolding point_of
  stops_torn h same keep torn risen left used =
      let digest = (point_of pace.point).script in
      let stored : Stored true digest pace.point.budget o.turn told o.around.vault old.vault = subst (λ (b : Bool). Stored b digest pace.point.budget o.turn told o.around.vault old.vault) keep h.stored in
      let slot = slot_of (turn_after o.turn told) in
      record {
        count = h.count;
        is_paused = h.is_paused;
        heard = subst (λ (ws : List Hearing). Kept pace.keep (records_of told) h.is_paused o.around.watchers ws) (sym same) h.heard;
        stops = (
          keep,
          h.unpaused keep,
          some_left (next_step pace s) left,
          WhereTold-then o.around.vault old.vault new.vault _ _ _ (λ a b c p q. (q.0, q.1 ∙ ap (put slot q.0) p)) stored (subst (λ (t : ℕ). WhereTold old.vault new.vault (IsTorn (slot_of t))) h.turn torn),
          subst (λ (n : ℕ). HasRisen n new.faults) h.quiet risen,
        );
      }

  starved : (now : Pace) → now.told ≡ pace.told → now.keep ≡ pace.keep → (point_of now.point).script ≡ (point_of pace.point).script → now.point.budget ≡ pace.point.budget → IsOnItsWay o told pace old → new ≡ old → StopsAt o told (next_step pace s) now new NoMemory
  starved now count keep script budget h same left used = record {
    count = count ∙ h.count;
    is_paused = h.is_paused;
    heard = subst (λ (w : Around). Kept now.keep (records_of told) h.is_paused o.around.watchers w.watchers) (sym same) (subst (λ (b : Bool). Kept b (records_of told) h.is_paused o.around.watchers old.watchers) (sym keep) h.heard);
    stops = (
      (λ k. h.unpaused (sym keep ∙ k)),
      subst (λ (w : Around). Stored now.keep (point_of now.point).script now.point.budget o.turn told o.around.vault w.vault) (sym same)
          (subst (λ (b : Bool). Stored b (point_of now.point).script now.point.budget o.turn told o.around.vault old.vault) (sym keep)
          (subst (λ (digest : List ℕ). Stored pace.keep digest now.point.budget o.turn told o.around.vault old.vault) (sym script)
          (subst (λ (n : ℕ). Stored pace.keep (point_of pace.point).script n o.turn told o.around.vault old.vault) (sym budget) h.stored))),
      ap (λ (w : Around). w.faults) same ∙ h.quiet,
    );
  }

  -- before the round was done, or after it
  pub stops_starved : (now : Pace) → (now ≡ pace) ⊎ (now ≡ at_round pace s) → IsOnItsWay o told pace old → new ≡ old → StopsAt o told (next_step pace s) now new NoMemory
  unfolding point_of
  stops_starved now (inl e) h same = starved now (ap (λ (p : Pace). p.told) e) (ap (λ (p : Pace). p.keep) e) (ap (λ (p : Pace). p.point.script) e) (ap (λ (p : Pace). p.point.budget) e) h same
  stops_starved now (inr e) h same = starved now (ap (λ (p : Pace). p.told) e) (ap (λ (p : Pace). p.keep) e) (ap (λ (p : Pace). p.point.script) e) (ap (λ (p : Pace). p.point.budget) e) h same

-- the same, for how far a session is as the code makes it: `mid` once the round was done, `later` once its record was told
pub round_writable : (pace : Pace) (s : SearchState) (mid : Pace) → mid ≡ at_round pace s → length mid.point.script ≡ 32 → IsBytes mid.point.script → pace.point.version ≡ 2 → pace.point.budget ≡ s.budget → s.budget ≤ 2 ^ 40 → pace.point.turn ≤ 2 ^ 60
    → length pace.point.settled.items < 70000 → All (IsProgress s.budget) (map settled_of pace.point.settled.items) → IsProgress s.budget (next_state pace s) → IsWritable (point_of mid.point)
round_writable pace s mid e digest bytes version same small early few records current =
    subst (λ (p : Pace). length p.point.script ≡ 32 → IsBytes p.point.script → IsWritable (point_of p.point)) (sym e)
    (λ d b. point_writable (at_round pace s).point version d b (omega (arith, same, small)) early few (subst (λ (n : ℕ). All (IsProgress n) (map settled_of pace.point.settled.items)) (sym same) records) (subst (λ (n : ℕ). IsProgress n (next_state pace s)) (sym same) current))
    digest bytes

module _ (o : Origin) (told : List SessionStep) (pace : Pace) (s : SearchState) (old new : Around) (mid : Pace) (e : mid ≡ at_round pace s) where
  pub torn_at : IsOnItsWay o told pace old → new.watchers ≡ old.watchers → PutFails mid.keep (slot_of mid.point.turn) old.vault new.vault old.faults new.faults unkept.VaultFault → StopsAt o told (next_step pace s) mid new VaultFault
  torn_at h same fails =
      let f = subst (λ (p : Pace). PutFails p.keep (slot_of p.point.turn) old.vault new.vault old.faults new.faults unkept.VaultFault) e fails in
      subst (λ (p : Pace). StopsAt o told (next_step pace s) p new VaultFault) (sym e) (stops_torn o told pace s old new h same f.0 f.1 f.2)

  module _ (later : Pace) (note : Record) (is : note ≡ record_of (next_step pace s).note) (counted : later ≡ once_told mid note) (q : Bool) where
    all_told : later ≡ after_step pace s
    all_told = counted ∙ ap (λ (p : Pace). once_told p note) e ∙ ap (once_told (at_round pace s)) is

    puts_at : PutsIf mid.keep (slot_of mid.point.turn) (checkpoint_text (point_of mid.point)) old.vault new.vault → PutsIf pace.keep (slot_of pace.point.turn) (checkpoint_text (point_of (at_round pace s).point)) old.vault new.vault
    puts_at puts = subst (λ (p : Pace). PutsIf p.keep (slot_of p.point.turn) (checkpoint_text (point_of p.point)) old.vault new.vault) e puts

    pub goes_at : pace.point.version ≡ 2 → IsOnItsWay o told pace old → PutsIf mid.keep (slot_of mid.point.turn) (checkpoint_text (point_of mid.point)) old.vault new.vault → new.faults ≡ old.faults → Tells note old.watchers new.watchers q → (later.keep ≡ true → q ≡ false)
        → IsOnItsWay o (told ++ next_step pace s ∷ []) later new
    goes_at version h puts quiet tells calm =
        subst (λ (p : Pace). IsOnItsWay o (told ++ next_step pace s ∷ []) p new) (sym all_told)
        (goes_on o told pace s old new q version h (puts_at puts) quiet (subst (λ (r : Record). Tells r old.watchers new.watchers q) is tells) (λ k. calm (ap (λ (p : Pace). p.keep) all_told ∙ k)))

    pub paused_at : pace.point.version ≡ 2 → IsOnItsWay o told pace old → PutsIf mid.keep (slot_of mid.point.turn) (checkpoint_text (point_of mid.point)) old.vault new.vault → new.faults ≡ old.faults → Tells note old.watchers new.watchers q → later.keep ≡ true → q ≡ true
        → StopsAt o told (next_step pace s) later new Paused
    paused_at version h puts quiet tells keep paused =
        subst (λ (p : Pace). StopsAt o told (next_step pace s) p new Paused) (sym all_told)
        (stops_paused o told pace s old new q version h (puts_at puts) quiet (subst (λ (r : Record). Tells r old.watchers new.watchers q) is tells) (ap (λ (p : Pace). p.keep) (sym all_told) ∙ keep) paused)
