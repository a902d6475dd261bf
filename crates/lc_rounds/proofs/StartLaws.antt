-- A session at its first statement.
--   first_way            it is on its way
--   none_answered, waits_first      nothing is met
--   course_from, starts_ranged, starts_resumed      it starts from a checkpoint
use Rattle.std.proofs.Common.{◌≡◌, ◌<◌, ◌≤◌, ◌+◌, ◌^◌, map, ℕ, Bool, true, false, List, [], Option, Some, None, IfSome, inl, refl, arith}
use Rattle.std.proofs.lemmas.List.Elements.{All-nil}
use Rattle.lc_algebra.specs.Matrix.{Matrix}
use Rattle.lc_algebra.specs.Divisor.{divisor_of}
use Rattle.lc_enumeration.specs.Search.{answer}
use Rattle.lc_enumeration.specs.Records.{Progress}
use Rattle.lc_enumeration.specs.Truth.{AnswerHolds}
use Rattle.lc_enumeration.specs.Fitting.{first_divisible}
use Rattle.lc_io.specs.Vaults.{Slots}
use Rattle.lc_io.proofs.SeveralRecords.{Kept-none}
use Rattle.lc_io.proofs.SlotLaws.{WhereTold-refl}
use Rattle.lc_io.specs.declared.watcher.Record.{Record}
use Rattle.lc_formats.specs.Checkpoint.{IsInRange, current_of}
use Rattle.lc_checkpoint.specs.Seen.{point_of, settled_of}
use Rattle.lc_checkpoint.specs.declared.checkpoint.Checkpoint.{Checkpoint}
use Rattle.lc_session_rules.specs.Slots.{next_turn, slots_after}
use Rattle.lc_rounds.specs.Way.{Around, Stored, IsOnItsWay}
use Rattle.lc_rounds.specs.declared.pace.Pace.{Pace}
use Rattle.lc_session_rules.specs.Course.{after, Waits}
use Rattle.lc_rounds.specs.Going.{started, IsRanged, AreAnswered, Goes}
use Rattle.lc_rounds.specs.declared.course.Course.{Course}

nothing_stored : (keep : Bool) (digest : List ℕ) (budget turn : ℕ) (held : Option Slots) → Stored keep digest budget turn [] held held
nothing_stored true digest budget turn held = WhereTold-refl held (λ before after. after ≡ slots_after 2 digest budget turn [] before) (λ a. refl)
nothing_stored false digest budget turn held = refl

not_used_up : (slice : Option ℕ) → IfSome slice (λ n. 0 < n) → slice ≡ Some 0 → ⊥
not_used_up None some e = cc
not_used_up (Some n) some e = let same : n ≡ 0 = cc in omega (arith, some, same)

pub first_way : (turn : ℕ) (p : Pace) (now : Around) → p.told ≡ 0 → p.point.turn ≡ turn → IfSome p.slice (λ n. 0 < n) → IsOnItsWay (record { turn = turn; around = now }) [] p now
first_way turn p now told turns some = record {
  count = told;
  turn = turns;
  last = inl refl;
  begun = λ e. absurd (not_used_up p.slice some e);
  is_paused = false;
  unpaused = λ e. refl;
  heard = Kept-none p.keep now.watchers;
  stored = nothing_stored p.keep (point_of p.point).script p.point.budget turn now.vault;
  quiet = refl;
}

pub none_answered : (budget : ℕ) → AreAnswered budget [] [] []
none_answered budget = record { settle = refl; words = refl; truth = All-nil (λ (C : Matrix). AnswerHolds C (answer (divisor_of C) C budget)) }

pub waits_first : (version budget : ℕ) (slice : Option ℕ) (settled : List Progress) (current : Progress) → Waits (after version settled current) version budget slice [] [] settled slice [] current
unfolding first_divisible
waits_first version budget slice settled current = record { begun = refl; silent = refl; same = refl; rest = settled; split = refl; fitting = tt; whole = λ v. refl }

-- a session that starts from a checkpoint
abbrev pub course_from : Checkpoint → Bool → ℕ → Option ℕ → Record → ℕ → Course
course_from p keep longest slice last turn = record {
  pace = record {
    keep = keep;
    told = 0;
    last = last;
    longest = longest;
    slice = slice;
    point = record { version = 2; script = p.script; budget = p.budget; turn = turn; settled = p.settled; blocks = p.blocks; weight = p.weight; place = p.place };
  };
  met = 0;
  version = p.version;
  current = Some (record { blocks = p.blocks; weight = p.weight; place = p.place });
}

pub starts_ranged : (p : Checkpoint) (keep : Bool) (longest : ℕ) (slice : Option ℕ) (last : Record) (turn : ℕ) → IsInRange (point_of p) → (1 ≤ longest) × (longest ≤ 2 ^ 20) → (keep ≡ false → slice ≡ None) → turn ≡ next_turn p.turn → IsRanged (course_from p keep longest slice last turn)
unfolding point_of settled_of current_of next_turn
starts_ranged p keep longest slice last turn h long kept is = record {
  version = refl;
  longest = long;
  turn = omega (arith, is);
  small = h.small;
  settled = h.records;
  current = h.current;
  told = omega arith;
  slice = kept;
  many = omega arith;
}

pub starts_resumed : (p : Checkpoint) (keep : Bool) (longest : ℕ) (slice : Option ℕ) (last : Record) (turn : ℕ) (now : Around) → IfSome slice (λ n. 0 < n) → turn ≡ next_turn p.turn
    → Goes (started (after p.version (map settled_of p.settled.items) (current_of (point_of p))) p.budget longest slice keep p.script (next_turn p.turn) now) [] [] (course_from p keep longest slice last turn) now
unfolding point_of settled_of current_of next_turn
starts_resumed p keep longest slice last turn now some is = record {
  told = [];
  done = [];
  stands = waits_first p.version p.budget slice (map settled_of p.settled.items) (record { blocks = p.blocks; weight = p.weight; place = p.place });
  way = first_way (next_turn p.turn) (course_from p keep longest slice last turn).pace now refl is some;
  met = refl;
  of = record { keep = refl; digest = refl; budget = refl; longest = refl };
  answered = none_answered p.budget;
}
