-- What a session tells while it passes over a need, and when memory is refused.
--   same_way             a session is on its way by either
--   starved              a session on its way stops if memory is refused
use Rattle.std.proofs.Common.{◌≡◌, ◌⊎◌, [], ℕ, Bool, List, sym, subst, ◌∙◌}
use Rattle.lc_enumeration.specs.Records.{SessionStep}
use Rattle.lc_checkpoint.specs.Seen.{point_of}
use Rattle.lc_rounds.specs.declared.pace.Pace.{Pace}
use Rattle.lc_rounds.specs.declared.rounds.Stop.TheVariants.{NoMemory}
use Rattle.lc_rounds.specs.Way.{Around, Origin, EndsAt, Stored, IsOnItsWay, HasStopped}
use Rattle.lc_rounds.specs.Paces.{IsSame}
use Rattle.lc_session_rules.specs.Session.{records_of}
use Rattle.lc_io.specs.Told.{Kept}
use Rattle.lc_io.specs.declared.watcher.Record.{Record}

pub same_way : (o : Origin) (told : List SessionStep) (p q : Pace) (now : Around) → IsSame p q → IsOnItsWay o told p now → IsOnItsWay o told q now
unfolding point_of
same_way o told p q now s w = record {
  count = s.told ∙ w.count;
  turn = s.turn ∙ w.turn;
  last = subst (λ (r : Record). (told ≡ []) ⊎ EndsAt told r) (sym s.last) w.last;
  begun = λ e. subst (λ (r : Record). EndsAt told r) (sym s.last) (w.begun (sym s.slice ∙ e));
  is_paused = w.is_paused;
  unpaused = λ e. w.unpaused (sym s.keep ∙ e);
  heard = subst (λ (k : Bool). Kept k (records_of told) w.is_paused o.around.watchers now.watchers) (sym s.keep) w.heard;
  stored = subst (λ (b : ℕ). Stored q.keep q.point.script b o.turn told o.around.vault now.vault) (sym s.budget)
      (subst (λ (d : List ℕ). Stored q.keep d p.point.budget o.turn told o.around.vault now.vault) (sym s.script)
      (subst (λ (k : Bool). Stored k p.point.script p.point.budget o.turn told o.around.vault now.vault) (sym s.keep) w.stored));
  quiet = w.quiet;
}

-- memory is refused
pub starved : (o : Origin) (told left : List SessionStep) (is_used_up : Bool) (pace : Pace) (now : Around) → IsOnItsWay o told pace now → HasStopped o told left is_used_up pace now NoMemory
starved o told left is_used_up pace now w = record { count = w.count; is_paused = w.is_paused; heard = w.heard; stops = (w.unpaused, w.stored, w.quiet) }
