use Rattle.std.proofs.Common.{◌≡◌, true, false, refl, sym, ◌∙◌, inr}
use Rattle.std.specs.Prelude.{map}
use Rattle.lc_io.specs.Watchers.{hearing}
use Rattle.lc_rounds.specs.Way.{around}
use Rattle.lc_rounds.proofs.PaceLaws.{round_writable, stops_starved, goes_at, paused_at, torn_at}
use Rattle.lc_rounds.proofs.rounds.pass_round.Goals.{else-pace-via-then-pace+else-paused, else-pace-via-else-pace}
use Rattle.lc_rounds.proofs.rounds.pass_round.Goals as goal

pub keep_point-requires : goal.keep_point-requires
keep_point-requires g c = record {
  writable = round_writable c.args.pace.now c.args.search.now c.do_round.new.pace c.in-Ok.ensures.pace c.has_bytes.ensures.long c.has_bytes.ensures.bytes c.requires.version c.requires.budget.1 c.requires.budget.0 c.requires.turn c.requires.few c.requires.settled c.in-Ok.ensures.progress;
}

pub returns-in-Err-VaultFault-clause-goes : goal.returns-in-Err-VaultFault-clause-goes
returns-in-Err-VaultFault-clause-goes g c o told h =
    torn_at o told c.args.pace.now c.args.search.now _ _ c.do_round.new.pace c.in-Ok.ensures.pace h refl (rw c.in-Err-VaultFault.field-0-is at c.in-Err-VaultFault.ensures.unkept)

pub returns-in-Err-NoMemory-clause-goes : goal.returns-in-Err-NoMemory-clause-goes
returns-in-Err-NoMemory-clause-goes g c o told h =
    stops_starved o told c.args.pace.now c.args.search.now _ _ c.do_round.new.pace (inr c.in-Ok.ensures.pace) h
    (let f = rw c.in-Err-NoMemory.field-0-is at c.in-Err-NoMemory.ensures.unkept in λ i. around (f.0 i) (f.1 i) (map (hearing g.W.Watcher.heard g.W.Watcher.coming g.W.Watcher.pauses) c.args.surroundings.watchers.now.items))

pub returns-then-paused-clause-goes : goal.returns-then-paused-clause-goes
returns-then-paused-clause-goes g c o told h =
    paused_at o told c.args.pace.now c.args.search.now _ _ c.do_round.new.pace c.in-Ok.ensures.pace c.count.new.self c.in-Ok.record c.in-Ok.ensures.record c.count.ensures.is c.tell-paused.result
    c.requires.version h c.in-Ok-keep_point.ensures.kept c.in-Ok-keep_point.ensures.quiet c.tell-paused.ensures.told c.if-pace.true c.if-paused.true

pub returns-clause-goes : goal.returns-clause-goes
returns-clause-goes g c o told h =
    goes_at o told c.args.pace.now c.args.search.now _ _ c.do_round.new.pace c.in-Ok.ensures.pace c.count.new.self c.in-Ok.record c.in-Ok.ensures.record c.count.ensures.is c.tell-paused.result
    c.requires.version h c.in-Ok-keep_point.ensures.kept c.in-Ok-keep_point.ensures.quiet c.tell-paused.ensures.told
    (λ k. elim c.else-pace.branch [
      | else-pace-via-then-pace+else-paused w ↦ w.if-paused.false
      | else-pace-via-else-pace w ↦ absurd (let e : true ≡ false = sym k ∙ w.if-pace.false in cc)
    ])
