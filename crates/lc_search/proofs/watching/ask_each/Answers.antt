use Rattle.std.proofs.Common.{refl, arith, of_calls}
use Rattle.lc_io.specs.declared.watcher.Advice.TheVariants.{Go, Pause, Leave}
use Rattle.lc_search.specs.Telling.{IsAskedBy}
use Rattle.lc_search.proofs.TellingLaws.{asked_once, one_stays, one_leaves, asked_all, nobody_yet, flag_kept, flag_set}
use Rattle.lc_search.proofs.watching.ask_each.Goals as goal

pub loop-next-init : goal.loop-next-init
loop-next-init g c = (search of_calls, nobody_yet (IsAskedBy (λ f item about advice left after. goal.F-step g f item about advice left after) c.args.note.now) c.args.ask c.args.items.now.items)

pub loop-next-preserved-in-Go : goal.loop-next-preserved-in-Go
loop-next-preserved-in-Go g c =
    let at = c.loop-next in
    let called = rw c.in-Go.is at (asked_once (λ f item about advice left after. goal.F-step g f item about advice left after) c.ask.ensures) in (
      search of_calls,
      one_stays (IsAskedBy (λ f item about advice left after. goal.F-step g f item about advice left after) c.args.note.now) c.args.ask c.args.items.now.items at.ask c.ask.new.self at.items.items at.next at.paused c.index_mut.result.now c.ask.new.arg2 Go _
          at.invariant.1 (omega arith) c.index_mut.ensures.value refl called (flag_kept at.paused),
    )

pub loop-next-preserved-in-Pause : goal.loop-next-preserved-in-Pause
loop-next-preserved-in-Pause g c =
    let at = c.loop-next in
    let called = rw c.in-Pause.is at (asked_once (λ f item about advice left after. goal.F-step g f item about advice left after) c.ask.ensures) in (
      search of_calls,
      one_stays (IsAskedBy (λ f item about advice left after. goal.F-step g f item about advice left after) c.args.note.now) c.args.ask c.args.items.now.items at.ask c.ask.new.self at.items.items at.next at.paused c.index_mut.result.now c.ask.new.arg2 Pause _
          at.invariant.1 (omega arith) c.index_mut.ensures.value refl called (flag_set at.paused),
    )

pub loop-next-preserved : goal.loop-next-preserved
loop-next-preserved g c =
    let at = c.loop-next in
    let called = rw c.in-Leave.is at (asked_once (λ f item about advice left after. goal.F-step g f item about advice left after) c.ask.ensures) in (
      search of_calls,
      rw c.remove.ensures.items
          (one_leaves (IsAskedBy (λ f item about advice left after. goal.F-step g f item about advice left after) c.args.note.now) c.args.ask c.args.items.now.items at.ask c.ask.new.self at.items.items at.next at.paused c.index_mut.result.now c.ask.new.arg2 Leave
          at.invariant.1 (omega arith) c.index_mut.ensures.value refl called),
    )

pub returns : goal.returns
returns g c = record { asked = asked_all (IsAskedBy (λ f item about advice left after. goal.F-step g f item about advice left after) c.args.note.now) c.args.ask c.args.items.now.items c.loop-next.ask c.loop-next.items.items c.loop-next.next c.loop-next.paused c.loop-next.invariant.1 (omega arith) }
