use Rattle.std.proofs.Common.{inl, inr, ap, ◌∙◌, Vec, Global, ℕ}
use Rattle.lc_alternant.proofs.ChosenLaws.{spread_taken_on, spread_left_on}
use Rattle.lc_alternant.proofs.errors.spread.Goals as goal
use Rattle.lc_alternant.proofs.errors.spread.Goals.{then-values-i-eq0+then-next-entries+in_ok-push, else-values-i-eq0+in_ok-push-2, else-values-i-eq0-via-then-values-i-eq0+else-next-entries, else-values-i-eq0-via-else-values-i-eq0}

pub loop-i-preserved : goal.loop-i-preserved
loop-i-preserved c =
    let vs = c.args.values.now in
    let zs = c.args.entries.now in
    let i = c.loop-i.i in
    let k = c.loop-i.next in
    let out = c.loop-i.word.items in
    let word = c.if-values-i-eq0.word in
    let next = c.if-values-i-eq0.next in
    elim c.if-values-i-eq0.branch [
      | then-values-i-eq0+then-next-entries+in_ok-push w ↦
          spread_taken_on vs zs out word.items i k next c.loop-i-test.true w.if-next-entries.true w.if-values-i-eq0.true c.loop-i.invariant.1 w.next-is (ap (λ (v : Vec ℕ Global). v.items) w.word-is ∙ w.in_ok-push.ensures.items)
      | else-values-i-eq0+in_ok-push-2 w ↦
          let new = ap (λ (v : Vec ℕ Global). v.items) w.word-is ∙ w.in_ok-push-2.ensures.items in
          elim w.else-values-i-eq0.branch [
            | else-values-i-eq0-via-then-values-i-eq0+else-next-entries v ↦
                spread_left_on vs zs out word.items i k next c.loop-i-test.true c.loop-i.invariant.0 (inr v.if-next-entries.false) c.loop-i.invariant.1 w.next-is new
            | else-values-i-eq0-via-else-values-i-eq0 v ↦
                spread_left_on vs zs out word.items i k next c.loop-i-test.true c.loop-i.invariant.0 (inl v.if-values-i-eq0.false) c.loop-i.invariant.1 w.next-is new
          ]
    ]
