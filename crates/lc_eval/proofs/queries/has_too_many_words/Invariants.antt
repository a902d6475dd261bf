use Rattle.std.proofs.Common.{◌≡◌, ◌^◌, ◌≤◌}
use Rattle.lc_algebra.specs.Field.{size}
use Rattle.lc_eval.proofs.queries.has_too_many_words.Given as goal

abbrev pub invariant-loop-i : goal.invariant-loop-i
invariant-loop-i l = record { power : l.words ≡ size l.field ^ l._i; few : l.words ≤ 65536 }
