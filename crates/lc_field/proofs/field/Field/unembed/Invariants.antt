use Rattle.std.proofs.Common.{ℕ, ◌<◌, ◌≢◌}
use Rattle.lc_algebra.specs.Embedding.{embed}
use Rattle.lc_field.proofs.field.Field.unembed.Given as goal

abbrev pub invariant-loop-a : goal.invariant-loop-a
invariant-loop-a l = (k : ℕ) → k < l.a → embed l.small l.self k ≢ l.b
