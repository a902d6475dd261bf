use Rattle.std.proofs.Common.{◌≡◌, map, take}
use Rattle.lc_algebra.specs.Embedding.{embed}
use Rattle.lc_alternant.proofs.checks.images.Given as goal

abbrev pub invariant-loop-i : goal.invariant-loop-i
invariant-loop-i l = l.images.items ≡ map (embed l.field l.locator) (take l.i l.word)
