use Rattle.std.proofs.Common.{◌<◌, ◌≤◌, ◌++◌, take, length, arith}
use Rattle.std.proofs.lemmas.Grind.{common_steps}
use Rattle.std.proofs.KnownBytes.{Consumes-trans}
use Rattle.lc_io.proofs.loops.read_to_limit.Goals as goal

pub returns-then-is_err-clause-front : goal.returns-then-is_err-clause-front
returns-then-is_err-clause-front g c =
    let given = take c.in-Ok.count c.read.new.buf in
    let fits : length (c.loop-chunk.bytes.items ++ given) ≤ c.args.limit = grind (arith, common_steps) in
    (c.loop-chunk.bytes.items ++ given, fits, Consumes-trans _ _ _ _ _ c.loop-chunk.invariant.2 c.in-Ok.ensures.gave)

pub returns-then-is_err-clause-kept : goal.returns-then-is_err-clause-kept
returns-then-is_err-clause-kept g c = λ _.
    let given = take c.in-Ok.count c.read.new.buf in
    let fits : length (c.loop-chunk.bytes.items ++ given) ≤ c.args.limit = grind (arith, common_steps) in
    let some : 0 < length (c.loop-chunk.bytes.items ++ given) = grind (arith, common_steps) in
    (c.loop-chunk.bytes.items ++ given, some, fits, Consumes-trans _ _ _ _ _ c.loop-chunk.invariant.2 c.in-Ok.ensures.gave)
