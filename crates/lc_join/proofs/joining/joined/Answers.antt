use Rattle.std.proofs.Common.{◌∙◌, sym, ap, subst, map, All}
use Rattle.lc_part_lines.specs.Line.{IsInRange}
use Rattle.lc_join.specs.Seen.{numbered_of}
use Rattle.lc_join.proofs.JoinLaws.{lines_ranged}
use Rattle.lc_join.proofs.joining.joined.Goals as goal

pub made-requires-clause-ranged : goal.made-requires-clause-ranged
made-requires-clause-ranged c = subst (All (λ l. IsInRange l.line)) (sym (ap (map numbered_of) c.deref.ensures.value ∙ c.in_ok-lines.ensures.is)) (lines_ranged c.args.bytes.now)
