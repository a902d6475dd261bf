use Rattle.std.proofs.Common.{is_some, sym, ap, ◌∙◌}
use Rattle.lc_trace.proofs.TraceLaws.{trace_exists}
use Rattle.lc_trace.proofs.trace.trace.Goals as goal

pub unreachable-requires : goal.unreachable-requires
unreachable-requires c =
    let (b, t) = trace_exists c.args.small.now c.args.large.now c.args.a c.requires.symbol c.requires.subfield c.requires.element in
    c.unembed.ensures.none.0 (ap is_some c.in-None.is) b t.inside (t.is ∙ sym c.sum_of_powers.ensures.is)
