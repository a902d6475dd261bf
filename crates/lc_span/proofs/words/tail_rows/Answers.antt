use Rattle.std.proofs.Common.{◌*◌, ◌<◌, ◌∙◌, ap, sym, subst, pow-suc}
use Rattle.lc_span.proofs.words.tail_rows.Goals as goal

pub returns-else-words-q-le4096-clause-greatest : goal.returns-else-words-q-le4096-clause-greatest
returns-else-words-q-le4096-clause-greatest l _ = subst (λ n. 4096 < n) (ap (λ n. n * l.args.q) l.loop-rows.invariant.are ∙ sym (pow-suc l.args.q l.loop-rows.rows)) l.if-words-q-le4096.false
