use Rattle.std.proofs.Common.{refl, sym, ◌∙◌, slice_index, true≢false}
use Rattle.lc_erasures.proofs.SystemLaws.{system_pushed}
use Rattle.lc_erasures.proofs.erasures.push_coordinate.Goals as goal

pub returns : goal.returns
returns c = record {
  known = system_pushed c.args.code.now c.args.word.now c.args.erased.now c.args.c c.args.known.now.columns.items c.push.new.self.items c.args.known.now.symbols.items c.push-2.new.self.items c.in_ok-column.field-0 (slice_index c.args.word.now c.args.c) c.matrix-matrix.ensures.rows c.requires.word (λ t. absurd (true≢false (sym (c.is_erased.ensures.is.1 t) ∙ c.if-is_erased.false))) c.in_ok-column.ensures.is refl c.in_ok-push.ensures.items c.in_ok-push-2.ensures.items c.requires.known;
}
