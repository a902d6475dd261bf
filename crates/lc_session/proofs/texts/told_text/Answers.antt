use Rattle.std.proofs.Common.{◌∙◌, sym, ap, subst, string_bytes, arith}
use Rattle.lc_arguments.specs.Asked.{words_of}
use Rattle.lc_session.specs.Texts.{text_asked, IsTold}
use Rattle.lc_session.proofs.TextLaws.{asks_none, asks_text, none_told, was_written, was_not}
use Rattle.lc_session.proofs.texts.told_text.Goals as goal

pub returns-then-arguments-ne1 : goal.returns-then-arguments-ne1
returns-then-arguments-ne1 g c = none_told _ _ _ (asks_none c.args.help.now c.args.version.now string_bytes c.args.arguments.now (λ e. omega (arith, e)))

pub returns-in_err-text : goal.returns-in_err-text
returns-in_err-text g c =
    let asked = asks_text c.args.help.now c.args.version.now string_bytes c.args.arguments.now c.index-arguments-0.result _ (omega arith) (c.as_str.ensures.value ∙ ap string_bytes c.index-arguments-0.is) in
    subst (λ r. IsTold (text_asked c.args.help.now c.args.version.now (words_of c.args.arguments.now)) (g.K.Sink.written c.args.sink.now) (g.K.Sink.written c.args.sink.now) (g.K.Sink.faults c.args.sink.now) (g.K.Sink.faults c.args.sink.now) r) (sym c.from_residual.ensures) (none_told _ _ _ (asked ∙ c.in_err-text.ensures))

pub returns-in-Ok : goal.returns-in-Ok
returns-in-Ok g c =
    let asked = asks_text c.args.help.now c.args.version.now string_bytes c.args.arguments.now c.index-arguments-0.result _ (omega arith) (c.as_str.ensures.value ∙ ap string_bytes c.index-arguments-0.is) in
    was_written _ c.in_ok-text.text.now _ _ _ _ (asked ∙ c.in_ok-text.ensures) (rw (← c.as_bytes.ensures.value) c.in-Ok.ensures.whole) c.in-Ok.ensures.count

pub returns-in-Err : goal.returns-in-Err
returns-in-Err g c =
    let asked = asks_text c.args.help.now c.args.version.now string_bytes c.args.arguments.now c.index-arguments-0.result _ (omega arith) (c.as_str.ensures.value ∙ ap string_bytes c.index-arguments-0.is) in
    was_not _ c.in_ok-text.text.now _ _ _ _ (asked ∙ c.in_ok-text.ensures) (rw (← c.as_bytes.ensures.value) c.in-Err.ensures.front) c.in-Err.ensures.count
