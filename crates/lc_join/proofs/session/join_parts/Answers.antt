use Rattle.std.proofs.Common.{◌≡◌, length, refl, sym, ◌∙◌, arith}
use Rattle.std.proofs.lemmas.Bool.{eqb-true}
use Rattle.lc_arguments.specs.Asked.{words_of}
use Rattle.lc_join.specs.JoinSession.{printed, sink_fault, no_part}
use Rattle.lc_join.proofs.LineLaws.{no_lines}
use Rattle.lc_join.proofs.SessionLaws.{ends_so}
use Rattle.lc_join.proofs.session.join_parts.Goals as goal

pub returns-then-is_empty : goal.returns-then-is_empty
returns-then-is_empty g c =
    let none : length c.in-Ok-input.bytes.items ≡ 0 = omega (arith, eqb-true _ 0 (sym c.is_empty.ensures ∙ c.if-is_empty.true), c.in-Ok-input.bytes.ok.0) in
    record {
      session = ends_so (words_of c.args.arguments.now) c.in-Ok.budget _ _ no_part c.in-Ok.ensures.is (
        c.in-Ok-input.bytes.items,
        record { read = record { gave = c.in-Ok-input.ensures.given; ended = c.in-Ok-input.ensures.ended; within = c.in-Ok-input.ensures.within }; faults = c.in-Ok-input.ensures.count (λ f. cc) },
        record { sink = refl; faults = refl },
        no_lines c.in-Ok-input.bytes.items none,
      );
    }

pub returns-in-Ok-write_whole : goal.returns-in-Ok-write_whole
returns-in-Ok-write_whole g c =
    let made = rw c.deref.ensures.value at rw c.in-Ok-Text.field-0-is at c.in-Ok-Text.ensures.is in
    record {
      session = ends_so (words_of c.args.arguments.now) c.in-Ok.budget _ _ printed c.in-Ok.ensures.is (
        c.in-Ok-input.bytes.items,
        record { read = record { gave = c.in-Ok-input.ensures.given; ended = c.in-Ok-input.ensures.ended; within = c.in-Ok-input.ensures.within }; faults = c.in-Ok-input.ensures.count (λ f. cc) },
        (c.in-Ok-Text.text.items, made, (rw c.deref-2.ensures.value at c.in-Ok-write_whole.ensures.whole), c.in-Ok-write_whole.ensures.count),
      );
    }

pub returns : goal.returns
returns g c =
    let made = rw c.deref.ensures.value at rw c.in-Ok-Text.field-0-is at c.in-Ok-Text.ensures.is in
    record {
      session = ends_so (words_of c.args.arguments.now) c.in-Ok.budget _ _ sink_fault c.in-Ok.ensures.is (
        c.in-Ok-input.bytes.items,
        record { read = record { gave = c.in-Ok-input.ensures.given; ended = c.in-Ok-input.ensures.ended; within = c.in-Ok-input.ensures.within }; faults = c.in-Ok-input.ensures.count (λ f. cc) },
        (c.in-Ok-Text.text.items, made, (rw c.deref-2.ensures.value at c.in-Err-write_whole.ensures.front), c.in-Err-write_whole.ensures.count),
      );
    }
