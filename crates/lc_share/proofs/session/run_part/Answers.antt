use Rattle.std.proofs.Common.{◌≡◌, length, refl, sym, ◌∙◌, arith}
use Rattle.std.proofs.lemmas.Bool.{eqb-true}
use Rattle.lc_calls.specs.Built.{built_calls}
use Rattle.lc_arguments.specs.Asked.{words_of}
use Rattle.lc_share.specs.Asked.{part_options}
use Rattle.lc_share.specs.PartSession.{no_part}
use Rattle.lc_share.specs.Seen.{asked_of}
use Rattle.lc_share.proofs.SessionLaws.{does_so, no_part_in}
use Rattle.lc_share.proofs.session.run_part.Goals as goal

pub returns-then-is_empty : goal.returns-then-is_empty
returns-then-is_empty g c =
    let none : length c.in-Ok-input.bytes.items ≡ 0 = omega (arith, eqb-true _ 0 (sym c.is_empty.ensures ∙ c.if-is_empty.true), c.in-Ok-input.bytes.ok.0) in
    record {
      session = does_so (part_options (words_of c.args.arguments.now)) (asked_of c.in-Ok.asked) built_calls _ _ no_part c.in-Ok.ensures.is (
        c.in-Ok-input.bytes.items,
        record { read = record { gave = c.in-Ok-input.ensures.given; ended = c.in-Ok-input.ensures.ended; within = c.in-Ok-input.ensures.within }; faults = c.in-Ok-input.ensures.count (λ f. cc) },
        record { sink = refl; faults = refl },
        no_part_in built_calls c.in-Ok-input.bytes.items (asked_of c.in-Ok.asked) none,
      );
    }
