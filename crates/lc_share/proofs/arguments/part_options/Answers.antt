use Rattle.std.proofs.Common.{◌≡◌, ◌^◌, true, sym, ap, ◌∙◌, arith, rules, codes, string_bytes}
use Rattle.std.proofs.lemmas.List.{length-map}
use Rattle.lc_formats.specs.Text.{same_bytes}
use Rattle.lc_arguments.specs.Asked.{words_of}
use Rattle.lc_share.specs.Asked.{word_at, value_in}
use Rattle.lc_share.proofs.WordLaws.{too_many, all_there}
use Rattle.lc_share.proofs.arguments.part_options.Goals as goal

pub returns-then-arguments-gt4-clause-is : goal.returns-then-arguments-gt4-clause-is
returns-then-arguments-gt4-clause-is c =
    let part : same_bytes (codes "part") (word_at (words_of c.args.arguments.now) 0) ≡ true = ap (same_bytes (codes "part")) (sym c.word.ensures) ∙ sym c.is_part.ensures ∙ (search rules) in
    too_many (words_of c.args.arguments.now) c.in-Some.start c.in-Some-value_in.count c.in-Some-workers_in.workers part
    (sym c.in-Some.is ∙ c.value_in.ensures.is ∙ ap (value_in (codes "from") 0 (2 ^ 40)) c.word-2.ensures) (sym c.in-Some-value_in.is ∙ c.value_in-2.ensures.is ∙ ap (value_in (codes "count") 1 (2 ^ 40)) c.word-3.ensures)
    (sym c.in-Some-workers_in.is ∙ c.workers_in.ensures.is) (omega (arith, length-map c.args.arguments.now string_bytes, c.if-arguments-gt4.true))

pub returns-clause-is : goal.returns-clause-is
returns-clause-is c =
    let part : same_bytes (codes "part") (word_at (words_of c.args.arguments.now) 0) ≡ true = ap (same_bytes (codes "part")) (sym c.word.ensures) ∙ sym c.is_part.ensures ∙ (search rules) in
    all_there (words_of c.args.arguments.now) c.in-Some.start c.in-Some-value_in.count c.in-Some-workers_in.workers part
    (sym c.in-Some.is ∙ c.value_in.ensures.is ∙ ap (value_in (codes "from") 0 (2 ^ 40)) c.word-2.ensures) (sym c.in-Some-value_in.is ∙ c.value_in-2.ensures.is ∙ ap (value_in (codes "count") 1 (2 ^ 40)) c.word-3.ensures)
    (sym c.in-Some-workers_in.is ∙ c.workers_in.ensures.is) (omega (arith, length-map c.args.arguments.now string_bytes, c.if-arguments-gt4.false))
