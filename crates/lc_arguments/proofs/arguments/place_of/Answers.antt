use Rattle.std.proofs.Common.{sym, ap, ◌∙◌, arith, string_bytes}
use Rattle.lc_arguments.proofs.CourseLaws.{place_here, place_later, place_nowhere, name_at, inside_names, beyond_names}
use Rattle.lc_arguments.proofs.arguments.place_of.Goals as goal

pub returns-then-is_text : goal.returns-then-is_text
returns-then-is_text c =
    place_here _ _ c.loop-i.i c.name_in.result.now c.loop-i.invariant (inside_names c.args.arguments.now c.loop-i.i (omega arith))
    (name_at c.args.arguments.now c.loop-i.i c.index-arguments-i.result c.as_str.result.now c.name_in.result.now (omega arith) (c.as_str.ensures.value ∙ ap string_bytes c.index-arguments-i.is) c.name_in.ensures)
    (rw c.text.ensures at (sym c.is_text.ensures ∙ c.if-is_text.true))

pub loop-i-preserved : goal.loop-i-preserved
loop-i-preserved c =
    place_later _ _ c.loop-i.i c.name_in.result.now c.loop-i.invariant (inside_names c.args.arguments.now c.loop-i.i (omega arith))
    (name_at c.args.arguments.now c.loop-i.i c.index-arguments-i.result c.as_str.result.now c.name_in.result.now (omega arith) (c.as_str.ensures.value ∙ ap string_bytes c.index-arguments-i.is) c.name_in.ensures)
    (rw c.text.ensures at (sym c.is_text.ensures ∙ c.if-is_text.false))

pub returns : goal.returns
returns c = place_nowhere _ _ c.loop-i.i c.loop-i.invariant (beyond_names c.args.arguments.now c.loop-i.i (omega arith))
