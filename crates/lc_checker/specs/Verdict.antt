-- The verdicts and reasons that those of the program stand for.
--   reason_of r              a reason
--   reasons_of o             the reason if there is one
--   verdict_of v             a verdict
use Rattle.std.specs.Prelude.{Option, option_map}
use Rattle.lc_checker.specs.declared.verdict.Reason.{Reason}
use Rattle.lc_checker.specs.declared.verdict.Reason.TheVariants as reason
use Rattle.lc_checker.specs.declared.verdict.Verdict.{Verdict}
use Rattle.lc_checker.specs.declared.verdict.Verdict.TheVariants as given
use Rattle.lc_formats.specs.Certificate as formats

unfoldable pub reason_of : Reason → formats.Reason
reason_of reason.NotJson = formats.not_json
reason_of (reason.Shape rule) = formats.shape rule
reason_of reason.Limit = formats.limit
reason_of reason.WordNotInCode = formats.word_not_in_code
reason_of (reason.WordWeight w) = formats.word_weight w
reason_of (reason.SetNotInformation j) = formats.set_not_information j
reason_of (reason.FreshOverlap c) = formats.fresh_overlap c
reason_of (reason.SeenLighter w) = formats.seen_lighter w
reason_of (reason.BoundShort s) = formats.bound_short s
reason_of (reason.TooCostly n) = formats.too_costly n
reason_of (reason.PartRefused claim refusal) = formats.part_refused claim refusal
reason_of (reason.ClaimShort b) = formats.claim_short b

unfoldable pub reasons_of : Option Reason → Option formats.Reason
reasons_of o = option_map reason_of o

unfoldable pub verdict_of : Verdict → formats.Verdict
verdict_of given.Accepted = formats.accepted
verdict_of (given.Rejected r) = formats.rejected (reason_of r)
