use Rattle.std.proofs.Common.{sym, arith, map}
use Rattle.std.proofs.lemmas.List.{length-map}
use Rattle.serde_json.specs.View.{view}
use Rattle.lc_json.specs.Inside.{members_in}
use Rattle.lc_checkpoint.specs.Seen.{settled_of}
use Rattle.lc_checkpoint.proofs.SettledLaws.{done_found, done_long, done_read}
use Rattle.lc_checkpoint.proofs.reading.done_at.Goals as goal

pub returns-then-len-gt131072 : goal.returns-then-len-gt131072
returns-then-len-gt131072 c =
    record { is = sym (done_long c.args.budget (members_in (view c.args.object.now)) (map view c.in-Some.items.now.items) c.in-Some.ensures.is (omega (arith, length-map c.in-Some.items.now.items view, c.if-len-gt131072.true, c.len.ensures))) }

pub returns-else-len-gt131072 : goal.returns-else-len-gt131072
returns-else-len-gt131072 c =
    let found = done_found c.args.budget (members_in (view c.args.object.now)) (map view c.in-Some.items.now.items) c.in-Some.ensures.is (omega (arith, length-map c.in-Some.items.now.items view, c.if-len-gt131072.false, c.len.ensures)) in
    record { is = done_read (λ v. map settled_of v.items) c.settled_list.result c.args.budget c.deref.result.now c.in-Some.items.now.items _ c.deref.ensures.value found c.settled_list.ensures.is }
