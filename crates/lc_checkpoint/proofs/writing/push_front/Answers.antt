use Rattle.std.proofs.Common.{◌++◌, codes, decimal, map, ap, ◌∙◌}
use Rattle.lc_checkpoint.specs.Seen.{settled_of, point_of}
use Rattle.lc_checkpoint.specs.Pieces.{settled_list_text, front_text}
use Rattle.lc_formats.proofs.ListTexts.{five}
use Rattle.lc_checkpoint.proofs.writing.push_front.Goals as goal

pub returns : goal.returns
unfolding point_of front_text
returns c =
    let p = c.args.point.now in
    five c.args.text.now.items _ _ _ _ _ (codes "{\"blocks\":" ++ decimal p.blocks) (codes ",\"budget\":" ++ decimal p.budget) (codes ",\"done\":") (settled_list_text (map settled_of p.settled.items)) (codes ",\"place\":" ++ decimal p.place) c.in_ok-push_named.ensures c.in_ok-push_named-2.ensures c.in_ok-push_text.ensures.is (c.in_ok-push_settled_list.ensures ∙ ap (λ ss. c.push_text.new.text.items ++ settled_list_text (map settled_of ss)) c.deref.ensures.value) c.in_ok-push_named-3.ensures
