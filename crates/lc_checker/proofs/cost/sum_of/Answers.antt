use Rattle.std.proofs.Common.{◌+◌, ◌<◌, ◌∙◌, map, sum, min, drop, ap, sym, arith}
use Rattle.std.proofs.lemmas.Simd.{map-map}
use Rattle.lc_formats.specs.Certificate.{messages_through}
use Rattle.lc_certificate.specs.declared.certificate.SetClaim.{SetClaim}
use Rattle.lc_certificate.specs.Seen.{claim_of}
use Rattle.lc_checker.specs.Cost.{capped}
use Rattle.lc_checker.proofs.CostLaws.{sum_step, sum_whole}
use Rattle.lc_checker.proofs.cost.sum_of.Goals as goal

pub loop-i-preserved : goal.loop-i-preserved
loop-i-preserved c =
    let k = c.args.k in
    let cs = c.args.claims.now in
    let g = λ (s : SetClaim). messages_through k c.args._q (min s.level k) in
    let inside : c.min.result < k + 1 = omega (arith, c.min.ensures) in
    let entry = c.requires.table.entry c.min.result inside ∙ ap (λ w. capped (messages_through k c.args._q w)) c.min.ensures in
    record {
      few = omega (arith, c.saturating_add-total.ensures);
      rest = ap (λ t. capped (t + sum (map g (drop (c.loop-i.i + 1) cs)))) c.saturating_add-total.ensures ∙ sum_step g cs c.loop-i.i c.loop-i.total _ (capped (sum (map g cs))) c.index-claims-i.result c.loop-i-test.true entry c.loop-i.invariant.rest;
    }

pub returns : goal.returns
unfolding claim_of
returns c =
    let k = c.args.k in
    let cs = c.args.claims.now in
    let g = λ (s : SetClaim). messages_through k c.args._q (min s.level k) in
    record { is = sum_whole g cs c.loop-i.i c.loop-i.total (capped (sum (map g cs))) c.loop-i.invariant.few c.loop-i-test.false c.loop-i.invariant.rest ∙ ap (λ xs. capped (sum xs)) (sym (map-map (λ claim. messages_through k c.args._q (min claim.level k)) claim_of cs)) }
