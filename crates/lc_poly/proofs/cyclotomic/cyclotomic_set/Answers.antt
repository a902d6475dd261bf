use Rattle.std.proofs.Common.{◌≡◌, ◌↔◌, true, false, get_or, subst, Contains}
use Rattle.lc_poly.proofs.CyclotomicLaws.{members_told}
use Rattle.lc_poly.proofs.cyclotomic.cyclotomic_set.Goals as goal

pub returns : goal.returns
returns c = record {
  set = members_told c.args.n c.args.q c.args.i c.in_ok-seen.seen.items c.in_ok-xs.xs.items c.in_ok-seen.ensures.marks c.in_ok-xs.ensures.rises
      (λ x. subst (λ s. Contains c.in_ok-xs.xs.items x ↔ (get_or s x false ≡ true)) c.deref.ensures.value (c.in_ok-xs.ensures.members x));
}
