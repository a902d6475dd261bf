use Rattle.std.proofs.Common.{◌≡◌, ◌+◌, ◌-◌, ◌<◌, suc, length, take, drop, bit_xor, slice_index, refl, sym, ap, subst, ◌∙◌, arith}
use Rattle.std.proofs.lemmas.List.{length-take-le, length-drop, get_or-take, get_or-drop}
use Rattle.lc_kernel.specs.Packed.{EndsAt}
use Rattle.lc_kernel.proofs.SupportLaws.{ends_more, sums_more, sums_made}
use Rattle.lc_kernel.proofs.parts.longer_sums.Goals as goal

pub loop-a-preserved : goal.loop-a-preserved
loop-a-preserved c =
    let rows = c.args.rows.now in
    let sums = c.args.sums.now in
    let k = length rows in
    let t = c.args.places in
    let a = c.loop-a.a in
    let old = c.loop-a.longer.items in
    let new = c.push_sums.new.longer.items in
    let f = slice_index c.args.starts.now (a + 1) in
    let l : a < k = omega (arith, c.loop-a-test.true, c.loop-a.auto.a-end) in
    let i = c.loop-a.invariant in
    let first = c.requires.starts.first (a + 1) (omega (arith, l)) in
    let e = c.in_ok-push_sums.ensures in
    let n = length sums - f in
    let cut : length (take n (drop f sums)) ≡ n = length-take-le n (drop f sums) (omega (arith, length-drop f sums)) in
    let long : length new ≡ length old + n = e.long ∙ ap (λ z. length old + z) cut in
    let next = ends_more k t a (length old) f l i.ends first in
    let many : length old + n ≡ length new = sym long in
    record {
      ends = subst (EndsAt k (suc t) (a + 1)) many (subst (λ z. EndsAt k (suc t) (a + 1) (length old + (z - f))) (sym c.requires.sums.long) next);
      so_far = sums_more k t a f rows sums old new l i.ends first c.requires.sums long e.before (λ x m. e.after x (omega (arith, m, cut)) ∙ ap (bit_xor (slice_index rows a)) (get_or-take n (drop f sums) x 0 m ∙ get_or-drop f sums x 0)) i.so_far;
    }

pub returns : goal.returns
returns c =
    let rows = c.args.rows.now in
    let k = length rows in
    let i = c.loop-a.invariant in
    let all : c.loop-a.a ≡ k = omega (arith, c.loop-a-test.false, c.loop-a.auto.a-end) in
    let ends : EndsAt k (suc c.args.places) k (length c.loop-a.longer.items) = subst (λ a. EndsAt k (suc c.args.places) a (length c.loop-a.longer.items)) all i.ends in
    record { are = sums_made k c.args.places rows c.loop-a.longer.items refl ends i.so_far }
