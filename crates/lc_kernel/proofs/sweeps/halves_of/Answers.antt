use Rattle.std.proofs.Common.{rules, ◌≡◌, ◌+◌, ◌-◌, ◌*◌, ◌≤◌, length, slice_index, sym, ap, subst, ◌∙◌, arith}
use Rattle.std.proofs.Math.Nat.{mul-le-mul_right}
use Rattle.std.proofs.lemmas.Option.{slice_get_within}
use Rattle.lc_enumeration.specs.Message.{supports_from}
use Rattle.lc_kernel.specs.Packed.{others, pair_of}
use Rattle.lc_planes.specs.Planes.{part_at}
use Rattle.lc_kernel.specs.Grid.{tail_count, tails_in, AreTailPlanes}
use Rattle.lc_kernel.specs.Sweeps.{listed_spot}
use Rattle.lc_kernel.proofs.SupportLaws.{pairs_few}
use Rattle.lc_kernel.proofs.RunLaws.{pair_read}
use Rattle.lc_kernel.proofs.TableLaws.{one_grid_part}
use Rattle.lc_kernel.proofs.SweepLaws.{first_listed, pair_there}
use Rattle.lc_kernel.proofs.sweeps.halves_of.Goals as goal

pub index-requires : goal.index-requires
index-requires c =
    let p = pair_read c.args.sweep.now.block.sets.now (listed_spot c.args.sweep.now.block.sets.now c.args.sweep.now.set c.args.support.now 0) c.args.sweep.now.grid.now.starts.items c.requires.grid.first (first_listed c.args.sweep.now.block.sets.now c.args.sweep.now.set c.args.support.now c.requires.rises) (omega (arith, c.requires.level)) in
    omega (arith, p.started, c.args.sweep.now.grid.now.starts.ok.0)

pub overflow_sub-pair : goal.overflow_sub-pair
overflow_sub-pair c =
    let p = pair_read c.args.sweep.now.block.sets.now (listed_spot c.args.sweep.now.block.sets.now c.args.sweep.now.set c.args.support.now 0) c.args.sweep.now.grid.now.starts.items c.requires.grid.first (first_listed c.args.sweep.now.block.sets.now c.args.sweep.now.set c.args.support.now c.requires.rises) (omega (arith, c.requires.level)) in
    omega (arith, p.rises)

pub overflow_sub-pair-2 : goal.overflow_sub-pair-2
overflow_sub-pair-2 c =
    let p = pair_read c.args.sweep.now.block.sets.now (listed_spot c.args.sweep.now.block.sets.now c.args.sweep.now.set c.args.support.now 0) c.args.sweep.now.grid.now.starts.items c.requires.grid.first (first_listed c.args.sweep.now.block.sets.now c.args.sweep.now.set c.args.support.now c.requires.rises) (omega (arith, c.requires.level)) in
    omega (arith, p.rises)

pub overflow_add-pair : goal.overflow_add-pair
overflow_add-pair c =
    let C = c.args.sweep.now.block.sets.now in
    let r = pair_there C c.args.sweep.now.set 0 c.args.support.now c.args.sweep.now.grid.now.starts.items c.index.result.now c.requires.grid.first (first_listed C c.args.sweep.now.set c.args.support.now c.requires.rises) c.requires.level c.index.ensures in
    let few = pairs_few (length C.rows) (omega (arith, c.args.sweep.now.block.few)) in
    omega (arith, few, slice_get_within (supports_from 0 (length C.rows) 2) _ (pair_of (listed_spot C c.args.sweep.now.set c.args.support.now 0)) r)

pub overflow_mul-result : goal.overflow_mul-result
overflow_mul-result c =
    let C = c.args.sweep.now.block.sets.now in
    let r = pair_there C c.args.sweep.now.set 0 c.args.support.now c.args.sweep.now.grid.now.starts.items c.index.result.now c.requires.grid.first (first_listed C c.args.sweep.now.set c.args.support.now c.requires.rises) c.requires.level c.index.ensures in
    let few = pairs_few (length C.rows) (omega (arith, c.args.sweep.now.block.few)) in
    let below = slice_get_within (supports_from 0 (length C.rows) 2) _ (pair_of (listed_spot C c.args.sweep.now.set c.args.support.now 0)) r in
    let e = c.nonzero-elements.result in
    let square_few : e * e ≤ 15 * 15 = omega (arith, mul-le-mul_right e c.nonzero-elements.ensures.most, c.nonzero-elements.ensures.most) in
    let pair_few : c.index.result.now + (slice_index c.args.support.now (length c.args.support.now - 1) - slice_index c.args.support.now (length c.args.support.now - 2) - 1) ≤ 65025 = omega (arith, few, below) in
    omega (arith, mul-le-mul_right (e * e) pair_few, square_few)

pub returns : goal.returns
returns c =
    let C = c.args.sweep.now.block.sets.now in
    let j = c.args.sweep.now.set in
    let u = c.args.support.now in
    let n = c.args.sweep.now.grid.now.planes in
    let T = tail_count C in
    let part = one_grid_part C j n c.args.sweep.now.part c.args.sweep.now.grid.now.parts.items c.index-table.result.now c.requires.grid.parts c.requires.part c.index-table.ensures in
    let packed : AreTailPlanes C j (part_at (others C j) c.args.sweep.now.part) n c.as_slice.result.now = subst (AreTailPlanes C j (part_at (others C j) c.args.sweep.now.part) n) (sym c.as_slice.ensures.value) part.planes in
    let r = pair_there C j 0 u c.args.sweep.now.grid.now.starts.items c.index.result.now c.requires.grid.first (first_listed C j u c.requires.rises) c.requires.level c.index.ensures in
    let below = slice_get_within (supports_from 0 (length C.rows) 2) _ (pair_of (listed_spot C j u 0)) r in
    let rows : _ ≤ tails_in C = mul-le-mul_right T below in
    let square : c.nonzero-elements.result * c.nonzero-elements.result ≡ T = ap (λ z. z * z) c.nonzero-elements.ensures.is in
    record {
      are = record {
        are = record {
          least = c.requires.grid.least;
          most = c.requires.grid.few;
          long = ap length c.as_slice.ensures.value ∙ part.planes.long ∙ ap (λ z. n * z) (sym c.requires.grid.count);
          some = search rules;
          room = rw c.nonzero-elements.ensures.is (omega (arith, rows, c.requires.grid.count));
          small = c.requires.grid.small;
          few = c.requires.few;
        };
        fits = c.requires.grid.planes;
        many = c.requires.grid.count;
        tails = square;
        heads = c.requires.heads;
        all = c.requires.many;
        packed = packed;
        pair = (_, r, ap (λ z. (c.index.result.now + (slice_index u (length u - 1) - slice_index u (length u - 2) - 1)) * z) square);
      };
    }
