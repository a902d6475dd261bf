-- The phase of a block.
--   phase_in_plan      a phase of the plan has the block
--   phase_of_block     the same by the dimension and the field of the code
use Rattle.std.proofs.Common.{ℕ, zero, suc, ◌*◌, ◌<◌, ◌≤◌, length, ⊎_elim, arith}
use Rattle.std.proofs.lemmas.Bool.{cases_lt}
use Rattle.lc_algebra.specs.Field.{size}
use Rattle.lc_enumeration.specs.Plan.{total, blocks_before, IsInPhase}
use Rattle.lc_enumeration.proofs.PlanLaws.{start_is, end_is}
use Rattle.lc_kernel.specs.declared.block.Block.{Block}
use Rattle.lc_kernel.proofs.ScanLaws.{phase_same}

-- the last of the first n phases that begins no later than a block that they have
last_phase : (k q m b n : ℕ) → b < blocks_before k q m n → (p : ℕ) × (p < n) × (blocks_before k q m p ≤ b) × (b < blocks_before k q m (suc p))
unfolding blocks_before
last_phase k q m b zero l = absurd (omega (arith, l))
last_phase k q m b (suc n) l = ⊎_elim
    (λ a. let t = last_phase k q m b n a in (t.0, omega (arith, t.1), t.2, t.3))
    (λ a. (n, omega arith, a, l))
    (cases_lt b (blocks_before k q m n))

phase_below : (k q m b : ℕ) → b < total k q m → (p : ℕ) × IsInPhase k q m p b
unfolding total
phase_below k q m b l =
    let t = last_phase k q m b (k * m) (omega (arith, l)) in (
      t.0,
      record {
        phase = t.1;
        after = omega (arith, start_is k q m t.0, t.2);
        before = omega (arith, end_is k q m t.0, t.3, l);
      },
    )

pub phase_in_plan : (b : Block) → (p : ℕ) × IsInPhase b.plan.now.k b.plan.now.q b.plan.now.m p b.number
phase_in_plan b = phase_below b.plan.now.k b.plan.now.q b.plan.now.m b.number b.inside

pub phase_of_block : (b : Block) → (p : ℕ) × IsInPhase (length b.sets.now.rows) (size b.sets.now.field) b.plan.now.m p b.number
phase_of_block b = let found = phase_in_plan b in (found.0, phase_same b.sets.now b.plan.now found.0 b.number b.planned found.1)
