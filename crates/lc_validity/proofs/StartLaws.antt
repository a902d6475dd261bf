-- True checkpoints start true sessions.
--   true_start                 the used records of a true checkpoint make a true start
--   true_fits                  and they fit
use Rattle.std.proofs.Common.{◌≡◌, ℕ, ◌<◌, ◌≤◌, ◌⊎◌, List, length, All, Some, None, inl, inr, ⊎_elim, refl, sym, ap, subst, ◌∙◌, arith}
use Rattle.lc_algebra.specs.Matrix.{Matrix}
use Rattle.lc_algebra.specs.Divisor.{divisor_of}
use Rattle.lc_algebra.proofs.DivisorLaws.{divisor_some}
use Rattle.lc_enumeration.specs.Records.{Start}
use Rattle.lc_enumeration.specs.Fitting.{used_start}
use Rattle.lc_enumeration.specs.Truth.{IsTrueStart}
use Rattle.lc_infoset.proofs.FittingLaws.{true_start_fits, used_is_true, used_later}
use Rattle.lc_formats.specs.Checkpoint.{Checkpoint, current_of}
use Rattle.lc_formats.specs.Truth.{divisor_in, whole_start, IsTrueFor, start_of, misfit_of}

-- by the version v that the checkpoint has
start_by : (v : ℕ) (needs : List Matrix) (budget : ℕ) (p : Checkpoint) → (v ≡ 1) ⊎ (v ≡ 2) → IsTrueStart (divisor_in v) needs budget (whole_start p) → IsTrueStart divisor_of needs budget (used_start divisor_of needs v p.settled (current_of p))
unfolding divisor_in whole_start
start_by v needs budget p (inl e) t = subst (λ n. IsTrueStart divisor_of needs budget (used_start divisor_of needs n p.settled (current_of p))) (sym e) (used_is_true divisor_of needs budget p.settled (current_of p) divisor_some (subst (λ n. IsTrueStart (divisor_in n) needs budget (whole_start p)) e t))
start_by v needs budget p (inr e) t = subst (λ n. IsTrueStart divisor_of needs budget (used_start divisor_of needs n p.settled (current_of p))) (sym e) (subst (IsTrueStart divisor_of needs budget) (sym (used_later divisor_of needs p.settled (current_of p))) (subst (λ n. IsTrueStart (divisor_in n) needs budget (whole_start p)) e t))

pub true_start : (needs : List Matrix) (digest : List ℕ) (budget : ℕ) (p : Checkpoint) → IsTrueFor needs digest budget p → IsTrueStart divisor_of needs budget (start_of needs p)
unfolding start_of
true_start needs digest budget p t = start_by p.version needs budget p t.known t.start

pub true_fits : (needs : List Matrix) (digest : List ℕ) (budget : ℕ) (p : Checkpoint) → All (λ (C : Matrix). 0 < length C.rows) needs → IsTrueFor needs digest budget p → misfit_of needs budget p ≡ None
unfolding misfit_of
true_fits needs digest budget p some t = true_start_fits divisor_of needs budget (start_of needs p) some (true_start needs digest budget p t)
