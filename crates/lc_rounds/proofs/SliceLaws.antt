-- How long a round is, and what it leaves of the slice.
--   some_left              a slice that isn't used up has a block left
--   limit_none             a limit of the longest round is none
use Rattle.std.proofs.Common.{◌≡◌, ℕ, zero, suc, ◌≤◌, false, Some, None, sym, arith}
use Rattle.std.proofs.lemmas.Bool.{false≢true}
use Rattle.lc_algebra.specs.Matrix.{Matrix}
use Rattle.lc_enumeration.specs.Records.{is_used_up, within_slice, round_length}

pub some_left : (left : ℕ) → is_used_up (Some left) ≡ false → 1 ≤ left
unfolding is_used_up
some_left zero e = absurd (false≢true (sym e))
some_left (suc n) e = omega arith

-- a limit of the longest round is none
pub limit_none : (C : Matrix) (budget l longest : ℕ) → round_length C budget longest (Some longest) l ≡ round_length C budget longest None l
unfolding round_length within_slice
limit_none C budget l longest = omega arith

pub ruleset limit_of_laws = (limit_none, some_left)
