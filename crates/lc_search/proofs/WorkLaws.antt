-- The blocks of a search.
--   value_is               what the kernel gives is the value of the block
--   few_blocks             a plan has at most 2^40 blocks
--   fresh_rooms, rooms_kept      scratches for a code are rooms of its blocks, and count nothing
use Rattle.std.proofs.Common.{◌≡◌, ℕ, ◌^◌, ◌≤◌, List, sym, ap, arith, Some, option_map, refl}
use Rattle.std.specs.Prelude.{All, unwrap_or}
use Rattle.std.proofs.lemmas.List.Elements.{All-weaker}
use Rattle.lc_algebra.specs.Matrix.{Matrix}
use Rattle.lc_enumeration.specs.Plan.{total}
use Rattle.lc_enumeration.specs.Search.{block_least, board_value}
use Rattle.lc_enumeration.proofs.PlanLaws.{cut_is}
use Rattle.lc_place.specs.Place.{PlanSize}
use Rattle.lc_kernel.specs.Kernel.{IsPlanOf}
use Rattle.lc_crew.specs.Crew.{IsFresh}
use Rattle.lc_search.specs.Work.{block_value, IsRoomOf}

pub value_is : (C : Matrix) (m b v : ℕ) → option_map board_value (block_least C m b) ≡ Some v → v ≡ block_value C m b
unfolding block_value
value_is C m b v e = ap (λ o. unwrap_or o 0) (sym e)

pub few_blocks : (k q m : ℕ) → total k q m ≤ 2 ^ 40
unfolding total
few_blocks k q m = omega (arith, cut_is)

pub fresh_rooms : (C : Matrix) (plan : PlanSize) (rooms : List Matrix) → IsPlanOf plan C → All (λ s. s ≡ C) rooms → All (IsFresh (IsRoomOf C plan) (λ s j. 0)) rooms
fresh_rooms C plan rooms p all = All-weaker (λ (s : Matrix). s ≡ C) (IsFresh (IsRoomOf C plan) (λ s j. 0)) (λ s e. (record { code = e; plan_is = p }, λ j. refl)) rooms all

pub rooms_kept : (C : Matrix) (plan : PlanSize) (rooms : List Matrix) → All (IsRoomOf C plan) rooms → All (λ s. s ≡ C) rooms
rooms_kept C plan rooms all = All-weaker (IsRoomOf C plan) (λ (s : Matrix). s ≡ C) (λ s h. h.code) rooms all
