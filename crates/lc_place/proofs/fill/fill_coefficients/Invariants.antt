use Rattle.std.proofs.Common.{◌≤◌, ◌<◌, ◌^◌, vec_capacity}
use Rattle.lc_place.proofs.Unranking.{EntriesSoFar}
use Rattle.lc_place.proofs.fill.fill_coefficients.Given as goal

abbrev pub invariant-loop-place : goal.invariant-loop-place
invariant-loop-place l = record {
  so_far : EntriesSoFar l.q l.width l.rank l.place l.coefficients.items l.rest;
  small : l.rest < 2 ^ 52;
  room : l.width ≤ vec_capacity l.coefficients;
  capacity : vec_capacity l.fn.coefficients ≤ vec_capacity l.coefficients;
}
