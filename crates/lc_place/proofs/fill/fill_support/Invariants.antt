use Rattle.std.proofs.Common.{◌≤◌, ◌<◌, ◌^◌, vec_capacity}
use Rattle.lc_place.proofs.Unranking.{SupportSoFar}
use Rattle.lc_place.proofs.fill.fill_support.Given as goal

abbrev pub invariant-loop-place : goal.invariant-loop-place
invariant-loop-place l = record {
  so_far : SupportSoFar l.k l.width l.rank l.place l.support.items l.rest;
  small : l.rest < 2 ^ 52;
  room : l.width ≤ vec_capacity l.support;
  capacity : vec_capacity l.fn.support ≤ vec_capacity l.support;
}
