-- The first refusal of a list.
--   first_from_codes              the first refusal of a constructor is that of the call
--   first_stays, first_behind     the first refusal of two lists, one after the other
use Rattle.std.proofs.Common.{◌≡◌, List, [], ◌∷◌, ◌++◌, Option, Some, None, is_some, option_map, refl, sym, ap, true≢false}
use Rattle.lc_constructions.specs.declared.refusal.CodeRefusal.{CodeRefusal}
use Rattle.lc_constructions.specs.Refusal.{first_refusal}
use Rattle.lc_language.specs.Refusal.{Refusal, first_of, refusal_from, from_codes}

pub first_from_codes : (rs : List (Option CodeRefusal)) → first_of (from_codes rs) ≡ option_map refusal_from (first_refusal rs)
unfolding first_of from_codes first_refusal
first_from_codes [] = refl
first_from_codes (None ∷ rs) = first_from_codes rs
first_from_codes (Some r ∷ rs) = refl

pub first_stays : (xs ys : List (Option Refusal)) (r : Refusal) → first_of xs ≡ Some r → first_of (xs ++ ys) ≡ Some r
unfolding first_of
first_stays [] ys r h = absurd (true≢false (ap is_some (sym h)))
first_stays (None ∷ xs) ys r h = first_stays xs ys r h
first_stays (Some x ∷ xs) ys r h = h

pub first_behind : (xs ys : List (Option Refusal)) → first_of xs ≡ None → first_of (xs ++ ys) ≡ first_of ys
unfolding first_of
first_behind [] ys h = refl
first_behind (None ∷ xs) ys h = first_behind xs ys h
first_behind (Some x ∷ xs) ys h = absurd (true≢false (ap is_some h))
