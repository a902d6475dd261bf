-- A part of a search.
--   ranks_more, ranks_whole      the ranks of the first sets, and of all
--   first_found, first_weight      what the word at place 0 is found with
--   never_none               there is such a word
--   part_true                the part is a true one
use Rattle.std.proofs.Common.{◌≡◌, ℕ, zero, suc, ◌+◌, ◌<◌, ◌≤◌, List, [], ◌∷◌, ◌++◌, length, slice_index, take, Option, Some, None, option_map, refl, sym, ap, ◌∙◌, arith}
use Rattle.std.proofs.lemmas.List.{length-map, get_or-map, take_all}
use Rattle.lc_algebra.specs.Word.{weight}
use Rattle.lc_algebra.specs.Matrix.{Matrix}
use Rattle.lc_enumeration.specs.InformationSet.{InformationSet}
use Rattle.lc_enumeration.specs.Search.{Found, sets_of, set_count, ranks_of, word_at, found_first, found_from, least_of}
use Rattle.lc_enumeration.specs.Records.{found_of, progress_of, first_progress}
use Rattle.lc_infoset.specs.Bound.{set_at}
use Rattle.lc_infoset.proofs.SetLaws.{count_is, ranks_are}
use Rattle.lc_search.specs.State.{SearchState, first_state}
use Rattle.lc_search.proofs.StateLaws.{first_there, first_made}
use Rattle.lc_parts.specs.Part.{Part, IsTruePart, found_in}

length_ranks : (C : Matrix) → length (ranks_of C) ≡ set_count C
length_ranks C = ap length (ranks_are C) ∙ length-map (sets_of C) (λ (s : InformationSet). length s.fresh) ∙ sym (count_is C)

rank_at : (C : Matrix) (j : ℕ) → j < set_count C → slice_index (ranks_of C) j ≡ length (set_at C j).fresh
rank_at C j l = ap (λ rs. slice_index rs j) (ranks_are C) ∙ get_or-map (λ (s : InformationSet). length s.fresh) (sets_of C) j (record { basis = []; fresh = [] }) 0 (omega (arith, l, count_is C))

take_next : (xs : List ℕ) (j : ℕ) → j < length xs → take (suc j) xs ≡ take j xs ++ slice_index xs j ∷ []
take_next [] j l = absurd (omega (arith, l))
take_next (x ∷ xs) zero l = refl
take_next (x ∷ xs) (suc j) l = ap (λ t. x ∷ t) (take_next xs j (omega (arith, l)))

next : (j : ℕ) → suc j ≡ j + 1
next j = omega arith

pub ranks_more : (C : Matrix) (j rank : ℕ) (ranks : List ℕ) → j < set_count C → rank ≡ length (set_at C j).fresh → ranks ≡ take j (ranks_of C) → ranks ++ rank ∷ [] ≡ take (j + 1) (ranks_of C)
ranks_more C j rank ranks l r e =
    ap (λ t. t ++ rank ∷ []) e
    ∙ ap (λ x. take j (ranks_of C) ++ x ∷ []) (r ∙ sym (rank_at C j l))
    ∙ sym (take_next (ranks_of C) j (omega (arith, l, length_ranks C)))
    ∙ ap (λ i. take i (ranks_of C)) (next j)

pub ranks_whole : (C : Matrix) (j : ℕ) (ranks : List ℕ) → set_count C ≤ j → ranks ≡ take j (ranks_of C) → ranks ≡ ranks_of C
ranks_whole C j ranks l e = e ∙ take_all j (ranks_of C) (omega (arith, l, length_ranks C))

pub first_found : (C : Matrix) (w : ℕ) → 0 < length C.rows → Some w ≡ option_map weight (word_at C (set_count C) 0) → record { weight = w; place = 0 } ≡ found_first C (set_count C)
unfolding found_of first_state first_progress progress_of
first_found C w rows e = ap (λ (s : SearchState). found_of s.progress) (first_made C 0 w rows e)

pub first_weight : (C : Matrix) (w : ℕ) → 0 < length C.rows → Some w ≡ option_map weight (word_at C (set_count C) 0) → w ≡ (found_first C (set_count C)).weight
first_weight C w rows e = ap (λ (f : Found). f.weight) (first_found C w rows e)

pub never_none : (C : Matrix) (o : Option ℕ) → 0 < length C.rows → o ≡ option_map weight (word_at C (set_count C) 0) → ((x : ℕ) → o ≡ Some x → ⊥) → ⊥
never_none C o rows e n = there (word_at C (set_count C) 0) refl
  where
    there : (w : Option (List ℕ)) → word_at C (set_count C) 0 ≡ w → ⊥
    there None k = first_there C rows k
    there (Some w) k = n (weight w) (e ∙ ap (option_map weight) k)

first_is : (C : Matrix) (w : ℕ) → w ≡ (found_first C (set_count C)).weight → record { weight = w; place = 0 } ≡ found_first C (set_count C)
unfolding found_first
first_is C w e = ap (λ w. record { weight = w; place = 0 }) e

pub part_true : (C : Matrix) (p : Part) (found : Found) (start count first : ℕ) → first ≡ (found_first C (set_count C)).weight → p.start ≡ start → p.count ≡ count → found_in p ≡ found → found ≡ least_of (record { weight = first; place = 0 }) (found_from C (set_count C) start count) → IsTruePart C p
part_true C p found start count first f s n p_is e =
    p_is ∙ e
    ∙ ap (λ x. least_of x (found_from C (set_count C) start count)) (first_is C first f)
    ∙ ap (λ s. least_of (found_first C (set_count C)) (found_from C (set_count C) s count)) (sym s)
    ∙ ap (λ n. least_of (found_first C (set_count C)) (found_from C (set_count C) p.start n)) (sym n)

pub ruleset ranks_laws = (ranks_more, ranks_whole)
