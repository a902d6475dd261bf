-- The line of a true part is in range: that of a code whose information sets a search keeps.
--   found_some, field_found      the field of a code is found by its size
--   fresh_first              all columns of the first information set are fresh
--   rank_at, first_rank, rank_few      the numbers of fresh columns: the first is the dimension, and none is more
--   ranks_ranged             they are those of a line
--   at_place_ranged, first_ranged      the weight of a word at a place is 1 to 255
--   facts_ranged             what the plan and the bound of a search are made of is in range
--   IsLight, least_light     the least word of some blocks has such a weight, and its place is 0 or one of these blocks
--   part_ranged              a true part is in range
--   line_ranged              so is its line
use Rattle.std.proofs.Common.{◌≡◌, ℕ, ◌+◌, ◌*◌, ◌^◌, ◌<◌, ◌≤◌, ◌⊎◌, inl, inr, Bool, true, false, not, nat_le, ◌==◌, ◌&&◌, find, filter, List, [], ◌∷◌, length, slice_index, Option, Some, None, is_some, Contains, refl, sym, ap, subst, ◌∙◌, ⊎_elim, arith}
use Rattle.std.proofs.lemmas.Bool.{false≢true, le-leb, eq-eqb}
use Rattle.std.proofs.lemmas.List.{length-map, get_or-map, get_or_default}
use Rattle.sha2.specs.Sha256.{sha256}
use Rattle.sha2.proofs.Facts256.{length-sha256}
use Rattle.hex.specs.Hex.{IsBytes}
use Rattle.lc_algebra.specs.declared.FieldName.{FieldName}
use Rattle.lc_algebra.specs.Field.{size, is_symbol}
use Rattle.lc_algebra.specs.Word.{weight}
use Rattle.lc_algebra.specs.Matrix.{Matrix}
use Rattle.lc_algebra.specs.Divisor.{divisor_of}
use Rattle.lc_algebra.proofs.WordLaws.{weight_at_most_length}
use Rattle.lc_algebra.proofs.SpanLaws.{span_word, contains_cases}
use Rattle.lc_algebra.proofs.DivisorLaws.{each_passes}
use Rattle.lc_constructions.specs.Cyclic.{all_fields}
use Rattle.lc_constructions.proofs.LocatorLaws.{each_field}
use Rattle.lc_enumeration.specs.Plan.{total}
use Rattle.lc_enumeration.specs.InformationSet.{InformationSet, is_member, with_fresh, next_set, information_sets}
use Rattle.lc_enumeration.specs.Search.{Found, sets_of, set_count, ranks_of, word_of, found_first, found_from, least_of}
use Rattle.lc_enumeration.specs.Truth.{IsAtPlace}
use Rattle.lc_enumeration.proofs.PlanLaws.{cut_is}
use Rattle.lc_enumeration.proofs.SearchLaws.{found_is, least_is}
use Rattle.lc_infoset.specs.Bound.{set_at}
use Rattle.lc_infoset.specs.Kept.{set_state, set_states, IsKept}
use Rattle.lc_infoset.proofs.SetLaws.{count_is, ranks_are}
use Rattle.lc_infoset.proofs.KeptLaws.{dimension_few, divisor_some, divisor_small, count_few, fresh_kept, fresh_few}
use Rattle.lc_infoset.proofs.GreedyLaws.{generators_are}
use Rattle.lc_infoset.proofs.AnswerLaws.{find_none, some_set}
use Rattle.lc_infoset.proofs.BestLaws.{first_message, first_at_zero, first_weight, first_place, place_word}
use Rattle.lc_formats.specs.Document.{symbol_field}
use Rattle.lc_parts.specs.Part.{Part, part_end, found_in, IsTruePart, facts_of}
use Rattle.lc_part_lines.specs.Line.{are_ranks, AreFacts, IsPart, IsInRange}

found_some : (p : FieldName → Bool) (f : FieldName) → p f ≡ true → is_some (find p all_fields) ≡ true
found_some p f t = by (find p all_fields) refl
  where
    by : (o : Option FieldName) → find p all_fields ≡ o → is_some (find p all_fields) ≡ true
    by None e = absurd (false≢true (sym (find_none p all_fields f e (each_field f)) ∙ t))
    by (Some g) e = ap is_some e

tests_passed : (a b : Bool) → a ≡ true → b ≡ true → a && b ≡ true
tests_passed true true e h = refl
tests_passed true false e h = absurd (false≢true h)
tests_passed false b e h = absurd (false≢true e)

pub field_found : (f : FieldName) → is_symbol f ≡ true → is_some (symbol_field (size f)) ≡ true
unfolding symbol_field
field_found f t = found_some (λ g. (size g == size f) && is_symbol g) f (tests_passed (size f == size f) (is_symbol f) (eq-eqb (size f) (size f) refl) t)

-- ---- the information sets

none_passed : (set : List ℕ) → filter (λ c. not (is_member [] c)) set ≡ set
unfolding is_member
none_passed [] = refl
none_passed (c ∷ set) = ap (λ t. c ∷ t) (none_passed set)

fresh_first : (C : Matrix) → length (set_at C 0).fresh ≡ length (set_at C 0).basis
unfolding sets_of information_sets next_set with_fresh
fresh_first C = ap length (none_passed (set_at C 0).basis)

rank_at : (C : Matrix) (j : ℕ) → j < set_count C → slice_index (ranks_of C) j ≡ length (set_at C j).fresh
rank_at C j l = ap (λ rs. slice_index rs j) (ranks_are C) ∙ get_or-map (λ (s : InformationSet). length s.fresh) (sets_of C) j (record { basis = []; fresh = [] }) 0 (omega (arith, l, count_is C))

length_ranks : (C : Matrix) → length (ranks_of C) ≡ set_count C
length_ranks C = ap length (ranks_are C) ∙ length-map (sets_of C) (λ (s : InformationSet). length s.fresh) ∙ sym (count_is C)

-- a code that a search keeps, by itself
abbrev pub IsSearched : Matrix → Type 0
IsSearched C = IsKept C (divisor_of C) (set_states C)

first_rank : (C : Matrix) → IsSearched C → slice_index (ranks_of C) 0 ≡ length C.rows
first_rank C h = rank_at C 0 (some_set C) ∙ fresh_first C ∙ (generators_are C h.words h.independent 0 (some_set C)).0

rank_few : (C : Matrix) (j : ℕ) → IsSearched C → j < set_count C → slice_index (ranks_of C) j ≤ length C.rows
rank_few C j h l =
    let x = set_state C (set_at C 0) in
    let same = ap length (fresh_kept C (divisor_of C) j (set_states C) x h l) in
    let few = fresh_few C (divisor_of C) j (set_states C) x h l in
    omega (arith, rank_at C j l, same, few)

member_few : (C : Matrix) (r : ℕ) → IsSearched C → Contains (ranks_of C) r → nat_le r (length C.rows) ≡ true
member_few C r h (j, l, e) =
    let inside : j < set_count C = omega (arith, l, length_ranks C) in
    le-leb r (length C.rows) (subst (λ x. x ≤ length C.rows) (get_or_default (ranks_of C) j 0 r l ∙ e) (rank_few C j h inside))

ranks_ranged : (C : Matrix) → IsSearched C → are_ranks (length C.rows) (ranks_of C) ≡ true
unfolding are_ranks
ranks_ranged C h =
    let long = length_ranks C in
    tests_passed _ _ (le-leb 1 (length (ranks_of C)) (omega (arith, long, some_set C)))
    (tests_passed _ _ (eq-eqb (slice_index (ranks_of C) 0) (length C.rows) (first_rank C h))
    (tests_passed _ _ (le-leb (length (ranks_of C)) 255 (omega (arith, long, count_few C (divisor_of C) (set_states C) h, h.most)))
    (each_passes (λ r. nat_le r (length C.rows)) (ranks_of C) (λ r c. member_few C r h c))))

-- ---- the words

at_place_ranged : (C : Matrix) (place : ℕ) (w : List ℕ) → IsSearched C → IsAtPlace C (set_count C) place w → (1 ≤ weight w) × (weight w ≤ 255)
at_place_ranged C place w h at =
    let there = place_word C place w (generators_are C h.words h.independent) (some_set C) at in
    let word = span_word C.field C.columns C.rows w h.words there.0 in
    (omega (arith, there.1), omega (arith, weight_at_most_length w, word.long, h.most))

first_ranged : (C : Matrix) → IsSearched C → (1 ≤ (found_first C (set_count C)).weight) × ((found_first C (set_count C)).weight ≤ 255)
first_ranged C h =
    let word = at_place_ranged C 0 (word_of C (set_count C) 0 first_message) h (first_at_zero C (set_count C) h.some (some_set C)) in
    let same = first_weight C (set_count C) in
    (omega (arith, word.0, same), omega (arith, word.1, same))

facts_ranged : (C : Matrix) → IsSearched C → AreFacts (facts_of C)
unfolding facts_of
facts_ranged C h =
    let first = first_ranged C h in
    record {
      some = omega (arith, h.some);
      few = omega (arith, dimension_few C (divisor_of C) (set_states C) h, h.most);
      field = field_found C.field h.symbol;
      ranks = ranks_ranged C h;
      divides = divisor_some C (divisor_of C) (set_states C) h;
      small = omega (arith, divisor_small C (divisor_of C) (set_states C) h);
      nonzero = first.0;
      light = first.1;
    }

record IsLight (end : ℕ) (x : Found) : Type 0 where
  some : 1 ≤ x.weight
  light : x.weight ≤ 255
  near : (x.place ≡ 0) ⊎ (x.place < end * 4096)

found_light : (C : Matrix) (start count : ℕ) (x : Found) → IsSearched C → Contains (found_from C (set_count C) start count) x → IsLight (start + count) x
found_light C start count x h there =
    let t = found_is C (set_count C) start count x there in
    let word = at_place_ranged C x.place t.word.0 h t.word.1 in
    let same = t.word.2 in
    record { some = omega (arith, word.0, same); light = omega (arith, word.1, same); near = inr t.before }

least_light : (C : Matrix) (start count : ℕ) → IsSearched C → IsLight (start + count) (least_of (found_first C (set_count C)) (found_from C (set_count C) start count))
least_light C start count h =
    let first = found_first C (set_count C) in
    let from = found_from C (set_count C) start count in
    let ranged = first_ranged C h in
    let first_light : IsLight (start + count) first = record { some = ranged.0; light = ranged.1; near = inl (first_place C (set_count C)) } in
    ⊎_elim
    (λ e. subst (IsLight (start + count)) e first_light)
    (λ there. found_light C start count (least_of first from) h there)
    (contains_cases first (least_of first from) from (least_is first from).one)

part_light : (C : Matrix) (p : Part) → IsSearched C → IsTruePart C p → IsLight (p.start + p.count) (found_in p)
part_light C p h is = subst (IsLight (p.start + p.count)) (sym is) (least_light C p.start p.count h)

part_inside : (k q m n : ℕ) → n ≤ total k q m → n ≤ 2 ^ 40
unfolding total
part_inside k q m n l = omega (arith, l, cut_is)

pub part_ranged : (C : Matrix) (p : Part) → IsSearched C → 1 ≤ p.count → part_end p ≤ total (length C.rows) (size C.field) (set_count C) → IsTruePart C p → IsPart p
unfolding found_in part_end
part_ranged C p h some inside is =
    let light = part_light C p h is in
    let few = part_inside (length C.rows) (size C.field) (set_count C) (p.start + p.count) inside in
    record {
      some = some;
      inside = few;
      nonzero = light.some;
      light = light.light;
      near = ⊎_elim (λ z. omega (arith, z)) (λ z. omega (arith, z, few)) light.near;
    }

pub line_ranged : (bytes : List ℕ) (C : Matrix) (p : Part) → IsSearched C → IsBytes (sha256 bytes) → 1 ≤ p.count → part_end p ≤ total (length C.rows) (size C.field) (set_count C) → IsTruePart C p
    → IsInRange (record { script = sha256 bytes; facts = facts_of C; part = p })
line_ranged bytes C p h small some inside is = record {
  digest = length-sha256 bytes;
  bytes = small;
  facts = facts_ranged C h;
  part = part_ranged C p h some inside is;
}
