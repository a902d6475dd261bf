-- Worked readings of certificates, by evaluation of the definitions: each is a certificate's JSON value, as an object of members.
--   reads_scan                 the certificate by a scan of the repetition code of length 2
--   no_object, no_version, no_field, low_distance, other_way, sets_of_scan, further_key      the rule that is broken
--   rejected_line, accepted_line      the lines of check
--   reads_levels, broken_sets, broken_rows, too_many_rows      a certificate by levels, the rules 8 to 11, 4 and 5, and the limit
use Rattle.std.proofs.Common.{◌≡◌, ℕ, refl}
use Rattle.std.specs.Prelude.{[], ◌∷◌, ◌++◌, map, codes, Some, List, replicate, Option}
use Rattle.serde_json.specs.Data.{Data, Members, no_members, member, object, array, string, null}
use Rattle.lc_algebra.specs.declared.FieldName.TheVariants.{Gf2}
use Rattle.lc_formats.specs.Certificate.{scan, shape as broken, accepted, word_weight, seen_lighter, not_json, part_refused, claim_short, levels, limit}
use Rattle.lc_formats.specs.Json.{number_json, items, numbers_json}
use Rattle.lc_formats.specs.Check.{reason_line, line_of_verdict, reads_as, refused_as, data_in}
use Rattle.lc_formats.proofs.Evaluated.{algebra_computes, certificate_computes, reading_computes}

-- the members of a certificate, its keys rising, before some further ones
abbrev pub members_with : Data → ℕ → Members → Members
members_with way d rest =
    member (codes "by") way (member (codes "distance") (number_json d) (member (codes "field") (number_json 2) (member (codes "rows") (array (items (numbers_json (1 ∷ 1 ∷ []) ∷ []))) rest)))

abbrev pub behind_rows : Members → Members
behind_rows rest = member (codes "version") (number_json 1) (member (codes "word") (numbers_json (1 ∷ 1 ∷ [])) rest)

pub reads_scan : data_in (Some (object (members_with (string (codes "scan")) 2 (behind_rows no_members)))) ≡ reads_as (record { field = Gf2; rows = (1 ∷ 1 ∷ []) ∷ []; word = 1 ∷ 1 ∷ []; distance = 2; proof = scan })
unfolding algebra_computes certificate_computes reading_computes
reads_scan = refl

pub no_object : data_in (Some null) ≡ refused_as (broken 1)
unfolding algebra_computes certificate_computes reading_computes
no_object = refl

pub no_version : data_in (Some (object no_members)) ≡ refused_as (broken 2)
unfolding algebra_computes certificate_computes reading_computes
no_version = refl

pub no_field : data_in (Some (object (member (codes "version") (number_json 1) no_members))) ≡ refused_as (broken 3)
unfolding algebra_computes certificate_computes reading_computes
no_field = refl

pub low_distance : data_in (Some (object (members_with (string (codes "scan")) 0 (behind_rows no_members)))) ≡ refused_as (broken 6)
unfolding algebra_computes certificate_computes reading_computes
low_distance = refl

pub other_way : data_in (Some (object (members_with (string (codes "x")) 2 (behind_rows no_members)))) ≡ refused_as (broken 7)
unfolding algebra_computes certificate_computes reading_computes
other_way = refl

pub sets_of_scan : data_in (Some (object (members_with (string (codes "scan")) 2 (member (codes "sets") (array (items [])) (behind_rows no_members))))) ≡ refused_as (broken 8)
unfolding algebra_computes certificate_computes reading_computes
sets_of_scan = refl

pub further_key : data_in (Some (object (member (codes "also") null (members_with (string (codes "scan")) 2 (behind_rows no_members))))) ≡ refused_as (broken 11)
unfolding algebra_computes certificate_computes reading_computes
further_key = refl

pub accepted_line : line_of_verdict 3 accepted ≡ codes "accepted distance 3" ++ 10 ∷ []
unfolding algebra_computes certificate_computes reading_computes
accepted_line = refl

pub rejected_line : map reason_line (not_json ∷ word_weight 3 ∷ seen_lighter (1 ∷ 0 ∷ 1 ∷ []) ∷ part_refused 4 1 ∷ claim_short 3 ∷ []) ≡ (codes "rejected 30" ++ 10 ∷ []) ∷ (codes "rejected 34 with 3" ++ 10 ∷ []) ∷ (codes "rejected 37 with 1 0 1" ++ 10 ∷ []) ∷ (codes "rejected 48 with 4 1" ++ 10 ∷ []) ∷ (codes "rejected 49 with 3" ++ 10 ∷ []) ∷ []
unfolding algebra_computes certificate_computes reading_computes
rejected_line = refl

-- a certificate by levels of the repetition code of length 2: its sets, and what stands behind the key `sets`
abbrev pub with_rows : Data → Data → Data → Members → Members
with_rows rows word sets rest =
    member (codes "by") (string (codes "levels")) (member (codes "distance") (number_json 2) (member (codes "field") (number_json 2) (member (codes "rows") rows (member (codes "sets") sets (member (codes "version") (number_json 1) (member (codes "word") word rest))))))

abbrev pub one_row : Data
one_row = array (items (numbers_json (1 ∷ 1 ∷ []) ∷ []))

abbrev pub set_of : List ℕ → List ℕ → Members → Data
set_of basis fresh rest = object (member (codes "basis") (numbers_json basis) (member (codes "fresh") (numbers_json fresh) (member (codes "level") (number_json 0) rest)))

abbrev pub of_sets : List Data → Option Data
of_sets sets = Some (object (with_rows one_row (numbers_json (1 ∷ 1 ∷ [])) (array (items sets)) no_members))

pub reads_levels : data_in (of_sets (set_of (0 ∷ []) (0 ∷ []) no_members ∷ set_of (1 ∷ []) (1 ∷ []) no_members ∷ [])) ≡ reads_as (record { field = Gf2; rows = (1 ∷ 1 ∷ []) ∷ []; word = 1 ∷ 1 ∷ []; distance = 2; proof = levels (record { basis = 0 ∷ []; fresh = 0 ∷ []; level = 0 } ∷ record { basis = 1 ∷ []; fresh = 1 ∷ []; level = 0 } ∷ []) })
unfolding algebra_computes certificate_computes reading_computes
reads_levels = refl

pub broken_sets : map (λ sets. data_in (of_sets sets)) ([] ∷ (null ∷ []) ∷ (set_of (1 ∷ 0 ∷ []) [] no_members ∷ []) ∷ (set_of (2 ∷ []) [] no_members ∷ []) ∷ (set_of (0 ∷ []) (1 ∷ []) no_members ∷ object no_members ∷ []) ∷ (set_of (0 ∷ []) (1 ∷ []) no_members ∷ []) ∷ (set_of (0 ∷ []) [] (member (codes "of") null no_members) ∷ []) ∷ []) ≡ map (λ rule. refused_as (broken rule)) (8 ∷ 8 ∷ 9 ∷ 9 ∷ 9 ∷ 10 ∷ 11 ∷ [])
unfolding algebra_computes certificate_computes reading_computes
broken_sets = refl

pub broken_rows : map (λ rows. data_in (Some (object (with_rows rows (numbers_json (1 ∷ 1 ∷ 1 ∷ [])) null no_members)))) (null ∷ array (items []) ∷ array (items (numbers_json [] ∷ [])) ∷ array (items (numbers_json (1 ∷ 2 ∷ []) ∷ [])) ∷ array (items (numbers_json (1 ∷ 1 ∷ []) ∷ numbers_json (1 ∷ []) ∷ [])) ∷ one_row ∷ []) ≡ map (λ rule. refused_as (broken rule)) (4 ∷ 4 ∷ 4 ∷ 4 ∷ 4 ∷ 5 ∷ [])
unfolding algebra_computes certificate_computes reading_computes
broken_rows = refl

pub too_many_rows : data_in (Some (object (with_rows (array (items (replicate 256 (numbers_json (1 ∷ 1 ∷ []))))) (numbers_json (1 ∷ 1 ∷ [])) (array (items (set_of [] [] no_members ∷ []))) no_members))) ≡ refused_as limit
unfolding algebra_computes certificate_computes reading_computes
too_many_rows = refl
