-- The code and the bound that a claim defines, or which claim of its tree is refused, and what a checker says of a certificate by
-- construction. Claims are numbered from 0: a claim before its parts, the left one before the right one, the outer one before the
-- inner one. Each claim is tried after its parts.
--   capped b                 a bound; above 256 it counts as 256
--   Outcome                  a code with its bound, or the number of the claim that is refused and its refusal
--   HasOwn number refusal f n P b o      a claim tried after its parts: refused; or the code of the words of length n that meet P,
--                            with the bound b
--   Follows part next o      the outcome of a part that is refused is that of the whole; else it is said by next
--   search_refusal c         the number of the first reason for which a certificate is rejected
--   form_refusal f locator points multipliers r      1 where no field has the locator's size, else the first refusal of the
--                            alternant code; an r of 0 isn't refused
--   subcode_refusal C rows   12 where a row has another length than the code's, else 33 where one isn't in the code
--   pair_refusals, pair_length, InPair, pair_bound      the refusals, the length, the words and the bound of a pair
--   place_bound kind b n, extended_bound f b      those of codes punctured, shortened and extended
--   HasOutcome f number claim o      what comes of the claim over the field, whose number this is
--   Denotes f claim C b      the claim defines the code C with the bound b
--   IsValidTree b            its claim defines a code, the word is in it with the weight, and the bound is at least the distance
--   tree_reasons b C bound   the first reason against it, once its claim defines a code
--   IsTreeVerdict b v        what a checker says of it
--   not_attained C form x    the weight of x and r + 1, if x isn't a word of the code that has this weight
use Rattle.std.specs.Prelude.{◌≡◌, ℕ, suc, ◌+◌, ◌-◌, ◌*◌, ◌≤◌, min, max, Bool, not, nat_lt, ◌==◌, ◌&&◌, if◌then◌else◌, List, length, find, Option, Some, None, option_map, unwrap_or}
use Rattle.std.specs.List.{list_all}
use Rattle.lc_algebra.specs.declared.FieldName.{FieldName}
use Rattle.lc_algebra.specs.Field.{size}
use Rattle.lc_algebra.specs.Word.{weight}
use Rattle.lc_algebra.specs.Span.{InSpan}
use Rattle.lc_algebra.specs.Matrix.{Matrix}
use Rattle.lc_algebra.specs.Divisor.{rounded}
use Rattle.lc_constructions.specs.declared.refusal.CodeRefusal.{CodeRefusal}
use Rattle.lc_constructions.specs.Code.{InCode, IsCode}
use Rattle.lc_constructions.specs.Alternant.{AlternantForm, IsAlternantWord}
use Rattle.lc_constructions.specs.Combined.{InUuv, InDirectSum, InDirectProduct, InPunctured, InShortened, InExtended}
use Rattle.lc_constructions.specs.Concatenated.{InConcatenated}
use Rattle.lc_constructions.specs.Cyclic.{all_fields}
use Rattle.lc_constructions.specs.Refusal.{refusal_number, first_refusal}
use Rattle.lc_constructions.specs.Refusals.{form_refusals, uuv_refusals, direct_sum_refusals, direct_product_refusals, concatenated_refusals, deleted_refusals, extended_refusals}
use Rattle.lc_enumeration.specs.InformationSet.{in_span}
use Rattle.lc_formats.specs.Certificate.{Certificate, Verdict, accepted, rejected, reason_number, verdict, code_length, or_else, when, word_not_in_code, word_weight, part_refused, claim_short}
use Rattle.lc_formats.specs.Claim.{PairKind, uuv, direct_sum, product, PlaceKind, puncture, shorten, Claim, search, alternant, pair, concat, subcode, at_places, extend, Built, claim_total}

unfoldable pub capped : ℕ → ℕ
capped b = min b 256

pub data Outcome : Type 0 where
  code_with : Matrix → ℕ → Outcome
  refused_at : ℕ → ℕ → Outcome

abbrev pub HasOwn : ℕ → Option ℕ → FieldName → ℕ → (List ℕ → Type 0) → ℕ → Outcome → Type 0
HasOwn number None f n P b o = (C : Matrix) × IsCode f n P C × (o ≡ code_with C (capped b))
HasOwn number (Some refusal) f n P b o = o ≡ refused_at number refusal

abbrev pub Follows : Outcome → (Matrix → ℕ → Outcome → Type 0) → Outcome → Type 0
Follows (code_with C b) next o = next C b o
Follows (refused_at number refusal) next o = o ≡ refused_at number refusal

unfoldable pub refusal_of_verdict : Verdict → Option ℕ
refusal_of_verdict accepted = None
refusal_of_verdict (rejected r) = Some (reason_number r)

unfoldable pub search_refusal : Certificate → Option ℕ
search_refusal c = refusal_of_verdict (verdict c)

unfoldable pub first_number : List (Option CodeRefusal) → Option ℕ
first_number refusals = option_map refusal_number (first_refusal refusals)

unfoldable pub field_of_size : ℕ → Option FieldName
field_of_size q = find (λ f. size f == q) all_fields

unfoldable pub form_refusal_in : FieldName → Option FieldName → List ℕ → List ℕ → ℕ → Option ℕ
form_refusal_in f None points multipliers r = Some 1
form_refusal_in f (Some K) points multipliers r = first_number (form_refusals f K (nat_lt (length points) r) points multipliers)

unfoldable pub form_refusal : FieldName → ℕ → List ℕ → List ℕ → ℕ → Option ℕ
form_refusal f locator points multipliers r = form_refusal_in f (field_of_size locator) points multipliers r

-- the form of an alternant claim; where no field has the locator's size, the claim is refused and its form doesn't matter
unfoldable pub form_of : FieldName → ℕ → List ℕ → List ℕ → ℕ → AlternantForm
form_of f locator points multipliers r = record { locator = unwrap_or (field_of_size locator) f; points = points; multipliers = multipliers; r = r }

unfoldable pub in_code : Matrix → List ℕ → Bool
in_code C w = in_span C.field C.columns C.rows w

unfoldable pub subcode_refusal : Matrix → List (List ℕ) → Option ℕ
subcode_refusal C rows =
    if not (list_all (λ row. length row == C.columns) rows) then Some 12 else
    if not (list_all (in_code C) rows) then Some 33 else None

unfoldable pub pair_refusals : PairKind → Matrix → Matrix → List (Option CodeRefusal)
pair_refusals uuv C D = uuv_refusals C D
pair_refusals direct_sum C D = direct_sum_refusals C D
pair_refusals product C D = direct_product_refusals C D

unfoldable pub pair_length : PairKind → Matrix → Matrix → ℕ
pair_length uuv C D = C.columns + D.columns
pair_length direct_sum C D = C.columns + D.columns
pair_length product C D = C.columns * D.columns

abbrev pub InPair : PairKind → Matrix → Matrix → List ℕ → Type 0
InPair uuv C D w = InUuv C D w
InPair direct_sum C D w = InDirectSum C D w
InPair product C D w = InDirectProduct C D w

unfoldable pub pair_bound : PairKind → ℕ → ℕ → ℕ
pair_bound uuv a b = min (2 * a) b
pair_bound direct_sum a b = min a b
pair_bound product a b = a * b

abbrev pub InPlaced : PlaceKind → Matrix → List ℕ → List ℕ → Type 0
InPlaced puncture C places w = InPunctured C places w
InPlaced shorten C places w = InShortened C places w

unfoldable pub place_bound : PlaceKind → ℕ → ℕ → ℕ
place_bound puncture b n = max 1 (b - n)
place_bound shorten b n = b

-- over two elements each word of an extended code has even weight
unfoldable pub extended_bound : FieldName → ℕ → ℕ
extended_bound f b = (if size f == 2 then rounded 2 b else b)

abbrev pub HasOutcome : FieldName → ℕ → Claim → Outcome → Type 0
HasOutcome f number (search c) o = HasOwn number (search_refusal c) f (code_length c) (InSpan f (code_length c) c.rows) c.distance o
HasOutcome f number (alternant locator points multipliers r) o =
    HasOwn number (form_refusal f locator points multipliers r) f (length points) (IsAlternantWord f (form_of f locator points multipliers r)) (r + 1) o
HasOutcome f number (pair kind left right) o =
    (one : Outcome) × HasOutcome f (suc number) left one × Follows one (λ C a later.
    (two : Outcome) × HasOutcome f (suc number + claim_total left) right two × Follows two (λ D b last.
    HasOwn number (first_number (pair_refusals kind C D)) f (pair_length kind C D) (InPair kind C D) (pair_bound kind a b) last) later) o
HasOutcome f number (concat large outer inner) o =
    (one : Outcome) × HasOutcome (unwrap_or (field_of_size large) f) (suc number) outer one × Follows one (λ C a later.
    (two : Outcome) × HasOutcome f (suc number + claim_total outer) inner two × Follows two (λ D b last.
    HasOwn number (first_number (concatenated_refusals C D)) f (C.columns * D.columns) (InConcatenated C D) (a * b) last) later) o
HasOutcome f number (subcode of rows) o =
    (one : Outcome) × HasOutcome f (suc number) of one × Follows one (λ C a last.
    HasOwn number (subcode_refusal C rows) f C.columns (InSpan f C.columns rows) a last) o
HasOutcome f number (at_places kind of places) o =
    (one : Outcome) × HasOutcome f (suc number) of one × Follows one (λ C a last.
    HasOwn number (first_number (deleted_refusals C places)) f (C.columns - length places) (InPlaced kind C places) (place_bound kind a (length places)) last) o
HasOutcome f number (extend of) o =
    (one : Outcome) × HasOutcome f (suc number) of one × Follows one (λ C a last.
    HasOwn number (first_number (extended_refusals C)) f (C.columns + 1) (InExtended C) (extended_bound f a) last) o

abbrev pub Denotes : FieldName → Claim → Matrix → ℕ → Type 0
Denotes f claim C b = HasOutcome f 0 claim (code_with C b)

pub record IsValidTree (b : Built) : Type 0 where
  pub code : Matrix
  pub bound : ℕ
  pub denotes : Denotes b.field b.claim code bound
  pub inside : InCode code b.word
  pub attains : weight b.word ≡ b.distance
  pub reaches : b.distance ≤ bound

unfoldable pub tree_reasons : Built → Matrix → ℕ → Verdict
tree_reasons b C bound =
    or_else (when (not (in_code C b.word)) word_not_in_code)
    (or_else (when (not (weight b.word == b.distance)) (word_weight (weight b.word)))
    (or_else (when (nat_lt bound b.distance) (claim_short bound)) accepted))

unfoldable pub verdict_after : Built → Outcome → Verdict
verdict_after b (code_with C bound) = tree_reasons b C bound
verdict_after b (refused_at number refusal) = rejected (part_refused number refusal)

abbrev pub IsTreeVerdict : Built → Verdict → Type 0
IsTreeVerdict b v = (o : Outcome) × HasOutcome b.field 0 b.claim o × (v ≡ verdict_after b o)

unfoldable pub not_attained : Matrix → AlternantForm → List ℕ → Option (ℕ × ℕ)
not_attained C form x = (if in_code C x && (weight x == form.r + 1) then None else Some (weight x, form.r + 1))
