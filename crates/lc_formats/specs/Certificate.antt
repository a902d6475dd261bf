-- Certificates of a minimum distance, and what a checker says of one.
--   SetClaim                 an information set, its fresh columns, and the level up to which all its messages were seen
--   Proof                    by a scan of all words, or by levels of information sets
--   Certificate              a field, rows of one length, a word, a distance and how it is proved
--   Reason                   why a certificate is refused; reason_number gives its number, reason_values what it carries
--   Verdict                  accepted, or rejected for a reason
--   code_dimension c         the dimension k of the span of the rows
--   level_in c claim         the stated level, and k where it is above k
--   cost c                   by levels the number of messages of all levels of all sets, though the checker may look at more words
--                            for a level of k; by scan q ^ k over q elements
--   seen_words c             the words of the messages: by levels those of each set in order, level by level; by scan those over
--                            the echelon rows, level by level, of which there are (q ^ k - 1) / (q - 1)
--   first_lighter c          the first nonzero one of them that is lighter than the distance
--   span_divisor c           the divisor of the weights of the span of the rows
--   claimed_sum c claims     the rounded sum, which is the bound that the levels give: the least multiple of the divisor that is at
--                            least 1 and at least the sum of level + 1 - (k - fresh columns)
--   first_dependent c number claims    the number, counted from `number`, of the first basis that is no information set
--   least_overlap c claims   the least coordinate that is fresh in two sets
--   verdict c                accepted, or the first reason in the checker's order
--   IsValid c                the certificate proves its distance: what accepted says, each fact by itself
use Rattle.std.specs.Prelude.{◌≡◌, ℕ, suc, ◌-◌, ◌^◌, ◌<◌, ◌≤◌, ◌⊎◌, min, max, Bool, not, nat_le, nat_lt, ◌==◌, ◌&&◌, ◌||◌, if◌then◌else◌, List, [], ◌∷◌, length, map, find, flat_map, sum, count_by, Option, Some, None, All, AllPairs, Any, Contains, ⊤}
use Rattle.lc_algebra.specs.declared.FieldName.{FieldName}
use Rattle.lc_algebra.specs.Field.{size}
use Rattle.lc_algebra.specs.Word.{weight}
use Rattle.lc_algebra.specs.Span.{InSpan, combine, below}
use Rattle.lc_algebra.specs.Matrix.{column, AreIndependentColumns}
use Rattle.lc_algebra.specs.Divisor.{weight_divisor, rounded}
use Rattle.lc_enumeration.specs.Message.{messages, message_count, vector_of, numbers_from}
use Rattle.lc_enumeration.specs.InformationSet.{in_span, greedy, dimension, is_member, systematic, echelon_rows}
use Rattle.lc_enumeration.specs.Search.{bound_sum}

pub record SetClaim : Type 0 where
  pub basis : List ℕ
  pub fresh : List ℕ
  pub level : ℕ

pub data Proof : Type 0 where
  scan : Proof
  levels : List SetClaim → Proof

pub record Certificate : Type 0 where
  pub field : FieldName
  pub rows : List (List ℕ)
  pub word : List ℕ
  pub distance : ℕ
  pub proof : Proof

pub data Reason : Type 0 where
  not_json : Reason
  shape : ℕ → Reason
  limit : Reason
  word_not_in_code : Reason
  word_weight : ℕ → Reason
  set_not_information : ℕ → Reason
  fresh_overlap : ℕ → Reason
  seen_lighter : List ℕ → Reason
  bound_short : ℕ → Reason
  too_costly : ℕ → Reason
  part_refused : ℕ → ℕ → Reason
  claim_short : ℕ → Reason

unfoldable pub reason_number : Reason → ℕ
reason_number not_json = 30
reason_number (shape _) = 31
reason_number limit = 32
reason_number word_not_in_code = 33
reason_number (word_weight _) = 34
reason_number (set_not_information _) = 35
reason_number (fresh_overlap _) = 36
reason_number (seen_lighter _) = 37
reason_number (bound_short _) = 38
reason_number (too_costly _) = 39
reason_number (part_refused _ _) = 48
reason_number (claim_short _) = 49

unfoldable pub reason_values : Reason → List ℕ
reason_values not_json = []
reason_values (shape rule) = rule ∷ []
reason_values limit = []
reason_values word_not_in_code = []
reason_values (word_weight w) = w ∷ []
reason_values (set_not_information j) = j ∷ []
reason_values (fresh_overlap c) = c ∷ []
reason_values (seen_lighter w) = w
reason_values (bound_short s) = s ∷ []
reason_values (too_costly n) = n ∷ []
reason_values (part_refused claim refusal) = claim ∷ refusal ∷ []
reason_values (claim_short b) = b ∷ []

pub data Verdict : Type 0 where
  accepted : Verdict
  rejected : Reason → Verdict

unfoldable pub code_length : Certificate → ℕ
code_length c = length c.word

unfoldable pub code_dimension : Certificate → ℕ
code_dimension c = dimension c.field (code_length c) c.rows

unfoldable pub level_in : Certificate → SetClaim → ℕ
level_in c claim = min claim.level (code_dimension c)

-- how many messages the levels 1 to w have
unfoldable pub messages_through : ℕ → ℕ → ℕ → ℕ
messages_through k q w = sum (map (message_count k q) (numbers_from 1 w))

unfoldable pub cost_of : Certificate → Proof → ℕ
cost_of c scan = size c.field ^ code_dimension c
cost_of c (levels claims) = sum (map (λ claim. messages_through (code_dimension c) (size c.field) (level_in c claim)) claims)

unfoldable pub cost : Certificate → ℕ
cost c = cost_of c c.proof

-- the words of all messages of the levels 1 to w over a generator matrix of k rows
unfoldable pub words_through : FieldName → ℕ → List (List ℕ) → ℕ → ℕ → List (List ℕ)
words_through f n rows k w = flat_map (λ level. map (λ m. combine f n (vector_of k m) rows) (messages k (size f) level)) (numbers_from 1 w)

unfoldable pub seen_by : Certificate → Proof → List (List ℕ)
seen_by c scan = words_through c.field (code_length c) (echelon_rows c.field (code_length c) c.rows) (code_dimension c) (code_dimension c)
seen_by c (levels claims) = flat_map (λ claim. words_through c.field (code_length c) (systematic c.field (code_length c) c.rows claim.basis) (code_dimension c) (level_in c claim)) claims

unfoldable pub seen_words : Certificate → List (List ℕ)
seen_words c = seen_by c c.proof

unfoldable pub is_lighter : ℕ → List ℕ → Bool
is_lighter d w = nat_lt 0 (weight w) && nat_lt (weight w) d

unfoldable pub first_lighter : Certificate → Option (List ℕ)
first_lighter c = find (is_lighter c.distance) (seen_words c)

unfoldable pub span_divisor : Certificate → ℕ
span_divisor c = weight_divisor c.field (code_length c) c.rows

unfoldable pub claimed_sum : Certificate → List SetClaim → ℕ
claimed_sum c claims = rounded (span_divisor c) (max 1 (bound_sum (code_dimension c) (map (λ claim. length claim.fresh) claims) (map (level_in c) claims)))

unfoldable pub is_information_set : Certificate → List ℕ → Bool
is_information_set c basis = (length basis == code_dimension c) && (length (greedy c.field (length c.rows) (column c.rows) [] basis) == length basis)

unfoldable pub first_dependent : Certificate → ℕ → List SetClaim → Option ℕ
first_dependent c number [] = None
first_dependent c number (claim ∷ claims) = (if is_information_set c claim.basis then first_dependent c (suc number) claims else Some number)

unfoldable pub least_overlap : Certificate → List SetClaim → Option ℕ
least_overlap c claims = find (λ place. nat_lt 1 (count_by (λ claim. is_member claim.fresh place) claims)) (below (code_length c))

unfoldable pub reaches : Certificate → List SetClaim → Bool
reaches c claims = is_member (map (level_in c) claims) (code_dimension c) || nat_le c.distance (claimed_sum c claims)

unfoldable pub or_else : Option Reason → Verdict → Verdict
or_else None later = later
or_else (Some reason) later = rejected reason

unfoldable pub when : Bool → Reason → Option Reason
when applies reason = (if applies then Some reason else None)

unfoldable pub carrying : {X : Type 0} → (X → Reason) → Option X → Option Reason
carrying reason None = None
carrying reason (Some x) = Some (reason x)

unfoldable pub set_reasons : Certificate → Proof → Verdict → Verdict
set_reasons c scan later = later
set_reasons c (levels claims) later =
    or_else (carrying set_not_information (first_dependent c 1 claims))
    (or_else (carrying fresh_overlap (least_overlap c claims))
    (or_else (when (not (reaches c claims)) (bound_short (claimed_sum c claims))) later))

-- a cost above 2^32 is refused; it is told as at most the greatest number of 64 bits
unfoldable pub cost_reason : ℕ → Option Reason
cost_reason n = when (nat_lt (2 ^ 32) n) (too_costly (min n (2 ^ 64 - 1)))

unfoldable pub verdict : Certificate → Verdict
verdict c =
    or_else (cost_reason (cost c))
    (or_else (when (not (in_span c.field (code_length c) c.rows c.word)) word_not_in_code)
    (or_else (when (not (weight c.word == c.distance)) (word_weight (weight c.word)))
    (set_reasons c c.proof (or_else (carrying seen_lighter (first_lighter c)) accepted))))

-- every basis is an information set, no coordinate is fresh in two sets, and the levels reach the distance
abbrev pub SetsHold : Certificate → Proof → Type 0
SetsHold c scan = ⊤
SetsHold c (levels claims) =
    All (λ claim. (length claim.basis ≡ code_dimension c) × AreIndependentColumns c.field c.rows claim.basis) claims
    × AllPairs (λ one other. (place : ℕ) → Contains one.fresh place → ¬ Contains other.fresh place) claims
    × (Any (λ claim. code_dimension c ≤ claim.level) claims ⊎ (c.distance ≤ claimed_sum c claims))

pub record IsValid (c : Certificate) : Type 0 where
  pub affordable : cost c ≤ 2 ^ 32
  pub inside : InSpan c.field (code_length c) c.rows c.word
  pub attains : weight c.word ≡ c.distance
  pub seen : All (λ w. 0 < weight w → c.distance ≤ weight w) (seen_words c)
  pub sets : SetsHold c c.proof
