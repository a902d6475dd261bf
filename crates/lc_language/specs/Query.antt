-- What a query on a code prints, by the answer of the search for a budget of blocks.
--   QueryKind                     the distance, or a certificate by levels or by a scan
--   certificate_of kind C w d l   the certificate of an exact answer: the code's rows, the word and its weight, and for levels the
--                                 information sets with their levels at l
--   certificate_line c            that text as a line; if it costs a checker too much, or is too long, a line that says so
--   query_line kind C budget      the line
--   distribution_line C           what WeightDistribution prints: the number of words of each weight from 0 to n
--   form_line C form x             what AlternantCertificate prints: the certificate of the form for the word x
--   near_line C x budget          what NearestWord prints: the nearest word, its distance from x, and the blocks; or the bracket
use Rattle.std.specs.Prelude.{ℕ, ◌^◌, ◌-◌, min, nat_lt, if◌then◌else◌, List, [], ◌∷◌, ◌++◌, length, codes, decimal, unwrap_or}
use Rattle.lc_algebra.specs.Matrix.{Matrix}
use Rattle.lc_algebra.specs.Divisor.{divisor_of}
use Rattle.lc_enumeration.specs.InformationSet.{InformationSet}
use Rattle.lc_enumeration.specs.Search.{Answer, no_word, exact, bracket, answer, sets_of, set_count, levels_below, word_at}
use Rattle.lc_enumeration.specs.Distribution.{distribution_of}
use Rattle.lc_enumeration.specs.NearWord.{NearAnswer, near_answer}
use Rattle.lc_formats.specs.Certificate.{Certificate, SetClaim, Proof, scan, levels, cost}
use Rattle.lc_formats.specs.Text.{line, numbers_text}
use Rattle.lc_language.specs.Print.{distance_line, bracket_line, distance_none_line}
use Rattle.lc_constructions.specs.Alternant.{AlternantForm}
use Rattle.lc_formats.specs.CertificateText.{certificate_text}
use Rattle.lc_formats.specs.Claim.{built_text, form_certificate}

pub data QueryKind : Type 0 where
  distance : QueryKind
  by_levels : QueryKind
  by_scan : QueryKind

unfoldable pub claims_at : List InformationSet → List ℕ → List SetClaim
claims_at (s ∷ sets) (w ∷ ws) = record { basis = s.basis; fresh = s.fresh; level = w } ∷ claims_at sets ws
claims_at _ _ = []

unfoldable pub proof_of : QueryKind → Matrix → ℕ → Proof
proof_of by_levels C l = levels (claims_at (sets_of C) (levels_below C l))
proof_of _ C l = scan

unfoldable pub certificate_of : QueryKind → Matrix → List ℕ → ℕ → ℕ → Certificate
certificate_of kind C w d l = record { field = C.field; rows = C.rows; word = w; distance = d; proof = proof_of kind C l }

unfoldable pub longest : ℕ
longest = 1048576

unfoldable pub no_certificate_line : List ℕ → ℕ → List ℕ
no_certificate_line why n = line (codes "certificate none " ++ why ++ codes " " ++ decimal n)

unfoldable pub certificate_line : Certificate → List ℕ
certificate_line c =
    if nat_lt (2 ^ 32) (cost c) then no_certificate_line (codes "cost") (min (cost c) (2 ^ 64 - 1)) else
    if nat_lt longest (length (line (certificate_text c))) then no_certificate_line (codes "length") (length (line (certificate_text c))) else
    line (certificate_text c)

unfoldable pub word_at_place : Matrix → ℕ → List ℕ
word_at_place C place = unwrap_or (word_at C (set_count C) place) []

unfoldable pub distance_answer_line : Matrix → Answer → List ℕ
distance_answer_line C no_word = distance_none_line
distance_answer_line C (exact found l) = distance_line found.weight (word_at_place C found.place) l
distance_answer_line C (bracket low found l) = bracket_line low found.weight (word_at_place C found.place) l

unfoldable pub certificate_answer_line : QueryKind → Matrix → Answer → List ℕ
certificate_answer_line kind C no_word = line (codes "certificate none")
certificate_answer_line kind C (exact found l) = certificate_line (certificate_of kind C (word_at_place C found.place) found.weight l)
certificate_answer_line kind C (bracket low found l) = line (codes "certificate none between " ++ decimal low ++ codes " and " ++ decimal found.weight)

unfoldable pub query_line : QueryKind → Matrix → ℕ → List ℕ
query_line distance C budget = distance_answer_line C (answer (divisor_of C) C budget)
query_line kind C budget = certificate_answer_line kind C (answer (divisor_of C) C budget)

unfoldable pub distribution_line : Matrix → List ℕ
distribution_line C = line (numbers_text (distribution_of C))

unfoldable pub form_line : Matrix → AlternantForm → List ℕ → List ℕ
form_line C form x = line (built_text (form_certificate C.field form x))

unfoldable pub near_text : NearAnswer → List ℕ
near_text a =
    if a.exact then codes "nearest " ++ numbers_text a.word ++ codes " at " ++ decimal a.weight ++ codes " blocks " ++ decimal a.blocks else
    codes "nearest between " ++ decimal a.low ++ codes " and " ++ decimal a.weight ++ codes " word " ++ numbers_text a.word ++ codes " blocks " ++ decimal a.blocks

unfoldable pub near_line : Matrix → List ℕ → ℕ → List ℕ
near_line C x budget = line (near_text (near_answer C x budget))
