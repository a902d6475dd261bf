-- What `check` says of the certificate of a search.
--   plain_document            bytes that read as a certificate of version 1 read as that one
--   told_accepted             a valid certificate that has the shape is accepted, and so is its line
--   none_with, line_cases     the line of a certificate says that there is none, or is the text of one that can be afforded
--   printed                   the line that a query prints says none, or is accepted for the code
use Rattle.std.proofs.Common.{◌≡◌, ℕ, zero, suc, ◌-◌, ◌^◌, ◌≤◌, ◌==◌, ◌⊎◌, min, nat_lt, if◌then◌else◌, true, false, List, [], ◌++◌, length, Option, Some, None, is_some, codes, decimal, inl, inr, ⊎_elim, refl, sym, ap, subst, ◌∙◌, arith, append_assoc}
use Rattle.std.proofs.lemmas.Bool.{cases_Bool, ltb-false, false≢true}
use Rattle.std.proofs.lemmas.Bool.Decides.{nat_tests}
use Rattle.lc_algebra.specs.Word.{IsWord}
use Rattle.lc_algebra.specs.Matrix.{Matrix}
use Rattle.lc_algebra.specs.Divisor.{divisor_of}
use Rattle.lc_enumeration.specs.Search.{Found, Answer, no_word, exact, bracket, answer}
use Rattle.lc_algebra.proofs.WordLaws.{weight_at_most_length}
use Rattle.lc_infoset.specs.Kept.{IsKept, set_states}
use Rattle.lc_infoset.proofs.KeptLaws.{dimension_few, count_few}
use Rattle.lc_infoset.proofs.AnswerLaws.{some_set}
use Rattle.lc_formats.specs.Certificate.{Certificate, cost, verdict, accepted, IsValid}
use Rattle.lc_formats.specs.CertificateText.{certificate_json, certificate_text}
use Rattle.lc_formats.specs.Text.{line}
use Rattle.lc_formats.specs.Shape.{IsShaped}
use Rattle.serde_json.specs.Data.{Data, Members}
use Rattle.serde_json.specs.Find.{as_object}
use Rattle.lc_formats.specs.Json.{provided, number_at, json_in}
use Rattle.lc_formats.specs.Check.{reads_as, certificate_in, data_in, object_in, is_version, line_of_verdict, verdict_line}
use Rattle.lc_formats.specs.Claim.{plain}
use Rattle.lc_formats.specs.Document.{document, document_in, document_of, either_version, plain_read, IsCheckLine, IsCheckText}
use Rattle.lc_formats.proofs.VerdictLaws.{valid_is_accepted}
use Rattle.lc_formats.proofs.CertificateBack.{certificate_plain, certificate_back}
use Rattle.lc_language.specs.Query.{QueryKind, longest, certificate_of, no_certificate_line, certificate_line, certificate_answer_line, word_at_place}
use Rattle.lc_certify.specs.Accepted.{IsSearchable, IsExactAt, SaysNone, IsAcceptedFor}
use Rattle.lc_certify.proofs.NewlineLaws.{json_before_newline}
use Rattle.lc_certify.proofs.ShapeLaws.{IsSearched, has_shape}
use Rattle.lc_certify.proofs.ValidLaws.{valid_at, code_distance, exact_at}

pub line_reads : (c : Certificate) → IsShaped c → certificate_in (line (certificate_text c)) ≡ reads_as c
unfolding certificate_in line certificate_text
line_reads c h = ap data_in (json_before_newline (certificate_json c) (certificate_plain c h)) ∙ certificate_back c h

-- a number is not both versions
apart : (o : Option ℕ) → is_some (provided (λ v. v == 1) o) ≡ true → is_some (provided (λ v. v == 2) o) ≡ false
unfolding provided
apart None h = absurd (false≢true h)
apart (Some zero) h = absurd (false≢true h)
apart (Some (suc zero)) h = refl
apart (Some (suc (suc n))) h =
    let t : (suc (suc n) == 1) ≡ false = grind (arith, nat_tests) in
    absurd (let f = rw t at h in false≢true f)

object_plain : (d : Data) (o : Option Members) (c : Certificate) → as_object d ≡ o → object_in o ≡ reads_as c → either_version d o ≡ document (plain c)
unfolding either_version object_in data_in plain_read is_version
object_plain d None c e h = absurd cc
object_plain d (Some ms) c e h =
    ⊎_elim
    (λ (t : is_version 1 ms ≡ true). rw (apart (number_at (codes "version") ms) t, e, h) refl)
    (λ (t : is_version 1 ms ≡ false). absurd (let f = rw t at h in cc))
    (cases_Bool (is_version 1 ms))

data_plain : (o : Option Data) (c : Certificate) → data_in o ≡ reads_as c → document_of o ≡ document (plain c)
unfolding document_of data_in
data_plain None c h = absurd cc
data_plain (Some d) c h = object_plain d (as_object d) c refl h

pub plain_document : (bytes : List ℕ) (c : Certificate) → certificate_in bytes ≡ reads_as c → document_in bytes ≡ document (plain c)
unfolding certificate_in document_in
plain_document bytes c h = data_plain (json_in bytes) c h

told : (bytes : List ℕ) (c : Certificate) → certificate_in bytes ≡ reads_as c → verdict c ≡ accepted → IsCheckText bytes (line (codes "accepted distance " ++ decimal c.distance))
unfolding line_of_verdict verdict_line
told bytes c reads v = subst (λ r. IsCheckLine r (line (codes "accepted distance " ++ decimal c.distance))) (sym (plain_document bytes c reads)) (sym (ap (line_of_verdict c.distance) v))

pub told_accepted : (c : Certificate) → IsShaped c → IsValid c → IsCheckText (line (certificate_text c)) (line (codes "accepted distance " ++ decimal c.distance))
told_accepted c h v = told (line (certificate_text c)) c (line_reads c h) (valid_is_accepted c h v)

none_with : (why : List ℕ) (n : ℕ) → SaysNone (no_certificate_line why n)
unfolding no_certificate_line
none_with why n =
    let after = codes " " ++ (why ++ (codes " " ++ decimal n)) in
    let e : codes "certificate none " ++ why ++ codes " " ++ decimal n ≡ codes "certificate none" ++ after = simp append_assoc in
    record { why = after; line_is = ap line e }

pub line_cases : (c : Certificate) → SaysNone (certificate_line c) ⊎ ((cost c ≤ 2 ^ 32) × (certificate_line c ≡ line (certificate_text c)))
unfolding certificate_line
line_cases c =
    let text = line (certificate_text c) in
    let costly = no_certificate_line (codes "cost") (min (cost c) (2 ^ 64 - 1)) in
    let long = no_certificate_line (codes "length") (length text) in
    let inner = if nat_lt longest (length text) then long else text in
    ⊎_elim
    (λ t. inl (subst (λ b. SaysNone (if b then costly else inner)) (sym t) (none_with (codes "cost") (min (cost c) (2 ^ 64 - 1)))))
    (λ t. ⊎_elim
    (λ s. inl (subst (λ b. SaysNone (if b then costly else inner)) (sym t) (subst (λ b. SaysNone (if b then long else text)) (sym s) (none_with (codes "length") (length text)))))
    (λ s. inr (ltb-false (2 ^ 32) (cost c) t, ap (λ b. if b then costly else inner) t ∙ ap (λ b. if b then long else text) s))
    (cases_Bool (nat_lt longest (length text))))
    (cases_Bool (nat_lt (2 ^ 32) (cost c)))

accepted_at : (kind : QueryKind) (C : Matrix) (w : List ℕ) (d l : ℕ) → IsSearchable C → IsShaped (certificate_of kind C w d l) → IsWord C.field C.columns w → IsExactAt C w d l → SaysNone (certificate_line (certificate_of kind C w d l)) ⊎ IsAcceptedFor C (certificate_line (certificate_of kind C w d l))
unfolding certificate_of
accepted_at kind C w d l h shaped word x =
    let c = certificate_of kind C w d l in
    ⊎_elim
    (λ t. inl t)
    (λ t. inr (record {
      distance = d;
      least = code_distance C w d l h x;
      accepted = subst (λ l. IsCheckText l (line (codes "accepted distance " ++ decimal d))) (sym t.1) (told_accepted c shaped (valid_at kind C w d l h word x t.0));
    }))
    (line_cases c)

searched : (C : Matrix) → IsSearchable C → IsSearched C
searched C h =
    let kept : IsKept C (divisor_of C) (set_states C) = record { symbol = h.symbol; least = h.some_columns; most = h.few_columns; some = omega (arith, h.some_rows); words = h.words; independent = h.independent; divisor = refl; sets = refl } in
    record {
      symbol = h.symbol;
      some_columns = h.some_columns;
      few_columns = h.few_columns;
      some_rows = h.some_rows;
      few_rows = dimension_few C (divisor_of C) (set_states C) kept;
      words = h.words;
      some_sets = omega (arith, some_set C);
      few_sets = count_few C (divisor_of C) (set_states C) kept;
    }

distance_some : (C : Matrix) (w : List ℕ) (d l : ℕ) → IsSearchable C → IsExactAt C w d l → 1 ≤ d
distance_some C w d l h x =
    let t = code_distance C w d l h x in
    omega (arith, t.attained.2, t.attained.3)

-- a word whose weight is that of an exact answer has the shape's distance
pub shaped_at : (kind : QueryKind) (C : Matrix) (w : List ℕ) (d l : ℕ) → IsSearchable C → IsWord C.field C.columns w → IsExactAt C w d l → IsShaped (certificate_of kind C w d l)
shaped_at kind C w d l h word x =
    let s = searched C h in
    has_shape kind C w d l s word
    (distance_some C w d l h x)
    (omega (arith, x.weighs, weight_at_most_length w, word.long, s.few_columns))

pub exact_line_at : (kind : QueryKind) (C : Matrix) (w : List ℕ) (d l : ℕ) → IsSearchable C → IsWord C.field C.columns w → IsExactAt C w d l → SaysNone (certificate_line (certificate_of kind C w d l)) ⊎ IsAcceptedFor C (certificate_line (certificate_of kind C w d l))
exact_line_at kind C w d l h word x = accepted_at kind C w d l h (shaped_at kind C w d l h word x) word x

bracket_none : (kind : QueryKind) (C : Matrix) (low l : ℕ) (x : Found) → SaysNone (certificate_answer_line kind C (bracket low x l))
unfolding certificate_answer_line
bracket_none kind C low l x =
    let why = codes " between " ++ (decimal low ++ (codes " and " ++ decimal x.weight)) in
    let e : codes "certificate none between " ++ decimal low ++ codes " and " ++ decimal x.weight ≡ codes "certificate none" ++ why = simp append_assoc in
    record { why = why; line_is = ap line e }

pub empty_none : (kind : QueryKind) (C : Matrix) → SaysNone (certificate_answer_line kind C no_word)
unfolding certificate_answer_line
empty_none kind C = record { why = []; line_is = refl }

answered : (kind : QueryKind) (C : Matrix) (budget : ℕ) (a : Answer) → IsSearchable C → answer (divisor_of C) C budget ≡ a → SaysNone (certificate_answer_line kind C a) ⊎ IsAcceptedFor C (certificate_answer_line kind C a)
unfolding certificate_answer_line
answered kind C budget no_word h e = inl (empty_none kind C)
answered kind C budget (bracket low x l) h e = inl (bracket_none kind C low l x)
answered kind C budget (exact x l) h e =
    let t = exact_at C budget l x h e in
    exact_line_at kind C (word_at_place C x.place) x.weight l h t.1 t.0

pub printed : (kind : QueryKind) (C : Matrix) (budget : ℕ) → IsSearchable C → SaysNone (certificate_answer_line kind C (answer (divisor_of C) C budget)) ⊎ IsAcceptedFor C (certificate_answer_line kind C (answer (divisor_of C) C budget))
printed kind C budget h = answered kind C budget (answer (divisor_of C) C budget) h refl
