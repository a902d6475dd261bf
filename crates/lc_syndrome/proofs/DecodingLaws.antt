-- A word less a leader, symbol by symbol.
--   same_rest                the difference stays if one symbol is taken from both
--   IsRest H number t rest old word      of the leader whose syndrome has the number, all but a leader with the syndrome `rest` is
--                            taken from the old word, which gives the word; at least t symbols are
--   rest_start, rest_more    at the start, and after one more symbol
--   rest_empty, rest_done    what is left is 0: where the table has no symbol, and after as many symbols as a word has
--   rest_below, ..           where the table is read
use Rattle.std.proofs.Common.{◌≡◌, ℕ, ◌+◌, ◌<◌, ◌≤◌, List, length, set, slice_index, ◌≢◌, sym, ap, ap₂, subst, ◌∙◌, arith}
use Rattle.lc_algebra.specs.declared.FieldName.{FieldName}
use Rattle.lc_algebra.specs.Field.{size, add, neg}
use Rattle.lc_algebra.specs.Word.{IsWord, zero_word, word_sum, scale, difference, weight}
use Rattle.lc_algebra.specs.Matrix.{Matrix}
use Rattle.lc_algebra.proofs.WordLaws.{scale_sum, sum_exchange, sum_negative, sum_zero, IsWord_difference, IsWord_zero, difference_zero, word_symbol, weight_at_most_length, zero_from_weight}
use Rattle.lc_algebra.proofs.FieldLaws.{add_inside}
use Rattle.lc_syndrome.specs.Syndrome.{syndrome_number, coset_count, sum_number, unit}
use Rattle.lc_syndrome.specs.Leading.{Leads, IsStep}
use Rattle.lc_syndrome.specs.Growth.{IsSteps}
use Rattle.lc_syndrome.proofs.SyndromeLaws.{syndrome_below}
use Rattle.lc_syndrome.proofs.SymbolLaws.{long_changed, word_changed, changed, taken, symbol_inside, weight_taken}
use Rattle.lc_syndrome.proofs.LeadLaws.{leads_once, syndrome_taken, part_leads}
use Rattle.lc_syndrome.proofs.LevelLaws.{zero_from_start}

difference_of_sums : (f : FieldName) (n : ℕ) (x y u : List ℕ) → length x ≡ n → length y ≡ n → length u ≡ n → difference f (word_sum f x u) (word_sum f y u) ≡ difference f x y
unfolding difference
difference_of_sums f n x y u a b c =
    let m = neg f 1 in
    let s : word_sum f (word_sum f x u) (scale f m (word_sum f y u)) ≡ word_sum f (word_sum f x (scale f m y)) (word_sum f u (scale f m u)) =
    ap (word_sum f (word_sum f x u)) (scale_sum f m y u) ∙ sum_exchange f x u (scale f m y) (scale f m u) in
    s ∙ ap (word_sum f (word_sum f x (scale f m y))) (sum_negative f n u c) ∙ sum_zero f n (word_sum f x (scale f m y)) (IsWord_difference f n x y a b)

pub same_rest : (f : FieldName) (n i c : ℕ) (x e : List ℕ) → IsWord f n x → IsWord f n e → i < n → slice_index e i ≡ c → difference f (set x i (add f (slice_index x i) (neg f c))) (set e i 0) ≡ difference f x e
same_rest f n i c x e a b l q =
    let u = unit n i (neg f c) in
    ap₂ (difference f) (changed f n i (neg f c) x a l) (taken f n i c e b l q) ∙ difference_of_sums f n x e u a.long b.long (long_changed f n i (neg f c) (zero_word n) (IsWord_zero f n))

pub record IsRest (H : Matrix) (number t rest : ℕ) (old word : List ℕ) : Type 0 where
  pub fits : IsWord H.field H.columns word
  pub leader : (e : List ℕ) × Leads H e × (syndrome_number H e ≡ rest) × (weight e + t ≤ H.columns)
  pub same : (d : List ℕ) → Leads H d → syndrome_number H d ≡ number → difference H.field old d ≡ difference H.field word leader.0

pub rest_start : (H : Matrix) (number : ℕ) (word : List ℕ) → ((e : List ℕ) × Leads H e × (syndrome_number H e ≡ number)) → IsWord H.field H.columns word → IsRest H number 0 number word word
rest_start H number word l w =
    let (e, h, s) = l in
    record {
      fits = w;
      leader = (e, h, s, omega (arith, weight_at_most_length e, h.word.long));
      same = λ d k q. ap (difference H.field word) (leads_once H d e k h (q ∙ sym s));
    }

pub rest_below : (H : Matrix) (number t rest : ℕ) (old word : List ℕ) → IsRest H number t rest old word → rest < coset_count H
rest_below H number t rest old word r = subst (λ a. a < coset_count H) r.leader.2 (syndrome_below H r.leader.0)

step_of : (H : Matrix) (rest : ℕ) (coordinates symbols e : List ℕ) → IsSteps H coordinates symbols → Leads H e → syndrome_number H e ≡ rest → IsStep H (slice_index coordinates rest) (slice_index symbols rest) e
step_of H rest coordinates symbols e steps h s = subst (λ a. IsStep H (slice_index coordinates a) (slice_index symbols a) e) s (steps.steps e h)

pub rest_coordinate : (H : Matrix) (number t rest : ℕ) (old word coordinates symbols : List ℕ) → IsSteps H coordinates symbols → IsRest H number t rest old word → slice_index symbols rest ≢ 0 → slice_index coordinates rest < H.columns
rest_coordinate H number t rest old word coordinates symbols steps r n =
    let (e, h, s, l) = r.leader in
    let step : IsStep H (slice_index coordinates rest) (slice_index symbols rest) e = step_of H rest coordinates symbols e steps h s in
    omega (arith, symbol_inside (slice_index coordinates rest) e (omega (arith, step.symbol, n)), h.word.long)

pub rest_symbol : (H : Matrix) (number t rest : ℕ) (old word coordinates symbols : List ℕ) → IsSteps H coordinates symbols → IsRest H number t rest old word → slice_index symbols rest < size H.field
rest_symbol H number t rest old word coordinates symbols steps r =
    let (e, h, s, l) = r.leader in
    let step : IsStep H (slice_index coordinates rest) (slice_index symbols rest) e = step_of H rest coordinates symbols e steps h s in
    subst (λ a. a < size H.field) step.symbol (word_symbol H.field H.columns e h.word (slice_index coordinates rest))

pub rest_more : (H : Matrix) (number t rest i c : ℕ) (old word coordinates symbols : List ℕ) → IsSteps H coordinates symbols → IsRest H number t rest old word → i ≡ slice_index coordinates rest → c ≡ slice_index symbols rest → c ≢ 0 →
    IsRest H number (t + 1) (sum_number H.field (length H.rows) rest (syndrome_number H (unit H.columns i (neg H.field c)))) old (set word i (add H.field (slice_index word i) (neg H.field c)))
rest_more H number t rest i c old word coordinates symbols steps r ei ec n =
    let f = H.field in
    let (e, h, s, l) = r.leader in
    let step : IsStep H (slice_index coordinates rest) (slice_index symbols rest) e = step_of H rest coordinates symbols e steps h s in
    let q : slice_index e i ≡ c = ap (slice_index e) ei ∙ step.symbol ∙ sym ec in
    let p : 0 < slice_index e i = omega (arith, q, n) in
    let inside : i < H.columns = omega (arith, symbol_inside i e p, h.word.long) in
    record {
      fits = word_changed f H.columns i (add f (slice_index word i) (neg f c)) word r.fits (add_inside f (slice_index word i) (neg f c));
      leader = (
        set e i 0,
        part_leads H i e h p,
        syndrome_taken H i c e h.word inside q ∙ ap (λ a. sum_number f (length H.rows) a (syndrome_number H (unit H.columns i (neg f c)))) s,
        omega (arith, weight_taken i e p, l),
      );
      same = λ d k m. r.same d k m ∙ sym (same_rest f H.columns i c word e r.fits h.word inside q);
    }

zero_left : (H : Matrix) (number t rest : ℕ) (old word : List ℕ) (r : IsRest H number t rest old word) → r.leader.0 ≡ zero_word H.columns → (d : List ℕ) → Leads H d → syndrome_number H d ≡ number → word ≡ difference H.field old d
zero_left H number t rest old word r z d h s = sym (r.same d h s ∙ ap (difference H.field word) z ∙ difference_zero H.field H.columns word r.fits)

pub rest_empty : (H : Matrix) (number t rest : ℕ) (old word coordinates symbols : List ℕ) → IsSteps H coordinates symbols → IsRest H number t rest old word → slice_index symbols rest ≡ 0 → (d : List ℕ) → Leads H d → syndrome_number H d ≡ number → word ≡ difference H.field old d
rest_empty H number t rest old word coordinates symbols steps r z d h s =
    let e = r.leader.0 in
    let step : IsStep H (slice_index coordinates rest) (slice_index symbols rest) e = step_of H rest coordinates symbols e steps r.leader.1 r.leader.2 in
    let last : slice_index coordinates rest ≡ H.columns = step.at.ends (step.symbol ∙ z) in
    zero_left H number t rest old word r (zero_from_start H.columns e r.leader.1.word.long (λ k m. step.at.starts k (omega (arith, m, last)))) d h s

pub rest_done : (H : Matrix) (number t rest : ℕ) (old word : List ℕ) → IsRest H number t rest old word → H.columns ≤ t → (d : List ℕ) → Leads H d → syndrome_number H d ≡ number → word ≡ difference H.field old d
rest_done H number t rest old word r m d h s =
    zero_left H number t rest old word r (zero_from_weight H.columns r.leader.0 r.leader.1.word.long (omega (arith, m, r.leader.3))) d h s

pub ruleset correct_laws = (rest_below, rest_coordinate, rest_symbol)
