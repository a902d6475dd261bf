-- Leaders, and what is left of one without a symbol.
--   leads_once               leaders with one syndrome are the same
--   syndrome_put, syndrome_taken      the syndrome after a symbol is put in, or taken out
--   part_leads               a leader without one of its symbols is a leader
--   before_cases             what comes no later than a word that is 0 before coordinate i
--   put_back                 a word is what is left without a symbol, with it put back
use Rattle.std.proofs.Common.{◌≡◌, ℕ, zero, suc, ◌<◌, ◌≤◌, ◌⊎◌, inl, inr, ⊎_elim, List, [], ◌∷◌, length, set, slice_index, refl, sym, ap, subst, ◌∙◌, arith, zero-lt-suc}
use Rattle.std.proofs.lemmas.List.{get_or-set_same, set-set, set-get_or}
use Rattle.lc_algebra.specs.Field.{size, add, neg}
use Rattle.lc_algebra.specs.Word.{IsWord, weight, AtMost, ComesNoLater}
use Rattle.lc_algebra.specs.Matrix.{Matrix}
use Rattle.lc_algebra.proofs.FieldLaws.{add_inside, zero_inside}
use Rattle.lc_algebra.proofs.WordLaws.{word_symbol, no_later_antisymmetric, no_later_weight, IsWord_zero}
use Rattle.lc_syndrome.specs.Syndrome.{syndrome_number, sum_number, unit}
use Rattle.lc_syndrome.specs.Leading.{Leads, Starts}
use Rattle.lc_syndrome.proofs.SyndromeLaws.{number_of_sum}
use Rattle.lc_syndrome.proofs.SymbolLaws.{long_changed, word_changed, changed, put, taken, weight_put, weight_kept, weight_taken, symbol_inside, at_most_put}

pub leads_once : (H : Matrix) (d e : List ℕ) → Leads H d → Leads H e → syndrome_number H d ≡ syndrome_number H e → d ≡ e
leads_once H d e a b s = no_later_antisymmetric d e (a.word.long ∙ sym b.word.long) (a.first e b.word (sym s)) (b.first d a.word s)

length_unit : (H : Matrix) (i c : ℕ) → length (unit H.columns i c) ≡ H.columns
length_unit H i c = long_changed H.field H.columns i c _ (IsWord_zero H.field H.columns)

syndrome_changed : (H : Matrix) (i c : ℕ) (x : List ℕ) → IsWord H.field H.columns x → i < H.columns → syndrome_number H (set x i (add H.field (slice_index x i) c)) ≡ sum_number H.field (length H.rows) (syndrome_number H x) (syndrome_number H (unit H.columns i c))
syndrome_changed H i c x w l = ap (syndrome_number H) (changed H.field H.columns i c x w l) ∙ number_of_sum H x (unit H.columns i c) (w.long ∙ sym (length_unit H i c))

pub syndrome_put : (H : Matrix) (i c : ℕ) (x : List ℕ) → IsWord H.field H.columns x → i < H.columns → c < size H.field → slice_index x i ≡ 0 → syndrome_number H (set x i c) ≡ sum_number H.field (length H.rows) (syndrome_number H x) (syndrome_number H (unit H.columns i c))
syndrome_put H i c x w l b e = ap (syndrome_number H) (put H.field H.columns i c x w l b e) ∙ number_of_sum H x (unit H.columns i c) (w.long ∙ sym (length_unit H i c))

pub syndrome_taken : (H : Matrix) (i c : ℕ) (x : List ℕ) → IsWord H.field H.columns x → i < H.columns → slice_index x i ≡ c → syndrome_number H (set x i 0) ≡ sum_number H.field (length H.rows) (syndrome_number H x) (syndrome_number H (unit H.columns i (neg H.field c)))
syndrome_taken H i c x w l e = ap (syndrome_number H) (taken H.field H.columns i c x w l e) ∙ number_of_sum H x (unit H.columns i (neg H.field c)) (w.long ∙ sym (length_unit H i (neg H.field c)))

pub put_back : (i c : ℕ) (x : List ℕ) → slice_index x i ≡ c → set (set x i 0) i c ≡ x
put_back i c x e = set-set x i 0 c ∙ ap (set x i) (sym e) ∙ set-get_or x i 0

part_first : (H : Matrix) (i : ℕ) (e d : List ℕ) → Leads H e → 0 < slice_index e i → IsWord H.field H.columns d → syndrome_number H d ≡ syndrome_number H (set e i 0) → (slice_index d i ≡ 0) ⊎ (0 < slice_index d i) → ComesNoLater (set e i 0) d
part_first H i e d h p w s (inl z) =
    let f = H.field in
    let n = H.columns in
    let c = slice_index e i in
    let r = set e i 0 in
    let g = set d i c in
    let ie : i < length e = symbol_inside i e p in
    let l : i < n = omega (arith, ie, h.word.long) in
    let b : c < size f = word_symbol f n e h.word i in
    let rw' : IsWord f n r = word_changed f n i 0 e h.word (zero_inside f) in
    let rz : slice_index r i ≡ 0 = get_or-set_same e i 0 0 ie in
    let same : syndrome_number H g ≡ syndrome_number H e =
    syndrome_put H i c d w l b z ∙ ap (λ a. sum_number f (length H.rows) a (syndrome_number H (unit n i c))) s ∙ sym (syndrome_put H i c r rw' l b rz) ∙ ap (syndrome_number H) (put_back i c e refl) in
    let t : ComesNoLater e g = h.first g (word_changed f n i c d w b) same in
    let we : suc (weight r) ≡ weight e = weight_taken i e p in
    let wg : weight g ≡ suc (weight d) = weight_put i c d (omega (arith, l, w.long)) p z in
    ⊎_elim
    (λ (q : weight e < weight g). inl (omega (arith, q, we, wg)))
    (λ (q : (weight e ≡ weight g) × AtMost e g). inr (omega (arith, q.0, we, wg), at_most_put i c r d (rw'.long ∙ sym w.long) rz z (subst (λ u. AtMost u g) (sym (put_back i c e refl)) q.1)))
    t
part_first H i e d h p w s (inr z) =
    let f = H.field in
    let n = H.columns in
    let c = slice_index e i in
    let r = set e i 0 in
    let g = set d i (add f (slice_index d i) c) in
    let ie : i < length e = symbol_inside i e p in
    let l : i < n = omega (arith, ie, h.word.long) in
    let b : c < size f = word_symbol f n e h.word i in
    let rw' : IsWord f n r = word_changed f n i 0 e h.word (zero_inside f) in
    let rz : slice_index r i ≡ 0 = get_or-set_same e i 0 0 ie in
    let same : syndrome_number H g ≡ syndrome_number H e =
    syndrome_changed H i c d w l ∙ ap (λ a. sum_number f (length H.rows) a (syndrome_number H (unit n i c))) s ∙ sym (syndrome_put H i c r rw' l b rz) ∙ ap (syndrome_number H) (put_back i c e refl) in
    let t : ComesNoLater e g = h.first g (word_changed f n i (add f (slice_index d i) c) d w (add_inside f (slice_index d i) c)) same in
    let we : suc (weight r) ≡ weight e = weight_taken i e p in
    let wg : weight g ≤ weight d = weight_kept i (add f (slice_index d i) c) d z in
    let wt : weight e ≤ weight g = no_later_weight e g t in
    inl (omega (arith, wt, we, wg))

zero_or_more : (a : ℕ) → (a ≡ 0) ⊎ (0 < a)
zero_or_more zero = inl refl
zero_or_more (suc a) = inr (zero-lt-suc a)

pub part_leads : (H : Matrix) (i : ℕ) (e : List ℕ) → Leads H e → 0 < slice_index e i → Leads H (set e i 0)
part_leads H i e h p = record {
  word = word_changed H.field H.columns i 0 e h.word (zero_inside H.field);
  first = λ d w s. part_first H i e d h p w s (zero_or_more (slice_index d i));
}

abbrev pub ComesBefore : ℕ → List ℕ → List ℕ → Type 0
ComesBefore i l g = Starts i l × ((slice_index l i < slice_index g i) ⊎ ((slice_index l i ≡ slice_index g i) × AtMost (set l i 0) (set g i 0)))

starts_none : (l : List ℕ) → Starts 0 l
starts_none l k h = absurd (omega (arith, h))

starts_empty : (i : ℕ) → Starts i []
starts_empty i k h = refl

starts_more : (i a : ℕ) (l : List ℕ) → a ≡ 0 → Starts i l → Starts (suc i) (a ∷ l)
starts_more i a l e s zero h = e
starts_more i a l e s (suc k) h = s k (omega (arith, h))

pub before_cases : (i : ℕ) (l g : List ℕ) → length l ≡ length g → Starts i g → AtMost l g → ComesBefore i l g
before_cases i [] [] e s h = (starts_empty i, inr (refl, tt))
before_cases i [] (b ∷ g) e s h = absurd (omega (arith, e))
before_cases i (a ∷ l) [] e s h = absurd (omega (arith, e))
before_cases zero (a ∷ l) (b ∷ g) e s (inl h) = (starts_none (a ∷ l), inl h)
before_cases zero (a ∷ l) (b ∷ g) e s (inr h) = (starts_none (a ∷ l), inr (h.0, inr (refl, h.1)))
before_cases (suc i) (a ∷ l) (b ∷ g) e s (inl h) = absurd (omega (arith, h, s 0 (zero-lt-suc i)))
before_cases (suc i) (a ∷ l) (b ∷ g) e s (inr h) =
    let t : ComesBefore i l g = before_cases i l g (omega (arith, e)) (λ k m. s (suc k) (omega (arith, m))) h.1 in (
      starts_more i a l (h.0 ∙ s 0 (zero-lt-suc i)) t.0,
      ⊎_elim inl (λ (q : (slice_index l i ≡ slice_index g i) × AtMost (set l i 0) (set g i 0)). inr (q.0, inr (h.0, q.1))) t.1,
    )
