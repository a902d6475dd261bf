-- Leaders by the numbers of syndromes are the leaders of cosets.
--   one_coset                words are in one coset exactly if their syndromes have one number
--   leaders_of_checks        each syndrome of a word has a leader
--   decoded                  a word less the leader with its syndrome is the word nearest to it
--   parity_of_kernel         the kernel of a code's matrix is a parity-check matrix
--   checked_by               the kernel of a code's matrix checks it
--   rows_of_kernel           it has n - k rows
--   few_syndromes            the checks have few syndromes if the number of cosets is not refused
--   more_counted, counted    what is refused, and what is not
--   word_checked             words of the code's length are words of the checks' length
use Rattle.std.proofs.Common.{◌≡◌, ℕ, ◌-◌, ◌^◌, ◌<◌, ◌≤◌, ⊎_elim, Bool, true, false, true≢false, nat_lt, if◌then◌else◌, Some, None, min, List, [], ◌∷◌, length, refl, sym, ap, ap₂, subst, ◌∙◌, arith}
use Rattle.std.proofs.lemmas.List.Elements.{All-nil, All-cons}
use Rattle.std.proofs.lemmas.Bool.{cases_lt, lt-ltb, le-ltb}
use Rattle.lc_algebra.specs.declared.FieldName.{FieldName}
use Rattle.lc_algebra.specs.Field.{size, add, neg}
use Rattle.lc_algebra.specs.Residue.{number}
use Rattle.lc_algebra.specs.Word.{IsWord, word_sum, scale, difference, word_dot}
use Rattle.lc_algebra.specs.Matrix.{Matrix, AreRows, IsReduced, IsReducedGenerator, IsOrthogonal}
use Rattle.lc_algebra.proofs.FieldLaws.{neg_one_mul, add_neg}
use Rattle.lc_algebra.proofs.WordLaws.{IsWord_difference, dot_sum, dot_scale, length_scale}
use Rattle.lc_algebra.proofs.SpanLaws.{same_span_reflexive}
use Rattle.lc_constructions.specs.Nearest.{IsNearest}
use Rattle.lc_constructions.specs.Coset.{AreInOneCoset, syndrome, IsParityCheck, too_many_cosets}
use Rattle.lc_constructions.proofs.CosetLaws.{leader_exists, leader_is_nearest, syndrome_once}
use Rattle.lc_matrix.proofs.RankLaws.{rank_of_kernel}
use Rattle.lc_matrix.proofs.DualLaws.{orthogonal_to_kernel}
use Rattle.lc_syndrome.specs.Syndrome.{syndrome_number, coset_count}
use Rattle.lc_syndrome.specs.Leading.{Leads, HasLeaders}
use Rattle.lc_syndrome.specs.Checks.{checks_of, IsChecked}
use Rattle.lc_syndrome.proofs.SyndromeLaws.{same_syndrome}

orthogonal_difference : (f : FieldName) (rows : List (List ℕ)) (x y : List ℕ) → length x ≡ length y → syndrome f rows x ≡ syndrome f rows y → IsOrthogonal f rows (difference f x y)
unfolding syndrome difference
orthogonal_difference f [] x y e h = All-nil (λ row. word_dot f row (difference f x y) ≡ 0)
orthogonal_difference f (row ∷ rows) x y e h =
    let head : word_dot f row x ≡ word_dot f row y = cc (h) in
    let rest : syndrome f rows x ≡ syndrome f rows y = cc (h) in
    let t : word_dot f row (word_sum f x (scale f (neg f 1) y)) ≡ 0 =
    dot_sum f row x (scale f (neg f 1) y) (e ∙ sym (length_scale f (neg f 1) y)) ∙ ap₂ (add f) head (dot_scale f (neg f 1) row y ∙ neg_one_mul f (word_dot f row y)) ∙ add_neg f (word_dot f row y) in
    All-cons (λ row. word_dot f row (difference f x y) ≡ 0) row rows t (orthogonal_difference f rows x y e rest)

one_coset : (C : Matrix) (checks : List (List ℕ)) (x y : List ℕ) → IsParityCheck C checks → IsWord C.field C.columns x → IsWord C.field C.columns y → syndrome_number (checks_of C checks) x ≡ syndrome_number (checks_of C checks) y → AreInOneCoset C x y
one_coset C checks x y p a b e =
    (p.words (difference C.field x y) (IsWord_difference C.field C.columns x y a.long b.long)).1
    (orthogonal_difference C.field checks x y (a.long ∙ sym b.long) (same_syndrome (checks_of C checks) x y e))

one_number : (C : Matrix) (checks : List (List ℕ)) (x y : List ℕ) → IsParityCheck C checks → IsWord C.field C.columns x → IsWord C.field C.columns y → AreInOneCoset C x y → syndrome_number (checks_of C checks) x ≡ syndrome_number (checks_of C checks) y
unfolding syndrome_number
one_number C checks x y p a b c = ap (number (size C.field)) (syndrome_once C checks x y p a b c)

leaders : (C : Matrix) (checks : List (List ℕ)) → AreRows C.field C.columns C.rows → IsParityCheck C checks → HasLeaders (checks_of C checks)
leaders C checks r p x a =
    let (e, h) = leader_exists C x r a in
    let s : syndrome_number (checks_of C checks) x ≡ syndrome_number (checks_of C checks) e = one_number C checks x e p a h.word h.inside in
    (e, record { word = h.word; first = λ d w q. h.first d w (one_coset C checks x d p a w (s ∙ sym q)) }, sym s)

pub leaders_of_checks : (C H : Matrix) → AreRows C.field C.columns C.rows → IsChecked C H → HasLeaders H
leaders_of_checks C H r k = subst HasLeaders (sym k.form) (leaders C H.rows r k.parity)

nearest_of_leads : (C : Matrix) (checks : List (List ℕ)) (x e : List ℕ) → AreRows C.field C.columns C.rows → IsParityCheck C checks → IsWord C.field C.columns x → Leads (checks_of C checks) e → syndrome_number (checks_of C checks) e ≡ syndrome_number (checks_of C checks) x → IsNearest C x (difference C.field x e)
nearest_of_leads C checks x e r p a h s =
    leader_is_nearest C x e r a
    (record {
      word = h.word;
      inside = one_coset C checks x e p a h.word (sym s);
      first = λ d w c. h.first d w (sym (one_number C checks x d p a w c) ∙ sym s);
    })

nearest_by_leader : (C H : Matrix) (x e : List ℕ) → AreRows C.field C.columns C.rows → IsChecked C H → IsWord C.field C.columns x → Leads H e → syndrome_number H e ≡ syndrome_number H x → IsNearest C x (difference C.field x e)
nearest_by_leader C H x e r k a h s =
    nearest_of_leads C H.rows x e r k.parity a (subst (λ M. Leads M e) k.form h) (subst (λ M. syndrome_number M e ≡ syndrome_number M x) k.form s)

parity_of_kernel : (C : Matrix) (checks : List (List ℕ)) → AreRows C.field C.columns C.rows → IsReduced C.columns C.rows → IsReducedGenerator C.field C.columns (IsOrthogonal C.field C.rows) checks → IsParityCheck C checks
parity_of_kernel C checks r reduced g = record {
  rows = g.words;
  words = λ w a. let t = orthogonal_to_kernel C.field C.columns C.rows checks w r reduced g a in (t.1, t.0);
}

checked_by_kernel : (C H : Matrix) → AreRows C.field C.columns C.rows → IsReduced C.columns C.rows → H.field ≡ C.field → H.columns ≡ C.columns → IsReducedGenerator C.field C.columns (IsOrthogonal C.field C.rows) H.rows → IsChecked C H
checked_by_kernel C H r reduced a b g = record {
  form = ap₂ (λ f n. record { field = f; columns = n; rows = H.rows }) a b;
  parity = parity_of_kernel C H.rows r reduced g;
}

rows_of_kernel : (C H : Matrix) → AreRows C.field C.columns C.rows → IsReduced C.columns C.rows → IsReducedGenerator C.field C.columns (IsOrthogonal C.field C.rows) H.rows → length H.rows ≡ C.columns - length C.rows
rows_of_kernel C H r reduced g =
    omega (arith, rank_of_kernel C.field C.columns C.rows C.rows H.rows r (record { same = same_span_reflexive C.field C.columns C.rows; reduced = reduced; words = r }) g)

if_none : (b : Bool) (m : ℕ) → (if b then Some m else None) ≡ None → b ≡ false
if_none true m e = absurd (cc (e))
if_none false m e = refl

few_cosets : (C : Matrix) → too_many_cosets C ≡ None → size C.field ^ (C.columns - length C.rows) ≤ 2 ^ 20
unfolding too_many_cosets
few_cosets C e =
    let N = size C.field ^ (C.columns - length C.rows) in
    let f : nat_lt (2 ^ 20) N ≡ false = if_none (nat_lt (2 ^ 20) N) (C.columns - length C.rows) e in
    ⊎_elim (λ (l : 2 ^ 20 < N). absurd (true≢false (sym (lt-ltb (2 ^ 20) N l) ∙ f))) (λ (l : N ≤ 2 ^ 20). l) (cases_lt (2 ^ 20) N)

few_syndromes_of : (C H : Matrix) → too_many_cosets C ≡ None → AreRows C.field C.columns C.rows → IsReduced C.columns C.rows → H.field ≡ C.field → IsReducedGenerator C.field C.columns (IsOrthogonal C.field C.rows) H.rows → coset_count H ≤ 2 ^ 20
few_syndromes_of C H e r reduced a g =
    subst (λ N. N ≤ 2 ^ 20) (sym (ap₂ (λ f m. size f ^ m) a (rows_of_kernel C H r reduced g))) (few_cosets C e)

many_cosets : (C : Matrix) (m : ℕ) → m ≡ C.columns - length C.rows → 2 ^ 20 < size C.field ^ m → Some m ≡ too_many_cosets C
unfolding too_many_cosets
many_cosets C m e l =
    let t : nat_lt (2 ^ 20) (size C.field ^ (C.columns - length C.rows)) ≡ true = lt-ltb (2 ^ 20) (size C.field ^ (C.columns - length C.rows)) (subst (λ k. 2 ^ 20 < size C.field ^ k) e l) in
    rw t (ap (λ (k : ℕ). Some k) e)

no_more_cosets : (C : Matrix) (m : ℕ) → m ≡ C.columns - length C.rows → size C.field ^ m ≤ 2 ^ 20 → None ≡ too_many_cosets C
unfolding too_many_cosets
no_more_cosets C m e l =
    let N = size C.field ^ (C.columns - length C.rows) in
    let few : N ≤ 2 ^ 20 = subst (λ k. size C.field ^ k ≤ 2 ^ 20) e l in
    let t : nat_lt (2 ^ 20) N ≡ false = le-ltb (2 ^ 20) N few in
    rw t refl

pub more_counted : (C : Matrix) (f : FieldName) (q n k cosets : ℕ) → f ≡ C.field → q ≡ size f → n ≡ C.columns → k ≡ length C.rows → cosets ≡ min (q ^ (n - k)) (2 ^ 64 - 1) → 2 ^ 20 < cosets → Some (n - k) ≡ too_many_cosets C
more_counted C f q n k cosets ef eq en ek e l =
    let a : q ^ (n - k) ≡ size C.field ^ (n - k) = ap (λ q. q ^ (n - k)) (eq ∙ ap size ef) in
    let b : 2 ^ 20 < size C.field ^ (n - k) = omega (arith, a, e, l) in
    many_cosets C (n - k) (omega (arith, en, ek)) b

pub counted : (C : Matrix) (f : FieldName) (q n k cosets : ℕ) → f ≡ C.field → q ≡ size f → n ≡ C.columns → k ≡ length C.rows → cosets ≡ min (q ^ (n - k)) (2 ^ 64 - 1) → cosets ≤ 2 ^ 20 → None ≡ too_many_cosets C
counted C f q n k cosets ef eq en ek e l =
    let a : q ^ (n - k) ≡ size C.field ^ (n - k) = ap (λ q. q ^ (n - k)) (eq ∙ ap size ef) in
    let b : size C.field ^ (n - k) ≤ 2 ^ 20 = omega (arith, a, e, l) in
    no_more_cosets C (n - k) (omega (arith, en, ek)) b

-- the checks that the code takes, as it takes them

pub record IsKernel (C M H : Matrix) : Type 0 where
  pub is : M ≡ C
  pub rows : AreRows C.field C.columns C.rows
  pub reduced : IsReduced C.columns C.rows
  pub field : H.field ≡ M.field
  pub columns : H.columns ≡ M.columns
  pub kernel : IsReducedGenerator M.field M.columns (IsOrthogonal M.field M.rows) H.rows

kernel_of : (C M H : Matrix) → IsKernel C M H → IsReducedGenerator C.field C.columns (IsOrthogonal C.field C.rows) H.rows
kernel_of C M H k = subst (λ D. IsReducedGenerator D.field D.columns (IsOrthogonal D.field D.rows) H.rows) k.is k.kernel

pub checked_by : (C M H : Matrix) → IsKernel C M H → IsChecked C H
checked_by C M H k = checked_by_kernel C H k.rows k.reduced (k.field ∙ ap (λ D. D.field) k.is) (k.columns ∙ ap (λ D. D.columns) k.is) (kernel_of C M H k)

pub few_syndromes : (C M H : Matrix) → too_many_cosets C ≡ None → IsKernel C M H → coset_count H ≤ 2 ^ 20
few_syndromes C M H e k = few_syndromes_of C H e k.rows k.reduced (k.field ∙ ap (λ D. D.field) k.is) (kernel_of C M H k)

pub word_checked : (C H : Matrix) (x : List ℕ) → IsChecked C H → IsWord C.field C.columns x → IsWord H.field H.columns x
word_checked C H x k a = subst (λ M. IsWord M.field M.columns x) (sym k.form) a

pub decoded : (C H : Matrix) (x out : List ℕ) (n : ℕ) → AreRows C.field C.columns C.rows → IsChecked C H → HasLeaders H → IsWord C.field C.columns x → n ≡ syndrome_number H x → ((e : List ℕ) → Leads H e → syndrome_number H e ≡ n → out ≡ difference H.field x e) → IsNearest C x out
decoded C H x out n r k l a s o =
    let (e, h, q) = l x (word_checked C H x k a) in
    let same : out ≡ difference C.field x e = o e h (q ∙ sym s) ∙ ap (λ M. difference M.field x e) k.form in
    subst (IsNearest C x) (sym same) (nearest_by_leader C H x e r k a h q)
