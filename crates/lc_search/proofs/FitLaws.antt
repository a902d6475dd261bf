-- Whether a record fits a code.
--   no_word_unfit       not if there is no word
--   made_unfit          not if the word weighs something else, or is past the blocks
--   word_fits           else it does
--   fitting_word        what fits has a word
--   fits_on, fits_after      and still fits after some blocks more, and after a round
use Rattle.std.proofs.Common.{◌+◌, ◌≡◌, ℕ, ◌*◌, ◌<◌, ◌≤◌, ◌⊎◌, true, false, ◌&&◌, ◌||◌, ◌==◌, nat_lt, List, [], Option, Some, None, option_map, is_some, unwrap_or, refl, subst, sym, ap, ◌∙◌, inl, inr, ⊎_elim, arith}
use Rattle.std.proofs.lemmas.Bool.{and_from, and_parts, or_cases, or_left, or_right, lt-ltb, ltb-true, false≢true, eqb-true, eq-eqb, false_from_ne_true}
use Rattle.lc_algebra.specs.Word.{weight}
use Rattle.lc_algebra.specs.Matrix.{Matrix, AreRows}
use Rattle.lc_algebra.proofs.WordLaws.{weight_nil}
use Rattle.lc_algebra.specs.Span.{AreIndependent}
use Rattle.lc_algebra.proofs.SpanLaws.{contains_cases}
use Rattle.lc_enumeration.specs.Search.{Found, set_count, word_at, weight_at, fits, found_from, least_of}
use Rattle.lc_enumeration.specs.Records.{found_of, progress_of, round_length, after_round}
use Rattle.lc_enumeration.specs.Truth.{HasWord}
use Rattle.lc_enumeration.proofs.SearchLaws.{found_is, least_is}
use Rattle.lc_infoset.proofs.BestLaws.{place_word}
use Rattle.lc_infoset.proofs.GreedyLaws.{generators_are}
use Rattle.lc_infoset.proofs.AnswerLaws.{some_set}
use Rattle.lc_search.specs.State.{SearchState, after_search_round}

fits_is : (C : Matrix) (l : ℕ) (x : Found) → fits C l x ≡ (((x.place == 0) || nat_lt x.place (l * 4096)) && (is_some (word_at C (set_count C) x.place) && (weight_at C x.place == x.weight)))
unfolding fits
fits_is C l x = refl

weighs : (C : Matrix) (place : ℕ) → weight_at C place ≡ weight (unwrap_or (word_at C (set_count C) place) [])
unfolding weight_at
weighs C place = refl

record Fitting (C : Matrix) (l : ℕ) (x : Found) : Type 0 where
  place : (x.place ≡ 0) ⊎ (x.place < l * 4096)
  there : is_some (word_at C (set_count C) x.place) ≡ true
  same : weight_at C x.place ≡ x.weight

parts : (C : Matrix) (l : ℕ) (x : Found) → fits C l x ≡ true → Fitting C l x
parts C l x t =
    let a = and_parts ((x.place == 0) || nat_lt x.place (l * 4096)) (is_some (word_at C (set_count C) x.place) && (weight_at C x.place == x.weight)) (sym (fits_is C l x) ∙ t) in
    let b = and_parts (is_some (word_at C (set_count C) x.place)) (weight_at C x.place == x.weight) a.1 in
    record {
      place = ⊎_elim (λ z. inl (eqb-true x.place 0 z)) (λ z. inr (ltb-true x.place (l * 4096) z)) (or_cases (x.place == 0) (nat_lt x.place (l * 4096)) a.0);
      there = b.0;
      same = eqb-true (weight_at C x.place) x.weight b.1;
    }

-- the weight that is found at a place
found_weight : (C : Matrix) (place n : ℕ) → Some n ≡ option_map weight (word_at C (set_count C) place) → (n ≡ weight_at C place) × (is_some (word_at C (set_count C) place) ≡ true)
found_weight C place n e = by (word_at C (set_count C) place) refl
  where
    by : (o : Option (List ℕ)) → word_at C (set_count C) place ≡ o → (n ≡ weight_at C place) × (is_some (word_at C (set_count C) place) ≡ true)
    by None h = absurd (false≢true (sym (ap is_some (e ∙ ap (option_map weight) h))))
    by (Some w) h = (ap (λ (o : Option ℕ). unwrap_or o 0) (e ∙ ap (option_map weight) h) ∙ sym (weighs C place ∙ ap (λ o. weight (unwrap_or o [])) h), ap is_some h)

module _ (C : Matrix) (l weight_told place : ℕ) where
  pub no_word_unfit : None ≡ option_map weight (word_at C (set_count C) place) → (fits C l (record { weight = weight_told; place = place }) ≡ false) × (0 ≡ weight_at C place)
  no_word_unfit e = by (word_at C (set_count C) place) refl
    where
      by : (o : Option (List ℕ)) → word_at C (set_count C) place ≡ o → (fits C l (record { weight = weight_told; place = place }) ≡ false) × (0 ≡ weight_at C place)
      by None h = (
        false_from_ne_true (fits C l (record { weight = weight_told; place = place })) (λ t. false≢true (ap is_some (sym h) ∙ (parts C l (record { weight = weight_told; place = place }) t).there)),
        sym (weighs C place ∙ ap (λ o. weight (unwrap_or o [])) h ∙ weight_nil),
      )
      by (Some w) h = absurd (false≢true (ap is_some (e ∙ ap (option_map weight) h)))

  pub made_unfit : (n : ℕ) → Some n ≡ option_map weight (word_at C (set_count C) place) → ((n ≡ weight_told → ⊥) ⊎ ((place ≡ 0 → ⊥) × (l * 4096 ≤ place))) → (fits C l (record { weight = weight_told; place = place }) ≡ false) × (n ≡ weight_at C place)
  made_unfit n e bad =
      let f = found_weight C place n e in (
        false_from_ne_true (fits C l (record { weight = weight_told; place = place })) (λ t.
            let p = parts C l (record { weight = weight_told; place = place }) t in
            ⊎_elim (λ other. other (f.0 ∙ p.same)) (λ past. ⊎_elim (λ z. past.0 z) (λ z. omega (arith, z, past.1)) p.place) bad),
        f.0,
      )

  pub word_fits : (n : ℕ) → Some n ≡ option_map weight (word_at C (set_count C) place) → n ≡ weight_told → ((place ≡ 0) ⊎ (place < l * 4096)) → fits C l (record { weight = weight_told; place = place }) ≡ true
  word_fits n e same near =
      let f = found_weight C place n e in
      fits_is C l (record { weight = weight_told; place = place })
      ∙ and_from ((place == 0) || nat_lt place (l * 4096)) (is_some (word_at C (set_count C) place) && (weight_at C place == weight_told))
      (⊎_elim (λ z. or_left (place == 0) (nat_lt place (l * 4096)) (eq-eqb place 0 z)) (λ z. or_right (place == 0) (nat_lt place (l * 4096)) (lt-ltb place (l * 4096) z)) near)
      (and_from (is_some (word_at C (set_count C) place)) (weight_at C place == weight_told) f.1 (eq-eqb (weight_at C place) weight_told (sym f.0 ∙ same)))

fits_from : (C : Matrix) (l : ℕ) (x : Found) (w : List ℕ) → ((x.place ≡ 0) ⊎ (x.place < l * 4096)) → word_at C (set_count C) x.place ≡ Some w → weight w ≡ x.weight → fits C l x ≡ true
fits_from C l x w near at same = word_fits C l x.weight x.place x.weight (ap Some (sym same) ∙ ap (option_map weight) (sym at)) refl near

word_there : (C : Matrix) (place : ℕ) → is_some (word_at C (set_count C) place) ≡ true → (w : List ℕ) × (word_at C (set_count C) place ≡ Some w)
word_there C place t = by (word_at C (set_count C) place) refl
  where
    by : (o : Option (List ℕ)) → word_at C (set_count C) place ≡ o → (w : List ℕ) × (word_at C (set_count C) place ≡ Some w)
    by None h = absurd (false≢true (sym (ap is_some h) ∙ t))
    by (Some w) h = (w, h)

-- what fits has a word
pub fitting_word : (C : Matrix) (l : ℕ) (x : Found) → AreRows C.field C.columns C.rows → AreIndependent C.field C.columns C.rows → fits C l x ≡ true → HasWord C x
fitting_word C l x rows independent t =
    let p = parts C l x t in
    let w = word_there C x.place p.there in
    let weight_is : weight w.0 ≡ x.weight = sym (weighs C x.place ∙ ap (λ o. weight (unwrap_or o [])) w.1) ∙ p.same in
    let word = place_word C x.place w.0 (generators_are C rows independent) (some_set C) w.1 in
    record { nonzero = omega (arith, word.1, weight_is); word = (w.0, w.1, word.0, weight_is) }

-- and still fits after some blocks more
pub fits_on : (C : Matrix) (l n : ℕ) (x : Found) → fits C l x ≡ true → fits C (l + n) (least_of x (found_from C (set_count C) l n)) ≡ true
fits_on C l n x t =
    let y = least_of x (found_from C (set_count C) l n) in
    let p = parts C l x t in
    let old : fits C (l + n) x ≡ true = (let w = word_there C x.place p.there in
    fits_from C (l + n) x w.0 (⊎_elim (λ z. inl z) (λ z. inr (omega (arith, z))) p.place) w.1 (sym (weighs C x.place ∙ ap (λ o. weight (unwrap_or o [])) w.1) ∙ p.same)) in
    ⊎_elim
    (λ e. subst (λ (z : Found). fits C (l + n) z ≡ true) e old)
    (λ m.
    let f = found_is C (set_count C) l n y m in
    let before = f.before in
    fits_from C (l + n) y f.word.0 (inr (omega (arith, before))) f.word.1 f.word.2)
    (contains_cases x y (found_from C (set_count C) l n) (least_is x (found_from C (set_count C) l n)).one)

pub fits_after : (s : SearchState) (longest limit : ℕ) → fits s.code s.progress.blocks (found_of s.progress) ≡ true → fits s.code (after_search_round s longest limit).progress.blocks (found_of (after_search_round s longest limit).progress) ≡ true
unfolding after_search_round after_round progress_of found_of
fits_after s longest limit t = fits_on s.code s.progress.blocks (round_length s.code s.budget longest (Some limit) s.progress.blocks) (found_of s.progress) t
