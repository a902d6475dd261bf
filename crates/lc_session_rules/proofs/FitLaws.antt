-- Whether the records of a checkpoint fit, need by need.
--   fitting_length, fitting_more      records that fit are as many as their needs; one more that fits may come after them
--   misfit_past          the records that fit are passed over
--   fits_anew, fits_whole      no record is misfit if all before the need fit, and the session starts anew there or its record fits
--   unfit_settled, unfit_current      the first record that doesn't fit
--   unfit_end            more records than needs
use Rattle.std.proofs.Common.{◌≡◌, ◌+◌, ℕ, suc, Bool, true, false, if◌then◌else◌, List, [], ◌∷◌, ◌++◌, length, Option, Some, None, refl, ap, subst, ◌∙◌, arith}
use Rattle.std.proofs.lemmas.List.{append-nil, length-append}
use Rattle.lc_algebra.specs.Matrix.{Matrix}
use Rattle.lc_enumeration.specs.Search.{fits, fits_settled}
use Rattle.lc_enumeration.specs.Records.{Progress, found_of}
use Rattle.lc_enumeration.specs.Fitting.{misfit_at, count_current, too_many, misfit_from, misfit}
use Rattle.lc_session_rules.specs.Course.{AreFitting}

pub fitting_length : (divisor : Matrix → ℕ) (budget : ℕ) (needs : List Matrix) (records : List Progress) → AreFitting divisor budget needs records → length records ≡ length needs
fitting_length divisor budget [] [] h = refl
fitting_length divisor budget [] (s ∷ records) h = absurd h
fitting_length divisor budget (C ∷ needs) [] h = absurd h
fitting_length divisor budget (C ∷ needs) (s ∷ records) h = ap suc (fitting_length divisor budget needs records h.1)

pub fitting_more : (divisor : Matrix → ℕ) (budget : ℕ) (needs : List Matrix) (records : List Progress) (C : Matrix) (s : Progress) → AreFitting divisor budget needs records → fits_settled (divisor C) C budget s.blocks (found_of s) ≡ true → AreFitting divisor budget (needs ++ C ∷ []) (records ++ s ∷ [])
fitting_more divisor budget [] [] C s h k = (k, tt)
fitting_more divisor budget [] (t ∷ records) C s h k = absurd h
fitting_more divisor budget (D ∷ needs) [] C s h k = absurd h
fitting_more divisor budget (D ∷ needs) (t ∷ records) C s h k = (h.0, fitting_more divisor budget needs records C s h.1 k)

pub misfit_past : (divisor : Matrix → ℕ) (budget n : ℕ) (needs more : List Matrix) (records rest : List Progress) (current : Option Progress) → AreFitting divisor budget needs records → misfit_from divisor n (needs ++ more) budget (records ++ rest) current ≡ misfit_from divisor (n + length needs) more budget rest current
unfolding misfit_from
misfit_past divisor budget n [] more [] rest current h = ap (λ (k : ℕ). misfit_from divisor k more budget rest current) (omega arith)
misfit_past divisor budget n [] more (s ∷ records) rest current h = absurd h
misfit_past divisor budget n (C ∷ needs) more [] rest current h = absurd h
misfit_past divisor budget n (C ∷ needs) more (s ∷ records) rest current h =
    ap (λ (b : Bool). if b then misfit_from divisor (suc n) (needs ++ more) budget (records ++ rest) current else Some (misfit_at n C s)) h.0
    ∙ misfit_past divisor budget (suc n) needs more records rest current h.1
    ∙ ap (λ (k : ℕ). misfit_from divisor k more budget rest current) (omega arith)

misfit_front : (divisor : Matrix → ℕ) (budget : ℕ) (needs more : List Matrix) (records rest : List Progress) (current : Option Progress) → AreFitting divisor budget needs records → misfit_from divisor 0 (needs ++ more) budget (records ++ rest) current ≡ misfit_from divisor (length needs) more budget rest current
misfit_front divisor budget needs more records rest current h = misfit_past divisor budget 0 needs more records rest current h ∙ ap (λ (k : ℕ). misfit_from divisor k more budget rest current) (omega arith)

none_there : (divisor : Matrix → ℕ) (budget k : ℕ) (more : List Matrix) → misfit_from divisor k more budget [] None ≡ None
unfolding misfit_from too_many count_current
none_there divisor budget k [] = refl
none_there divisor budget k (C ∷ more) = refl

-- the session starts anew at the need after those whose records fit
pub fits_anew : (divisor : Matrix → ℕ) (budget : ℕ) (needs more : List Matrix) (records : List Progress) → AreFitting divisor budget needs records → misfit divisor (needs ++ more) budget (record { settled = records; current = None }) ≡ None
unfolding misfit
fits_anew divisor budget needs more records h =
    subst (λ (l : List Progress). misfit_from divisor 0 (needs ++ more) budget l None ≡ None) (append-nil records)
    (misfit_front divisor budget needs more records [] None h ∙ none_there divisor budget (length needs) more)

-- the record of the current need fits
pub fits_whole : (divisor : Matrix → ℕ) (budget : ℕ) (needs : List Matrix) (C : Matrix) (more : List Matrix) (records : List Progress) (s : Progress) → AreFitting divisor budget needs records → fits C s.blocks (found_of s) ≡ true → misfit divisor (needs ++ C ∷ more) budget (record { settled = records; current = Some s }) ≡ None
unfolding misfit misfit_from
fits_whole divisor budget needs C more records s h k =
    subst (λ (l : List Progress). misfit_from divisor 0 (needs ++ C ∷ more) budget l (Some s) ≡ None) (append-nil records)
    (misfit_front divisor budget needs (C ∷ more) records [] (Some s) h ∙ ap (λ (b : Bool). if b then None else Some (misfit_at (length needs) C s)) k)

-- the record of a settled need doesn't fit
pub unfit_settled : (divisor : Matrix → ℕ) (budget : ℕ) (needs : List Matrix) (C : Matrix) (records : List Progress) (s : Progress) (rest : List Progress) (current : Option Progress) → AreFitting divisor budget needs records → fits_settled (divisor C) C budget s.blocks (found_of s) ≡ false
    → misfit divisor (needs ++ C ∷ []) budget (record { settled = records ++ s ∷ rest; current = current }) ≡ Some (misfit_at (length needs) C s)
unfolding misfit misfit_from
unfit_settled divisor budget needs C records s rest current h k =
    misfit_front divisor budget needs (C ∷ []) records (s ∷ rest) current h
    ∙ ap (λ (b : Bool). if b then misfit_from divisor (suc (length needs)) [] budget rest current else Some (misfit_at (length needs) C s)) k

-- that of the current need doesn't
pub unfit_current : (divisor : Matrix → ℕ) (budget : ℕ) (needs : List Matrix) (C : Matrix) (records : List Progress) (s : Progress) → AreFitting divisor budget needs records → fits C s.blocks (found_of s) ≡ false
    → misfit divisor (needs ++ C ∷ []) budget (record { settled = records; current = Some s }) ≡ Some (misfit_at (length needs) C s)
unfolding misfit misfit_from
unfit_current divisor budget needs C records s h k =
    subst (λ (l : List Progress). misfit_from divisor 0 (needs ++ C ∷ []) budget l (Some s) ≡ Some (misfit_at (length needs) C s)) (append-nil records)
    (misfit_front divisor budget needs (C ∷ []) records [] (Some s) h ∙ ap (λ (b : Bool). if b then None else Some (misfit_at (length needs) C s)) k)

-- there are more records than needs
pub unfit_end : (divisor : Matrix → ℕ) (budget : ℕ) (needs : List Matrix) (records rest : List Progress) (s : Progress) → AreFitting divisor budget needs records
    → misfit divisor needs budget (record { settled = records ++ rest; current = Some s }) ≡ Some (record { need = length needs; told = suc (length (records ++ rest)); found = 0 })
unfolding misfit misfit_from too_many count_current
unfit_end divisor budget needs records rest s h =
    let n = fitting_length divisor budget needs records h in
    let more : length rest + count_current (Some s) ≡ suc (length rest) = omega arith in
    let here : misfit_from divisor 0 (needs ++ []) budget (records ++ rest) (Some s) ≡ too_many (length needs) (suc (length rest)) = misfit_front divisor budget needs [] records rest (Some s) h ∙ ap (too_many (length needs)) more in
    let long : length needs + suc (length rest) ≡ suc (length (records ++ rest)) = omega (arith, n, length-append records rest) in
    subst (λ (ns : List Matrix). misfit_from divisor 0 ns budget (records ++ rest) (Some s) ≡ too_many (length needs) (suc (length rest))) (append-nil needs) here
    ∙ ap (λ (t : ℕ). Some (record { need = length needs; told = t; found = 0 })) long
