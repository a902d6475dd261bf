-- The rounds of a session, need by need.
--   drop_front, take_front, take_whole      fronts of lists
--   ends_here            at the end of the needs these steps are all, and nothing stopped it
--   at_need              the steps once one more need is met, and whether the slice stopped it there
--   searched             if it didn't, the session goes on after that need
use Rattle.std.proofs.Common.{◌≡◌, ◌≤◌, ℕ, zero, suc, Bool, true, false, cond, List, [], ◌∷◌, ◌++◌, length, drop, take, Option, None, refl, sym, ap, subst, ◌∙◌, arith}
use Rattle.std.proofs.lemmas.List.{append-nil, append_assoc, length-append}
use Rattle.lc_algebra.specs.Matrix.{Matrix}
use Rattle.lc_algebra.proofs.CommonLaws.{drop_whole}
use Rattle.lc_enumeration.specs.Records.{Progress, Start, SessionStep, SessionRounds, rounds, last_state, no_steps, steps_first, session_from, session_rounds}
use Rattle.lc_session_rules.specs.Course.{GoesSo, state_at, steps_at, start_next}

pub drop_front : {A : Type 0} (xs ys : List A) (n : ℕ) → n ≡ length xs → drop n (xs ++ ys) ≡ ys
drop_front [] ys zero e = refl
drop_front [] ys (suc n) e = absurd (omega (arith, e))
drop_front (x ∷ xs) ys zero e = absurd (omega (arith, e))
drop_front (x ∷ xs) ys (suc n) e = drop_front xs ys n (omega (arith, e))

pub take_front : {A : Type 0} (xs ys : List A) (n : ℕ) → n ≡ length xs → take n (xs ++ ys) ≡ xs
take_front [] ys zero e = refl
take_front [] ys (suc n) e = absurd (omega (arith, e))
take_front (x ∷ xs) ys zero e = absurd (omega (arith, e))
take_front {A = A} (x ∷ xs) ys (suc n) e = ap (λ (l : List A). x ∷ l) (take_front xs ys n (omega (arith, e)))

pub take_whole : {A : Type 0} (xs : List A) (n : ℕ) → length xs ≤ n → take n xs ≡ xs
take_whole [] zero l = refl
take_whole [] (suc n) l = refl
take_whole (x ∷ xs) zero l = absurd (omega (arith, l))
take_whole {A = A} (x ∷ xs) (suc n) l = ap (λ (t : List A). x ∷ t) (take_whole xs n (omega (arith, l)))

abbrev result : List SessionStep → List Progress → Option ℕ → Bool → SessionRounds
result told settled left stopped = record { steps = told; settled = settled; left = left; is_stopped = stopped }

ended : (told : List SessionStep) (settled : List Progress) (left : Option ℕ) (stopped : Bool) → steps_first told (no_steps settled left stopped) ≡ result told settled left stopped
unfolding steps_first no_steps
ended told settled left stopped = ap (λ (l : List SessionStep). result l settled left stopped) (append-nil told)

pub none_left : (divisor : Matrix → ℕ) (budget longest : ℕ) (needs : List Matrix) (left : Option ℕ) (now : Start) → length needs ≤ length now.settled → session_rounds divisor needs budget longest left now ≡ no_steps now.settled left false
unfolding session_rounds session_from
none_left divisor budget longest needs left now l = ap (λ (ns : List Matrix). session_from divisor ns budget longest left now.settled now.current) (drop_whole needs (length now.settled) l)

pub ends_here : (divisor : Matrix → ℕ) (budget longest : ℕ) (begin : List Matrix → Start) (slice : Option ℕ) (needs : List Matrix) (told : List SessionStep) (now : Start) (left : Option ℕ) → GoesSo divisor budget longest begin slice needs [] told now left → length needs ≤ length now.settled
    → session_rounds divisor needs budget longest slice (begin needs) ≡ record { steps = told; settled = now.settled; left = left; is_stopped = false }
ends_here divisor budget longest begin slice needs told now left goes l =
    let at : session_rounds divisor needs budget longest slice (begin needs) ≡ steps_first told (session_rounds divisor needs budget longest left now) =
    subst (λ (ns : List Matrix). session_rounds divisor ns budget longest slice (begin ns) ≡ steps_first told (session_rounds divisor ns budget longest left now)) (append-nil needs) (goes []) in
    at ∙ ap (steps_first told) (none_left divisor budget longest needs left now l) ∙ ended told now.settled left false

-- ---- one more need

-- the session from the start now on, if C is its next need
abbrev one_need : (Matrix → ℕ) → ℕ → ℕ → Matrix → Option ℕ → Start → List Matrix → SessionRounds
one_need divisor budget longest C left now more =
    let r = rounds (divisor C) C budget longest left (state_at C now) in
    cond r.is_stopped (no_steps now.settled r.left true) (session_from divisor more budget longest r.left (start_next divisor budget longest C left now).settled None)

first_of : (divisor : Matrix → ℕ) (budget longest : ℕ) (needs : List Matrix) (C : Matrix) (more : List Matrix) (left : Option ℕ) (now : Start) → length now.settled ≡ length needs
    → session_rounds divisor (needs ++ C ∷ more) budget longest left now ≡ steps_first (steps_at divisor budget longest C left now) (one_need divisor budget longest C left now more)
unfolding session_rounds session_from
first_of divisor budget longest needs C more left now e = ap (λ (ns : List Matrix). session_from divisor ns budget longest left now.settled now.current) (drop_front needs (C ∷ more) (length now.settled) e)

twice : (told steps : List SessionStep) (r : SessionRounds) → steps_first told (steps_first steps r) ≡ steps_first (told ++ steps) r
unfolding steps_first
twice told steps r = ap (λ (l : List SessionStep). result l r.settled r.left r.is_stopped) (sym (append_assoc told steps r.steps))

through : (divisor : Matrix → ℕ) (budget longest : ℕ) (begin : List Matrix → Start) (slice : Option ℕ) (needs : List Matrix) (C : Matrix) (told : List SessionStep) (now : Start) (left : Option ℕ) (more : List Matrix) → GoesSo divisor budget longest begin slice needs (C ∷ []) told now left → length now.settled ≡ length needs
    → session_rounds divisor (needs ++ C ∷ more) budget longest slice (begin (needs ++ C ∷ more)) ≡ steps_first (told ++ steps_at divisor budget longest C left now) (one_need divisor budget longest C left now more)
through divisor budget longest begin slice needs C told now left more goes e =
    goes more ∙ ap (steps_first told) (first_of divisor budget longest needs C more left now e) ∙ twice told (steps_at divisor budget longest C left now) (one_need divisor budget longest C left now more)

no_more : (stopped : Bool) (settled next : List Progress) (left : Option ℕ) (told : List SessionStep) → ((steps_first told (cond stopped (no_steps settled left true) (no_steps next left false))).steps ≡ told) × ((steps_first told (cond stopped (no_steps settled left true) (no_steps next left false))).is_stopped ≡ stopped)
unfolding steps_first no_steps
no_more true settled next left told = (append-nil told, refl)
no_more false settled next left told = (append-nil told, refl)

-- the steps once this need is met, and whether the slice stops the session there
pub at_need : (divisor : Matrix → ℕ) (budget longest : ℕ) (begin : List Matrix → Start) (slice : Option ℕ) (needs : List Matrix) (C : Matrix) (told : List SessionStep) (now : Start) (left : Option ℕ) → GoesSo divisor budget longest begin slice needs (C ∷ []) told now left → length now.settled ≡ length needs
    → ((session_rounds divisor (needs ++ C ∷ []) budget longest slice (begin (needs ++ C ∷ []))).steps ≡ told ++ steps_at divisor budget longest C left now)
    × ((session_rounds divisor (needs ++ C ∷ []) budget longest slice (begin (needs ++ C ∷ []))).is_stopped ≡ (rounds (divisor C) C budget longest left (state_at C now)).is_stopped)
unfolding session_from
at_need divisor budget longest begin slice needs C told now left goes e =
    let t = through divisor budget longest begin slice needs C told now left [] goes e in
    let r = rounds (divisor C) C budget longest left (state_at C now) in
    let n = no_more r.is_stopped now.settled (start_next divisor budget longest C left now).settled r.left (told ++ steps_at divisor budget longest C left now) in
    (ap (λ (s : SessionRounds). s.steps) t ∙ n.0, ap (λ (s : SessionRounds). s.is_stopped) t ∙ n.1)

after_front : (divisor : Matrix → ℕ) (budget longest : ℕ) (needs : List Matrix) (C : Matrix) (more : List Matrix) (settled : List Progress) (s : Progress) (left : Option ℕ) → length settled ≡ length needs
    → session_rounds divisor ((needs ++ C ∷ []) ++ more) budget longest left (record { settled = settled ++ s ∷ []; current = None }) ≡ session_from divisor more budget longest left (settled ++ s ∷ []) None
unfolding session_rounds
after_front divisor budget longest needs C more settled s left e =
    let long : length (settled ++ s ∷ []) ≡ length (needs ++ C ∷ []) = omega (arith, e, length-append settled (s ∷ []), length-append needs (C ∷ [])) in
    ap (λ (ns : List Matrix). session_from divisor ns budget longest left (settled ++ s ∷ []) None) (drop_front (needs ++ C ∷ []) more (length (settled ++ s ∷ [])) long)

-- after the search of this need, which the slice didn't stop
pub searched : (divisor : Matrix → ℕ) (budget longest : ℕ) (begin : List Matrix → Start) (slice : Option ℕ) (needs : List Matrix) (C : Matrix) (told : List SessionStep) (now : Start) (left : Option ℕ) → GoesSo divisor budget longest begin slice needs (C ∷ []) told now left → length now.settled ≡ length needs
    → (rounds (divisor C) C budget longest left (state_at C now)).is_stopped ≡ false
    → GoesSo divisor budget longest begin slice (needs ++ C ∷ []) [] (told ++ steps_at divisor budget longest C left now) (start_next divisor budget longest C left now) (rounds (divisor C) C budget longest left (state_at C now)).left
searched divisor budget longest begin slice needs C told now left goes e unstopped more =
    let r = rounds (divisor C) C budget longest left (state_at C now) in
    let next = start_next divisor budget longest C left now in
    let steps = told ++ steps_at divisor budget longest C left now in
    let goal = λ (ns : List Matrix). session_rounds divisor ns budget longest slice (begin ns) ≡ steps_first steps (session_from divisor more budget longest r.left next.settled None) in
    let on : goal (needs ++ C ∷ more) = through divisor budget longest begin slice needs C told now left more goes e ∙ ap (λ (b : Bool). steps_first steps (cond b (no_steps now.settled r.left true) (session_from divisor more budget longest r.left next.settled None))) unstopped in
    subst goal (sym (append_assoc needs (C ∷ []) more)) on
    ∙ ap (steps_first steps) (sym (after_front divisor budget longest needs C more now.settled (last_state (state_at C now) r.states) r.left e))
