-- The outcomes of bytes, for the goals of `parse`, `tokens` and the laws.
use Rattle.std.proofs.Common.{◌≡◌, ℕ, ◌≤◌, Bool, true, ◌==◌, ◌⊎◌, inl, inr, List, [], ◌∷◌, length, Some, None, Result, Ok, Err, refl, sym, ap, ap₂, ◌∙◌, subst, arith}
use Rattle.std.proofs.lemmas.Bool.Decides.{nat_tests}
use Rattle.std.specs.Prelude.{All}
use Rattle.std.specs.List.{AllByRecursion}
use Rattle.std.proofs.lemmas.List.Elements.{All-from_recursion}
use Rattle.lc_grammar.specs.declared.Token.{Token}
use Rattle.lc_grammar.specs.Token as language
use Rattle.lc_grammar.specs.Token.{scan, scan_within, ended}
use Rattle.lc_grammar.specs.Tree.{Statement}
use Rattle.lc_grammar.specs.Grammar.{deepest, Reads, Fault, IsFault, TokenFault}
use Rattle.lc_grammar.proofs.Course.{start, Outcome, read, fault, course}
use Rattle.lc_grammar.proofs.FirstFault.{fault_is_course, fault_of_course, script_outcome, outcome_script}
use Rattle.lc_parse.specs.Reading.{AreWithin, IsOutcome, IsTokenRefusal, ending_of}
use Rattle.lc_parse.specs.Refusal.{IsRefusedAs, IsReadAs, IsFaultAs}
use Rattle.lc_parse.specs.declared.scan.Ending.{Ending}
use Rattle.lc_parse.specs.declared.scan.Ending.TheVariants.{ScriptEnd, BadToken, TooWide}
use Rattle.lc_parse.specs.declared.refusal.ParseRefusal.{ParseRefusal}
use Rattle.lc_parse.specs.declared.refusal.ParseRefusal.TheVariants as refusal
use Rattle.lc_parse.proofs.ScanLaws.{tokens_within, end_offset}

abbrev pub outcome : List ℕ → Outcome
outcome bytes = course bytes deepest (start []) (scan bytes).tokens (scan bytes).ending

pub outcome_is : (bytes : List ℕ) (ts : List Token) (ending : Ending) → ts ≡ (scan bytes).tokens → ending_of ending ≡ (scan bytes).ending → course bytes deepest (start []) ts (ending_of ending) ≡ outcome bytes
outcome_is bytes ts ending e1 e2 = ap₂ (course bytes deepest (start [])) e1 e2

pub reads_of : (bytes : List ℕ) (ss : List Statement) → outcome bytes ≡ read ss → Reads bytes ss
reads_of bytes ss h = outcome_script bytes ss (end_offset bytes) h

pub fault_of : (bytes : List ℕ) (n offset : ℕ) → outcome bytes ≡ fault n offset → IsFault bytes (record { number = n; offset = offset })
fault_of bytes n offset h = fault_of_course bytes (scan bytes).tokens (scan bytes).ending (record { number = n; offset = offset }) h

pub refused_of : (bytes : List ℕ) (e : ParseRefusal) → IsOutcome e (outcome bytes) → IsRefusedAs e (IsFault bytes)
refused_of bytes (refusal.Fault number offset) h = fault_of bytes number offset h
refused_of bytes refusal.NoMemory h = tt

-- what a result says of the outcome
abbrev pub IsAnswer : {T : Type 0} → (T → List Statement) → Result T ParseRefusal → Outcome → Type 0
IsAnswer view (Ok s) o = o ≡ read (view s)
IsAnswer view (Err e) o = IsOutcome e o

pub answer_reads : {T : Type 0} (view : T → List Statement) (bytes : List ℕ) (r : Result T ParseRefusal) → IsAnswer view r (outcome bytes) → (ss : List Statement) → Reads bytes ss → IsReadAs r (λ s. view s ≡ ss)
answer_reads view bytes (Ok s) h ss reads = let e = sym h ∙ script_outcome bytes ss reads in cc
answer_reads view bytes (Err (refusal.Fault number offset)) h ss reads = let e = sym h ∙ script_outcome bytes ss reads in cc
answer_reads view bytes (Err refusal.NoMemory) h ss reads = tt

pub answer_faults : {T : Type 0} (view : T → List Statement) (bytes : List ℕ) (r : Result T ParseRefusal) → IsAnswer view r (outcome bytes) → (f : Fault) → IsFault bytes f → IsFaultAs r f
answer_faults view bytes (Ok s) h f is = let e = sym h ∙ fault_is_course bytes (scan bytes).tokens (scan bytes).ending f is in cc
answer_faults view bytes (Err (refusal.Fault number offset)) h f is = let e = sym (fault_is_course bytes (scan bytes).tokens (scan bytes).ending f is) ∙ h in (cc, cc)
answer_faults view bytes (Err refusal.NoMemory) h f is = tt

pub one_script : (bytes : List ℕ) (ss other : List Statement) → Reads bytes ss → Reads bytes other → ss ≡ other
one_script bytes ss other a b = let e = sym (script_outcome bytes ss a) ∙ script_outcome bytes other b in cc

pub one_fault : (bytes : List ℕ) (f other : Fault) → IsFault bytes f → IsFault bytes other → f ≡ other
one_fault bytes f other a b =
    let e = sym (fault_is_course bytes (scan bytes).tokens (scan bytes).ending f a) ∙ fault_is_course bytes (scan bytes).tokens (scan bytes).ending other b in
    let n : f.number ≡ other.number = cc in
    let p : f.offset ≡ other.offset = cc in
    ap₂ (λ n p. record { number = n; offset = p }) n p

pub no_both : (bytes : List ℕ) (ss : List Statement) (f : Fault) → Reads bytes ss → IsFault bytes f → ⊥
no_both bytes ss f a b = let e = sym (script_outcome bytes ss a) ∙ fault_is_course bytes (scan bytes).tokens (scan bytes).ending f b in cc

pub either : (bytes : List ℕ) → ((ss : List Statement) × Reads bytes ss) ⊎ ((f : Fault) × IsFault bytes f)
either bytes = by_outcome (outcome bytes) refl
  where
    by_outcome : (o : Outcome) → outcome bytes ≡ o → ((ss : List Statement) × Reads bytes ss) ⊎ ((f : Fault) × IsFault bytes f)
    by_outcome (read ss) e = inl (ss, reads_of bytes ss e)
    by_outcome (fault n offset) e = inr (record { number = n; offset = offset }, fault_of bytes n offset e)

ends_within : (bytes : List ℕ) (ts : List Token) → AreWithin bytes ts → AllByRecursion (λ t. t.end ≤ length bytes) ts
ends_within bytes [] h = tt
ends_within bytes (t ∷ ts) h = (h.0.within, ends_within bytes ts h.1)

pub spans_within : (bytes : List ℕ) → All (λ t. t.end ≤ length bytes) (scan bytes).tokens
spans_within bytes = All-from_recursion (λ t. t.end ≤ length bytes) (scan bytes).tokens (ends_within bytes (scan bytes).tokens (tokens_within bytes))

-- the end of the tokens
pub read_end : (bytes : List ℕ) (ending : Ending) (ts : List Token) (ss : List Statement) → length ts ≡ 0 → IsTokenRefusal ending None → course bytes deepest (start ss) ts (ending_of ending) ≡ read ss
unfolding course
read_end bytes (ScriptEnd p) [] ss l h = refl
read_end bytes (BadToken p) [] ss l h = absurd (cc)
read_end bytes (TooWide p) [] ss l h = absurd (cc)
read_end bytes ending (t ∷ ts) ss l h = absurd (omega arith)

pub refuse_token : (bytes : List ℕ) (ending : Ending) (ts : List Token) (ss : List Statement) (e : ParseRefusal) → length ts ≡ 0 → IsTokenRefusal ending (Some e) → IsOutcome e (course bytes deepest (start ss) ts (ending_of ending))
unfolding course
refuse_token bytes (ScriptEnd p) [] ss e l h = absurd (cc)
refuse_token bytes (BadToken p) [] ss e l h = let is : e ≡ refusal.Fault 40 p = cc in rw is refl
refuse_token bytes (TooWide p) [] ss e l h = let is : e ≡ refusal.Fault 43 p = cc in rw is refl
refuse_token bytes ending (t ∷ ts) ss e l h = absurd (omega arith)

-- the tokens alone
pub whole_tokens : (bytes : List ℕ) (ending : Ending) → ending_of ending ≡ (scan bytes).ending → IsTokenRefusal ending None → (scan bytes).ending ≡ language.script_end (length bytes)
whole_tokens bytes (ScriptEnd p) e h = sym e ∙ ap language.script_end (end_offset bytes p (sym e))
whole_tokens bytes (BadToken p) e h = absurd (cc)
whole_tokens bytes (TooWide p) e h = absurd (cc)

pub token_fault : (ending : Ending) (end : language.Ending) (e : ParseRefusal) → ending_of ending ≡ end → IsTokenRefusal ending (Some e) → IsRefusedAs e (TokenFault end)
token_fault (ScriptEnd p) end e is h = absurd (cc)
token_fault (BadToken p) end e is h = let same : e ≡ refusal.Fault 40 p = cc in rw (same, ← is) (refl, refl)
token_fault (TooWide p) end e is h = let same : e ≡ refusal.Fault 43 p = cc in rw (same, ← is) (refl, refl)

-- tokens up to the end of the script are not refused
pub whole_unrefused : (ending : Ending) (end : language.Ending) (e : ParseRefusal) (n : ℕ) → ending_of ending ≡ end → IsTokenRefusal ending (Some e) → end ≡ language.script_end n → ⊥
whole_unrefused (ScriptEnd p) end e n is h whole = absurd (cc)
whole_unrefused (BadToken p) end e n is h whole = absurd (cc)
whole_unrefused (TooWide p) end e n is h whole = absurd (cc)

pub token_readable : {T : Type 0} (ending : Ending) (end : language.Ending) (e : ParseRefusal) (n : ℕ) (P : T → Type 0) → ending_of ending ≡ end → IsTokenRefusal ending (Some e) → end ≡ language.script_end n → IsReadAs (Err e) P
token_readable ending end e n P is h whole = absurd (whole_unrefused ending end e n is h whole)

pub token_faulty : (T : Type 0) (ending : Ending) (end : language.Ending) (e : ParseRefusal) (f : Fault) → ending_of ending ≡ end → IsTokenRefusal ending (Some e) → TokenFault end f → IsFaultAs {T = T} (Err e) f
token_faulty T (ScriptEnd p) end e f is h fault_is = absurd (cc)
token_faulty T (BadToken p) end e f is h fault_is =
    let same : e ≡ refusal.Fault 40 p = cc in
    let there = subst (λ x. TokenFault x f) (sym is) fault_is in
    rw same (there.1, there.0)
token_faulty T (TooWide p) end e f is h fault_is =
    let same : e ≡ refusal.Fault 43 p = cc in
    let there = subst (λ x. TokenFault x f) (sym is) fault_is in
    rw same (there.1, there.0)

pub no_token_fault : (ending : Ending) (end : language.Ending) (f : Fault) → ending_of ending ≡ end → IsTokenRefusal ending None → TokenFault end f → ⊥
no_token_fault (ScriptEnd p) end f is h fault_is = subst (λ x. TokenFault x f) (sym is) fault_is
no_token_fault (BadToken p) end f is h fault_is = absurd (cc)
no_token_fault (TooWide p) end f is h fault_is = absurd (cc)

pub empty_of : (n : ℕ) (b : Bool) → b ≡ (n == 0) → b ≡ true → n ≡ 0
empty_of n b e t = let h : (n == 0) ≡ true = sym e ∙ t in grind (arith, nat_tests)

-- no bytes have no tokens, which end at once
pub nothing_scanned : (bytes : List ℕ) → bytes ≡ [] → ((scan bytes).tokens ≡ []) × ((scan bytes).ending ≡ language.script_end 0)
unfolding scan scan_within ended
nothing_scanned bytes e = rw e (refl, refl)
