-- The records of a true checkpoint fit the needs that a session meets.
--   record_fits, current_fits      the record of a settled need, and that of the current one
--   needs_reach          a script has more needs than the checkpoint has settled
use Rattle.std.proofs.Common.{◌≡◌, ◌≤◌, ◌<◌, ⊎_elim, ℕ, zero, suc, Bool, true, false, ◌==◌, nat_lt, if◌then◌else◌, List, [], ◌∷◌, ◌++◌, length, take, Some, refl, sym, ap, subst, ◌∙◌, arith}
use Rattle.std.specs.Prelude.{slice_get}
use Rattle.std.proofs.lemmas.Bool.{ltb-false}
use Rattle.std.proofs.lemmas.Option.{slice_get_within}
use Rattle.sha2.specs.Sha256.{sha256}
use Rattle.lc_algebra.specs.Matrix.{Matrix}
use Rattle.lc_algebra.specs.Divisor.{divisor_of}
use Rattle.lc_algebra.proofs.DivisorLaws.{divisor_some}
use Rattle.lc_enumeration.specs.Search.{fits, fits_settled}
use Rattle.lc_enumeration.specs.Records.{Progress, found_of, IsBestAt}
use Rattle.lc_enumeration.specs.Truth.{IsSettled}
use Rattle.lc_infoset.proofs.FittingLaws.{settled_fits, underway_fits}
use Rattle.lc_formats.specs.Checkpoint.{Checkpoint, current_of}
use Rattle.lc_formats.specs.Truth.{divisor_in}
use Rattle.lc_grammar.specs.Tree.{Statement}
use Rattle.lc_grammar.specs.Grammar.{Reads, Fault, IsFault}
use Rattle.lc_language.specs.declared.Call.{Call}
use Rattle.lc_language.specs.Value.{Binding}
use Rattle.lc_language.specs.Evaluation.{Step, binds, prints, asks, counts, nears, fails}
use Rattle.lc_session_rules.specs.Needs.{NeedsOn, Needs, IsNeeds, MeetsFirst, OneScript, OneStep, NoFault}
use Rattle.lc_session_rules.specs.Slots.{IsTrueCheckpoint}
use Rattle.lc_session_rules.proofs.NeedsLaws.{met_agree}
use Rattle.lc_session_rules.proofs.TrueSteps.{settled_reads, parts_of}
use Rattle.lc_session_rules.proofs.AskLaws.{met_rows}

last_need : (needs : List Matrix) (C : Matrix) → slice_get (needs ++ C ∷ []) (length needs) ≡ Some C
last_need [] C = refl
last_need (D ∷ needs) C = last_need needs C

-- a need that a session of version 1 searched without a divisor has none
same_divisor : (version : ℕ) (C : Matrix) → 1 ≤ divisor_of C → ((version == 1) ≡ true → nat_lt 1 (divisor_of C) ≡ false) → divisor_in version C ≡ divisor_of C
unfolding divisor_in
same_divisor version C some uncut = by (version == 1) uncut
  where
    by : (b : Bool) → (b ≡ true → nat_lt 1 (divisor_of C) ≡ false) → (if b then 1 else divisor_of C) ≡ divisor_of C
    by true h = (let e = h refl in omega (arith, some, ltb-false 1 (divisor_of C) e))
    by false h = refl

-- ---- fronts of a script have no more needs than the script

after_within : (step : Step) (env : List Binding) (Front Whole : List Binding → List Matrix → Type 0) (front needs : List Matrix) → ((later : List Binding) (rest left : List Matrix) → Front later rest → Whole later left → length rest ≤ length left) → NeedsOn env step Front front → NeedsOn env step Whole needs → length front ≤ length needs
after_within (binds b) env Front Whole front needs f p q = f (b ∷ env) front needs p q
after_within (prints l) env Front Whole front needs f p q = f env front needs p q
after_within (asks kind C) env Front Whole front needs f p q =
    let l = f env p.0 q.0 p.1 q.1 in
    omega (arith, l, ap (λ (ns : List Matrix). length ns) p.2, ap (λ (ns : List Matrix). length ns) q.2)
after_within (counts C) env Front Whole front needs f p q = f env front needs p q
after_within (nears C x) env Front Whole front needs f p q = f env front needs p q
after_within (fails r) env Front Whole front needs f p q = omega (arith, ap (λ (ns : List Matrix). length ns) p)

front_within : (table : List Call) → OneStep table → (ss : List Statement) (env : List Binding) (n : ℕ) (front needs : List Matrix) → Needs table env (take n ss) front → Needs table env ss needs → length front ≤ length needs
front_within table one ss env zero front needs p q = omega (arith, ap (λ (ns : List Matrix). length ns) p)
front_within table one [] env (suc n) front needs p q = omega (arith, ap (λ (ns : List Matrix). length ns) p)
front_within table one (s ∷ ss) env (suc n) front needs p q =
    let same : p.0 ≡ q.0 = one env s p.0 q.0 p.1 q.1 in
    let moved = subst (λ (step : Step). NeedsOn env step (λ later. Needs table later (take n ss)) front) same p.2 in
    after_within q.0 env (λ later. Needs table later (take n ss)) (λ later. Needs table later ss) front needs (λ later rest left a b. front_within table one ss later n rest left a b) moved q.2

met_within : (table : List Call) (bytes : List ℕ) → OneScript bytes → OneStep table → NoFault bytes → (front needs : List Matrix) → MeetsFirst table bytes front → IsNeeds table bytes needs → length front ≤ length needs
met_within table bytes script one sound front needs met all =
    ⊎_elim (λ (e : front ≡ []). omega (arith, ap (λ (ns : List Matrix). length ns) e))
    (λ (a : (ss : List Statement) × Reads bytes ss × ((n : ℕ) × Needs table [] (take n ss) front)).
    ⊎_elim (λ (b : (ss : List Statement) × Reads bytes ss × Needs table [] ss needs).
    front_within table one b.0 [] a.2.0 front needs (subst (λ (ss : List Statement). Needs table [] (take a.2.0 ss) front) (script a.0 b.0 a.1 b.1) a.2.1) b.2)
    (λ (b : (fault : Fault) × IsFault bytes fault × (needs ≡ [])). absurd (sound a.0 b.0 a.1 b.1)) all) met

module _ (table : List Call) (bytes : List ℕ) (budget : ℕ) (script : OneScript bytes) (one : OneStep table) (p : Checkpoint) (holds : IsTrueCheckpoint table bytes budget p) where
  same_need : (needs : List Matrix) → MeetsFirst table bytes needs → (i : ℕ) (C D : Matrix) → slice_get needs i ≡ Some C → slice_get holds.0 i ≡ Some D → D ≡ C
  same_need needs met i C D at there = met_agree table bytes script one holds.0 needs holds.1 met i D C there at

  pub record_fits : (needs : List Matrix) (C : Matrix) → MeetsFirst table bytes (needs ++ C ∷ []) → (s : Progress) → slice_get p.settled (length needs) ≡ Some s → ((p.version == 1) ≡ true → nat_lt 1 (divisor_of C) ≡ false) → fits_settled (divisor_of C) C budget s.blocks (found_of s) ≡ true
  record_fits needs C met s at uncut =
      let h = settled_reads (divisor_in p.version) budget holds.0 p.settled (parts_of holds.0 (sha256 bytes) budget p holds.2).settled (length needs) s at in
      let same : h.0 ≡ C = same_need (needs ++ C ∷ []) met (length needs) C h.0 (last_need needs C) h.1 in
      let rows : 0 < length C.rows = met_rows table bytes (needs ++ C ∷ []) met (length needs) C (last_need needs C) in
      let settled : IsSettled (divisor_in p.version C) C budget s = subst (λ (D : Matrix). IsSettled (divisor_in p.version D) D budget s) same h.2 in
      settled_fits (divisor_of C) C budget s rows (subst (λ (d : ℕ). IsSettled d C budget s) (same_divisor p.version C (divisor_some C) uncut) settled)

  pub current_fits : (needs : List Matrix) (C : Matrix) → MeetsFirst table bytes (needs ++ C ∷ []) → length p.settled ≡ length needs → fits C p.blocks (found_of (current_of p)) ≡ true
  unfolding current_of
  current_fits needs C met e =
      let parts = parts_of holds.0 (sha256 bytes) budget p holds.2 in
      let same : parts.current.0 ≡ C = same_need (needs ++ C ∷ []) met (length needs) C parts.current.0 (last_need needs C) (ap (slice_get holds.0) (sym e) ∙ parts.current.1) in
      let rows : 0 < length C.rows = met_rows table bytes (needs ++ C ∷ []) met (length needs) C (last_need needs C) in
      underway_fits C (current_of p) rows (subst (λ (D : Matrix). IsBestAt D (current_of p)) same parts.current.4)

  pub needs_reach : (needs : List Matrix) → NoFault bytes → IsNeeds table bytes needs → length p.settled < length needs
  needs_reach needs sound all =
      let parts = parts_of holds.0 (sha256 bytes) budget p holds.2 in
      let inside = slice_get_within holds.0 (length p.settled) parts.current.0 parts.current.1 in
      let few = met_within table bytes script one sound holds.0 needs holds.1 all in
      omega (arith, inside, few)
