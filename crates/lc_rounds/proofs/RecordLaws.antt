-- What becomes of a record of a checkpoint, from what a search says of it.
--   passed_unfit, passed_so, passed_not      the record of a settled need
--   begun_first, begun_so, begun_unfit       that of the current one
--   current_within       its blocks are within the budget
use Rattle.std.proofs.Common.{◌≡◌, ◌<◌, ◌≤◌, IfSome, ℕ, Bool, true, false, ◌==◌, ◌&&◌, ◌||◌, nat_lt, is_some, length, Option, Some, None, option_map, refl, sym, ap, subst, ◌∙◌}
use Rattle.std.specs.Prelude.{◌*◌}
use Rattle.std.proofs.lemmas.Bool.{and_parts, and_from, eqb-true}
use Rattle.lc_algebra.specs.Matrix.{Matrix}
use Rattle.lc_algebra.specs.Divisor.{divisor_of}
use Rattle.lc_enumeration.specs.Search.{Answer, Found, finished, fits, fits_settled, weight_at, word_at, set_count}
use Rattle.lc_enumeration.specs.Records.{found_of, first_progress}
use Rattle.lc_enumeration.proofs.RecordsLaws.{first_is_best}
use Rattle.lc_infoset.proofs.FittingLaws.{underway_fits}
use Rattle.lc_formats.specs.Checkpoint.{IsProgress}
use Rattle.lc_checkpoint.specs.Seen.{settled_of}
use Rattle.lc_checkpoint.specs.declared.checkpoint.Settled.{Settled}
use Rattle.lc_search.specs.State.{SearchState, first_state, answer_in, answer_of}
use Rattle.lc_search.specs.Resuming.{IsResumed, IsUnfit}
use Rattle.lc_search.specs.declared.answer.Answer.{Answer as Answer_}
use Rattle.lc_search.specs.declared.resume.ResumeRefusal.{ResumeRefusal}
use Rattle.lc_search.specs.declared.resume.ResumeRefusal.TheVariants.{Unfit, NoMemory}
use Rattle.lc_rounds.specs.declared.need.Halt.TheVariants as halt
use Rattle.lc_rounds.specs.Records.{halt_from, IsPassed, IsNotPassed, IsBegun, IsNotBegun}

pub passed_unfit : (C : Matrix) (budget : ℕ) (kept : Settled) (e : ResumeRefusal) → IsUnfit C kept.blocks kept.weight kept.place e → IsNotPassed C budget (settled_of kept) (halt_from kept.weight e)
unfolding settled_of found_of fits_settled
passed_unfit C budget kept (Unfit found) u = (ap (λ (b : Bool). b && is_some (finished (divisor_of C) C budget kept.blocks (record { weight = kept.weight; place = kept.place }))) u.0, refl, u.1)
passed_unfit C budget kept NoMemory u = tt

answered_at : (C : Matrix) (budget : ℕ) (kept : Settled) (s : SearchState) (o : Option Answer) → IsResumed C budget kept.blocks kept.weight kept.place s → o ≡ answer_in s → finished (divisor_of C) C budget kept.blocks (record { weight = kept.weight; place = kept.place }) ≡ o
unfolding found_of
answered_at C budget kept s o h e = sym (e ∙ ap answer_in h.state)

pub passed_so : (C : Matrix) (budget : ℕ) (kept : Settled) (s : SearchState) (a : Answer_) → IsResumed C budget kept.blocks kept.weight kept.place s → Some (answer_of a) ≡ answer_in s → IsPassed C budget (settled_of kept) (record { search = s; answer = a })
unfolding settled_of found_of fits_settled
passed_so C budget kept s a h e = record {
  fitting = and_from (fits C kept.blocks (record { weight = kept.weight; place = kept.place })) (is_some (finished (divisor_of C) C budget kept.blocks (record { weight = kept.weight; place = kept.place }))) h.fitting (ap is_some (answered_at C budget kept s (Some (answer_of a)) h e));
  fits_so = h.fitting;
  state = h.state;
  answered = sym e;
}

same_weight : (C : Matrix) (l : ℕ) (x : Found) → fits C l x ≡ true → x.weight ≡ weight_at C x.place
unfolding fits
same_weight C l x t =
    let a = and_parts ((x.place == 0) || nat_lt x.place (l * 4096)) (is_some (word_at C (set_count C) x.place) && (weight_at C x.place == x.weight)) t in
    let b = and_parts (is_some (word_at C (set_count C) x.place)) (weight_at C x.place == x.weight) a.1 in
    sym (eqb-true (weight_at C x.place) x.weight b.1)

pub passed_not : (C : Matrix) (budget : ℕ) (kept : Settled) (s : SearchState) → IsResumed C budget kept.blocks kept.weight kept.place s → None ≡ answer_in s
    → (fits_settled (divisor_of C) C budget (settled_of kept).blocks (found_of (settled_of kept)) ≡ false) × (kept.weight ≡ (settled_of kept).weight) × (kept.weight ≡ weight_at C (settled_of kept).place)
unfolding settled_of found_of fits_settled
passed_not C budget kept s h e =
    let x : Found = record { weight = kept.weight; place = kept.place } in
    let none = answered_at C budget kept s None h e in
    (ap (λ (b : Bool). b && is_some (finished (divisor_of C) C budget kept.blocks x)) h.fitting ∙ ap is_some none, refl, same_weight C kept.blocks x h.fitting)

pub begun_first : (C : Matrix) (budget : ℕ) (o : Option Settled) (s : SearchState) → 0 < length C.rows → o ≡ None → s ≡ first_state C budget → IsBegun C budget (option_map settled_of o) s
unfolding first_state
begun_first C budget o s rows none is = subst (λ (x : Option Settled). IsBegun C budget (option_map settled_of x) s) (sym none) (record { state = is; fitting = underway_fits C (first_progress C) rows (first_is_best C) })

pub begun_so : (C : Matrix) (budget : ℕ) (o : Option Settled) (kept : Settled) (s : SearchState) → o ≡ Some kept → IsResumed C budget kept.blocks kept.weight kept.place s → IsBegun C budget (option_map settled_of o) s
unfolding settled_of found_of
begun_so C budget o kept s some h = subst (λ (x : Option Settled). IsBegun C budget (option_map settled_of x) s) (sym some) (record { state = h.state; fitting = h.fitting })

pub begun_unfit : (C : Matrix) (o : Option Settled) (kept : Settled) (e : ResumeRefusal) → o ≡ Some kept → IsUnfit C kept.blocks kept.weight kept.place e → IsNotBegun C (option_map settled_of o) (halt_from kept.weight e)
unfolding settled_of found_of
begun_unfit C o kept (Unfit found) some u = subst (λ (x : Option Settled). IsNotBegun C (option_map settled_of x) (halt.Unfit kept.weight found)) (sym some) (u.0, refl, u.1)
begun_unfit C o kept NoMemory some u = tt

pub current_within : (budget : ℕ) (o : Option Settled) → IfSome o (λ r. IsProgress budget (settled_of r)) → IfSome o (λ r. r.blocks ≤ budget)
unfolding settled_of
current_within budget None h = h
current_within budget (Some r) h = h.done
