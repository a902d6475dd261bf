-- What the query for a codeword with erased symbols prints is what the definitions say.
--   erasures_fault         a list that is no word
--   erasures_refused       coordinates that are refused
--   erasures_told          the line of the answer
use Rattle.std.proofs.Common.{◌≡◌, ℕ, List, Option, Some, None, Ok, Err, option_map, ap, subst, ◌∙◌}
use Rattle.lc_algebra.specs.Matrix.{Matrix}
use Rattle.lc_constructions.specs.declared.refusal.CodeRefusal.{CodeRefusal}
use Rattle.lc_constructions.specs.Refusal.{first_refusal, IsRefusedAs}
use Rattle.lc_language.specs.Calls.{fill_erasures, query_refusals_of, query_refusal_of}
use Rattle.lc_language.specs.Refusal.{first_of, refusal_from, from_codes, word_refusals}
use Rattle.lc_language.specs.Print.{filling_line}
use Rattle.lc_language.specs.Erasures.{IsFilling, erased_refusals}
use Rattle.lc_language.specs.Evaluation.{prints, QueriesTo}
use Rattle.lc_erasures.specs.declared.erasures.Filling.{Filling}
use Rattle.lc_erasures.specs.Filling.{filling_of}
use Rattle.lc_calls.specs.declared.refusals.Stop.{Stop}
use Rattle.lc_calls.specs.declared.refusals.Stop.TheVariants as stop
use Rattle.lc_eval.specs.Checked.{IsRight, IsChecked}
use Rattle.lc_eval.specs.Evaluated.{AffectsOrFails}
use Rattle.lc_calls.specs.Made.{IsMade}
use Rattle.lc_language.proofs.RefusalLaws.{first_from_codes}
use Rattle.lc_eval.proofs.QueryLaws.{first_stays, first_behind, fails_so}

pub erasures_fault : (offset : ℕ) (C : Matrix) (x erased : List ℕ) (s : Stop) → IsChecked C x offset (Err s) → AffectsOrFails (Err s) (QueriesTo offset (fill_erasures C x erased))
unfolding query_refusal_of query_refusals_of
erasures_fault offset C x erased (stop.Refused r) (e, h, m) = rw (first_stays (from_codes (word_refusals C x)) (from_codes (erased_refusals C erased)) e h) (fails_so offset r e m)
erasures_fault offset C x erased stop.NoMemory h = tt

-- the refusals of a list that is a word are those of the coordinates
then : (C : Matrix) (x erased : List ℕ) (r : Option CodeRefusal) → first_of (from_codes (word_refusals C x)) ≡ None → first_refusal (erased_refusals C erased) ≡ r → query_refusal_of (fill_erasures C x erased) ≡ option_map refusal_from r
unfolding query_refusal_of query_refusals_of
then C x erased r h e = first_behind (from_codes (word_refusals C x)) (from_codes (erased_refusals C erased)) h ∙ first_from_codes (erased_refusals C erased) ∙ ap (option_map refusal_from) e

pub erasures_refused : (offset : ℕ) (C : Matrix) (x w erased : List ℕ) (e : CodeRefusal) (s : Stop) → IsRight C x w → IsRefusedAs {T = Filling} (Err e) (first_refusal (erased_refusals C erased)) → IsMade (Err e) offset (Err s)
    → AffectsOrFails (Err s) (QueriesTo offset (fill_erasures C x erased))
erasures_refused offset C x w erased e (stop.Refused r) right h m = rw (then C x erased (Some e) right.unrefused (h m.0)) (fails_so offset r (refusal_from e) m.1)
erasures_refused offset C x w erased e stop.NoMemory right h m = tt

pub erasures_told : (offset : ℕ) (C : Matrix) (x w erased text : List ℕ) (a : Filling) → IsRight C x w → IsRefusedAs (Ok a) (first_refusal (erased_refusals C erased)) → IsFilling C w erased (filling_of a) → text ≡ filling_line (filling_of a)
    → QueriesTo offset (fill_erasures C x erased) (prints text)
erasures_told offset C x w erased text a right h is t =
    rw (then C x erased None right.unrefused h) (filling_of a, subst (λ v. IsFilling C v erased (filling_of a)) right.same is, ap (λ (l : List ℕ). prints l) t)
