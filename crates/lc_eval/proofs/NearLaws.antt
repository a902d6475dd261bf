-- What the query for a nearest word does is what the definitions say.
--   zero_told            the line for a code of dimension 0
--   near_fault, near_zero, near_asked      a list that is no word; a code of dimension 0; one that the caller searches
use Rattle.std.proofs.Common.{◌≡◌, ◌≢◌, ℕ, true, List, length, inl, inr, refl, ap, ◌∙◌, Err, arith}
use Rattle.lc_algebra.specs.Word.{zero_word, weight}
use Rattle.lc_algebra.specs.Matrix.{Matrix}
use Rattle.lc_enumeration.specs.NearWord.{near_answer}
use Rattle.lc_formats.specs.Text.{line}
use Rattle.lc_language.specs.Calls.{nearest_word, query_refusals_of, query_refusal_of}
use Rattle.lc_language.specs.Query.{near_text, near_line}
use Rattle.lc_language.specs.Evaluation.{prints, nears, QueriesTo}
use Rattle.lc_calls.specs.declared.refusals.Stop.{Stop}
use Rattle.lc_calls.specs.declared.refusals.Stop.TheVariants as stop
use Rattle.lc_eval.specs.Checked.{IsRight, IsChecked}
use Rattle.lc_eval.specs.Evaluated.{AffectsOrFails}
use Rattle.lc_eval.proofs.QueryLaws.{fails_so}

pub zero_told : (C : Matrix) (x w text : List ℕ) (d : ℕ) → length C.rows ≡ 0 → w ≡ zero_word C.columns → d ≡ weight x → text ≡ line (near_text (record { exact = true; low = d; weight = d; word = w; blocks = 0 })) → text ≡ near_line C x 0
unfolding near_line near_answer
zero_told C x w text d e z f t = t ∙ rw (z, f, e) refl

pub near_fault : (offset : ℕ) (C : Matrix) (x : List ℕ) (s : Stop) → IsChecked C x offset (Err s) → AffectsOrFails (Err s) (QueriesTo offset (nearest_word C x))
unfolding query_refusal_of query_refusals_of
near_fault offset C x (stop.Refused r) (e, h, m) = rw h (fails_so offset r e m)
near_fault offset C x stop.NoMemory h = tt

pub near_zero : (offset : ℕ) (C : Matrix) (x w text : List ℕ) → IsRight C x w → length C.rows ≡ 0 → text ≡ near_line C w 0 → QueriesTo offset (nearest_word C x) (prints text)
unfolding query_refusal_of query_refusals_of
near_zero offset C x w text h e t =
    let same : text ≡ near_line C x 0 = t ∙ ap (λ (u : List ℕ). near_line C u 0) h.same in
    rw h.unrefused (inl (e, ap (λ (l : List ℕ). prints l) same))

pub near_asked : (offset : ℕ) (C D : Matrix) (x w : List ℕ) → IsRight C x w → length C.rows ≢ 0 → D ≡ C → QueriesTo offset (nearest_word C x) (nears D w)
unfolding query_refusal_of query_refusals_of
near_asked offset C D x w h e same = rw h.unrefused (inr (omega (arith, e), rw (same, h.same) refl))
