-- What a round of a search has done.
--   fitting_progress       a record that fits its code is in the ranges of a checkpoint
--   place_shown            the place that a board shows
--   round_done             what the next round of a search has done
--   pace_is, note_is       how far the session is then, and the record
use Rattle.std.proofs.Common.{◌≡◌, ℕ, ◌*◌, ◌%◌, ◌^◌, ◌<◌, ◌≤◌, true, ◌==◌, ◌&&◌, ◌||◌, nat_lt, length, Option, Some, is_some, sym, ap, subst, ◌∙◌, ⊎_elim, arith}
use Rattle.std.proofs.lemmas.Bool.{and_parts, or_cases, ltb-true, eqb-true}
use Rattle.std.proofs.lemmas.List.{length-map}
use Rattle.lc_algebra.specs.Matrix.{Matrix, AreRows}
use Rattle.lc_algebra.specs.Span.{AreIndependent}
use Rattle.lc_algebra.specs.Divisor.{divisor_of}
use Rattle.lc_algebra.proofs.WordLaws.{weight_at_most_length}
use Rattle.lc_algebra.proofs.SpanLaws.{span_word}
use Rattle.lc_enumeration.specs.Search.{set_count, word_at, weight_at, bound, fits, board_value}
use Rattle.lc_enumeration.specs.Records.{Progress, found_of, note_of, step_of, less_slice, round_length, after_round}
use Rattle.lc_formats.specs.Checkpoint.{IsProgress}
use Rattle.lc_checkpoint.specs.Seen.{settled_of}
use Rattle.lc_io.specs.declared.watcher.Record.{Record}
use Rattle.lc_search.specs.State.{SearchState, after_search_round, IsRecordOf}
use Rattle.lc_search.specs.declared.answer.RoundRecord.{RoundRecord}
use Rattle.lc_search.proofs.FitLaws.{fitting_word, fits_after}
use Rattle.lc_session_rules.specs.Session.{record_of}
use Rattle.lc_rounds.specs.declared.pace.Pace.{Pace}
use Rattle.lc_rounds.specs.Step.{next_state, after_next, next_step, IsDone, at_round}

pub fitting_progress : (C : Matrix) (budget : ℕ) (s : Progress) → AreRows C.field C.columns C.rows → AreIndependent C.field C.columns C.rows → C.columns ≤ 255 → budget ≤ 2 ^ 40 → s.blocks ≤ budget → fits C s.blocks (found_of s) ≡ true → IsProgress budget s
unfolding found_of fits
fitting_progress C budget s rows independent long small few t =
    let h = fitting_word C s.blocks (found_of s) rows independent t in
    let word = span_word C.field C.columns C.rows h.word.0 rows h.word.2 in
    let light = weight_at_most_length h.word.0 in
    let parts = and_parts ((s.place == 0) || nat_lt s.place (s.blocks * 4096)) (is_some (word_at C (set_count C) s.place) && (weight_at C s.place == s.weight)) t in
    record {
      done = few;
      nonzero = h.nonzero;
      light = omega (arith, light, word.long, h.word.3, long);
      near = ⊎_elim (λ z. let e = eqb-true s.place 0 z in omega (arith, e)) (λ z. let l = ltb-true s.place (s.blocks * 4096) z in omega (arith, l, few, small)) (or_cases (s.place == 0) (nat_lt s.place (s.blocks * 4096)) parts.0);
    }

pub place_shown : (s : Progress) (value : ℕ) → s.place < 2 ^ 52 → value ≡ board_value (found_of s) → value % 2 ^ 52 ≡ s.place
unfolding board_value found_of
place_shown s value near is = omega (arith, near, is)

module _ (pace : Pace) (s t : SearchState) (limit : ℕ) (r : RoundRecord) where
  pub round_done : (C : Matrix) → C ≡ s.code → AreRows C.field C.columns C.rows → AreIndependent C.field C.columns C.rows → C.columns ≤ 255 → s.budget ≤ 2 ^ 40 → fits s.code s.progress.blocks (found_of s.progress) ≡ true
      → t ≡ after_search_round s pace.longest limit → round_length s.code s.budget pace.longest (Some limit) s.progress.blocks ≡ round_length s.code s.budget pace.longest pace.slice s.progress.blocks → s.progress.blocks < t.progress.blocks → t.progress.blocks ≤ t.budget
      → IsRecordOf t (round_length s.code s.budget pace.longest (Some limit) s.progress.blocks) r → IsDone pace s t r
  unfolding after_search_round
  round_done C code rows independent long small h e same further few tells =
      let next = next_state pace s in
      let at : t ≡ after_next pace s = e ∙ ap (λ (n : ℕ). record { code = s.code; budget = s.budget; progress = after_round s.code s.progress n }) same in
      let fit : fits s.code next.blocks (found_of next) ≡ true = subst (λ (n : ℕ). fits s.code (after_round s.code s.progress n).blocks (found_of (after_round s.code s.progress n)) ≡ true) same (fits_after s pace.longest limit h) in
      let words : AreRows s.code.field s.code.columns s.code.rows = subst (λ (D : Matrix). AreRows D.field D.columns D.rows) code rows in
      let free : AreIndependent s.code.field s.code.columns s.code.rows = subst (λ (D : Matrix). AreIndependent D.field D.columns D.rows) code independent in
      let short : s.code.columns ≤ 255 = subst (λ (D : Matrix). D.columns ≤ 255) code long in
      let within : next.blocks ≤ s.budget = subst (λ (u : SearchState). u.progress.blocks ≤ u.budget) at few in
      let progress = fitting_progress s.code s.budget next words free short small within fit in
      record {
        at = at;
        fitting = subst (λ (u : SearchState). fits u.code u.progress.blocks (found_of u.progress) ≡ true) (sym at) fit;
        further = further;
        progress = progress;
        done = tells.done_is ∙ same;
        blocks = tells.blocks ∙ ap (λ (u : SearchState). u.progress.blocks) at;
        weight = tells.best ∙ ap (λ (u : SearchState). u.progress.weight) at;
        place = place_shown next r.closed.best progress.near (tells.value ∙ ap (λ (u : SearchState). board_value (found_of u.progress)) at);
        bound = tells.bound_is ∙ ap (λ (u : SearchState). bound (divisor_of u.code) u.code u.progress.blocks u.progress.weight) at;
      }

pub pace_is : (pace : Pace) (s : SearchState) (slice : Option ℕ) (blocks weight place : ℕ) → slice ≡ less_slice pace.slice (round_length s.code s.budget pace.longest pace.slice s.progress.blocks) → blocks ≡ (next_state pace s).blocks → weight ≡ (next_state pace s).weight → place ≡ (next_state pace s).place
    → ◌≡◌ {A = Pace} (record pace { slice = slice; point = record pace.point { blocks = blocks; weight = weight; place = place } }) (at_round pace s)
pace_is pace s slice blocks weight place left done light near = λ i. record pace { slice = left i; point = record pace.point { blocks = done i; weight = light i; place = near i } }

pub note_is : (pace : Pace) (s : SearchState) (query blocks low best : ℕ) → query ≡ length pace.point.settled.items → blocks ≡ (next_state pace s).blocks → low ≡ bound (divisor_of s.code) s.code (next_state pace s).blocks (next_state pace s).weight → best ≡ (next_state pace s).weight
    → ◌≡◌ {A = Record} (record { query = query; blocks = blocks; bound = low; best = best }) (record_of (next_step pace s).note)
unfolding step_of note_of
note_is pace s query blocks low best many done least light =
    let count = many ∙ sym (length-map pace.point.settled.items settled_of) in
    λ i. record { query = count i; blocks = done i; bound = least i; best = light i }
