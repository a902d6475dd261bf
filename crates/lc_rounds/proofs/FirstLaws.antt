-- A search that starts.
--   first_fits             its state fits its code
use Rattle.std.proofs.Common.{◌≡◌, ℕ, ◌<◌, true, length, refl, sym, ap, inl}
use Rattle.std.specs.Prelude.{option_map}
use Rattle.lc_algebra.specs.Word.{weight}
use Rattle.lc_algebra.specs.Matrix.{Matrix}
use Rattle.lc_enumeration.specs.Search.{set_count, word_of, found_first, fits}
use Rattle.lc_enumeration.specs.Records.{found_of, progress_of, first_progress}
use Rattle.lc_infoset.proofs.BestLaws.{first_message, first_at_zero}
use Rattle.lc_infoset.proofs.AnswerLaws.{some_set}
use Rattle.lc_search.specs.State.{first_state}
use Rattle.lc_search.proofs.FitLaws.{word_fits}

pub first_fits : (C : Matrix) (budget : ℕ) → 0 < length C.rows → fits (first_state C budget).code (first_state C budget).progress.blocks (found_of (first_state C budget).progress) ≡ true
unfolding first_state found_of first_progress progress_of found_first
first_fits C budget rows =
    let w = weight (word_of C (set_count C) 0 first_message) in
    word_fits C 0 w 0 w (sym (ap (option_map weight) (first_at_zero C (set_count C) rows (some_set C)))) refl (inl refl)
