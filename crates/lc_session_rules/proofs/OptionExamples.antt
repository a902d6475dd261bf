-- Worked command lines, by evaluation of the definitions.
--   no_words, bad_workers, slice_alone, kept_twice, no_seed      the index of the word that is refused
--   bad_rounds                             rounds of no block, of more than 2^20, and those that are asked for twice or by `check`
--   sliced, longest_round                  the settings of words that are accepted
--   run_or_check                           the commands that are built, with their keys
use Rattle.std.proofs.Common.{◌≡◌, refl}
use Rattle.std.specs.Prelude.{[], ◌∷◌, map, codes, ◌^◌, Some, None, true, false}
use Rattle.lc_grammar.specs.Token.{is_digit, number_from, number_of, widest}
use Rattle.lc_formats.specs.Text.{same_bytes}
use Rattle.lc_session_rules.specs.Options.{run, settings, usage, command_text, key_text, row, all_options, run_and_check, settings_of, number_in, number_within, yes_or_no, put_key, key_named, row_named, same_key, place_of_key, checked, options_from, options}
use Rattle.lc_session_rules.specs.Options as words
use Rattle.lc_enumeration.specs.Records.{default_round}

pub no_words : options all_options [] ≡ usage 0
unfolding is_digit number_from number_of widest same_bytes command_text key_text row all_options run_and_check default_round settings_of number_in number_within yes_or_no put_key key_named row_named same_key place_of_key checked options_from options
no_words = refl

pub bad_workers : options all_options (codes "run" ∷ codes "workers=0" ∷ []) ≡ usage 1
unfolding is_digit number_from number_of widest same_bytes command_text key_text row all_options run_and_check default_round settings_of number_in number_within yes_or_no put_key key_named row_named same_key place_of_key checked options_from options
bad_workers = refl

pub slice_alone : options all_options (codes "run" ∷ codes "slice=2" ∷ []) ≡ usage 1
unfolding is_digit number_from number_of widest same_bytes command_text key_text row all_options run_and_check default_round settings_of number_in number_within yes_or_no put_key key_named row_named same_key place_of_key checked options_from options
slice_alone = refl

pub kept_twice : options all_options (codes "run" ∷ codes "keep=yes" ∷ codes "keep=no" ∷ []) ≡ usage 2
unfolding is_digit number_from number_of widest same_bytes command_text key_text row all_options run_and_check default_round settings_of number_in number_within yes_or_no put_key key_named row_named same_key place_of_key checked options_from options
kept_twice = refl

pub no_seed : options all_options (codes "summary" ∷ []) ≡ usage 1
unfolding is_digit number_from number_of widest same_bytes command_text key_text row all_options run_and_check default_round settings_of number_in number_within yes_or_no put_key key_named row_named same_key place_of_key checked options_from options
no_seed = refl

pub sliced : options all_options (codes "resume" ∷ codes "slice=3" ∷ codes "keep=yes" ∷ []) ≡ settings (record { command = words.resume; workers = 1; round = 256; budget = 2 ^ 20; slice = Some 3; keep = true; number = 0 })
unfolding is_digit number_from number_of widest same_bytes command_text key_text row all_options run_and_check default_round settings_of number_in number_within yes_or_no put_key key_named row_named same_key place_of_key checked options_from options
sliced = refl

pub run_or_check : map (options run_and_check) ((codes "run" ∷ []) ∷ (codes "run" ∷ codes "run" ∷ []) ∷ (codes "check" ∷ []) ∷ (codes "check" ∷ codes "budget=7" ∷ []) ∷ (codes "resume" ∷ []) ∷ (codes "run" ∷ codes "budget=7" ∷ codes "slice=1" ∷ []) ∷ []) ≡ settings (settings_of run) ∷ usage 1 ∷ settings (settings_of words.check) ∷ usage 1 ∷ usage 0 ∷ usage 2 ∷ []
unfolding is_digit number_from number_of widest same_bytes command_text key_text row all_options run_and_check default_round settings_of number_in number_within yes_or_no put_key key_named row_named same_key place_of_key checked options_from options
run_or_check = refl

pub bad_rounds : map (options all_options) ((codes "run" ∷ codes "round=0" ∷ []) ∷ (codes "resume" ∷ codes "round=1048577" ∷ []) ∷ (codes "run" ∷ codes "round=7" ∷ codes "round=7" ∷ []) ∷ (codes "check" ∷ codes "round=7" ∷ []) ∷ (codes "run" ∷ codes "round=" ∷ []) ∷ []) ≡ usage 1 ∷ usage 1 ∷ usage 2 ∷ usage 1 ∷ usage 1 ∷ []
unfolding is_digit number_from number_of widest same_bytes command_text key_text row all_options run_and_check default_round settings_of number_in number_within yes_or_no put_key key_named row_named same_key place_of_key checked options_from options
bad_rounds = refl

pub longest_round : options all_options (codes "summary" ∷ codes "round=1048576" ∷ codes "seed=4" ∷ []) ≡ settings (record { command = words.summary; workers = 1; round = 2 ^ 20; budget = 2 ^ 20; slice = None; keep = false; number = 4 })
unfolding is_digit number_from number_of widest same_bytes command_text key_text row all_options run_and_check default_round settings_of number_in number_within yes_or_no put_key key_named row_named same_key place_of_key checked options_from options
longest_round = refl
