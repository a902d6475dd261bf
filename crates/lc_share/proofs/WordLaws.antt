-- The arguments of `part`.
--   word_there, word_beyond      the word of an index
--   value_other, value_key, value_is      the number of key=number
--   one_worker, more_workers     the number of workers
--   not_part, no_start, no_count, no_workers, too_many, all_there      what the words ask for
use Rattle.std.proofs.Common.{◌≡◌, ℕ, zero, suc, ◌<◌, ◌≤◌, ◌^◌, true, false, nat_le, List, [], ◌∷◌, length, get_or, codes, Some, None, refl, sym, ap, ◌∙◌, arith}
use Rattle.std.specs.Prelude.{if◌then◌else◌, slice_index_or, String, string_bytes}
use Rattle.std.specs.List.{list_any, after_first}
use Rattle.std.proofs.lemmas.Bool.{le-leb, lt-leb}
use Rattle.std.proofs.lemmas.List.{get_or-map, length-map}
use Rattle.lc_formats.specs.Text.{same_bytes}
use Rattle.lc_session_rules.specs.Options.{number_within}
use Rattle.lc_arguments.specs.Asked.{words_of, is_equals, name_of}
use Rattle.lc_share.specs.Asked.{asked, usage, word_at, value_in, workers_in, asked_by, part_options}

pub word_there : {A : Type 0} (words : List (String A)) (i : ℕ) (d : String A) (text : List ℕ) → i < length words → text ≡ string_bytes (get_or words i d) → text ≡ word_at (words_of words) i
unfolding word_at
word_there words i d text l e = e ∙ sym (get_or-map string_bytes words i d [] l)

beyond : (xs : List (List ℕ)) (i : ℕ) → length xs ≤ i → [] ≡ slice_index_or xs i []
beyond [] i l = refl
beyond (x ∷ xs) zero l = absurd (omega (arith, l))
beyond (x ∷ xs) (suc i) l = beyond xs i (omega (arith, l))

pub word_beyond : {A : Type 0} (words : List (String A)) (i : ℕ) → length words ≤ i → [] ≡ word_at (words_of words) i
unfolding word_at
word_beyond words i l = beyond (words_of words) i (omega (arith, l, length-map words string_bytes))

pub value_other : (key word : List ℕ) (low high : ℕ) → list_any is_equals word ≡ false → None ≡ value_in key low high word
unfolding value_in
value_other key word low high e = rw e refl

pub value_key : (key word name : List ℕ) (low high : ℕ) → list_any is_equals word ≡ true → name ≡ name_of word → same_bytes key name ≡ false → None ≡ value_in key low high word
unfolding value_in
value_key key word name low high e n s = rw e (rw (ap (same_bytes key) (sym n) ∙ s) refl)

pub value_is : (key word name value : List ℕ) (low high : ℕ) → list_any is_equals word ≡ true → name ≡ name_of word → same_bytes key name ≡ true → value ≡ after_first is_equals word → number_within low high value ≡ value_in key low high word
unfolding value_in
value_is key word name value low high e n s v = rw e (rw (ap (same_bytes key) (sym n) ∙ s) (ap (number_within low high) v))

pub one_worker : (words : List (List ℕ)) → length words ≤ 3 → Some 1 ≡ workers_in words
unfolding workers_in
one_worker words l = rw (le-leb (length words) 3 l) refl

pub more_workers : (words : List (List ℕ)) → 3 < length words → value_in (codes "workers") 1 256 (word_at words 3) ≡ workers_in words
unfolding workers_in
more_workers words l = rw (lt-leb (length words) 3 l) refl

module _ (words : List (List ℕ)) where
  pub not_part : same_bytes (codes "part") (word_at words 0) ≡ false → usage 0 ≡ part_options words
  unfolding part_options
  not_part e = rw e refl

  pub no_start : same_bytes (codes "part") (word_at words 0) ≡ true → None ≡ value_in (codes "from") 0 (2 ^ 40) (word_at words 1) → usage 1 ≡ part_options words
  unfolding part_options asked_by
  no_start e s = rw e (rw (sym s) refl)

  pub no_count : (start : ℕ) → same_bytes (codes "part") (word_at words 0) ≡ true → Some start ≡ value_in (codes "from") 0 (2 ^ 40) (word_at words 1) → None ≡ value_in (codes "count") 1 (2 ^ 40) (word_at words 2) → usage 2 ≡ part_options words
  unfolding part_options asked_by
  no_count start e s c = rw e (rw (sym s) (rw (sym c) refl))

  pub no_workers : (start count : ℕ) → same_bytes (codes "part") (word_at words 0) ≡ true → Some start ≡ value_in (codes "from") 0 (2 ^ 40) (word_at words 1) → Some count ≡ value_in (codes "count") 1 (2 ^ 40) (word_at words 2) → None ≡ workers_in words → usage 3 ≡ part_options words
  unfolding part_options asked_by
  no_workers start count e s c w = rw e (rw (sym s) (rw (sym c) (rw (sym w) refl)))

  numbers_there : (start count workers : ℕ) → same_bytes (codes "part") (word_at words 0) ≡ true → Some start ≡ value_in (codes "from") 0 (2 ^ 40) (word_at words 1) → Some count ≡ value_in (codes "count") 1 (2 ^ 40) (word_at words 2) → Some workers ≡ workers_in words → part_options words ≡ (if nat_le (length words) 4 then asked (record { start = start; count = count; workers = workers }) else usage 4)
  unfolding part_options asked_by
  numbers_there start count workers e s c w = rw e (rw (sym s) (rw (sym c) (rw (sym w) refl)))

  pub too_many : (start count workers : ℕ) → same_bytes (codes "part") (word_at words 0) ≡ true → Some start ≡ value_in (codes "from") 0 (2 ^ 40) (word_at words 1) → Some count ≡ value_in (codes "count") 1 (2 ^ 40) (word_at words 2) → Some workers ≡ workers_in words → 4 < length words → usage 4 ≡ part_options words
  too_many start count workers e s c w l = sym (numbers_there start count workers e s c w ∙ ap (λ b. if b then asked (record { start = start; count = count; workers = workers }) else usage 4) (lt-leb (length words) 4 l))

  pub all_there : (start count workers : ℕ) → same_bytes (codes "part") (word_at words 0) ≡ true → Some start ≡ value_in (codes "from") 0 (2 ^ 40) (word_at words 1) → Some count ≡ value_in (codes "count") 1 (2 ^ 40) (word_at words 2) → Some workers ≡ workers_in words → length words ≤ 4 → asked (record { start = start; count = count; workers = workers }) ≡ part_options words
  all_there start count workers e s c w l = sym (numbers_there start count workers e s c w ∙ ap (λ b. if b then asked (record { start = start; count = count; workers = workers }) else usage 4) (le-leb (length words) 4 l))

pub ruleset word_laws = (word_there, word_beyond)

pub ruleset value_laws = (value_other, value_key, value_is)

pub ruleset workers_laws = (one_worker, more_workers)

pub ruleset options_laws = (not_part, no_start, no_count, no_workers, too_many, all_there)
