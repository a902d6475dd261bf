-- The arguments of `join`.
--   budget_default, budget_said  the budget without an argument for it, and with one
--   other_command, other_budget, other_word, budget_asked      which argument is refused, and what is asked for
use Rattle.std.proofs.Common.{◌≡◌, ℕ, ◌<◌, ◌≤◌, ◌^◌, true, false, not, if◌then◌else◌, List, length, codes, Option, Some, None, sym, ap, ◌∙◌, arith}
use Rattle.std.specs.Prelude.{String, string_bytes}
use Rattle.std.proofs.lemmas.Bool.{le-leb, lt-leb}
use Rattle.std.proofs.lemmas.List.{length-map}
use Rattle.lc_formats.specs.Text.{same_bytes}
use Rattle.lc_arguments.specs.Asked.{words_of}
use Rattle.lc_share.specs.Asked.{word_at, value_in}
use Rattle.lc_join.specs.Asked.{asked, usage, budget_in, asked_by, join_options}

pub budget_default : {A : Type 0} (words : List (String A)) → length words ≤ 1 → Some (2 ^ 20) ≡ budget_in (words_of words)
unfolding budget_in
budget_default words l = sym (ap (λ b. if b then Some (2 ^ 20) else value_in (codes "budget") 0 (2 ^ 40) (word_at (words_of words) 1)) (le-leb (length (words_of words)) 1 (omega (arith, l, length-map words string_bytes))))

pub budget_said : {A : Type 0} (words : List (String A)) (o : Option ℕ) → 1 < length words → o ≡ value_in (codes "budget") 0 (2 ^ 40) (word_at (words_of words) 1) → o ≡ budget_in (words_of words)
unfolding budget_in
budget_said words o l e = e ∙ sym (ap (λ b. if b then Some (2 ^ 20) else value_in (codes "budget") 0 (2 ^ 40) (word_at (words_of words) 1)) (lt-leb (length (words_of words)) 1 (omega (arith, l, length-map words string_bytes))))

pub other_command : (words : List (List ℕ)) → same_bytes (codes "join") (word_at words 0) ≡ false → usage 0 ≡ join_options words
unfolding join_options
other_command words e = sym (ap (λ b. if not b then usage 0 else asked_by (length words) (budget_in words)) e)

of_join : (words : List (List ℕ)) → same_bytes (codes "join") (word_at words 0) ≡ true → join_options words ≡ asked_by (length words) (budget_in words)
unfolding join_options
of_join words e = ap (λ b. if not b then usage 0 else asked_by (length words) (budget_in words)) e

pub other_budget : (words : List (List ℕ)) → same_bytes (codes "join") (word_at words 0) ≡ true → None ≡ budget_in words → usage 1 ≡ join_options words
unfolding asked_by
other_budget words e b = ap (asked_by (length words)) b ∙ sym (of_join words e)

pub other_word : {A : Type 0} (words : List (String A)) (budget : ℕ) → same_bytes (codes "join") (word_at (words_of words) 0) ≡ true → Some budget ≡ budget_in (words_of words) → 2 < length words → usage 2 ≡ join_options (words_of words)
unfolding asked_by
other_word words budget e b l =
    sym (ap (λ c. if c then asked budget else usage 2) (lt-leb (length (words_of words)) 2 (omega (arith, l, length-map words string_bytes))))
    ∙ ap (asked_by (length (words_of words))) b ∙ sym (of_join (words_of words) e)

pub budget_asked : {A : Type 0} (words : List (String A)) (budget : ℕ) → same_bytes (codes "join") (word_at (words_of words) 0) ≡ true → Some budget ≡ budget_in (words_of words) → length words ≤ 2 → asked budget ≡ join_options (words_of words)
unfolding asked_by
budget_asked words budget e b l =
    sym (ap (λ c. if c then asked budget else usage 2) (le-leb (length (words_of words)) 2 (omega (arith, l, length-map words string_bytes))))
    ∙ ap (asked_by (length (words_of words))) b ∙ sym (of_join (words_of words) e)

pub ruleset budget_laws = (budget_default, budget_said)

pub ruleset options_laws = (other_command, other_budget, other_word, budget_asked)
