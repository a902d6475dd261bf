-- One argument, by its name, its sign and its value.
--   named_text                       a key that a name gives has this name
--   taken_key                        an argument that sets something
--   refused_sign, refused_name, refused_again, refused_value      arguments that are refused
--   first_word                       the command
use Rattle.std.proofs.Common.{◌≡◌, ◌⊎◌, ℕ, suc, Bool, true, false, not, ◌&&◌, ◌==◌, List, [], ◌∷◌, ◌++◌, length, Option, Some, None, inl, inr, refl, sym, ap, ◌∙◌, arith}
use Rattle.std.specs.Prelude.{if◌then◌else◌}
use Rattle.std.specs.List.{list_any, after_first}
use Rattle.lc_formats.specs.Text.{same_bytes}
use Rattle.lc_formats.proofs.ByteLaws.{same_from_bytes}
use Rattle.lc_session_rules.specs.Options.{Command, CommandRow, Key, Settings, Options, settings, usage, row, row_named, all_options, options, options_from, settings_of, key_named, key_text, same_key, put_key}
use Rattle.lc_arguments.specs.Asked.{is_equals, name_of}

chosen_key : (t : Bool) (k key : Key) (o : Option Key) → (if t then Some k else o) ≡ Some key → ((t ≡ true) × (k ≡ key)) ⊎ (o ≡ Some key)
chosen_key true k key o e = inl (refl, cc)
chosen_key false k key o e = inr e

pub named_text : (keys : List Key) (text : List ℕ) (key : Key) → key_named keys text ≡ Some key → key_text key ≡ text
unfolding key_named
named_text [] text key e = absurd cc
named_text (k ∷ keys) text key e =
    elim (chosen_key (same_bytes (key_text k) text) k key (key_named keys text) e) [
      | inl h ↦ ap key_text (sym h.1) ∙ same_from_bytes (key_text k) text h.0
      | inr h ↦ named_text keys text key h
    ]

module _ (keys : List Key) (word : List ℕ) (words : List (List ℕ)) (found : List Key) (s : Settings) where
  abbrev after_value : Key → Option Settings → Options
  after_value key o = elim o as (λ _. Options) [ None ↦ usage (suc (length found)) | Some next ↦ options_from keys words (found ++ key ∷ []) next ]

  abbrev after_sign : Key → Bool → Options
  after_sign key b = elim b as (λ _. Options) [ false ↦ usage (suc (length found)) | true ↦ after_value key (put_key key (after_first is_equals word) s) ]

  abbrev after_key : Option Key → Options
  after_key o = elim o as (λ _. Options) [ None ↦ usage (suc (length found)) | Some key ↦ after_sign key (list_any is_equals word && not (list_any (same_key key) found)) ]

  one_argument : options_from keys (word ∷ words) found s ≡ after_key (key_named keys (name_of word))
  unfolding options_from
  one_argument = refl

  pub refused_name : key_named keys (name_of word) ≡ None → options_from keys (word ∷ words) found s ≡ usage (suc (length found))
  refused_name e = one_argument ∙ ap after_key e

  pub taken_key : (key : Key) (next : Settings) → key_named keys (name_of word) ≡ Some key → list_any is_equals word ≡ true → list_any (same_key key) found ≡ false → put_key key (after_first is_equals word) s ≡ Some next → options_from keys (word ∷ words) found s ≡ options_from keys words (found ++ key ∷ []) next
  taken_key key next k q f p =
      let sign : (list_any is_equals word && not (list_any (same_key key) found)) ≡ true = rw (q, f) refl in
      one_argument ∙ ap after_key k ∙ ap (after_sign key) sign ∙ ap (after_value key) p

  key_refused : (o : Option Key) → list_any is_equals word ≡ false → after_key o ≡ usage (suc (length found))
  key_refused None e = refl
  key_refused (Some key) e = rw e refl

  sign_refused : (key : Key) (b : Bool) → put_key key (after_first is_equals word) s ≡ None → after_sign key b ≡ usage (suc (length found))
  sign_refused key false e = refl
  sign_refused key true e = ap (after_value key) e

  pub refused_sign : list_any is_equals word ≡ false → options_from keys (word ∷ words) found s ≡ usage (suc (length found))
  refused_sign e = one_argument ∙ key_refused (key_named keys (name_of word)) e

  pub refused_value : (key : Key) → key_named keys (name_of word) ≡ Some key → put_key key (after_first is_equals word) s ≡ None → options_from keys (word ∷ words) found s ≡ usage (suc (length found))
  refused_value key k e = one_argument ∙ ap after_key k ∙ sign_refused key (list_any is_equals word && not (list_any (same_key key) found)) e

  pub refused_again : (key : Key) → key_named keys (name_of word) ≡ Some key → list_any (same_key key) found ≡ true → options_from keys (word ∷ words) found s ≡ usage (suc (length found))
  refused_again key k e =
      let f : (list_any is_equals word && not (list_any (same_key key) found)) ≡ false = grind (arith, e) in
      one_argument ∙ ap after_key k ∙ ap (after_sign key) f

-- ---- the command

abbrev after_row : List (List ℕ) → Option CommandRow → Options
after_row words o = elim o as (λ _. Options) [ None ↦ usage 0 | Some r ↦ options_from r.keys words [] (settings_of r.command) ]

first_argument : (word : List ℕ) (words : List (List ℕ)) → options all_options (word ∷ words) ≡ after_row words (row_named all_options word)
unfolding options
first_argument word words = refl

pub unknown_word : (word : List ℕ) (words : List (List ℕ)) → row_named all_options word ≡ None → options all_options (word ∷ words) ≡ usage 0
unknown_word word words e = first_argument word words ∙ ap (after_row words) e

pub first_word : (word : List ℕ) (words : List (List ℕ)) (c : Command) (keys : List Key) → row_named all_options word ≡ Some (row c keys) → options all_options (word ∷ words) ≡ options_from keys words [] (settings_of c)
unfolding row
first_word word words c keys e = first_argument word words ∙ ap (after_row words) e
