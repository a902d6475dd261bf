-- The commands and the keys, by their names.
--   named_here, named_later, named_nowhere     the first of some keys with a name, as a loop looks for it
--   check_has_none                             the command without keys
--   is_run, is_resume, is_check, is_summary, is_no_command      the command with a name
use Rattle.std.proofs.Common.{◌≡◌, ℕ, ◌+◌, ◌<◌, ◌≤◌, true, false, List, [], ◌∷◌, length, drop, get_or, map, Option, Some, None, refl, sym, ap, ◌∙◌, arith}
use Rattle.std.specs.Prelude.{codes, option_map, if◌then◌else◌}
use Rattle.std.proofs.lemmas.List.{drop_all, at_drop_more}
use Rattle.lc_formats.specs.Text.{same_bytes}
use Rattle.lc_session_rules.specs.Options as words
use Rattle.lc_session_rules.specs.Options.{all_options, command_text, key_named, key_text, row, row_named}
use Rattle.lc_arguments.specs.declared.keys.Key.{Key}
use Rattle.lc_arguments.specs.declared.request.Command.{Command}
use Rattle.lc_arguments.specs.declared.request.Command.TheVariants as command
use Rattle.lc_arguments.specs.Asked.{command_for, key_for, keys_of, row_of}

first_key : (k : words.Key) (keys : List words.Key) (name : List ℕ) → same_bytes (key_text k) name ≡ true → key_named (k ∷ keys) name ≡ Some k
unfolding key_named
first_key k keys name e = rw e refl

next_key : (k : words.Key) (keys : List words.Key) (name : List ℕ) → same_bytes (key_text k) name ≡ false → key_named (k ∷ keys) name ≡ key_named keys name
unfolding key_named
next_key k keys name e = rw e refl

no_keys : (name : List ℕ) → key_named [] name ≡ None
unfolding key_named
no_keys name = refl

abbrev pub IsNamedFrom : List Key → List ℕ → ℕ → Type 0
IsNamedFrom keys name i = key_named (map key_for keys) name ≡ key_named (map key_for (drop i keys)) name

at_key : (keys : List Key) (name : List ℕ) (i : ℕ) (d key : Key) → IsNamedFrom keys name i → i < length keys → key ≡ get_or keys i d → key_named (map key_for keys) name ≡ key_named (key_for key ∷ map key_for (drop (i + 1) keys)) name
at_key keys name i d key inv l e = inv ∙ at_drop_more (λ r. key_named (map key_for r) name) keys i d l ∙ ap (λ k. key_named (key_for k ∷ map key_for (drop (i + 1) keys)) name) (sym e)

pub named_here : (keys : List Key) (name : List ℕ) (i : ℕ) (d key : Key) → IsNamedFrom keys name i → i < length keys → key ≡ get_or keys i d → same_bytes (key_text (key_for key)) name ≡ true → option_map key_for (Some key) ≡ key_named (map key_for keys) name
named_here keys name i d key inv l e s = sym (at_key keys name i d key inv l e ∙ first_key (key_for key) _ name s)

pub named_later : (keys : List Key) (name : List ℕ) (i : ℕ) (d key : Key) → IsNamedFrom keys name i → i < length keys → key ≡ get_or keys i d → same_bytes (key_text (key_for key)) name ≡ false → IsNamedFrom keys name (i + 1)
named_later keys name i d key inv l e s = at_key keys name i d key inv l e ∙ next_key (key_for key) _ name s

pub named_nowhere : (keys : List Key) (name : List ℕ) (i : ℕ) → IsNamedFrom keys name i → length keys ≤ i → option_map key_for None ≡ key_named (map key_for keys) name
named_nowhere keys name i inv l = sym (inv ∙ ap (λ r. key_named (map key_for r) name) (drop_all i keys l) ∙ no_keys name)

pub check_has_none : (name : List ℕ) → option_map key_for None ≡ key_named [] name
check_has_none name = sym (no_keys name)

-- ---- the command

pub is_run : (name : List ℕ) → same_bytes (codes "run") name ≡ true → option_map row_of (Some command.Run) ≡ row_named all_options name
unfolding all_options row row_named command_text
is_run name a = rw a refl

pub is_resume : (name : List ℕ) → same_bytes (codes "run") name ≡ false → same_bytes (codes "resume") name ≡ true → option_map row_of (Some command.Resume) ≡ row_named all_options name
unfolding all_options row row_named command_text
is_resume name a b = rw (a, b) refl

pub is_check : (name : List ℕ) → same_bytes (codes "run") name ≡ false → same_bytes (codes "resume") name ≡ false → same_bytes (codes "check") name ≡ true → option_map row_of (Some command.Check) ≡ row_named all_options name
unfolding all_options row row_named command_text
is_check name a b c = rw (a, b, c) refl

pub is_summary : (name : List ℕ) → same_bytes (codes "run") name ≡ false → same_bytes (codes "resume") name ≡ false → same_bytes (codes "check") name ≡ false → same_bytes (codes "summary") name ≡ true → option_map row_of (Some command.Summary) ≡ row_named all_options name
unfolding all_options row row_named command_text
is_summary name a b c d = rw (a, b, c, d) refl

pub is_no_command : (name : List ℕ) → same_bytes (codes "run") name ≡ false → same_bytes (codes "resume") name ≡ false → same_bytes (codes "check") name ≡ false → same_bytes (codes "summary") name ≡ false → option_map row_of None ≡ row_named all_options name
unfolding all_options row row_named command_text
is_no_command name a b c d = rw (a, b, c, d) refl

pub ruleset named_laws = (named_here, named_later, named_nowhere)

pub ruleset command_in_laws = (is_run, is_resume, is_check, is_summary, is_no_command)
