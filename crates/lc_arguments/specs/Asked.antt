-- The arguments of the command line, one after another.
--   words_of words               the arguments of the command line, as their bytes
--   command_for c, key_for k     the command and the key, as the definitions of the command line see them
--   keys_of c                    the keys of a command
--   row_of c                     a command with its keys
--   settings_for a               what is asked for, as these definitions see it
--   Refuses r o                  o is the refusal r, with its index; want of memory is never one
--   AreWithin s, IsWithin a      all numbers are within their limits, a slice comes only with keep, and keep only with a command
--                                that keeps checkpoints
--   is_equals                    the sign between a name and its value
--   name_of word                 the name in an argument: what comes before its first `=`
--   place_named name names n     the place of this name, the first one of the names having the number n
--   IsCourse c before a          the arguments before are not refused after the command c, and together they ask for a
--   IsRefusedAfter c before word      after these arguments this one is refused
use Rattle.std.specs.Prelude.{◌≡◌, ℕ, suc, ◌+◌, ◌^◌, ◌≤◌, Bool, true, ◌==◌, if◌then◌else◌, List, [], ◌∷◌, ◌++◌, length, map, Option, Some, None, IfSome, String, string_bytes}
use Rattle.std.specs.List.{before_first}
use Rattle.lc_formats.specs.Text.{same_bytes}
use Rattle.lc_session_rules.specs.Options as words
use Rattle.lc_session_rules.specs.Options.{CommandRow, Settings, key_text, options_from, place_of_key, row, settings_of, usage}
use Rattle.lc_arguments.specs.declared.keys.Key.{Key}
use Rattle.lc_arguments.specs.declared.keys.Key.TheVariants as key
use Rattle.lc_arguments.specs.declared.request.Settings.{Settings as Asked}
use Rattle.lc_arguments.specs.declared.request.Command.{Command}
use Rattle.lc_arguments.specs.declared.request.Command.TheVariants as command
use Rattle.lc_arguments.specs.declared.request.OptionRefusal.{OptionRefusal}
use Rattle.lc_arguments.specs.declared.request.OptionRefusal.TheVariants as refusal

abbrev pub words_of : {A : Type 0} → List (String A) → List (List ℕ)
words_of words = map string_bytes words

abbrev pub command_for : Command → words.Command
command_for command.Run = words.run
command_for command.Resume = words.resume
command_for command.Check = words.check
command_for command.Summary = words.summary

abbrev pub key_for : Key → words.Key
key_for key.Workers = words.workers
key_for key.Round = words.round
key_for key.Budget = words.budget
key_for key.Slice = words.slice
key_for key.Keep = words.keep
key_for key.Seed = words.seed

-- the keys of a command
abbrev pub keys_of : words.Command → List words.Key
keys_of words.run = words.workers ∷ words.round ∷ words.budget ∷ words.slice ∷ words.keep ∷ []
keys_of words.resume = words.workers ∷ words.round ∷ words.budget ∷ words.slice ∷ words.keep ∷ []
keys_of words.check = []
keys_of words.summary = words.seed ∷ words.workers ∷ words.round ∷ words.budget ∷ []

abbrev pub row_of : Command → CommandRow
row_of c = row (command_for c) (keys_of (command_for c))

abbrev pub settings_for : Asked → Settings
settings_for a = record { command = command_for a.command; workers = a.workers; round = a.round; budget = a.budget; slice = a.slice; keep = a.keep; number = a.number }

abbrev pub Refuses : OptionRefusal → words.Options → Type 0
Refuses (refusal.Usage i) o = o ≡ usage i
Refuses refusal.NoMemory o = ⊥

-- the command keeps checkpoints if it is asked to
abbrev pub CanKeep : words.Command → Type 0
CanKeep words.run = Unit {0}
CanKeep words.resume = Unit {0}
CanKeep words.check = ⊥
CanKeep words.summary = ⊥

pub record AreWithin (s : Settings) : Type 0 where
  pub some_workers : (1 ≤ s.workers) × (s.workers ≤ 256)
  pub some_blocks : (1 ≤ s.round) × (s.round ≤ 2 ^ 20)
  pub few_blocks : s.budget ≤ 2 ^ 40
  pub sliced : IfSome s.slice (λ n. (1 ≤ n) × (n ≤ 2 ^ 40))
  pub kept : s.keep ≡ true → CanKeep s.command

pub record IsWithin (a : Asked) : Type 0 where
  pub limits : AreWithin (settings_for a)
  pub slice_kept : IfSome a.slice (λ n. a.keep ≡ true)

abbrev pub is_equals : ℕ → Bool
is_equals b = b == 61

abbrev pub name_of : List ℕ → List ℕ
name_of word = before_first is_equals word

abbrev pub place_named : List ℕ → List (List ℕ) → ℕ → Option ℕ
place_named name [] n = None
place_named name (t ∷ names) n = (if same_bytes name t then Some n else place_named name names (suc n))

pub record IsCourse (c : words.Command) (before : List (List ℕ)) (a : Asked) : Type 0 where
  pub found : List words.Key
  pub named : map key_text found ≡ map name_of before
  pub same : command_for a.command ≡ c
  pub within : AreWithin (settings_for a)
  pub unsliced : place_of_key words.slice found 1 ≡ None → a.slice ≡ None
  pub reached : (rest : List (List ℕ)) → options_from (keys_of c) (before ++ rest) [] (settings_of c) ≡ options_from (keys_of c) rest found (settings_for a)

abbrev pub IsRefusedAfter : words.Command → List (List ℕ) → List ℕ → Type 0
IsRefusedAfter c before word = (rest : List (List ℕ)) → options_from (keys_of c) (before ++ word ∷ rest) [] (settings_of c) ≡ usage (length before + 1)
