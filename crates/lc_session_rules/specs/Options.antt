-- The arguments of the command line, read from the left. The first argument is the command, and every further argument is key=value.
--   Command                   run, resume, check or summary
--   Key                       workers, round, budget, slice, keep, seed
--   Settings                  what the arguments ask for: `round` is the longest round, in blocks; a number is the value of seed, 0
--                             where there is none
--   CommandRow                a command with its keys; of a table of such rows, a command or key that it lacks is an unknown one
--   all_options               the table with all of them
--   run_and_check             the table of a program that knows `run` with the keys workers and budget, and `check`
--   number_in text            the number that the text writes: one to twenty digits with no leading zero, save 0 itself
--   put_key key text s        the settings after an argument; None where the value is bad
--   options table arguments   the settings, or the index of the argument that is refused
use Rattle.std.specs.Prelude.{ℕ, suc, ◌^◌, Bool, true, false, not, nat_le, ◌==◌, ◌&&◌, ◌||◌, if◌then◌else◌, List, [], ◌∷◌, ◌++◌, length, codes, Option, Some, None, is_some, option_map, option_and_then, slice_index}
use Rattle.std.specs.List.{list_all, list_any, before_first, after_first}
use Rattle.lc_enumeration.specs.Records.{default_round}
use Rattle.lc_grammar.specs.Token.{is_digit, number_of, widest}
use Rattle.lc_formats.specs.Text.{same_bytes}

pub data Command : Type 0 where
  run : Command
  resume : Command
  check : Command
  summary : Command

pub data Key : Type 0 where
  workers : Key
  round : Key
  budget : Key
  slice : Key
  keep : Key
  seed : Key

unfoldable pub command_text : Command → List ℕ
command_text run = codes "run"
command_text resume = codes "resume"
command_text check = codes "check"
command_text summary = codes "summary"

unfoldable pub key_text : Key → List ℕ
key_text workers = codes "workers"
key_text round = codes "round"
key_text budget = codes "budget"
key_text slice = codes "slice"
key_text keep = codes "keep"
key_text seed = codes "seed"

pub record CommandRow : Type 0 where
  pub command : Command
  pub keys : List Key

unfoldable pub row : Command → List Key → CommandRow
row c keys = record { command = c; keys = keys }

unfoldable pub all_options : List CommandRow
all_options = row run (workers ∷ round ∷ budget ∷ slice ∷ keep ∷ []) ∷ row resume (workers ∷ round ∷ budget ∷ slice ∷ keep ∷ []) ∷ row check [] ∷ row summary (seed ∷ workers ∷ round ∷ budget ∷ []) ∷ []

unfoldable pub run_and_check : List CommandRow
run_and_check = row run (workers ∷ budget ∷ []) ∷ row check [] ∷ []

pub record Settings : Type 0 where
  pub command : Command
  pub workers : ℕ
  pub round : ℕ
  pub budget : ℕ
  pub slice : Option ℕ
  pub keep : Bool
  pub number : ℕ

unfoldable pub settings_of : Command → Settings
settings_of c = record { command = c; workers = 1; round = default_round; budget = 2 ^ 20; slice = None; keep = false; number = 0 }

-- one to twenty digits, the first one not 0 unless it is the only one, and a number of at most 64 bits
unfoldable pub number_in : List ℕ → Option ℕ
number_in text = (if nat_le 1 (length text) && (nat_le (length text) 20 && (list_all is_digit text && (((length text == 1) || not (slice_index text 0 == 48)) && nat_le (number_of text) widest))) then Some (number_of text) else None)

unfoldable pub number_within : ℕ → ℕ → List ℕ → Option ℕ
number_within low high text = option_and_then (λ n. if nat_le low n && nat_le n high then Some n else None) (number_in text)

unfoldable pub yes_or_no : List ℕ → Option Bool
yes_or_no text = (if same_bytes text (codes "yes") then Some true else (if same_bytes text (codes "no") then Some false else None))

unfoldable pub put_key : Key → List ℕ → Settings → Option Settings
put_key workers text s = option_map (λ n. record s { workers = n }) (number_within 1 256 text)
put_key round text s = option_map (λ n. record s { round = n }) (number_within 1 (2 ^ 20) text)
put_key budget text s = option_map (λ n. record s { budget = n }) (number_within 0 (2 ^ 40) text)
put_key slice text s = option_map (λ n. record s { slice = Some n }) (number_within 1 (2 ^ 40) text)
put_key keep text s = option_map (λ b. record s { keep = b }) (yes_or_no text)
put_key seed text s = option_map (λ n. record s { number = n }) (number_within 0 widest text)

unfoldable pub key_named : List Key → List ℕ → Option Key
key_named [] text = None
key_named (k ∷ keys) text = (if same_bytes (key_text k) text then Some k else key_named keys text)

unfoldable pub row_named : List CommandRow → List ℕ → Option CommandRow
row_named [] text = None
row_named (r ∷ table) text = (if same_bytes (command_text r.command) text then Some r else row_named table text)

unfoldable pub same_key : Key → Key → Bool
same_key a b = same_bytes (key_text a) (key_text b)

unfoldable pub place_of_key : Key → List Key → ℕ → Option ℕ
place_of_key key [] i = None
place_of_key key (k ∷ found) i = (if same_key key k then Some i else place_of_key key found (suc i))

pub data Options : Type 0 where
  settings : Settings → Options
  usage : ℕ → Options

-- a slice asks for keep=yes, and a summary for a seed
unfoldable pub checked : List Key → Settings → Options
checked keys s =
    elim (place_of_key slice keys 1) as (λ _. Options) [
      | Some i ↦ if s.keep then settings s else usage i
      | None ↦ elim s.command as (λ _. Options) [ summary ↦ if is_some (place_of_key seed keys 1) then settings s else usage (suc (length keys)) | _ ↦ settings s ]
    ]

-- the arguments after the command; the keys of the arguments so far stand in their order
unfoldable pub options_from : List Key → List (List ℕ) → List Key → Settings → Options
options_from keys [] found s = checked found s
options_from keys (argument ∷ arguments) found s =
    elim (key_named keys (before_first (λ b. b == 61) argument)) as (λ _. Options) [
      | None ↦ usage (suc (length found))
      | Some key ↦ elim ((list_any (λ b. b == 61) argument) && not (list_any (same_key key) found)) as (λ _. Options) [
        | false ↦ usage (suc (length found))
        | true ↦ elim (put_key key (after_first (λ b. b == 61) argument) s) as (λ _. Options) [ None ↦ usage (suc (length found)) | Some next ↦ options_from keys arguments (found ++ key ∷ []) next ]
      ]
    ]

unfoldable pub options : List CommandRow → List (List ℕ) → Options
options table [] = usage 0
options table (argument ∷ arguments) = elim (row_named table argument) as (λ _. Options) [ None ↦ usage 0 | Some r ↦ options_from r.keys arguments [] (settings_of r.command) ]
