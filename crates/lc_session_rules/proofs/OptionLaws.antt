-- The settings that arguments ask for: the budget is at most 2^40, and the longest round has a block at least.
--   AreUsual             settings in these ranges
--   options_usual        the settings of arguments that are accepted
--   told_long            a session whose arguments are accepted has rounds of a block or more; any other one told nothing
--   rounds_long          so has one that doesn't end by its arguments
use Rattle.std.proofs.Common.{◌≡◌, ◌≤◌, ◌^◌, ℕ, suc, Bool, true, false, List, [], ◌∷◌, ◌++◌, length, ◌⊎◌, inl, inr, Option, Some, None, refl, sym, subst, arith}
use Rattle.std.specs.Prelude.{option_map, option_and_then, is_some, if◌then◌else◌, ◌&&◌, ◌==◌, not, nat_le}
use Rattle.std.specs.List.{list_any, before_first, after_first}
use Rattle.std.proofs.lemmas.Bool.{and_parts, leb-true}
use Rattle.std.proofs.lemmas.Option.{cond_some}
use Rattle.lc_enumeration.specs.Records.{default_round}
use Rattle.lc_language.specs.declared.Call.{Call}
use Rattle.lc_session_rules.specs.Endings.{Ending, usage as ends_usage}
use Rattle.lc_session_rules.specs.Session.{Outside, Course, Accepts, Ends, IsSession}
use Rattle.lc_session_rules.specs.Options.{Command, run, resume, check, summary, Key, workers, round, budget, slice, keep, seed, CommandRow, Settings, settings_of, number_in, number_within, yes_or_no, put_key, key_named, row_named, same_key, place_of_key, Options, settings, usage, all_options, checked, options_from, options}

mapped : {A B : Type 0} (o : Option A) (f : A → B) (r : B) → option_map f o ≡ Some r → (a : A) × (o ≡ Some a) × (f a ≡ r)
mapped None f r e = absurd (let g = e in cc)
mapped (Some a) f r e = (a, refl, (let g = e in cc))

chained : {A B : Type 0} (o : Option A) (f : A → Option B) (r : B) → option_and_then f o ≡ Some r → (a : A) × (o ≡ Some a) × (f a ≡ Some r)
chained None f r e = absurd (let g = e in cc)
chained (Some a) f r e = (a, refl, e)

within : (low high n : ℕ) (text : List ℕ) → number_within low high text ≡ Some n → (low ≤ n) × (n ≤ high)
unfolding number_within
within low high n text e =
    let (m, x, y) = chained (number_in text) (λ k. if nat_le low k && nat_le k high then Some k else None) n e in
    let (t, same) = cond_some (nat_le low m && nat_le m high) m n y in
    let both = and_parts (nat_le low m) (nat_le m high) t in
    let many = leb-true low m both.0 in
    let few = leb-true m high both.1 in
    (omega (arith, many, same), omega (arith, few, same))

pub record AreUsual (s : Settings) : Type 0 where
  pub budget_is : s.budget ≤ 2 ^ 40
  pub long : 1 ≤ s.round

put_usual : (key : Key) (text : List ℕ) (s next : Settings) → AreUsual s → put_key key text s ≡ Some next → AreUsual next
unfolding put_key
put_usual workers text s next h e = let (a, x, y) = mapped (number_within 1 256 text) (λ n. record s { workers = n }) next e in subst AreUsual y (record { budget_is = h.budget_is; long = h.long })
put_usual round text s next h e = let (a, x, y) = mapped (number_within 1 (2 ^ 20) text) (λ n. record s { round = n }) next e in subst AreUsual y (record { budget_is = h.budget_is; long = (within 1 (2 ^ 20) a text x).0 })
put_usual budget text s next h e = let (a, x, y) = mapped (number_within 0 (2 ^ 40) text) (λ n. record s { budget = n }) next e in subst AreUsual y (record { budget_is = (within 0 (2 ^ 40) a text x).1; long = h.long })
put_usual slice text s next h e = let (a, x, y) = mapped (number_within 1 (2 ^ 40) text) (λ n. record s { slice = Some n }) next e in subst AreUsual y (record { budget_is = h.budget_is; long = h.long })
put_usual keep text s next h e = let (a, x, y) = mapped (yes_or_no text) (λ b. record s { keep = b }) next e in subst AreUsual y (record { budget_is = h.budget_is; long = h.long })
put_usual seed text s next h e = let (a, x, y) = mapped (number_within 0 _ text) (λ n. record s { number = n }) next e in subst AreUsual y (record { budget_is = h.budget_is; long = h.long })

are_same : (s t : Settings) → settings s ≡ settings t → s ≡ t
are_same s t e = (let f = e in cc)

never : {A : Type 0} (i : ℕ) (t : Settings) → usage i ≡ settings t → A
never i t e = absurd (let f = e in cc)

checked_same : (keys : List Key) (s t : Settings) → checked keys s ≡ settings t → s ≡ t
unfolding checked
checked_same keys s t e = by (place_of_key slice keys 1) e
  where
    on_keep : (b : Bool) (i : ℕ) → (if b then settings s else usage i) ≡ settings t → s ≡ t
    on_keep true i k = are_same s t k
    on_keep false i k = never i t k

    on_command : (c : Command) → elim c as (λ _. Options) [ summary ↦ if is_some (place_of_key seed keys 1) then settings s else usage (suc (length keys)) | _ ↦ settings s ] ≡ settings t → s ≡ t
    on_command run k = are_same s t k
    on_command resume k = are_same s t k
    on_command check k = are_same s t k
    on_command summary k = on_keep (is_some (place_of_key seed keys 1)) (suc (length keys)) k

    by : (o : Option ℕ) → elim o as (λ _. Options) [
      | Some i ↦ if s.keep then settings s else usage i
      | None ↦ elim s.command as (λ _. Options) [ summary ↦ if is_some (place_of_key seed keys 1) then settings s else usage (suc (length keys)) | _ ↦ settings s ]
    ] ≡ settings t → s ≡ t
    by (Some i) k = on_keep s.keep i k
    by None k = on_command s.command k

from_usual : (keys : List Key) (words : List (List ℕ)) (found : List Key) (s t : Settings) → AreUsual s → options_from keys words found s ≡ settings t → AreUsual t
unfolding options_from
from_usual keys [] found s t h e = subst AreUsual (checked_same found s t e) h
from_usual keys (word ∷ words) found s t h e =
    on_key keys word words found s t (λ key next k. from_usual keys words (found ++ key ∷ []) next t k) h (key_named keys (before_first (λ b. b == 61) word)) e
  where
    on_key : (keys : List Key) (word : List ℕ) (words : List (List ℕ)) (found : List Key) (s t : Settings) → ((key : Key) (next : Settings) → AreUsual next → options_from keys words (found ++ key ∷ []) next ≡ settings t → AreUsual t) → AreUsual s → (o : Option Key) → elim o as (λ _. Options) [
      | None ↦ usage (suc (length found))
      | Some key ↦ elim ((list_any (λ b. b == 61) word) && not (list_any (same_key key) found)) as (λ _. Options) [
        | false ↦ usage (suc (length found))
        | true ↦ elim (put_key key (after_first (λ b. b == 61) word) s) as (λ _. Options) [ None ↦ usage (suc (length found)) | Some next ↦ options_from keys words (found ++ key ∷ []) next ]
      ]
    ] ≡ settings t → AreUsual t
    on_key keys word words found s t later h None e = never (suc (length found)) t e
    on_key keys word words found s t later h (Some key) e = on_test ((list_any (λ b. b == 61) word) && not (list_any (same_key key) found)) e
      where
        on_put : (o : Option Settings) → put_key key (after_first (λ b. b == 61) word) s ≡ o → elim o as (λ _. Options) [ None ↦ usage (suc (length found)) | Some next ↦ options_from keys words (found ++ key ∷ []) next ] ≡ settings t → AreUsual t
        on_put None p k = never (suc (length found)) t k
        on_put (Some next) p k = later key next (put_usual key (after_first (λ b. b == 61) word) s next h p) k

        on_test : (b : Bool) → elim b as (λ _. Options) [
          | false ↦ usage (suc (length found))
          | true ↦ elim (put_key key (after_first (λ b. b == 61) word) s) as (λ _. Options) [ None ↦ usage (suc (length found)) | Some next ↦ options_from keys words (found ++ key ∷ []) next ]
        ] ≡ settings t → AreUsual t
        on_test false k = never (suc (length found)) t k
        on_test true k = on_put (put_key key (after_first (λ b. b == 61) word) s) refl k

start_usual : (c : Command) → AreUsual (settings_of c)
unfolding settings_of default_round
start_usual c = record { budget_is = omega arith; long = omega arith }

pub options_usual : (table : List CommandRow) (args : List (List ℕ)) (t : Settings) → options table args ≡ settings t → AreUsual t
unfolding options
options_usual table [] t e = never 0 t e
options_usual table (word ∷ words) t e = by (row_named table word) e
  where
    by : (o : Option CommandRow) → elim o as (λ _. Options) [ None ↦ usage 0 | Some r ↦ options_from r.keys words [] (settings_of r.command) ] ≡ settings t → AreUsual t
    by None k = never 0 t k
    by (Some r) k = from_usual r.keys words [] (settings_of r.command) t (start_usual r.command) k

long_or_silent : (o : Options) (asked : Settings) (old new : Outside) (ending : Ending) (course : Course) → ((t : Settings) → o ≡ settings t → AreUsual t) → Accepts o asked old new ending → Ends ending asked course → (course.told ≡ []) ⊎ (1 ≤ asked.round)
long_or_silent (usage i) asked old new ending course h accepts ends = inl (subst (λ (e : Ending). Ends e asked course) accepts.1 ends)
long_or_silent (settings t) asked old new ending course h accepts ends = inr (subst (λ (s : Settings). 1 ≤ s.round) (sym accepts.0) (h t refl).long)

pub told_long : (table : List Call) (args : List (List ℕ)) (old new : Outside) (ending : Ending) (s : IsSession table args old new ending) → (s.course.told ≡ []) ⊎ (1 ≤ s.asked.round)
told_long table args old new ending s = long_or_silent (options all_options args) s.asked old new ending s.course (λ t e. options_usual all_options args t e) s.accepted s.ended

accepted_long : (o : Options) (asked : Settings) (old new : Outside) (ending : Ending) → ((t : Settings) → o ≡ settings t → AreUsual t) → Accepts o asked old new ending → ((i : ℕ) → ¬ (ending ≡ ends_usage i)) → 1 ≤ asked.round
accepted_long (usage i) asked old new ending h accepts other = absurd (other i accepts.1)
accepted_long (settings t) asked old new ending h accepts other = subst (λ (s : Settings). 1 ≤ s.round) (sym accepts.0) (h t refl).long

pub rounds_long : (table : List Call) (args : List (List ℕ)) (old new : Outside) (ending : Ending) (s : IsSession table args old new ending) → ((i : ℕ) → ¬ (ending ≡ ends_usage i)) → 1 ≤ s.asked.round
rounds_long table args old new ending s other = accepted_long (options all_options args) s.asked old new ending (λ t e. options_usual all_options args t e) s.accepted other
