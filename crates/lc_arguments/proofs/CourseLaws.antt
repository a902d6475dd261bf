-- The arguments so far.
--   place_here, place_later, place_nowhere       the first argument with a key, as a loop looks for it
--   course_first, course_more                    no argument, and one more that is not refused
--   course_sign, course_name, course_again, course_value      an argument that is refused
--   ends_kept, ends_unkept, ends_seedless, ends_seeded, ends_plain      the end of the arguments
use Rattle.std.proofs.Common.{◌≡◌, ◌⊎◌, inl, inr, Result, ℕ, suc, ◌+◌, ◌^◌, String, string_bytes, ◌<◌, ◌≤◌, Bool, true, false, List, [], ◌∷◌, ◌++◌, length, drop, take, get_or, map, Option, Some, None, refl, sym, ap, subst, ◌∙◌, arith}
use Rattle.std.specs.Prelude.{if◌then◌else◌, is_some, option_map, ◌||◌, IfSome, MatchOption, MatchResult}
use Rattle.std.specs.List.{list_any, after_first}
use Rattle.std.proofs.lemmas.List.{drop_all, at_drop_more, get_or-map, take_more, take-append-drop, length-take-le, append-nil, append_assoc, map-append, length-append, length-map}
use Rattle.lc_formats.specs.Text.{same_bytes}
use Rattle.lc_enumeration.specs.Records.{default_round}
use Rattle.lc_session_rules.specs.Options.{Command, run, resume, check, summary, Key, workers, round, budget, slice, keep, seed, Settings, Options, settings, usage, row_named, all_options, options, options_from, checked, settings_of, key_named, key_text, same_key, place_of_key, put_key, number_within, yes_or_no}
use Rattle.lc_session_rules.proofs.OptionExamples.{no_words}
use Rattle.lc_grammar.specs.Token.{widest}
use Rattle.lc_arguments.specs.declared.request.Settings.{Settings as Asked}
use Rattle.lc_arguments.specs.declared.request.Command as asked
use Rattle.lc_arguments.specs.declared.request.Command.TheVariants as command
use Rattle.lc_arguments.specs.Asked.{words_of, command_for, row_of, keys_of, settings_for, CanKeep, AreWithin, IsWithin, is_equals, name_of, place_named, IsCourse, IsRefusedAfter}
use Rattle.lc_arguments.proofs.NumberLaws.{in_range}
use Rattle.lc_arguments.proofs.ArgumentLaws.{unknown_word, first_word, named_text, taken_key, refused_sign, refused_name, refused_again, refused_value}

-- ---- the first argument with a name

abbrev pub IsPlacedFrom : List ℕ → List (List ℕ) → ℕ → Type 0
IsPlacedFrom t names i = place_named t names 1 ≡ place_named t (drop i names) (suc i)

at_name : (t : List ℕ) (names : List (List ℕ)) (i : ℕ) (name : List ℕ) → IsPlacedFrom t names i → i < length names → name ≡ get_or names i [] → place_named t names 1 ≡ place_named t (name ∷ drop (i + 1) names) (suc i)
at_name t names i name inv l e = inv ∙ at_drop_more (λ r. place_named t r (suc i)) names i [] l ∙ ap (λ k. place_named t (k ∷ drop (i + 1) names) (suc i)) (sym e)

pub place_here : (t : List ℕ) (names : List (List ℕ)) (i : ℕ) (name : List ℕ) → IsPlacedFrom t names i → i < length names → name ≡ get_or names i [] → same_bytes t name ≡ true → Some (i + 1) ≡ place_named t names 1
place_here t names i name inv l e s =
    let one : suc i ≡ i + 1 = omega arith in
    sym (at_name t names i name inv l e ∙ rw s (ap (λ n. Some n) one))

pub place_later : (t : List ℕ) (names : List (List ℕ)) (i : ℕ) (name : List ℕ) → IsPlacedFrom t names i → i < length names → name ≡ get_or names i [] → same_bytes t name ≡ false → IsPlacedFrom t names (i + 1)
place_later t names i name inv l e s =
    let one : suc (suc i) ≡ suc (i + 1) = omega arith in
    at_name t names i name inv l e ∙ rw s (ap (place_named t (drop (i + 1) names)) one)

pub place_nowhere : (t : List ℕ) (names : List (List ℕ)) (i : ℕ) → IsPlacedFrom t names i → length names ≤ i → None ≡ place_named t names 1
place_nowhere t names i inv l = sym (inv ∙ ap (λ r. place_named t r (suc i)) (drop_all i names l))

-- a name among those of the arguments, as a loop reads it
pub name_at : {A : Type 0} (arguments : List (String A)) (i : ℕ) (d : String A) (argument name : List ℕ) → i < length arguments → argument ≡ string_bytes (get_or arguments i d) → name ≡ name_of argument → name ≡ get_or (map name_of (words_of arguments)) i []
name_at arguments i d argument name l e f =
    f ∙ ap name_of (e ∙ sym (get_or-map string_bytes arguments i d [] l))
    ∙ sym (get_or-map name_of (words_of arguments) i [] [] (subst (λ n. i < n) (sym (length-map arguments string_bytes)) l))

pub inside_names : {A : Type 0} (arguments : List (String A)) (i : ℕ) → i < length arguments → i < length (map name_of (words_of arguments))
inside_names arguments i l = subst (λ n. i < n) (sym (length-map (words_of arguments) name_of ∙ length-map arguments string_bytes)) l

pub beyond_names : {A : Type 0} (arguments : List (String A)) (i : ℕ) → length arguments ≤ i → length (map name_of (words_of arguments)) ≤ i
beyond_names arguments i l = subst (λ n. n ≤ i) (sym (length-map (words_of arguments) name_of ∙ length-map arguments string_bytes)) l

-- ---- the keys found, and their names

pub place_key : (key : Key) (found : List Key) (n : ℕ) → place_of_key key found n ≡ place_named (key_text key) (map key_text found) n
unfolding place_of_key same_key
place_key key [] n = refl
place_key key (k ∷ found) n = ap (λ o. if same_bytes (key_text key) (key_text k) then Some n else o) (place_key key found (suc n))

any_step : (t x : Bool) (n : ℕ) (o : Option ℕ) → x ≡ is_some o → (t || x) ≡ is_some (if t then Some n else o)
any_step true x n o e = refl
any_step false x n o e = e

any_place : (key : Key) (found : List Key) (n : ℕ) → list_any (same_key key) found ≡ is_some (place_of_key key found n)
unfolding place_of_key
any_place key [] n = refl
any_place key (k ∷ found) n = any_step (same_key key k) (list_any (same_key key) found) n (place_of_key key found (suc n)) (any_place key found (suc n))

none_step : (t : Bool) (n : ℕ) (o : Option ℕ) → (if t then Some n else o) ≡ None → (t ≡ false) × (o ≡ None)
none_step true n o e = absurd cc
none_step false n o e = (refl, e)

none_more : (k key : Key) (found : List Key) (n : ℕ) → place_of_key k (found ++ key ∷ []) n ≡ None → (place_of_key k found n ≡ None) × (same_key k key ≡ false)
unfolding place_of_key
none_more k key [] n e = (refl, (none_step (same_key k key) n None e).0)
none_more k key (f ∷ found) n e =
    let p = none_step (same_key k f) n (place_of_key k (found ++ key ∷ []) (suc n)) e in
    let q = none_more k key found (suc n) p.1 in
    let t = p.0 in
    (rw t q.0, q.1)

-- ---- what a value changes

mapped : {X : Type 0} (P : Settings → Type 0) (g : X → Settings) (o : Option X) (next : Settings) → option_map g o ≡ Some next → ((x : X) → o ≡ Some x → P (g x)) → P next
mapped P g None next e f = absurd cc
mapped P g (Some x) next e f =
    let is : g x ≡ next = cc in
    subst P is (f x refl)

put_same : (key : Key) (text : List ℕ) (s next : Settings) → put_key key text s ≡ Some next → next.command ≡ s.command
unfolding put_key
put_same workers text s next e = mapped (λ t. t.command ≡ s.command) (λ n. record s { workers = n }) (number_within 1 256 text) next e (λ n h. refl)
put_same round text s next e = mapped (λ t. t.command ≡ s.command) (λ n. record s { round = n }) (number_within 1 (2 ^ 20) text) next e (λ n h. refl)
put_same budget text s next e = mapped (λ t. t.command ≡ s.command) (λ n. record s { budget = n }) (number_within 0 (2 ^ 40) text) next e (λ n h. refl)
put_same slice text s next e = mapped (λ t. t.command ≡ s.command) (λ n. record s { slice = Some n }) (number_within 1 (2 ^ 40) text) next e (λ n h. refl)
put_same keep text s next e = mapped (λ t. t.command ≡ s.command) (λ b. record s { keep = b }) (yes_or_no text) next e (λ b h. refl)
put_same seed text s next e = mapped (λ t. t.command ≡ s.command) (λ n. record s { number = n }) (number_within 0 widest text) next e (λ n h. refl)

put_slice : (key : Key) (text : List ℕ) (s next : Settings) → put_key key text s ≡ Some next → same_key slice key ≡ false → next.slice ≡ s.slice
unfolding put_key same_key key_text same_bytes
put_slice workers text s next e f = mapped (λ t. t.slice ≡ s.slice) (λ n. record s { workers = n }) (number_within 1 256 text) next e (λ n h. refl)
put_slice round text s next e f = mapped (λ t. t.slice ≡ s.slice) (λ n. record s { round = n }) (number_within 1 (2 ^ 20) text) next e (λ n h. refl)
put_slice budget text s next e f = mapped (λ t. t.slice ≡ s.slice) (λ n. record s { budget = n }) (number_within 0 (2 ^ 40) text) next e (λ n h. refl)
put_slice slice text s next e f = absurd cc
put_slice keep text s next e f = mapped (λ t. t.slice ≡ s.slice) (λ b. record s { keep = b }) (yes_or_no text) next e (λ b h. refl)
put_slice seed text s next e f = mapped (λ t. t.slice ≡ s.slice) (λ n. record s { number = n }) (number_within 0 widest text) next e (λ n h. refl)

-- the command keeps checkpoints, if it has this key and the key is keep
abbrev KeepsIf : Key → Command → Type 0
KeepsIf workers c = Unit {0}
KeepsIf round c = Unit {0}
KeepsIf budget c = Unit {0}
KeepsIf slice c = Unit {0}
KeepsIf keep c = CanKeep c
KeepsIf seed c = Unit {0}

put_within : (key : Key) (text : List ℕ) (s next : Settings) → put_key key text s ≡ Some next → KeepsIf key s.command → AreWithin s → AreWithin next
unfolding put_key
put_within workers text s next e k w = mapped AreWithin (λ n. record s { workers = n }) (number_within 1 256 text) next e (λ n h. record { some_workers = in_range 1 256 n text h; some_blocks = w.some_blocks; few_blocks = w.few_blocks; sliced = w.sliced; kept = w.kept })
put_within round text s next e k w = mapped AreWithin (λ n. record s { round = n }) (number_within 1 (2 ^ 20) text) next e (λ n h. record { some_workers = w.some_workers; some_blocks = in_range 1 (2 ^ 20) n text h; few_blocks = w.few_blocks; sliced = w.sliced; kept = w.kept })
put_within budget text s next e k w = mapped AreWithin (λ n. record s { budget = n }) (number_within 0 (2 ^ 40) text) next e (λ n h. record { some_workers = w.some_workers; some_blocks = w.some_blocks; few_blocks = (in_range 0 (2 ^ 40) n text h).1; sliced = w.sliced; kept = w.kept })
put_within slice text s next e k w = mapped AreWithin (λ n. record s { slice = Some n }) (number_within 1 (2 ^ 40) text) next e (λ n h. record { some_workers = w.some_workers; some_blocks = w.some_blocks; few_blocks = w.few_blocks; sliced = in_range 1 (2 ^ 40) n text h; kept = w.kept })
put_within keep text s next e k w = mapped AreWithin (λ b. record s { keep = b }) (yes_or_no text) next e (λ b h. record { some_workers = w.some_workers; some_blocks = w.some_blocks; few_blocks = w.few_blocks; sliced = w.sliced; kept = λ t. k })
put_within seed text s next e k w = mapped AreWithin (λ n. record s { number = n }) (number_within 0 widest text) next e (λ n h. record { some_workers = w.some_workers; some_blocks = w.some_blocks; few_blocks = w.few_blocks; sliced = w.sliced; kept = w.kept })

-- a key of a command that is keep is a key of run or resume
if_some : (t : Bool) (k key : Key) (o : Option Key) (P : Key → Type 0) → (if t then Some k else o) ≡ Some key → P k → (o ≡ Some key → P key) → P key
if_some true k key o P e p f = let is : k ≡ key = cc in subst P is p
if_some false k key o P e p f = f e

keeps_if : (c : Command) (text : List ℕ) (key : Key) → key_named (keys_of c) text ≡ Some key → KeepsIf key c
unfolding key_named
keeps_if run text key e = any_key key where
  any_key : (k : Key) → KeepsIf k run
  any_key workers = tt
  any_key round = tt
  any_key budget = tt
  any_key slice = tt
  any_key keep = tt
  any_key seed = tt
keeps_if resume text key e = any_key key where
  any_key : (k : Key) → KeepsIf k resume
  any_key workers = tt
  any_key round = tt
  any_key budget = tt
  any_key slice = tt
  any_key keep = tt
  any_key seed = tt
keeps_if check text key e = absurd cc
keeps_if summary text key e =
    let P : Key → Type 0 = λ k. KeepsIf k summary in
    if_some (same_bytes (key_text seed) text) seed key (key_named (workers ∷ round ∷ budget ∷ []) text) P e tt
    (λ f. if_some (same_bytes (key_text workers) text) workers key (key_named (round ∷ budget ∷ []) text) P f tt
    (λ g. if_some (same_bytes (key_text round) text) round key (key_named (budget ∷ []) text) P g tt
    (λ h. if_some (same_bytes (key_text budget) text) budget key (key_named [] text) P h tt (λ i. absurd cc))))

-- ---- what is asked for in the end

abbrev at_command : List Key → Settings → Command → Options
at_command found s c = elim c as (λ _. Options) [ summary ↦ if is_some (place_of_key seed found 1) then settings s else usage (suc (length found)) | _ ↦ settings s ]

abbrev at_slice : List Key → Settings → Option ℕ → Options
at_slice found s o = elim o as (λ _. Options) [ Some i ↦ if s.keep then settings s else usage i | None ↦ at_command found s s.command ]

checked_is : (found : List Key) (s : Settings) → checked found s ≡ at_slice found s (place_of_key slice found 1)
unfolding checked
checked_is found s = refl

checked_sliced : (found : List Key) (s : Settings) (i : ℕ) → place_of_key slice found 1 ≡ Some i → checked found s ≡ (if s.keep then settings s else usage i)
checked_sliced found s i e = checked_is found s ∙ ap (at_slice found s) e

checked_summary : (found : List Key) (s : Settings) (t : Bool) → place_of_key slice found 1 ≡ None → s.command ≡ summary → is_some (place_of_key seed found 1) ≡ t → checked found s ≡ (if t then settings s else usage (suc (length found)))
checked_summary found s t e is f = checked_is found s ∙ ap (at_slice found s) e ∙ ap (at_command found s) is ∙ ap (λ b. if b then settings s else usage (suc (length found))) f

checked_plain : (found : List Key) (s : Settings) (c : Command) → place_of_key slice found 1 ≡ None → s.command ≡ c → ¬ (c ≡ summary) → checked found s ≡ settings s
checked_plain found s run e is other = checked_is found s ∙ ap (at_slice found s) e ∙ ap (at_command found s) is
checked_plain found s resume e is other = checked_is found s ∙ ap (at_slice found s) e ∙ ap (at_command found s) is
checked_plain found s check e is other = checked_is found s ∙ ap (at_slice found s) e ∙ ap (at_command found s) is
checked_plain found s summary e is other = absurd (other refl)

-- ---- the arguments so far

first_settings : (c : Command) (a : Asked) → command_for a.command ≡ c → a.workers ≡ 1 → a.round ≡ 256 → a.budget ≡ 2 ^ 20 → a.slice ≡ None → a.keep ≡ false → a.number ≡ 0 → settings_of c ≡ settings_for a
unfolding settings_of default_round
first_settings c a same w r b s k n = cc

pub course_first : (c : Command) (a : Asked) → command_for a.command ≡ c → a.workers ≡ 1 → a.round ≡ 256 → a.budget ≡ 2 ^ 20 → a.slice ≡ None → a.keep ≡ false → a.number ≡ 0 → IsCourse c [] a
course_first c a same w r b s k n = record {
  found = [];
  named = refl;
  same = same;
  within = record { some_workers = (omega (arith, w), omega (arith, w)); some_blocks = (omega (arith, r), omega (arith, r)); few_blocks = omega (arith, b); sliced = rw s tt; kept = λ t. absurd cc };
  unsliced = λ e. s;
  reached = λ rest. ap (options_from (keys_of c) rest []) (first_settings c a same w r b s k n);
}

module _ (c : Command) (before : List (List ℕ)) (a : Asked) (course : IsCourse c before a) where
  counted : suc (length course.found) ≡ length before + 1
  counted =
      let n : length course.found ≡ length before = sym (length-map course.found key_text) ∙ ap length course.named ∙ length-map before name_of in
      omega (arith, n)

  -- the place of a key among the keys found is that of its name
  pub placed : (key : Key) → place_of_key key course.found 1 ≡ place_named (key_text key) (map name_of before) 1
  placed key = place_key key course.found 1 ∙ ap (λ names. place_named (key_text key) names 1) course.named

  any_placed : (key : Key) (t : Bool) → is_some (place_named (key_text key) (map name_of before) 1) ≡ t → list_any (same_key key) course.found ≡ t
  any_placed key t e = any_place key course.found 1 ∙ ap (λ o. is_some o) (placed key) ∙ e

  refused_then : (word : List ℕ) (rest : List (List ℕ)) → options_from (keys_of c) (word ∷ rest) course.found (settings_for a) ≡ usage (suc (length course.found)) → options_from (keys_of c) (before ++ word ∷ rest) [] (settings_of c) ≡ usage (length before + 1)
  refused_then word rest e = course.reached (word ∷ rest) ∙ e ∙ ap usage counted

  pub course_sign : (word : List ℕ) → list_any is_equals word ≡ false → IsRefusedAfter c before word
  course_sign word e rest = refused_then word rest (refused_sign (keys_of c) word rest course.found (settings_for a) e)

  pub course_name : (word : List ℕ) → key_named (keys_of c) (name_of word) ≡ None → IsRefusedAfter c before word
  course_name word e rest = refused_then word rest (refused_name (keys_of c) word rest course.found (settings_for a) e)

  pub course_again : (word : List ℕ) (key : Key) → key_named (keys_of c) (name_of word) ≡ Some key → is_some (place_named (key_text key) (map name_of before) 1) ≡ true → IsRefusedAfter c before word
  course_again word key k e rest = refused_then word rest (refused_again (keys_of c) word rest course.found (settings_for a) key k (any_placed key true e))

  pub course_value : (word : List ℕ) (key : Key) → key_named (keys_of c) (name_of word) ≡ Some key → put_key key (after_first is_equals word) (settings_for a) ≡ None → IsRefusedAfter c before word
  course_value word key k e rest = refused_then word rest (refused_value (keys_of c) word rest course.found (settings_for a) key k e)

  pub course_more : (word : List ℕ) (key : Key) (next : Asked) → list_any is_equals word ≡ true → key_named (keys_of c) (name_of word) ≡ Some key → is_some (place_named (key_text key) (map name_of before) 1) ≡ false → put_key key (after_first is_equals word) (settings_for a) ≡ Some (settings_for next) → IsCourse c (before ++ word ∷ []) next
  course_more word key next sign k free put = record {
    found = course.found ++ key ∷ [];
    named = map-append key_text course.found (key ∷ []) ∙ ap (λ names. names ++ key_text key ∷ []) course.named ∙ ap (λ t. map name_of before ++ t ∷ []) (named_text (keys_of c) (name_of word) key k) ∙ sym (map-append name_of before (word ∷ []));
    same = put_same key (after_first is_equals word) (settings_for a) (settings_for next) put ∙ course.same;
    within = put_within key (after_first is_equals word) (settings_for a) (settings_for next) put (subst (KeepsIf key) (sym course.same) (keeps_if c (name_of word) key k)) course.within;
    unsliced = λ e.
        let n = none_more slice key course.found 1 e in
        put_slice key (after_first is_equals word) (settings_for a) (settings_for next) put n.1 ∙ course.unsliced n.0;
    reached = λ rest.
        ap (λ all. options_from (keys_of c) all [] (settings_of c)) (append_assoc before (word ∷ []) rest)
        ∙ course.reached (word ∷ rest)
        ∙ taken_key (keys_of c) word rest course.found (settings_for a) key (settings_for next) k sign (any_placed key false free) put;
  }

  pub course_next : (word : List ℕ) (key : Key) (result : Option Asked) → list_any is_equals word ≡ true → key_named (keys_of c) (name_of word) ≡ Some key → is_some (place_named (key_text key) (map name_of before) 1) ≡ false → option_map settings_for result ≡ put_key key (after_first is_equals word) (settings_for a) → MatchOption result (IsRefusedAfter c before word) (λ next. IsCourse c (before ++ word ∷ []) next)
  course_next word key None sign k free put = course_value word key k (sym put)
  course_next word key (Some next) sign k free put = course_more word key next sign k free (sym put)

  -- ---- the end of the arguments

  ended : options_from (keys_of c) before [] (settings_of c) ≡ checked course.found (settings_for a)
  unfolding options_from
  ended = ap (λ all. options_from (keys_of c) all [] (settings_of c)) (sym (append-nil before)) ∙ course.reached []

  within_kept : a.keep ≡ true → IsWithin a
  within_kept k = record { limits = course.within; slice_kept = kept a.slice } where
    kept : (o : Option ℕ) → IfSome o (λ n. a.keep ≡ true)
    kept None = tt
    kept (Some n) = k

  within_unsliced : None ≡ place_named (key_text slice) (map name_of before) 1 → IsWithin a
  within_unsliced e = record { limits = course.within; slice_kept = rw (course.unsliced (placed slice ∙ sym e)) tt }

  pub ends_kept : (i : ℕ) → Some i ≡ place_named (key_text slice) (map name_of before) 1 → a.keep ≡ true → (options_from (keys_of c) before [] (settings_of c) ≡ settings (settings_for a)) × IsWithin a
  ends_kept i e k = (ended ∙ checked_sliced course.found (settings_for a) i (placed slice ∙ sym e) ∙ ap (λ t. if t then settings (settings_for a) else usage i) k, within_kept k)

  pub ends_unkept : (i : ℕ) → Some i ≡ place_named (key_text slice) (map name_of before) 1 → a.keep ≡ false → options_from (keys_of c) before [] (settings_of c) ≡ usage i
  ends_unkept i e k = ended ∙ checked_sliced course.found (settings_for a) i (placed slice ∙ sym e) ∙ ap (λ t. if t then settings (settings_for a) else usage i) k

  pub ends_seedless : None ≡ place_named (key_text slice) (map name_of before) 1 → None ≡ place_named (key_text seed) (map name_of before) 1 → command_for a.command ≡ summary → options_from (keys_of c) before [] (settings_of c) ≡ usage (length before + 1)
  ends_seedless e f is = ended ∙ checked_summary course.found (settings_for a) false (placed slice ∙ sym e) is (ap (λ o. is_some o) (placed seed ∙ sym f)) ∙ ap usage counted

  pub ends_seeded : (i : ℕ) → None ≡ place_named (key_text slice) (map name_of before) 1 → Some i ≡ place_named (key_text seed) (map name_of before) 1 → command_for a.command ≡ summary → (options_from (keys_of c) before [] (settings_of c) ≡ settings (settings_for a)) × IsWithin a
  ends_seeded i e f is = (ended ∙ checked_summary course.found (settings_for a) true (placed slice ∙ sym e) is (ap (λ o. is_some o) (placed seed ∙ sym f)), within_unsliced e)

  pub ends_plain : None ≡ place_named (key_text slice) (map name_of before) 1 → ¬ (command_for a.command ≡ summary) → (options_from (keys_of c) before [] (settings_of c) ≡ settings (settings_for a)) × IsWithin a
  ends_plain e other = (ended ∙ checked_plain course.found (settings_for a) (command_for a.command) (placed slice ∙ sym e) refl other, within_unsliced e)

-- ---- the arguments of a command line, one after another

pub taken_more : {A : Type 0} (arguments : List (String A)) (i : ℕ) (d : String A) (argument : List ℕ) → i < length arguments → argument ≡ string_bytes (get_or arguments i d) → words_of (take i arguments) ++ argument ∷ [] ≡ words_of (take (i + 1) arguments)
taken_more arguments i d argument l e = ap (λ t. words_of (take i arguments) ++ t ∷ []) e ∙ sym (map-append string_bytes (take i arguments) (get_or arguments i d ∷ [])) ∙ ap words_of (sym (take_more arguments i d l))

split_there : {A : Type 0} (arguments : List (String A)) (i : ℕ) (d : String A) (argument : List ℕ) → i < length arguments → argument ≡ string_bytes (get_or arguments i d) → words_of (take i arguments) ++ argument ∷ words_of (drop (i + 1) arguments) ≡ words_of arguments
split_there arguments i d argument l e =
    append_cons (words_of (take i arguments)) argument (words_of (drop (i + 1) arguments))
    ∙ ap (λ t. t ++ words_of (drop (i + 1) arguments)) (taken_more arguments i d argument l e)
    ∙ sym (map-append string_bytes (take (i + 1) arguments) (drop (i + 1) arguments))
    ∙ ap words_of (take-append-drop (i + 1) arguments) where
      append_cons : (xs : List (List ℕ)) (y : List ℕ) (ys : List (List ℕ)) → xs ++ y ∷ ys ≡ (xs ++ y ∷ []) ++ ys
      append_cons xs y ys = sym (append_assoc xs (y ∷ []) ys)

pub refused_there : {A : Type 0} (c : Command) (arguments : List (String A)) (i : ℕ) (d : String A) (argument : List ℕ) → i < length arguments → argument ≡ string_bytes (get_or arguments i d) → IsRefusedAfter c (words_of (take i arguments)) argument → options_from (keys_of c) (words_of arguments) [] (settings_of c) ≡ usage (i + 1)
refused_there c arguments i d argument l e refused =
    let n : length (words_of (take i arguments)) + 1 ≡ i + 1 = omega (arith, length-map (take i arguments) string_bytes, length-take-le i arguments (omega (arith, l))) in
    ap (λ all. options_from (keys_of c) all [] (settings_of c)) (sym (split_there arguments i d argument l e)) ∙ refused (words_of (drop (i + 1) arguments)) ∙ ap usage n

-- ---- the command

pub not_summary : (c : asked.Command) → (c ≡ command.Run) ⊎ ((c ≡ command.Resume) ⊎ (c ≡ command.Check)) → ¬ (command_for c ≡ summary)
not_summary command.Run h e = absurd cc
not_summary command.Resume h e = absurd cc
not_summary command.Check h e = absurd cc
not_summary command.Summary (inl h) e = absurd cc
not_summary command.Summary (inr (inl h)) e = absurd cc
not_summary command.Summary (inr (inr h)) e = absurd cc

pub none_given : {A : Type 0} (words : List (String A)) → length words ≡ 0 → options all_options (words_of words) ≡ usage 0
none_given [] e = no_words
none_given (w ∷ ws) e = absurd (omega (arith, e))

pub unknown_given : {A : Type 0} (words : List (String A)) (w : String A) (ws : List (String A)) (name : List ℕ) → words ≡ w ∷ ws → name ≡ string_bytes w → None ≡ row_named all_options name → options all_options (words_of words) ≡ usage 0
unknown_given words w ws name e is none = ap (λ r. options all_options (words_of r)) e ∙ unknown_word (string_bytes w) (words_of ws) (ap (row_named all_options) (sym is) ∙ sym none)

pub command_given : {A : Type 0} (words : List (String A)) (w : String A) (ws : List (String A)) (name : List ℕ) (c : asked.Command) (r : Result Asked ℕ) → words ≡ w ∷ ws → name ≡ string_bytes w → Some (row_of c) ≡ row_named all_options name
    → MatchResult r (λ a. (options_from (keys_of (command_for c)) (words_of ws) [] (settings_of (command_for c)) ≡ settings (settings_for a)) × IsWithin a) (λ i. options_from (keys_of (command_for c)) (words_of ws) [] (settings_of (command_for c)) ≡ usage i)
    → MatchResult r (λ a. (options all_options (words_of words) ≡ settings (settings_for a)) × IsWithin a) (λ i. options all_options (words_of words) ≡ usage i)
command_given words w ws name c r e is found m =
    let whole : options all_options (words_of words) ≡ options_from (keys_of (command_for c)) (words_of ws) [] (settings_of (command_for c)) =
    ap (λ t. options all_options (words_of t)) e ∙ first_word (string_bytes w) (words_of ws) (command_for c) (keys_of (command_for c)) (ap (row_named all_options) (sym is) ∙ sym found) in
    subst (λ (o : Options). MatchResult r (λ a. (o ≡ settings (settings_for a)) × IsWithin a) (λ i. o ≡ usage i)) (sym whole) m

pub ruleset place_of_laws = (place_here, place_later, place_nowhere)
