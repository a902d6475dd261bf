-- Worked sessions, by evaluation of the definitions.
--   turns, slots                 the turn after some turns, up to 2^60; the slots of some turns
--   stored                       three checkpoints from turn 5 on: the last two of them are left
--   later                        the later of two checkpoints, slot Zero's if their turns are equal
--   choices                      two empty slots, and a byte in slot Zero
--   numbers, lines               the numbers of the endings, and lines that they print
--   asks_nothing                 the empty script asks nothing
--   asks_once, asks_twice        two statements that ask for the distance of the Hamming code, and the first of them alone
--   asks_near                    a statement that asks for the nearest word asks nothing else, and one for the distance no nearest word
--   no_statements, nears_nothing      no bytes are the script without statements, which asks for no nearest word
--   true_slots                   a true checkpoint in slot Zero and torn bytes in slot One
--   wrong_slot                   the same checkpoint in slot One isn't as a session leaves it
--   zero_first                   `run` that couldn't empty the slots, and left slot Zero as it was, left slot One as it was
--   no_words                     the whole contract of a session without arguments
--   runs_nothing                 the whole contract of `run` over the empty script
--   no_false_fault               no session over the empty script ends with a fault of the source whose count stands still
use Rattle.std.proofs.Common.{◌≡◌, ℕ, ◌+◌, length, All, refl, sym, inl, inr, ap, subst, arith, ◌∙◌, ⊎_elim}
use Rattle.std.proofs.lemmas.List.{length-append}
use Rattle.std.proofs.lemmas.List.Elements.{All-nil}
use Rattle.std.specs.Prelude.{List, [], ◌∷◌, ◌++◌, ◌^◌, map, codes, false, Bool, Option, Some, None, take, nat_lt}
use Rattle.std.specs.List.{list_all}
use Rattle.sha2.specs.Sha256.{sha256}
use Rattle.lc_algebra.specs.Matrix.{Matrix}
use Rattle.lc_enumeration.specs.Records.{SessionStep, fresh_start, no_steps, session_from, session_rounds, default_round}
use Rattle.lc_enumeration.specs.NearWord.{near_answer, NearHolds}
use Rattle.lc_enumeration.proofs.SearchExamples.{hamming}
use Rattle.lc_enumeration.proofs.NearExamples.{one_error}
use Rattle.lc_formats.specs.Checkpoint.{Checkpoint, point, refused as unread, damaged, checkpoint_text, checkpoint_in}
use Rattle.lc_formats.specs.Certificate.{not_json}
use Rattle.lc_formats.specs.Text.{same_bytes}
use Rattle.lc_formats.proofs.Evaluated.{checkpoint_computes, claim_computes}
use Rattle.lc_formats.proofs.TruthExamples.{after, is_true_after_one}
use Rattle.lc_formats.proofs.CheckpointExamples.{plainly, reads_plainly}
use Rattle.lc_grammar.specs.Token.{ended, scan_within, scan}
use Rattle.lc_grammar.specs.declared.Token.{Token}
use Rattle.lc_grammar.specs.Grammar.{Reads, Fault, IsFault}
use Rattle.lc_grammar.specs.Tree.{number, name, call, list, none, more, Statement, count_of}
use Rattle.lc_io.specs.declared.vault.Slot.TheVariants.{Zero, One}
use Rattle.lc_io.specs.Vaults.{Slots, empty_slots}
use Rattle.lc_io.specs.Told.{Kept}
use Rattle.lc_language.specs.declared.Call.{Call}
use Rattle.lc_language.specs.Value as value
use Rattle.lc_language.specs.Value.{Binding, value_named, number_in, field_in, numbers_in, lists_in, code_in, is_kind}
use Rattle.lc_language.specs.Calls.{all_calls, value_calls, query_calls, call_named, value_name, query_name, name_of, query_forms, signatures, signature_for, bind_query, query_refusals_of, query_refusal_of}
use Rattle.lc_language.specs.Refusal.{first_of, from_codes, word_refusals}
use Rattle.lc_language.specs.Query.{distance}
use Rattle.lc_language.specs.Evaluation.{asks, nears, gives, all_give, first_misfit, listed_with, list_value, Evaluates, Steps}
use Rattle.lc_language.proofs.TextExamples.{text_of_nothing}
use Rattle.lc_session_rules.specs.Options.{run, settings, all_options, options, settings_of, command_text, key_text, row, row_named, same_key, place_of_key, checked, options_from}
use Rattle.lc_session_rules.specs.Needs.{IsNeeds, Needs, MeetsFirst}
use Rattle.lc_session_rules.specs.Nears.{Nears, NearsHold}
use Rattle.lc_session_rules.specs.Slots.{slot_of, next_turn, stored_bytes, slots_after, later_of, chosen, choice_among, is_empty, choice, nothing_stored, none_decodes, IsTornOr, AreTrueSlots}
use Rattle.lc_session_rules.specs.Session.{Outside, Course, AreHalfEmptied, IsSession}
use Rattle.lc_session_rules.specs.Endings.{done, usage, paused, source_fault, sink_fault, vault_fault, no_memory, no_checkpoint, damaged_checkpoint, other_script, rejected, too_long, unfit, ending_number, said, ending_line}
use Rattle.lc_session_rules.proofs.OptionExamples.{no_words as reads_none}

pub turns : map next_turn (0 ∷ 7 ∷ 1152921504606846975 ∷ 1152921504606846976 ∷ []) ≡ 1 ∷ 8 ∷ 1152921504606846976 ∷ 1152921504606846976 ∷ []
unfolding next_turn
turns = refl

pub slots : map slot_of (0 ∷ 1 ∷ 4 ∷ 1152921504606846975 ∷ []) ≡ Zero ∷ One ∷ Zero ∷ One ∷ []
slots = refl

pub stored : (digest : List ℕ) (budget : ℕ) (s t u : SessionStep) → slots_after 2 digest budget 5 (s ∷ t ∷ u ∷ []) empty_slots ≡ record { zero_slot = stored_bytes 2 digest budget 6 t; one_slot = stored_bytes 2 digest budget 7 u }
unfolding next_turn
stored digest budget s t u = refl

abbrev pub of_turn : ℕ → ℕ → Checkpoint
of_turn turn blocks = record { version = 2; script = []; budget = 9; turn = turn; settled = []; blocks = blocks; weight = 1; place = 0 }

pub later : later_of (point (of_turn 2 1)) (point (of_turn 3 2)) ∷ later_of (point (of_turn 4 1)) (point (of_turn 3 2)) ∷ later_of (point (of_turn 3 1)) (point (of_turn 3 2)) ∷ later_of (unread damaged) (point (of_turn 3 2)) ∷ later_of (unread damaged) (unread damaged) ∷ [] ≡ Some (of_turn 3 2) ∷ Some (of_turn 4 1) ∷ Some (of_turn 3 1) ∷ Some (of_turn 3 2) ∷ None ∷ []
unfolding later_of
later = refl

pub choices : map choice (empty_slots ∷ record { zero_slot = codes "x"; one_slot = [] } ∷ []) ≡ nothing_stored ∷ none_decodes ∷ []
unfolding checkpoint_computes checkpoint_in later_of chosen choice_among is_empty choice
choices = refl

pub numbers : map ending_number (done 0 ∷ done 1 ∷ usage 5 ∷ paused 0 2 ∷ source_fault ∷ sink_fault ∷ vault_fault 1 ∷ no_memory 1 ∷ no_checkpoint ∷ damaged_checkpoint ∷ other_script [] 5 ∷ rejected not_json ∷ too_long ∷ unfit 0 2 3 ∷ []) ≡ 0 ∷ 1 ∷ 2 ∷ 3 ∷ 4 ∷ 5 ∷ 6 ∷ 7 ∷ 8 ∷ 9 ∷ 10 ∷ 11 ∷ 12 ∷ 13 ∷ []
unfolding ending_number
numbers = refl

pub lines : map ending_line (done 1 ∷ usage 0 ∷ paused 0 2 ∷ unfit 0 2 3 ∷ []) ≡ [] ∷ (codes "codes: word 0 refused" ++ 10 ∷ []) ∷ (codes "codes: paused at query 0 blocks 2" ++ 10 ∷ []) ∷ (codes "codes: checkpoint does not fit query 0" ++ 10 ∷ []) ∷ []
unfolding checkpoint_computes said ending_line
lines = refl

-- the script that asks for the distance of the Hamming code of length 7
abbrev pub script : List ℕ
script = codes "MinimumDistance(HammingCode(3,GF(2)));"

-- the checkpoint of its first round
abbrev pub first_round : Checkpoint
first_round = after 2 (sha256 script) [] 1 3

abbrev below_128 : List ℕ → Bool
below_128 bytes = list_all (λ b. nat_lt b 128) bytes

reads_first_round : checkpoint_in (checkpoint_text first_round) ≡ point first_round
unfolding checkpoint_computes plainly
reads_first_round = reads_plainly (checkpoint_text first_round) refl ∙ refl

reads_nothing : checkpoint_in (codes "x") ≡ unread damaged
unfolding checkpoint_computes checkpoint_in
reads_nothing = refl

-- whatever the table of calls is, as long as the script asks for the distance of this code
pub true_slots : (table : List Call) → MeetsFirst table script (hamming ∷ []) → AreTrueSlots table script (2 ^ 20) (record { zero_slot = checkpoint_text first_round; one_slot = codes "x" })
true_slots table met =
    (rw reads_first_round ((hamming ∷ [], met, is_true_after_one (sha256 script)), refl), rw reads_nothing tt)

pub wrong_slot : (table : List Call) → AreTrueSlots table script (2 ^ 20) (record { zero_slot = codes "x"; one_slot = checkpoint_text first_round }) → ⊥
wrong_slot table both =
    let h : IsTornOr One table script (2 ^ 20) (point first_round) = rw reads_first_round at both.1 in
    let e : Zero ≡ One = h.1 in
    cc

abbrev both : List ℕ → List ℕ → Slots
both zero one = record { zero_slot = zero; one_slot = one }

pub zero_first : (bytes : List ℕ) → AreHalfEmptied (both (codes "x") (codes "y")) (both (codes "x") bytes) → bytes ≡ codes "y"
zero_first bytes (held, inl e) = ap (λ (slots : Slots). slots.one_slot) e
zero_first bytes (held, inr e) = absurd (let f : codes "x" ≡ [] = ap (λ (slots : Slots). slots.zero_slot) e in cc)

pub asks_nothing : (table : List Call) → IsNeeds table [] []
unfolding scan scan_within ended
asks_nothing table = inl ([], record { whole = refl; script = refl; shallow = λ k d h. absurd (omega (arith, h)) }, refl)

-- MinimumDistance(C); where C is the Hamming code of length 7
abbrev pub ask : Statement
ask = record { target = None; expr = call 0 (codes "MinimumDistance") (more (name 16 (codes "C")) none) }

abbrev pub bound_to_hamming : List Binding
bound_to_hamming = record { name = codes "C"; value = value.code hamming None } ∷ []

asks_once : Steps all_calls bound_to_hamming ask (asks distance hamming)
unfolding same_bytes value_name query_name name_of query_forms signatures all_calls value_calls query_calls call_named signature_for count_of is_kind first_misfit value_named bind_query first_of query_refusals_of query_refusal_of number_in field_in numbers_in lists_in code_in
asks_once = (all_give (value.code hamming None ∷ []), (gives (value.code hamming None), refl, (all_give [], refl, refl)), inr (omega arith, refl))

pub asks_twice : Needs all_calls bound_to_hamming (ask ∷ ask ∷ []) (hamming ∷ hamming ∷ [])
asks_twice = (asks distance hamming, asks_once, (hamming ∷ [], (asks distance hamming, asks_once, ([], refl, refl)), refl))

pub asks_first : Needs all_calls bound_to_hamming (take 1 (ask ∷ ask ∷ [])) (hamming ∷ [])
asks_first = (asks distance hamming, asks_once, ([], refl, refl))

-- NearestWord(C,[1,1,0,0,0,1,1]);
abbrev pub ask_near : Statement
ask_near = record { target = None; expr = call 0 (codes "NearestWord") (more (name 12 (codes "C")) (more (list 14 (more (number 15 1) (more (number 17 1) (more (number 19 0) (more (number 21 0) (more (number 23 0) (more (number 25 1) (more (number 27 1) none)))))))) none)) }

word_listed : Evaluates all_calls bound_to_hamming (list 14 (more (number 15 1) (more (number 17 1) (more (number 19 0) (more (number 21 0) (more (number 23 0) (more (number 25 1) (more (number 27 1) none)))))))) (gives (value.numbers one_error))
unfolding listed_with list_value
word_listed =
    (gives (value.number 1), refl, (gives (value.number 1), refl, (gives (value.number 0), refl, (gives (value.number 0), refl, (gives (value.number 0), refl, (gives (value.number 1), refl, (gives (value.number 1), refl, refl)))))))

near_once : Steps all_calls bound_to_hamming ask_near (nears hamming one_error)
unfolding claim_computes from_codes word_refusals same_bytes value_name query_name name_of query_forms signatures all_calls value_calls query_calls call_named signature_for count_of is_kind first_misfit value_named bind_query first_of query_refusals_of query_refusal_of number_in field_in numbers_in lists_in code_in
near_once =
    (all_give (value.code hamming None ∷ value.numbers one_error ∷ []), (gives (value.code hamming None), refl, (all_give (value.numbers one_error ∷ []), (gives (value.numbers one_error), word_listed, (all_give [], refl, refl)), refl)), inr (omega arith, refl))

pub asks_near : Nears all_calls bound_to_hamming (ask ∷ ask_near ∷ []) (record { code = hamming; word = one_error } ∷ []) × Needs all_calls bound_to_hamming (ask ∷ ask_near ∷ []) (hamming ∷ [])
asks_near = ((asks distance hamming, asks_once, (nears hamming one_error, near_once, ([], refl, refl))), (asks distance hamming, asks_once, ([], (nears hamming one_error, near_once, refl), refl)))

pub no_statements : (ss : List Statement) → Reads [] ss → ss ≡ []
unfolding scan scan_within ended
no_statements [] h = refl
no_statements (s ∷ ss) h =
    let (us, (vs, all, (front, (middle, (last, split, target, expr, ends))), later)) = h.script in
    let whole : 0 ≡ length us + length vs = ap (λ (ts : List Token). length ts) all ∙ length-append us vs in
    let some : length us ≡ length front + (length middle + 1) = ap (λ (ts : List Token). length ts) split ∙ length-append front (middle ++ last ∷ []) ∙ ap (λ n. length front + n) (length-append middle (last ∷ [])) in
    absurd (omega (arith, whole, some))

pub nears_nothing : (table : List Call) (budget : ℕ) → NearsHold table [] budget
nears_nothing table budget queries all = subst (All (λ q. NearHolds q.code q.word (near_answer q.code q.word budget))) (sym none) (All-nil (λ q. NearHolds q.code q.word (near_answer q.code q.word budget)))
  where
    none : queries ≡ []
    none =
        ⊎_elim (λ (a : (ss : List Statement) × Reads [] ss × Nears table [] ss queries). subst (λ ss. Nears table [] ss queries) (no_statements a.0 a.1) a.2)
        (λ (a : (fault : Fault) × IsFault [] fault × (queries ≡ [])). a.2) all

abbrev pub quiet : Outside
quiet = record { source = Some []; source_faults = 0; sink = Some []; sink_faults = 0; vault = None; vault_faults = 0; watchers = [] }

abbrev pub nothing_done : Course
nothing_done = record { bytes = []; needs = []; start = fresh_start; turn = 0; told = []; left = []; is_paused = false; text = []; is_faulty = false }

no_rounds : (divisor : Matrix → ℕ) (budget longest : ℕ) (slice : Option ℕ) → session_rounds divisor [] budget longest slice fresh_start ≡ record { steps = []; settled = []; left = slice; is_stopped = false }
unfolding session_rounds session_from no_steps fresh_start
no_rounds divisor budget longest slice = refl

reads_run : options all_options (codes "run" ∷ []) ≡ settings (settings_of run)
unfolding same_bytes command_text key_text row all_options default_round settings_of row_named same_key place_of_key checked options_from options
reads_run = refl

pub runs_nothing : IsSession all_calls (codes "run" ∷ []) quiet quiet (done 0)
unfolding default_round settings_of
runs_nothing = record {
  asked = settings_of run;
  course = nothing_done;
  accepted = rw reads_run (refl, λ i e. cc);
  possible = refl;
  read = record { gave = refl; ended = refl; within = omega arith };
  started = record { start = refl; turn = refl };
  met = inl refl;
  rounds = rw no_rounds refl;
  ended = record { all = refl; unstopped = rw no_rounds refl; unpaused = λ kept. refl };
  heard = Kept.no_more;
  stored = refl;
  replied = ((asks_nothing all_calls, record { printed = text_of_nothing (2 ^ 20); truth = λ k d l. absurd (omega (arith, l)); near = nears_nothing all_calls (2 ^ 20) }), refl, tt);
  written = refl;
  counted = record { source = refl; sink = refl; vault = refl };
}

pub no_words : IsSession all_calls [] quiet quiet (usage 0)
unfolding default_round settings_of
no_words = record {
  asked = settings_of run;
  course = nothing_done;
  accepted = rw reads_none (refl, refl);
  possible = refl;
  read = refl;
  started = record { start = refl; turn = refl };
  met = inl refl;
  rounds = rw no_rounds refl;
  ended = refl;
  heard = Kept.no_more;
  stored = refl;
  replied = tt;
  written = refl;
  counted = record { source = refl; sink = refl; vault = refl };
}

pub no_false_fault : (args : List (List ℕ)) → IsSession all_calls args quiet quiet source_fault → ⊥
no_false_fault args s = ⊎_elim (λ (e : 0 ≡ 1). omega (arith, e)) (λ (e : (0 ≡ 0) × (0 ≡ 18446744073709551615)). omega (arith, e.1)) s.counted.0
