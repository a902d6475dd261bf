-- What `part` prints of a script.
--   asked_count              the command line asks for at least one block
--   code_searched            the code of a need is one that a search keeps
--   line_meant               the text of a part of a script is the line that is meant by it
--   same_code, printed_meant      so it is for the code that the script searches first
--   session_printed          what a session prints is the text of a part
use Rattle.std.proofs.Common.{◌≡◌, ℕ, ◌^◌, ◌<◌, ◌≤◌, Bool, true, false, nat_le, not, ◌&&◌, if◌then◌else◌, List, [], ◌∷◌, length, codes, Option, Some, None, option_and_then, refl, subst, arith}
use Rattle.std.specs.Io.KnownBytes.{Appends}
use Rattle.std.proofs.lemmas.Bool.{and_parts, leb-true}
use Rattle.sha2.specs.Sha256.{sha256}
use Rattle.lc_algebra.specs.Matrix.{Matrix}
use Rattle.lc_algebra.proofs.ReducedLaws.{reduced_independent, reduced_at_most}
use Rattle.lc_formats.specs.Text.{same_bytes}
use Rattle.lc_language.specs.declared.Call.{Call}
use Rattle.lc_parse.proofs.Outcomes.{one_script}
use Rattle.lc_calls.specs.Built.{built_calls}
use Rattle.lc_session_rules.specs.Options.{number_in, number_within}
use Rattle.lc_session_rules.specs.Needs.{MeetsFirst}
use Rattle.lc_session_rules.proofs.NeedsLaws.{met_agree}
use Rattle.lc_script_laws.specs.Shapes.{IsCodeOfRows}
use Rattle.lc_script_laws.proofs.AskShapes.{met_shaped}
use Rattle.lc_script_laws.proofs.RangeLaws.{digest_is_bytes}
use Rattle.lc_script_laws.proofs.GroundLaws.{one_step_built}
use Rattle.lc_parts.specs.Part.{facts_of}
use Rattle.lc_part_lines.specs.Line.{PartLine}
use Rattle.lc_share.specs.Asked.{PartAsked, PartOptions, asked, usage, word_at, value_in, workers_in, asked_by, part_options}
use Rattle.lc_share.specs.PartSession.{IsPartText, Ends, printed, HasRead, Does, IsPartSession}
use Rattle.lc_share.specs.Printed.{IsPrinted, IsMeant}
use Rattle.lc_share.proofs.RangeLaws.{IsSearched, line_ranged}

-- ---- the arguments

let_through : (b : Bool) (n m : ℕ) → (if b then Some n else None) ≡ Some m → (b ≡ true) × (n ≡ m)
let_through true n m e = (refl, cc)
let_through false n m e = absurd cc

within : (low high : ℕ) (o : Option ℕ) (n : ℕ) → option_and_then (λ k. if nat_le low k && nat_le k high then Some k else None) o ≡ Some n → low ≤ n
within low high None n e = absurd cc
within low high (Some k) n e =
    let t = let_through (nat_le low k && nat_le k high) k n e in
    omega (arith, leb-true low k (and_parts (nat_le low k) (nat_le k high) t.0).0, t.1)

number_least : (low high n : ℕ) (text : List ℕ) → number_within low high text ≡ Some n → low ≤ n
unfolding number_within
number_least low high n text e = within low high (number_in text) n e

some_if : (b : Bool) (o : Option ℕ) (n : ℕ) → (if b then o else None) ≡ Some n → o ≡ Some n
some_if true o n e = e
some_if false o n e = absurd cc

value_least : (key argument : List ℕ) (low high n : ℕ) → value_in key low high argument ≡ Some n → low ≤ n
unfolding value_in
value_least key argument low high n e = number_least low high n _ (some_if _ _ n e)

asked_if : (b : Bool) (x : PartOptions) (i : ℕ) (a : PartAsked) → (if b then x else usage i) ≡ asked a → x ≡ asked a
asked_if true x i a e = e
asked_if false x i a e = absurd cc

unless_asked : (b : Bool) (i : ℕ) (x : PartOptions) (a : PartAsked) → (if b then usage i else x) ≡ asked a → x ≡ asked a
unless_asked true i x a e = absurd cc
unless_asked false i x a e = e

count_asked : (n : ℕ) (start count workers : Option ℕ) (a : PartAsked) → asked_by n start count workers ≡ asked a → count ≡ Some a.count
unfolding asked_by
count_asked n None count workers a e = absurd cc
count_asked n (Some start) None workers a e = absurd cc
count_asked n (Some start) (Some count) None a e = absurd cc
count_asked n (Some start) (Some count) (Some workers) a e =
    let same = asked_if (nat_le n 4) (asked (record { start = start; count = count; workers = workers })) 4 a e in
    let whole : (record { start = start; count = count; workers = workers }) ≡ a = cc in
    subst (λ (b : PartAsked). Some count ≡ Some b.count) whole refl

pub asked_count : (arguments : List (List ℕ)) (a : PartAsked) → part_options arguments ≡ asked a → 1 ≤ a.count
unfolding part_options
asked_count arguments a e =
    value_least (codes "count") (word_at arguments 2) 1 (2 ^ 40) a.count
    (count_asked (length arguments) (value_in (codes "from") 0 (2 ^ 40) (word_at arguments 1)) (value_in (codes "count") 1 (2 ^ 40) (word_at arguments 2)) (workers_in arguments) a
    (unless_asked (not (same_bytes (codes "part") (word_at arguments 0))) 0 _ a e))

-- ---- the line

code_searched : (C : Matrix) → IsCodeOfRows C → 0 < length C.rows → IsSearched C
code_searched C h some = record {
  symbol = h.symbol;
  least = omega (arith, some, reduced_at_most C.columns C.rows h.reduced);
  most = h.long;
  some = some;
  words = h.rows;
  independent = reduced_independent C.field C.columns C.rows h.rows h.reduced;
  divisor = refl;
  sets = refl;
}

pub line_meant : (table : List Call) (bytes text : List ℕ) (a : PartAsked) → 1 ≤ a.count → IsPartText table bytes a text → (C : Matrix) × (l : PartLine) × MeetsFirst table bytes (C ∷ []) × (0 < length C.rows) × IsMeant bytes C l text
line_meant table bytes text a many h =
    let C = h.code in
    let l : PartLine = record { script = sha256 bytes; facts = facts_of C; part = h.part } in
    let shaped = met_shaped table bytes (C ∷ []) h.met in (
      C,
      l,
      h.met,
      h.some,
      record {
        text_is = h.printed;
        script = refl;
        facts = refl;
        part = h.is_true;
        range = line_ranged bytes C h.part (code_searched C shaped.0 h.some) (digest_is_bytes bytes) (omega (arith, many, h.count_is)) h.inside h.is_true;
      },
    )

same_code : (bytes : List ℕ) (C D : Matrix) (needs others : List Matrix) → MeetsFirst built_calls bytes (C ∷ needs) → MeetsFirst built_calls bytes (D ∷ others) → D ≡ C
same_code bytes C D needs others met other = met_agree built_calls bytes (one_script bytes) one_step_built (D ∷ others) (C ∷ needs) other met 0 D C refl refl

pub printed_meant : (bytes text : List ℕ) (C : Matrix) (needs : List Matrix) → MeetsFirst built_calls bytes (C ∷ needs) → IsPrinted built_calls bytes text → (l : PartLine) × IsMeant bytes C l text
printed_meant bytes text C needs met (arguments, a, asks, is) =
    let (D, l, other, some, meant) = line_meant built_calls bytes text a (asked_count arguments a asks) is in
    (l, subst (λ (E : Matrix). IsMeant bytes E l text) (same_code bytes C D needs [] met other) meant)

-- ---- the session

printed_so : (o : PartOptions) (table : List Call) (arguments : List (List ℕ)) (old new : Ends) → part_options arguments ≡ o → Does o table old new printed → (bytes : List ℕ) × (text : List ℕ) × HasRead old new bytes × IsPrinted table bytes text × Appends old.sink new.sink text
printed_so (usage i) table arguments old new e h = absurd (let f = h.1 in cc)
printed_so (asked a) table arguments old new e (bytes, read, (text, is, appends, faults)) = (bytes, text, read, (arguments, a, e, is), appends)

pub session_printed : (table : List Call) (arguments : List (List ℕ)) (old new : Ends) → IsPartSession table arguments old new printed → (bytes : List ℕ) × (text : List ℕ) × HasRead old new bytes × IsPrinted table bytes text × Appends old.sink new.sink text
session_printed table arguments old new h = printed_so (part_options arguments) table arguments old new refl h
