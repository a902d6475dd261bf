-- How the readers of this crate go over bytes and tokens; the clauses of private functions alone speak of these.
--   cut_of, cuts_of            the cut of `lc_grammar` that a cut stands for
--   ending_of                  the ending of `lc_grammar` that an ending stands for
--   IsWithin bytes t           a token stands within the bytes, a name's bytes are ASCII, a number's value has 64 bits
--   AreWithin bytes ts         the same of each token
--   IsNotFirst kind ts         no token of this kind stands first
--   IsBehind kind ts rest      a token of this kind stands first, the rest after it
--   IsTooDeepFirst ts depth e  a parenthesis opens first and too deep, and e is its fault
--   IsTargetFirst ts t rest    a name and `:=` stand first, the rest after them
--   IsStep bytes at step       what the tokens from this offset on begin with
--   IsTokenRefusal ending o     the refusal of an ending at a bad token or at a number that is too wide
--   Stays bytes ending ..      to read goes on with these tokens as from those
--   IsStuck s ts               the grammar lets no token stand first, and the script can't end
--   IsOutcome e o              a refusal is this outcome; lack of memory says nothing
use Rattle.std.specs.Prelude.{◌≡◌, ℕ, suc, ◌+◌, ◌<◌, ◌≤◌, List, [], ◌∷◌, length, drop, slice_index, Option, Some, None}
use Rattle.std.specs.List.{AllByRecursion}
use Rattle.lc_grammar.specs.declared.TokenKind.{TokenKind}
use Rattle.lc_grammar.specs.declared.TokenKind.TheVariants.{Name, Number, Assign, Open}
use Rattle.lc_grammar.specs.declared.Token.{Token}
use Rattle.lc_grammar.specs.Token as language
use Rattle.lc_grammar.specs.Token.{scan_within, token_first, ended, text_of, number_of, widest}
use Rattle.lc_grammar.specs.Grammar.{deepest}
use Rattle.lc_grammar.proofs.Course.{State, start, Outcome, fault, course, next}
use Rattle.lc_parse.specs.declared.scan.Cut.{Cut}
use Rattle.lc_parse.specs.declared.scan.Ending.{Ending}
use Rattle.lc_parse.specs.declared.scan.Ending.TheVariants.{ScriptEnd, BadToken, TooWide}
use Rattle.lc_parse.specs.declared.scan.Lexeme.{Lexeme}
use Rattle.lc_parse.specs.declared.scan.Lexeme.TheVariants as step
use Rattle.lc_parse.specs.declared.refusal.ParseRefusal.{ParseRefusal}
use Rattle.lc_parse.specs.declared.refusal.ParseRefusal.TheVariants as refusal

abbrev pub cut_of : Cut → language.Cut
cut_of c = record { kind = c.kind; bytes = c.len }

abbrev pub cuts_of : Option Cut → Option language.Cut
cuts_of None = None
cuts_of (Some c) = Some (cut_of c)

abbrev pub ending_of : Ending → language.Ending
ending_of (ScriptEnd offset) = language.script_end offset
ending_of (BadToken offset) = language.bad_token offset
ending_of (TooWide offset) = language.too_wide offset

pub record IsWithin (bytes : List ℕ) (t : Token) : Type 0 where
  pub ordered : t.start < t.end
  pub within : t.end ≤ length bytes
  pub ascii : t.kind ≡ Name → (i : ℕ) → slice_index (text_of bytes t) i < 128
  pub fits : t.kind ≡ Number → number_of (text_of bytes t) ≤ widest

abbrev pub AreWithin : List ℕ → List Token → Type 0
AreWithin bytes ts = AllByRecursion (IsWithin bytes) ts

abbrev pub IsNotFirst : TokenKind → List Token → Type 0
IsNotFirst kind [] = Unit {0}
IsNotFirst kind (t ∷ ts) = t.kind ≡ kind → ⊥

abbrev pub IsBehind : TokenKind → List Token → List Token → Type 0
IsBehind kind ts rest = (t : Token) × (t.kind ≡ kind) × (ts ≡ t ∷ rest)

-- a parenthesis opens first, where as many signs are open as may be
abbrev pub IsTooDeepFirst : List Token → ℕ → ParseRefusal → Type 0
IsTooDeepFirst ts depth e = (t : Token) × ((rest : List Token) × (ts ≡ t ∷ rest) × (t.kind ≡ Open) × (deepest ≤ depth) × (e ≡ refusal.Fault 42 t.start))

-- a name and `:=` stand first, the rest after them
abbrev pub IsTargetFirst : List Token → Token → List Token → Type 0
IsTargetFirst ts t rest = (u : Token) × (ts ≡ t ∷ u ∷ rest) × (t.kind ≡ Name) × (u.kind ≡ Assign)

abbrev pub IsStep : List ℕ → ℕ → Lexeme → Type 0
IsStep bytes at (step.Skip n) =
    (0 < n) × (at + n ≤ length bytes)
    × ((most : ℕ) → scan_within (suc most) at (drop at bytes) ≡ scan_within most (at + n) (drop (at + n) bytes))
IsStep bytes at (step.Token token) =
    (at < token.end) × (token.end ≤ length bytes)
    × ((most : ℕ) → scan_within (suc most) at (drop at bytes) ≡ token_first token (scan_within most token.end (drop token.end bytes)))
IsStep bytes at (step.End ending) = (most : ℕ) → scan_within (suc most) at (drop at bytes) ≡ ended (ending_of ending)

-- the refusal of an ending at a token
abbrev pub IsTokenRefusal : Ending → Option ParseRefusal → Type 0
IsTokenRefusal (ScriptEnd offset) o = o ≡ None
IsTokenRefusal (BadToken offset) o = o ≡ Some (refusal.Fault 40 offset)
IsTokenRefusal (TooWide offset) o = o ≡ Some (refusal.Fault 43 offset)

abbrev pub Stays : List ℕ → Ending → State → List Token → State → List Token → Type 0
Stays bytes ending s ts after rest = course bytes deepest s ts (ending_of ending) ≡ course bytes deepest after rest (ending_of ending)

abbrev pub IsNotStart : State → Type 0
IsNotStart (start ss) = ⊥
IsNotStart s = Unit {0}

abbrev pub IsStuck : List ℕ → State → List Token → Type 0
IsStuck bytes s [] = IsNotStart s
IsStuck bytes s (t ∷ ts) = next bytes s t ≡ None

abbrev pub IsOutcome : ParseRefusal → Outcome → Type 0
IsOutcome (refusal.Fault number offset) o = o ≡ fault number offset
IsOutcome refusal.NoMemory o = Unit {0}

-- a refusal is what comes of these tokens in this state
abbrev pub Refuses : List ℕ → Ending → State → List Token → ParseRefusal → Type 0
Refuses bytes ending s ts e = IsOutcome e (course bytes deepest s ts (ending_of ending))
