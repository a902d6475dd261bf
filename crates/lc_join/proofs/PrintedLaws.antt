-- The lines that `part` printed of a script are read as those that were meant.
--   nothing_read             no bytes have no line of a part
--   line_first, line_split       a line that is meant is the first one that is read
--   meant_read               lines that are meant, in a row, are those that are read
--   meant_true               they are true lines
--   some_meant               texts of parts of a script are lines that are meant
--   printed_read             so they are read, and are true
--   joined_printed           and what they make is true
use Rattle.std.proofs.Common.{◌≡◌, ℕ, ◌+◌, ◌^◌, ◌≤◌, List, [], ◌∷◌, ◌++◌, All, refl, sym, ap, subst, ◌∙◌, arith}
use Rattle.std.specs.List.{concat, cons_option, slice_split}
use Rattle.std.proofs.lemmas.List.Elements.{All-nil, All-cons, All-tail}
use Rattle.sha2.specs.Sha256.{sha256}
use Rattle.lc_algebra.specs.Matrix.{Matrix}
use Rattle.lc_calls.specs.Built.{built_calls}
use Rattle.lc_session_rules.specs.Needs.{MeetsFirst}
use Rattle.lc_session_rules.proofs.AskLaws.{met_rows}
use Rattle.lc_script_laws.proofs.RangeLaws.{digest_is_bytes}
use Rattle.lc_part_lines.specs.Line.{PartLine, line_is, is_headed, line_body, part_line, part_in}
use Rattle.lc_part_lines.proofs.LineBack.{line_back}
use Rattle.lc_share.specs.Printed.{IsPrinted, IsMeant}
use Rattle.lc_share.proofs.PrintedLaws.{printed_meant}
use Rattle.lc_join.specs.Lines.{numbered, lines_after, lines_in}
use Rattle.lc_join.specs.Joining.{HasText}
use Rattle.lc_join.specs.Meant.{numbered_from, AreMeant}
use Rattle.lc_join.specs.Truth.{IsTrueLine, IsTrueText}
use Rattle.lc_join.proofs.LineLaws.{ends_line}
use Rattle.lc_join.proofs.NewlineLaws.{line_cut}
use Rattle.lc_join.proofs.TruthLaws.{true_text}

-- the last line, which comes after the last newline, has no bytes
nothing_read : (n : ℕ) → lines_after n ([] ∷ []) ≡ []
unfolding lines_after numbered part_in is_headed
nothing_read n = refl

line_first : (n : ℕ) (l : PartLine) (lines : List (List ℕ)) → part_in (part_line l) ≡ line_is l → lines_after n (part_line l ∷ lines) ≡ record { number = n + 1; line = l } ∷ lines_after (n + 1) lines
unfolding lines_after numbered
line_first n l lines e = ap (λ r. cons_option (numbered (n + 1) r) (lines_after (n + 1) lines)) e

pub line_split : (bytes text rest : List ℕ) (C : Matrix) (l : PartLine) → IsMeant bytes C l text → slice_split ends_line (text ++ rest) ≡ part_line l ∷ slice_split ends_line rest
line_split bytes text rest C l h = ap (λ t. slice_split ends_line (t ++ rest)) h.text_is ∙ line_cut l rest h.range.bytes (digest_is_bytes (line_body l))

meant_after : (bytes : List ℕ) (C : Matrix) (n : ℕ) (lines : List PartLine) (texts : List (List ℕ)) → AreMeant bytes C lines texts → lines_after n (slice_split ends_line (concat texts)) ≡ numbered_from (n + 1) lines
unfolding numbered_from
meant_after bytes C n [] [] h = nothing_read n
meant_after bytes C n [] (text ∷ texts) h = absurd h
meant_after bytes C n (l ∷ lines) [] h = absurd h
meant_after bytes C n (l ∷ lines) (text ∷ texts) h =
    ap (lines_after n) (line_split bytes text (concat texts) C l h.0)
    ∙ line_first n l (slice_split ends_line (concat texts)) (line_back l h.0.range)
    ∙ ap (λ xs. record { number = n + 1; line = l } ∷ xs) (meant_after bytes C (n + 1) lines texts h.1)

meant_read : (bytes : List ℕ) (C : Matrix) (lines : List PartLine) (texts : List (List ℕ)) → AreMeant bytes C lines texts → lines_in (concat texts) ≡ numbered_from 1 lines
unfolding lines_in
meant_read bytes C lines texts h = meant_after bytes C 0 lines texts h

meant_true : (bytes : List ℕ) (C : Matrix) (n : ℕ) (lines : List PartLine) (texts : List (List ℕ)) → AreMeant bytes C lines texts → All (IsTrueLine (sha256 bytes) C) (numbered_from n lines)
unfolding numbered_from
meant_true bytes C n [] [] h = All-nil (IsTrueLine (sha256 bytes) C)
meant_true bytes C n [] (text ∷ texts) h = absurd h
meant_true bytes C n (l ∷ lines) [] h = absurd h
meant_true bytes C n (l ∷ lines) (text ∷ texts) h =
    All-cons (IsTrueLine (sha256 bytes) C) (record { number = n; line = l }) (numbered_from (n + 1) lines)
    (record { script = h.0.script; facts = h.0.facts; part = h.0.part })
    (meant_true bytes C (n + 1) lines texts h.1)

some_meant : (bytes : List ℕ) (C : Matrix) (needs : List Matrix) (texts : List (List ℕ)) → MeetsFirst built_calls bytes (C ∷ needs) → All (IsPrinted built_calls bytes) texts → (lines : List PartLine) × AreMeant bytes C lines texts
some_meant bytes C needs [] met all = ([], tt)
some_meant bytes C needs (text ∷ texts) met all =
    let (l, meant) = printed_meant bytes text C needs met (all 0 [] (omega arith)) in
    let (lines, are) = some_meant bytes C needs texts met (All-tail (IsPrinted built_calls bytes) text texts all) in
    (l ∷ lines, (meant, are))

pub printed_read : (bytes : List ℕ) (C : Matrix) (needs : List Matrix) (texts : List (List ℕ)) → MeetsFirst built_calls bytes (C ∷ needs) → All (IsPrinted built_calls bytes) texts
    → (lines : List PartLine) × AreMeant bytes C lines texts × (lines_in (concat texts) ≡ numbered_from 1 lines) × All (IsTrueLine (sha256 bytes) C) (lines_in (concat texts))
printed_read bytes C needs texts met all =
    let (lines, are) = some_meant bytes C needs texts met all in
    let same = meant_read bytes C lines texts are in
    (lines, are, same, subst (All (IsTrueLine (sha256 bytes) C)) (sym same) (meant_true bytes C 1 lines texts are))

pub joined_printed : (bytes : List ℕ) (C : Matrix) (needs : List Matrix) (texts : List (List ℕ)) (budget : ℕ) (text : List ℕ) → MeetsFirst built_calls bytes (C ∷ needs) → All (IsPrinted built_calls bytes) texts → budget ≤ 2 ^ 40
    → HasText budget (lines_in (concat texts)) text → IsTrueText built_calls bytes C budget text
joined_printed bytes C needs texts budget text met all small h =
    true_text built_calls bytes C needs budget (lines_in (concat texts)) text met (met_rows built_calls bytes (C ∷ needs) met 0 C refl) small (printed_read bytes C needs texts met all).3 h
