-- The parts that printed texts are read as don't depend on the order of the texts, nor on how often each comes.
--   meant_one                a text is one line
--   meant_part               each part that is read is that of a text
--   part_meant               the part of each text is read
--   printed_same             and the parts of the same texts are the same
use Rattle.std.proofs.Common.{◌≡◌, ℕ, ◌+◌, List, [], ◌∷◌, All, Contains, sym, ap, subst, ◌∙◌, ⊎_elim}
use Rattle.std.specs.List.{concat, slice_split}
use Rattle.lc_algebra.specs.Matrix.{Matrix}
use Rattle.lc_algebra.proofs.SpanLaws.{contains_head, contains_tail, contains_cases}
use Rattle.lc_algebra.proofs.DivisorLaws.{no_member}
use Rattle.lc_calls.specs.Built.{built_calls}
use Rattle.lc_session_rules.specs.Needs.{MeetsFirst}
use Rattle.lc_parts.specs.Part.{Part}
use Rattle.lc_part_lines.specs.Line.{PartLine, line_is, part_line, part_in}
use Rattle.lc_part_lines.proofs.LineBack.{line_back}
use Rattle.lc_share.specs.Printed.{IsPrinted, IsMeant}
use Rattle.lc_join.specs.Lines.{Numbered, lines_in, parts_in, HaveSameParts}
use Rattle.lc_join.specs.Meant.{numbered_from, AreMeant, HaveSameTexts}
use Rattle.lc_join.proofs.LineLaws.{ends_line}
use Rattle.lc_join.proofs.PrintedLaws.{line_split, printed_read}

meant_one : (bytes text : List ℕ) (C : Matrix) (l m : PartLine) → IsMeant bytes C l text → IsMeant bytes C m text → l ≡ m
meant_one bytes text C l m h k =
    let both : part_line l ∷ slice_split ends_line [] ≡ part_line m ∷ slice_split ends_line [] = sym (line_split bytes text [] C l h) ∙ line_split bytes text [] C m k in
    let same : part_line l ≡ part_line m = cc in
    let read : line_is l ≡ line_is m = sym (line_back l h.range) ∙ ap part_in same ∙ line_back m k.range in
    cc

meant_part : (bytes : List ℕ) (C : Matrix) (n : ℕ) (lines : List PartLine) (texts : List (List ℕ)) (p : Part) → AreMeant bytes C lines texts → Contains (parts_in (numbered_from n lines)) p → (text : List ℕ) × (l : PartLine) × Contains texts text × IsMeant bytes C l text × (l.part ≡ p)
unfolding numbered_from
meant_part bytes C n [] [] p h c = absurd (no_member p c)
meant_part bytes C n [] (text ∷ texts) p h c = absurd h
meant_part bytes C n (l ∷ lines) [] p h c = absurd h
meant_part bytes C n (l ∷ lines) (text ∷ texts) p h c =
    ⊎_elim
    (λ e. (text, l, contains_head text texts, h.0, e))
    (λ r. let (t, m, there, is, e) = meant_part bytes C (n + 1) lines texts p h.1 r in (t, m, contains_tail text t texts there, is, e))
    (contains_cases l.part p (parts_in (numbered_from (n + 1) lines)) c)

part_meant : (bytes : List ℕ) (C : Matrix) (n : ℕ) (lines : List PartLine) (texts : List (List ℕ)) (text : List ℕ) (l : PartLine) → AreMeant bytes C lines texts → Contains texts text → IsMeant bytes C l text → Contains (parts_in (numbered_from n lines)) l.part
unfolding numbered_from
part_meant bytes C n [] [] text l h c is = absurd (no_member text c)
part_meant bytes C n [] (t ∷ texts) text l h c is = absurd h
part_meant bytes C n (m ∷ lines) [] text l h c is = absurd h
part_meant bytes C n (m ∷ lines) (t ∷ texts) text l h c is =
    ⊎_elim
    (λ e.
    let same = meant_one bytes text C m l (subst (IsMeant bytes C m) e h.0) is in
    subst (λ (k : PartLine). Contains (m.part ∷ parts_in (numbered_from (n + 1) lines)) k.part) same (contains_head m.part (parts_in (numbered_from (n + 1) lines))))
    (λ r. contains_tail m.part l.part (parts_in (numbered_from (n + 1) lines)) (part_meant bytes C (n + 1) lines texts text l h.1 r is))
    (contains_cases t text texts c)

among : (bytes : List ℕ) (C : Matrix) (needs : List Matrix) (texts others : List (List ℕ)) (p : Part) → MeetsFirst built_calls bytes (C ∷ needs) → All (IsPrinted built_calls bytes) texts → All (IsPrinted built_calls bytes) others → ((t : List ℕ) → Contains texts t → Contains others t)
    → Contains (parts_in (lines_in (concat texts))) p → Contains (parts_in (lines_in (concat others))) p
among bytes C needs texts others p met all each to c =
    let (lines, are, read, true_lines) = printed_read bytes C needs texts met all in
    let (more, are_more, read_more, true_more) = printed_read bytes C needs others met each in
    let (t, l, there, is, e) = meant_part bytes C 1 lines texts p are (subst (λ (xs : List Numbered). Contains (parts_in xs) p) read c) in
    subst (λ (xs : List Numbered). Contains (parts_in xs) p) (sym read_more)
    (subst (Contains (parts_in (numbered_from 1 more))) e (part_meant bytes C 1 more others t l are_more (to t there) is))

pub printed_same : (bytes : List ℕ) (C : Matrix) (needs : List Matrix) (texts others : List (List ℕ)) → MeetsFirst built_calls bytes (C ∷ needs) → All (IsPrinted built_calls bytes) texts → All (IsPrinted built_calls bytes) others → HaveSameTexts texts others
    → HaveSameParts (lines_in (concat texts)) (lines_in (concat others))
printed_same bytes C needs texts others met all each same p = (
  among bytes C needs texts others p met all each (λ t c. (same t).0 c),
  among bytes C needs others texts p met each all (λ t c. (same t).1 c),
)
