-- The lines of parts among the lines of some bytes, and which of them disagree.
--   Numbered                     the line of a part, with its number among all lines, counted from 1
--   numbered n read              the line of this number, if it was read as that of a part
--   lines_after n lines          those of some lines that are lines of parts; there are n lines before them
--   lines_in bytes               the lines of parts in the bytes: a line is what comes before a newline, or after the last one
--   parts_in lines               their parts
--   HaveSameParts lines others   a part is one of some lines exactly if it is one of the others
--   AreOfOne a b                 two lines are of one search: they name one script and the same facts
--   Agree a b                    they are of one search, and if they have one range they have one word
--   Disagree lines i j           the line of number j is the first that disagrees with an earlier one, and of these the line of
--                                number i is the first
use Rattle.std.specs.Prelude.{◌≡◌, ℕ, ◌+◌, ◌<◌, ◌↔◌, false, ◌==◌, List, [], ◌∷◌, length, map, take, slice_index_or, All, Contains, Option, Some, None}
use Rattle.std.specs.List.{cons_option, slice_split, AllPairs}
use Rattle.lc_parts.specs.Part.{Part}
use Rattle.lc_parts.specs.Joined.{differs_from}
use Rattle.lc_part_lines.specs.Line.{PartLine, ReadLine, line_is, refused, part_in}

pub record Numbered : Type 0 where
  pub number : ℕ
  pub line : PartLine

unfoldable pub numbered : ℕ → ReadLine → Option Numbered
numbered n (line_is l) = Some (record { number = n; line = l })
numbered n (refused e) = None

unfoldable pub lines_after : ℕ → List (List ℕ) → List Numbered
lines_after n [] = []
lines_after n (l ∷ lines) = cons_option (numbered (n + 1) (part_in l)) (lines_after (n + 1) lines)

unfoldable pub lines_in : List ℕ → List Numbered
lines_in bytes = lines_after 0 (slice_split (λ b. b == 10) bytes)

abbrev pub parts_in : List Numbered → List Part
parts_in lines = map (λ l. l.line.part) lines

abbrev pub HaveSameParts : List Numbered → List Numbered → Type 0
HaveSameParts lines others = (p : Part) → Contains (parts_in lines) p ↔ Contains (parts_in others) p

abbrev pub AreOfOne : PartLine → PartLine → Type 0
AreOfOne a b = (b.script ≡ a.script) × (b.facts ≡ a.facts)

abbrev pub Agree : Numbered → Numbered → Type 0
Agree a b = AreOfOne a.line b.line × (differs_from a.line.part b.line.part ≡ false)

pub record Disagree (lines : List Numbered) (i j : ℕ) : Type 0 where
  pub one : Numbered
  pub other : Numbered
  pub first : ℕ
  pub second : ℕ
  pub earlier : first < second
  pub inside : second < length lines
  pub one_is : slice_index_or lines first one ≡ one
  pub other_is : slice_index_or lines second other ≡ other
  pub agreed : AllPairs Agree (take second lines)
  pub least : All (λ l. Agree l other) (take first lines)
  pub disagree : ¬ Agree one other
  pub numbers : (one.number ≡ i) × (other.number ≡ j)
