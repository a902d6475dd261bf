-- The lines of parts in some bytes.
--   numbered_read, numbered_none     a line that is read as that of a part, or isn't
--   only_headed                  bytes that are read as the line of a part begin with their seal
--   newline_split, newline_none      the lines before and after the first newline; bytes without a newline
--   lines_first, lines_more, lines_end       before the first line, after one more, and after the last one
--   no_lines                     no bytes have no line of a part
use Rattle.std.proofs.Common.{◌≡◌, ℕ, ◌+◌, ◌<◌, ◌==◌, Bool, true, false, List, [], ◌∷◌, ◌++◌, length, map, take, drop, Option, Some, None, refl, sym, ap, ap₂, subst, ◌∙◌, arith}
use Rattle.std.specs.Prelude.{Result, Ok, Err, IsOk, cond, nat_lt}
use Rattle.std.specs.List.{cons_option, slice_split, position, position_or_len}
use Rattle.std.proofs.lemmas.Bool.{ltb-true, ltb-false}
use Rattle.std.proofs.lemmas.List.{append_assoc}
use Rattle.std.proofs.lemmas.List.Sums.{fails_before_first}
use Rattle.std.proofs.lemmas.List.Splits.{slice_split_first, slice_split_none}
use Rattle.lc_part_lines.specs.Line.{ReadLine, is_headed, part_in}
use Rattle.lc_part_lines.specs.Seen.{line_of, read_of}
use Rattle.lc_part_lines.specs.declared.line.PartLine.{PartLine}
use Rattle.lc_part_lines.specs.declared.refusal.LineRefusal.{LineRefusal}
use Rattle.lc_join.specs.Lines as meant
use Rattle.lc_join.specs.Lines.{numbered, lines_after, lines_in}
use Rattle.lc_join.specs.Seen.{numbered_of}
use Rattle.lc_join.specs.declared.lines.Numbered.{Numbered}

pub numbered_read : (number : ℕ) (r : Result PartLine LineRefusal) (l : PartLine) (x : ReadLine) → r ≡ Ok l → read_of r ≡ x → Some (record { number = number; line = line_of l }) ≡ numbered number x
unfolding numbered read_of
numbered_read number r l x e h = ap (numbered number) (sym (ap read_of e) ∙ h)

pub numbered_none : (number : ℕ) (r : Result PartLine LineRefusal) (e : LineRefusal) (x : ReadLine) → r ≡ Err e → read_of r ≡ x → None ≡ numbered number x
unfolding numbered read_of
numbered_none number r e x f h = ap (numbered number) (sym (ap read_of f) ∙ h)

unheaded_none : (number : ℕ) (bytes : List ℕ) → is_headed bytes ≡ false → numbered number (part_in bytes) ≡ None
unfolding numbered part_in
unheaded_none number bytes e = rw e refl

pub only_headed : {T E : Type 0} (number : ℕ) (bytes : List ℕ) (x : Numbered) (r : Result T E) → Some (numbered_of x) ≡ numbered number (part_in bytes) → is_headed bytes ≡ false → IsOk r
only_headed number bytes x r h e = absurd (let none = unheaded_none number bytes e in cc)

-- a newline
abbrev pub ends_line : ℕ → Bool
ends_line b = b == 10

pub newline_split : (xs : List ℕ) (i : ℕ) → Some i ≡ position ends_line xs → (i < length xs) × (slice_split ends_line xs ≡ take i xs ∷ slice_split ends_line (drop (i + 1) xs))
newline_split xs i e = by (nat_lt (position_or_len ends_line xs) (length xs)) refl e
  where
    by : (b : Bool) → nat_lt (position_or_len ends_line xs) (length xs) ≡ b → Some i ≡ cond b (Some (position_or_len ends_line xs)) None → (i < length xs) × (slice_split ends_line xs ≡ take i xs ∷ slice_split ends_line (drop (i + 1) xs))
    by true t h =
        let same : position_or_len ends_line xs ≡ i = let k = sym h in cc in
        let l = ltb-true (position_or_len ends_line xs) (length xs) t in
        (omega (arith, l, same), subst (λ j. slice_split ends_line xs ≡ take j xs ∷ slice_split ends_line (drop (j + 1) xs)) same (slice_split_first ends_line xs 0 l))
    by false t h = absurd (let k = h in cc)

pub newline_none : (xs : List ℕ) → None ≡ position ends_line xs → slice_split ends_line xs ≡ xs ∷ []
newline_none xs e = by (nat_lt (position_or_len ends_line xs) (length xs)) refl e
  where
    by : (b : Bool) → nat_lt (position_or_len ends_line xs) (length xs) ≡ b → None ≡ cond b (Some (position_or_len ends_line xs)) None → slice_split ends_line xs ≡ xs ∷ []
    by true t h = absurd (let k = h in cc)
    by false t h =
        let g = ltb-false (position_or_len ends_line xs) (length xs) t in
        slice_split_none ends_line xs (λ k d l. fails_before_first ends_line xs k d (omega (arith, g, l)))

-- a line that is kept or passed over, in front of others
onto : (o : Option meant.Numbered) (xs ys : List meant.Numbered) → (xs ++ cons_option o []) ++ ys ≡ xs ++ cons_option o ys
onto None xs ys = append_assoc xs [] ys
onto (Some x) xs ys = append_assoc xs (x ∷ []) ys

lines_are : (bytes : List ℕ) → lines_in bytes ≡ lines_after 0 (slice_split ends_line bytes)
unfolding lines_in
lines_are bytes = refl

lines_cons : (n : ℕ) (l : List ℕ) (rest : List (List ℕ)) → lines_after n (l ∷ rest) ≡ cons_option (numbered (n + 1) (part_in l)) (lines_after (n + 1) rest)
unfolding lines_after
lines_cons n l rest = refl

lines_nil : (n : ℕ) → lines_after n [] ≡ []
unfolding lines_after
lines_nil n = refl

pub lines_first : (bytes : List ℕ) (xs : List Numbered) → xs ≡ [] → map numbered_of xs ++ lines_after 0 (slice_split ends_line bytes) ≡ lines_in bytes
lines_first bytes xs e = ap (λ ys. map numbered_of ys ++ lines_after 0 (slice_split ends_line bytes)) e ∙ sym (lines_are bytes)

pub lines_more : (bytes rest line after : List ℕ) (old new : List meant.Numbered) (done i : ℕ) → Some i ≡ position ends_line rest → line ≡ take i rest → after ≡ drop (i + 1) rest → new ≡ old ++ cons_option (numbered (done + 1) (part_in line)) []
    → old ++ lines_after done (slice_split ends_line rest) ≡ lines_in bytes → new ++ lines_after (done + 1) (slice_split ends_line after) ≡ lines_in bytes
lines_more bytes rest line after old new done i e front_is after_is made so_far =
    ap₂ (λ x a. x ++ lines_after (done + 1) (slice_split ends_line a)) made after_is
    ∙ onto (numbered (done + 1) (part_in line)) old (lines_after (done + 1) (slice_split ends_line (drop (i + 1) rest)))
    ∙ ap (λ l. old ++ cons_option (numbered (done + 1) (part_in l)) (lines_after (done + 1) (slice_split ends_line (drop (i + 1) rest)))) front_is
    ∙ ap (λ z. old ++ z) (sym (lines_cons done (take i rest) (slice_split ends_line (drop (i + 1) rest))))
    ∙ ap (λ z. old ++ lines_after done z) (sym (newline_split rest i e).1)
    ∙ so_far

pub lines_end : (bytes rest : List ℕ) (old new : List meant.Numbered) (done : ℕ) → None ≡ position ends_line rest → new ≡ old ++ cons_option (numbered (done + 1) (part_in rest)) []
    → old ++ lines_after done (slice_split ends_line rest) ≡ lines_in bytes → new ≡ lines_in bytes
lines_end bytes rest old new done e made so_far =
    made
    ∙ ap (λ z. old ++ cons_option (numbered (done + 1) (part_in rest)) z) (sym (lines_nil (done + 1)))
    ∙ ap (λ z. old ++ z) (sym (lines_cons done rest []))
    ∙ ap (λ z. old ++ lines_after done z) (sym (newline_none rest e))
    ∙ so_far

pub no_lines : (bytes : List ℕ) → length bytes ≡ 0 → lines_in bytes ≡ []
unfolding lines_in lines_after numbered part_in is_headed
no_lines [] e = refl
no_lines (b ∷ bytes) e = absurd (omega (arith, e))
