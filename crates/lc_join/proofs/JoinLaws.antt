-- What lines make.
--   usable                       facts in range are those of a search
--   lines_ranged                 the lines of parts are in range
--   joined_ranged                what parts bring a search to is in range
--   point_is, point_writable     the checkpoint that is written
--   usable_copy, first_ranged    those of the first line
--   first_is_of, first_begun     the search that it begins
--   few_now                      no more blocks than the budget
--   lacks, has_text, ranged_now  what agreeing lines make
use Rattle.std.proofs.Common.{◌≡◌, ℕ, zero, suc, ◌+◌, ◌^◌, ◌<◌, ◌≤◌, ◌==◌, ◌&&◌, Bool, true, false, cond, nat_le, if◌then◌else◌, find, List, [], ◌∷◌, length, map, drop, get_or, All, Contains, Option, Some, None, is_some, refl, sym, ap, ap₂, subst, ◌∙◌, inr, arith}
use Rattle.std.specs.List.{cons_option, slice_split, AllPairs}
use Rattle.std.proofs.lemmas.Bool.{and_parts, leb-true, eqb-true, false≢true}
use Rattle.std.proofs.lemmas.List.{get_or-map, get_or_default, length-map}
use Rattle.hex.specs.Hex.{IsBytes}
use Rattle.lc_algebra.specs.Field.{size, is_symbol}
use Rattle.lc_algebra.proofs.FieldTests.{above_one}
use Rattle.lc_constructions.specs.Cyclic.{all_fields}
use Rattle.lc_enumeration.specs.Search.{beats, least_of}
use Rattle.lc_enumeration.specs.Records.{Progress, found_of, progress_of}
use Rattle.lc_formats.specs.Document.{symbol_field}
use Rattle.lc_formats.specs.Checkpoint as formats
use Rattle.lc_formats.specs.Checkpoint.{IsProgress, IsWritable, checkpoint_text, current_of}
use Rattle.lc_formats.proofs.CheckpointSize.{text_fits}
use Rattle.lc_parts.specs.Part.{Part, Facts, part_end, found_in}
use Rattle.lc_parts.specs.Along.{first_by, is_answered, continues, after_part, with_part, along}
use Rattle.lc_parts.specs.Joined.{AreUsable, JoinState, first_state}
use Rattle.lc_part_lines.specs.Line.{PartLine, line_is, refused, ReadLine, part_in, are_ranks, AreFacts, IsPart, IsInRange}
use Rattle.lc_part_lines.proofs.LineRange.{line_ranged}
use Rattle.lc_parts.specs.Seen.{facts_seen}
use Rattle.lc_part_lines.specs.Seen.{line_of}
use Rattle.lc_part_lines.specs.declared.line.PartLine.{PartLine as Line}
use Rattle.lc_checkpoint.specs.Seen.{point_of}
use Rattle.lc_checkpoint.specs.declared.checkpoint.Checkpoint.{Checkpoint as Kept}
use Rattle.lc_join.specs.Seen.{numbered_of, IsOf}
use Rattle.lc_join.specs.declared.lines.Numbered.{Numbered as Seen}
use Rattle.lc_join.specs.Lines.{Numbered, Agree, numbered, lines_after, lines_in, parts_in}
use Rattle.lc_part_laws.specs.Point.{joined_point}
use Rattle.lc_join.specs.Joining.{times, IsJoined, IsMissing, Joins, HasText, Lacks}
use Rattle.lc_join.proofs.WalkLaws.{drawn}

-- ---- facts

found_passes : {X : Type 0} (p : X → Bool) (xs : List X) (x : X) → find p xs ≡ Some x → p x ≡ true
found_passes p [] x e = absurd (let z = e in cc)
found_passes {X} p (y ∷ ys) x e = by (p y) refl e (found_passes p ys x)
  where
    by : (b : Bool) → p y ≡ b → cond b (Some y) (find p ys) ≡ Some x → (find p ys ≡ Some x → p x ≡ true) → p x ≡ true
    by true t h rest = let same : y ≡ x = let z = h in cc in ap p (sym same) ∙ t
    by false t h rest = rest h

some_is : {X : Type 0} (o : Option X) → is_some o ≡ true → (x : X) × (o ≡ Some x)
some_is (Some x) e = (x, refl)
some_is None e = absurd (false≢true e)

size_within : (q : ℕ) → is_some (symbol_field q) ≡ true → (2 ≤ q) × (q ≤ 16)
unfolding symbol_field is_symbol
size_within q t =
    let f = some_is (find (λ f. (size f == q) && is_symbol f) all_fields) t in
    let a = and_parts (size f.0 == q) (nat_le (size f.0) 16) (found_passes (λ f. (size f == q) && is_symbol f) all_fields f.0 f.1) in
    let is = eqb-true (size f.0) q a.0 in
    let few = leb-true (size f.0) 16 a.1 in
    (omega (arith, is, above_one f.0), omega (arith, is, few))

ranks_within : (k : ℕ) (ranks : List ℕ) → are_ranks k ranks ≡ true → (1 ≤ length ranks) × (length ranks ≤ 255)
unfolding are_ranks
ranks_within k ranks t =
    let a = and_parts _ _ t in
    let b = and_parts _ _ a.1 in
    let c = and_parts _ _ b.1 in
    (leb-true 1 (length ranks) a.0, leb-true (length ranks) 255 c.0)

pub usable : (f : Facts) → AreFacts f → AreUsable f
usable f h = record {
  dimension = (h.some, h.few);
  field = size_within f.q h.field;
  sets = ranks_within f.k f.ranks h.ranks;
  divisor = (h.divides, h.small);
}

-- ---- lines

onto_ranged : (o : Option Numbered) (xs : List Numbered) → ((x : Numbered) → o ≡ Some x → IsInRange x.line) → All (λ l. IsInRange l.line) xs → All (λ l. IsInRange l.line) (cons_option o xs)
onto_ranged None xs h all = all
onto_ranged (Some x) xs h all = λ k d l. by k d l
  where
    by : (k : ℕ) (d : Numbered) → k < length (x ∷ xs) → IsInRange (get_or (x ∷ xs) k d).line
    by zero d l = h x refl
    by (suc k) d l = all k d (omega (arith, l))

numbered_ranged : (n : ℕ) (bytes : List ℕ) (r : ReadLine) → part_in bytes ≡ r → (x : Numbered) → numbered n r ≡ Some x → IsInRange x.line
unfolding numbered
numbered_ranged n bytes (line_is m) e x h = subst (λ (y : Numbered). IsInRange y.line) (let same : (record { number = n; line = m }) ≡ x = let z = h in cc in same) (line_ranged bytes m e)
numbered_ranged n bytes (refused r) e x h = absurd (let z = h in cc)

after_ranged : (n : ℕ) (lines : List (List ℕ)) → All (λ l. IsInRange l.line) (lines_after n lines)
unfolding lines_after
after_ranged n [] = λ k d l. absurd (omega (arith, l))
after_ranged n (b ∷ lines) = onto_ranged (numbered (n + 1) (part_in b)) (lines_after (n + 1) lines) (numbered_ranged (n + 1) b (part_in b) refl) (after_ranged (n + 1) lines)

pub lines_ranged : (bytes : List ℕ) → All (λ l. IsInRange l.line) (lines_in bytes)
unfolding lines_in
lines_ranged bytes = after_ranged 0 (slice_split (λ b. b == 10) bytes)

-- ---- how far a search is

pub record IsLight (s : Progress) : Type 0 where
  pub nonzero : 1 ≤ s.weight
  pub light : s.weight ≤ 255
  pub near : s.place < 2 ^ 52

after_is : (s : Progress) (p : Part) → after_part s p ≡ (if beats (found_in p) (found_of s) then record { blocks = part_end p; weight = p.weight; place = p.place } else record { blocks = part_end p; weight = s.weight; place = s.place })
unfolding after_part progress_of least_of found_in found_of
after_is s p = by (beats (found_in p) (found_of s))
  where
    by : (b : Bool) → Path Progress (record { blocks = part_end p; weight = (if b then found_in p else found_of s).weight; place = (if b then found_in p else found_of s).place }) (if b then record { blocks = part_end p; weight = p.weight; place = p.place } else record { blocks = part_end p; weight = s.weight; place = s.place })
    by true = refl
    by false = refl

after_light : (s : Progress) (p : Part) → IsLight s → IsPart p → IsLight (after_part s p)
after_light s p h q = subst IsLight (sym (after_is s p)) (by (beats (found_in p) (found_of s)))
  where
    by : (b : Bool) → IsLight (if b then record { blocks = part_end p; weight = p.weight; place = p.place } else record { blocks = part_end p; weight = s.weight; place = s.place })
    by true = record { nonzero = q.nonzero; light = q.light; near = q.near }
    by false = record { nonzero = h.nonzero; light = h.light; near = h.near }

with_light : (f : Facts) (b : ℕ) (s : Progress) (p : Part) → IsLight s → IsPart p → IsLight (with_part f b s p)
unfolding with_part
with_light f b s p h q = by (is_answered f b s) (continues f b s p)
  where
    by : (a c : Bool) → IsLight (if a then s else (if c then after_part s p else s))
    by true c = h
    by false true = after_light s p h q
    by false false = h

along_light : (f : Facts) (b : ℕ) (s : Progress) (ps : List Part) → IsLight s → All IsPart ps → IsLight (along f b s ps)
unfolding along
along_light f b s [] h all = h
along_light f b s (p ∷ ps) h all = along_light f b (with_part f b s p) ps (with_light f b s p h (all 0 p (omega arith))) (λ k d l. all (suc k) d (omega (arith, l)))

first_light : (f : Facts) → AreFacts f → IsLight (first_by f)
unfolding first_by
first_light f h = record { nonzero = h.nonzero; light = h.light; near = omega arith }

drawn_parts : (ps taken : List Part) → All IsPart ps → All (Contains ps) taken → All IsPart taken
drawn_parts ps taken all drawn = λ k d l. let c = drawn k d l in subst IsPart c.2 (all c.0 (get_or taken k d) c.1)

parts_are : (xs : List Numbered) → All (λ l. IsInRange l.line) xs → All IsPart (parts_in xs)
parts_are [] all = λ k d l. absurd (omega (arith, l))
parts_are (x ∷ xs) all = λ k d l.
    let inside : k < length (x ∷ xs) = omega (arith, l, length-map (x ∷ xs) (λ y. y.line.part)) in
    subst IsPart (sym (get_or-map (λ y. y.line.part) (x ∷ xs) k x d inside)) (all k x inside).part

pub joined_ranged : (f : Facts) (budget : ℕ) (lines : List Numbered) (s : Progress) → AreFacts f → All (λ l. IsInRange l.line) lines → s.blocks ≤ budget → IsJoined f budget (parts_in lines) s → IsProgress budget s
joined_ranged f budget lines s h all few j =
    let light = subst IsLight j.reached (along_light f budget (first_by f) (times j.passes (parts_in lines)) (first_light f h) (drawn_parts (parts_in lines) (times j.passes (parts_in lines)) (parts_are lines all) (drawn j.passes (parts_in lines)))) in
    record { done = few; nonzero = light.nonzero; light = light.light; near = light.near }

-- ---- the checkpoint

pub point_is : (p : Kept) (script : List ℕ) (budget : ℕ) (s : Progress) → p.version ≡ 2 → p.script ≡ script → p.budget ≡ budget → p.turn ≡ 0 → p.settled.items ≡ [] → p.blocks ≡ s.blocks → p.weight ≡ s.weight → p.place ≡ s.place → point_of p ≡ joined_point script budget s
unfolding point_of joined_point
point_is p script budget s a b c d e f g h = rw (a, b, c, d, e, f, g, h) refl

pub point_writable : (script : List ℕ) (budget : ℕ) (s : Progress) → length script ≡ 32 → IsBytes script → budget ≤ 2 ^ 40 → IsProgress budget s → IsWritable (joined_point script budget s)
unfolding joined_point current_of
point_writable script budget s long bytes small h =
    let p = joined_point script budget s in
    let ranged : formats.IsInRange p = record {
      known = inr refl;
      digest = long;
      bytes = bytes;
      small = small;
      early = omega arith;
      few = omega arith;
      records = λ k d l. absurd (omega (arith, l));
      current = record { done = h.done; nonzero = h.nonzero; light = h.light; near = h.near };
    } in
    record { in_range = ranged; newest = refl; short = text_fits p ranged (omega arith) }

-- ---- what agreeing lines make

pub usable_copy : (l : Line) (ranks : List ℕ) → ranks ≡ l.facts.ranks.items → IsInRange (line_of l) → AreUsable (record { k = l.facts.k; q = l.facts.q; ranks = ranks; divisor = l.facts.divisor; first = l.facts.first })
unfolding line_of
usable_copy l ranks e h = subst (λ r. AreUsable (record { k = l.facts.k; q = l.facts.q; ranks = r; divisor = l.facts.divisor; first = l.facts.first })) (sym e) (usable (facts_seen l.facts) h.facts)

seen_line : (x : Seen) → (numbered_of x).line ≡ line_of x.line
unfolding numbered_of
seen_line x = refl

seen_facts : (x : Seen) → (numbered_of x).line.facts ≡ facts_seen x.line.facts
unfolding numbered_of line_of
seen_facts x = refl

seen_script : (x : Seen) → (numbered_of x).line.script ≡ x.line.script
unfolding numbered_of line_of
seen_script x = refl

head_is : (xs : List Seen) (x : Seen) → 0 < length xs → map numbered_of xs ≡ numbered_of (get_or xs 0 x) ∷ map numbered_of (drop 1 xs)
head_is [] x l = absurd (omega (arith, l))
head_is (y ∷ ys) x l = refl

pub first_ranged : (xs : List Seen) (x : Seen) → 0 < length xs → All (λ l. IsInRange l.line) (map numbered_of xs) → IsInRange (line_of (get_or xs 0 x).line)
first_ranged xs x l all =
    let d = numbered_of (get_or xs 0 x) in
    subst IsInRange (ap (λ (y : Numbered). y.line) (get_or-map numbered_of xs 0 x d l) ∙ seen_line (get_or xs 0 x)) (all 0 d (omega (arith, l, length-map xs numbered_of)))

record StartsAt (s : JoinState) (script : List ℕ) (f : Facts) (budget : ℕ) : Type 0 where
  pub script_is : s.script ≡ script
  pub facts_are : s.facts ≡ f
  pub budget_is : s.budget ≡ budget
  pub begun : s.progress ≡ first_by f

starts : (s : JoinState) (script : List ℕ) (f : Facts) (budget : ℕ) → s ≡ first_state script f budget → StartsAt s script f budget
unfolding first_state
starts s script f budget e = record { script_is = ap (λ (x : JoinState). x.script) e; facts_are = ap (λ (x : JoinState). x.facts) e; budget_is = ap (λ (x : JoinState). x.budget) e; begun = ap (λ (x : JoinState). x.progress) e }

pub few_now : (v w : JoinState) → v ≡ w → v.progress.blocks ≤ v.budget → w.progress.blocks ≤ w.budget
few_now v w e l = subst (λ (x : JoinState). x.progress.blocks ≤ x.budget) e l

module _ (budget : ℕ) (xs : List Seen) (x : Seen) (first : JoinState) (some : 0 < length xs) (is : first ≡ first_state (get_or xs 0 x).line.script (facts_seen (get_or xs 0 x).line.facts) budget) where
  abbrev head : Seen
  head = get_or xs 0 x

  begins : StartsAt first head.line.script (facts_seen head.line.facts) budget
  begins = starts first head.line.script (facts_seen head.line.facts) budget is

  pub first_is_of : (d : Seen) → IsOf first (get_or xs 0 d)
  first_is_of d = subst (IsOf first) (get_or_default xs 0 x d some) (sym begins.script_is, sym begins.facts_are)

  pub first_begun : first.progress ≡ first_by first.facts
  first_begun = begins.begun ∙ ap first_by (sym begins.facts_are)

  module _ (s : JoinState) (agreed : AllPairs Agree (map numbered_of xs)) (went : IsJoined first.facts first.budget (parts_in (map numbered_of xs)) s.progress) (script : s.script ≡ first.script) (facts : s.facts ≡ first.facts) (same : s.budget ≡ first.budget) where
    facts_now : s.facts ≡ (numbered_of head).line.facts
    facts_now = facts ∙ begins.facts_are ∙ sym (seen_facts head)

    budget_now : s.budget ≡ budget
    budget_now = same ∙ begins.budget_is

    abbrev joins : Joins budget (map numbered_of xs)
    joins = record {
      first = numbered_of head;
      others = map numbered_of (drop 1 xs);
      lines_are = head_is xs x some;
      agreed = agreed;
      state = s.progress;
      joined = subst (λ f. IsJoined f budget (parts_in (map numbered_of xs)) s.progress) (begins.facts_are ∙ sym (seen_facts head)) (subst (λ b. IsJoined first.facts b (parts_in (map numbered_of xs)) s.progress) begins.budget_is went);
    }

    answered_now : (b : Bool) → is_answered s.facts s.budget s.progress ≡ b → is_answered (numbered_of head).line.facts budget s.progress ≡ b
    answered_now b e = ap₂ (λ f n. is_answered f n s.progress) (sym facts_now) (sym budget_now) ∙ e

    pub lacks : (a b : ℕ) → is_answered s.facts s.budget s.progress ≡ false → a ≡ s.progress.blocks → IsMissing s.facts s.budget (parts_in (map numbered_of xs)) s.progress b → Lacks budget (map numbered_of xs) a b
    lacks a b open_still at missing = (
      joins,
      answered_now false open_still,
      sym at,
      subst (λ f. IsMissing f budget (parts_in (map numbered_of xs)) s.progress b) facts_now (subst (λ n. IsMissing s.facts n (parts_in (map numbered_of xs)) s.progress b) budget_now missing),
    )

    pub has_text : (text : List ℕ) → is_answered s.facts s.budget s.progress ≡ true → text ≡ checkpoint_text (joined_point s.script budget s.progress) → HasText budget (map numbered_of xs) text
    has_text text done e = (joins, answered_now true done, e ∙ ap (λ z. checkpoint_text (joined_point z budget s.progress)) (script ∙ begins.script_is ∙ sym (seen_script head)))

    pub ranged_now : All (λ l. IsInRange l.line) (map numbered_of xs) → s.progress.blocks ≤ s.budget → IsProgress budget s.progress
    ranged_now all few =
        joined_ranged (numbered_of head).line.facts budget (map numbered_of xs) s.progress (subst (λ (l : PartLine). AreFacts l.facts) (sym (seen_line head)) (first_ranged xs x some all).facts) all (omega (arith, few, budget_now)) joins.joined
