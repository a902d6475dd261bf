-- Values that are written compactly are read back.
--   joined found ms            the members found, and those of ms after them
--   IsAfter k ms               the key comes after each key of the members
--   AreRising found ms         each key of ms comes after all that stand before it, those found counted
--   IsPlain d                  its numbers are whole and below 2^64, its strings and keys are ASCII, and the keys of its objects rise
--   put_last                   a key that comes after all others is put at the end
--   read_outline               what is written for such a value reads as the value
--   has_numbers                and has numbers
--   depth_outline              and is as deep
--   text_is_utf8               its text is UTF-8
--   json_back                  its text is read back, if it isn't too deep
--   plain_items, plain_numbers      lists of such values, and lists of numbers
--   items_shallow, numbers_shallow      how deep lists are
--   each_back, numbers_back    what is written for a list of things is read as the list, if each is; a list of numbers is
--   listed_items               the list of the items of a list
use Rattle.std.proofs.Common.{◌≡◌, ℕ, suc, ◌^◌, ◌<◌, ◌≤◌, Bool, true, false, List, [], ◌∷◌, ◌++◌, map, All, Option, Some, option_map, option_and_then, decimal, refl, sym, ap, ◌∙◌, arith, append-nil}
use Rattle.std.specs.Prelude.{⊤}
use Rattle.std.specs.Str.{IsUtf8}
use Rattle.std.specs.Ordering.{nat_cmp}
use Rattle.std.specs.declared.cmp.Ordering.TheVariants.{Greater}
use Rattle.std.specs.Cmp.Lexicographic.{slice_cmp}
use Rattle.std.proofs.lemmas.Str.{IsUtf8-append, IsUtf8-from_ascii, is_utf8-from_IsUtf8}
use Rattle.std.proofs.lemmas.Fmt.{IsAscii-decimal}
use Rattle.std.proofs.lemmas.List.Elements.{All-head, All-tail}
use Rattle.json.specs.Lex.{tokens}
use Rattle.json.specs.Json as json
use Rattle.json.specs.Tree as tree
use Rattle.json.specs.Print.{quoted}
use Rattle.json.proofs.Printed.Tokens.{tokens-print}
use Rattle.json.proofs.Printed.Decimals.{IsNumber-decimal}
use Rattle.json.proofs.Printed.Trees.{ArePrintable-json_tokens, value-json_tokens}
use Rattle.json.proofs.Printed.Utf8.{are_ascii, IsUtf8-are_ascii, IsUtf8-quoted}
use Rattle.serde_json.specs.Data.{unsigned, negative, float, Data, null, boolean, number, string, array, object, Items, no_items, item, Members, no_members, member, put, depth, items_depth, members_depth}
use Rattle.serde_json.specs.Read.{of_json, of_items, of_members, read, max_depth}
use Rattle.serde_json.specs.Written.{outline, items_outline, members_outline, compact_text, items_text, members_text, comma_if}
use Rattle.serde_json.proofs.Texts.{print-outline}
use Rattle.serde_json.proofs.Numbers.{number_of-decimal}
use Rattle.lc_formats.specs.Json.{number_json, items, numbers_json, listed, each, plain_number, numbers_of, json_in}

abbrev pub joined : Members → Members → Members
joined no_members ms = ms
joined (member k d found) ms = member k d (joined found ms)

abbrev pub IsAfter : List ℕ → Members → Type 0
IsAfter k no_members = ⊤
IsAfter k (member l d ms) = (slice_cmp nat_cmp k l ≡ Greater) × IsAfter k ms

abbrev pub AreRising : Members → Members → Type 0
AreRising found no_members = ⊤
AreRising found (member k d ms) = IsAfter k found × AreRising (joined found (member k d no_members)) ms

abbrev mutual
  pub IsPlain : Data → Type 0
  IsPlain null = ⊤
  IsPlain (boolean b) = ⊤
  IsPlain (number (unsigned n)) = n < 2 ^ 64
  IsPlain (number (negative z)) = ⊥
  IsPlain (number (float x)) = ⊥
  IsPlain (string s) = are_ascii s ≡ true
  IsPlain (array ds) = ArePlain ds
  IsPlain (object ms) = HavePlain ms × AreRising no_members ms

  pub ArePlain : Items → Type 0
  ArePlain no_items = ⊤
  ArePlain (item d ds) = IsPlain d × ArePlain ds

  pub HavePlain : Members → Type 0
  HavePlain no_members = ⊤
  HavePlain (member k d ms) = (are_ascii k ≡ true) × IsPlain d × HavePlain ms

pub put_last : (k : List ℕ) (d : Data) (found : Members) → IsAfter k found → put k d found ≡ joined found (member k d no_members)
put_last k d no_members h = refl
put_last k d (member l e found) h = rw h.0 (ap (λ ms. member l e ms) (put_last k d found h.1))

joined_again : (found : Members) (k : List ℕ) (d : Data) (ms : Members) → joined (joined found (member k d no_members)) ms ≡ joined found (member k d ms)
joined_again no_members k d ms = refl
joined_again (member l e found) k d ms = ap (λ rest. member l e rest) (joined_again found k d ms)

joined_none : (found : Members) → joined found no_members ≡ found
joined_none no_members = refl
joined_none (member k d found) = ap (λ ms. member k d ms) (joined_none found)

mutual
  pub read_outline : (d : Data) → IsPlain d → of_json (outline d) ≡ Some d
  read_outline null h = refl
  read_outline (boolean b) h = refl
  read_outline (number (unsigned n)) h = ap (option_map number) (number_of-decimal n h)
  read_outline (number (negative z)) h = absurd h
  read_outline (number (float x)) h = absurd h
  read_outline (string s) h = refl
  read_outline (array ds) h = ap (option_map array) (read_items ds h)
  read_outline (object ms) h = ap (option_map object) (read_members ms no_members h.0 h.1)

  read_items : (ds : Items) → ArePlain ds → of_items (items_outline ds) ≡ Some ds
  read_items no_items h = refl
  read_items (item d ds) h =
      ap (option_and_then (λ e. option_map (item e) (of_items (items_outline ds)))) (read_outline d h.0)
      ∙ ap (option_map (item d)) (read_items ds h.1)

  read_members : (ms found : Members) → HavePlain ms → AreRising found ms → of_members (members_outline ms) found ≡ Some (joined found ms)
  read_members no_members found h r = ap Some (sym (joined_none found))
  read_members (member k d ms) found h r =
      ap (option_and_then (λ e. of_members (members_outline ms) (put k e found))) (read_outline d h.1)
      ∙ ap (of_members (members_outline ms)) (put_last k d found r.0)
      ∙ read_members ms (joined found (member k d no_members)) h.2 r.1
      ∙ ap Some (joined_again found k d ms)

mutual
  pub has_numbers : (d : Data) → IsPlain d → tree.HasNumbers (outline d)
  has_numbers null h = tt
  has_numbers (boolean b) h = tt
  has_numbers (number (unsigned n)) h = IsNumber-decimal n h
  has_numbers (number (negative z)) h = absurd h
  has_numbers (number (float x)) h = absurd h
  has_numbers (string s) h = tt
  has_numbers (array ds) h = items_have_numbers ds h
  has_numbers (object ms) h = members_have_numbers ms h.0

  items_have_numbers : (ds : Items) → ArePlain ds → tree.ItemsHaveNumbers (items_outline ds)
  items_have_numbers no_items h = tt
  items_have_numbers (item d ds) h = (has_numbers d h.0, items_have_numbers ds h.1)

  members_have_numbers : (ms : Members) → HavePlain ms → tree.MembersHaveNumbers (members_outline ms)
  members_have_numbers no_members h = tt
  members_have_numbers (member k d ms) h = (has_numbers d h.1, members_have_numbers ms h.2)

mutual
  pub depth_outline : (d : Data) → tree.depth (outline d) ≡ depth d
  depth_outline null = refl
  depth_outline (boolean b) = refl
  depth_outline (number n) = refl
  depth_outline (string s) = refl
  depth_outline (array ds) = ap suc (items_depth_outline ds)
  depth_outline (object ms) = ap suc (members_depth_outline ms)

  items_depth_outline : (ds : Items) → tree.items_depth (items_outline ds) ≡ items_depth ds
  items_depth_outline no_items = refl
  items_depth_outline (item d ds) = cc (depth_outline d, items_depth_outline ds)

  members_depth_outline : (ms : Members) → tree.members_depth (members_outline ms) ≡ members_depth ms
  members_depth_outline no_members = refl
  members_depth_outline (member k d ms) = cc (depth_outline d, members_depth_outline ms)

literal : (s : List ℕ) → are_ascii s ≡ true → IsUtf8 s
literal s e = IsUtf8-are_ascii s e

after_literal : (s rest : List ℕ) → are_ascii s ≡ true → IsUtf8 rest → IsUtf8 (s ++ rest)
after_literal s rest e u = IsUtf8-append s rest (literal s e) u

after_comma : (later : Bool) (rest : List ℕ) → IsUtf8 rest → IsUtf8 (comma_if later ++ rest)
after_comma true rest u = after_literal (44 ∷ []) rest refl u
after_comma false rest u = u

mutual
  pub text_is_utf8 : (d : Data) → IsPlain d → IsUtf8 (compact_text d)
  text_is_utf8 null h = literal _ refl
  text_is_utf8 (boolean true) h = literal _ refl
  text_is_utf8 (boolean false) h = literal _ refl
  text_is_utf8 (number (unsigned n)) h = IsUtf8-from_ascii (decimal n) (IsAscii-decimal n h)
  text_is_utf8 (number (negative z)) h = absurd h
  text_is_utf8 (number (float x)) h = absurd h
  text_is_utf8 (string s) h = IsUtf8-quoted s (literal s h)
  text_is_utf8 (array ds) h = after_literal (91 ∷ []) (items_text false ds) refl (items_are_utf8 ds false h)
  text_is_utf8 (object ms) h = after_literal (123 ∷ []) (members_text false ms) refl (members_are_utf8 ms false h.0)

  items_are_utf8 : (ds : Items) (later : Bool) → ArePlain ds → IsUtf8 (items_text later ds)
  items_are_utf8 no_items later h = literal _ refl
  items_are_utf8 (item d ds) later h = after_comma later _ (IsUtf8-append (compact_text d) (items_text true ds) (text_is_utf8 d h.0) (items_are_utf8 ds true h.1))

  members_are_utf8 : (ms : Members) (later : Bool) → HavePlain ms → IsUtf8 (members_text later ms)
  members_are_utf8 no_members later h = literal _ refl
  members_are_utf8 (member k d ms) later h =
      after_comma later _ (IsUtf8-append (quoted k) _ (IsUtf8-quoted k (literal k h.0))
      (after_literal (58 ∷ []) _ refl (IsUtf8-append (compact_text d) (members_text true ms) (text_is_utf8 d h.1) (members_are_utf8 ms true h.2))))

pub read_back : (d : Data) → IsPlain d → depth d ≤ max_depth → read (compact_text d) ≡ Some d
read_back d h shallow =
    let printed : tokens (compact_text d) ≡ tree.json_tokens (outline d) =
    ap tokens (sym (print-outline d)) ∙ tokens-print (tree.json_tokens (outline d)) (ArePrintable-json_tokens (outline d) (has_numbers d h)) in
    ap (λ o. option_and_then of_json (option_and_then (λ p. json.if_last p.0 p.1) o))
    (ap (json.value max_depth) (printed ∙ sym (append-nil (tree.json_tokens (outline d)))) ∙ value-json_tokens (outline d) max_depth [] (omega (arith, depth_outline d, shallow)))
    ∙ read_outline d h

pub json_back : (d : Data) → IsPlain d → depth d ≤ max_depth → json_in (compact_text d) ≡ Some d
unfolding json_in
json_back d h shallow = rw (is_utf8-from_IsUtf8 (compact_text d) (text_is_utf8 d h)) (read_back d h shallow)

pub plain_items : (ds : List Data) → All IsPlain ds → ArePlain (items ds)
unfolding items
plain_items [] h = tt
plain_items (d ∷ ds) h = (All-head IsPlain d ds h, plain_items ds (All-tail IsPlain d ds h))

pub plain_numbers : (u : List ℕ) → All (λ n. n < 2 ^ 64) u → IsPlain (numbers_json u)
unfolding items numbers_json number_json
plain_numbers [] h = tt
plain_numbers (n ∷ u) h = (All-head (λ n. n < 2 ^ 64) n u h, plain_numbers u (All-tail (λ n. n < 2 ^ 64) n u h))

pub items_shallow : (most : ℕ) (ds : List Data) → All (λ d. depth d ≤ most) ds → items_depth (items ds) ≤ most
unfolding items
items_shallow most [] h = omega arith
items_shallow most (d ∷ ds) h = omega (arith, All-head (λ d. depth d ≤ most) d ds h, items_shallow most ds (All-tail (λ d. depth d ≤ most) d ds h))

pub numbers_shallow : (u : List ℕ) → depth (numbers_json u) ≤ 1
unfolding items numbers_json number_json
numbers_shallow [] = omega arith
numbers_shallow (n ∷ u) = omega (arith, numbers_shallow u)

pub listed_items : (ds : List Data) → listed (items ds) ≡ ds
unfolding items listed
listed_items [] = refl
listed_items (d ∷ ds) = ap (λ rest. d ∷ rest) (listed_items ds)

pub each_back : {X Y : Type 0} (write : X → Y) (back : Y → Option X) (xs : List X) → All (λ x. back (write x) ≡ Some x) xs → each (map back (map write xs)) ≡ Some xs
unfolding each
each_back write back [] h = refl
each_back write back (x ∷ xs) h = rw (All-head (λ x. back (write x) ≡ Some x) x xs h) (ap (option_map (λ rest. x ∷ rest)) (each_back write back xs (All-tail (λ x. back (write x) ≡ Some x) x xs h)))

pub numbers_back : (u : List ℕ) → numbers_of (numbers_json u) ≡ Some u
unfolding numbers_of numbers_json plain_number number_json
numbers_back u = ap (λ ds. each (map plain_number ds)) (listed_items (map number_json u)) ∙ each_back number_json plain_number u (λ k d l. refl)
