-- What is known of JSON values that were read, and of the parts that a reader takes.
--   AreFit d                   each whole number in the value is below 2^64
--   read_fits, json_fits       a value that was read is so
--   member_fits, number_fits, object_fits, listed_fit      so are its members, its numbers, its objects, and the items of its lists
--   provided_inside            what was let through was there, and passed the test
--   each_all                   what holds of all that comes from the elements of a list holds of the list that was made of them
--   each_length                which is as long
use Rattle.std.proofs.Common.{◌≡◌, ℕ, suc, ◌^◌, ◌<◌, Bool, true, false, nat_lt, nat_le, ◌==◌, ◌&&◌, if◌then◌else◌, List, [], ◌∷◌, map, length, drop, slice_index, All, Option, Some, None, option_map, option_and_then, refl, sym, ap, subst, ◌∙◌, arith}
use Rattle.std.specs.Prelude.{⊤, ℤ, Float}
use Rattle.std.specs.Str.{is_utf8}
use Rattle.std.specs.Ordering.{nat_cmp, match_ordering}
use Rattle.std.specs.declared.cmp.Ordering.{Ordering}
use Rattle.std.specs.declared.cmp.Ordering.TheVariants.{Less, Equal, Greater}
use Rattle.std.specs.Cmp.Lexicographic.{slice_cmp}
use Rattle.std.proofs.lemmas.Bool.{and_parts, ltb-true}
use Rattle.std.proofs.lemmas.Option.{option_and_then_some, same_Some}
use Rattle.std.proofs.lemmas.List.Elements.{All-cons, All-head, All-tail}
use Rattle.fast_float.specs.Text.{scan, digits_of, with_sign}
use Rattle.json.specs.Json as json
use Rattle.json.specs.Lex.{tokens}
use Rattle.serde_json.specs.Data.{Num, unsigned, negative, float, Data, null, boolean, number, string, array, object, Items, no_items, item, Members, no_members, member, put}
use Rattle.serde_json.specs.Read.{of_json, of_items, of_members, number_of, number_from, float_of, is_integer, max_depth, read}
use Rattle.serde_json.specs.Find.{get_member, as_number, as_u64, as_array, as_object}
use Rattle.lc_formats.specs.Json.{number_at, listed, each, provided, json_in}

abbrev IsFit : Option Num → Type 0
IsFit o = (n : ℕ) → o ≡ Some (unsigned n) → n < 2 ^ 64

abbrev mutual
  pub AreFit : Data → Type 0
  AreFit null = ⊤
  AreFit (boolean b) = ⊤
  AreFit (number (unsigned n)) = n < 2 ^ 64
  AreFit (number (negative z)) = ⊤
  AreFit (number (float x)) = ⊤
  AreFit (string s) = ⊤
  AreFit (array ds) = ItemsFit ds
  AreFit (object ms) = MembersFit ms

  pub ItemsFit : Items → Type 0
  ItemsFit no_items = ⊤
  ItemsFit (item d ds) = AreFit d × ItemsFit ds

  pub MembersFit : Members → Type 0
  MembersFit no_members = ⊤
  MembersFit (member k d ms) = AreFit d × MembersFit ms

either_fits : (b : Bool) (x y : Option Num) → (b ≡ true → IsFit x) → IsFit y → IsFit (if b then x else y)
either_fits true x y h k = h refl
either_fits false x y h k = k

same_unsigned : (m n : ℕ) → Some (unsigned m) ≡ Some (unsigned n) → m ≡ n
same_unsigned m n e = cc e

not_negative : (z : ℤ) (n : ℕ) → Some (negative z) ≡ Some (unsigned n) → ⊥
not_negative z n e = absurd cc

not_float : (x : Float) (n : ℕ) → Some (float x) ≡ Some (unsigned n) → ⊥
not_float x n e = absurd cc

no_number : IsFit None
no_number n e = absurd cc

finite_fits : (b : Bool) (x : Float) → IsFit (if b then Some (float x) else None)
finite_fits true x n e = absurd (not_float x n e)
finite_fits false x n e = no_number n e

from_fits : (sign : Bool) (p : _) → IsFit (number_from sign p)
from_fits false p = either_fits (is_integer p && nat_lt (digits_of p) (2 ^ 64)) (Some (unsigned (digits_of p))) (float_of false p) (λ k n same. subst (λ m. m < 2 ^ 64) (same_unsigned (digits_of p) n same) (ltb-true (digits_of p) (2 ^ 64) (and_parts (is_integer p) (nat_lt (digits_of p) (2 ^ 64)) k).1)) (finite_fits _ _)
from_fits true p = either_fits (is_integer p && nat_lt 0 (digits_of p) && nat_le (digits_of p) (2 ^ 63)) (Some (negative (with_sign true (digits_of p)))) (float_of true p) (λ k n same. absurd (not_negative _ n same)) (finite_fits _ _)

text_fits : (s : List ℕ) → IsFit (number_of s)
unfolding number_of
text_fits s = either_fits (slice_index s 0 == 45) (number_from true (scan (drop 1 s))) (number_from false (scan s)) (λ e. from_fits true (scan (drop 1 s))) (from_fits false (scan s))

made_fits : (o : Option Num) (d : Data) → IsFit o → option_map number o ≡ Some d → AreFit d
made_fits None d h e = absurd cc
made_fits (Some (unsigned n)) d h e = subst AreFit {x = number (unsigned n)} (cc e) (h n refl)
made_fits (Some (negative z)) d h e = subst AreFit {x = number (negative z)} (cc e) tt
made_fits (Some (float x)) d h e = subst AreFit {x = number (float x)} (cc e) tt

put_chosen : (o : Ordering) (a b c : Members) → MembersFit a → MembersFit b → MembersFit c → MembersFit (match_ordering o a b c)
put_chosen Less a b c h k l = h
put_chosen Equal a b c h k l = k
put_chosen Greater a b c h k l = l

put_fits : (k : List ℕ) (d : Data) (ms : Members) → AreFit d → MembersFit ms → MembersFit (put k d ms)
put_fits k d no_members h f = (h, tt)
put_fits k d (member l e ms) h f = put_chosen (slice_cmp nat_cmp k l) _ _ _ (h, f) (h, f.1) (f.0, put_fits k d ms h f.1)

array_fits : (o : Option Items) (d : Data) → ((ds : Items) → o ≡ Some ds → ItemsFit ds) → option_map array o ≡ Some d → AreFit d
array_fits None d h e = absurd cc
array_fits (Some ds) d h e = subst AreFit {x = array ds} (cc e) (h ds refl)

object_made_fits : (o : Option Members) (d : Data) → ((ms : Members) → o ≡ Some ms → MembersFit ms) → option_map object o ≡ Some d → AreFit d
object_made_fits None d h e = absurd cc
object_made_fits (Some ms) d h e = subst AreFit {x = object ms} (cc e) (h ms refl)

item_fits : (o : Option Items) (d : Data) (ds : Items) → AreFit d → ((es : Items) → o ≡ Some es → ItemsFit es) → option_map (item d) o ≡ Some ds → ItemsFit ds
item_fits None d ds f h e = absurd cc
item_fits (Some es) d ds f h e = subst ItemsFit {x = item d es} (cc e) (f, h es refl)

mutual
  fit_json : (j : json.Json) (d : Data) → of_json j ≡ Some d → AreFit d
  fit_json json.null d e = subst AreFit {x = null} (cc e) tt
  fit_json (json.boolean b) d e = subst AreFit {x = boolean b} (cc e) tt
  fit_json (json.number s) d e = made_fits (number_of s) d (text_fits s) e
  fit_json (json.string s) d e = subst AreFit {x = string s} (cc e) tt
  fit_json (json.array js) d e = array_fits (of_items js) d (λ ds h. fit_items js ds h) e
  fit_json (json.object ms) d e = object_made_fits (of_members ms no_members) d (λ ds h. fit_members ms no_members ds tt h) e

  fit_items : (js : json.Items) (ds : Items) → of_items js ≡ Some ds → ItemsFit ds
  fit_items json.no_items ds e = subst ItemsFit {x = no_items} (cc e) tt
  fit_items (json.item j js) ds e =
      option_and_then_some (λ d. option_map (item d) (of_items js)) (of_json j) ds e (λ d one rest.
      item_fits (of_items js) d ds (fit_json j d one) (λ es h. fit_items js es h) rest)

  fit_members : (js : json.Members) (found ms : Members) → MembersFit found → of_members js found ≡ Some ms → MembersFit ms
  fit_members json.no_members found ms h e = subst MembersFit {x = found} (cc e) h
  fit_members (json.member k j js) found ms h e =
      option_and_then_some (λ d. of_members js (put k d found)) (of_json j) ms e (λ d one rest.
      fit_members js (put k d found) ms (put_fits k d found (fit_json j d one) h) rest)

pub read_fits : (text : List ℕ) (d : Data) → read text ≡ Some d → AreFit d
read_fits text d e = option_and_then_some of_json (option_and_then (λ p. json.if_last p.0 p.1) (json.value max_depth (tokens text))) d e (λ j one made. fit_json j d made)

if_read : (b : Bool) (o : Option Data) (d : Data) → (if b then o else None) ≡ Some d → o ≡ Some d
if_read true o d e = e
if_read false o d e = absurd cc

pub json_fits : (bytes : List ℕ) (d : Data) → json_in bytes ≡ Some d → AreFit d
unfolding json_in
json_fits bytes d e = read_fits bytes d (if_read (is_utf8 bytes) (read bytes) d e)

member_chosen : (o : Ordering) (k : List ℕ) (d e : Data) (ms : Members) → AreFit e → (get_member k ms ≡ Some d → AreFit d) → match_ordering o (get_member k ms) (Some e) (get_member k ms) ≡ Some d → AreFit d
member_chosen Less k d e ms h rest same = rest same
member_chosen Equal k d e ms h rest same = subst AreFit (cc same) h
member_chosen Greater k d e ms h rest same = rest same

pub member_fits : (k : List ℕ) (ms : Members) (d : Data) → MembersFit ms → get_member k ms ≡ Some d → AreFit d
member_fits k no_members d h e = absurd cc
member_fits k (member l e ms) d h same = member_chosen (slice_cmp nat_cmp k l) k d e ms h.0 (λ rest. member_fits k ms d h.1 rest) same

pub whole_fits : (d : Data) (n : ℕ) → AreFit d → option_and_then as_u64 (as_number d) ≡ Some n → n < 2 ^ 64
whole_fits null n h e = absurd cc
whole_fits (boolean b) n h e = absurd cc
whole_fits (number (unsigned m)) n h e = omega (arith, h, same_Some m n e)
whole_fits (number (negative z)) n h e = absurd cc
whole_fits (number (float x)) n h e = absurd cc
whole_fits (string s) n h e = absurd cc
whole_fits (array ds) n h e = absurd cc
whole_fits (object ms) n h e = absurd cc

found_fits : (o : Option Data) (n : ℕ) → ((d : Data) → o ≡ Some d → AreFit d) → option_and_then as_u64 (option_and_then as_number o) ≡ Some n → n < 2 ^ 64
found_fits None n h e = absurd cc
found_fits (Some d) n h e = whole_fits d n (h d refl) e

pub number_fits : (k : List ℕ) (ms : Members) (n : ℕ) → MembersFit ms → number_at k ms ≡ Some n → n < 2 ^ 64
unfolding number_at
number_fits k ms n h e = found_fits (get_member k ms) n (λ d same. member_fits k ms d h same) e

pub object_fits : (d : Data) (ms : Members) → AreFit d → as_object d ≡ Some ms → MembersFit ms
object_fits null ms h e = absurd cc
object_fits (boolean b) ms h e = absurd cc
object_fits (number n) ms h e = absurd cc
object_fits (string s) ms h e = absurd cc
object_fits (array ds) ms h e = absurd cc
object_fits (object found) ms h e = subst MembersFit (cc e) h

pub listed_fit : (ds : Items) → ItemsFit ds → All AreFit (listed ds)
unfolding listed
listed_fit no_items h = λ k d l. absurd (omega (arith, l))
listed_fit (item d ds) h = All-cons AreFit d (listed ds) h.0 (listed_fit ds h.1)

pub array_of_fits : (o : Option Data) (ds : Items) → ((d : Data) → o ≡ Some d → AreFit d) → option_and_then as_array o ≡ Some ds → ItemsFit ds
array_of_fits None ds h e = absurd cc
array_of_fits (Some null) ds h e = absurd cc
array_of_fits (Some (boolean b)) ds h e = absurd cc
array_of_fits (Some (number n)) ds h e = absurd cc
array_of_fits (Some (string s)) ds h e = absurd cc
array_of_fits (Some (array found)) ds h e = subst ItemsFit (cc e) (h (array found) refl)
array_of_fits (Some (object ms)) ds h e = absurd cc

pub array_fits_at : (k : List ℕ) (ms : Members) (ds : Items) → MembersFit ms → option_and_then as_array (get_member k ms) ≡ Some ds → ItemsFit ds
array_fits_at k ms ds h e = array_of_fits (get_member k ms) ds (λ d same. member_fits k ms d h same) e

pub record Provided {X : Type 0} (test : X → Bool) (o : Option X) (x : X) : Type 0 where
  pub there : o ≡ Some x
  pub passes : test x ≡ true

kept : {X : Type 0} (b : Bool) (x y : X) → (if b then Some x else None) ≡ Some y → (b ≡ true) × (x ≡ y)
kept true x y e = (refl, cc e)
kept false x y e = absurd cc

pub provided_inside : {X : Type 0} (test : X → Bool) (o : Option X) (x : X) → provided test o ≡ Some x → Provided test o x
unfolding provided
provided_inside test None x e = absurd cc
provided_inside test (Some y) x e =
    let k = kept (test y) y x e in
    record { there = ap Some k.1; passes = ap test (sym k.1) ∙ k.0 }

some_first : {Y : Type 0} (first : Option Y) (rest : Option (List Y)) (ys : List Y) → option_and_then (λ y. option_map (λ more. y ∷ more) rest) first ≡ Some ys → (y : Y) × ((more : List Y) × (first ≡ Some y) × (rest ≡ Some more) × (ys ≡ y ∷ more))
some_first None rest ys e = absurd cc
some_first (Some y) None ys e = absurd cc
some_first (Some y) (Some more) ys e = (y, (more, refl, refl, sym (cc e)))

each_cons : {Y : Type 0} (first : Option Y) (xs : List (Option Y)) → each (first ∷ xs) ≡ option_and_then (λ y. option_map (λ more. y ∷ more) (each xs)) first
unfolding each
each_cons None xs = refl
each_cons (Some y) xs = refl

pub each_all : {X Y : Type 0} (take : X → Option Y) (Q : X → Type 0) (P : Y → Type 0) → ((x : X) (y : Y) → Q x → take x ≡ Some y → P y) → (xs : List X) (ys : List Y) → All Q xs → each (map take xs) ≡ Some ys → All P ys
unfolding each
each_all take Q P h [] ys a e = subst (All P) (same_Some [] ys e) (λ k d l. absurd (omega (arith, l)))
each_all take Q P h (x ∷ xs) ys a e =
    let s = some_first (take x) (each (map take xs)) ys (sym (each_cons (take x) (map take xs)) ∙ e) in
    subst (All P) (sym s.1.3) (All-cons P s.0 s.1.0 (h x s.0 (All-head Q x xs a) s.1.1) (each_all take Q P h xs s.1.0 (All-tail Q x xs a) s.1.2))

pub each_length : {X Y : Type 0} (take : X → Option Y) (xs : List X) (ys : List Y) → each (map take xs) ≡ Some ys → length ys ≡ length xs
unfolding each
each_length take [] ys e = ap length (sym (same_Some [] ys e))
each_length take (x ∷ xs) ys e =
    let s = some_first (take x) (each (map take xs)) ys (sym (each_cons (take x) (map take xs)) ∙ e) in
    ap length s.1.3 ∙ ap suc (each_length take xs s.1.0 s.1.2)
