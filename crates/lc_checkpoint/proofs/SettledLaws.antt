-- Settled needs, as a reader takes them.
--   from_other, from_none, from_read      what are no three numbers, and three numbers
--   triple_found, triple_nowhere      those of an array
--   settled_found, settled_out, settled_nowhere      whether they are in range
--   list_missing, list_more, list_whole      several settled needs
--   done_found, done_long, done_nowhere, done_read      those of a body
use Rattle.std.proofs.Common.{◌≡◌, ◌≢◌, ℕ, suc, ◌<◌, ◌≤◌, true, false, nat_le, List, [], ◌∷◌, ◌++◌, length, get_or, take, map, codes, Option, Some, None, option_map, option_and_then, refl, sym, ap, ◌∙◌, arith}
use Rattle.std.specs.Prelude.{if◌then◌else◌, Result, Ok, Err, IfOk}
use Rattle.std.proofs.lemmas.Bool.{le-leb, lt-leb}
use Rattle.std.proofs.lemmas.List.{map-append}
use Rattle.std.proofs.lemmas.Simd.{map-map}
use Rattle.serde_json.specs.declared.value.Value.{Value}
use Rattle.serde_json.specs.Data.{Data, Members}
use Rattle.serde_json.specs.Find.{get_member, as_number, as_u64, as_array}
use Rattle.serde_json.specs.View.{view, items_view}
use Rattle.lc_field.specs.declared.refusal.NoMemory.{NoMemory}
use Rattle.lc_enumeration.specs.Records.{Progress}
use Rattle.lc_formats.specs.Json.{plain_number, numbers_of, listed, each, provided}
use Rattle.lc_formats.specs.Checkpoint.{triple_of, is_in_range, settled_in, done_in}
use Rattle.lc_formats.proofs.ReadLaws.{each_length}
use Rattle.lc_json.proofs.EachLaws.{each_none, each_more, each_whole, each_start}
use Rattle.lc_json.proofs.InsideLaws.{numbers_are, no_numbers}

not_three : (ys : List ℕ) → length ys ≢ 3 → triple_of ys ≡ None
unfolding triple_of
not_three [] h = refl
not_three (a ∷ []) h = refl
not_three (a ∷ b ∷ []) h = refl
not_three (a ∷ b ∷ c ∷ []) h = absurd (h refl)
not_three (a ∷ b ∷ c ∷ d ∷ ys) h = refl

of_length : (vs : List Value) (o : Option (List ℕ)) → length vs ≢ 3 → each (map (λ v. plain_number (view v)) vs) ≡ o → option_and_then triple_of o ≡ None
of_length vs None h e = refl
of_length vs (Some ys) h e = not_three ys (λ k. h (sym (each_length (λ v. plain_number (view v)) vs ys e) ∙ k))

pub from_other : (vs : List Value) → length vs ≢ 3 → option_and_then triple_of (each (map (λ v. plain_number (view v)) vs)) ≡ None
from_other vs l = of_length vs (each (map (λ v. plain_number (view v)) vs)) l refl

pub from_none : (vs : List Value) (i : ℕ) (v : Value) → i < length vs → option_and_then as_u64 (as_number (view (get_or vs i v))) ≡ None → option_and_then triple_of (each (map (λ v. plain_number (view v)) vs)) ≡ None
unfolding plain_number
from_none vs i v l e = ap (option_and_then triple_of) (each_none (λ w. plain_number (view w)) vs i v l e)

each_three : (a b c : Option ℕ) (l w p : ℕ) → a ≡ Some l → b ≡ Some w → c ≡ Some p → each (a ∷ b ∷ c ∷ []) ≡ Some (l ∷ w ∷ p ∷ [])
unfolding each
each_three a b c l w p h k m = rw (h, k, m) refl

three_are : (vs : List Value) (x y z : Value) (l w p : ℕ) → length vs ≡ 3 → x ≡ get_or vs 0 x → y ≡ get_or vs 1 y → z ≡ get_or vs 2 z → plain_number (view x) ≡ Some l → plain_number (view y) ≡ Some w → plain_number (view z) ≡ Some p → each (map (λ v. plain_number (view v)) vs) ≡ Some (l ∷ w ∷ p ∷ [])
three_are [] x y z l w p h i j k e f g = absurd (omega (arith, h))
three_are (a ∷ []) x y z l w p h i j k e f g = absurd (omega (arith, h))
three_are (a ∷ b ∷ []) x y z l w p h i j k e f g = absurd (omega (arith, h))
three_are (a ∷ b ∷ c ∷ []) x y z l w p h i j k e f g = each_three (plain_number (view a)) (plain_number (view b)) (plain_number (view c)) l w p (ap (λ v. plain_number (view v)) (sym i) ∙ e) (ap (λ v. plain_number (view v)) (sym j) ∙ f) (ap (λ v. plain_number (view v)) (sym k) ∙ g)
three_are (a ∷ b ∷ c ∷ d ∷ vs) x y z l w p h i j k e f g = absurd (omega (arith, h))

pub from_read : (vs : List Value) (x y z : Value) (l w p : ℕ) → length vs ≡ 3 → x ≡ get_or vs 0 x → y ≡ get_or vs 1 y → z ≡ get_or vs 2 z → plain_number (view x) ≡ Some l → plain_number (view y) ≡ Some w → plain_number (view z) ≡ Some p → option_and_then triple_of (each (map (λ v. plain_number (view v)) vs)) ≡ Some (record { blocks = l; weight = w; place = p })
unfolding triple_of
from_read vs x y z l w p n i j k e f g = ap (option_and_then triple_of) (three_are vs x y z l w p n i j k e f g)

pub triple_found : (vs : List Value) (d : Data) → Some (items_view vs) ≡ as_array d → option_and_then triple_of (numbers_of d) ≡ option_and_then triple_of (each (map (λ v. plain_number (view v)) vs))
triple_found vs d h = ap (option_and_then triple_of) (numbers_are vs d h)

pub triple_nowhere : (d : Data) → None ≡ as_array d → option_and_then triple_of (numbers_of d) ≡ None
triple_nowhere d h = ap (option_and_then triple_of) (no_numbers d h)

pub settled_found : (budget : ℕ) (d : Data) (s : Progress) → Some s ≡ option_and_then triple_of (numbers_of d) → is_in_range budget s ≡ true → settled_in budget d ≡ Some s
unfolding settled_in provided
settled_found budget d s h e = ap (provided (is_in_range budget)) (sym h) ∙ ap (λ b. if b then Some s else None) e

pub settled_out : (budget : ℕ) (d : Data) (s : Progress) → Some s ≡ option_and_then triple_of (numbers_of d) → is_in_range budget s ≡ false → settled_in budget d ≡ None
unfolding settled_in provided
settled_out budget d s h e = ap (provided (is_in_range budget)) (sym h) ∙ ap (λ b. if b then Some s else None) e

pub settled_nowhere : (budget : ℕ) (d : Data) → None ≡ option_and_then triple_of (numbers_of d) → settled_in budget d ≡ None
unfolding settled_in provided
settled_nowhere budget d h = ap (provided (is_in_range budget)) (sym h)

pub list_missing : (budget : ℕ) (vs : List Value) (i : ℕ) (v : Value) → i < length vs → None ≡ settled_in budget (view (get_or vs i v)) → each (map (settled_in budget) (map view vs)) ≡ None
list_missing budget vs i v l e = ap each (map-map (settled_in budget) view vs) ∙ each_none (λ w. settled_in budget (view w)) vs i v l (sym e)

pub list_more : {C : Type 0} (see : C → Progress) (budget : ℕ) (vs : List Value) (i j : ℕ) (v : Value) (cs ds : List C) (c : C) → i < length vs → each (map (λ w. settled_in budget (view w)) (take i vs)) ≡ Some (map see cs) → Some (see c) ≡ settled_in budget (view (get_or vs i v)) → j ≡ suc i → ds ≡ cs ++ c ∷ [] → each (map (λ w. settled_in budget (view w)) (take j vs)) ≡ Some (map see ds)
list_more see budget vs i j v cs ds c l e k same made = each_more (λ w. settled_in budget (view w)) vs i j v (map see cs) (map see ds) (see c) l e (sym k) same (ap (map see) made ∙ map-append see cs (c ∷ []))

pub list_whole : (budget : ℕ) (vs : List Value) (i : ℕ) (ys : List Progress) → length vs ≤ i → each (map (λ w. settled_in budget (view w)) (take i vs)) ≡ Some ys → each (map (settled_in budget) (map view vs)) ≡ Some ys
list_whole budget vs i ys l e = ap each (map-map (settled_in budget) view vs) ∙ each_whole (λ w. settled_in budget (view w)) vs i ys l e

pub done_found : (budget : ℕ) (ms : Members) (ds : List Data) → Some ds ≡ option_map listed (option_and_then as_array (get_member (codes "done") ms)) → length ds ≤ 131072 → done_in budget ms ≡ each (map (settled_in budget) ds)
unfolding done_in provided
done_found budget ms ds h l =
    ap (λ o. option_and_then (λ es. each (map (settled_in budget) es)) (provided (λ es. nat_le (length es) 131072) o)) (sym h)
    ∙ ap (λ b. option_and_then (λ es. each (map (settled_in budget) es)) (if b then Some ds else None)) (le-leb (length ds) 131072 l)

pub done_long : (budget : ℕ) (ms : Members) (ds : List Data) → Some ds ≡ option_map listed (option_and_then as_array (get_member (codes "done") ms)) → 131072 < length ds → done_in budget ms ≡ None
unfolding done_in provided
done_long budget ms ds h l =
    ap (λ o. option_and_then (λ es. each (map (settled_in budget) es)) (provided (λ es. nat_le (length es) 131072) o)) (sym h)
    ∙ ap (λ b. option_and_then (λ es. each (map (settled_in budget) es)) (if b then Some ds else None)) (lt-leb (length ds) 131072 l)

pub done_nowhere : (budget : ℕ) (ms : Members) → None ≡ option_map listed (option_and_then as_array (get_member (codes "done") ms)) → done_in budget ms ≡ None
unfolding done_in provided
done_nowhere budget ms h = ap (λ o. option_and_then (λ es. each (map (settled_in budget) es)) (provided (λ es. nat_le (length es) 131072) o)) (sym h)

pub done_read : {V : Type 0} (see : V → List Progress) (r : Result (Option V) NoMemory) (budget : ℕ) (items vs : List Value) (o : Option (List Progress)) → items ≡ vs → o ≡ each (map (settled_in budget) (map view vs)) → IfOk r (λ found. option_map see found ≡ each (map (settled_in budget) (map view items))) → IfOk r (λ found. option_map see found ≡ o)
done_read see (Ok found) budget items vs o same h e = e ∙ ap (λ xs. each (map (settled_in budget) (map view xs))) same ∙ sym h
done_read see (Err x) budget items vs o same h e = e

pub ruleset triple_from_laws = (from_other, from_none)

pub ruleset triple_of_laws = (triple_found, triple_nowhere)

pub ruleset settled_in_laws = (settled_found, settled_out, settled_nowhere)

pub ruleset settled_list_laws = (list_missing, list_whole, each_start)

pub ruleset done_at_laws = (done_found, done_long, done_nowhere)
