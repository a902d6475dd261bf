-- Claims that are nested no deeper than their objects.
--   part_shallower               the object at a key is less deep
--   enough_deep, part_enough     any two bounds above the depth of the members read the same claim
--   closed_enough, part_closed   and find the same sets closed
use Rattle.std.proofs.Common.{◌≡◌, ℕ, zero, suc, ◌<◌, ◌≤◌, max, Bool, ◌&&◌, List, Option, Some, None, option_and_then, refl, ap, subst, arith}
use Rattle.std.specs.List.{list_all}
use Rattle.std.specs.Ordering.{nat_cmp, match_ordering}
use Rattle.std.specs.declared.cmp.Ordering.{Ordering}
use Rattle.std.specs.declared.cmp.Ordering.TheVariants.{Less, Equal, Greater}
use Rattle.std.specs.Cmp.Lexicographic.{slice_cmp}
use Rattle.std.proofs.Math.Path.{fun_ext}
use Rattle.std.proofs.lemmas.Option.{same_Some, option_and_then_some}
use Rattle.serde_json.specs.Data.{Data, null, boolean, number, string, array, object, Members, no_members, member, depth, members_depth}
use Rattle.serde_json.specs.Find.{get_member, as_object}
use Rattle.lc_algebra.specs.declared.FieldName.{FieldName}
use Rattle.lc_formats.specs.Check.{are_set_keys}
use Rattle.lc_formats.specs.Document.{kind_at, object_at, claim_of_kind, claim_from, part_keys, all_of, are_closed}
use Rattle.lc_documents.specs.Parts.{part_of}

chosen_shallow : (o : Ordering) (rest : Option Data) (e d : Data) (n : ℕ) → (rest ≡ Some d → depth d ≤ n) → depth e ≤ n → match_ordering o rest (Some e) rest ≡ Some d → depth d ≤ n
chosen_shallow Less rest e d n h k same = h same
chosen_shallow Equal rest e d n h k same = subst (λ x. depth x ≤ n) (same_Some e d same) k
chosen_shallow Greater rest e d n h k same = h same

member_shallow : (key : List ℕ) (ms : Members) (d : Data) → get_member key ms ≡ Some d → depth d ≤ members_depth ms
member_shallow key no_members d e = absurd cc
member_shallow key (member l x ms) d e = chosen_shallow (slice_cmp nat_cmp key l) (get_member key ms) x d (max (depth x) (members_depth ms)) (λ rest. omega (arith, member_shallow key ms d rest)) (omega arith) e

object_depth : (d : Data) (ms : Members) → as_object d ≡ Some ms → members_depth ms < depth d
object_depth null ms e = absurd cc
object_depth (boolean b) ms e = absurd cc
object_depth (number n) ms e = absurd cc
object_depth (string s) ms e = absurd cc
object_depth (array ds) ms e = absurd cc
object_depth (object found) ms e = subst (λ x. members_depth x < suc (members_depth found)) (same_Some found ms e) (omega arith)

pub part_shallower : (key : List ℕ) (ms part : Members) → object_at key ms ≡ Some part → members_depth part < members_depth ms
unfolding object_at
part_shallower key ms part e = option_and_then_some as_object (get_member key ms) part e (λ d there made. omega (arith, member_shallow key ms d there, object_depth d part made))

-- two functions that agree on what is there agree on it if it is there
same_there : {X : Type 0} (g h : Members → Option X) (o : Option Members) → ((ms : Members) → o ≡ Some ms → g ms ≡ h ms) → option_and_then g o ≡ option_and_then h o
same_there g h None e = refl
same_there g h (Some ms) e = e ms refl

pub enough_deep : (a b : ℕ) (f : FieldName) (ms : Members) → members_depth ms < a → members_depth ms < b → claim_from a f ms ≡ claim_from b f ms
unfolding claim_from
enough_deep zero b f ms l m = absurd (omega (arith, l))
enough_deep (suc a) zero f ms l m = absurd (omega (arith, m))
enough_deep (suc a) (suc b) f ms l m =
    ap (λ part. option_and_then (claim_of_kind f ms part) (kind_at ms))
    (fun_ext (λ g. fun_ext (λ key. same_there (claim_from a g) (claim_from b g) (object_at key ms) (λ part e. enough_deep a b g part (omega (arith, l, part_shallower key ms part e)) (omega (arith, m, part_shallower key ms part e))))))

pub part_enough : (a b : ℕ) (f : FieldName) (key : List ℕ) (ms : Members) → members_depth ms ≤ a → members_depth ms ≤ b → part_of a f key ms ≡ part_of b f key ms
unfolding part_of
part_enough a b f key ms l m = same_there (claim_from a f) (claim_from b f) (object_at key ms) (λ part e. enough_deep a b f part (omega (arith, l, part_shallower key ms part e)) (omega (arith, m, part_shallower key ms part e)))

same_all : (g h : Members → Bool) (o : Option Members) → ((ms : Members) → o ≡ Some ms → g ms ≡ h ms) → all_of g o ≡ all_of h o
unfolding all_of
same_all g h None e = refl
same_all g h (Some ms) e = e ms refl

pub closed_enough : (a b : ℕ) (ms : Members) → members_depth ms < a → members_depth ms < b → are_closed a ms ≡ are_closed b ms
unfolding are_closed
closed_enough zero b ms l m = absurd (omega (arith, l))
closed_enough (suc a) zero ms l m = absurd (omega (arith, m))
closed_enough (suc a) (suc b) ms l m =
    ap (λ test. are_set_keys ms && list_all test part_keys)
    (fun_ext (λ key. same_all (are_closed a) (are_closed b) (object_at key ms) (λ part e. closed_enough a b part (omega (arith, l, part_shallower key ms part e)) (omega (arith, m, part_shallower key ms part e)))))

pub part_closed : (a b : ℕ) (key : List ℕ) (ms : Members) → members_depth ms ≤ a → members_depth ms ≤ b → all_of (are_closed a) (object_at key ms) ≡ all_of (are_closed b) (object_at key ms)
part_closed a b key ms l m = same_all (are_closed a) (are_closed b) (object_at key ms) (λ part e. closed_enough a b part (omega (arith, l, part_shallower key ms part e)) (omega (arith, m, part_shallower key ms part e)))
