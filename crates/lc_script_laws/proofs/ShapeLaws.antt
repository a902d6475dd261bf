-- Values of a script whose codes are over symbol fields and have a length of at most 255 and reduced rows, and the forms that they have.
--   HasForm C form           the form, if there is one, is one of the code
--   IsShapedCode C           a code's value: the code is one of rows, and has its form
--   IsShaped v               if the value is a code, it is such
--   none_refuses             the refusals of what isn't refused
--   none_behind              of two lists without a refusal the second one has none
--   IsAllowed f n            a code over f of length n may be made; allowed, short, over_symbols      so it may, if it isn't refused
--   from_option, from_known  by cases on an option
--   made_shaped, formed_shaped, shaped_as      a code's value without a form, one with a form, and a value that is told, are shaped
--   ForAny, ForAll, InForms  what holds of all that a form of a call makes of shaped values, and so do several
--   found_in                 what holds of all holds of the one that is found
--   bound_shaped             holds of what is bound
use Rattle.std.proofs.Common.{◌≡◌, ◌≤◌, ℕ, Bool, true, false, List, [], ◌∷◌, ◌++◌, length, Option, Some, None, refl, sym, subst}
use Rattle.std.specs.Prelude.{MatchOption, find, cond, ◌==◌, ◌&&◌, nat_le, not}
use Rattle.std.specs.List.{AllByRecursion}
use Rattle.std.proofs.lemmas.Bool.{leb-true}
use Rattle.lc_algebra.specs.declared.FieldName.{FieldName}
use Rattle.lc_algebra.specs.declared.FieldName.TheVariants.{Gf2, Gf3}
use Rattle.lc_algebra.specs.Field.{shape, shape_of, size, is_symbol}
use Rattle.lc_algebra.specs.Matrix.{Matrix, AreRows, IsReduced}
use Rattle.lc_constructions.specs.declared.refusal.CodeRefusal.{CodeRefusal}
use Rattle.lc_constructions.specs.Code.{IsCode, is_length}
use Rattle.lc_constructions.specs.Alternant.{AlternantForm, IsFormOf}
use Rattle.lc_constructions.specs.Refusal.{refuse_if}
use Rattle.lc_constructions.specs.Refusals.{too_large, bad_length}
use Rattle.lc_language.specs.declared.Kind.{Kind}
use Rattle.lc_language.specs.declared.Kind.TheVariants.{Number, Field, Numbers, Lists, Code}
use Rattle.lc_language.specs.Forms.{Takes, Form, given, filled, form_for, bound}
use Rattle.lc_language.specs.Value.{Meant, read, Value, number, field, numbers, lists, code, truth, nothing, CodeValue, code_in}
use Rattle.lc_language.specs.Refusal.{Refusal, first_of, from_codes}
use Rattle.lc_language.specs.Meaning.{IsCodeValue}
use Rattle.lc_script_laws.specs.Shapes.{IsCodeOfRows}

abbrev pub HasForm : Matrix → Option AlternantForm → Type 0
HasForm C None = Unit {0}
HasForm C (Some form) = IsFormOf C form

abbrev pub IsShapedCode : CodeValue → Type 0
IsShapedCode C = IsCodeOfRows C.code × HasForm C.code C.form

abbrev pub IsShaped : Value → Type 0
IsShaped (number n) = Unit {0}
IsShaped (field f) = Unit {0}
IsShaped (numbers u) = Unit {0}
IsShaped (lists rows) = Unit {0}
IsShaped (code C form) = IsCodeOfRows C × HasForm C form
IsShaped (truth b) = Unit {0}
IsShaped nothing = Unit {0}

abbrev pub AreShaped : List Value → Type 0
AreShaped vs = AllByRecursion IsShaped vs

-- ---- options

pub from_option : {A : Type 0} (o : Option A) (P : Type 0) (Q : A → Type 0) (R : Type 0) → (P → R) → ((a : A) → o ≡ Some a → Q a → R) → MatchOption o P Q → R
from_option None P Q R f g h = f h
from_option (Some a) P Q R f g h = g a refl h

pub from_known : {A : Type 0} (o : Option A) (P : Type 0) (Q : A → Type 0) (R : Type 0) → (o ≡ None → P → R) → ((a : A) → Q a → R) → MatchOption o P Q → R
from_known None P Q R f g h = f refl h
from_known (Some a) P Q R f g h = g a h

-- ---- what isn't refused

abbrev pub AllNone : List (Option CodeRefusal) → Type 0
AllNone rs = AllByRecursion (λ (r : Option CodeRefusal). r ≡ None) rs

pub none_refuses : (rs : List (Option CodeRefusal)) → first_of (from_codes rs) ≡ None → AllNone rs
unfolding first_of from_codes
none_refuses [] e = tt
none_refuses (None ∷ rs) e = (refl, none_refuses rs e)
none_refuses (Some r ∷ rs) e = absurd (let f = e in cc)

pub none_behind : (xs ys : List (Option Refusal)) → first_of (xs ++ ys) ≡ None → first_of ys ≡ None
unfolding first_of
none_behind [] ys e = e
none_behind (None ∷ xs) ys e = none_behind xs ys e
none_behind (Some r ∷ xs) ys e = absurd (let f = e in cc)

by_test : (b : Bool) (r : CodeRefusal) → refuse_if (not b) r ≡ None → b ≡ true
unfolding refuse_if
by_test true r e = refl
by_test false r e = absurd (let f = e in cc)

second_test : (a b : Bool) → a && b ≡ true → b ≡ true
second_test true b e = e
second_test false b e = absurd (let f = e in cc)

pub short : (n : ℕ) → bad_length n ≡ None → n ≤ 255
unfolding bad_length is_length
short n e = leb-true n 255 (second_test (nat_le 1 n) (nat_le n 255) (by_test (nat_le 1 n && nat_le n 255) _ e))

pub over_symbols : (f : FieldName) → too_large f ≡ None → is_symbol f ≡ true
unfolding too_large
over_symbols f e = by_test (is_symbol f) _ e

abbrev pub IsAllowed : FieldName → ℕ → Type 0
IsAllowed f n = (n ≤ 255) × (is_symbol f ≡ true)

pub allowed : (f : FieldName) (n : ℕ) → too_large f ≡ None → bad_length n ≡ None → IsAllowed f n
allowed f n t e = (short n e, over_symbols f t)

pub binary : is_symbol Gf2 ≡ true
unfolding is_symbol size shape_of shape
binary = refl

pub ternary : is_symbol Gf3 ≡ true
unfolding is_symbol size shape_of shape
ternary = refl

-- ---- the values that calls give

code_shaped : (f : FieldName) (n : ℕ) (P : List ℕ → Type 0) (C : Matrix) → IsAllowed f n → IsCode f n P C → IsCodeOfRows C
code_shaped f n P C l h = record {
  symbol = subst (λ (g : FieldName). is_symbol g ≡ true) (sym h.over) l.1;
  long = subst (λ (k : ℕ). k ≤ 255) (sym h.length_is) l.0;
  rows = subst (λ (g : FieldName). AreRows g C.columns C.rows) (sym h.over) (subst (λ (k : ℕ). AreRows f k C.rows) (sym h.length_is) h.generator.words);
  reduced = subst (λ (k : ℕ). IsReduced k C.rows) (sym h.length_is) h.generator.reduced;
}

pub shaped_as : (v w : Value) → v ≡ w → IsShaped w → IsShaped v
shaped_as v w e h = subst IsShaped (sym e) h

pub made_shaped : (f : FieldName) (n : ℕ) (P : List ℕ → Type 0) (v : Value) → IsAllowed f n → IsCodeValue f n P None v → IsShaped v
made_shaped f n P v l h = let (C, c, e) = h.code_is in shaped_as v (code C None) e (code_shaped f n P C l c, tt)

pub formed_shaped : (f : FieldName) (n : ℕ) (P : List ℕ → Type 0) (form : AlternantForm) (v : Value) → IsAllowed f n → ((C : Matrix) → IsCode f n P C → IsFormOf C form) → IsCodeValue f n P (Some form) v → IsShaped v
formed_shaped f n P form v l formed h = let (C, c, e) = h.code_is in shaped_as v (code C (Some form)) e (code_shaped f n P C l c, formed C c)

-- ---- the arguments of calls

given_some : {A R : Type 0} (o : Option A) (make : A → Option R) (r : R) → given o make ≡ Some r → (a : A) × (o ≡ Some a) × (make a ≡ Some r)
given_some None make r e = absurd (let f = e in cc)
given_some (Some a) make r e = (a, refl, e)

some_is : {R : Type 0} (P : R → Type 0) (r s : R) → Some r ≡ Some s → P r → P s
some_is P r s e h = let same : r ≡ s = (let f = e in cc) in subst P same h

in_code : (v : Value) (C : CodeValue) → code_in v ≡ Some C → IsShaped v → IsShapedCode C
unfolding code_in
in_code (number n) C e h = absurd (let f = e in cc)
in_code (field g) C e h = absurd (let f = e in cc)
in_code (numbers u) C e h = absurd (let f = e in cc)
in_code (lists rows) C e h = absurd (let f = e in cc)
in_code (code D form) C e h = some_is (λ (B : CodeValue). IsShapedCode B) (record { code = D; form = form }) C e h
in_code (truth b) C e h = absurd (let f = e in cc)
in_code nothing C e h = absurd (let f = e in cc)

-- ---- what holds of what a form makes

-- P of every argument of the kind; a code among them is one of rows, and has its form
abbrev pub ForAny : (kind : Kind) → (Meant kind → Type 0) → Type 0
ForAny Code P = (C : CodeValue) → IsShapedCode C → P C
ForAny kind P = (a : Meant kind) → P a

abbrev pub ForAll : {R : Type 0} (kinds : List Kind) → Takes kinds R → (R → Type 0) → Type 0
ForAll [] made P = P made
ForAll (kind ∷ kinds) make P = ForAny kind (λ a. ForAll kinds (make a) P)

abbrev pub InForms : {R : Type 0} → (R → Type 0) → List (Form R) → Type 0
InForms P forms = AllByRecursion (λ form. ForAll form.kinds form.make P) forms

of_any : (kind : Kind) (P : Meant kind → Type 0) (v : Value) (a : Meant kind) → ForAny kind P → IsShaped v → read kind v ≡ Some a → P a
of_any Number P v a f s e = f a
of_any Field P v a f s e = f a
of_any Numbers P v a f s e = f a
of_any Lists P v a f s e = f a
of_any Code P v C f s e = f C (in_code v C e s)

filled_shaped : {R : Type 0} (kinds : List Kind) (make : Takes kinds R) (P : R → Type 0) (vs : List Value) (r : R) → ForAll kinds make P → AreShaped vs → filled kinds make vs ≡ Some r → P r
filled_shaped [] made P [] r f s e = some_is P made r e f
filled_shaped [] made P (v ∷ vs) r f s e = absurd (let g = e in cc)
filled_shaped (kind ∷ kinds) make P [] r f s e = absurd (let g = e in cc)
filled_shaped (kind ∷ kinds) make P (v ∷ vs) r f s e =
    let (a, is, rest) = given_some (read kind v) (λ a. filled kinds (make a) vs) r e in
    filled_shaped kinds (make a) P vs r (of_any kind (λ a. ForAll kinds (make a) P) v a f s.0 is) s.1 rest

picked : {A : Type 0} (P : A → Type 0) (b : Bool) (x y : A) (r : Option A) → P x → (r ≡ Some y → P y) → cond b (Some x) r ≡ Some y → P y
picked P true x y r h f e = some_is P x y e h
picked P false x y r h f e = f e

pub found_in : {A : Type 0} (P : A → Type 0) (test : A → Bool) (xs : List A) (y : A) → AllByRecursion P xs → find test xs ≡ Some y → P y
found_in P test [] y h e = absurd (let g = e in cc)
found_in P test (x ∷ xs) y h e = picked P (test x) x y (find test xs) h.0 (found_in P test xs y h.1) e

pub bound_shaped : {R : Type 0} (P : R → Type 0) (forms : List (Form R)) (vs : List Value) (r : R) → InForms P forms → AreShaped vs → bound forms vs ≡ Some r → P r
bound_shaped P forms vs r h s e =
    let (form, found, is) = given_some (form_for (length vs) forms) (λ form. filled form.kinds form.make vs) r e in
    filled_shaped form.kinds form.make P vs r (found_in (λ form. ForAll form.kinds form.make P) (λ form. length form.kinds == length vs) forms form h found) s is
