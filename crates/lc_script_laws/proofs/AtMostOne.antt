-- Relations that hold of at most one thing.
--   One P                   P holds of at most one thing
--   Both P                  a relation of two things holds of at most one pair
--   one_value a             of what equals a
--   one_option r P Q        where an option says which relation holds
--   one_known r P Q         the same, if P holds of one thing where the option is None
--   one_either A B P Q      where one of two holds, with facts that exclude each other
--   one_some P Q            of what is told by a thing that is one itself
use Rattle.std.proofs.Common.{◌≡◌, ◌⊎◌, Option, Some, None, refl, sym, subst, ◌∙◌, ⊎_elim}
use Rattle.std.specs.Prelude.{MatchOption}

abbrev pub One : {X : Type 0} → (X → Type 0) → Type 0
One {X = X} P = (x y : X) → P x → P y → x ≡ y

abbrev pub Both : {X Y : Type 0} → (X → Y → Type 0) → Type 0
Both {X = X} {Y = Y} P = (x z : X) (y w : Y) → P x y → P z w → (x ≡ z) × (y ≡ w)

pub one_value : {X : Type 0} (a : X) → One (λ x. x ≡ a)
one_value a = λ x y p q. p ∙ sym q

pub one_option : {A X : Type 0} (r : Option A) (P : X → Type 0) (Q : A → X → Type 0) → One P → ((a : A) → r ≡ Some a → One (Q a)) → One (λ x. MatchOption r (P x) (λ a. Q a x))
one_option None P Q p q = p
one_option (Some a) P Q p q = q a refl

pub one_known : {A X : Type 0} (r : Option A) (P : X → Type 0) (Q : A → X → Type 0) → (r ≡ None → One P) → ((a : A) → One (Q a)) → One (λ x. MatchOption r (P x) (λ a. Q a x))
one_known None P Q p q = p refl
one_known (Some a) P Q p q = q a

pub one_either : {X : Type 0} (A B : Type 0) (P Q : X → Type 0) → (A → B → ⊥) → One P → One Q → One (λ x. (A × P x) ⊎ (B × Q x))
one_either A B P Q apart p q = λ x y h k.
    ⊎_elim
    (λ (a : A × P x). ⊎_elim (λ (b : A × P y). p x y a.1 b.1) (λ (b : B × Q y). absurd (apart a.0 b.0)) k)
    (λ (a : B × Q x). ⊎_elim (λ (b : A × P y). absurd (apart b.0 a.0)) (λ (b : B × Q y). q x y a.1 b.1) k)
    h

pub one_some : {W X : Type 0} (P : W → Type 0) (Q : W → X → Type 0) → One P → ((w : W) → One (Q w)) → One (λ x. (w : W) × P w × Q w x)
one_some P Q p q = λ x y h k. q k.0 x y (subst (λ w. Q w x) (p h.0 k.0 h.1 k.1) h.2) k.2
