-- The values of names, as the map of them has them.
--   named_value                  the value of a name
--   bound_anew                   a name that is bound
--   bound_means                  it has the new value, and every other name the one that it had
use Rattle.std.proofs.Common.{◌≡◌, ◌≢◌, ◌↔◌, ℕ, Bool, true, false, cond, if◌then◌else◌, List, [], ◌∷◌, map, Option, Some, None, option_map, option_copied, MatchOption, String, string_bytes, refl, sym, ap, subst, ◌∙◌, ⊎_elim, true≢false}
use Rattle.std.proofs.lemmas.Bool.{cases_Bool}
use Rattle.std.specs.Borrow.{Bor}
use Rattle.std.specs.BTreeMap.{BTreeMap, UpdatesBy, get_by_text, is_at}
use Rattle.std.specs.Map.{lookup}
use Rattle.std.specs.Ordering.{nat_cmp, is_eq}
use Rattle.std.specs.String.{string_cmp}
use Rattle.std.specs.Cmp.Lexicographic.{slice_cmp}
use Rattle.std.proofs.lemmas.Map.Text.{btree_map_updates_text, is_eq-slice_cmp}
use Rattle.lc_formats.specs.Text.{same_bytes}
use Rattle.lc_formats.proofs.CheckpointBack.{same_itself}
use Rattle.lc_formats.proofs.ByteLaws.{same_pointwise, same_from_bytes}
use Rattle.lc_language.specs.Value as language
use Rattle.lc_language.specs.Value.{Binding, value_named}
use Rattle.lc_calls.specs.declared.values.Value.{Value}
use Rattle.lc_calls.specs.Value.{value_of}
use Rattle.lc_calls.specs.Names.{bindings_of, IsBound}
use Rattle.lc_calls.proofs.TableLaws.{same_swapped}

pick : (b : Bool) (v : Value) (o : Option Value) (r : Option language.Value) → option_map value_of o ≡ r → option_map value_of (cond b (Some v) o) ≡ (if b then Some (value_of v) else r)
pick true v o r e = refl
pick false v o r e = e

module _ {Y : Type 0} (x : List ℕ) where
  value_among : (es : List (String Y × Value)) → option_map value_of (lookup (is_at (λ k. slice_cmp nat_cmp x (string_bytes k))) es) ≡ value_named x (map (λ e. record { name = string_bytes e.0; value = value_of e.1 }) es)
  unfolding value_named
  value_among [] = refl
  value_among (e ∷ es) =
      let same : is_eq (slice_cmp nat_cmp x (string_bytes e.0)) ≡ same_bytes x (string_bytes e.0) = is_eq-slice_cmp x (string_bytes e.0) ∙ same_pointwise x (string_bytes e.0) in
      rw same (pick (same_bytes x (string_bytes e.0)) e.1 (lookup (is_at (λ k. slice_cmp nat_cmp x (string_bytes k))) es) _ (value_among es))

  value_in : (m : BTreeMap (String Y) Value) → option_map value_of (get_by_text m x) ≡ value_named x (bindings_of m)
  value_in m = value_among m.entries

  pub named_value : (m : BTreeMap (String Y) Value) (r : Option (Bor Value)) → option_copied r ≡ get_by_text m x → MatchOption r (value_named x (bindings_of m) ≡ None) (λ v. value_named x (bindings_of m) ≡ Some (value_of v.now))
  named_value m None e = sym (value_in m) ∙ ap (option_map value_of) (sym e)
  named_value m (Some v) e = sym (value_in m) ∙ ap (option_map value_of) (sym e)

pub bound_anew : {Y : Type 0} (old new : BTreeMap (String Y) Value) (key : String Y) (v : Value) → UpdatesBy string_cmp (λ k. slice_cmp nat_cmp (string_bytes key) (string_bytes k)) old new (Some v) → IsBound (record { name = string_bytes key; value = value_of v }) (bindings_of old) (bindings_of new)
unfolding value_named
bound_anew old new key v u x =
    sym (value_in x new) ∙ ap (option_map value_of) (btree_map_updates_text (string_bytes key) old new (Some v) u x)
    ∙ (rw (same_swapped (string_bytes key) x) (pick (same_bytes x (string_bytes key)) v (get_by_text old x) (value_named x (bindings_of old)) (value_in x old)))

-- ---- names after an assignment

named_first : (b : Binding) (old : List Binding) → value_named b.name (b ∷ old) ≡ Some b.value
unfolding value_named
named_first b old = rw (same_itself b.name) refl

named_later : (b : Binding) (old : List Binding) (x : List ℕ) → x ≢ b.name → value_named x (b ∷ old) ≡ value_named x old
unfolding value_named
named_later b old x n =
    ⊎_elim
    (λ (t : same_bytes x b.name ≡ true). absurd (n (same_from_bytes x b.name t)))
    (λ (t : same_bytes x b.name ≡ false). rw t refl)
    (cases_Bool (same_bytes x b.name))

differs : (u v : List ℕ) → same_bytes u v ≡ false → u ≢ v
differs u v h e = true≢false (sym (same_itself v) ∙ subst (λ (w : List ℕ). same_bytes w v ≡ false) e h)

pub bound_means : (b : Binding) (old new : List Binding) → IsBound b old new ↔ ((value_named b.name new ≡ Some b.value) × ((x : List ℕ) → x ≢ b.name → value_named x new ≡ value_named x old))
bound_means b old new = (
  (λ h. (h b.name ∙ named_first b old, λ x n. h x ∙ named_later b old x n)),
  (λ h x.
      ⊎_elim
      (λ (t : same_bytes x b.name ≡ true). let e : x ≡ b.name = same_from_bytes x b.name t in rw e (h.0 ∙ sym (named_first b old)))
      (λ (t : same_bytes x b.name ≡ false). let n = differs x b.name t in h.1 x n ∙ sym (named_later b old x n))
      (cases_Bool (same_bytes x b.name))),
)
