-- Each nonzero vector is a multiple of the vector of a message, so that seeing the words of messages is enough.
--   FirstSymbol, first_symbol    the first nonzero symbol of a nonzero word
--   inverse_multiple             a multiple is undone by the inverse
--   Led, led                     a nonzero word is a nonzero multiple of the vector of a message of its weight
--   unseen_from_messages         a word that is no multiple of the words of messages is unseen
use Rattle.std.proofs.Common.{◌≡◌, ℕ, zero, suc, ◌<◌, List, [], ◌∷◌, length, slice_index, Contains, refl, sym, ap, ◌∙◌, ⊎_elim, arith}
use Rattle.std.proofs.lemmas.Bool.{cases_order}
use Rattle.lc_algebra.specs.declared.FieldName.{FieldName}
use Rattle.lc_algebra.specs.Field.{size, mul}
use Rattle.lc_algebra.specs.Word.{IsWord, Fits, weight, scale}
use Rattle.lc_algebra.specs.Span.{combine}
use Rattle.lc_algebra.proofs.FieldLaws.{one_inside, mul_comm, mul_zero, inverse_of, inverse_nonzero}
use Rattle.lc_algebra.proofs.WordLaws.{weight_zero_head, weight_scale, index_scale, scale_scale, one_scale, IsWord_scale, fits_symbol}
use Rattle.lc_algebra.proofs.SpanLaws.{combine_scale, contains_map}
use Rattle.lc_enumeration.specs.Message.{Message, messages, vector_of}
use Rattle.lc_place.specs.Order.{IsLeadingVector}
use Rattle.lc_place.proofs.Vectors.{leading_vectors}
use Rattle.lc_infoset.specs.Bound.{LevelSet, IsUnseen, IsNoMultiple}

pub record FirstSymbol (v : List ℕ) : Type 0 where
  pub place : ℕ
  pub inside : place < length v
  pub some : 0 < slice_index v place
  pub before : (j : ℕ) → j < place → slice_index v j ≡ 0

pub first_symbol : (v : List ℕ) → 0 < weight v → FirstSymbol v
first_symbol [] h = absurd (omega (arith, h))
first_symbol (zero ∷ v) h =
    let t = first_symbol v (omega (arith, h, weight_zero_head v)) in
    record {
      place = suc t.place;
      inside = omega (arith, t.inside);
      some = t.some;
      before = before t;
    }
  where
    before : (t : FirstSymbol v) (j : ℕ) → j < suc t.place → slice_index (zero ∷ v) j ≡ 0
    before t zero l = refl
    before t (suc j) l = t.before j (omega (arith, l))
first_symbol (suc a ∷ v) h = record {
  place = 0;
  inside = omega arith;
  some = omega arith;
  before = λ j l. absurd (omega (arith, l));
}

pub inverse_multiple : (f : FieldName) (a b : ℕ) (v : List ℕ) → Fits f v → mul f a b ≡ 1 → scale f a (scale f b v) ≡ v
inverse_multiple f a b v h e = scale_scale f a b v ∙ ap (λ c. scale f c v) e ∙ one_scale f v h

pub record Led (f : FieldName) (k : ℕ) (v : List ℕ) : Type 0 where
  pub factor : ℕ
  pub inside : factor < size f
  pub nonzero : 0 < factor
  pub message : Message
  pub listed : Contains (messages k (size f) (weight v)) message
  pub multiple : v ≡ scale f factor (vector_of k message)

pub led : (f : FieldName) (k : ℕ) (v : List ℕ) → IsWord f k v → 0 < weight v → Led f k v
led f k v w p =
    let t = first_symbol v p in
    let a = slice_index v t.place in
    let inside : a < size f = fits_symbol f v w.fits t.place in
    let i = inverse_of f a inside t.some in
    let b : ℕ = i.0 in
    let u = scale f b v in
    let is : IsWord f k u = IsWord_scale f k b v w.long in
    let one : slice_index u t.place ≡ 1 = index_scale f b v t.place ∙ mul_comm f b a ∙ i.1.one in
    let leading : IsLeadingVector k (size f) (weight v) u = record {
      many = is.long;
      entries = λ j l. fits_symbol f u is.fits j;
      weighs = weight_scale f b v i.1.inside (inverse_nonzero f a b i.1) w.fits;
      leads = λ j some before.
          ⊎_elim
          (λ e. ap (slice_index u) e ∙ one)
          (λ r. ⊎_elim
          (λ l. absurd (some (index_scale f b v j ∙ ap (mul f b) (t.before j l) ∙ mul_zero f b)))
          (λ l. absurd (omega (arith, one, before t.place l))) r)
          (cases_order j t.place);
    } in
    let m = contains_map (vector_of k) (messages k (size f) (weight v)) u ((leading_vectors k (size f) (weight v) u (one_inside f) p).1 leading) in
    record {
      factor = a;
      inside = inside;
      nonzero = t.some;
      message = m.0;
      listed = m.1;
      multiple = sym (inverse_multiple f a b v w.fits i.1.one) ∙ ap (scale f a) m.2;
    }

pub unseen_from_messages : (f : FieldName) (n : ℕ) (c : List ℕ) (s : LevelSet) → IsNoMultiple f n c s → IsUnseen f n c s
unseen_from_messages f n c s h v w p l e =
    let t = led f (length s.matrix) v w p in
    h (weight v) t.factor t.message p l t.inside t.nonzero t.listed
    (e ∙ ap (λ u. combine f n u s.matrix) t.multiple ∙ combine_scale f n t.factor (vector_of (length s.matrix) t.message) s.matrix)
