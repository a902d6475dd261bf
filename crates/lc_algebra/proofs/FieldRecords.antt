-- The laws of fields, gathered as the records that public contracts name.
--   is_field            the axioms
--   reduced_product     the product is the remainder of the plain product
--   only_product        and nothing else is
--   is_primitive        the chosen element is primitive
--   is_embedding        a field inside a larger one
use Rattle.std.proofs.Common.{◌≡◌, ℕ, ◌<◌}
use Rattle.lc_algebra.specs.declared.FieldName.{FieldName}
use Rattle.lc_algebra.specs.Field.{shape_of, size, add, neg, mul}
use Rattle.lc_algebra.specs.Embedding.{IsSubfield, embed}
use Rattle.lc_algebra.specs.FieldLaws.{IsField, plain_product, IsReducedProduct, IsPrimitive, IsEmbedding}
use Rattle.lc_algebra.proofs.FieldTests.{primitive_inside}
use Rattle.lc_algebra.proofs.FieldLaws.{one_inside, add_inside, neg_inside, mul_inside, add_comm, add_assoc, add_zero, add_neg, mul_comm, mul_assoc, mul_one, mul_add, inverse_of}
use Rattle.lc_algebra.proofs.PowerLaws.{power_order, logarithm, power_distinct, power_rest, pow_size, frobenius}
use Rattle.lc_algebra.proofs.EmbeddingLaws.{embed_inside, embed_injective, embed_zero, embed_one, embed_add, embed_mul}
use Rattle.lc_algebra.proofs.RemainderLaws.{product_is_remainder, told_by_remainder}

pub is_field : (f : FieldName) → IsField (size f) (add f) (mul f) (neg f)
is_field f = record {
  zero_is_not_one = one_inside f;
  sum_inside = λ a b l m. add_inside f a b;
  product_inside = λ a b l m. mul_inside f a b;
  negative_inside = λ a l. neg_inside f a;
  sum_commutes = λ a b l m. add_comm f a b;
  sum_associates = λ a b c l m n. add_assoc f a b c;
  zero_is_neutral = λ a l. add_zero f a l;
  negative_cancels = λ a l. add_neg f a;
  product_commutes = λ a b l m. mul_comm f a b;
  product_associates = λ a b c l m n. mul_assoc f a b c;
  one_is_neutral = λ a l. mul_one f a l;
  product_distributes = λ a b c l m n. mul_add f a b c;
  has_inverse = λ a l o. (let i = inverse_of f a l o in (i.0, i.1.inside, i.1.one));
}

pub reduced_product : (f : FieldName) (a b : ℕ) → IsReducedProduct f a b (mul f a b)
unfolding plain_product
reduced_product f a b = product_is_remainder f a b

pub only_product : (f : FieldName) (a b c : ℕ) → c < size f → IsReducedProduct f a b c → c ≡ mul f a b
unfolding plain_product
only_product f a b c l i = told_by_remainder f a b c l i

pub is_primitive : (f : FieldName) → IsPrimitive f (shape_of f).primitive
is_primitive f = record { element = primitive_inside f; returns = power_order f; reaches = logarithm f; repeats_nothing = power_distinct f }

pub is_embedding : (small large : FieldName) → IsSubfield small large → IsEmbedding small large (embed small large)
is_embedding small large s = record {
  inside = λ a l. embed_inside small large a;
  distinct = λ a b l m e. embed_injective small large a b s l m e;
  zero_stays = embed_zero small large s;
  one_stays = embed_one small large s;
  sums = λ a b l m. embed_add small large a b s l m;
  products = λ a b l m. embed_mul small large a b s l m;
}

pub ruleset powers_of_primitive_laws = (is_primitive, power_rest, pow_size, frobenius)
