-- Fields by their number of elements.
--   named                         a field of so many elements is the other one
--   sixteen                       a field of symbols that is no smaller one has 16 elements
use Rattle.std.proofs.Common.{◌≡◌, ◌≢◌, ℕ, true, refl, sym, ◌∙◌}
use Rattle.std.proofs.lemmas.Bool.{false≢true}
use Rattle.lc_algebra.specs.declared.FieldName.{FieldName}
use Rattle.lc_algebra.specs.declared.FieldName.TheVariants.{Gf2, Gf3, Gf4, Gf5, Gf7, Gf8, Gf9, Gf11, Gf13, Gf16}
use Rattle.lc_algebra.specs.Field.{size, shape_of, shape, is_symbol}
use Rattle.lc_algebra.proofs.EmbeddingTests.{told_by_size}

pub named : (g f : FieldName) (n : ℕ) → n ≡ size f → n ≡ size g → g ≡ f
named g f n e d = told_by_size g f (sym d ∙ e)

pub sixteen : (f : FieldName) (n : ℕ) → n ≡ size f → is_symbol f ≡ true → n ≢ 2 → n ≢ 3 → n ≢ 4 → n ≢ 5 → n ≢ 7 → n ≢ 8 → n ≢ 9 → n ≢ 11 → n ≢ 13 → Gf16 ≡ f
unfolding is_symbol size shape_of shape
sixteen Gf2 n e s a b c d g h i j k = absurd (a e)
sixteen Gf3 n e s a b c d g h i j k = absurd (b e)
sixteen Gf4 n e s a b c d g h i j k = absurd (c e)
sixteen Gf5 n e s a b c d g h i j k = absurd (d e)
sixteen Gf7 n e s a b c d g h i j k = absurd (g e)
sixteen Gf8 n e s a b c d g h i j k = absurd (h e)
sixteen Gf9 n e s a b c d g h i j k = absurd (i e)
sixteen Gf11 n e s a b c d g h i j k = absurd (j e)
sixteen Gf13 n e s a b c d g h i j k = absurd (k e)
sixteen Gf16 n e s a b c d g h i j k = refl
sixteen _ n e s a b c d g h i j k = absurd (false≢true s)

pub ruleset name_laws = (named, sixteen)
