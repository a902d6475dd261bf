-- Words and the blocks that keep them.
--   part_index             a symbol of a part
--   told_by_blocks         blocks that are the planes of a word have its symbols
--   blocks_added           the exclusive or of the planes of two words has those of their sum
--   symbols_small          symbols over a field of at most 16 elements are below 16
--   weight_none, weight_more, weight_all      the weight of a word, part by part
--   block_weight           the ones of the or of a block's planes
--   IsOneMore, weight_next      the weight with one block more
--   IsSum, state, sum_kept      a word whose planes are the exclusive or of those of two words
--   symbols_long, symbol_read   how many symbols some blocks have, and each of them
--   written_whole          a list written whole over another
--   block_pushed           the blocks of a word with one block more
--   name_two, name_four, name_eight      a field of so many elements
--   even_name              a field of at most 16 elements and characteristic 2 that has none of these numbers has 16
--   name_laws              these four
use Rattle.std.proofs.Common.{◌≡◌, ◌≢◌, ℕ, zero, suc, ◌+◌, ◌-◌, ◌*◌, ◌/◌, ◌%◌, ◌<◌, ◌≤◌, not, ◌==◌, cond, IsTrue, min, List, [], ◌∷◌, ◌++◌, length, take, drop, map, slice_index, slice_index_or, bit_or, bit_xor, count_ones, refl, sym, ap, ◌∙◌, ⊎_elim, subst, arith, lit<, mod-lt}
use Rattle.std.specs.Int.{bit_at}
use Rattle.std.proofs.Math.Nat.{mod-add-div}
use Rattle.std.proofs.Math.Seq.{take-add, take-append_seam}
use Rattle.std.proofs.Math.ListN.{get_or-append}
use Rattle.std.proofs.lemmas.Bool.{cases_lt}
use Rattle.std.proofs.lemmas.Bool.Decides.{Decides-eqb, nat_tests}
use Rattle.std.proofs.lemmas.List.{ext_get_or, get_or-map, get_or-take, get_or-drop, take_all, length-map, length-take, length-drop, get_or_past, get_or_push}
use Rattle.std.proofs.lemmas.List.Sums.{sum_by-append}
use Rattle.lc_algebra.specs.declared.FieldName.{FieldName}
use Rattle.lc_algebra.specs.declared.FieldName.TheVariants.{Gf2, Gf3, Gf4, Gf5, Gf7, Gf8, Gf9, Gf11, Gf13, Gf16, Gf25, Gf27, Gf32, Gf64, Gf81, Gf128, Gf243, Gf256}
use Rattle.lc_algebra.specs.Field.{size, add, shape, shape_of, is_symbol}
use Rattle.lc_algebra.specs.Word.{Fits, word_sum, weight}
use Rattle.lc_algebra.specs.Span.{below as numbers}
use Rattle.lc_algebra.proofs.FieldTests.{below, below_each}
use Rattle.lc_algebra.proofs.EmbeddingTests.{told_by_size, size_two}
use Rattle.lc_algebra.proofs.SpanLaws.{length_below, index_below}
use Rattle.lc_algebra.proofs.WordLaws.{fits_symbol, weight_at_most_length, length_word_sum, sum_fits, fits_take, fits_drop}
use Rattle.lc_planes.specs.Planes.{plane, part_at, symbol_at, symbols_of, PlanesState, AreBlocks, AreSums, ArePlanes}
use Rattle.lc_planes.proofs.PlaneLaws.{plane_sum, bit_plane, ones_any}

pub part_index : (w : List ℕ) (b e : ℕ) → e < 64 → slice_index (part_at w b) e ≡ slice_index w (64 * b + e)
part_index w b e l = get_or-take 64 (drop (64 * b) w) e 0 l ∙ get_or-drop (64 * b) w e 0

four_bits : (a : ℕ) → a < 16 → bit_at a 0 + 2 * bit_at a 1 + 4 * bit_at a 2 + 8 * bit_at a 3 ≡ a
unfolding below
four_bits a l = (Decides-eqb (bit_at a 0 + 2 * bit_at a 1 + 4 * bit_at a 2 + 8 * bit_at a 3) a).0 (below_each (λ x. bit_at x 0 + 2 * bit_at x 1 + 4 * bit_at x 2 + 8 * bit_at x 3 == x) 16 refl a l)

one_symbol : (w : List ℕ) (blocks : List (List ℕ)) (i : ℕ) → AreBlocks w blocks → slice_index w i < 16 → i < length w → symbol_at blocks i ≡ slice_index w i
one_symbol w blocks i h small l =
    let b = i / 64 in
    let e = i % 64 in
    let inside : e < 64 = mod-lt i (omega arith) in
    let whole : 64 * b + e ≡ i = omega (arith, mod-add-div i 64) in
    let here : b < length blocks = omega (arith, whole, l, h.all, inside) in
    let bit : (t : ℕ) → t < 4 → bit_at (slice_index (slice_index_or blocks b []) t) e ≡ bit_at (slice_index w i) t = λ t m.
    ap (λ z. bit_at z e) (h.are b t here m) ∙ bit_plane t (part_at w b) e ∙ ap (λ z. bit_at z t) (part_index w b e inside ∙ ap (slice_index w) whole) in
    rw (bit 0 (omega arith), bit 1 (omega arith), bit 2 (omega arith), bit 3 (omega arith)) (four_bits (slice_index w i) small)

pub told_by_blocks : (w : List ℕ) (blocks : List (List ℕ)) (n : ℕ) → AreBlocks w blocks → n ≡ length w → ((i : ℕ) → slice_index w i < 16) → symbols_of n blocks ≡ w
unfolding symbols_of
told_by_blocks w blocks n h e small =
    let long : length (map (symbol_at blocks) (numbers n)) ≡ n = length-map (numbers n) (symbol_at blocks) ∙ length_below n in
    ext_get_or 0 (map (symbol_at blocks) (numbers n)) w (long ∙ e) (λ i l.
    let m : i < n = omega (arith, l, long) in
    get_or-map (symbol_at blocks) (numbers n) i 0 0 (omega (arith, m, length_below n)) ∙ ap (symbol_at blocks) (index_below n i 0 m) ∙ one_symbol w blocks i h (small i) (omega (arith, m, e)))

pub symbols_small : (f : FieldName) (w : List ℕ) → IsTrue (is_symbol f) → Fits f w → (i : ℕ) → slice_index w i < 16
unfolding is_symbol
symbols_small f w s h i =
    let l = fits_symbol f w h i in
    grind (arith, nat_tests, s, l)

-- weights
pub weight_none : (w : List ℕ) → 0 ≡ weight (take (64 * 0) w)
weight_none w = refl

pub weight_more : (w : List ℕ) (b : ℕ) → weight (take (64 * (b + 1)) w) ≡ weight (take (64 * b) w) + weight (part_at w b)
weight_more w b =
    let more : 64 * (b + 1) ≡ 64 * b + 64 = omega arith in
    let parts : take (64 * (b + 1)) w ≡ take (64 * b) w ++ part_at w b = ap (λ n. take n w) more ∙ take-add (64 * b) 64 w in
    ap weight parts ∙ sum_by-append (λ a. cond (not (a == 0)) 1 0) (take (64 * b) w) (part_at w b)

pub weight_all : (w : List ℕ) (b : ℕ) → length w ≤ 64 * b → weight (take (64 * b) w) ≡ weight w
weight_all w b l = ap weight (take_all (64 * b) w l)

part_small : (w : List ℕ) (b : ℕ) → ((i : ℕ) → slice_index w i < 16) → (e : ℕ) → slice_index (part_at w b) e < 16
part_small w b h e = ⊎_elim
    (λ l. omega (arith, part_index w b e l, h (64 * b + e)))
    (λ l. omega (arith, outside e l))
    (cases_lt e 64)
  where
    outside : (e : ℕ) → 64 ≤ e → slice_index (part_at w b) e ≡ 0
    outside e l = get_or_past (part_at w b) e 0 (omega (arith, l, length-take 64 (drop (64 * b) w)))

pub block_weight : (w : List ℕ) (blocks : List (List ℕ)) (b : ℕ) → AreBlocks w blocks → ((i : ℕ) → slice_index w i < 16) → b < length blocks
    → count_ones (bit_or (slice_index (slice_index_or blocks b []) 3) (bit_or (slice_index (slice_index_or blocks b []) 2) (bit_or (slice_index (slice_index_or blocks b []) 1) (slice_index (slice_index_or blocks b []) 0)))) ≡ weight (part_at w b)
block_weight w blocks b h small l =
    rw (h.are b 3 l (omega arith), h.are b 2 l (omega arith), h.are b 1 l (omega arith), h.are b 0 l (omega arith)) (ones_any (part_at w b) (part_small w b small))

-- one block more: its ones, and those so far, which are few
pub record IsOneMore (w : List ℕ) (b ones more : ℕ) : Type 0 where
  pub next : ones + more ≡ weight (take (64 * (b + 1)) w)
  pub few : ones + more ≤ length w

pub weight_next : (w : List ℕ) (blocks : List (List ℕ)) (b ones more : ℕ) → AreBlocks w blocks → ((i : ℕ) → slice_index w i < 16) → b < length blocks → ones ≡ weight (take (64 * b) w)
    → more ≡ count_ones (bit_or (slice_index (slice_index_or blocks b []) 3) (bit_or (slice_index (slice_index_or blocks b []) 2) (bit_or (slice_index (slice_index_or blocks b []) 1) (slice_index (slice_index_or blocks b []) 0))))
    → IsOneMore w b ones more
weight_next w blocks b ones more h small l e m =
    let next : ones + more ≡ weight (take (64 * (b + 1)) w) = omega (arith, e, m, block_weight w blocks b h small l, weight_more w b) in
    record { next = next; few = omega (arith, next, weight_at_most_length (take (64 * (b + 1)) w), length-take (64 * (b + 1)) w) }

-- sums
take_sum : (f : FieldName) (u v : List ℕ) (n : ℕ) → take n (word_sum f u v) ≡ word_sum f (take n u) (take n v)
unfolding word_sum
take_sum f u v zero = refl
take_sum f [] v (suc n) = refl
take_sum f (a ∷ u) [] (suc n) = refl
take_sum f (a ∷ u) (b ∷ v) (suc n) = ap (λ w. add f a b ∷ w) (take_sum f u v n)

drop_sum : (f : FieldName) (u v : List ℕ) (n : ℕ) → length u ≡ length v → drop n (word_sum f u v) ≡ word_sum f (drop n u) (drop n v)
unfolding word_sum
drop_sum f u v zero e = refl
drop_sum f [] [] (suc n) e = refl
drop_sum f [] (b ∷ v) (suc n) e = absurd (omega (arith, e))
drop_sum f (a ∷ u) [] (suc n) e = absurd (omega (arith, e))
drop_sum f (a ∷ u) (b ∷ v) (suc n) e = drop_sum f u v n (omega (arith, e))

part_sum : (f : FieldName) (u v : List ℕ) (b : ℕ) → length u ≡ length v → part_at (word_sum f u v) b ≡ word_sum f (part_at u b) (part_at v b)
part_sum f u v b e = ap (take 64) (drop_sum f u v (64 * b) e) ∙ take_sum f (drop (64 * b) u) (drop (64 * b) v) 64

part_long : (u v : List ℕ) (b : ℕ) → length u ≡ length v → length (part_at u b) ≡ length (part_at v b)
part_long u v b e = omega (arith, length-take 64 (drop (64 * b) u), length-take 64 (drop (64 * b) v), length-drop (64 * b) u, length-drop (64 * b) v, e)

part_fits : (f : FieldName) (u : List ℕ) (b : ℕ) → Fits f u → Fits f (part_at u b)
part_fits f u b h = fits_take f 64 (drop (64 * b) u) (fits_drop f (64 * b) u h)

pub blocks_added : (f : FieldName) (u v : List ℕ) (x y z : List (List ℕ)) → ArePlanes f u x → ArePlanes f v y → length u ≡ length v → AreSums x y z → ArePlanes f (word_sum f u v) z
blocks_added f u v x y z g h e s =
    let many : length (word_sum f u v) ≡ length v = length_word_sum f u v e in
    record {
      symbol = g.symbol;
      even = g.even;
      fits = sum_fits f u v;
      planes = record {
        all = omega (arith, many, e, s.many, g.planes.all);
        few = omega (arith, many, e, s.many, g.planes.few);
        are = λ b t l m.
            let here : b < length x = omega (arith, l, s.many) in
            let there : b < length y = omega (arith, here, e, g.planes.few, h.planes.all) in
            s.are b t l m
            ∙ ap (λ p. bit_xor p (slice_index (slice_index_or y b []) t)) (g.planes.are b t here m)
            ∙ ap (bit_xor (plane t (part_at u b))) (h.planes.are b t there m)
            ∙ sym (plane_sum f t (part_at u b) (part_at v b) g.even (part_long u v b e) (part_fits f u b g.fits) (part_fits f v b h.fits))
            ∙ ap (plane t) (sym (part_sum f u v b e));
      };
    }

-- symbols in a list of planes
pub symbols_long : (n : ℕ) (blocks : List (List ℕ)) → length (symbols_of n blocks) ≡ n
unfolding symbols_of
symbols_long n blocks = length-map (numbers n) (symbol_at blocks) ∙ length_below n

pub symbol_read : (n i : ℕ) (blocks : List (List ℕ)) → i < n → slice_index (symbols_of n blocks) i ≡ symbol_at blocks i
unfolding symbols_of
symbol_read n i blocks l = get_or-map (symbol_at blocks) (numbers n) i 0 0 (omega (arith, l, length_below n)) ∙ ap (symbol_at blocks) (index_below n i 0 l)

-- what a word is after a sum
pub record IsSum (f : FieldName) (n : ℕ) (s p q : PlanesState) (z : List (List ℕ)) : Type 0 where
  pub is : symbols_of n z ≡ word_sum s.field p.symbols q.symbols
  pub planes : ArePlanes f (symbols_of n z) z

abbrev pub state : FieldName → ℕ → List (List ℕ) → PlanesState
state f n blocks = record { field = f; symbols = symbols_of n blocks }

pub sum_kept : (s p q : PlanesState) (f g h : FieldName) (n m k : ℕ) (t x y z : List (List ℕ)) → state f n t ≡ s → state g m x ≡ p → state h k y ≡ q → p.field ≡ s.field → q.field ≡ s.field → length p.symbols ≡ length s.symbols → length q.symbols ≡ length s.symbols → ArePlanes g (symbols_of m x) x → ArePlanes h (symbols_of k y) y → AreSums x y z → IsSum f n s p q z
sum_kept s p q f g h n m k t x y z es ep eq pf qf pl ql a b sums =
    let field : f ≡ s.field = ap (λ (o : PlanesState). o.field) es in
    let first : g ≡ f = ap (λ (o : PlanesState). o.field) ep ∙ pf ∙ sym field in
    let second : h ≡ f = ap (λ (o : PlanesState). o.field) eq ∙ qf ∙ sym field in
    let u : symbols_of m x ≡ p.symbols = ap (λ (o : PlanesState). o.symbols) ep in
    let v : symbols_of k y ≡ q.symbols = ap (λ (o : PlanesState). o.symbols) eq in
    let long : n ≡ length s.symbols = sym (symbols_long n t) ∙ ap (λ (o : PlanesState). length o.symbols) es in
    let left : ArePlanes f p.symbols x = subst (λ i. ArePlanes i p.symbols x) first (subst (λ w. ArePlanes g w x) u a) in
    let right : ArePlanes f q.symbols y = subst (λ i. ArePlanes i q.symbols y) second (subst (λ w. ArePlanes h w y) v b) in
    let lengths : length p.symbols ≡ length q.symbols = pl ∙ sym ql in
    let sum = blocks_added f p.symbols q.symbols x y z left right lengths sums in
    let is : symbols_of n z ≡ word_sum f p.symbols q.symbols = told_by_blocks (word_sum f p.symbols q.symbols) z n sum.planes (long ∙ sym ql ∙ sym (length_word_sum f p.symbols q.symbols lengths)) (symbols_small f (word_sum f p.symbols q.symbols) sum.symbol sum.fits) in
    record { is = is ∙ ap (λ i. word_sum i p.symbols q.symbols) field; planes = rw is sum }

-- a list written whole over another
pub written_whole : {X : Type 0} (n : ℕ) (ws xs : List X) → n ≡ length ws → take n (ws ++ drop (length ws) xs) ≡ ws
written_whole n ws xs e = ap (λ m. take m (ws ++ drop (length ws) xs)) e ∙ take-append_seam ws (drop (length ws) xs)

-- one block more of a word
pub block_pushed : (w : List ℕ) (b from to : ℕ) (blocks : List (List ℕ)) (block part : List ℕ) → length blocks ≡ b → from ≡ 64 * b → to ≡ min (length w - from) 64 → part ≡ take to (drop from w) → ((t : ℕ) → t < 4 → slice_index block t ≡ plane t part)
    → ((i t : ℕ) → i < b → t < 4 → slice_index (slice_index_or blocks i []) t ≡ plane t (part_at w i))
    → (i t : ℕ) → i < b + 1 → t < 4 → slice_index (slice_index_or (blocks ++ block ∷ []) i []) t ≡ plane t (part_at w i)
block_pushed w b from to blocks block part many f e p is before i t l m = ⊎_elim
    (λ a. ap (λ z. slice_index z t) (get_or-append blocks (block ∷ []) [] i (omega (arith, a, many))) ∙ before i t a m)
    (λ a.
    let here : i ≡ b = omega (arith, a, l) in
    let cut : part ≡ part_at w b = p ∙ rw (e, f) (short (drop (64 * b) w) (length w - 64 * b) (length-drop (64 * b) w)) in
    ap (λ z. slice_index z t) (get_or_push blocks block [] i (many ∙ sym here)) ∙ is t m ∙ ap (plane t) cut ∙ ap (λ z. plane t (part_at w z)) (sym here))
    (cases_lt i b)
  where
    short : (u : List ℕ) (n : ℕ) → length u ≡ n → take (min n 64) u ≡ take 64 u
    short u n h = ⊎_elim
        (λ a. let m : min n 64 ≡ n = omega (arith, a) in ap (λ z. take z u) m ∙ take_all n u (omega (arith, h)) ∙ sym (take_all 64 u (omega (arith, h, a))))
        (λ a. let m : min n 64 ≡ 64 = omega (arith, a) in ap (λ z. take z u) m)
        (cases_lt n 64)

-- fields
too_large : (n : ℕ) → 16 < n → n ≤ 16 → ⊥
too_large n l m = omega (arith, l, m)

last_name : (f : FieldName) → size f ≤ 16 → (shape_of f).characteristic ≡ 2 → size f ≢ 2 → size f ≢ 4 → size f ≢ 8 → f ≡ Gf16
unfolding size shape_of shape
last_name Gf2 s e a b c = absurd (a refl)
last_name Gf3 s e a b c = absurd (omega (arith, e))
last_name Gf4 s e a b c = absurd (b refl)
last_name Gf5 s e a b c = absurd (omega (arith, e))
last_name Gf7 s e a b c = absurd (omega (arith, e))
last_name Gf8 s e a b c = absurd (c refl)
last_name Gf9 s e a b c = absurd (omega (arith, e))
last_name Gf11 s e a b c = absurd (omega (arith, e))
last_name Gf13 s e a b c = absurd (omega (arith, e))
last_name Gf16 s e a b c = refl
last_name Gf25 s e a b c = absurd (omega (arith, e))
last_name Gf27 s e a b c = absurd (omega (arith, e))
last_name Gf32 s e a b c = absurd (too_large (size Gf32) (lit< tt) s)
last_name Gf64 s e a b c = absurd (too_large (size Gf64) (lit< tt) s)
last_name Gf81 s e a b c = absurd (omega (arith, e))
last_name Gf128 s e a b c = absurd (too_large (size Gf128) (lit< tt) s)
last_name Gf243 s e a b c = absurd (omega (arith, e))
last_name Gf256 s e a b c = absurd (too_large (size Gf256) (lit< tt) s)

pub even_name : (f : FieldName) → IsTrue (is_symbol f) → (shape_of f).characteristic ≡ 2 → size f ≢ 2 → size f ≢ 4 → size f ≢ 8 → Gf16 ≡ f
unfolding is_symbol
even_name f s e a b c = sym (last_name f (grind (arith, nat_tests, s)) e a b c)

size_four : 4 ≡ size Gf4
unfolding size shape_of shape
size_four = refl

size_eight : 8 ≡ size Gf8
unfolding size shape_of shape
size_eight = refl

pub name_two : (f : FieldName) → size f ≡ 2 → Gf2 ≡ f
name_two f e = sym (told_by_size f Gf2 (e ∙ sym size_two))

pub name_four : (f : FieldName) → size f ≡ 4 → Gf4 ≡ f
name_four f e = sym (told_by_size f Gf4 (e ∙ size_four))

pub name_eight : (f : FieldName) → size f ≡ 8 → Gf8 ≡ f
name_eight f e = sym (told_by_size f Gf8 (e ∙ size_eight))

pub ruleset name_laws = (name_two, name_four, name_eight, even_name)
