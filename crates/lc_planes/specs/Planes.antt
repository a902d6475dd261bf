-- Words as planes of bits: plane t of a word has bit t of the number of each symbol.
--   plane t w              the number whose bits are the bits t of the symbols of w, the first one the lowest
--   part_at w b            part b of a list: 64 of its elements from 64 b on, or what is left
--   plane_at j cols w      plane j of the symbols of a word at some columns
--   apart n u v            the bits at which one of the first n planes of two words differ
--   negative f w           the negative of a word
--   PlanesState            a word that is kept as planes: its field, and its symbols from the left
--   symbol_in block e      symbol e of a block of four planes
--   symbol_at blocks i     symbol i of some blocks, 64 to a block
--   symbols_of n blocks    their first n symbols
--   AreBlocks w blocks     the blocks are the planes of the parts of w
--   AreSums x y z          the blocks z are the exclusive or of x and y
--   ArePlanes f w blocks   f has 2, 4, 8 or 16 elements, w is a word over f, and the blocks are its planes
use Rattle.std.specs.Prelude.{◌≡◌, ℕ, zero, suc, ◌+◌, ◌*◌, ◌/◌, ◌%◌, ◌<◌, ◌≤◌, IsTrue, List, [], length, take, drop, map, bit_or, bit_xor, slice_index, slice_index_or}
use Rattle.std.specs.Int.{bit_at}
use Rattle.lc_algebra.specs.declared.FieldName.{FieldName}
use Rattle.lc_algebra.specs.Field.{shape_of, is_symbol, neg}
use Rattle.lc_algebra.specs.Word.{Fits, scale}
use Rattle.lc_algebra.specs.SpanLaws.{restrict}
use Rattle.lc_algebra.specs.Span.{below}
use Rattle.lc_vec.specs.Packed.{packed}

unfoldable pub plane : ℕ → List ℕ → ℕ
plane t w = packed (map (λ a. bit_at a t) w)

abbrev pub part_at : List ℕ → ℕ → List ℕ
part_at w b = take 64 (drop (64 * b) w)

abbrev pub plane_at : ℕ → List ℕ → List ℕ → ℕ
plane_at j cols w = plane j (restrict cols w)

abbrev pub apart : ℕ → List ℕ → List ℕ → ℕ
apart zero u v = 0
apart (suc j) u v = bit_or (bit_xor (plane j u) (plane j v)) (apart j u v)

abbrev pub negative : FieldName → List ℕ → List ℕ
negative f w = scale f (neg f 1) w

pub record PlanesState : Type 0 where
  pub field : FieldName
  pub symbols : List ℕ

abbrev pub symbol_in : List ℕ → ℕ → ℕ
symbol_in block e = bit_at (slice_index block 0) e + 2 * bit_at (slice_index block 1) e + 4 * bit_at (slice_index block 2) e + 8 * bit_at (slice_index block 3) e

abbrev pub symbol_at : List (List ℕ) → ℕ → ℕ
symbol_at blocks i = symbol_in (slice_index_or blocks (i / 64) []) (i % 64)

unfoldable pub symbols_of : ℕ → List (List ℕ) → List ℕ
symbols_of n blocks = map (symbol_at blocks) (below n)

pub record AreBlocks (w : List ℕ) (blocks : List (List ℕ)) : Type 0 where
  pub all : length w ≤ 64 * length blocks
  pub few : 64 * length blocks < length w + 64
  pub are : (b t : ℕ) → b < length blocks → t < 4 → slice_index (slice_index_or blocks b []) t ≡ plane t (part_at w b)

pub record AreSums (x y z : List (List ℕ)) : Type 0 where
  pub many : length z ≡ length x
  pub are : (b t : ℕ) → b < length z → t < 4 → slice_index (slice_index_or z b []) t ≡ bit_xor (slice_index (slice_index_or x b []) t) (slice_index (slice_index_or y b []) t)

pub record ArePlanes (f : FieldName) (w : List ℕ) (blocks : List (List ℕ)) : Type 0 where
  pub symbol : IsTrue (is_symbol f)
  pub even : (shape_of f).characteristic ≡ 2
  pub fits : Fits f w
  pub planes : AreBlocks w blocks
