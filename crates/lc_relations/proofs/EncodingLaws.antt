-- Messages and their codewords.
--   sum_of_none, sum_of_more      the sum of no rows, and of one row more
--   begins                a row begins at its place
--   leading_long, leading_at      the symbols of a word where the rows begin
--   leading_of            the symbols of its codeword where the rows begin are the message
--   message_is            they are the only message of a word of the code
--   message_exists, message_back, message_inside      each codeword has a message, and each message a codeword
use Rattle.std.proofs.Common.{◌≡◌, ℕ, ◌+◌, ◌<◌, ◌≤◌, not, ◌==◌, List, [], length, drop, slice_index, slice_index_or, Some, refl, sym, ap, subst, ◌∙◌, arith, lt-ltb}
use Rattle.std.specs.List.{position_or_len}
use Rattle.std.proofs.lemmas.List.{drop_more, drop_all, get_or-map, length-map, ext_get_or}
use Rattle.std.proofs.lemmas.List.Sums.{position_or_len_is}
use Rattle.lc_algebra.specs.declared.FieldName.{FieldName}
use Rattle.lc_algebra.specs.Word.{IsWord, zero_word, word_sum, scale, first_nonzero}
use Rattle.lc_algebra.specs.Span.{combine}
use Rattle.lc_algebra.specs.Matrix.{Matrix, AreRows, HasPivots, IsReduced}
use Rattle.lc_algebra.proofs.WordLaws.{IsWord_zero, IsWord_sum, length_scale, sum_comm}
use Rattle.lc_algebra.proofs.SpanLaws.{combination_of_word, word_of_combination}
use Rattle.lc_algebra.proofs.ColumnLaws.{unit_symbol}
use Rattle.lc_constructions.specs.Code.{InCode}
use Rattle.lc_language.specs.Relations.{IsMessageOf}
use Rattle.lc_relations.specs.Leads.{symbol_at, leading_symbol, leading_symbols, IsSumFrom}

-- ---- the sum of the last rows

pub sum_of_none : (C : Matrix) (j : ℕ) (u w : List ℕ) → length u ≤ j → w ≡ zero_word C.columns → IsSumFrom C j u w
unfolding combine
sum_of_none C j u w l e = record {
  word = subst (IsWord C.field C.columns) (sym e) (IsWord_zero C.field C.columns);
  is = rw (drop_all j u l) e;
}

-- row j more
pub sum_of_more : (C : Matrix) (g : FieldName) (j p i : ℕ) (u old new row : List ℕ) → g ≡ C.field → p ≡ j → i ≡ j + 1 → j < length u → j < length C.rows → row ≡ slice_index_or C.rows p [] → IsWord C.field C.columns row → IsSumFrom C i u old → new ≡ word_sum g old (scale g (slice_index u p) row) → IsSumFrom C j u new
unfolding combine
sum_of_more C g j p i u old new row o s k l m t word h e =
    let f = C.field in
    let n = C.columns in
    let here = slice_index_or C.rows j [] in
    let c = slice_index u j in
    let same : row ≡ here = t ∙ ap (λ q. slice_index_or C.rows q []) s in
    let is : old ≡ combine f n (drop (j + 1) u) (drop (j + 1) C.rows) = subst (λ q. old ≡ combine f n (drop q u) (drop q C.rows)) k h.is in
    let sum : new ≡ word_sum f old (scale f c here) = subst (λ r. new ≡ word_sum f old (scale f c r)) same (subst (λ q. new ≡ word_sum f old (scale f (slice_index u q) row)) s (subst (λ x. new ≡ word_sum x old (scale x (slice_index u p) row)) o e)) in
    record {
      word = subst (IsWord f n) (sym sum) (IsWord_sum f n old (scale f c here) h.word.long (length_scale f c here ∙ (subst (IsWord f n) same word).long));
      is = rw (drop_more u j 0 l, drop_more C.rows j [] m) (sum ∙ sum_comm f old (scale f c here) ∙ ap (word_sum f (scale f c here)) is);
    }

-- ---- the symbols where the rows begin

pub begins : (f : FieldName) (n : ℕ) (ps : List ℕ) (rows : List (List ℕ)) (i : ℕ) → AreRows f n rows → HasPivots n ps rows → i < length rows → first_nonzero (slice_index_or rows i []) ≡ Some (slice_index ps i)
begins f n ps rows i r h l =
    let row = slice_index_or rows i [] in
    let q = slice_index ps i in
    let b : q < length row = omega (arith, h.inside i (omega (arith, l, h.count)), (r i [] l).long) in
    let e : position_or_len (λ a. not (a == 0)) row ≡ q = position_or_len_is (λ a. not (a == 0)) row q 0 (omega (arith, b)) (λ k m. ap (λ a. not (a == 0)) (h.before i k l m)) (λ _. ap (λ a. not (a == 0)) (h.leads i l)) in
    rw e (rw (lt-ltb q (length row) b) refl)

pub leading_long : (rows : List (List ℕ)) (w : List ℕ) → length (leading_symbols rows w) ≡ length rows
unfolding leading_symbols
leading_long rows w = length-map rows (leading_symbol w)

pub leading_at : (f : FieldName) (n : ℕ) (ps : List ℕ) (rows : List (List ℕ)) (w : List ℕ) (i : ℕ) → AreRows f n rows → HasPivots n ps rows → i < length rows → slice_index (leading_symbols rows w) i ≡ slice_index w (slice_index ps i)
unfolding leading_symbols
leading_at f n ps rows w i r h l =
    get_or-map (leading_symbol w) rows i [] 0 l ∙ ap (symbol_at w) (begins f n ps rows i r h l)

-- a message is what its codeword has where the rows begin
pub leading_of : (f : FieldName) (n : ℕ) (rows : List (List ℕ)) (u : List ℕ) → AreRows f n rows → IsReduced n rows → IsWord f (length rows) u → leading_symbols rows (combine f n u rows) ≡ u
leading_of f n rows u r reduced word =
    let ps = reduced.pivots.0 in
    let h : HasPivots n ps rows = reduced.pivots.1 in
    let long : length (leading_symbols rows (combine f n u rows)) ≡ length rows = leading_long rows (combine f n u rows) in
    ext_get_or 0 (leading_symbols rows (combine f n u rows)) u (long ∙ sym word.long)
    (λ i l.
    let m : i < length rows = omega (arith, l, long) in
    leading_at f n ps rows (combine f n u rows) i r h m ∙ unit_symbol f n i (slice_index ps i) rows u r word m (h.leads i m) (λ j b e. h.clears i j m b e))

pub message_is : (C : Matrix) (c u : List ℕ) → AreRows C.field C.columns C.rows → IsReduced C.columns C.rows → InCode C c → u ≡ leading_symbols C.rows c → IsMessageOf C c u
message_is C c u r reduced s e =
    let f = C.field in
    let n = C.columns in
    let (cs, word, sum) = combination_of_word f n C.rows c s in
    let same : leading_symbols C.rows c ≡ cs = ap (leading_symbols C.rows) sum ∙ leading_of f n C.rows cs r reduced word in
    let is : u ≡ cs = e ∙ same in
    record {
      word = subst (IsWord f (length C.rows)) (sym is) word;
      encoded = ap (λ v. combine f n v C.rows) is ∙ sym sum;
      only = λ v w k. sym (leading_of f n C.rows v r reduced w) ∙ ap (leading_symbols C.rows) k ∙ sym e;
    }

pub message_exists : (C : Matrix) (c : List ℕ) → AreRows C.field C.columns C.rows → IsReduced C.columns C.rows → InCode C c → (u : List ℕ) × IsMessageOf C c u
message_exists C c r reduced s = (leading_symbols C.rows c, message_is C c (leading_symbols C.rows c) r reduced s refl)

pub message_back : (C : Matrix) (u : List ℕ) → AreRows C.field C.columns C.rows → IsReduced C.columns C.rows → IsWord C.field (length C.rows) u → IsMessageOf C (combine C.field C.columns u C.rows) u
message_back C u r reduced word = message_is C (combine C.field C.columns u C.rows) u r reduced (word_of_combination C.field C.columns C.rows u word) (sym (leading_of C.field C.columns C.rows u r reduced word))

pub message_inside : (C : Matrix) (u : List ℕ) → IsWord C.field (length C.rows) u → InCode C (combine C.field C.columns u C.rows)
message_inside C u word = word_of_combination C.field C.columns C.rows u word
