-- What the rooms of the workers have counted.
--   apart_are                  at how many places tails differ from a word, by the weights of its sums with tails
--   blocks_are                 the words of each weight, by the tails alone and block by block
--   heads_few, tails_few       how many heads and tails there are
--   rooms_counted              the words of a code, by its heads and tails
--   counted_few, products_few, product_few      how large the counts are
--   weights_there              there is a count for each weight up to the length
use Rattle.std.proofs.Common.{◌≡◌, ℕ, suc, ◌+◌, ◌-◌, ◌*◌, ◌^◌, ◌<◌, ◌≤◌, ◌==◌, cond, List, [], ◌∷◌, ◌++◌, length, map, take, drop, slice_index, slice_index_or, sum_by, refl, sym, ap, ap₂, ◌∙◌, subst, arith}
use Rattle.std.specs.Prelude.{All}
use Rattle.std.proofs.Math.Nat.{mul-le-mul_right, pow-le-pow_right, pow-zero, pow-suc, le-mul_of_pos_right, mul_comm}
use Rattle.std.proofs.lemmas.List.{length-append, length-map, length-take-le, length-drop, take-append-drop}
use Rattle.std.proofs.lemmas.List.Sums.{sum_by-cons}
use Rattle.std.proofs.lemmas.List.Elements.{All-nil, All-tail, All-append, All-map, All-weaker, All-get_or, All-take, All-drop}
use Rattle.lc_algebra.specs.declared.FieldName.{FieldName}
use Rattle.lc_algebra.specs.Field.{size, neg}
use Rattle.lc_algebra.specs.Word.{IsWord, zero_word, weight, word_sum, scale}
use Rattle.lc_algebra.specs.Span.{below, words}
use Rattle.lc_algebra.specs.Matrix.{Matrix, AreRows}
use Rattle.lc_algebra.proofs.FieldLaws.{one_inside, neg_inside}
use Rattle.lc_algebra.proofs.WordLaws.{IsWord_zero, IsWord_sum, scale_sum, sum_fits, weight_scale, neg_one_nonzero}
use Rattle.lc_algebra.proofs.SpanLaws.{length_below, index_below, length_words}
use Rattle.lc_enumeration.specs.Message.{numbers_from}
use Rattle.lc_enumeration.specs.Distribution.{count_of_weight}
use Rattle.lc_planes.specs.Planes.{negative}
use Rattle.lc_macwilliams.proofs.CountLaws.{sum_same, below_numbers}
use Rattle.lc_macwilliams.proofs.SolveLaws.{count_small}
use Rattle.lc_weights.specs.declared.blocks.CountRoom.{CountRoom}
use Rattle.lc_weights.specs.Leads.{leads}
use Rattle.lc_planes.specs.Packing.{IsPacked, ArePacked, places_apart}
use Rattle.lc_weights.specs.Counts.{apart_count, block_count, words_counted, IsRoomOf, AreCounts}
use Rattle.lc_weights.proofs.LeadLaws.{sum_scaled, sum_of_leads}
use Rattle.lc_planes.proofs.PackingLaws.{places_are}
use Rattle.lc_weights.proofs.WordLaws.{words_apart}
use Rattle.lc_span.proofs.WordLaws.{words_are_words}

-- sums over two lists, entry by entry
sum_matched : {X Y : Type 0} (g : X → ℕ) (h : Y → ℕ) (d : X) (e : Y) (xs : List X) (ys : List Y) → length xs ≡ length ys → ((i : ℕ) → i < length ys → g (slice_index_or xs i d) ≡ h (slice_index_or ys i e)) → sum_by g xs ≡ sum_by h ys
sum_matched g h d e [] [] l s = refl
sum_matched g h d e [] (y ∷ ys) l s = absurd (omega (arith, l))
sum_matched g h d e (x ∷ xs) [] l s = absurd (omega (arith, l))
sum_matched g h d e (x ∷ xs) (y ∷ ys) l s =
    omega (arith, sum_by-cons g x xs, sum_by-cons h y ys, s 0 (omega arith), sum_matched g h d e xs ys (omega (arith, l)) (λ i m. s (suc i) (omega (arith, m))))

abbrev heavy : ℕ → List ℕ → ℕ
heavy j w = cond {A = ℕ} (weight w == j) 1 0

-- the tails that make a word of weight j with a word
abbrev tails_to : FieldName → ℕ → List (List ℕ) → ℕ → List ℕ → ℕ
tails_to f n ys j u = sum_by (λ v. heavy j (word_sum f u v)) (words f n ys)

shared_by_multiples : (f : FieldName) (n j : ℕ) (ys : List (List ℕ)) (c : ℕ) (u : List ℕ) → c < size f → 0 < c → IsWord f n u → tails_to f n ys j (scale f c u) ≡ tails_to f n ys j u
shared_by_multiples f n j ys c u l some h =
    sym (sum_scaled f n c ys (λ v. heavy j (word_sum f (scale f c u) v)) l some)
    ∙ sum_same (λ v. heavy j (word_sum f (scale f c u) (scale f c v))) (λ v. heavy j (word_sum f u v)) (words f n ys) (λ v _.
    ap (heavy j) (sym (scale_sum f c u v)) ∙ ap (λ (w : ℕ). cond {A = ℕ} (w == j) 1 0) (weight_scale f c (word_sum f u v) l some (sum_fits f u v)))

-- the places at which tails differ from a word
pub apart_are : (f : FieldName) (P N n j : ℕ) (ys : List (List ℕ)) (u : List ℕ) (x : List (List ℕ)) (tails : List (List (List ℕ))) → size f ≤ 2 ^ P → n ≤ 64 * N → AreRows f n ys → IsWord f n u → IsPacked P N u x → ArePacked P N (words f n ys) tails → apart_count P N x tails j ≡ tails_to f n ys j u
apart_are f P N n j ys u x tails s narrow q h a b =
    let vs = words f n ys in
    sum_matched (λ t. cond {A = ℕ} (places_apart P N x t == j) 1 0) (λ v. heavy j (word_sum f u (negative f v))) [] [] tails vs b.many (λ e m.
    ap (λ (d : ℕ). cond {A = ℕ} (d == j) 1 0) (places_are f P N n u (slice_index_or vs e []) x (slice_index_or tails e []) s narrow h (All-get_or (IsWord f n) vs e [] m (words_are_words f n ys q)) a (b.each e m)))
    ∙ sum_scaled f n (neg f 1) ys (λ v. heavy j (word_sum f u v)) (neg_inside f 1) (neg_one_nonzero f)

leads_are_words : (f : FieldName) (n : ℕ) (xs : List (List ℕ)) → AreRows f n xs → AreRows f n (leads f n xs)
unfolding leads
leads_are_words f n [] r = All-nil (IsWord f n)
leads_are_words f n (x ∷ xs) r =
    let rest = All-tail (IsWord f n) x xs r in
    let row : IsWord f n x = r 0 [] (omega arith) in
    All-append (IsWord f n) (map (word_sum f x) (words f n xs)) (leads f n xs)
    (All-map (IsWord f n) (word_sum f x) (words f n xs) (All-weaker (IsWord f n) (λ u. IsWord f n (word_sum f x u)) (λ u h. IsWord_sum f n x u row.long h.long) (words f n xs) (words_are_words f n xs rest)))
    (leads_are_words f n xs rest)

-- the words of each weight, by the tails alone and block by block
pub blocks_are : (f : FieldName) (P N n j : ℕ) (xs ys : List (List ℕ)) (zero : List (List ℕ)) (heads tails : List (List (List ℕ))) → size f ≤ 2 ^ P → n ≤ 64 * N → AreRows f n xs → AreRows f n ys → IsPacked P N (zero_word n) zero → ArePacked P N (leads f n xs) heads → ArePacked P N (words f n ys) tails
    → count_of_weight f n (xs ++ ys) j ≡ apart_count P N zero tails j + (size f - 1) * sum_by (λ b. block_count P N heads tails b j) (numbers_from 0 (length heads))
unfolding count_of_weight
blocks_are f P N n j xs ys zero heads tails s narrow r q z a b =
    let hs = leads f n xs in
    let each : (i : ℕ) → i < length hs → block_count P N heads tails (slice_index_or (below (length heads)) i 0) j ≡ tails_to f n ys j (slice_index_or hs i []) =
    λ i l.
    let u = slice_index_or hs i [] in
    let here : slice_index_or (below (length heads)) i 0 ≡ i = index_below (length heads) i 0 (omega (arith, l, a.many)) in
    ap (λ b. block_count P N heads tails b j) here ∙ apart_are f P N n j ys u (slice_index_or heads i []) tails s narrow q (All-get_or (IsWord f n) hs i [] l (leads_are_words f n xs r)) (a.each i l) b in
    let blocks : sum_by (λ b. block_count P N heads tails b j) (numbers_from 0 (length heads)) ≡ sum_by (tails_to f n ys j) hs =
    ap (sum_by (λ b. block_count P N heads tails b j)) (sym (below_numbers (length heads)))
    ∙ sum_matched (λ b. block_count P N heads tails b j) (tails_to f n ys j) 0 [] (below (length heads)) hs (length_below (length heads) ∙ a.many) each in
    words_apart f n (heavy j) xs ys q ∙ sum_of_leads f n xs (tails_to f n ys j) r (λ c u l some h. shared_by_multiples f n j ys c u l some h)
    ∙ sym (ap₂ (λ x y. x + (size f - 1) * y) (apart_are f P N n j ys (zero_word n) zero tails s narrow q (IsWord_zero f n) z b) blocks)

-- how many heads and tails there are
length_leads : (f : FieldName) (n : ℕ) (xs : List (List ℕ)) → length (leads f n xs) ≤ size f ^ length xs
unfolding leads
length_leads f n [] = omega (arith, pow-zero (size f))
length_leads f n (x ∷ xs) =
    let q : ℕ = size f in
    let here : length (leads f n (x ∷ xs)) ≡ q ^ length xs + length (leads f n xs) = length-append (map (word_sum f x) (words f n xs)) (leads f n xs) ∙ ap (λ m. m + length (leads f n xs)) (length-map (words f n xs) (word_sum f x) ∙ length_words f n xs) in
    let two : 2 * q ^ length xs ≤ q * q ^ length xs = mul-le-mul_right (q ^ length xs) (omega (arith, one_inside f)) in
    omega (arith, here, length_leads f n xs, two, pow-suc q (length xs), mul_comm q (q ^ length xs))

pub heads_few : (f : FieldName) (P N n s : ℕ) (rows : List (List ℕ)) (heads : List (List (List ℕ))) → ArePacked P N (leads f n (take s rows)) heads → s ≤ length rows → size f ^ length rows ≤ 2 ^ 24 → length heads ≤ 2 ^ 40
heads_few f P N n s rows heads a l small =
    let many : length heads ≤ size f ^ s = omega (arith, a.many, length_leads f n (take s rows), ap (λ e. size f ^ e) (length-take-le s rows l)) in
    omega (arith, many, pow-le-pow_right {n = size f} (omega (arith, one_inside f)) l, small)

pub tails_few : (f : FieldName) (P N n s : ℕ) (rows : List (List ℕ)) (tails : List (List (List ℕ))) → ArePacked P N (words f n (drop s rows)) tails → size f ^ (length rows - s) ≤ 4096 → length tails ≤ 4096
tails_few f P N n s rows tails a few =
    let many : length tails ≡ size f ^ (length rows - s) = a.many ∙ length_words f n (drop s rows) ∙ ap (λ e. size f ^ e) (length-drop s rows) in
    omega (arith, many, few)

pub rooms_counted : (C : Matrix) (P N s : ℕ) (word : List ℕ) (zero : List (List ℕ)) (first : List ℕ) (heads tails shown others again : List (List (List ℕ))) (rooms : List CountRoom) → AreRows C.field C.columns C.rows → size C.field ≤ 2 ^ P → C.columns ≤ 64 * N → shown ≡ heads → others ≡ tails → again ≡ tails
    → word ≡ zero_word C.columns → IsPacked P N word zero → ArePacked P N (leads C.field C.columns (take s C.rows)) heads → ArePacked P N (words C.field C.columns (drop s C.rows)) tails
    → length first ≡ 64 * N + 1 → ((j : ℕ) → slice_index first j ≡ apart_count P N zero again j) → All (IsRoomOf P N (length others)) rooms → ((j : ℕ) → words_counted j rooms ≡ sum_by (λ b. block_count P N shown others b j) (numbers_from 0 (length shown))) → AreCounts C first rooms
rooms_counted C P N s word zero first heads tails shown others again rooms r large narrow e o g w z a b long firsts all sums =
    let f = C.field in
    let n = C.columns in
    record {
      some = omega (arith, long, narrow);
      long = All-weaker (IsRoomOf P N (length others)) (λ (room : CountRoom). n < length room.counts.items) (λ room is. omega (arith, is.long, narrow)) rooms all;
      sum = λ j.
          ap (λ x. count_of_weight f n x j) (sym (take-append-drop s C.rows))
          ∙ blocks_are f P N n j (take s C.rows) (drop s C.rows) zero heads tails large narrow (All-take (IsWord f n) s C.rows r) (All-drop (IsWord f n) s C.rows r) (subst (λ v. IsPacked P N v zero) w z) a b
          ∙ sym (ap₂ (λ x y. x + (size f - 1) * y) (firsts j ∙ ap (λ ts. apart_count P N zero ts j) g) (sums j ∙ ap₂ (λ hs ts. sum_by (λ b. block_count P N hs ts b j) (numbers_from 0 (length hs))) e o));
    }

pub product_few : (C : Matrix) (first : List ℕ) (rooms : List CountRoom) (j : ℕ) → AreCounts C first rooms → size C.field ^ length C.rows ≤ 2 ^ 24 → slice_index first j + (size C.field - 1) * words_counted j rooms ≤ 2 ^ 24
product_few C first rooms j h small = omega (arith, h.sum j, count_small C.field C.columns j C.rows, small)

pub counted_few : (C : Matrix) (first : List ℕ) (rooms : List CountRoom) (j : ℕ) → AreCounts C first rooms → size C.field ^ length C.rows ≤ 2 ^ 24 → words_counted j rooms ≤ 2 ^ 24
counted_few C first rooms j h small =
    let some : 0 < size C.field - 1 = omega (arith, one_inside C.field) in
    omega (arith, product_few C first rooms j h small, le-mul_of_pos_right (words_counted j rooms) some, mul_comm (words_counted j rooms) (size C.field - 1))

pub products_few : (C : Matrix) (first : List ℕ) (rooms : List CountRoom) (j : ℕ) → AreCounts C first rooms → size C.field ^ length C.rows ≤ 2 ^ 24 → (size C.field - 1) * words_counted j rooms ≤ 2 ^ 24
products_few C first rooms j h small = omega (arith, product_few C first rooms j h small)

pub weights_there : (C : Matrix) (first : List ℕ) (rooms : List CountRoom) (j : ℕ) → AreCounts C first rooms → j ≤ C.columns → All (λ (room : CountRoom). j < length room.counts.items) rooms
weights_there C first rooms j h l = All-weaker (λ (room : CountRoom). C.columns < length room.counts.items) (λ (room : CountRoom). j < length room.counts.items) (λ room e. omega (arith, e, l)) rooms h.long

pub ruleset number_laws = (counted_few, products_few, product_few, weights_there)
