-- How the table grows by whole levels of leaders of one weight.
--   all_tried                after the last word of the frontier, the next symbol at this coordinate
--   symbols_tried            after the last symbol, the coordinate before it
--   level_started            before the first coordinate, with an empty list
--   level_ended, table_ended after the last one, the list is the level
--   level_of_zero, first_table      what is there to begin with: the zero word
--   level_whole, table_found if each syndrome has a leader, there is nothing more to try
--   table_whole              after as many levels as a word has symbols, each leader is there
use Rattle.std.proofs.Common.{◌≡◌, ◌≢◌, ℕ, zero, suc, ◌+◌, ◌<◌, ◌≤◌, inl, inr, ⊎_elim, List, [], ◌∷◌, length, replicate, set, slice_index, refl, sym, ap, subst, ◌∙◌, arith}
use Rattle.std.proofs.lemmas.List.{length-set, length-replicate, get_or-set_same, get_or-set_other, get_or-replicate}
use Rattle.std.proofs.lemmas.Bool.{cases_lt, cases_eq}
use Rattle.lc_algebra.specs.Field.{size}
use Rattle.lc_algebra.specs.Word.{zero_word, weight, ComesNoLater}
use Rattle.lc_algebra.specs.Matrix.{Matrix}
use Rattle.lc_algebra.proofs.WordLaws.{same_words, word_symbol, index_zero_word, length_zero_word, weight_zero_word, zero_from_weight, weight_at_most_length, IsWord_zero, at_most_reflexive}
use Rattle.lc_syndrome.specs.Syndrome.{syndrome_number, coset_count}
use Rattle.lc_syndrome.specs.Leading.{Leads, Starts, IsFirst, IsStep}
use Rattle.lc_syndrome.specs.Growth.{Holds, unknown, IsLevel, IsTable, IsAt, IsSteps}
use Rattle.lc_syndrome.proofs.SyndromeLaws.{syndrome_below, zero_syndrome}
use Rattle.lc_syndrome.proofs.SymbolLaws.{weight_taken}
use Rattle.lc_syndrome.proofs.LeadLaws.{leads_once, part_leads}

pub all_tried : (H : Matrix) (v w i c p : ℕ) (frontier firsts coordinates symbols next next_firsts : List ℕ) → IsLevel H v frontier firsts → suc v ≡ w → 0 < c → length frontier ≤ p → IsAt H w i c p frontier coordinates symbols next next_firsts → IsAt H w i (c + 1) 0 frontier coordinates symbols next next_firsts
all_tried H v w i c p frontier firsts coordinates symbols next next_firsts level more pc whole state = record {
  table = state.table;
  level = state.level;
  tried = record {
    before = λ l h wl st m. ⊎_elim
        (λ (k : slice_index l i < c). state.tried.before l h wl st k)
        (λ (k : c ≤ slice_index l i).
        let q : slice_index l i ≡ c = omega (arith, m, k) in
        let pl : 0 < slice_index l i = omega (arith, q, pc) in
        let part : Leads H (set l i 0) = part_leads H i l h pl in
        let held : Holds frontier (syndrome_number H (set l i 0)) = level.whole (set l i 0) part (omega (arith, weight_taken i l pl, wl, more)) in
        state.tried.here l held.0 h wl st q (omega (arith, held.1, whole)) held.2)
        (cases_lt (slice_index l i) c);
    here = λ l r h wl st q m f. absurd (omega (arith, m));
  };
}

starts_further : (i : ℕ) (l : List ℕ) → Starts i l → slice_index l i ≡ 0 → Starts (suc i) l
starts_further i l st z k m = ⊎_elim (λ (q : k < i). st k q) (λ (q : i ≤ k). let e : k ≡ i = omega (arith, q, m) in ap (slice_index l) e ∙ z) (cases_lt k i)

pub symbols_tried : (H : Matrix) (w i j c : ℕ) (frontier coordinates symbols next next_firsts : List ℕ) → j ≡ suc i → size H.field ≤ c → IsAt H w j c 0 frontier coordinates symbols next next_firsts → IsAt H w i 1 0 frontier coordinates symbols next next_firsts
symbols_tried H w i j c frontier coordinates symbols next next_firsts e b state = record {
  table = state.table;
  level = state.level;
  tried = record {
    before = λ l h wl st m.
        let z : slice_index l i ≡ 0 = omega (arith, m) in
        let further : Starts j l = subst (λ a. Starts a l) (sym e) (starts_further i l st z) in
        state.tried.before l h wl further (omega (arith, word_symbol H.field H.columns l h.word j, b));
    here = λ l r h wl st q m f. absurd (omega (arith, m));
  };
}

pub zero_from_start : (n : ℕ) (l : List ℕ) → length l ≡ n → Starts n l → l ≡ zero_word n
zero_from_start n l e st = same_words l (zero_word n) (e ∙ sym (length_zero_word n))
    (λ i. ⊎_elim (λ (k : i < n). st i k ∙ sym (index_zero_word n i)) (λ (k : n ≤ i). past n i l e k ∙ sym (index_zero_word n i)) (cases_lt i n))
  where
    past : (n i : ℕ) (l : List ℕ) → length l ≡ n → n ≤ i → slice_index l i ≡ 0
    past n i [] e k = refl
    past n zero (a ∷ l) e k = absurd (omega (arith, e, k))
    past n (suc i) (a ∷ l) e k = past (length l) i l refl (omega (arith, e, k))

level_begins : (H : Matrix) (w c : ℕ) (frontier coordinates symbols : List ℕ) → 0 < w → IsTable H w coordinates symbols [] → IsAt H w H.columns c 0 frontier coordinates symbols [] []
level_begins H w c frontier coordinates symbols p table = record {
  table = table;
  level = record {
    count = refl;
    items = λ r m. absurd (omega (arith, m));
    closed = λ r e l m he se hl wl a. absurd (omega (arith, m));
  };
  tried = record {
    before = λ l h wl st m.
        let z : l ≡ zero_word H.columns = zero_from_start H.columns l h.word.long st in
        absurd (omega (arith, p, wl, ap weight z, weight_zero_word H.columns));
    here = λ l r h wl st q m f. absurd (omega (arith, m));
  };
}

level_ends : (H : Matrix) (w c : ℕ) (frontier coordinates symbols next next_firsts : List ℕ) → size H.field ≤ c → IsAt H w 0 c 0 frontier coordinates symbols next next_firsts → IsLevel H w next next_firsts
level_ends H w c frontier coordinates symbols next next_firsts b state = record {
  sofar = state.level;
  whole = λ e h we. state.tried.before e h we (λ k m. absurd (omega (arith, m))) (omega (arith, word_symbol H.field H.columns e h.word 0, b));
}

table_ends : (H : Matrix) (w : ℕ) (coordinates symbols next next_firsts : List ℕ) → IsTable H w coordinates symbols next → IsLevel H w next next_firsts → IsTable H (w + 1) coordinates symbols []
table_ends H w coordinates symbols next next_firsts table level = record {
  coordinate_count = table.coordinate_count;
  symbol_count = table.symbol_count;
  sound = λ s b n.
      let (e, h, se, step, place) = table.sound s b n in (
        e,
        h,
        se,
        step,
        inl (⊎_elim
            (λ (q : weight e < w). let t : weight e < w + 1 = omega (arith, q) in t)
            (λ (q : Holds next s).
            let (d, hd, sd, wd, fd) = level.sofar.items q.0 q.1 in
            let same : d ≡ e = leads_once H d e hd h (sd ∙ q.2 ∙ sym se) in
            let t : weight e < w + 1 = omega (arith, ap weight same, wd) in t)
            place),
      );
  named = λ r m. absurd (omega (arith, m));
  lower = λ e h q. ⊎_elim
      (λ (k : weight e < w). table.lower e h k)
      (λ (k : w ≤ weight e).
      let held : Holds next (syndrome_number H e) = level.whole e h (omega (arith, k, q)) in
      subst (λ a. slice_index symbols a ≢ unknown) held.2 (table.named held.0 held.1))
      (cases_lt (weight e) w);
}

pub level_started : (H : Matrix) (w i c : ℕ) (frontier coordinates symbols next next_firsts : List ℕ) → 0 < w → i ≡ H.columns → next ≡ [] → next_firsts ≡ [] → IsTable H w coordinates symbols [] → IsAt H w i c 0 frontier coordinates symbols next next_firsts
level_started H w i c frontier coordinates symbols next next_firsts p ei en ef table = rw (ei, en, ef) (level_begins H w c frontier coordinates symbols p table)

pub level_ended : (H : Matrix) (w u i c : ℕ) (frontier coordinates symbols next next_firsts : List ℕ) → size H.field ≤ c → u ≡ w → i ≡ 0 → IsAt H w i c 0 frontier coordinates symbols next next_firsts → IsLevel H u next next_firsts
level_ended H w u i c frontier coordinates symbols next next_firsts b eu ei state = rw eu (level_ends H w c frontier coordinates symbols next next_firsts b (rw ei at state))

pub table_ended : (H : Matrix) (w u i c : ℕ) (frontier coordinates symbols next next_firsts : List ℕ) → size H.field ≤ c → u ≡ w → i ≡ 0 → IsAt H w i c 0 frontier coordinates symbols next next_firsts → IsTable H (u + 1) coordinates symbols []
table_ended H w u i c frontier coordinates symbols next next_firsts b eu ei state =
    rw eu (table_ends H w coordinates symbols next next_firsts state.table (level_ends H w c frontier coordinates symbols next next_firsts b (rw ei at state)))

-- the zero word

zero_leads : (H : Matrix) → Leads H (zero_word H.columns)
zero_leads H =
    let z = zero_word H.columns in
    record {
      word = IsWord_zero H.field H.columns;
      first = λ d w s. ⊎_elim
          (λ (p : 0 < weight d). inl (omega (arith, p, weight_zero_word H.columns)))
          (λ (p : weight d ≤ 0).
          let e : d ≡ z = zero_from_weight H.columns d w.long (omega (arith, p)) in
          subst (ComesNoLater z) (sym e) (inr (refl, at_most_reflexive z)))
          (cases_lt 0 (weight d));
    }

zero_first : (n : ℕ) → IsFirst n n (zero_word n)
zero_first n = record { starts = λ k m. index_zero_word n k; ends = λ z. refl }

single : (a r : ℕ) → r < 1 → slice_index (a ∷ []) r ≡ a
single a zero l = refl
single a (suc r) l = absurd (omega (arith, l))

first_level : (H : Matrix) → IsLevel H 0 (0 ∷ []) (H.columns ∷ [])
first_level H =
    let n = H.columns in
    let z = zero_word n in
    let here : (r : ℕ) → r < length {A = ℕ} (0 ∷ []) → slice_index (0 ∷ []) r ≡ 0 = λ r m. single 0 r m in
    record {
      sofar = record {
        count = refl;
        items = λ r m. (z, zero_leads H, zero_syndrome H n ∙ sym (here r m), weight_zero_word n, subst (λ a. IsFirst n a z) (sym (single n r m)) (zero_first n));
        closed = λ r e l m he se hl wl a. (0, omega arith, sym (ap (syndrome_number H) (zero_from_weight n l hl.word.long wl) ∙ zero_syndrome H n));
      };
      whole = λ e h w. (0, omega arith, sym (ap (syndrome_number H) (zero_from_weight n e h.word.long w) ∙ zero_syndrome H n));
    }

pub level_of_zero : (H : Matrix) (list firsts : List ℕ) → list ≡ 0 ∷ [] → firsts ≡ H.columns ∷ [] → IsLevel H 0 list firsts
level_of_zero H list firsts a b = rw (a, b) (first_level H)

pub some_coset : (H : Matrix) → 0 < coset_count H
some_coset H = omega (arith, syndrome_below H (zero_word H.columns))

known_first : (N s : ℕ) → s < N → slice_index (set (replicate N unknown) 0 0) s ≢ unknown → s ≡ 0
known_first N s b n = ⊎_elim (λ (k : s ≡ 0). k) (λ (k : s ≢ 0). absurd (n (get_or-set_other (replicate N unknown) 0 s 0 0 k ∙ get_or-replicate N s unknown 0 b))) (cases_eq s 0)

pub first_table : (H : Matrix) (coordinates symbols : List ℕ) → coordinates ≡ set (replicate (coset_count H) 0) 0 H.columns → symbols ≡ set (replicate (coset_count H) unknown) 0 0 → IsTable H 1 coordinates symbols []
first_table H coordinates symbols ec es =
    let n = H.columns in
    let z = zero_word n in
    let N = coset_count H in
    let some : 0 < N = omega (arith, syndrome_below H z) in
    let sym0 : slice_index symbols 0 ≡ 0 = ap (λ u. slice_index u 0) es ∙ get_or-set_same (replicate N unknown) 0 0 0 (omega (arith, some, length-replicate N unknown)) in
    let co0 : slice_index coordinates 0 ≡ n = ap (λ u. slice_index u 0) ec ∙ get_or-set_same (replicate N 0) 0 n 0 (omega (arith, some, length-replicate {A = ℕ} N 0)) in
    let step : IsStep H (slice_index coordinates 0) (slice_index symbols 0) z =
    subst (λ a. IsStep H a (slice_index symbols 0) z) (sym co0) (subst (λ a. IsStep H n a z) (sym sym0) (record { at = zero_first n; symbol = index_zero_word n n })) in
    record {
      coordinate_count = ap length ec ∙ length-set (replicate N 0) 0 n ∙ length-replicate N 0;
      symbol_count = ap length es ∙ length-set (replicate N unknown) 0 0 ∙ length-replicate N unknown;
      sound = λ s b k.
          let e : s ≡ 0 = known_first N s b (λ q. k (ap (λ u. slice_index u s) es ∙ q)) in (
            z,
            zero_leads H,
            zero_syndrome H n ∙ sym e,
            subst (λ a. IsStep H (slice_index coordinates a) (slice_index symbols a) z) (sym e) step,
            inl (let t : weight z < 1 = omega (arith, weight_zero_word n) in t),
          );
      named = λ r m. absurd (omega (arith, m));
      lower = λ e h w.
          let q : e ≡ z = zero_from_weight n e h.word.long (omega (arith, w)) in
          λ t. omega (arith, t, ap (slice_index symbols) (ap (syndrome_number H) q ∙ zero_syndrome H n), sym0);
    }

pub table_whole : (H : Matrix) (w : ℕ) (coordinates symbols : List ℕ) → H.columns < w → IsTable H w coordinates symbols [] → IsSteps H coordinates symbols
table_whole H w coordinates symbols b table = record {
  coordinate_count = table.coordinate_count;
  symbol_count = table.symbol_count;
  steps = λ e h.
      let s = syndrome_number H e in
      let (d, hd, sd, step, place) = table.sound s (syndrome_below H e) (table.lower e h (omega (arith, weight_at_most_length e, h.word.long, b))) in
      subst (IsStep H (slice_index coordinates s) (slice_index symbols s)) (leads_once H d e hd h sd) step;
}

abbrev pub AreKnown : List ℕ → Type 0
AreKnown symbols = (s : ℕ) → s < length symbols → slice_index symbols s ≢ unknown

pub table_found : (H : Matrix) (w : ℕ) (coordinates symbols : List ℕ) → AreKnown symbols → IsTable H w coordinates symbols [] → IsSteps H coordinates symbols
table_found H w coordinates symbols known table = record {
  coordinate_count = table.coordinate_count;
  symbol_count = table.symbol_count;
  steps = λ e h.
      let s = syndrome_number H e in
      let (d, hd, sd, step, place) = table.sound s (syndrome_below H e) (known s (omega (arith, syndrome_below H e, table.symbol_count))) in
      subst (IsStep H (slice_index coordinates s) (slice_index symbols s)) (leads_once H d e hd h sd) step;
}

pub level_whole : (H : Matrix) (w i j c : ℕ) (frontier coordinates symbols next next_firsts : List ℕ) → AreKnown symbols → IsAt H w j c 0 frontier coordinates symbols next next_firsts → IsAt H w i c 0 frontier coordinates symbols next next_firsts
level_whole H w i j c frontier coordinates symbols next next_firsts known state = record {
  table = state.table;
  level = state.level;
  tried = record {
    before = λ l h wl st m.
        let s = syndrome_number H l in
        let (d, hd, sd, step, place) = state.table.sound s (syndrome_below H l) (known s (omega (arith, syndrome_below H l, state.table.symbol_count))) in
        ⊎_elim
        (λ (y : weight d < w). absurd (omega (arith, y, ap weight (leads_once H d l hd h sd), wl)))
        (λ (y : Holds next s). y)
        place;
    here = λ l r h wl st q m f. absurd (omega (arith, m));
  };
}

pub ruleset first_laws = (first_table, some_coset)
