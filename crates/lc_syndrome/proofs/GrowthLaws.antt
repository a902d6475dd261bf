-- How the table grows by one word: a leader of the frontier with one more symbol, before its first one.
--   IsOffered ..             e is the leader at place p of the frontier, and 0 up to coordinate i, where a symbol c is put in
--   offered_word, ..         the word with the symbol: its length, its weight, its syndrome, where it begins
--   same_as_offered          a leader is this word if what is left of it without the symbol is e
--   tried_or_offered         each leader of its weight that comes no later is in the list, or is this word
--   offered_leads            if no leader has its syndrome yet, it is a leader
--   taken_in                 and then the table and the list have it
--   passed_marked            if some leader has its syndrome, nothing changes
--   passed_behind            nor if e begins at coordinate i or before it
use Rattle.std.proofs.Common.{◌≡◌, ◌≢◌, ℕ, suc, ◌+◌, ◌<◌, ◌≤◌, ◌⊎◌, inl, inr, ⊎_elim, List, [], ◌∷◌, ◌++◌, length, set, slice_index, refl, sym, ap, subst, ◌∙◌, arith, length-append}
use Rattle.std.proofs.lemmas.List.{length-set, get_or-set_same, get_or-set_other, set-set, set-get_or, get_or_append_left, get_or_at}
use Rattle.std.proofs.lemmas.Bool.{cases_lt, cases_eq}
use Rattle.lc_algebra.specs.Field.{size}
use Rattle.lc_algebra.specs.Word.{IsWord, weight, AtMost}
use Rattle.lc_algebra.specs.Matrix.{Matrix}
use Rattle.lc_syndrome.specs.Syndrome.{syndrome_number, coset_count, sum_number, unit}
use Rattle.lc_syndrome.specs.Leading.{Leads, HasLeaders, Starts, IsFirst, IsStep}
use Rattle.lc_syndrome.specs.Growth.{Holds, unknown, IsLevelSoFar, IsLevel, IsTable, IsTried, IsAt}
use Rattle.lc_syndrome.proofs.SyndromeLaws.{syndrome_below}
use Rattle.lc_syndrome.proofs.SymbolLaws.{word_changed, weight_put, weight_taken}
use Rattle.lc_syndrome.proofs.LeadLaws.{leads_once, syndrome_put, put_back, part_leads, ComesBefore, before_cases}

-- lists that get one more entry

pub holds_more : (list : List ℕ) (x s : ℕ) → Holds list s → Holds (list ++ x ∷ []) s
holds_more list x s h = (h.0, omega (arith, h.1, length-append list (x ∷ [])), get_or_append_left list (x ∷ []) 0 h.0 h.1 ∙ h.2)

pub holds_last : (list : List ℕ) (x : ℕ) → Holds (list ++ x ∷ []) x
holds_last list x = (length list, omega (arith, length-append list (x ∷ [])), get_or_at list x [] 0 (length list) refl)

earlier_or_last : (list : List ℕ) (x r : ℕ) → r < length (list ++ x ∷ []) → (r < length list) ⊎ (r ≡ length list)
earlier_or_last list x r l = ⊎_elim inl (λ (m : length list ≤ r). inr (omega (arith, m, l, length-append list (x ∷ [])))) (cases_lt r (length list))

pub item_below : (H : Matrix) (w p : ℕ) (list firsts : List ℕ) → IsLevel H w list firsts → p < length list → slice_index list p < coset_count H
item_below H w p list firsts level l =
    let (e, h, s, we, fe) = level.sofar.items p l in
    subst (λ a. a < coset_count H) s (syndrome_below H e)

-- the word that is offered

pub record IsOffered (H : Matrix) (w i c p : ℕ) (frontier e : List ℕ) : Type 0 where
  pub leads : Leads H e
  pub at : syndrome_number H e ≡ slice_index frontier p
  pub light : suc (weight e) ≡ w
  pub clear : Starts (suc i) e
  pub inside : i < H.columns
  pub small : c < size H.field
  pub nonzero : 0 < c

offered_zero : (H : Matrix) (w i c p : ℕ) (frontier e : List ℕ) → IsOffered H w i c p frontier e → slice_index e i ≡ 0
offered_zero H w i c p frontier e o = o.clear i (omega arith)

offered_long : (H : Matrix) (w i c p : ℕ) (frontier e : List ℕ) → IsOffered H w i c p frontier e → i < length e
offered_long H w i c p frontier e o = omega (arith, o.inside, o.leads.word.long)

offered_word : (H : Matrix) (w i c p : ℕ) (frontier e : List ℕ) → IsOffered H w i c p frontier e → IsWord H.field H.columns (set e i c)
offered_word H w i c p frontier e o = word_changed H.field H.columns i c e o.leads.word o.small

offered_weight : (H : Matrix) (w i c p : ℕ) (frontier e : List ℕ) → IsOffered H w i c p frontier e → weight (set e i c) ≡ w
offered_weight H w i c p frontier e o = weight_put i c e (offered_long H w i c p frontier e o) o.nonzero (offered_zero H w i c p frontier e o) ∙ o.light

offered_symbol : (H : Matrix) (w i c p : ℕ) (frontier e : List ℕ) → IsOffered H w i c p frontier e → slice_index (set e i c) i ≡ c
offered_symbol H w i c p frontier e o = get_or-set_same e i c 0 (offered_long H w i c p frontier e o)

offered_starts : (H : Matrix) (w i c p : ℕ) (frontier e : List ℕ) → IsOffered H w i c p frontier e → Starts i (set e i c)
offered_starts H w i c p frontier e o k l =
    let n : k ≢ i = λ q. omega (arith, l, q) in
    get_or-set_other e i k c 0 n ∙ o.clear k (omega (arith, l))

offered_step : (H : Matrix) (w i c p : ℕ) (frontier e : List ℕ) → IsOffered H w i c p frontier e → IsStep H i c (set e i c)
offered_step H w i c p frontier e o =
    record {
      at = record { starts = offered_starts H w i c p frontier e o; ends = λ z. absurd (omega (arith, z, offered_symbol H w i c p frontier e o, o.nonzero)) };
      symbol = offered_symbol H w i c p frontier e o;
    }

pub offered_syndrome : (H : Matrix) (w i c p : ℕ) (frontier e : List ℕ) → IsOffered H w i c p frontier e → syndrome_number H (set e i c) ≡ sum_number H.field (length H.rows) (slice_index frontier p) (syndrome_number H (unit H.columns i c))
offered_syndrome H w i c p frontier e o =
    syndrome_put H i c e o.leads.word o.inside o.small (offered_zero H w i c p frontier e o) ∙ ap (λ a. sum_number H.field (length H.rows) a (syndrome_number H (unit H.columns i c))) o.at

same_as_offered : (H : Matrix) (w i c p : ℕ) (frontier e l : List ℕ) → IsOffered H w i c p frontier e → Leads H l → slice_index l i ≡ c → slice_index frontier p ≡ syndrome_number H (set l i 0) → l ≡ set e i c
same_as_offered H w i c p frontier e l o h q s =
    let r = set l i 0 in
    let k : Leads H r = part_leads H i l h (omega (arith, q, o.nonzero)) in
    let t : r ≡ e = leads_once H r e k o.leads (sym s ∙ sym o.at) in
    sym (put_back i c l q) ∙ ap (λ u. set u i c) t

tried_or_offered : (H : Matrix) (v w i c p : ℕ) (frontier firsts next e l : List ℕ) → IsOffered H w i c p frontier e → IsLevel H v frontier firsts → suc v ≡ w → IsTried H w i c p frontier next → p < length frontier → Leads H l → weight l ≡ w → AtMost l (set e i c) → Holds next (syndrome_number H l) ⊎ (l ≡ set e i c)
tried_or_offered H v w i c p frontier firsts next e l o level more t inside h wl a =
    let g = set e i c in
    let gs : slice_index g i ≡ c = offered_symbol H w i c p frontier e o in
    let b : ComesBefore i l g = before_cases i l g (h.word.long ∙ sym (offered_word H w i c p frontier e o).long) (offered_starts H w i c p frontier e o) a in
    ⊎_elim
    (λ (q : slice_index l i < slice_index g i). inl (t.before l h wl b.0 (omega (arith, q, gs))))
    (λ (q : (slice_index l i ≡ slice_index g i) × AtMost (set l i 0) (set g i 0)).
    let r = set l i 0 in
    let lc : slice_index l i ≡ c = q.0 ∙ gs in
    let pl : 0 < slice_index l i = omega (arith, lc, o.nonzero) in
    let k : Leads H r = part_leads H i l h pl in
    let wr : weight r ≡ v = omega (arith, weight_taken i l pl, wl, more) in
    let ge : set g i 0 ≡ e = set-set e i c 0 ∙ ap (set e i) (sym (offered_zero H w i c p frontier e o)) ∙ set-get_or e i 0 in
    let m : (t : ℕ) × (t ≤ p) × (slice_index frontier t ≡ syndrome_number H r) = level.sofar.closed p e r inside o.leads o.at k wr (subst (AtMost r) ge q.1) in
    ⊎_elim
    (λ (s : m.0 < p). inl (t.here l m.0 h wl b.0 lc s m.2))
    (λ (s : p ≤ m.0).
    let here : m.0 ≡ p = omega (arith, s, m.1) in
    inr (same_as_offered H w i c p frontier e l o h lc (ap (slice_index frontier) (sym here) ∙ m.2)))
    (cases_lt m.0 p))
    b.1

offered_leads : (H : Matrix) (v w i c p : ℕ) (frontier firsts coordinates symbols next e : List ℕ) → HasLeaders H → IsOffered H w i c p frontier e → IsLevel H v frontier firsts → suc v ≡ w → p < length frontier → IsTable H w coordinates symbols next → IsTried H w i c p frontier next →
    slice_index symbols (syndrome_number H (set e i c)) ≡ unknown → Leads H (set e i c)
offered_leads H v w i c p frontier firsts coordinates symbols next e leaders o level more inside table t free =
    let g = set e i c in
    let gw : IsWord H.field H.columns g = offered_word H w i c p frontier e o in
    let (l, h, s) = leaders g gw in
    ⊎_elim
    (λ (q : weight l < weight g).
    absurd (table.lower l h (omega (arith, q, offered_weight H w i c p frontier e o)) (ap (slice_index symbols) s ∙ free)))
    (λ (q : (weight l ≡ weight g) × AtMost l g).
    ⊎_elim
    (λ (y : Holds next (syndrome_number H l)). absurd (table.named y.0 y.1 (ap (slice_index symbols) (y.2 ∙ s) ∙ free)))
    (λ (y : l ≡ g). subst (Leads H) y h)
    (tried_or_offered H v w i c p frontier firsts next e l o level more t inside h (q.0 ∙ offered_weight H w i c p frontier e o) q.1))
    (h.first g gw (sym s))

-- the list and the table with one more leader

level_taken : (H : Matrix) (w s i : ℕ) (next firsts g : List ℕ) → IsLevelSoFar H w next firsts → Leads H g → syndrome_number H g ≡ s → weight g ≡ w → IsFirst H.columns i g →
    ((l : List ℕ) → Leads H l → weight l ≡ w → AtMost l g → Holds next (syndrome_number H l) ⊎ (l ≡ g)) → IsLevelSoFar H w (next ++ s ∷ []) (firsts ++ i ∷ [])
level_taken H w s i next firsts g level h sg wg fg back =
    let old : (r : ℕ) → r < length next → slice_index (next ++ s ∷ []) r ≡ slice_index next r = λ r m. get_or_append_left next (s ∷ []) 0 r m in
    let last : slice_index (next ++ s ∷ []) (length next) ≡ s = get_or_at next s [] 0 (length next) refl in
    let last_first : slice_index (firsts ++ i ∷ []) (length next) ≡ i = get_or_at firsts i [] 0 (length next) level.count in
    record {
      count = omega (arith, level.count, length-append next (s ∷ []), length-append firsts (i ∷ []));
      items = λ r m. ⊎_elim
          (λ (k : r < length next).
          let (e, he, se, we, fe) = level.items r k in
          (e, he, se ∙ sym (old r k), we, subst (λ a. IsFirst H.columns a e) (sym (get_or_append_left firsts (i ∷ []) 0 r (omega (arith, k, level.count)))) fe))
          (λ (k : r ≡ length next).
          (g, h, sg ∙ sym (ap (slice_index (next ++ s ∷ [])) k ∙ last), wg, subst (λ a. IsFirst H.columns a g) (sym (ap (slice_index (firsts ++ i ∷ [])) k ∙ last_first)) fg))
          (earlier_or_last next s r m);
      closed = λ r e l m he se hl wl a. ⊎_elim
          (λ (k : r < length next).
          let (t, tr, ts) = level.closed r e l k he (se ∙ old r k) hl wl a in
          (t, tr, old t (omega (arith, tr, k)) ∙ ts))
          (λ (k : r ≡ length next).
          let same : e ≡ g = leads_once H e g he h (se ∙ ap (slice_index (next ++ s ∷ [])) k ∙ last ∙ sym sg) in
          ⊎_elim
          (λ (y : Holds next (syndrome_number H l)). (y.0, omega (arith, y.1, k), old y.0 y.1 ∙ y.2))
          (λ (y : l ≡ g). (length next, omega (arith, k), last ∙ sym sg ∙ ap (syndrome_number H) (sym y)))
          (back l hl wl (subst (AtMost l) same a)))
          (earlier_or_last next s r m);
    }

table_taken : (H : Matrix) (w s i c : ℕ) (coordinates symbols next g : List ℕ) → IsTable H w coordinates symbols next → Leads H g → syndrome_number H g ≡ s → IsStep H i c g → c < unknown → slice_index symbols s ≡ unknown → IsTable H w (set coordinates s i) (set symbols s c) (next ++ s ∷ [])
table_taken H w s i c coordinates symbols next g table h sg step small free =
    let below : s < coset_count H = subst (λ a. a < coset_count H) sg (syndrome_below H g) in
    let new_symbol : slice_index (set symbols s c) s ≡ c = get_or-set_same symbols s c 0 (omega (arith, below, table.symbol_count)) in
    let new_coordinate : slice_index (set coordinates s i) s ≡ i = get_or-set_same coordinates s i 0 (omega (arith, below, table.coordinate_count)) in
    let found : (t : ℕ) → slice_index symbols t ≢ unknown → slice_index (set symbols s c) t ≢ unknown = λ t n. ⊎_elim
    (λ (k : t ≡ s). λ z. omega (arith, z, ap (slice_index (set symbols s c)) k ∙ new_symbol, small))
    (λ (k : t ≢ s). λ z. n (sym (get_or-set_other symbols s t c 0 k) ∙ z))
    (cases_eq t s) in
    record {
      coordinate_count = length-set coordinates s i ∙ table.coordinate_count;
      symbol_count = length-set symbols s c ∙ table.symbol_count;
      sound = λ t b n. ⊎_elim
          (λ (k : t ≡ s). (
            g,
            h,
            sg ∙ sym k,
            subst (λ a. IsStep H a (slice_index (set symbols s c) t) g) (sym (ap (slice_index (set coordinates s i)) k ∙ new_coordinate))
                (subst (λ a. IsStep H i a g) (sym (ap (slice_index (set symbols s c)) k ∙ new_symbol)) step),
            inr (subst (Holds (next ++ s ∷ [])) (sym k) (holds_last next s)),
          ))
          (λ (k : t ≢ s).
          let ec : slice_index (set coordinates s i) t ≡ slice_index coordinates t = get_or-set_other coordinates s t i 0 k in
          let es : slice_index (set symbols s c) t ≡ slice_index symbols t = get_or-set_other symbols s t c 0 k in
          let (e, he, se, step_e, where_e) = table.sound t b (λ z. n (es ∙ z)) in (
            e,
            he,
            se,
            subst (λ a. IsStep H a (slice_index (set symbols s c) t) e) (sym ec) (subst (λ a. IsStep H (slice_index coordinates t) a e) (sym es) step_e),
            ⊎_elim inl (λ (y : Holds next t). inr (holds_more next s t y)) where_e,
          ))
          (cases_eq t s);
      named = λ r m. ⊎_elim
          (λ (k : r < length next). subst (λ a. slice_index (set symbols s c) a ≢ unknown) (sym (get_or_append_left next (s ∷ []) 0 r k)) (found (slice_index next r) (table.named r k)))
          (λ (k : r ≡ length next).
          λ z. omega (arith, small, new_symbol, ap (slice_index (set symbols s c)) (sym (ap (slice_index (next ++ s ∷ [])) k ∙ get_or_at next s [] 0 (length next) refl)) ∙ z))
          (earlier_or_last next s r m);
      lower = λ e he we. found (syndrome_number H e) (table.lower e he we);
    }

tried_taken : (H : Matrix) (w i c p s : ℕ) (frontier next e : List ℕ) → IsOffered H w i c p frontier e → syndrome_number H (set e i c) ≡ s → IsTried H w i c p frontier next → IsTried H w i c (p + 1) frontier (next ++ s ∷ [])
tried_taken H w i c p s frontier next e o sg t = record {
  before = λ l h wl st m. holds_more next s (syndrome_number H l) (t.before l h wl st m);
  here = λ l r h wl st q m f. ⊎_elim
      (λ (k : r < p). holds_more next s (syndrome_number H l) (t.here l r h wl st q k f))
      (λ (k : p ≤ r).
      let last : r ≡ p = omega (arith, m, k) in
      let same : l ≡ set e i c = same_as_offered H w i c p frontier e l o h q (ap (slice_index frontier) (sym last) ∙ f) in
      subst (Holds (next ++ s ∷ [])) (sym (ap (syndrome_number H) same ∙ sg)) (holds_last next s))
      (cases_lt r p);
}

offered_from_item : (H : Matrix) (v w i c p : ℕ) (frontier firsts : List ℕ) → IsLevel H v frontier firsts → suc v ≡ w → p < length frontier → i < H.columns → c < size H.field → 0 < c → i < slice_index firsts p → (e : List ℕ) × IsOffered H w i c p frontier e
offered_from_item H v w i c p frontier firsts level more inside li lc pc lf =
    let (e, h, s, we, fe) = level.sofar.items p inside in
    (e, record { leads = h; at = s; light = omega (arith, we, more); clear = λ k m. fe.starts k (omega (arith, m, lf)); inside = li; small = lc; nonzero = pc })

pub taken_in : (H : Matrix) (v w i c p s : ℕ) (frontier firsts coordinates symbols next next_firsts : List ℕ) → HasLeaders H → IsLevel H v frontier firsts → suc v ≡ w → p < length frontier → i < H.columns → c < size H.field → 0 < c → c < unknown → i < slice_index firsts p →
    s ≡ sum_number H.field (length H.rows) (slice_index frontier p) (syndrome_number H (unit H.columns i c)) → slice_index symbols s ≡ unknown → IsAt H w i c p frontier coordinates symbols next next_firsts →
    IsAt H w i c (p + 1) frontier (set coordinates s i) (set symbols s c) (next ++ s ∷ []) (next_firsts ++ i ∷ [])
taken_in H v w i c p s frontier firsts coordinates symbols next next_firsts leaders level more inside li lc pc small lf is free state =
    let (e, o) = offered_from_item H v w i c p frontier firsts level more inside li lc pc lf in
    let g = set e i c in
    let sg : syndrome_number H g ≡ s = offered_syndrome H w i c p frontier e o ∙ sym is in
    let h : Leads H g = offered_leads H v w i c p frontier firsts coordinates symbols next e leaders o level more inside state.table state.tried (ap (slice_index symbols) sg ∙ free) in
    let step : IsStep H i c g = offered_step H w i c p frontier e o in
    record {
      table = table_taken H w s i c coordinates symbols next g state.table h sg step small free;
      level = level_taken H w s i next next_firsts g state.level h sg (offered_weight H w i c p frontier e o) step.at
          (λ l hl wl a. tried_or_offered H v w i c p frontier firsts next e l o level more state.tried inside hl wl a);
      tried = tried_taken H w i c p s frontier next e o sg state.tried;
    }

pub passed_marked : (H : Matrix) (v w i c p s : ℕ) (frontier firsts coordinates symbols next next_firsts : List ℕ) → IsLevel H v frontier firsts → suc v ≡ w → p < length frontier → i < H.columns → c < size H.field → 0 < c → i < slice_index firsts p →
    s ≡ sum_number H.field (length H.rows) (slice_index frontier p) (syndrome_number H (unit H.columns i c)) → slice_index symbols s ≢ unknown → IsAt H w i c p frontier coordinates symbols next next_firsts →
    IsAt H w i c (p + 1) frontier coordinates symbols next next_firsts
passed_marked H v w i c p s frontier firsts coordinates symbols next next_firsts level more inside li lc pc lf is marked state =
    let (e, o) = offered_from_item H v w i c p frontier firsts level more inside li lc pc lf in
    let g = set e i c in
    let sg : syndrome_number H g ≡ s = offered_syndrome H w i c p frontier e o ∙ sym is in
    let below : s < coset_count H = subst (λ a. a < coset_count H) sg (syndrome_below H g) in
    let (d, hd, sd, step, place) = state.table.sound s below marked in
    record {
      table = state.table;
      level = state.level;
      tried = record {
        before = state.tried.before;
        here = λ l r h wl st q m f. ⊎_elim
            (λ (k : r < p). state.tried.here l r h wl st q k f)
            (λ (k : p ≤ r).
            let last : r ≡ p = omega (arith, m, k) in
            let same : l ≡ g = same_as_offered H w i c p frontier e l o h q (ap (slice_index frontier) (sym last) ∙ f) in
            let sl : syndrome_number H l ≡ s = ap (syndrome_number H) same ∙ sg in
            let one : d ≡ l = leads_once H d l hd h (sd ∙ sym sl) in
            ⊎_elim
            (λ (y : weight d < w). absurd (omega (arith, y, ap weight one, wl)))
            (λ (y : Holds next s). subst (Holds next) (sym sl) y)
            place)
            (cases_lt r p);
      };
    }

pub passed_behind : (H : Matrix) (v w i c p : ℕ) (frontier firsts coordinates symbols next next_firsts : List ℕ) → IsLevel H v frontier firsts → p < length frontier → i < H.columns → 0 < c → slice_index firsts p ≤ i → IsAt H w i c p frontier coordinates symbols next next_firsts →
    IsAt H w i c (p + 1) frontier coordinates symbols next next_firsts
passed_behind H v w i c p frontier firsts coordinates symbols next next_firsts level inside li pc lf state =
    let (e, he, se, we, fe) = level.sofar.items p inside in
    let j = slice_index firsts p in
    record {
      table = state.table;
      level = state.level;
      tried = record {
        before = state.tried.before;
        here = λ l r h wl st q m f. ⊎_elim
            (λ (k : r < p). state.tried.here l r h wl st q k f)
            (λ (k : p ≤ r).
            let last : r ≡ p = omega (arith, m, k) in
            let part : Leads H (set l i 0) = part_leads H i l h (omega (arith, q, pc)) in
            let same : e ≡ set l i 0 = leads_once H e (set l i 0) he part (se ∙ ap (slice_index frontier) (sym last) ∙ f) in
            let zero_there : slice_index (set l i 0) j ≡ 0 = ⊎_elim
            (λ (y : j ≡ i). ap (slice_index (set l i 0)) y ∙ get_or-set_same l i 0 0 (omega (arith, li, h.word.long)))
            (λ (y : j ≢ i). get_or-set_other l i j 0 0 y ∙ st j (omega (arith, lf, y)))
            (cases_eq j i) in
            absurd (omega (arith, li, lf, fe.ends (ap (λ u. slice_index u j) same ∙ zero_there))))
            (cases_lt r p);
      };
    }
