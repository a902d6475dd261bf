-- Lists of words as planes, and what holds of their symbols.
--   symbols_long                 how many these are
--   IsOver, word_at              a word of the list: over the code's field, with its symbols
--   read_at, over_at             a word that is read at a place
--   before_cut, after_cut        a word before the place at which the list is cut, and the one there
--   cut_put, planes_put, over_put      another word written over the one there
--   over_pushed, symbols_pushed      a word more
--   same_symbols                 words as planes with the symbols of some words
use Rattle.std.proofs.Common.{◌≡◌, ℕ, ◌+◌, ◌<◌, List, [], ◌∷◌, ◌++◌, set, length, slice_index_or, refl, sym, ap, subst, ◌∙◌, ⊎_elim, arith}
use Rattle.std.proofs.Math.ListN.{get_or-append}
use Rattle.std.proofs.lemmas.Bool.{cases_lt}
use Rattle.std.proofs.lemmas.List.{get_or-append-add, get_or-map, get_or_push, ext_get_or, length-map, map-append, map-set}
use Rattle.std.proofs.lemmas.List.Elements.{All-get_or, All-set, All-append}
use Rattle.lc_algebra.specs.Matrix.{Matrix}
use Rattle.lc_planes.specs.Planes.{PlanesState}
use Rattle.lc_kernel.specs.PlaneSums.{symbols_in, AreOver}

abbrev symbols : PlanesState → List ℕ
symbols p = p.symbols

pub symbols_long : (ps : List PlanesState) → length (symbols_in ps) ≡ length ps
symbols_long ps = length-map ps symbols

-- a word as planes is over the code's field and has these symbols
pub record IsOver (C : Matrix) (w : List ℕ) (p : PlanesState) : Type 0 where
  pub field : p.field ≡ C.field
  pub symbols : p.symbols ≡ w

pub word_at : (C : Matrix) (ps : List PlanesState) (i : ℕ) (d : PlanesState) → AreOver C ps → i < length ps → IsOver C (slice_index_or (symbols_in ps) i []) (slice_index_or ps i d)
word_at C ps i d h l = record { field = All-get_or (λ (q : PlanesState). q.field ≡ C.field) ps i d l h; symbols = sym (get_or-map symbols ps i d [] l) }

pub read_at : (ps : List PlanesState) (i : ℕ) (p : PlanesState) → i < length ps → p ≡ slice_index_or ps i p → p.symbols ≡ slice_index_or (symbols_in ps) i p.symbols
read_at ps i p l e = ap symbols e ∙ sym (get_or-map symbols ps i p p.symbols l)

pub over_at : (C : Matrix) (ps : List PlanesState) (i : ℕ) (p : PlanesState) → AreOver C ps → i < length ps → p ≡ slice_index_or ps i p → p.field ≡ C.field
over_at C ps i p h l e = ap (λ (q : PlanesState). q.field) e ∙ h i p l

put_between : {X : Type 0} (a b : List X) (v : X) → a ++ set b 0 v ≡ set (a ++ b) (length a) v
put_between [] b v = refl
put_between (x ∷ a) b v = ap (λ z. x ∷ z) (put_between a b v)

-- a list of words that a split has in two parts
pub before_cut : (C : Matrix) (ws a b : List PlanesState) (i : ℕ) (d : PlanesState) → AreOver C ws → ws ≡ a ++ b → i < length a → i < length ws → IsOver C (slice_index_or (symbols_in ws) i []) (slice_index_or a i d)
before_cut C ws a b i d h e l m =
    let same : slice_index_or a i d ≡ slice_index_or ws i d = sym (get_or-append a b d i l) ∙ ap (λ z. slice_index_or z i d) (sym e) in
    subst (IsOver C (slice_index_or (symbols_in ws) i [])) (sym same) (word_at C ws i d h m)

pub after_cut : (C : Matrix) (ws a b : List PlanesState) (i : ℕ) (d : PlanesState) → AreOver C ws → ws ≡ a ++ b → length a ≡ i → i < length ws → IsOver C (slice_index_or (symbols_in ws) i []) (slice_index_or b 0 d)
after_cut C ws a b i d h e m l =
    let at : length a + 0 ≡ i = omega (arith, m) in
    let same : slice_index_or b 0 d ≡ slice_index_or ws i d = sym (get_or-append-add a b 0 d) ∙ ap (λ j. slice_index_or (a ++ b) j d) at ∙ ap (λ z. slice_index_or z i d) (sym e) in
    subst (IsOver C (slice_index_or (symbols_in ws) i [])) (sym same) (word_at C ws i d h l)

pub cut_put : (ws a b : List PlanesState) (i : ℕ) (v : PlanesState) → ws ≡ a ++ b → length a ≡ i → a ++ set b 0 v ≡ set ws i v
cut_put ws a b i v e m = put_between a b v ∙ rw (m, e) refl

pub planes_put : (ps qs : List PlanesState) (i : ℕ) (v : PlanesState) → qs ≡ set ps i v → symbols_in qs ≡ set (symbols_in ps) i v.symbols
planes_put ps qs i v e = ap symbols_in e ∙ map-set symbols ps i v

pub over_put : (C : Matrix) (ps qs : List PlanesState) (i : ℕ) (v : PlanesState) → qs ≡ set ps i v → v.field ≡ C.field → AreOver C ps → AreOver C qs
over_put C ps qs i v e f h = rw e (All-set (λ (q : PlanesState). q.field ≡ C.field) ps i v f h)

-- a word more
pub over_pushed : (C : Matrix) (ps qs : List PlanesState) (v : PlanesState) → qs ≡ ps ++ v ∷ [] → v.field ≡ C.field → AreOver C ps → AreOver C qs
over_pushed C ps qs v e f h = rw e (All-append (λ (q : PlanesState). q.field ≡ C.field) ps (v ∷ []) h (λ k d l. let z : k ≡ 0 = omega (arith, l) in rw z f))

pub symbols_pushed : (w : ℕ → List ℕ) (ps qs : List PlanesState) (i : ℕ) (v : PlanesState) → qs ≡ ps ++ v ∷ [] → length ps ≡ i → v.symbols ≡ w i → ((t : ℕ) → t < i → slice_index_or (symbols_in ps) t [] ≡ w t) → (t : ℕ) → t < i + 1 → slice_index_or (symbols_in qs) t [] ≡ w t
symbols_pushed w ps qs i v e long is h t l =
    let grown : symbols_in qs ≡ symbols_in ps ++ v.symbols ∷ [] = ap symbols_in e ∙ map-append symbols ps (v ∷ []) in
    let many = symbols_long ps in
    ⊎_elim
    (λ a. ap (λ z. slice_index_or z t []) grown ∙ get_or-append (symbols_in ps) (v.symbols ∷ []) [] t (omega (arith, a, many, long)) ∙ h t a)
    (λ a.
    let same : t ≡ i = omega (arith, a, l) in
    ap (λ z. slice_index_or z t []) grown ∙ get_or_push (symbols_in ps) v.symbols [] t (many ∙ long ∙ sym same) ∙ is ∙ ap w (sym same))
    (cases_lt t i)

pub same_symbols : (ps : List PlanesState) (ws : List (List ℕ)) → length ps ≡ length ws → ((t : ℕ) → t < length ws → slice_index_or (symbols_in ps) t [] ≡ slice_index_or ws t []) → symbols_in ps ≡ ws
same_symbols ps ws e h = ext_get_or [] (symbols_in ps) ws (symbols_long ps ∙ e) (λ t l. h t (omega (arith, l, symbols_long ps, e)))
