use Rattle.std.proofs.Common.{◌≡◌, ◌≢◌, ◌+◌, ◌<◌, ℕ, List, length, set, slice_index, get_or, subst, sym, ap, ap₂, ◌∙◌, arith}
use Rattle.lc_algebra.specs.Field.{size, add, neg}
use Rattle.lc_algebra.specs.Matrix.{Matrix}
use Rattle.lc_field.proofs.LogarithmLaws.{read_is}
use Rattle.lc_syndrome.specs.Syndrome.{syndrome_number, sum_number, unit}
use Rattle.lc_syndrome.specs.Growth.{IsSteps}
use Rattle.lc_syndrome.proofs.DecodingLaws.{IsRest, rest_start, rest_below, rest_coordinate, rest_symbol, rest_more, rest_empty, rest_done}
use Rattle.lc_syndrome.proofs.steps.Steps.correct.Goals as goal

-- what is read at a syndrome
symbol_read : (H : Matrix) (number t rest a : ℕ) (old word coordinates symbols : List ℕ) → IsSteps H coordinates symbols → IsRest H number t rest old word → a ≡ get_or symbols rest a → a ≡ slice_index symbols rest
symbol_read H number t rest a old word coordinates symbols s r e = read_is symbols rest a e (omega (arith, rest_below H number t rest old word r, s.symbol_count))

coordinate_read : (H : Matrix) (number t rest a : ℕ) (old word coordinates symbols : List ℕ) → IsSteps H coordinates symbols → IsRest H number t rest old word → a ≡ get_or coordinates rest a → a ≡ slice_index coordinates rest
coordinate_read H number t rest a old word coordinates symbols s r e = read_is coordinates rest a e (omega (arith, rest_below H number t rest old word r, s.coordinate_count))

inside_word : (H : Matrix) (number t rest i a : ℕ) (old word coordinates symbols : List ℕ) → IsSteps H coordinates symbols → IsRest H number t rest old word → a ≡ get_or symbols rest a → i ≡ get_or coordinates rest i → a ≢ 0 → i < H.columns
inside_word H number t rest i a old word coordinates symbols s r ea ei n =
    let ra = symbol_read H number t rest a old word coordinates symbols s r ea in
    let ri = coordinate_read H number t rest i old word coordinates symbols s r ei in
    subst (λ k. k < H.columns) (sym ri) (rest_coordinate H number t rest old word coordinates symbols s r (λ z. n (ra ∙ z)))

pub loop-taken-init : goal.loop-taken-init
loop-taken-init c = rest_start c.args.syndromes.now c.args.number c.args.word.now c.requires.leader c.requires.word

pub returns-then-symbol-eq0 : goal.returns-then-symbol-eq0
returns-then-symbol-eq0 c = record {
  is = rest_empty c.args.syndromes.now c.args.number c.loop-taken._taken c.loop-taken.rest c.args.word.now c.loop-taken.word c.args.self.now.coordinates.items c.args.self.now.symbols.items c.requires.steps c.loop-taken.invariant
      (sym (symbol_read c.args.syndromes.now c.args.number c.loop-taken._taken c.loop-taken.rest c.index-symbol.result.now c.args.word.now c.loop-taken.word c.args.self.now.coordinates.items c.args.self.now.symbols.items c.requires.steps c.loop-taken.invariant c.index-symbol.ensures) ∙ c.if-symbol-eq0.true);
}

pub neg-negative-requires : goal.neg-negative-requires
neg-negative-requires c = record {
  element =
      let read = symbol_read c.args.syndromes.now c.args.number c.loop-taken._taken c.loop-taken.rest c.index-symbol.result.now c.args.word.now c.loop-taken.word c.args.self.now.coordinates.items c.args.self.now.symbols.items c.requires.steps c.loop-taken.invariant c.index-symbol.ensures in
      subst (λ f. c.index-symbol.result.now < size f) (sym c.field-field.ensures.is)
      (subst (λ a. a < size c.args.syndromes.now.field) (sym read) (rest_symbol c.args.syndromes.now c.args.number c.loop-taken._taken c.loop-taken.rest c.args.word.now c.loop-taken.word c.args.self.now.coordinates.items c.args.self.now.symbols.items c.requires.steps c.loop-taken.invariant));
}

pub bounds-word-coordinate : goal.bounds-word-coordinate
bounds-word-coordinate c =
    omega (arith, c.loop-taken.invariant.fits.long, inside_word c.args.syndromes.now c.args.number c.loop-taken._taken c.loop-taken.rest c.index.result.now c.index-symbol.result.now c.args.word.now c.loop-taken.word c.args.self.now.coordinates.items c.args.self.now.symbols.items c.requires.steps c.loop-taken.invariant c.index-symbol.ensures c.index.ensures c.if-symbol-eq0.false)

pub bounds-word-coordinate-in-loop-taken : goal.bounds-word-coordinate-in-loop-taken
bounds-word-coordinate-in-loop-taken c =
    omega (arith, c.loop-taken.invariant.fits.long, inside_word c.args.syndromes.now c.args.number c.loop-taken._taken c.loop-taken.rest c.index.result.now c.index-symbol.result.now c.args.word.now c.loop-taken.word c.args.self.now.coordinates.items c.args.self.now.symbols.items c.requires.steps c.loop-taken.invariant c.index-symbol.ensures c.index.ensures c.if-symbol-eq0.false)

pub of_symbol-requires-clause-inside : goal.of_symbol-requires-clause-inside
of_symbol-requires-clause-inside c =
    inside_word c.args.syndromes.now c.args.number c.loop-taken._taken c.loop-taken.rest c.index.result.now c.index-symbol.result.now c.args.word.now c.loop-taken.word c.args.self.now.coordinates.items c.args.self.now.symbols.items c.requires.steps c.loop-taken.invariant c.index-symbol.ensures c.index.ensures c.if-symbol-eq0.false

pub loop-taken-preserved : goal.loop-taken-preserved
loop-taken-preserved c =
    let H = c.args.syndromes.now in
    let co = c.args.self.now.coordinates.items in
    let sy = c.args.self.now.symbols.items in
    let r = c.loop-taken.invariant in
    let i = c.index.result.now in
    let a = c.index-symbol.result.now in
    let t = c.loop-taken._taken in
    let w = c.loop-taken.word in
    let old = c.args.word.now in
    let ra : a ≡ slice_index sy c.loop-taken.rest = symbol_read H c.args.number t c.loop-taken.rest a old w co sy c.requires.steps r c.index-symbol.ensures in
    let ri : i ≡ slice_index co c.loop-taken.rest = coordinate_read H c.args.number t c.loop-taken.rest i old w co sy c.requires.steps r c.index.ensures in
    let negative : c.neg-negative.result ≡ neg H.field a = c.neg-negative.ensures.is ∙ ap (λ f. neg f a) c.field-field.ensures.is in
    let symbol : c.add.result ≡ add H.field (slice_index w i) (neg H.field a) = c.add.ensures.is ∙ ap₂ (λ f d. add f (slice_index w i) d) c.field-field.ensures.is negative in
    let number : c.sum-rest.result ≡ sum_number H.field (length H.rows) c.loop-taken.rest (syndrome_number H (unit H.columns i (neg H.field a))) =
    c.sum-rest.ensures.is ∙ ap (sum_number H.field (length H.rows) c.loop-taken.rest) (c.of_symbol.ensures.is ∙ ap (λ d. syndrome_number H (unit H.columns i d)) negative) in
    let more = rest_more H c.args.number t c.loop-taken.rest i a old w co sy c.requires.steps r ri ra c.if-symbol-eq0.false in
    subst (λ s. IsRest H c.args.number (t + 1) s old (set w i c.add.result)) (sym number)
    (subst (λ d. IsRest H c.args.number (t + 1) (sum_number H.field (length H.rows) c.loop-taken.rest (syndrome_number H (unit H.columns i (neg H.field a)))) old (set w i d)) (sym symbol) more)

pub returns : goal.returns
returns c = record {
  is = rest_done c.args.syndromes.now c.args.number c.loop-taken._taken c.loop-taken.rest c.args.word.now c.loop-taken.word c.loop-taken.invariant (omega (arith, c.loop-taken-test.false, c.requires.word.long));
}
