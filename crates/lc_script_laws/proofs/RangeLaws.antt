-- A true checkpoint of a script is in range, and is read back from its text.
--   digest_is_bytes      a digest is bytes
--   state_ranged         the best word after some blocks of a need
--   settled_ranged       the records of settled needs
--   true_in_range        a true checkpoint
--   true_read_back       so it is read back
use Rattle.std.proofs.Common.{◌≡◌, ◌≤◌, ◌<◌, ◌^◌, ◌++◌, ℕ, zero, suc, Bool, true, false, ◌==◌, if◌then◌else◌, List, [], ◌∷◌, length, slice_index, Some, refl, sym, ap, subst, ◌∙◌, arith, All}
use Rattle.std.specs.Prelude.{slice_get}
use Rattle.std.specs.List.{AllByRecursion}
use Rattle.std.specs.Int.{to_be_bytes, bytes_high_first, byte_at, w32}
use Rattle.std.proofs.lemmas.List.Elements.{All-nil, All-cons}
use Rattle.std.proofs.lemmas.Option.{slice_get_within}
use Rattle.sha2.specs.Sha256.{sha256, digest_bytes}
use Rattle.sha2.proofs.Facts256.{length-sha256}
use Rattle.hex.specs.Hex.{IsBytes}
use Rattle.lc_algebra.specs.Matrix.{Matrix}
use Rattle.lc_algebra.proofs.WordLaws.{weight_at_most_length}
use Rattle.lc_algebra.proofs.SpanLaws.{span_word}
use Rattle.lc_algebra.proofs.ReducedLaws.{reduced_independent}
use Rattle.lc_enumeration.specs.Search.{Found, answer}
use Rattle.lc_enumeration.specs.Records.{Progress, found_of, IsBestAt}
use Rattle.lc_enumeration.specs.Truth.{HasWord, answer_blocks}
use Rattle.lc_enumeration.proofs.SearchLaws.{fitting_place_small}
use Rattle.lc_infoset.proofs.SearchTruth.{best_is_word}
use Rattle.lc_infoset.proofs.FittingLaws.{underway_fits, settled_is_best}
use Rattle.lc_formats.specs.Checkpoint.{Checkpoint, current_of, IsProgress, IsInRange, point, checkpoint_text, checkpoint_in}
use Rattle.lc_formats.specs.Truth.{divisor_in, turn_allowance, IsTrueFor}
use Rattle.lc_formats.proofs.CheckpointBack.{checkpoint_back}
use Rattle.lc_formats.proofs.CheckpointSize.{text_fits}
use Rattle.lc_session_rules.proofs.TrueSteps.{AreSettled, parts_of}
use Rattle.lc_session_rules.proofs.GroundLaws.{answer_within, blocks_within, settled_within}
use Rattle.lc_script_laws.specs.Shapes.{IsCodeOfRows}
use Rattle.lc_script_laws.proofs.AskShapes.{AreCodesOfRows}

-- ---- digests

abbrev AreSmall : List ℕ → Type 0
AreSmall bytes = AllByRecursion (λ (b : ℕ). b < 256) bytes

small_bytes : (bytes : List ℕ) → AreSmall bytes → IsBytes bytes
small_bytes [] h i = omega arith
small_bytes (b ∷ bytes) h zero = h.0
small_bytes (b ∷ bytes) h (suc i) = small_bytes bytes h.1 i

small_append : (u v : List ℕ) → AreSmall u → AreSmall v → AreSmall (u ++ v)
small_append [] v h k = k
small_append (b ∷ u) v h k = (h.0, small_append u v h.1 k)

small_byte : (i n : ℕ) → byte_at i n < 256
small_byte zero n = omega arith
small_byte (suc i) n = omega arith

small_high_first : (k n : ℕ) → AreSmall (bytes_high_first k n)
small_high_first zero n = tt
small_high_first (suc k) n = (small_byte k n, small_high_first k n)

digest_small : (h : List ℕ) (n : ℕ) → AreSmall (digest_bytes h n)
unfolding digest_bytes
digest_small h zero = tt
digest_small h (suc n) = small_append (digest_bytes h n) (to_be_bytes w32 (slice_index h n)) (digest_small h n) (small_high_first 4 (slice_index h n))

pub digest_is_bytes : (m : List ℕ) → IsBytes (sha256 m)
unfolding sha256
digest_is_bytes m = small_bytes _ (digest_small _ 8)

-- ---- records

pub state_ranged : (C : Matrix) (budget : ℕ) (s : Progress) → IsCodeOfRows C → 0 < length C.rows → budget ≤ 2 ^ 40 → IsBestAt C s → s.blocks ≤ budget → IsProgress budget s
unfolding found_of
state_ranged C budget s shaped some small here few =
    let free = reduced_independent C.field C.columns C.rows shaped.rows shaped.reduced in
    let has : HasWord C (found_of s) = subst (λ (x : Found). HasWord C x) (sym here) (best_is_word C s.blocks shaped.rows free some) in
    let (w, at, inside, weighs) = has.word in
    let word = span_word C.field C.columns C.rows w shaped.rows inside in
    let light = weight_at_most_length w in
    record {
      done = few;
      nonzero = omega (arith, has.nonzero);
      light = omega (arith, weighs, light, word.long, shaped.long);
      near = fitting_place_small C s.blocks (found_of s) (underway_fits C s some here) (omega (arith, few, small));
    }

pub settled_ranged : (divisor : Matrix → ℕ) (budget : ℕ) (needs : List Matrix) (settled : List Progress) → budget ≤ 2 ^ 40 → AreCodesOfRows needs → ((i : ℕ) (C : Matrix) → slice_get needs i ≡ Some C → 0 < length C.rows) → AreSettled divisor budget needs settled → All (IsProgress budget) settled
settled_ranged divisor budget needs [] small shaped rows all = All-nil (IsProgress budget)
settled_ranged divisor budget [] (s ∷ settled) small shaped rows all = absurd all
settled_ranged divisor budget (C ∷ needs) (s ∷ settled) small shaped rows all =
    let some = rows 0 C refl in
    All-cons (IsProgress budget) s settled
    (state_ranged C budget s shaped.0 some small (settled_is_best (divisor C) C budget s some all.0) (answer_within (divisor C) C budget s some all.0))
    (settled_ranged divisor budget needs settled small shaped.1 (λ i D at. rows (suc i) D at) all.1)

pub need_is_code : (needs : List Matrix) (i : ℕ) (C : Matrix) → AreCodesOfRows needs → slice_get needs i ≡ Some C → IsCodeOfRows C
need_is_code [] i C h e = absurd (let f = e in cc)
need_is_code (D ∷ needs) zero C h e = let same : D ≡ C = (let f = e in cc) in subst IsCodeOfRows same h.0
need_is_code (D ∷ needs) (suc i) C h e = need_is_code needs i C h.1 e

-- ---- checkpoints

allowed : (version : ℕ) → turn_allowance version ≤ 2 ^ 57
unfolding turn_allowance
allowed version = by (version == 1)
  where
    by : (b : Bool) → (if b then 0 else 2 ^ 57) ≤ 2 ^ 57
    by true = omega arith
    by false = omega arith

current_within : (q : Checkpoint) (a b : ℕ) → q.blocks ≤ a → a ≤ b → (current_of q).blocks ≤ b
unfolding current_of
current_within q a b x y = omega (arith, x, y)

pub true_in_range : (needs : List Matrix) (bytes : List ℕ) (budget : ℕ) (p : Checkpoint) → budget ≤ 2 ^ 40 → AreCodesOfRows needs → ((i : ℕ) (C : Matrix) → slice_get needs i ≡ Some C → 0 < length C.rows) → length needs < 70000 → IsTrueFor needs (sha256 bytes) budget p → IsInRange p × (length p.settled < 70000)
true_in_range needs bytes budget p small shaped rows few holds =
    let parts = parts_of needs (sha256 bytes) budget p holds in
    let (C, at, begun, within, here) = parts.current in
    let inside = slice_get_within needs (length p.settled) C at in
    let some = rows (length p.settled) C at in
    let blocks = blocks_within (divisor_in p.version C) C budget some in
    let sum_of = settled_within (divisor_in p.version) budget needs p.settled small rows parts.settled in
    let allowance = allowed p.version in
    let settled = settled_ranged (divisor_in p.version) budget needs p.settled small shaped rows parts.settled in
    let current : IsProgress budget (current_of p) = state_ranged C budget (current_of p) (need_is_code needs (length p.settled) C shaped at) some small here (current_within p (answer_blocks (answer (divisor_in p.version C) C budget)) budget within blocks) in (
      record {
        known = holds.known;
        digest = ap (λ (d : List ℕ). length d) holds.script ∙ length-sha256 bytes;
        bytes = subst IsBytes (sym holds.script) (digest_is_bytes bytes);
        small = omega (arith, holds.budget_is, small);
        early = omega (arith, holds.turn, sum_of, within, blocks, small, allowance, inside, few);
        few = omega (arith, inside, few);
        records = subst (λ (n : ℕ). All (IsProgress n) p.settled) (sym holds.budget_is) settled;
        current = subst (λ (n : ℕ). IsProgress n (current_of p)) (sym holds.budget_is) current;
      },
      omega (arith, inside, few),
    )

pub true_read_back : (needs : List Matrix) (bytes : List ℕ) (budget : ℕ) (p : Checkpoint) → budget ≤ 2 ^ 40 → AreCodesOfRows needs → ((i : ℕ) (C : Matrix) → slice_get needs i ≡ Some C → 0 < length C.rows) → length needs < 70000 → IsTrueFor needs (sha256 bytes) budget p → checkpoint_in (checkpoint_text p) ≡ point p
true_read_back needs bytes budget p small shaped rows few holds =
    let r = true_in_range needs bytes budget p small shaped rows few holds in
    checkpoint_back p r.0 (text_fits p r.0 r.1)
