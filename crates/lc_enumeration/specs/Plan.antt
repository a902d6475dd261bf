-- The plan of a search: for which set of columns and which weight of message the words are looked at, in blocks of 4,096.
-- k is the dimension, q the size of the field, m the number of information sets; sets are numbered from 0.
--   phase_level m p, phase_set m p      the level and the set of phase p: level 1 for each set, then level 2, and so on
--   level_blocks k q w                  how many blocks the messages of level w make; the last one may be shorter
--   blocks_before k q m p               how many blocks the first p phases have
--   cut                                 2^40, which no block's number reaches
--   total k q m                         how many blocks the plan has
--   PlanPhase                           level, set, first block, and the block after the last one
--   phase_at k q m p                    phase p, cut at 2^40
--   IsInPhase k q m p b                 block b belongs to phase p
--   phase_ends k q m                    the blocks at which a phase ends that lies wholly below the cut, rising
--   block_length k q m p b              how many messages block b of phase p has: 4,096, or what is left of the level
--   block_messages k q m p b            the messages of block b of phase p
--   place_of b offset                   the place of a word: its block times 4,096 plus its offset in the block
--   plan_phases k q m                   the phases up to the first that the cut reaches, as the plan keeps them
--   phase_of k q m b                    the phase that block b belongs to; None past the plan's end
use Rattle.std.specs.Prelude.{ℕ, zero, suc, ◌+◌, ◌-◌, ◌*◌, ◌/◌, ◌%◌, ◌^◌, ◌<◌, ◌≤◌, min, nat_le, nat_lt, ◌&&◌, List, take, drop, filter, find, map, Option}
use Rattle.lc_algebra.specs.Span.{below}
use Rattle.lc_enumeration.specs.Message.{Message, messages, message_count}

unfoldable pub cut : ℕ
cut = 2 ^ 40

unfoldable pub phase_level : ℕ → ℕ → ℕ
phase_level m p = p / m + 1

unfoldable pub phase_set : ℕ → ℕ → ℕ
phase_set m p = p % m

unfoldable pub level_blocks : ℕ → ℕ → ℕ → ℕ
level_blocks k q w = (message_count k q w + 4095) / 4096

unfoldable pub blocks_before : ℕ → ℕ → ℕ → ℕ → ℕ
blocks_before k q m zero = 0
blocks_before k q m (suc p) = blocks_before k q m p + level_blocks k q (phase_level m p)

unfoldable pub total : ℕ → ℕ → ℕ → ℕ
total k q m = min (blocks_before k q m (k * m)) cut

pub record PlanPhase : Type 0 where
  pub level : ℕ
  pub set : ℕ
  pub start : ℕ
  pub end : ℕ

unfoldable pub phase_at : ℕ → ℕ → ℕ → ℕ → PlanPhase
phase_at k q m p = record {
  level = phase_level m p;
  set = phase_set m p;
  start = min (blocks_before k q m p) cut;
  end = min (blocks_before k q m (suc p)) cut;
}

pub record IsInPhase (k q m p b : ℕ) : Type 0 where
  pub phase : p < k * m
  pub after : (phase_at k q m p).start ≤ b
  pub before : b < (phase_at k q m p).end

unfoldable pub phase_ends : ℕ → ℕ → ℕ → List ℕ
phase_ends k q m = filter (λ end. nat_lt end cut) (map (λ p. blocks_before k q m (suc p)) (below (k * m)))

unfoldable pub block_length : ℕ → ℕ → ℕ → ℕ → ℕ → ℕ
block_length k q m p b = min 4096 (message_count k q (phase_level m p) - 4096 * (b - blocks_before k q m p))

unfoldable pub block_messages : ℕ → ℕ → ℕ → ℕ → ℕ → List Message
block_messages k q m p b = take 4096 (drop (4096 * (b - blocks_before k q m p)) (messages k q (phase_level m p)))

unfoldable pub place_of : ℕ → ℕ → ℕ
place_of b offset = b * 4096 + offset

unfoldable pub plan_phases : ℕ → ℕ → ℕ → List PlanPhase
plan_phases k q m = map (phase_at k q m) (filter (λ p. nat_lt (blocks_before k q m p) cut) (below (k * m)))

unfoldable pub phase_of : ℕ → ℕ → ℕ → ℕ → Option ℕ
phase_of k q m b = find (λ p. nat_le (phase_at k q m p).start b && nat_lt b (phase_at k q m p).end) (below (k * m))
