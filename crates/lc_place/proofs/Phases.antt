-- The phase of a block.
--   total_is, total_few       the blocks of a plan, from the table of the first blocks of its levels
--   Stands, stands            the phase of a block, from the numbers of its level in the tables
--   Ranked, ranked            the number of a block's first message in its level
--   BlockCount, block_count   how many messages a block has, from the table of counts
--   StartParts, parts_at      the places of the support and of the coefficients of a message
--   FoundPhase, found_rank, any_rank      a block with the phase that was found for it
--   counted, Started, started             what the code does at that phase
--   going, Gone, gone         what it does at a rank of a level
use Rattle.std.proofs.Common.{◌≡◌, ℕ, zero, suc, ◌+◌, ◌-◌, ◌*◌, ◌/◌, ◌%◌, ◌^◌, ◌<◌, ◌≤◌, min, List, Some, length, get_or, subst, refl, ap, sym, ◌∙◌, arith, inl, inr}
use Rattle.std.specs.Prelude.{slice_get}
use Rattle.std.specs.List.{Contains}
use Rattle.std.proofs.Math.Nat.{div-eq_of_lt, mod-eq_of_lt, one-le-pow, div-le_self}
use Rattle.std.proofs.lemmas.Bool.{cases_lt}
use Rattle.std.proofs.lemmas.Nat.{div_below, div-add-mod', mod_below, div-mul-add, mod-mul-add, mul-add-lt}
use Rattle.lc_enumeration.specs.Message.{Message, choose, message_count, supports_from, leading_lists, messages}
use Rattle.lc_enumeration.specs.Plan.{cut, block_length, blocks_before, level_blocks, phase_at, phase_level, phase_set, PlanPhase, IsInPhase, total}
use Rattle.lc_place.specs.declared.phase.Phase.{Phase}
use Rattle.lc_place.specs.Place.{PlanSize, plan_phase}
use Rattle.lc_place.specs.Tables.{IsTable, start_entry, count_entry, power_entry}
use Rattle.lc_enumeration.proofs.PlanLaws.{cut_is, within, one_phase}
use Rattle.lc_place.proofs.Counting.{blocks_in_level, blocks_of_level, level_is}
use Rattle.lc_place.proofs.Supports.{support_shape}
use Rattle.lc_place.proofs.Messages.{message_of, leading_shape, to_contains}
use Rattle.lc_place.proofs.Unranking.{divided, message_from_parts}

pub total_is : (k q m a : ℕ) → a ≡ start_entry k q m k → a ≡ total k q m
unfolding total
total_is k q m a e = e

pub total_few : (k q m a : ℕ) → a ≡ start_entry k q m k → a ≤ 2 ^ 40
total_few k q m a e = let c : cut ≡ 2 ^ 40 = cut_is in omega arith

-- the same for the true number of messages n of the level, with blocks l
by_true : (k q m e b l s : ℕ) → l ≡ level_blocks k q (e + 1) → 1 ≤ l → e < k → s ≡ (b - blocks_before k q m (e * m)) / l → blocks_before k q m (e * m) ≤ b → b < blocks_before k q m ((e + 1) * m) → b < 2 ^ 40 → (IsInPhase k q m (e * m + s) b) × (s < m) × (phase_level m (e * m + s) ≡ e + 1) × (phase_set m (e * m + s) ≡ s) × ((phase_at k q m (e * m + s)).start ≡ b - (b - blocks_before k q m (e * m)) % l) × ((phase_at k q m (e * m + s)).end ≡ min (b - (b - blocks_before k q m (e * m)) % l + l) (2 ^ 40))
unfolding phase_at phase_level phase_set
by_true k q m e b l s le some inside se after before small =
    let c : cut ≡ 2 ^ 40 = cut_is in
    let next : blocks_before k q m ((e + 1) * m) ≡ blocks_before k q m (e * m) + m * l = rw le (blocks_of_level k q m e) in
    let few : s < m = rw se (div_below (b - blocks_before k q m (e * m)) l m some (omega (arith, next, before, after))) in
    let split : s * l + (b - blocks_before k q m (e * m)) % l ≡ b - blocks_before k q m (e * m) = rw se (div-add-mod' (b - blocks_before k q m (e * m)) l) in
    let rest : (b - blocks_before k q m (e * m)) % l < l = mod_below (b - blocks_before k q m (e * m)) l some in
    let here : blocks_before k q m (e * m + s) ≡ blocks_before k q m (e * m) + s * l = rw le (blocks_in_level k q m e s (omega (arith, few))) in
    let there : blocks_before k q m (suc (e * m + s)) ≡ blocks_before k q m (e * m) + s * l + l = (let f : suc (e * m + s) ≡ e * m + (s + 1) = omega arith in rw (f, le) (omega (arith, blocks_in_level k q m e (s + 1) (omega (arith, few))))) in
    let level : (e * m + s) / m ≡ e = div-mul-add e m s few in
    let set : (e * m + s) % m ≡ s = mod-mul-add e m s few in
    let start : min (blocks_before k q m (e * m + s)) cut ≡ b - (b - blocks_before k q m (e * m)) % l = omega (arith, here, split, rest, after, small, c) in
    let end : min (blocks_before k q m (suc (e * m + s))) cut ≡ min (b - (b - blocks_before k q m (e * m)) % l + l) (2 ^ 40) = omega (arith, there, split, rest, after, small, c) in (
      record {
        phase = omega (arith, mul-add-lt e m s k inside few);
        after = omega (arith, start, rest);
        before = omega (arith, end, rest, small);
      },
      few,
      omega (arith, level),
      set,
      start,
      end,
    )

-- where a block is, from the numbers of its level as the plan keeps them
pub record Stands (k q m e block a c s : ℕ) : Type 0 where
  pub some : 1 ≤ (c + 4095) / 4096
  pub phase : IsInPhase k q m (e * m + s) block
  pub set : s < m
  pub is : phase_at k q m (e * m + s) ≡ record { level = e + 1; set = s; start = block - (block - a) % ((c + 4095) / 4096); end = min (block - (block - a) % ((c + 4095) / 4096) + (c + 4095) / 4096) (2 ^ 40) }

phase_same : (l s a b l' s' a' b' : ℕ) → l ≡ l' → s ≡ s' → a ≡ a' → b ≡ b' → ◌≡◌ {A = PlanPhase} (record { level = l; set = s; start = a; end = b }) (record { level = l'; set = s'; start = a'; end = b' })
phase_same l s a b l' s' a' b' e f g h = rw (e, f, g, h) refl

phase_is : (k q m p l s a b : ℕ) → phase_level m p ≡ l → phase_set m p ≡ s → (phase_at k q m p).start ≡ a → (phase_at k q m p).end ≡ b → phase_at k q m p ≡ record { level = l; set = s; start = a; end = b }
unfolding phase_at
phase_is k q m p l s a b e f g h = phase_same _ _ _ _ l s a b e f g h

pub record SameBlocks (r l b : ℕ) : Type 0 where
  pub some : 1 ≤ b
  pub quotient : r / b ≡ r / l
  pub rest : r % b ≡ r % l
  pub end : (x : ℕ) → min (x + b) (2 ^ 40) ≡ min (x + l) (2 ^ 40)

-- the number of blocks of a level, from its number of messages n as far as it is counted
same_blocks : (r n l b : ℕ) → r < 2 ^ 40 → l ≡ (n + 4095) / 4096 → 1 ≤ l → b ≡ (min n (2 ^ 53) + 4095) / 4096 → SameBlocks r l b
same_blocks r n l b small e some f =
    elim (cases_lt n (2 ^ 53)) [
      | inl i ↦ (
          let d : min n (2 ^ 53) ≡ n = omega (arith, i) in
          let same : b ≡ l = f ∙ ap (λ x. (x + 4095) / 4096) d ∙ sym e in
          rw same (record { some = some; quotient = refl; rest = refl; end = λ x. refl }))
      | inr i ↦ (
          let d : min n (2 ^ 53) ≡ 2 ^ 53 = omega (arith, i) in
          let whole : b ≡ 2 ^ 41 = omega (arith, f, d) in
          let large : 2 ^ 41 ≤ l = omega (arith, i, e) in
          let left : r < b = omega (arith, small, whole) in
          let right : r < l = omega (arith, small, large) in
          record {
            some = omega (arith, whole);
            quotient = div-eq_of_lt left ∙ sym (div-eq_of_lt right);
            rest = mod-eq_of_lt left ∙ sym (mod-eq_of_lt right);
            end = λ x. omega (arith, whole, large);
          })
    ]

at_least_one : (m l : ℕ) → 0 < m * l → 1 ≤ l
at_least_one m zero h = absurd (omega (arith, h))
at_least_one m (suc l) h = omega arith

pub stands : (k q m e block a b c s : ℕ) → e < k → a ≡ start_entry k q m e → b ≡ start_entry k q m (e + 1) → c ≡ count_entry k q e → a ≤ block → block < b → s ≡ (block - a) / ((c + 4095) / 4096) → Stands k q m e block a c s
stands k q m e block a b c s inside ae be ce after before se =
    let cut' : cut ≡ 2 ^ 40 = cut_is in
    let small : block < 2 ^ 40 = omega (arith, before, be, cut') in
    let first : blocks_before k q m (e * m) ≡ a = omega (arith, ae, after, small, cut') in
    let last : block < blocks_before k q m ((e + 1) * m) = omega (arith, be, before) in
    let some : 1 ≤ level_blocks k q (e + 1) = at_least_one m (level_blocks k q (e + 1)) (omega (arith, blocks_of_level k q m e, first, last, after)) in
    let same = same_blocks (block - a) (message_count k q (e + 1)) (level_blocks k q (e + 1)) ((c + 4095) / 4096) (omega (arith, small)) (level_is k q e) some (ap (λ x. (x + 4095) / 4096) ce) in
    let q' : s ≡ (block - blocks_before k q m (e * m)) / level_blocks k q (e + 1) = rw first (se ∙ same.quotient) in
    let t = by_true k q m e block (level_blocks k q (e + 1)) s refl some inside q' (omega (arith, first, after)) last small in
    let start : (phase_at k q m (e * m + s)).start ≡ block - (block - a) % ((c + 4095) / 4096) = t.4 ∙ ap (λ x. block - (block - x) % level_blocks k q (e + 1)) first ∙ ap (λ x. block - x) (sym same.rest) in
    let end : (phase_at k q m (e * m + s)).end ≡ min (block - (block - a) % ((c + 4095) / 4096) + (c + 4095) / 4096) (2 ^ 40) = t.5 ∙ ap (λ x. min (block - (block - x) % level_blocks k q (e + 1) + level_blocks k q (e + 1)) (2 ^ 40)) first ∙ ap (λ x. min (block - x + level_blocks k q (e + 1)) (2 ^ 40)) (sym same.rest) ∙ sym (same.end (block - (block - a) % ((c + 4095) / 4096))) in
    record {
      some = same.some;
      phase = t.0;
      set = t.1;
      is = phase_is k q m (e * m + s) (e + 1) s _ _ t.2 t.3 start end;
    }

-- the number of the first message of a block in its level
pub record Ranked (k q m p b : ℕ) (ph : Phase) : Type 0 where
  pub level : ph.level ≡ phase_level m p
  pub set : ph.set ≡ phase_set m p
  pub start : ph.start ≡ blocks_before k q m p
  pub end : ph.end ≡ (phase_at k q m p).end
  pub after : ph.start ≤ b
  pub before : b < ph.end
  pub small : b < 2 ^ 40
  pub inside : 4096 * (b - ph.start) < message_count k q ph.level

pub blocks_next : (k q m p : ℕ) → blocks_before k q m (suc p) ≡ blocks_before k q m p + level_blocks k q (phase_level m p)
unfolding blocks_before
blocks_next k q m p = refl

pub blocks_of : (k q w : ℕ) → level_blocks k q w ≡ (message_count k q w + 4095) / 4096
unfolding level_blocks
blocks_of k q w = refl

level_of_phase : (k q m p : ℕ) → (phase_at k q m p).level ≡ phase_level m p
unfolding phase_at
level_of_phase k q m p = refl

set_of_phase : (k q m p : ℕ) → (phase_at k q m p).set ≡ phase_set m p
unfolding phase_at
set_of_phase k q m p = refl

pub ranked : (k q m p b : ℕ) (ph : Phase) → IsInPhase k q m p b → plan_phase ph ≡ phase_at k q m p → Ranked k q m p b ph
ranked k q m p b ph h e =
    let w = within k q m p b h in
    let level : ph.level ≡ phase_level m p = ap (λ x. x.level) e ∙ level_of_phase k q m p in
    let start : ph.start ≡ blocks_before k q m p = ap (λ x. x.start) e ∙ w.start in
    record {
      level = level;
      set = ap (λ x. x.set) e ∙ set_of_phase k q m p;
      start = start;
      end = ap (λ x. x.end) e;
      after = omega (arith, start, w.after);
      before = omega (arith, ap (λ x. x.end) e, h.before);
      small = w.below_cut;
      inside = rw level (omega (arith, start, w.before, w.after, blocks_next k q m p, blocks_of k q (phase_level m p)));
    }

pub record BlockCount (k q m p b a c : ℕ) : Type 0 where
  pub fits : 4096 * (b - a) ≤ c
  pub some : 1 ≤ min (c - 4096 * (b - a)) 4096
  pub exact : min (c - 4096 * (b - a)) 4096 ≡ block_length k q m p b

length_is : (k q m p b : ℕ) → block_length k q m p b ≡ min 4096 (message_count k q (phase_level m p) - 4096 * (b - blocks_before k q m p))
unfolding block_length
length_is k q m p b = refl

pub block_count : (k q m p b c : ℕ) (ph : Phase) → Ranked k q m p b ph → 1 ≤ ph.level → c ≡ count_entry k q (ph.level - 1) → BlockCount k q m p b ph.start c
block_count k q m p b c ph h some ce =
    let one : ph.level - 1 + 1 ≡ ph.level = omega (arith, some) in
    let ce' : c ≡ min (message_count k q ph.level) (2 ^ 53) = rw one at ce in
    let count : message_count k q ph.level ≡ message_count k q (phase_level m p) = ap (message_count k q) h.level in
    record {
      fits = omega (arith, ce', h.inside, h.small);
      some = omega (arith, ce', h.inside, h.small);
      exact = omega (arith, length_is k q m p b, count, ce', h.inside, h.small, h.start);
    }

pub record StartParts (k q w r d : ℕ) : Type 0 where
  pub some : 0 < d
  pub quotient : r / d ≡ r / (q - 1) ^ (w - 1)
  pub rest : r % d ≡ r % (q - 1) ^ (w - 1)
  pub support : r / d < choose k w
  pub coefficients : r % d < (q - 1) ^ (w - 1)
  pub few : r / d < 2 ^ 52
  pub less : r % d < 2 ^ 52

count_is_product : (k q w : ℕ) → message_count k q w ≡ choose k w * (q - 1) ^ (w - 1)
unfolding message_count
count_is_product k q w = refl

pub parts_at : (k q w r d : ℕ) → 2 ≤ q → r < 2 ^ 52 → r < message_count k q w → d ≡ power_entry q (w - 1) → StartParts k q w r d
parts_at k q w r d size small many de =
    let some : 1 ≤ (q - 1) ^ (w - 1) = one-le-pow (w - 1) (q - 1) (omega (arith, size)) in
    let same = divided ((q - 1) ^ (w - 1)) r some (omega (arith, small)) in
    let inside : r < choose k w * (q - 1) ^ (w - 1) = omega (arith, many, count_is_product k q w) in
    let few : r / (q - 1) ^ (w - 1) < choose k w = div_below r ((q - 1) ^ (w - 1)) (choose k w) some inside in
    let less : r % (q - 1) ^ (w - 1) < (q - 1) ^ (w - 1) = mod_below r ((q - 1) ^ (w - 1)) some in
    rw de (record {
      some = same.2;
      quotient = same.0;
      rest = same.1;
      support = omega (arith, same.0, few);
      coefficients = omega (arith, same.1, less);
      few = omega (arith, same.0, small, div-le_self r ((q - 1) ^ (w - 1)));
      less = omega (arith, same.1, small, div-add-mod' r ((q - 1) ^ (w - 1)));
    })

pub below_cut : (k q m e b : ℕ) → b < start_entry k q m e → b < 2 ^ 40
below_cut k q m e b l = let c : cut ≡ 2 ^ 40 = cut_is in omega (arith, l)

pub inside_is : (k q m b : ℕ) → b < total k q m → b < start_entry k q m k
unfolding total
inside_is k q m b l = l

-- a block and the phase that was found for it
abbrev pub FoundPhase : PlanSize → ℕ → Phase → Type 0
FoundPhase p b ph = (x : ℕ) × IsInPhase p.k p.q p.m x b × (plan_phase ph ≡ phase_at p.k p.q p.m x)

pub found_rank : (p : PlanSize) (b : ℕ) (ph : Phase) (f : FoundPhase p b ph) → Ranked p.k p.q p.m f.0 b ph
found_rank p b ph f = ranked p.k p.q p.m f.0 b ph f.1 f.2

pub any_rank : (p : PlanSize) (b x : ℕ) (ph : Phase) → FoundPhase p b ph → IsInPhase p.k p.q p.m x b → Ranked p.k p.q p.m x b ph
any_rank p b x ph f h = let e : f.0 ≡ x = one_phase p.k p.q p.m f.0 x b f.1 h in rw (← e) (found_rank p b ph f)

pub counted : (p : PlanSize) (k q m b : ℕ) (t ts : List ℕ) (ph : Phase) → ◌≡◌ {A = PlanSize} (record { k = k; q = q; m = m }) p → ts ≡ t → IsTable (count_entry k q) k t → 1 ≤ ph.level → ph.level ≤ p.k → (f : FoundPhase p b ph) → BlockCount p.k p.q p.m f.0 b ph.start (get_or ts (ph.level - 1) 0)
counted p k q m b t ts ph view same table some few f =
    let few' : ph.level ≤ k = omega (arith, few, ap (λ (v : PlanSize). v.k) view) in
    let entry : get_or ts (ph.level - 1) 0 ≡ count_entry p.k p.q (ph.level - 1) = ap (λ l. get_or l (ph.level - 1) 0) same ∙ table.entry (ph.level - 1) (omega (arith, few', some)) ∙ ap (λ (v : PlanSize). count_entry v.k v.q (ph.level - 1)) view in
    block_count p.k p.q p.m f.0 b _ ph (found_rank p b ph f) some entry

pub going : (p : PlanSize) (k q m w r : ℕ) (t ts : List ℕ) → ◌≡◌ {A = PlanSize} (record { k = k; q = q; m = m }) p → ts ≡ t → IsTable (power_entry q) k t → 2 ≤ q → 1 ≤ w → w ≤ p.k → r < 2 ^ 52 → r < message_count p.k p.q w → StartParts k q w r (get_or ts (w - 1) 0)
going p k q m w r t ts view same table size some few small inside =
    let few' : w ≤ k = omega (arith, few, ap (λ (v : PlanSize). v.k) view) in
    let entry : get_or ts (w - 1) 0 ≡ power_entry q (w - 1) = ap (λ l. get_or l (w - 1) 0) same ∙ table.entry (w - 1) (omega (arith, few', some)) in
    parts_at k q w r _ size small (subst (λ (v : PlanSize). r < message_count v.k v.q w) (sym view) inside) entry

-- what `go_to` leaves
pub record Gone (p : PlanSize) (w r : ℕ) (s u : List ℕ) : Type 0 where
  pub at : slice_get (messages p.k p.q w) r ≡ Some (message_of s u)
  pub places : length s ≡ w
  pub entries : length u ≡ w

gone_at : (p : PlanSize) (w r d : ℕ) (s u : List ℕ) → StartParts p.k p.q w r d → slice_get (supports_from 0 p.k w) (r / d) ≡ Some s → slice_get (leading_lists p.q w) (r % d) ≡ Some u → Gone p w r s u
gone_at p w r d s u parts e g = record {
  at = message_from_parts p.k p.q w r s u (ap (slice_get (supports_from 0 p.k w)) (sym parts.quotient) ∙ e) (ap (slice_get (leading_lists p.q w)) (sym parts.rest) ∙ g);
  places = (support_shape 0 p.k w (r / d) s e).many;
  entries = (leading_shape p.q w (r % d) u g).many;
}

pub gone : (p : PlanSize) (k q m w r d : ℕ) (s u : List ℕ) → ◌≡◌ {A = PlanSize} (record { k = k; q = q; m = m }) p → StartParts k q w r d → slice_get (supports_from 0 k w) (r / d) ≡ Some s → slice_get (leading_lists q w) (r % d) ≡ Some u → Gone p w r s u
gone p k q m w r d s u view parts e g = subst (λ (v : PlanSize). Gone v w r s u) view (gone_at (record { k = k; q = q; m = m }) w r d s u parts e g)

-- what `start_of` leaves
pub record Started (p : PlanSize) (b : ℕ) (ph : Phase) (a : Message) (n : ℕ) : Type 0 where
  pub first : (x : ℕ) → IsInPhase p.k p.q p.m x b → slice_get (messages p.k p.q (phase_level p.m x)) (4096 * (b - blocks_before p.k p.q p.m x)) ≡ Some a
  pub level : (x : ℕ) → IsInPhase p.k p.q p.m x b → n ≡ phase_level p.m x
  pub set : (x : ℕ) → IsInPhase p.k p.q p.m x b → ph.set ≡ phase_set p.m x
  pub message : Contains (messages p.k p.q n) a

pub started : (p : PlanSize) (b : ℕ) (ph : Phase) (a : Message) (n : ℕ) → FoundPhase p b ph → n ≡ ph.level → slice_get (messages p.k p.q ph.level) ((b - ph.start) * 4096) ≡ Some a → Started p b ph a n
started p b ph a n f many at = record {
  first = λ x h.
      let r = any_rank p b x ph f h in
      let place : (b - ph.start) * 4096 ≡ 4096 * (b - blocks_before p.k p.q p.m x) = omega (arith, r.start) in
      ap (λ w. slice_get (messages p.k p.q w) (4096 * (b - blocks_before p.k p.q p.m x))) (sym r.level) ∙ ap (slice_get (messages p.k p.q ph.level)) (sym place) ∙ at;
  level = λ x h. many ∙ (any_rank p b x ph f h).level;
  set = λ x h. (any_rank p b x ph f h).set;
  message = to_contains (messages p.k p.q n) a ((b - ph.start) * 4096) (ap (λ w. slice_get (messages p.k p.q w) ((b - ph.start) * 4096)) many ∙ at);
}
