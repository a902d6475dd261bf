-- The statements of a script, one after another, with what they ask and print.
--   begun                nothing is done
--   by_line, by_binding, by_need, by_count, by_near      after a statement that prints a line, binds a name, asks a need, counts the
--                        words of a code, or asks for a nearest word
--   at_end, at_end_asks  at the end of the script
--   at_fault, at_fault_asks      after a statement that fails
--   met_so_far, met_with_next      the needs of the statements done, and with the one that is asked now
use Rattle.std.proofs.Common.{◌≡◌, ℕ, Bool, true, false, List, [], ◌∷◌, ◌++◌, length, take, refl, sym, ap, subst, ◌∙◌}
use Rattle.std.proofs.lemmas.List.{append-nil, append_assoc}
use Rattle.lc_algebra.specs.Matrix.{Matrix}
use Rattle.lc_enumeration.specs.Search.{Answer}
use Rattle.lc_grammar.specs.Tree.{Statement}
use Rattle.lc_language.specs.declared.Call.{Call}
use Rattle.lc_language.specs.Value.{Binding}
use Rattle.lc_language.specs.Query.{QueryKind, distribution_line, near_line}
use Rattle.lc_language.specs.Print.{fault_line}
use Rattle.lc_language.specs.Evaluation.{Refused, Steps, binds, prints, asks, counts, nears, fails}
use Rattle.lc_session_rules.specs.Needs.{Needs}
use Rattle.lc_session_rules.specs.Answers.{answer_line, RunsBy}
use Rattle.lc_session_rules.specs.Statements.{HaveDone}
use Rattle.lc_session_rules.proofs.FrontLaws.{take_front}
use Rattle.lc_session_rules.proofs.SameNames.{AreSame, needs_same, runs_by_same}

pub begun : (table : List Call) (budget : ℕ) (start : List Binding) (first : List Statement) → HaveDone table budget start start first first [] [] []
begun table budget start first = record {
  done = [];
  split = refl;
  asks_so = λ tail more h. h;
  prints_so = λ tail others rest ends h. h;
}

module _ (table : List Call) (budget : ℕ) (start now : List Binding) (first : List Statement) (s : Statement) (left : List Statement) (needs : List Matrix) (answers : List Answer) (text : List ℕ) (h : HaveDone table budget start now first (s ∷ left) needs answers text) where
  one_more : (tail : List Statement) → h.done ++ (s ∷ tail) ≡ (h.done ++ s ∷ []) ++ tail
  one_more tail = sym (append_assoc h.done (s ∷ []) tail)

  asks_after : (later : List Binding) (asked : List Matrix) → ((tail : List Statement) (more : List Matrix) → Needs table later tail more → Needs table now (s ∷ tail) (asked ++ more))
      → (tail : List Statement) (more : List Matrix) → Needs table later tail more → Needs table start ((h.done ++ s ∷ []) ++ tail) ((needs ++ asked) ++ more)
  asks_after later asked f tail more k =
      subst (λ (ns : List Matrix). Needs table start ((h.done ++ s ∷ []) ++ tail) ns) (sym (append_assoc needs asked more))
      (subst (λ (ss : List Statement). Needs table start ss (needs ++ (asked ++ more))) (one_more tail) (h.asks_so (s ∷ tail) (asked ++ more) (f tail more k)))

  prints_after : (later : List Binding) (given : List Answer) (line : List ℕ)
      → ((tail : List Statement) (others : List Answer) (rest : List ℕ) (ends : Bool) → RunsBy table budget later tail others rest ends → RunsBy table budget now (s ∷ tail) (given ++ others) (line ++ rest) ends)
      → (tail : List Statement) (others : List Answer) (rest : List ℕ) (ends : Bool) → RunsBy table budget later tail others rest ends → RunsBy table budget start ((h.done ++ s ∷ []) ++ tail) ((answers ++ given) ++ others) ((text ++ line) ++ rest) ends
  prints_after later given line f tail others rest ends k =
      subst (λ (t : List ℕ). RunsBy table budget start ((h.done ++ s ∷ []) ++ tail) ((answers ++ given) ++ others) t ends) (sym (append_assoc text line rest))
      (subst (λ (l : List Answer). RunsBy table budget start ((h.done ++ s ∷ []) ++ tail) l (text ++ (line ++ rest)) ends) (sym (append_assoc answers given others))
      (subst (λ (ss : List Statement). RunsBy table budget start ss (answers ++ (given ++ others)) (text ++ (line ++ rest)) ends) (one_more tail) (h.prints_so (s ∷ tail) (given ++ others) (line ++ rest) ends (f tail others rest ends k))))

  split_after : first ≡ (h.done ++ s ∷ []) ++ left
  split_after = h.split ∙ one_more left

  pub by_need : (kind : QueryKind) (C : Matrix) (a : Answer) → Steps table now s (asks kind C) → HaveDone table budget start now first left (needs ++ C ∷ []) (answers ++ a ∷ []) (text ++ answer_line kind C a)
  by_need kind C a steps = record {
    done = h.done ++ s ∷ [];
    split = split_after;
    asks_so = asks_after now (C ∷ []) (λ tail more k. (asks kind C, steps, (more, k, refl)));
    prints_so = prints_after now (a ∷ []) (answer_line kind C a) (λ tail others rest ends k. (asks kind C, steps, (a, (others, refl, (rest, k, refl)))));
  }

  pub by_line : (line : List ℕ) → Steps table now s (prints line) → HaveDone table budget start now first left needs answers (text ++ line)
  by_line line steps = record {
    done = h.done ++ s ∷ [];
    split = split_after;
    asks_so = λ tail more k. subst (λ (ns : List Matrix). Needs table start ((h.done ++ s ∷ []) ++ tail) (ns ++ more)) (append-nil needs) (asks_after now [] (λ tail more k. (prints line, steps, k)) tail more k);
    prints_so = λ tail others rest ends k. subst (λ (l : List Answer). RunsBy table budget start ((h.done ++ s ∷ []) ++ tail) (l ++ others) ((text ++ line) ++ rest) ends) (append-nil answers)
        (prints_after now [] line (λ tail others rest ends k. (prints line, steps, (rest, k, refl))) tail others rest ends k);
  }

  pub by_count : (C : Matrix) → Steps table now s (counts C) → HaveDone table budget start now first left needs answers (text ++ distribution_line C)
  by_count C steps = record {
    done = h.done ++ s ∷ [];
    split = split_after;
    asks_so = λ tail more k. subst (λ (ns : List Matrix). Needs table start ((h.done ++ s ∷ []) ++ tail) (ns ++ more)) (append-nil needs) (asks_after now [] (λ tail more k. (counts C, steps, k)) tail more k);
    prints_so = λ tail others rest ends k. subst (λ (l : List Answer). RunsBy table budget start ((h.done ++ s ∷ []) ++ tail) (l ++ others) ((text ++ distribution_line C) ++ rest) ends) (append-nil answers)
        (prints_after now [] (distribution_line C) (λ tail others rest ends k. (counts C, steps, (rest, k, refl))) tail others rest ends k);
  }

  pub by_near : (C : Matrix) (x : List ℕ) → Steps table now s (nears C x) → HaveDone table budget start now first left needs answers (text ++ near_line C x budget)
  by_near C x steps = record {
    done = h.done ++ s ∷ [];
    split = split_after;
    asks_so = λ tail more k. subst (λ (ns : List Matrix). Needs table start ((h.done ++ s ∷ []) ++ tail) (ns ++ more)) (append-nil needs) (asks_after now [] (λ tail more k. (nears C x, steps, k)) tail more k);
    prints_so = λ tail others rest ends k. subst (λ (l : List Answer). RunsBy table budget start ((h.done ++ s ∷ []) ++ tail) (l ++ others) ((text ++ near_line C x budget) ++ rest) ends) (append-nil answers)
        (prints_after now [] (near_line C x budget) (λ tail others rest ends k. (nears C x, steps, (rest, k, refl))) tail others rest ends k);
  }

  pub by_binding : (b : Binding) (later : List Binding) → Steps table now s (binds b) → AreSame later (b ∷ now) → HaveDone table budget start later first left needs answers text
  by_binding b later steps same = record {
    done = h.done ++ s ∷ [];
    split = split_after;
    asks_so = λ tail more k. subst (λ (ns : List Matrix). Needs table start ((h.done ++ s ∷ []) ++ tail) (ns ++ more)) (append-nil needs)
        (asks_after later [] (λ tail more k. (binds b, steps, needs_same table tail later (b ∷ now) same more k)) tail more k);
    prints_so = λ tail others rest ends k. subst (λ (l : List Answer). RunsBy table budget start ((h.done ++ s ∷ []) ++ tail) (l ++ others) (text ++ rest) ends) (append-nil answers)
        (subst (λ (t : List ℕ). RunsBy table budget start ((h.done ++ s ∷ []) ++ tail) ((answers ++ []) ++ others) (t ++ rest) ends) (append-nil text)
        (prints_after later [] [] (λ tail others rest ends k. (binds b, steps, runs_by_same table budget tail later (b ∷ now) same others rest ends k)) tail others rest ends k));
  }

  pub at_fault : (r : Refused) → Steps table now s (fails r) → RunsBy table budget start first answers (text ++ fault_line r.number r.offset r.values) true
  at_fault r steps =
      subst (λ (ss : List Statement). RunsBy table budget start ss answers (text ++ fault_line r.number r.offset r.values) true) (sym h.split)
      (subst (λ (l : List Answer). RunsBy table budget start (h.done ++ (s ∷ left)) l (text ++ fault_line r.number r.offset r.values) true) (append-nil answers)
      (h.prints_so (s ∷ left) [] (fault_line r.number r.offset r.values) true (fails r, steps, (refl, refl, refl))))

  pub at_fault_asks : (r : Refused) → Steps table now s (fails r) → Needs table start first needs
  at_fault_asks r steps =
      subst (λ (ss : List Statement). Needs table start ss needs) (sym h.split)
      (subst (λ (ns : List Matrix). Needs table start (h.done ++ (s ∷ left)) ns) (append-nil needs) (h.asks_so (s ∷ left) [] (fails r, steps, refl)))

  -- the needs once this statement has asked its own
  pub met_with_next : (kind : QueryKind) (C : Matrix) → Steps table now s (asks kind C) → (n : ℕ) × Needs table start (take n first) (needs ++ C ∷ [])
  met_with_next kind C steps =
      let front : take (length (h.done ++ s ∷ [])) first ≡ h.done ++ s ∷ [] = ap (take (length (h.done ++ s ∷ []))) split_after ∙ take_front (h.done ++ s ∷ []) left (length (h.done ++ s ∷ [])) refl in
      (length (h.done ++ s ∷ []), subst (λ (ss : List Statement). Needs table start ss (needs ++ C ∷ [])) (sym front) (h.asks_so (s ∷ []) (C ∷ []) (asks kind C, steps, ([], refl, refl))))

pub at_end : (table : List Call) (budget : ℕ) (start now : List Binding) (first : List Statement) (needs : List Matrix) (answers : List Answer) (text : List ℕ) → HaveDone table budget start now first [] needs answers text → RunsBy table budget start first answers text false
at_end table budget start now first needs answers text h =
    subst (λ (ss : List Statement). RunsBy table budget start ss answers text false) (sym h.split)
    (subst (λ (l : List Answer). RunsBy table budget start (h.done ++ []) l text false) (append-nil answers)
    (subst (λ (t : List ℕ). RunsBy table budget start (h.done ++ []) (answers ++ []) t false) (append-nil text) (h.prints_so [] [] [] false (refl, refl, refl))))

pub at_end_asks : (table : List Call) (budget : ℕ) (start now : List Binding) (first : List Statement) (needs : List Matrix) (answers : List Answer) (text : List ℕ) → HaveDone table budget start now first [] needs answers text → Needs table start first needs
at_end_asks table budget start now first needs answers text h =
    subst (λ (ss : List Statement). Needs table start ss needs) (sym h.split)
    (subst (λ (ns : List Matrix). Needs table start (h.done ++ []) ns) (append-nil needs) (h.asks_so [] [] refl))

-- the needs of the statements done
pub met_so_far : (table : List Call) (budget : ℕ) (start now : List Binding) (first left : List Statement) (needs : List Matrix) (answers : List Answer) (text : List ℕ) → HaveDone table budget start now first left needs answers text → (n : ℕ) × Needs table start (take n first) needs
met_so_far table budget start now first left needs answers text h =
    let front : take (length h.done) first ≡ h.done = ap (take (length h.done)) h.split ∙ take_front h.done left (length h.done) refl in (
      length h.done,
      subst (λ (ss : List Statement). Needs table start ss needs) (sym front)
          (subst (λ (ss : List Statement). Needs table start ss needs) (append-nil h.done) (subst (λ (ns : List Matrix). Needs table start (h.done ++ []) ns) (append-nil needs) (h.asks_so [] [] refl))),
    )
