use Rattle.std.proofs.Common.{◌≡◌, ◌+◌, ℕ, List, subst, arith}
use Rattle.lc_algebra.specs.Matrix.{Matrix}
use Rattle.lc_span.proofs.WordLaws.{words_between, between_are_rows}
use Rattle.lc_weights.proofs.LeadLaws.{leads_more, leads_all}
use Rattle.lc_weights.proofs.words.leads_of.Goals as goal

-- the words of the rows of the code's matrix are those of the code's rows
told : (M C : Matrix) (i to : ℕ) (ws : List (List ℕ)) → M ≡ C → ws ≡ words_between M.field M.columns M.rows i to → ws ≡ words_between C.field C.columns C.rows i to
told M C i to ws same e = subst (λ (D : Matrix). ws ≡ words_between D.field D.columns D.rows i to) same e

pub push_sums-requires-clause-words : goal.push_sums-requires-clause-words
push_sums-requires-clause-words c =
    let C = c.args.code.now in
    between_are_rows C.field c.field.result.now C.columns (c.loop-i.i + 1) c.args.to c.row.result.now C.rows c.in_ok-after.after.items c.as_slice.result.now c.matrix-matrix.ensures.rows c.field.ensures.is c.row.ensures.word.long c.as_slice.ensures.value (told c.matrix-matrix.result.now C (c.loop-i.i + 1) c.args.to c.in_ok-after.after.items c.matrix-matrix.ensures.is c.in_ok-after.ensures.are)

pub loop-i-preserved : goal.loop-i-preserved
loop-i-preserved c =
    let C = c.args.code.now in
    leads_more C.field c.field.result.now C.columns c.loop-i.i c.args.to c.row.result.now C.rows c.in_ok-after.after.items c.as_slice.result.now c.loop-i.list.items c.push_sums.new.sums.items _ c.loop-i-test.true c.requires.to c.field.ensures.is c.row.ensures.is c.as_slice.ensures.value (told c.matrix-matrix.result.now C (c.loop-i.i + 1) c.args.to c.in_ok-after.after.items c.matrix-matrix.ensures.is c.in_ok-after.ensures.are) c.in_ok-push_sums.ensures.are c.loop-i.invariant

pub returns : goal.returns
returns c =
    let C = c.args.code.now in
    record { are = leads_all C.field C.columns c.loop-i.i c.args.to C.rows c.loop-i.list.items _ (omega (arith, c.loop-i-test.false)) c.loop-i.invariant }
