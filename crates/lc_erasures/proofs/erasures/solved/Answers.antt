use Rattle.std.proofs.Common.{◌≡◌, subst, arith}
use Rattle.lc_algebra.specs.Span.{combine}
use Rattle.lc_erasures.proofs.FillingLaws.{unfilled_told, ambiguous_told, filled_told}
use Rattle.lc_erasures.proofs.erasures.solved.Goals as goal

pub returns-in_default : goal.returns-in_default
returns-in_default c = record {
  is = unfilled_told c.args.code.now c.args.system.now c.args._word.now c.args._erased.now c.args.symbols.now c.in_ok-message.field-0 c.requires.field c.requires.columns c.requires.word c.requires.known c.in_ok-message.ensures.exact c.in_default.not-Some;
}

pub returns-then-rows-gt0 : goal.returns-then-rows-gt0
returns-then-rows-gt0 c = record {
  is = ambiguous_told c.args.code.now c.args.system.now c.in_ok-kernel.kernel c.args._word.now c.args._erased.now c.args.symbols.now c.in-Some.message c.in_ok-message.field-0 c.matrix-matrix.ensures.rows c.matrix-matrix.ensures.reduced c.requires.field c.requires.columns c.requires.word c.requires.known c.in-Some.is c.in_ok-message.ensures.word c.in_ok-message.ensures.solves c.in_ok-kernel.ensures.kernel (omega (arith, c.if-rows-gt0.true, c.rows.ensures.is));
}

pub returns : goal.returns
returns c = record {
  is = filled_told c.args.code.now c.args.system.now c.in_ok-kernel.kernel c.args._word.now c.args._erased.now c.args.symbols.now c.in-Some.message c.in_ok-codeword_of.field-0 c.in_ok-message.field-0 c.matrix-matrix.ensures.rows c.requires.field c.requires.columns c.requires.word c.requires.known c.in-Some.is c.in_ok-message.ensures.word c.in_ok-message.ensures.solves c.in_ok-kernel.ensures.kernel (omega (arith, c.if-rows-gt0.false, c.rows.ensures.is)) (subst (λ v. c.in_ok-codeword_of.field-0 ≡ combine c.args.code.now.field c.args.code.now.columns v c.args.code.now.rows) c.symbols.ensures.are c.in_ok-codeword_of.ensures.is);
}
