use Rattle.std.proofs.Common.{sym, ap, arith}
use Rattle.lc_parse.proofs.Scanning.{Scans-none, Scans-skip, Scans-token, Scans-some, Scans-end}
use Rattle.lc_grammar.specs.Token.{Scanned}
use Rattle.lc_parse.proofs.scan.scan.Goals as goal

pub loop-n-init : goal.loop-n-init
loop-n-init c = record { within = omega arith; so_far = rw c.new-tokens.ensures.items (Scans-none c.args.bytes.now) }

pub loop-n-preserved-in-Skip : goal.loop-n-preserved-in-Skip
loop-n-preserved-in-Skip c =
    let l = c.loop-n in
    record { within = c.in-Skip.ensures.1; so_far = Scans-skip c.args.bytes.now l.tokens.items l.at c.in-Skip.n l.invariant.within l.invariant.so_far c.in-Skip.ensures }

pub loop-n-preserved : goal.loop-n-preserved
loop-n-preserved c =
    let l = c.loop-n in
    record {
      within = c.in-Token.ensures.1;
      so_far = rw c.in_ok-push-in-Token.ensures.items (Scans-token c.args.bytes.now l.tokens.items l.at c.in-Token.token l.invariant.within l.invariant.so_far c.in-Token.ensures);
    }

pub returns-in_err-push-in-Token-clause-blank : goal.returns-in_err-push-in-Token-clause-blank
returns-in_err-push-in-Token-clause-blank c =
    let l = c.loop-n in
    λ none. absurd (Scans-some c.args.bytes.now l.tokens.items l.at c.in-Token.token l.invariant.within l.invariant.so_far c.in-Token.ensures none)

pub returns-in-End-clause-tokens : goal.returns-in-End-clause-tokens
returns-in-End-clause-tokens c =
    let l = c.loop-n in
    ap (λ (s : Scanned). s.tokens) (sym (Scans-end c.args.bytes.now l.tokens.items l.at c.in-End.ending l.invariant.so_far c.in-End.ensures))

pub returns-in-End-clause-ending : goal.returns-in-End-clause-ending
returns-in-End-clause-ending c =
    let l = c.loop-n in
    ap (λ (s : Scanned). s.ending) (sym (Scans-end c.args.bytes.now l.tokens.items l.at c.in-End.ending l.invariant.so_far c.in-End.ensures))
