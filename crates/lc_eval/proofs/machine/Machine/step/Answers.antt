use Rattle.std.proofs.Common.{arith}
use Rattle.lc_calls.specs.Value.{binding_of}
use Rattle.lc_eval.proofs.StatementLaws.{silent_step, line_step, need_step, count_step, near_step, fault_step}
use Rattle.lc_eval.proofs.machine.Machine.step.Goals as goal

pub returns-in_ok-bind-in-Binds-clause-does : goal.returns-in_ok-bind-in-Binds-clause-does
returns-in_ok-bind-in-Binds-clause-does c =
    let m = c.self.inside in
    let s = c.in-Some.statement.now in
    let found = rw c.deref.ensures.value at c.in-Some.ensures.lookup in
    let h = rw c.in-Binds.is at c.in_ok-name.ensures in
    silent_step c.args.self.now m.names m.script.statements.items m.next s c.bind.new.self (binding_of c.in-Binds.field-0) c.self.view_is found.3.0 found.1 c.in_ok-bind-in-Binds.ensures.bound h

pub returns-in-Prints-clause-does : goal.returns-in-Prints-clause-does
returns-in-Prints-clause-does c =
    let m = c.self.inside in
    let s = c.in-Some.statement.now in
    let found = rw c.deref.ensures.value at c.in-Some.ensures.lookup in
    let h = rw c.in-Prints.is at c.in_ok-name.ensures in
    line_step c.args.self.now m.names m.script.statements.items m.next s c.in-Prints.line c.self.view_is found.3.0 found.1 h

pub returns-in-Fails-clause-does : goal.returns-in-Fails-clause-does
returns-in-Fails-clause-does c =
    let m = c.self.inside in
    let s = c.in-Some.statement.now in
    let found = rw c.deref.ensures.value at c.in-Some.ensures.lookup in
    let h = rw c.in-Fails.is at c.in_ok-name.ensures in
    fault_step c.args.self.now m.names m.script.statements.items m.next s c.in-Fails.line h.0 c.len-self-inside.result c.self.view_is found.3.0 found.1 h.1 h.2 (let l = c.len-self-inside.ensures in omega (arith, m.script.statements.ok.0))

pub returns-in-Needs-clause-does : goal.returns-in-Needs-clause-does
returns-in-Needs-clause-does c =
    let m = c.self.inside in
    let s = c.in-Some.statement.now in
    let found = rw c.deref.ensures.value at c.in-Some.ensures.lookup in
    let h = rw c.in-Needs.is at c.in_ok-name.ensures in
    need_step c.args.self.now m.names m.script.statements.items m.next s c.in-Needs.query c.self.view_is found.3.0 found.1 h

pub returns-in-Counts-clause-does : goal.returns-in-Counts-clause-does
returns-in-Counts-clause-does c =
    let m = c.self.inside in
    let s = c.in-Some.statement.now in
    let found = rw c.deref.ensures.value at c.in-Some.ensures.lookup in
    let h = rw c.in-Counts.is at c.in_ok-name.ensures in
    count_step c.args.self.now m.names m.script.statements.items m.next s c.in-Counts.code c.self.view_is found.3.0 found.1 h

pub returns-in-Nears-clause-does : goal.returns-in-Nears-clause-does
returns-in-Nears-clause-does c =
    let m = c.self.inside in
    let s = c.in-Some.statement.now in
    let found = rw c.deref.ensures.value at c.in-Some.ensures.lookup in
    let h = rw c.in-Nears.is at c.in_ok-name.ensures in
    near_step c.args.self.now m.names m.script.statements.items m.next s c.in-Nears.code c.in-Nears.word c.self.view_is found.3.0 found.1 h
