use Rattle.lc_text.proofs.ScriptLaws.{no_script_result, starved_first, by_script_result, no_statement}
use Rattle.lc_text.proofs.script.script_text.Goals as goal

pub returns-in-Ok-fault_line-clause-ends : goal.returns-in-Ok-fault_line-clause-ends
returns-in-Ok-fault_line-clause-ends g c w h =
    let a = c.in-Err-Fault in
    no_script_result w c.args.bytes.now (record { number = a.number; offset = a.offset }) c.in-Ok-fault_line.line.items c.ended.result c.args.course.now _ (rw a.field-0-is at a.ensures.fault) c.in-Ok-fault_line.ensures h c.ended.ensures

pub returns-in-Err-clause-ends : goal.returns-in-Err-clause-ends
returns-in-Err-clause-ends g c w h = starved_first w c.args.bytes.now c.args.course.now _ h

pub returns-in-Err-NoMemory-clause-ends : goal.returns-in-Err-NoMemory-clause-ends
returns-in-Err-NoMemory-clause-ends g c w h = starved_first w c.args.bytes.now c.args.course.now _ h

pub returns-clause-ends : goal.returns-clause-ends
returns-clause-ends g c w h = by_script_result w c.args.bytes.now c.in-Ok.script c.start-machine.result c.text_of.result c.text_of.new.course _ c.in-Ok.ensures.read c.start-machine.ensures (c.text_of.ensures.ends w h)

pub returns-clause-nothing : goal.returns-clause-nothing
returns-clause-nothing g c none free = c.text_of.ensures.nothing (no_statement c.args.bytes.now c.in-Ok.script c.start-machine.result none c.in-Ok.ensures.readable c.start-machine.ensures) free
