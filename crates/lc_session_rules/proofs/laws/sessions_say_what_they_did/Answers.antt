use Rattle.lc_session_rules.proofs.SaidLaws.{paused_at, fault_counts, memory_counts, other_named, unkept, accepted_so, rejected_so, summed, unfailed, counted_so, early_so, source_fails, sink_fails, unwritten, worded, nearest_so, paused_once}
use Rattle.lc_session_rules.proofs.laws.sessions_say_what_they_did.Goals as goal

pub returns-clause-paused : goal.returns-clause-paused
returns-clause-paused _ = paused_at

pub returns-clause-vault_fault : goal.returns-clause-vault_fault
returns-clause-vault_fault _ = fault_counts

pub returns-clause-no_memory : goal.returns-clause-no_memory
returns-clause-no_memory _ = memory_counts

pub returns-clause-other_script : goal.returns-clause-other_script
returns-clause-other_script _ = other_named

pub returns-clause-unkept : goal.returns-clause-unkept
returns-clause-unkept _ = unkept

pub returns-clause-accepted : goal.returns-clause-accepted
returns-clause-accepted _ = accepted_so

pub returns-clause-rejected : goal.returns-clause-rejected
returns-clause-rejected _ = rejected_so

pub returns-clause-summary : goal.returns-clause-summary
returns-clause-summary _ = summed

pub returns-clause-unfailed : goal.returns-clause-unfailed
returns-clause-unfailed _ = unfailed

pub returns-clause-counts : goal.returns-clause-counts
returns-clause-counts _ = counted_so

pub returns-clause-source_fault : goal.returns-clause-source_fault
returns-clause-source_fault _ = source_fails

pub returns-clause-sink_fault : goal.returns-clause-sink_fault
returns-clause-sink_fault _ = sink_fails

pub returns-clause-written : goal.returns-clause-written
returns-clause-written _ = unwritten

pub returns-clause-words : goal.returns-clause-words
returns-clause-words _ = worded

pub returns-clause-nearest : goal.returns-clause-nearest
returns-clause-nearest _ = nearest_so

pub returns-clause-paused_once : goal.returns-clause-paused_once
returns-clause-paused_once _ = paused_once

pub returns-clause-early : goal.returns-clause-early
returns-clause-early _ = early_so
