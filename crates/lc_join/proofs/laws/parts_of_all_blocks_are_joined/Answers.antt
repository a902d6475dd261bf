use Rattle.lc_join.proofs.CoverLaws.{some_text, none_missing, none_disagree, session_ends, all_needed}
use Rattle.lc_join.proofs.laws.parts_of_all_blocks_are_joined.Goals as goal

pub returns-clause-text : goal.returns-clause-text
returns-clause-text _ = some_text

pub returns-clause-none_missing : goal.returns-clause-none_missing
returns-clause-none_missing _ = none_missing

pub returns-clause-none_disagree : goal.returns-clause-none_disagree
returns-clause-none_disagree _ = none_disagree

pub returns-clause-session : goal.returns-clause-session
returns-clause-session _ = session_ends

pub returns-clause-all : goal.returns-clause-all
returns-clause-all _ = all_needed
