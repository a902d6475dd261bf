use Rattle.lc_constructions.proofs.CosetLaws.{leader_exists, leader_once, leader_is_nearest, syndrome_once, table_is_nearest}
use Rattle.lc_constructions.proofs.laws.leaders_give_nearest_words.Goals as goal

pub returns-clause-some_leader : goal.returns-clause-some_leader
returns-clause-some_leader c = leader_exists

pub returns-clause-one_leader : goal.returns-clause-one_leader
returns-clause-one_leader c = leader_once

pub returns-clause-nearest : goal.returns-clause-nearest
returns-clause-nearest c = leader_is_nearest

pub returns-clause-one_syndrome : goal.returns-clause-one_syndrome
returns-clause-one_syndrome c = syndrome_once

pub returns-clause-table : goal.returns-clause-table
returns-clause-table c = table_is_nearest
