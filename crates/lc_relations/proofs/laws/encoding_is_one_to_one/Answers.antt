use Rattle.lc_relations.proofs.EncodingLaws.{message_inside, message_exists, message_back}
use Rattle.lc_relations.proofs.laws.encoding_is_one_to_one.Goals as goal

pub returns : goal.returns
returns c = record {
  inside = message_inside;
  some = message_exists;
  back = message_back;
}
