use Rattle.std.proofs.Common.{rules}
use Rattle.plays.proofs.Records.{broken, too_many, whole}
use Rattle.plays.proofs.records_of.Goals as goal

pub returns-then-not-is_empty : goal.returns-then-not-is_empty
returns-then-not-is_empty c = broken _ (search rules)

pub returns-then-records-gt1048576 : goal.returns-then-records-gt1048576
returns-then-records-gt1048576 c = too_many _ (search rules) (search rules)

pub returns : goal.returns
returns c = (whole _ (search rules) (search rules), search rules)
