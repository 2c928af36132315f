use Rattle.slots.proofs.Records.{fields_are}
use Rattle.slots.proofs.fields_of.Goals as goal

pub returns : goal.returns
returns c =
    fields_are _ _ _ _ _ _ _ _ _ c.with_number-s.ensures c.with_number-c.ensures c.with_number-r.ensures
    c.le16_of-l.ensures
