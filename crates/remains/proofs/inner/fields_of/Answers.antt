use mathlib.Core.Path.{refl}
use Rattle.remains.specs.Slot.{fields_of}
use Rattle.remains.proofs.Bytes.{fields_same}
use Rattle.remains.proofs.inner.fields_of.Goals as goal

pub returns : goal.returns
unfolding fields_of
returns c = fields_same _ _ c.u32_at.ensures c.u32_at-2.ensures c.u32_at-3.ensures c.u16_at.ensures refl refl
