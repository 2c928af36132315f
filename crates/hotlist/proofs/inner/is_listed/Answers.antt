-- `is_listed`: a list that passed is one to search.
use Rattle.hotlist.proofs.Steps.{list_is}
use Rattle.hotlist.proofs.inner.is_listed.Goals as goal

pub search-requires : goal.search-requires
search-requires c = let k = list_is _ _ c.requires.0 in (k.0, k.2)
