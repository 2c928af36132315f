use Rattle.std.proofs.Common.{rules}
use Rattle.plays.proofs.Records.{same_release, release_refused_came, released_came}
use Rattle.plays.proofs.play_release.Goals as goal

pub returns-in-Ok : goal.returns-in-Ok
returns-in-Ok c =
    λ t.
    same_release _ t _ _ _ c.u32_at-serial.ensures
    (released_came _ _ t _ _ _ (λ i. search rules) _ c.in-Ok.ensures c.one_released.ensures)

pub returns-in-Err : goal.returns-in-Err
returns-in-Err c =
    λ t. same_release _ t _ _ _ c.u32_at-serial.ensures (release_refused_came _ _ t _ _ _ _ c.in-Err.ensures c.one_refused.ensures)
