use Rattle.std.proofs.Common.{◌≡◌, true, length, refl, sym, ◌∙◌, arith}
use Rattle.slots.specs.Journal.{sized}
use Rattle.slots.proofs.Form.{is_sized}
use Rattle.surveys.proofs.Surveys.{survey_length, survey_short, survey_done, survey_refused, survey_filled}
use Rattle.surveys.proofs.survey_as.Goals as goal
use Rattle.surveys.proofs.survey_as.Goals.{Else-not-is_sized}

size : (c : Else-not-is_sized) → sized (length c.args.j.now) ≡ true
size c = sym c.is_sized.ensures ∙ c.if-not-is_sized.false

pub returns-then-not-is_sized : goal.returns-then-not-is_sized
returns-then-not-is_sized c = λ m e. survey_refused _ _ _ _ (survey_length m _ _ (sym c.is_sized.ensures ∙ c.if-not-is_sized.true))

pub returns-then-out-n : goal.returns-then-out-n
returns-then-out-n c = λ m e. survey_refused _ _ _ _ (survey_short m _ _ (size (goal.at.returns-then-out-n c).Else-not-is_sized) c.if-out-n.true)

pub fill-requires : goal.fill-requires
fill-requires c = let z = is_sized _ (size (goal.at.fill-requires c).Else-not-is_sized) in (refl, z.2, omega arith, z.0)

pub returns : goal.returns
returns c =
    let well = c.args.well in
    λ m e. survey_filled _ _ _ _ well (survey_done m _ _ well (size (goal.at.returns c).Else-not-is_sized) (omega arith) e) c.fill.ensures
