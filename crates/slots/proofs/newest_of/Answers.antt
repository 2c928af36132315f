use Rattle.std.proofs.Common.{◌≡◌, ◌*◌, ◌≤◌, length, sym, ◌∙◌}
use Rattle.slots.specs.Journal.{slots_of, Formed}
use Rattle.slots.proofs.Form.{is_sized, not-sized, formed_top}
use Rattle.slots.proofs.newest_of.Goals as goal
use Rattle.slots.proofs.newest_of.Goals.{Else-not-is_sized, After-highest-b}

size : (c : Else-not-is_sized) → (length c.args.j.now ≡ 32 * slots_of c.args.j.now) × (1 ≤ slots_of c.args.j.now) × (slots_of c.args.j.now ≤ 2048)
size c = is_sized _ (sym c.is_sized.ensures ∙ c.if-not-is_sized.false)

-- a newest serial can only be the highest
top : (c : After-highest-b) → (n b : _) → Formed c.args.j.now n b → Formed c.args.j.now (slots_of c.args.j.now) c.highest-b.result
top c n b f =
    let t = c.highest-b.ensures in
    formed_top _ _ _ (size (goal.at.After-highest-b c).Else-not-is_sized).0 t.above t.least n b f

pub returns-then-not-is_sized : goal.returns-then-not-is_sized
returns-then-not-is_sized c = not-sized _ (sym c.is_sized.ensures ∙ c.if-not-is_sized.true)

pub stands-requires : goal.stands-requires
stands-requires c = let z = size (goal.at.stands-requires c).Else-not-is_sized in (z.1, z.2, z.0)

pub rest_zero-requires : goal.rest_zero-requires
rest_zero-requires c = let z = size (goal.at.rest_zero-requires c).Else-not-is_sized in (z.1, z.2, z.0)

pub returns-then-not-stands : goal.returns-then-not-stands
returns-then-not-stands c =
    λ n b f. let g = top (goal.at.returns-then-not-stands c).After-highest-b n b f in c.stands.ensures.1 c.if-not-stands.true (g.stands, g.order)

pub returns-then-not-rest_zero : goal.returns-then-not-rest_zero
returns-then-not-rest_zero c =
    λ n b f. c.rest_zero.ensures.1 c.if-not-rest_zero.true (top (goal.at.returns-then-not-rest_zero c).After-highest-b n b f).rest

pub returns : goal.returns
returns c =
    let z = size (goal.at.returns c).Else-not-is_sized in
    let st = c.stands.ensures.0 c.if-not-stands.false in
    record { size = z.0; least = z.1; most = z.2; stands = st.0; rest = c.rest_zero.ensures.0 c.if-not-rest_zero.false; order = st.1 }
