use Prim.Native.Nat.{ℕ, ◌%◌}
use mathlib.Core.Path.{refl, sym, ap, ◌∙◌}
use native.Mathlib.Omega.{arith}
use native.Mathlib.Numerals.{add-one}
use Rattle.mod97.proofs.Laws.{number_turn, number_end}
use Rattle.mod97.proofs.inner.read_after.Goals as goal

pub loop-b-init : goal.loop-b-init
loop-b-init c = refl

pub loop-b-preserved : goal.loop-b-preserved
loop-b-preserved c =
    let room = c.with_room in
    let l = c.loop-b in
    let s = c.args.s.now in
    rw (c.written_after-v.ensures, add-one) (number_turn s l.b-index l.v room.result (omega arith) room.ensures.0 ∙ l.invariant)

pub returns : goal.returns
returns c =
    let l = c.loop-b in
    let s = c.args.s.now in
    ap (λ (m : ℕ). m % 97) (sym (number_end s l.b-index l.v (omega arith))) ∙ l.invariant
