use Prim.Native.Nat.{ℕ, ◌+◌}
use lib.ListN.{set, length-set}
use mathlib.Core.Path.{sym, ap, ◌∙◌}
use native.Mathlib.Nat.{zero-add}
use native.Mathlib.Omega.{arith}
use Rattle.numerals.proofs.Pairs.{bytes_length}
use Rattle.numerals.specs.Numbers.{bytes_in}
use Rattle.text.proofs.Put.{copy_step, copy_done}
use Rattle.numerals.proofs.write_bytes.Goals as goal

pub loop-k-preserved : goal.loop-k-preserved
loop-k-preserved c =
    let s = bytes_in c.args.w.now in
    let n = bytes_length c.args.w.now in
    let l = c.loop-k in (
      ap (λ (m : ℕ). set l.out m c.pair_at.result) (sym (zero-add l.k)) ∙ ap (set l.out (0 + l.k)) c.pair_at.ensures
          ∙ copy_step c.args.out.now l.out s 0 l.k l.invariant.0 (omega arith) (omega arith),
      simp length-set l.invariant.1,
    )

pub returns : goal.returns
returns c =
    let n = bytes_length c.args.w.now in
    copy_done _ _ _ _ c.loop-k.k c.loop-k.invariant.0 (omega arith) (omega arith)
