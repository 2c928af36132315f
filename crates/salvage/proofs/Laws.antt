-- What a salvage promises of the whole, over any bytes of a journal's length.
use Prim.Native.Nat.{ℕ, ◌≤◌, ◌<◌, ◌+◌, ◌*◌, ◌/◌}
use mathlib.Core.Path.{◌≡◌, sym, ap, ◌∙◌, subst}
use mathlib.Core.Bool.{true}
use mathlib.Core.List.{List}
use native.Mathlib.Omega.{arith}
use lib.ListN.{length}
use Rattle.text.specs.Numbers.{put}
use Rattle.text.proofs.Put.{length_put}
use Rattle.std.proofs.Common.{Result, Some}
use Rattle.reasons.specs.Reasons.{gives, and_then, said}
use Rattle.reasons.specs.declared.Reason.{Reason}
use Rattle.reasons.proofs.Laws.{passed, said_one}
use Rattle.slots.specs.Journal.{slots_of, sized, Formed, NewestIs}
use Rattle.slots.proofs.Form.{is_sized}
use Rattle.remains.proofs.Rule.{look_says}
use Rattle.remains.proofs.Laws.{others_stay}
use Rattle.salvage.specs.Whole.{newest_of, oldest_of, agree_rule, due, verdict_of, verdict_at, judge_rule}
use Rattle.salvage.specs.declared.Agreed.{Agreed}
use Rattle.salvage.specs.declared.Verdict.{Verdict}
use Rattle.salvage.specs.declared.Verdict.TheVariants as verdict
use Rattle.salvage.proofs.Rule.{agree_on}
use Rattle.salvage.proofs.Forms.{fine_formed, formed_fine, newest_is}

-- whatever is done to one slot, the verdict on every other slot stays as it was, for the same newest and oldest held serial
pub verdicts_stay : (j vs : List ℕ) (i k b h : ℕ) → length vs ≡ 32 → 32 * i + 32 ≤ length j → (i ≡ k → ⊥)
    → judge_rule (put j (32 * i) vs) k b h ≡ judge_rule j k b h
verdicts_stay j vs i k b h e l ne =
    let n = length_put j vs (32 * i) (omega arith) in
    let o = others_stay j vs i k e l ne in
    λ x. and_then (o x) (λ s. gives (verdict_of s (due (n x / 32) b k) h))

-- ---- the whole

module _ (j : List ℕ) (b h : ℕ) (agree : gives (record { newest = b; oldest = h }) ≡ agree_rule j) where
  size : sized (length j) ≡ true
  unfolding agree_rule
  size = (passed (sized (length j)) 16 _ (record { newest = b; oldest = h }) (sym agree)).0

  both : ◌≡◌ {A = Agreed} (record { newest = b; oldest = h }) (record { newest = newest_of j; oldest = oldest_of j (newest_of j) })
  both = let e = agree ∙ sym (agree_on j size) in cc

  judged_says : (k : ℕ) → k < slots_of j → judge_rule j k b h ≡ gives (verdict_at j b h k)
  judged_says k l = sym (ap (λ o. and_then o (λ s. gives (verdict_of s (due (slots_of j) b k) h))) (look_says j k size l))

  -- a reason is told exactly where the journal isn't well formed: where every slot is fine it is, and b is its newest serial,
  pub fine_well : ((k : ℕ) → k < slots_of j → judge_rule j k b h ≡ gives verdict.Fine) → NewestIs j (Some b)
  fine_well all =
      let e : b ≡ newest_of j = ap (λ (a : Agreed). a.newest) both in
      let f : h ≡ oldest_of j b = ap (λ (a : Agreed). a.oldest) both ∙ sym (ap (oldest_of j) e) in
      fine_formed j size b (λ k l. let g = sym (judged_says k l) ∙ all k l in sym (ap (λ (o : ℕ). verdict_at j b o k) f) ∙ cc g)

  -- and where it is, every slot is fine
  pub well_fine : (n c : ℕ) → Formed j n c → (k : ℕ) → k < slots_of j → judge_rule j k b h ≡ gives verdict.Fine
  well_fine n c f k l =
      let z = is_sized (length j) size in
      let s = f.size in
      let w : Formed j (slots_of j) c = subst (λ (m : ℕ). Formed j m c) (omega arith) f in
      let e : b ≡ c = ap (λ (a : Agreed). a.newest) both ∙ newest_is j c w in
      let g : h ≡ oldest_of j c = ap (λ (a : Agreed). a.oldest) both ∙ ap (oldest_of j) (newest_is j c w) in
      judged_says k l ∙ (λ x. gives (verdict_at j (e x) (g x) k)) ∙ ap gives (formed_fine j c w k l)

-- ---- one outcome

-- agree and judge: any two outcomes that the promise allows are equal
pub one_agree : (j : List ℕ) (r q : Result Agreed Reason) → said r ≡ agree_rule j → said q ≡ agree_rule j → r ≡ q
one_agree j r q a b = said_one r q (a ∙ sym b)

pub one_judge : (j : List ℕ) (k b h : ℕ) (r q : Result Verdict Reason) → said r ≡ judge_rule j k b h → said q ≡ judge_rule j k b h → r ≡ q
one_judge j k b h r q u v = said_one r q (u ∙ sym v)
