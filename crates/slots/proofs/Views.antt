-- A journal has one view: the law by which each promise determines its outcome.
use Rattle.std.proofs.Common.{Option, Some, None}
use Prim.Native.Nat.{ℕ}
use mathlib.Core.Path.{◌≡◌, refl, ap, subst}
use mathlib.Core.List.{List}
use Rattle.slots.specs.Journal.{slots_of, Formed, NewestIs}
use Rattle.slots.specs.Views.{Seen}
use Rattle.slots.proofs.Form.{formed_one}

-- exactly one view fits each journal
pub view_one : (j : List ℕ) (m p : Option ℕ) → NewestIs j m → NewestIs j p → m ≡ p
view_one j None None f g = refl
view_one j None (Some c) f g = absurd (f _ c g)
view_one j (Some b) None f g = absurd (g _ b f)
view_one j (Some b) (Some c) f g = ap Some (formed_one j (slots_of j) b c f g)

-- two promises about one journal speak of one view
pub one_view : {P Q : Option ℕ → Type 0} (j : List ℕ) → Seen j P → Seen j Q → (m : Option ℕ) × P m × Q m
one_view {P} {Q} j p q = (p.view, p.so, subst Q (view_one j q.view p.view q.is p.is) q.so)

-- what was answered for the view that the scan gave
pub seen : {P : Option ℕ → Type 0} (j : List ℕ) (r m : Option ℕ) → NewestIs j r → r ≡ m → P m → Seen j P
seen j r m i e p = record { view = m; is = subst (NewestIs j) e i; so = p }

pub seen_so : {P Q : Option ℕ → Type 0} (j : List ℕ) → Seen j P → ((m : Option ℕ) → P m → Q m) → Seen j Q
seen_so j w f = record { view = w.view; is = w.is; so = f w.view w.so }

-- what is promised of a journal whose newest serial is known
pub known : {P : Option ℕ → Type 0} (j : List ℕ) (b : ℕ) → Formed j (slots_of j) b → Seen j P → P (Some b)
known {P} j b f w = subst P (view_one j w.view (Some b) w.is f) w.so
