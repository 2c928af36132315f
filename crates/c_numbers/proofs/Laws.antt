-- Any two outcomes that a function on Luhn, card numbers and check pairs allows are equal: the number answered, what stands behind its pointers,
-- and each byte that it may write.
use Prim.Native.Nat.{ℕ}
use mathlib.Core.Path.{◌≡◌, sym, ◌∙◌}
use mathlib.Core.List.{List}
use Rattle.hands.proofs.Laws.{hands_one}
use Rattle.c_numbers.specs.Calls.{LuhnTests, LuhnMakes, PanMasks, RangeFinds, HotFinds, IbanTests, IbanMakes, CreditorTests, CreditorMakes}

-- luhn_test
pub luhn_test_one : (text : List ℕ) (r q : ℕ) → LuhnTests text r → LuhnTests text q → r ≡ q
luhn_test_one text r q f g = f ∙ sym g

-- luhn_make
pub luhn_make_one : (body : List ℕ) (x r q y z : ℕ) → LuhnMakes body x r y → LuhnMakes body x q z → (r ≡ q) × (y ≡ z)
luhn_make_one body x r q y z f g = hands_one f g

-- pan_mask
pub pan_mask_one : (pan out : List ℕ) (r q : ℕ) (k l : List ℕ) → PanMasks pan out r k → PanMasks pan out q l → (r ≡ q) × (k ≡ l)
pan_mask_one pan out r q k l f g = (f.0 ∙ sym g.0, f.1 ∙ sym g.1)

-- range_find
pub range_find_one : (site acquirer pan : List ℕ) (x : ℕ × ℕ) (r q : ℕ) (y z : ℕ × ℕ)
    → RangeFinds site acquirer pan x r y → RangeFinds site acquirer pan x q z → (r ≡ q) × (y ≡ z)
range_find_one site acquirer pan x r q y z f g = hands_one f g

-- hot_find
pub hot_find_one : (list : List ℕ) (n : ℕ) (pan : List ℕ) (x r q y z : ℕ) → HotFinds list n pan x r y → HotFinds list n pan x q z → (r ≡ q) × (y ≡ z)
hot_find_one list n pan x r q y z f g = hands_one f g

-- iban_test
pub iban_test_one : (text : List ℕ) (r q : ℕ) → IbanTests text r → IbanTests text q → r ≡ q
iban_test_one text r q f g = f ∙ sym g

-- iban_make
pub iban_make_one : (country body : List ℕ) (x r q y z : ℕ) → IbanMakes country body x r y → IbanMakes country body x q z → (r ≡ q) × (y ≡ z)
iban_make_one country body x r q y z f g = hands_one f g

-- creditor_test
pub creditor_test_one : (text : List ℕ) (r q : ℕ) → CreditorTests text r → CreditorTests text q → r ≡ q
creditor_test_one text r q f g = f ∙ sym g

-- creditor_make
pub creditor_make_one : (body : List ℕ) (x r q y z : ℕ) → CreditorMakes body x r y → CreditorMakes body x q z → (r ≡ q) × (y ≡ z)
creditor_make_one body x r q y z f g = hands_one f g
