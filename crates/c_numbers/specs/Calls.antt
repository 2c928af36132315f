-- What each function on Luhn, card numbers and check pairs allows, in the header's order.
use Rattle.std.specs.Prelude.{ℕ, ◌≡◌, List, length}
use Rattle.luhn.specs.Luhn as luhn
use Rattle.pan.specs.Pan.{mask_rule, mask_bytes}
use Rattle.ranges.specs.Ranges.{range_rule}
use Rattle.hotlist.specs.Hotlist.{hot_rule}
use Rattle.creditor.specs.Creditor as creditor
use Rattle.iban.specs.Iban as iban
use Rattle.c_numbers.specs.Values.{table_of, offset_of, yes_or_no}
use Rattle.hands.specs.Hands.{Answers, Hands}

-- ---- Luhn

abbrev pub LuhnTests : List ℕ → ℕ → Type 0
LuhnTests text r = Answers (luhn.luhn_rule text) r

abbrev pub LuhnMakes : List ℕ → ℕ → ℕ → ℕ → Type 0
LuhnMakes body x r y = Hands (luhn.make_rule body) x (λ v. v) r y

-- ---- card numbers

abbrev pub PanMasks : List ℕ → List ℕ → ℕ → List ℕ → Type 0
PanMasks pan out r k = Answers (mask_rule pan (length out)) r × (k ≡ mask_bytes pan out)

abbrev pub RangeFinds : List ℕ → List ℕ → List ℕ → ℕ × ℕ → ℕ → ℕ × ℕ → Type 0
RangeFinds site acquirer pan x r y = Hands (range_rule site acquirer pan) x (λ p. (table_of p, offset_of p)) r y

abbrev pub HotFinds : List ℕ → ℕ → List ℕ → ℕ → ℕ → ℕ → Type 0
HotFinds list n pan x r y = Hands (hot_rule list n pan) x yes_or_no r y

-- ---- check pairs

abbrev pub IbanTests : List ℕ → ℕ → Type 0
IbanTests text r = Answers (iban.iban_rule text) r

abbrev pub IbanMakes : List ℕ → List ℕ → ℕ → ℕ → ℕ → Type 0
IbanMakes country body x r y = Hands (iban.make_rule country body) x (λ v. v) r y

abbrev pub CreditorTests : List ℕ → ℕ → Type 0
CreditorTests text r = Answers (creditor.creditor_rule text) r

abbrev pub CreditorMakes : List ℕ → ℕ → ℕ → ℕ → Type 0
CreditorMakes body x r y = Hands (creditor.make_rule body) x (λ v. v) r y
