-- The hot list: blocked cards as numbers, and whether a card is among them (request E8).
use Rattle.std.specs.Prelude.{ℕ, ◌^◌, ◌<◌, ◌≡◌, Bool, true, false, ◌&&◌, ◌||◌, List, [], ◌∷◌, leb, ltb, eqb, length, get_or}
use Rattle.text.specs.Bytes.{every, all_digits}
use Rattle.text.specs.Numbers.{decimal}
use Rattle.reasons.specs.Reasons.{Outcome, gives, demand}
use Rattle.pan.specs.Pan.{pan_length}

-- "rising strictly": each number is below the next
unfoldable pub rises : List ℕ → Bool
rises [] = true
rises (x ∷ []) = true
rises (x ∷ y ∷ s) = ltb x y && rises (y ∷ s)

-- a list with its PAN length: "rising strictly, at most 8,192", a length from 13 to 19, and no number too large for it
unfoldable pub list_ok : List ℕ → ℕ → Bool
list_ok s n = leb (length s) 8192 && (pan_length n && (rises s && every (λ x. ltb x (10 ^ n)) s))

-- x stands in the list
unfoldable pub stands : ℕ → List ℕ → Bool
stands x [] = false
stands x (y ∷ s) = eqb x y || stands x s

-- "A PAN is listed exactly when it has that length and its number stands in the list"
unfoldable pub listed : List ℕ → ℕ → List ℕ → Bool
listed s n pan = eqb (length pan) n && stands (decimal pan) s

-- "Asked alone, the order is 21, 2, 3, then yes or no"
unfoldable pub hot_rule : List ℕ → ℕ → List ℕ → Outcome Bool
hot_rule s n pan =
    demand (list_ok s n) 21
    (demand (pan_length (length pan)) 2
    (demand (all_digits pan) 3
    (gives (listed s n pan))))

-- x has a place in the list: what the laws say of `stands`
pub record Place (x : ℕ) (s : List ℕ) : Type 0 where
  pub at : ℕ
  pub inside : at < length s
  pub there : get_or s at 0 ≡ x
