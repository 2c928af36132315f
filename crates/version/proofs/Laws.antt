-- The version is one.
use Prim.Native.Nat.{ℕ}
use mathlib.Core.Path.{◌≡◌, sym, ◌∙◌}
use Rattle.version.specs.Version.{VersionIs}

pub version_one : (r q : ℕ) → VersionIs r → VersionIs q → r ≡ q
version_one r q f g = f ∙ sym g
