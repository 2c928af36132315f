-- The version of the C interface.
use Rattle.std.specs.Prelude.{ℕ, ◌≡◌}

abbrev pub VersionIs : ℕ → Type 0
VersionIs r = r ≡ 7
