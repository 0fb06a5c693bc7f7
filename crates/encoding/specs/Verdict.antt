-- A ground and its place (document 01, "Grounds for refusing").
use Rattle.std.specs.Prelude.{ℕ}

-- ground 0 and place 0 where nothing is refused
pub record Verdict : Type 0 where
  pub ground : ℕ
  pub place : ℕ

abbrev pub taken : Verdict
taken = record { ground = 0; place = 0 }

abbrev pub refused : (ground place : ℕ) → Verdict
refused g p = record { ground = g; place = p }
