-- What a reader of bytes says of its place, where its dead byte is the refusal of the record: `map_err(wrong)`. Assumes nothing.
use Rattle.std.specs.Prelude.{◌≡◌, Bool, true, false, ℕ, Result, Ok, Err}
use Rattle.std.proofs.Common.{subst}
use Rattle.std.specs.Result.{MatchResult, IsErrAnd}
use Rattle.encoding.specs.Reads.{Reads}
use Rattle.encoding.specs.declared.Dead.{Dead}
use Rattle.encoding.specs.declared.refusals.Ground.TheVariants.{RecordWrong}
use Rattle.encoding.specs.declared.refusals.Refusal.{Refusal}

-- the refusal of a dead byte
abbrev pub dead_byte : Dead → Refusal
dead_byte dead = record { ground = RecordWrong; place = dead.at }

-- the place stays, and the dead byte is refused
abbrev Refuses : Result ℕ Dead → Result ℕ Refusal → Type 0
Refuses read r = MatchResult read (λ end. r ≡ Ok end) (λ dead. IsErrAnd r (λ f. f ≡ dead_byte dead))

module _ (P : Bool → ℕ → Type 0) (read : Result ℕ Dead) where
  pub read_to : {end : ℕ} → Reads P read → Refuses read (Ok end) → P true end
  read_to p m = by read p m
    where
      by : {end : ℕ} (read : Result ℕ Dead) → Reads P read → Refuses read (Ok end) → P true end
      by (Ok x) p e = let same : x ≡ _ = cc in subst (P true) same p
      by (Err d) p m = absurd m

  pub read_dead : {f : Refusal} → Reads P read → Refuses read (Err f) → (dead : Dead) × (f ≡ dead_byte dead) × P false dead.at
  read_dead p m = by read p m
    where
      by : {f : Refusal} (read : Result ℕ Dead) → Reads P read → Refuses read (Err f) → (dead : Dead) × (f ≡ dead_byte dead) × P false dead.at
      by (Ok x) p e = absurd (cc)
      by (Err d) p e = (d, e, p)
