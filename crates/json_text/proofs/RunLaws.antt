-- The machine lives on exactly the bytes with which some text begins that has room: every state but `dead` can be completed, and from
-- `dead` nothing is accepted. Assumes nothing.
use Rattle.std.specs.Prelude.{◌≡◌, refl, List, [], ◌∷◌, ◌++◌, ℕ, suc, ◌<◌, take, length, get_or}
use Rattle.std.proofs.Common.{ap, ◌∙◌, take-suc}
use Rattle.encoding.specs.Prefix.{Alive}
use Rattle.json_text.specs.Room.{Room}
use Rattle.json_text.specs.RoomLaws.{Texts}
use Rattle.json_text.specs.Machine.{Ctl, Stack, State, dead, at, step, run, start}
use Rattle.json_text.proofs.Sound.{sound}
use Rattle.json_text.proofs.Complete.{complete, viable, dead_accepts}

pub run-append : (st : State) (p u : List ℕ) → run st (p ++ u) ≡ run (run st p) u
unfolding run
run-append st [] u = refl
run-append st (b ∷ p) u = run-append (step st b) p u

pub run_more : (st : State) (s : List ℕ) (i : ℕ) → i < length s → run st (take (suc i) s) ≡ step (run st (take i s)) (get_or s i 0)
unfolding run
run_more st s i h = ap (run st) (take-suc s i 0 h) ∙ run-append st (take i s) (get_or s i 0 ∷ [])

pub alive_run : (ρ : Room) (p : List ℕ) (c : Ctl) (k : Stack) (σ : Room) → run (start ρ) p ≡ at c k σ → Alive (Texts ρ) p
unfolding Alive
alive_run ρ p c k σ e = let r = viable c k σ in (r.0, sound ρ (p ++ r.0) (rw (run-append, e) r.1))

pub dead_run_alive : (ρ : Room) (p : List ℕ) → run (start ρ) p ≡ dead → Alive (Texts ρ) p → ⊥
unfolding Alive
dead_run_alive ρ p e (u, t) = dead_accepts u (rw (run-append, e) at (complete ρ (p ++ u) t))
