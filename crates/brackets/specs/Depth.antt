-- Brackets that are open, place by place: an opening one is one more and a closing one is one less (document 01, "Words of 64 bits", words three and four).
use Rattle.std.specs.Prelude.{Bool, true, false, ℕ, zero, suc}

-- how many are open after a place, where n are before it; once none is, that stays so
unfoldable pub after_place : (opens closes : Bool) → ℕ → ℕ
after_place o c zero = zero
after_place true c (suc n) = suc (suc n)
after_place false true (suc n) = n
after_place false false (suc n) = suc n

-- how many are open before place i, where n are before place 0
unfoldable pub depth_at : (opens closes : ℕ → Bool) → (n i : ℕ) → ℕ
unfolding after_place
depth_at f g n zero = n
depth_at f g n (suc i) = after_place (f i) (g i) (depth_at f g n i)
