use Rattle.std.proofs.Common.{rules}
use mathlib.Core.Bool.{Bool, false, false≢true}
use mathlib.Core.List.{List}
use mathlib.Core.Path.{◌≡◌, sym, subst, ◌∙◌}
use Prim.Native.Nat.{ℕ}
use native.Mathlib.Omega.{arith}
use lib.ListN.{length}
use Rattle.query.specs.Steps.{Step}
use Rattle.select.proofs.PileBoundPassed.{Passed, passed_none, passed_step, passed_mixed, passed_all_plain, passed_all_deep}
use Rattle.bound.proofs.frames_of.Goals as goal

-- all steps are passed
passed-all : {count i : ℕ} {found b : Bool} (q : List Step) → i ≡ count → count ≡ length q → found ≡ b → Passed q i found → Passed q (length q) b
passed-all q e e' f p = rw (← f, ← e', ← e) p

pub loop-i-init : goal.loop-i-init
loop-i-init c = record { some = λ e. absurd (false≢true e); passed = λ q h. passed_none q }

pub returns-then-not-next : goal.returns-then-not-next
returns-then-not-next c =
    let i = c.loop-i.i in
    λ q h.
    let plain : c.has-next.result ≡ false = search rules in
    sym
    (passed_mixed q i (omega (arith, h.number))
    (subst (Passed q i) c.if-found.true (c.loop-i.invariant.passed q h))
    (sym (h.deep i) ∙ sym c.has-next.ensures ∙ plain))

pub loop-i-preserved : goal.loop-i-preserved
loop-i-preserved c =
    let i = c.loop-i.i in
    let found = c.loop-i.found in
    let deep = c.has-next.result in
    record {
      some = λ e. omega arith;
      passed = λ q h.
          passed_step q i (omega (arith, h.number)) found deep
          (c.loop-i.invariant.passed q h)
          (sym (h.deep i) ∙ sym c.has-next.ensures)
          (λ e. elim c.else-found.branch [
            | goal.else-found-via-then-found+else-not-next x ↦ search rules
            | goal.else-found-via-else-found x ↦ absurd (false≢true (sym x.if-found.false ∙ e))
          ]);
    }

pub returns-then-found-2 : goal.returns-then-found-2
returns-then-found-2 c =
    let all : c.loop-i.i ≡ c.args.count = omega arith in
    λ q h. rw h.number (sym (passed_all_deep q (passed-all q all h.number c.if-found-2.true (c.loop-i.invariant.passed q h))))

pub returns : goal.returns
returns c =
    let all : c.loop-i.i ≡ c.args.count = omega arith in
    λ q h. rw h.number (sym (passed_all_plain q (passed-all q all h.number c.if-found-2.false (c.loop-i.invariant.passed q h))))
