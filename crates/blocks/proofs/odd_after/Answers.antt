-- Each byte of the fold turns the run over or ends it. Assumes nothing.
use Rattle.std.proofs.Common.{◌≡◌, ℕ, Bool, not, ◌&&◌, eqb, List, [], ◌∷◌, ◌++◌, length, ap, ap₂, subst, sym, refl, ◌∙◌, add-one, rules, arith}
use Rattle.std.proofs.Math.ListN.{get_or-append}
use Rattle.std.proofs.Math.Seq.{get_or-append_seam}
use Rattle.std.proofs.lemmas.List.{length_push}
use Rattle.std.proofs.lemmas.Fn.{fold_over, slice_gives, fronts}
use Rattle.classifier.specs.Classes.{byte_at, is_backslash}
use Rattle.blocks.specs.Laws.{odd_same}
use Rattle.blocks.specs.Words.{odd_before}
use Rattle.blocks.proofs.odd_after.Goals as goal

-- one byte more
run_more : (odd : Bool) (s : List ℕ) (b : ℕ) (run : Bool) → run ≡ odd_before odd s (length s)
    → (eqb b 0x5C && not run) ≡ odd_before odd (s ++ b ∷ []) (length (s ++ b ∷ []))
unfolding odd_before is_backslash byte_at
run_more odd s b run e =
    let before : odd_before odd s (length s) ≡ odd_before odd (s ++ b ∷ []) (length s) =
    odd_same s (s ++ b ∷ []) (length s) (λ j h. sym (get_or-append s (b ∷ []) 0 j h)) odd odd (length s) (omega arith) in
    let last : b ≡ byte_at (s ++ b ∷ []) (length s) = sym (get_or-append_seam s b [] 0) in
    ap₂ (λ (x : ℕ) (y : Bool). eqb x 0x5C && not y) last (e ∙ before) ∙ ap (odd_before odd (s ++ b ∷ [])) (sym (add-one (length s)) ∙ sym (length_push s b))

pub returns : goal.returns
unfolding odd_before
returns c =
    let odd = c.args.odd in
    subst (λ (s : List ℕ). c.fold.result ≡ odd_before odd s (length s)) c.iter.ensures.rest
    (fold_over fronts (λ y. y.now) _ (λ s run. run ≡ odd_before odd s (length s)) _
    (λ s run y next f' e called. (let h : next ≡ (eqb y.now 0x5C && not run) = search rules in h ∙ run_more odd s y.now run e, search rules))
    _ _ _ _ (slice_gives c.iter.result) refl c.fold.ensures.ran)
