-- A selector whose test holds hits. Assumes nothing.
use Rattle.std.specs.Prelude.{◌≡◌, refl, ◌↔◌, true}
use Rattle.std.proofs.lemmas.Bool.{false≢true}
use Rattle.std.proofs.Common.{eqb-true, eq-eqb}
use Rattle.encoding.specs.BytesLaws.{same_numbers_lem}
use Rattle.query.specs.Steps.{Selector, name, every, position}
use Rattle.select.specs.Nodes.{Label, member, element}
use Rattle.select.specs.Picked.{Hits}
use Rattle.select.specs.Ways.{hits}

pub hits_is : (sel : Selector) (l : Label) → Hits sel l ↔ (hits sel l ≡ true)
unfolding hits
hits_is every l = (λ h. refl, λ e. tt)
hits_is (name k) (member k') = let h = same_numbers_lem k k' in (h.1, h.0)
hits_is (name k) (element j) = (absurd, false≢true)
hits_is (position j) (member k) = (absurd, false≢true)
hits_is (position j) (element j') = (eq-eqb j j', eqb-true j j')
