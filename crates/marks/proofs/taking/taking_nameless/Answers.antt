-- Where no step with a name has a mark, a step takes a member by `*` alone. Assumes nothing.
use Rattle.marks.proofs.NextMarks.{member_every}
use Rattle.marks.proofs.taking.taking_nameless.Goals as goal

pub returns : goal.returns
returns c = λ names operands points. member_every names _ operands _ points c.requires
